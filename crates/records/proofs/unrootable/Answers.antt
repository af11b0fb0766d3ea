-- `records::unrootable` meets its contract: the test by counting tells what the definition says.
use Prim.Native.Nat.{ℕ, ◌+◌, ◌-◌, ◌*◌}
use mathlib.Core.Path.{◌≡◌, subst}
use mathlib.Core.Logic.{inl, inr, ⊎_elim}
use native.Mathlib.Omega.{arith}
use lib.ListN.{get_or, take, drop}
use Rattle.clusters.specs.Sets.{whole}
use Rattle.trees.specs.Decides.{Decides}
use Rattle.trees.specs.Lists.{Among}
use Rattle.trees.specs.Records.{count}
use Rattle.trees.proofs.ValidTest.{reply_is_test}
use Rattle.trees.proofs.MayUnroot.{may_unroot_counted, next_le}
use Rattle.records.proofs.Deciding.{decides_unless}
use Rattle.records.proofs.unrootable.Goals as goal

pub returns-then-m-n : goal.returns-then-m-n
returns-then-m-n c =
    let counted = rw c.widened-g.ensures at c.if-m-n.true in
    reply_is_test _ (may_unroot_counted c.requires.n_bound c.requires.gene_valid) (inl counted)

pub overflow_sub-rest-then-m-n-2 : goal.overflow_sub-rest-then-m-n-2
overflow_sub-rest-then-m-n-2 c =
    rw c.widened-g.ensures (omega (arith, next_le c.requires.gene_valid, c.whole.ensures))

pub returns-then-m-n-2 : goal.returns-then-m-n-2
returns-then-m-n-2 c =
    let halved = rw (c.whole.ensures, c.widened-g.ensures) at c.among.ensures in
    let m = count c.args.g.now in
    let rest = whole c.args.n - get_or c.args.g.now (m - 1) 0 in
    let all : m + 1 - 1 ≡ m = omega arith in
    let lacks-one : m + 2 ≡ 2 * c.args.n = rw c.widened-g.ensures at c.if-m-n-2.true in
    reply_is_test _ (may_unroot_counted c.requires.n_bound c.requires.gene_valid)
    (decides_unless c.among.result (λ none. inr (lacks-one, none)) (⊎_elim (λ e. absurd (omega arith)) (λ k. k.1)) (subst (λ (k : ℕ). Decides c.among.result (Among rest (take k (drop 1 c.args.g.now)))) all halved))

pub returns : goal.returns
returns c =
    let many = rw c.widened-g.ensures at c.if-m-n.false in
    let more = rw c.widened-g.ensures at c.if-m-n-2.false in
    reply_is_test _ (may_unroot_counted c.requires.n_bound c.requires.gene_valid) (⊎_elim (λ e. omega arith) (λ k. let e = k.0 in omega arith))
