-- `records::presence::inside` meets its contract.
use Prim.Native.Nat.{ℕ, ◌≤◌}
use mathlib.Core.Path.{sym, subst}
use mathlib.Core.Bool.{Bool, ◌&&◌}
use borrow.Author.Rules.{rules}
use borrow.Author.Tests.{leb-true, leb-false}
use native.Mathlib.Omega.{arith}
use Rattle.std.proofs.Common.{tests, leb}
use Rattle.std.proofs.lemmas.Iterator.{YieldsList-from_slice}
use Rattle.std.proofs.lemmas.Iterator.Search.{all_from_yields_List}
use Rattle.clusters.specs.Sets.{Within, within}
use Rattle.clusters.proofs.Sets.{within-true, within-false}
use Rattle.trees.specs.Decides.{Decides}
use Rattle.trees.specs.Lists.{Among}
use Rattle.records.proofs.Deciding.{decides_all, decides_both, decides_by}
use Rattle.records.proofs.presence.inside.Goals as goal

pub returns : goal.returns
returns c =
    let l = c.args.clusters.now in
    let told =
    all_from_yields_List (λ a. leb 1 a && within a c.args.s) _ _ c.all.result c.all.ensures.ran (YieldsList-from_slice l cc)
    (λ x b q k. search (rules, tests)) in
    subst (λ (b : Bool). Decides b ((a : ℕ) → Among a l → (1 ≤ a) × Within a c.args.s)) (sym told)
    (decides_all (λ a. (1 ≤ a) × Within a c.args.s) _
    (λ a. decides_both (1 ≤ a) (Within a c.args.s) (leb 1 a) (within a c.args.s) (decides_by (leb 1 a) (leb-true 1 a) (λ no one. let less = leb-false 1 a no in omega arith))
    (decides_by (within a c.args.s) (within-true _ _) (within-false _ _))) l)
