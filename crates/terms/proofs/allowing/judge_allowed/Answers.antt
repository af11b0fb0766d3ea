-- `terms::allowing::judge_allowed` meets its contract: the place that `position` finds is the definition's.
use Rattle.std.proofs.Common.{◌≡◌, sym, [], ◌∷◌, arith, length-take-le}
use Rattle.clusters.specs.Sets.{single}
use Rattle.roster.specs.Verdict.{verdict}
use Rattle.terms.specs.Allowed.{allowed_test}
use Rattle.terms.proofs.Refusing.{judged}
use Rattle.terms.proofs.allowing.judge_allowed.Goals as goal

pub slice_bounds-first_strange-end : goal.slice_bounds-first_strange-end
unfolding single
slice_bounds-first_strange-end c =
    let entries = c.single-entries.ensures in omega (arith, length-take-le c.single-entries.result c.args.allowed.now (omega arith))

pub returns-in-Some : goal.returns-in-Some
returns-in-Some c =
    let told : verdict (allowed_test c.args.n c.args.allowed.now ∷ []) ≡ record { number = 13; place = c.in-Some.place } =
    rw c.in-Some.is at (judged c.args.n c.args.allowed.now c.requires.allowed_long c.single-entries.ensures c.first_strange.ensures)
    in
    rw c.at.ensures (sym told)

pub returns-in-None : goal.returns-in-None
returns-in-None c =
    let told = rw c.in-None.is at (judged c.args.n c.args.allowed.now c.requires.allowed_long c.single-entries.ensures c.first_strange.ensures) in
    rw told
