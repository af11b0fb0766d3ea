-- `solver::choose` meets its contract: both tables, and the tree that they choose.
use Prim.Native.Nat.{◌+◌, ◌≤◌}
use mathlib.Core.Path.{refl}
use native.Mathlib.Omega.{arith}
use lib.ListN.{length}
use Rattle.clusters.proofs.Sets.{whole_below}
use Rattle.tables.proofs.Reached.{entries_few}
use Rattle.solver.proofs.Choosing.{fills_both, held-filled, solves_none, solves_chooses, solves-found}
use Rattle.solver.proofs.choose.Goals.{After-whole-all}
use Rattle.solver.proofs.choose.Goals as goal

-- the whole set has an entry in both tables, and few species
all_entries :
    (c : After-whole-all) → let all = c.whole-all.result in
    (all + 1 ≤ 65536) × (all + 1 ≤ length c.fill.new.scores)
    × (all + 1 ≤ length c.fill.new.splits)
all_entries c =
    let is = c.whole-all.ensures in
    let scores = c.requires.scores_long in
    let splits = c.requires.splits_long in (
      omega (arith, whole_below c.args.n, entries_few c.requires.few),
      omega (arith, whole_below c.args.n, c.fill.auto.scores),
      omega (arith, whole_below c.args.n, c.fill.auto.splits),
    )

pub bounds-scores-all : goal.bounds-scores-all
bounds-scores-all c =
    let fits = (all_entries (goal.at.bounds-scores-all c).After-whole-all).1 in omega (arith, fits)

pub returns-then-score : goal.returns-then-score
returns-then-score c =
    λ w light weights. solves_none (fills_both light weights c.fill.ensures) c.requires.few c.whole-all.ensures (omega arith) c.at.ensures

pub solution-requires : goal.solution-requires
solution-requires c =
    let fits = all_entries (goal.at.solution-requires c).After-whole-all in
    record {
      all_in_bounds = omega (arith, fits.2);
      all_bound = omega (arith, fits.0);
      chooses = solves_chooses (held-filled c.requires c.fill.ensures) c.requires.few c.whole-all.ensures c.if-score.false;
    }

pub returns : goal.returns
returns c =
    λ w light weights.
    solves-found (fills_both light weights c.fill.ensures) c.requires.few c.whole-all.ensures c.if-score.false refl c.solution.ensures
