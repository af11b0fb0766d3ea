-- `solver::solve` meets its contract: the weights of the gene trees, and what is chosen from them.
use Prim.Native.Nat.{◌^◌}
use mathlib.Core.Path.{◌≡◌, ◌∙◌}
use lib.ListN.{length}
use Rattle.solver.proofs.Solving.{part-sized, all_fits, all_lent, weights_fillable, weights_solve, checked-lent}
use Rattle.solver.proofs.solve.Goals.{After-fill}
use Rattle.solver.proofs.solve.Goals as goal

-- behind the weights the part of the split table that was lent is as long as it was
work_length : (c : After-fill) → let n = c.args.n in length c.fill.new.lost ≡ 2 ^ n
work_length c =
    let is = c.single-entries.ensures in
    c.fill.auto.lost ∙ part-sized c.args.n is c.args.splits.now c.requires.splits_long

pub slice_bounds-fill-end : goal.slice_bounds-fill-end
slice_bounds-fill-end c =
    all_fits c.args.n c.single-entries.ensures c.args.scores.now c.requires.scores_long

pub slice_bounds-fill-end-2 : goal.slice_bounds-fill-end-2
slice_bounds-fill-end-2 c =
    all_lent c.args.n c.single-entries.ensures c.args.scores.now c.requires.scores_long

pub slice_bounds-fill-end-3 : goal.slice_bounds-fill-end-3
slice_bounds-fill-end-3 c =
    all_fits c.args.n c.single-entries.ensures c.args.splits.now c.requires.splits_long

pub slice_bounds-fill-end-4 : goal.slice_bounds-fill-end-4
slice_bounds-fill-end-4 c =
    all_lent c.args.n c.single-entries.ensures c.args.splits.now c.requires.splits_long

pub fill-requires : goal.fill-requires
fill-requires c =
    let is = c.single-entries.ensures in record {
      weighable = c.requires.weighable;
      sums_len = part-sized c.args.n is c.args.scores.now c.requires.scores_long;
      lost_len = part-sized c.args.n is c.args.splits.now c.requires.splits_long;
    }

pub choose-requires : goal.choose-requires
choose-requires c =
    weights_fillable (checked-lent c.requires) c.single-entries.ensures c.fill.new.lost c.fill.ensures (work_length (goal.at.choose-requires c).After-fill)

pub returns : goal.returns
returns c =
    weights_solve (checked-lent c.requires) c.single-entries.ensures c.fill.new.lost c.fill.ensures (work_length (goal.at.returns c).After-fill)
    c.choose.ensures
