-- `stand::searching::solve_stand` meets its contract: the weights on the stand, and what is chosen from them.
use Prim.Native.Nat.{◌^◌}
use mathlib.Core.Path.{◌≡◌, ◌∙◌}
use native.Mathlib.Omega.{arith}
use lib.ListN.{length}
use Rattle.solver.proofs.Solving.{part-sized, all_fits, all_lent, weights_fillable, weights_solve}
use Rattle.stand.proofs.Finding.{solvable-lent}
use Rattle.stand.proofs.searching.solve_stand.Goals.{After-fill_stand}
use Rattle.stand.proofs.searching.solve_stand.Goals as goal

-- behind the weights the part of the split table that was lent is as long as it was
work_length : (c : After-fill_stand) → let n = c.args.n in length c.fill_stand.new.lost ≡ 2 ^ n
work_length c =
    let is = c.single-entries.ensures in
    c.fill_stand.auto.lost ∙ part-sized c.args.n is c.args.splits.now c.requires.splits_long

pub single-entries-requires : goal.single-entries-requires
single-entries-requires c =
    let few = c.requires.weighable.few_species in omega arith

pub slice_bounds-fill_stand-end : goal.slice_bounds-fill_stand-end
slice_bounds-fill_stand-end c =
    all_fits c.args.n c.single-entries.ensures c.args.scores.now c.requires.scores_long

pub slice_bounds-fill_stand-end-2 : goal.slice_bounds-fill_stand-end-2
slice_bounds-fill_stand-end-2 c =
    all_lent c.args.n c.single-entries.ensures c.args.scores.now c.requires.scores_long

pub slice_bounds-fill_stand-end-3 : goal.slice_bounds-fill_stand-end-3
slice_bounds-fill_stand-end-3 c =
    all_fits c.args.n c.single-entries.ensures c.args.splits.now c.requires.splits_long

pub slice_bounds-fill_stand-end-4 : goal.slice_bounds-fill_stand-end-4
slice_bounds-fill_stand-end-4 c =
    all_lent c.args.n c.single-entries.ensures c.args.splits.now c.requires.splits_long

pub fill_stand-requires : goal.fill_stand-requires
fill_stand-requires c =
    let is = c.single-entries.ensures in record {
      stand_weighable = c.requires.weighable;
      sums_len = part-sized c.args.n is c.args.scores.now c.requires.scores_long;
      lost_len = part-sized c.args.n is c.args.splits.now c.requires.splits_long;
    }

pub choose-requires : goal.choose-requires
choose-requires c =
    let lent = solvable-lent c.requires in
    weights_fillable lent c.single-entries.ensures c.fill_stand.new.lost c.fill_stand.ensures (work_length (goal.at.choose-requires c).After-fill_stand)

pub returns : goal.returns
returns c =
    let lent = solvable-lent c.requires in
    weights_solve lent c.single-entries.ensures c.fill_stand.new.lost c.fill_stand.ensures (work_length (goal.at.returns c).After-fill_stand)
    c.choose.ensures
