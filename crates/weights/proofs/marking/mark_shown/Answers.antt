-- `weights::marking::mark_shown` meets its contract: cleared bytes that are marked are the marks.
use native.Mathlib.Omega.{arith}
use Rattle.weights.proofs.Shown.{cleared-size, markable_more, cleared-marked}
use Rattle.weights.proofs.marking.mark_shown.Goals as goal

pub mark_trees-requires : goal.mark_trees-requires
mark_trees-requires c =
    let size = cleared-size c.args.out.now c.args.entries c.clear.ensures c.requires.entries_in_bounds in
    record {
      count_in_bounds = c.requires.count_in_bounds;
      all_markable = markable_more _ (omega (arith, c.requires.entries_in_bounds)) c.requires.all_markable;
    }

pub returns : goal.returns
returns c =
    cleared-marked _ c.args.entries _ c.args.out.now c.requires.all_markable
    c.clear.ensures c.mark_trees.ensures
