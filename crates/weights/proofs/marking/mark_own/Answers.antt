use Rattle.std.proofs.Common.{◌+◌, arith}
use Rattle.weights.proofs.Checked.{listed_item, listed_over, listed_at, listed_from, first_none}
use Rattle.weights.proofs.Shown.{marked_next, marked_end}
use Rattle.trees.specs.Records.{count}
use Rattle.weights.proofs.marking.mark_own.Goals as goal

pub bounds-out-x : goal.bounds-out-x
bounds-out-x c =
    let form = c.requires.form in
    let at = listed_item c.loop-x.x-index form c.loop-x-test.true in
    let read = at.1 in
    omega (arith, at.0, c.loop-x.invariant.same, c.requires.below _ (listed_at (c.loop-x.x-index + 1) form (omega arith) (omega (arith, at.0))))

pub loop-x-preserved : goal.loop-x-preserved
loop-x-preserved c =
    let form = c.requires.form in
    let at = listed_item c.loop-x.x-index form c.loop-x-test.true in
    rw at.1 (marked_next c.loop-x.invariant (listed_from (c.loop-x.x-index + 1) form (omega arith) (omega (arith, at.0))))

pub returns : goal.returns
returns c =
    let g = c.args.g.now in
    let over = listed_over c.requires.form c.loop-x-test.false in
    marked_end c.loop-x.invariant (first_none g (count g) (c.loop-x.x-index + 1) (omega arith))
