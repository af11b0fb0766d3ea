use Rattle.gather.proofs.Gathering.{left_begins, left_done, left_full, left_stops, left_goes}
use Rattle.gather.proofs.gather.Goals as goal

pub loop-at-init : goal.loop-at-init
loop-at-init c =
    left_begins c.requires c.blanks-at.ensures

pub returns-then-count-eq512 : goal.returns-then-count-eq512
returns-then-count-eq512 c =
    left_full c.loop-at.invariant c.loop-at-test.true c.if-count-eq512.true c.at.ensures

pub returns-in-Err : goal.returns-in-Err
returns-in-Err c =
    rw c.at-in-Err.ensures (left_stops c.loop-at.invariant c.loop-at-test.true c.if-count-eq512.false _ c.in-Err.ensures)

pub loop-at-preserved : goal.loop-at-preserved
loop-at-preserved c =
    left_goes c.loop-at.invariant c.loop-at-test.true c.if-count-eq512.false c.in-Ok.drawn c.in-Ok.ensures
    c.put.ensures.0 c.put.ensures.1 c.blanks-at-in-loop-at.ensures

pub returns : goal.returns
returns c =
    left_done c.loop-at.invariant c.loop-at-test.false
