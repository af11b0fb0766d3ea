use Rattle.gather.proofs.Beginnings.{passed_none, passed_more, passed_all}
use Rattle.gather.proofs.place.Goals as goal

pub loop-i-init : goal.loop-i-init
loop-i-init c =
    passed_none c.blanks-at.ensures

pub loop-i-preserved : goal.loop-i-preserved
loop-i-preserved c =
    passed_more c.loop-i.invariant c.read-passed.result c.loop-i-test.true c.read-passed.ensures c.blanks-at-in-loop-i.ensures

pub returns : goal.returns
returns c =
    passed_all c.loop-i.invariant c.loop-i-test.false
