use Rattle.std.proofs.Common.{sym, ◌∙◌, arith}
use Rattle.clusters.proofs.Sets.{within-true, within-le}
use Rattle.weights.proofs.Downward.{down_passed, down_taken, down_end}
use Rattle.weights.proofs.count.maximal_within.Goals as goal

pub overflow_sub-left : goal.overflow_sub-left
overflow_sub-left c = within-le (within-true _ _ (sym c.within.ensures ∙ c.if-within.true))

pub loop-i-preserved-then-within : goal.loop-i-preserved-then-within
loop-i-preserved-then-within c =
    down_taken c.requires.can c.loop-i.invariant (omega arith) (sym c.within.ensures ∙ c.if-within.true)

pub loop-i-preserved : goal.loop-i-preserved
loop-i-preserved c =
    down_passed c.requires.can c.loop-i.invariant (omega arith) (sym c.within.ensures ∙ c.if-within.false)

pub returns : goal.returns
returns c = down_end c.loop-i.invariant (omega arith)
