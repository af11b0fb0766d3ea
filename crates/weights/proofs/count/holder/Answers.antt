use Rattle.std.proofs.Common.{sym, ◌∙◌, arith}
use Rattle.clusters.proofs.Sets.{within-true}
use Rattle.weights.proofs.Downward.{holds_start, holds_next, holds-found, holds_last}
use Rattle.weights.proofs.count.holder.Goals as goal

pub loop-i-init : goal.loop-i-init
loop-i-init c = holds_start _ c.requires.countable.can

pub returns-then-within : goal.returns-then-within
returns-then-within c = holds-found c.requires.countable.can c.loop-i.invariant (within-true _ _ (sym c.within.ensures ∙ c.if-within.true))

pub loop-i-preserved : goal.loop-i-preserved
loop-i-preserved c = holds_next c.requires.countable.can c.loop-i.invariant (omega arith) (sym c.within.ensures ∙ c.if-within.false)

pub returns : goal.returns
returns c = holds_last c.requires.countable.can c.loop-i.invariant (omega arith) c.requires.within
