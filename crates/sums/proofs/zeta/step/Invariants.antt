-- `sums::zeta::step` meets its contract. The invariant: the entries before a block are stepped, in both tables.
use Rattle.std.proofs.Common.{◌-◌}
use Rattle.sums.proofs.Steps.{SteppedTo}
use Rattle.sums.proofs.zeta.step.Given as goal

abbrev pub invariant-loop-start : goal.invariant-loop-start
invariant-loop-start l = SteppedTo l.i l.initial.sums l.sums l.start × SteppedTo l.i l.initial.lost l.lost l.start

abbrev pub decreases-loop-start : goal.decreases-loop-start
decreases-loop-start l = l.start-end - l.start
