-- The loop keeps: what is left to do gives the same as at the start.
use Prim.Native.Nat.{◌-◌}
use Rattle.gather.proofs.Gathering.{Left}
use Rattle.gather.proofs.gather.Given as goal

abbrev pub invariant-loop-at : goal.invariant-loop-at
invariant-loop-at l = Left l.line l.trees l.initial.genes l.count l.genes l.at

abbrev pub decreases-loop-at : goal.decreases-loop-at
decreases-loop-at l = 513 - l.count
