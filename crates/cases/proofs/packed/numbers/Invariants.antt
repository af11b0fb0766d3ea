-- The loop keeps: each step moves on inside the field, and what it puts stays inside the buffer.
use Rattle.std.proofs.Common.{◌≡◌, ◌≤◌, ◌-◌, length}
use Rattle.cases.proofs.packed.numbers.Given as goal

abbrev pub invariant-loop-at : goal.invariant-loop-at
invariant-loop-at l = (l.at ≤ length l.field) × (l.count ≤ length l.out) × (length l.out ≡ length l.fn.out)

abbrev pub decreases-loop-at : goal.decreases-loop-at
decreases-loop-at l = length l.field - l.at
