-- The loop keeps: what is left of the positions is of them.
use Rattle.std.proofs.Common.{length, ◌≤◌}
use Rattle.vectors.proofs.sheeting.put_entries.Given as goal

abbrev pub invariant-loop-i : goal.invariant-loop-i
invariant-loop-i l = l.at ≤ length l.positions
