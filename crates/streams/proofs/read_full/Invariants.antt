-- The loop keeps: the front of the array has what was read, and the room that is left falls.
use Rattle.std.proofs.Common.{length, ◌-◌, ◌≡◌, ◌≤◌, take}
use Rattle.std.specs.Io.KnownBytes.{Consumes}
use Rattle.streams.proofs.read_full.Given as goal

abbrev pub invariant-loop-done : goal.invariant-loop-done
invariant-loop-done g l = (l.done ≤ length l.buf) × (length l.buf ≡ length l.fn.buf) × Consumes (g.R.Read.remaining l.fn.input) (g.R.Read.remaining l.input) (take l.done l.buf)

abbrev pub decreases-loop-done : goal.decreases-loop-done
decreases-loop-done g l = length l.fn.buf - l.done
