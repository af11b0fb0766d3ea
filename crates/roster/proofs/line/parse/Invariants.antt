-- The loop keeps `Begun`: a label has to begin at `at`, no fault stands before it, and the names before it are in the table.
use Prim.Native.Nat.{◌-◌}
use lib.ListN.{length}
use Rattle.roster.proofs.Turns.{Begun}
use Rattle.roster.proofs.line.parse.Given as goal

abbrev pub invariant-loop-at : goal.invariant-loop-at
invariant-loop-at l = Begun l.most l.line l.table l.count l.at

abbrev pub decreases-loop-at : goal.decreases-loop-at
decreases-loop-at l = length l.line - l.at
