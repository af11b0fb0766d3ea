-- The loop keeps: the letters so far are those of the label, and the name is filled with them.
use Prim.Native.Nat.{◌-◌}
use lib.ListN.{length}
use Rattle.labels.proofs.Scans.{Scanning}
use Rattle.labels.proofs.quoted.Given as goal

abbrev pub invariant-loop-i : goal.invariant-loop-i
invariant-loop-i l = Scanning l.text l.at l.n l.i l.name

abbrev pub decreases-loop-i : goal.decreases-loop-i
decreases-loop-i l = length l.text - l.i
