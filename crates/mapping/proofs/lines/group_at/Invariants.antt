-- The loop keeps `Gathered`: what was read since `start`, and its individuals.
use Prim.Native.Nat.{◌-◌}
use lib.ListN.{length}
use Rattle.mapping.proofs.LineReads.{Gathered}
use Rattle.mapping.proofs.lines.group_at.Given as goal

abbrev pub invariant-loop-member : goal.invariant-loop-member
invariant-loop-member l = Gathered l.individuals.table l.individuals.count l.text l.start l.taken l.at l.set

abbrev pub decreases-loop-member : goal.decreases-loop-member
decreases-loop-member l = length l.text - l.at
