-- The loop keeps `Passed`: the lines that were read, and their sets.
use Rattle.mapping.proofs.MappingReads.{Passed}
use Rattle.mapping.proofs.lines.read_groups.Given as goal

abbrev pub invariant-loop-i : goal.invariant-loop-i
invariant-loop-i l = Passed l.species_line.table l.species_line.count l.individuals.table l.individuals.count l.text l.groups l.taken l.at l.i
