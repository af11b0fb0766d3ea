-- `sums::tell` meets its contract. The invariant: the entries that were passed are told, the others are as they were.
use Rattle.sums.proofs.Telling.{ToldTo}
use Rattle.sums.proofs.tell.Given as goal

abbrev pub invariant-loop-a : goal.invariant-loop-a
invariant-loop-a l = ToldTo l.count l.all l.initial.sums l.lost l.sums l.a
