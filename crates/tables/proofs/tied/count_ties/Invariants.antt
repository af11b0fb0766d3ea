-- `tables::tied::count_ties` meets its contract. The invariant: the entries below a are the numbers of ties, and those from a on are as they were lent.
use Rattle.tables.proofs.TieTable.{Counting}
use Rattle.tables.proofs.tied.count_ties.Given as goal

abbrev pub invariant-loop-a : goal.invariant-loop-a
invariant-loop-a l = Counting l.n l.scores l.splits l.initial.ties l.ties l.a
