-- `sums::zeta::add_half` meets its contract. The invariant: the entries that are half behind those that were passed have gained, in both tables.
use Rattle.sums.proofs.Steps.{HalfTo}
use Rattle.sums.proofs.zeta.add_half.Given as goal

abbrev pub invariant-loop-a : goal.invariant-loop-a
invariant-loop-a l = HalfTo l.start l.half l.initial.sums l.sums l.a × HalfTo l.start l.half l.initial.lost l.lost l.a
