-- The loop keeps: the tree of the index begins where that of what is left of it does, from here on.
use Rattle.gather.proofs.Beginnings.{Passed}
use Rattle.gather.proofs.place.Given as goal

abbrev pub invariant-loop-i : goal.invariant-loop-i
invariant-loop-i l = Passed l.line l.trees l.index l.at l._i
