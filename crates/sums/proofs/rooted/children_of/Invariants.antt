-- `sums::rooted::children_of` meets its contract. The invariant: the children among the clusters that were passed are stored, and their species are not left.
use Rattle.sums.proofs.DownPass.{DownTo}
use Rattle.sums.proofs.rooted.children_of.Given as goal

abbrev pub invariant-loop-j : goal.invariant-loop-j
invariant-loop-j g l = DownTo g.row.N l.g l.initial.left l.i l.sets l.first l.left l.j
