-- `weights::count::lineages_within` meets its contract. The invariant: what is counted are the nodes passed that have a child within a, and what is loose
-- are the species of a that none of the nodes outside a holds.
use Rattle.weights.proofs.Pass.{Passing}
use Rattle.weights.proofs.count.lineages_within.Given as goal

abbrev pub invariant-loop-x : goal.invariant-loop-x
invariant-loop-x l = Passing l.g l.a l.k l.loose l.all l.x-index
