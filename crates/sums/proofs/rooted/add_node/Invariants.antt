-- `sums::rooted::add_node` meets its contract: nothing for a single species, else the node and the unions of its children. The invariant: the children that were passed are seen.
use Rattle.sums.proofs.Grouping.{SeenTo}
use Rattle.sums.proofs.rooted.add_node.Given as goal

abbrev pub invariant-loop-x : goal.invariant-loop-x
invariant-loop-x g l = SeenTo (g.S.Seen.entry l.seen) l.initial.children l.children l.x-index
