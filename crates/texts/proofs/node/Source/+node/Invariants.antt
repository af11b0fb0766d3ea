-- `texts::node::Source::node` meets its contract, by the size of the cluster. The loop's invariant: what is left to store has the outcome of the whole text;
-- its measure is the set of the species left, which loses the child.
use Rattle.clusters.specs.Sets.{size}
use Rattle.texts.specs.Work.{lent}
use Rattle.texts.proofs.NodeText.{Begun}
use Rattle.texts.proofs.node.Source.+node.Given as goal

abbrev pub decreases-node : goal.decreases-node
decreases-node l = size l.cluster

abbrev pub invariant-loop-left : goal.invariant-loop-left
invariant-loop-left l = Begun (lent l.self.counts) l.self.table.now l.self.numbers.now l.cluster l.initial.out l.at l.out l.end l.left l.mark

abbrev pub decreases-loop-left : goal.decreases-loop-left
decreases-loop-left l = l.left
