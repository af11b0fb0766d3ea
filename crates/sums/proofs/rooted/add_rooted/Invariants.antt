-- `sums::rooted::add_rooted` meets its contract. The invariant: the nodes that are left, done too, change as much as the whole gene tree.
use Rattle.std.proofs.Common.{map}
use Rattle.trees.specs.Records.{listed}
use Rattle.sums.specs.Work.{node_plus, node_minus}
use Rattle.sums.proofs.RootedChanges.{NodesTo}
use Rattle.sums.proofs.rooted.add_rooted.Given as goal

abbrev pub invariant-loop-i : goal.invariant-loop-i
invariant-loop-i g l =
    NodesTo (λ p. map (g.S.Seen.entry l.seen) (node_plus (listed l.g) p)) (λ p. map (g.S.Seen.entry l.seen) (node_minus (listed l.g) p)) l.g l.initial.sums l.sums l.i
