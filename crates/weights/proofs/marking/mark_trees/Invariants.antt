-- `weights::marking::mark_trees` meets its contract. The invariant: the gene trees that are left to mark give all the marks.
use lib.ListN.{length}
use Rattle.weights.proofs.Shown.{AllMarkedTo}
use Rattle.weights.proofs.marking.mark_trees.Given as goal

abbrev pub invariant-loop-g : goal.invariant-loop-g
invariant-loop-g l = AllMarkedTo l.rooting l.genes l.count l.initial.out l.out (length l.yielded)
