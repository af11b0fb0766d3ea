-- `sums::add_trees` meets its contract. The invariant: the gene trees that are left, done too, change as much as all of them.
use Rattle.std.proofs.Common.{length}
use Rattle.weights.specs.Subsets.{plus_by, minus_by}
use Rattle.sums.proofs.TreeChanges.{TreesTo}
use Rattle.sums.proofs.add_trees.Given as goal

abbrev pub invariant-loop-tree : goal.invariant-loop-tree
invariant-loop-tree l = TreesTo 32 (λ g. plus_by l.rooting g) (λ g. minus_by l.rooting g) l.genes l.count l.initial.sums l.sums (length l.yielded)
