-- `sums::stand::add_trees` meets its contract. The invariant: the gene trees that are left, done too, change as much as all of them.
use Rattle.std.proofs.Common.{length}
use Rattle.weights.specs.Subsets.{plus_by, minus_by, taken}
use Rattle.weights.specs.declared.Rooting.TheVariants.{Rooted}
use Rattle.sums.proofs.TreeChanges.{TreesTo}
use Rattle.sums.proofs.stand.add_trees.Given as goal

abbrev pub invariant-loop-g : goal.invariant-loop-g
invariant-loop-g l =
    TreesTo 64 (λ g. taken l.species.groups.now (plus_by Rooted g)) (λ g. taken l.species.groups.now (minus_by Rooted g)) l.genes l.count l.initial.sums l.sums
    (length l.yielded)
