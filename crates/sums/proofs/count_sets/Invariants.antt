-- `sums::count_sets` meets its contract. The invariant: the gene trees that are left, counted too, give the number of all by their whole set.
use Rattle.std.proofs.Common.{length}
use Rattle.trees.specs.Records.{largest}
use Rattle.sums.proofs.TreeChanges.{TalliedTo}
use Rattle.sums.proofs.count_sets.Given as goal

abbrev pub invariant-loop-g : goal.invariant-loop-g
invariant-loop-g l = TalliedTo 32 largest l.genes l.count l.initial.lost l.lost (length l.yielded)
