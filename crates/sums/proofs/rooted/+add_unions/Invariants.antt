-- `sums::rooted::add_unions` meets its contract. The measure is how many sets are left.
use Rattle.std.proofs.Common.{length}
use Rattle.sums.proofs.rooted.+add_unions.Given as goal

abbrev pub decreases-add_unions : goal.decreases-add_unions
decreases-add_unions l = length l.sets.now
