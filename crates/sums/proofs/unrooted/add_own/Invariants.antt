-- `sums::unrooted::add_own` meets its contract. The invariant: the clusters that are left, done too, change as much as all of them.
use Rattle.std.proofs.Common.{◌+◌}
use Rattle.sums.proofs.UnrootedChanges.{OwnTo}
use Rattle.sums.proofs.unrooted.add_own.Given as goal

abbrev pub invariant-loop-x : goal.invariant-loop-x
invariant-loop-x l = OwnTo l.g l.initial.sums l.sums (l.x-index + 1)
