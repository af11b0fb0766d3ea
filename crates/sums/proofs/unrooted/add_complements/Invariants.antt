-- `sums::unrooted::add_complements` meets its contract. The invariant: the complements that are left, done too, change as much as all of them.
use Rattle.std.proofs.Common.{◌+◌}
use Rattle.sums.proofs.UnrootedChanges.{OthersTo}
use Rattle.sums.proofs.unrooted.add_complements.Given as goal

abbrev pub invariant-loop-x : goal.invariant-loop-x
invariant-loop-x l = OthersTo l.g l.initial.sums l.sums (l.x-index + 1)
