-- `sums::zeta::transform` meets its contract. The invariant: as many steps are done as species were passed, in both tables.
use Rattle.std.proofs.Common.{◌≡◌}
use Rattle.weights.specs.Subsets.{zeta}
use Rattle.sums.proofs.zeta.transform.Given as goal

abbrev pub invariant-loop-i : goal.invariant-loop-i
invariant-loop-i l = (l.sums ≡ zeta l.i l.initial.sums) × (l.lost ≡ zeta l.i l.initial.lost)
