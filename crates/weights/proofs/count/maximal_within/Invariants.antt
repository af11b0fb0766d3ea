-- `weights::count::maximal_within` meets its contract. The invariant: what is counted, with what the clusters not yet passed have within what is left of a, is 01's count.
use Rattle.std.proofs.Common.{◌-◌}
use Rattle.weights.proofs.Downward.{Downward}
use Rattle.weights.proofs.count.maximal_within.Given as goal

abbrev pub invariant-loop-i : goal.invariant-loop-i
invariant-loop-i l = Downward l.g l.a l.k l.left (l.i - 1)
