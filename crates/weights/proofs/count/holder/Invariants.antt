-- `weights::count::holder` meets its contract. The invariant: no cluster before the i-th holds b.
use Rattle.weights.proofs.Downward.{NoneHolds}
use Rattle.weights.proofs.count.holder.Given as goal

abbrev pub invariant-loop-i : goal.invariant-loop-i
invariant-loop-i l = NoneHolds l.g l.b l.i
