-- `counts::written::weigh_all` meets its contract. The invariant: the entries before the next hold the weights of their clusters.
use Rattle.counts.proofs.Weighing.{WeighedTo}
use Rattle.counts.proofs.written.weigh_all.Given as goal

abbrev pub invariant-loop-i : goal.invariant-loop-i
invariant-loop-i l = WeighedTo l.trees.genes.now l.trees.count l.numbers l.counts l.i
