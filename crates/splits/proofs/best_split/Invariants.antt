-- `splits::best_split` meets its contract. The invariant: what is held is the choice among the low parts that were visited.
use Rattle.splits.proofs.SplitChoice.{Visited}
use Rattle.splits.proofs.best_split.Given as goal

abbrev pub invariant-loop-low : goal.invariant-loop-low
invariant-loop-low l = Visited l.scores l.a l.low-iterator.low l.low-iterator.rest l.best l.low-iterator.left
