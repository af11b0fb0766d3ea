-- `splits::tied::tied_splits` meets its contract. The invariant: what is counted are the ties of the low parts that were visited.
use Rattle.splits.proofs.TieWalk.{Summed}
use Rattle.splits.proofs.tied.tied_splits.Given as goal

abbrev pub invariant-loop-low : goal.invariant-loop-low
invariant-loop-low l = Summed l.scores l.ties l.a l.least l.low-iterator.low l.low-iterator.rest l.count l.low-iterator.left
