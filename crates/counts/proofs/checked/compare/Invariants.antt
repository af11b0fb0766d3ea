-- `checked::compare` meets its contract: each turn is one law of the next node to end.
use Rattle.counts.specs.Promise.{weight_in}
use Rattle.counts.proofs.Comparing.{ComparedTo}
use Rattle.counts.proofs.checked.compare.Given as goal

abbrev pub invariant-loop-a : goal.invariant-loop-a
invariant-loop-a l = ComparedTo (weight_in l.trees.genes.now l.trees.count) l.text l.start l.found l.at l.a-index
