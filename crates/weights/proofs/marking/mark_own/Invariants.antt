-- `weights::marking::mark_own` meets its contract. The invariant: what is left to mark gives all the marks.
use Rattle.std.proofs.Common.{◌+◌, ◌-◌, drop}
use Rattle.trees.specs.Records.{listed}
use Rattle.weights.proofs.Shown.{MarkedTo}
use Rattle.weights.proofs.marking.mark_own.Given as goal

abbrev pub invariant-loop-x : goal.invariant-loop-x
invariant-loop-x l = MarkedTo (listed l.g) l.initial.out (drop (l.x-index + 1 - 1) (listed l.g)) l.out (l.x-index + 1)
