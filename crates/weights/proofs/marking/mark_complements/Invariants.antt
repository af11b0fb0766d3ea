-- `weights::marking::mark_complements` meets its contract. The invariant: the complements that are left to mark give all the marks.
use Rattle.weights.specs.Work.{complements}
use Rattle.weights.proofs.ToMark.{complements_from}
use Rattle.weights.proofs.Shown.{MarkedTo}
use Rattle.weights.proofs.marking.mark_complements.Given as goal

abbrev pub invariant-loop-i : goal.invariant-loop-i
invariant-loop-i l = MarkedTo (complements l.g) l.initial.out (complements_from l.i l.g) l.out l.i
