-- The report of an outcome.
use Prim.Native.Nat.{ℕ}
use mathlib.Core.Path.{◌≡◌, subst}
use mathlib.Core.List.{List}
use Rattle.printing.specs.declared.Report.{Report}
use Rattle.outcomes.specs.Outcome.{Outcome}
use Rattle.outcomes.specs.Work.{told}

-- the report of one outcome is that of an equal one
pub retold : (ns : List (List ℕ)) {r : Report} {o outcome : Outcome} → o ≡ outcome → r ≡ told ns o → r ≡ told ns outcome
retold ns {r} e is = subst (λ (o : Outcome). r ≡ told ns o) e is
