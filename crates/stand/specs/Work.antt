-- What the parts of the calls on a stand ask of one another.
use Rattle.std.specs.Prelude.{ℕ, ◌^◌, ◌≤◌, ◌≡◌, List, length, Result, IfOk}
use Rattle.faults.specs.declared.Refusal.{Refusal}
use Rattle.roster.specs.Roster.{names}
use Rattle.roster.specs.Verdict.{verdict, said_by}
use Rattle.mapping.specs.Groups.{groups}
use Rattle.mapping.specs.Promise.{stand_of}
use Rattle.mapping.specs.declared.Stand.{Stand}
use Rattle.sums.specs.Work.{StandWeighable}
use Rattle.stand.specs.Checks.{open_tests}

-- the promise of `opened`: the stand as it was judged, where no test before the gene records finds a fault
unfoldable pub StandOpened : List ℕ → List ℕ → List ℕ → List ℕ → ℕ → Result Stand Refusal → Type 0
StandOpened line individuals mapping genes count r =
    (said_by r ≡ verdict (open_tests line individuals mapping genes count))
    × IfOk r (λ s. s ≡ stand_of (length (names line)) (length (names individuals)) (groups (names line) (names individuals) mapping))

-- a stand, gene trees on its individuals and slices that were checked
pub record Solvable (n : ℕ) (groups genes : List ℕ) (count : ℕ) (allowed scores splits : List ℕ) : Type 0 where
  pub weighable : StandWeighable n groups genes count
  pub allowed_long : 2 ^ n ≤ length allowed
  pub scores_long : 2 ^ n ≤ length scores
  pub splits_long : 2 ^ n ≤ length splits
