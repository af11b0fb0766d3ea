-- The promise of `judge`: what a stand's rosters and mapping come to (02, #110).
use Rattle.std.specs.Prelude.{ℕ, ◌-◌, ◌≡◌, List, [], ◌∷◌, ◌++◌, length, replicate, Result, IfOk}
use Rattle.faults.specs.declared.Refusal.{Refusal}
use Rattle.roster.specs.Roster.{names, faulty as roster_faulty, first_fault as roster_fault}
use Rattle.roster.specs.Judged.{species_most}
use Rattle.roster.specs.Verdict.{Test, verdict, said_by}
use Rattle.mapping.specs.Mapping.{faulty, first_fault}
use Rattle.mapping.specs.Groups.{groups}
use Rattle.mapping.specs.declared.Stand.{Stand}

-- "A second roster lists up to 32 individuals" (#110)
abbrev pub individuals_most : ℕ
individuals_most = 32

-- "1 | roster faulty | first byte at fault"
unfoldable pub roster_test : ℕ → List ℕ → Test
roster_test most line = record { fault = roster_faulty most line; number = 1; place = roster_fault most line }

-- "20, straight after 1, for a faulty mapping, at the first byte at fault" (#110)
unfoldable pub mapping_test : List ℕ → List ℕ → List ℕ → Test
mapping_test line individuals mapping =
    record { fault = faulty (names line) (names individuals) mapping; number = 20; place = first_fault (names line) (names individuals) mapping }

-- "1 for a fault or a thirty-third name, after the first roster", then 20 (#110)
unfoldable pub stand_tests : List ℕ → List ℕ → List ℕ → List Test
stand_tests line individuals mapping = roster_test species_most line ∷ roster_test individuals_most individuals ∷ mapping_test line individuals mapping ∷ []

-- a stand of so many species and individuals: the sets of individuals in sixteen numbers, zeros behind the last species'
abbrev pub stand_of : ℕ → ℕ → List ℕ → Stand
stand_of n m l = record { species = n; individuals = m; groups = l ++ replicate (16 - length l) 0 }

-- the promise of `judge`: the first fault that the tests find, else each species' individuals
unfoldable pub StandParsed : List ℕ → List ℕ → List ℕ → Result Stand Refusal → Type 0
StandParsed line individuals mapping r =
    (said_by r ≡ verdict (stand_tests line individuals mapping))
    × IfOk r (λ s. s ≡ stand_of (length (names line)) (length (names individuals)) (groups (names line) (names individuals) mapping))
