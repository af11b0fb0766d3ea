-- A sheet of candidate trees (#107): what an entry gets.
use Rattle.std.specs.Prelude.{ℕ, ◌+◌, ◌*◌, ◌≤◌, List, length}
use Rattle.clusters.specs.Sets.{whole}
use Rattle.trees.specs.Records.{SpeciesValid, BinaryOn, records_in}
use Rattle.roster.specs.declared.Reply.{Reply}
use Rattle.weights.specs.Count.{score}
use Rattle.weights.specs.declared.Rooting.{Rooting}
use Rattle.lineages.specs.Promise.{Scores}
use Rattle.sheet.specs.Promise.{record_at}

-- "A position counts whole records of 32 numbers from 0" (#107): the record at one lies wholly within those lent
abbrev pub LiesWithin : List ℕ → ℕ → Type 0
LiesWithin records position = 32 * position + 32 ≤ length records

-- what an entry with this position gets, by number and score
pub data Gets (rooting : Rooting) (n : ℕ) (genes : List ℕ) (count : ℕ) (records : List ℕ) (position : ℕ) : ℕ → ℕ → Type 0 where
  -- "Each gets what the single scoring call would give" (#107)
  as_the_single_call :
      (s : Reply) → LiesWithin records position → Scores rooting n genes count (record_at records position) s
      → Gets rooting n genes count records position s.number s.value
  -- "an entry whose record doesn't lie wholly within the lent records gets 12 and score 0" (#107)
  not_within : (LiesWithin records position → ⊥) → Gets rooting n genes count records position 12 0

-- not "16 | species record not valid or not binary"
abbrev pub IsSpeciesTree : ℕ → List ℕ → Type 0
IsSpeciesTree n species = SpeciesValid n species × BinaryOn (whole n) species

-- the same where the gene trees are in order: one of three numbers, each in one case, and no two cases at once
pub data Told (rooting : Rooting) (n : ℕ) (genes : List ℕ) (count : ℕ) (records : List ℕ) (position : ℕ) : ℕ → ℕ → Type 0 where
  its_score :
      LiesWithin records position → IsSpeciesTree n (record_at records position)
      → Told rooting n genes count records position 0 (score rooting (records_in count genes) (record_at records position))
  no_species_tree :
      LiesWithin records position → (IsSpeciesTree n (record_at records position) → ⊥) → Told rooting n genes count records position 16 0
  beyond_records : (LiesWithin records position → ⊥) → Told rooting n genes count records position 12 0
