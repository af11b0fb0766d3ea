-- What the calls on a stand accept (#110).
use Rattle.std.specs.Prelude.{ℕ, ◌*◌, ◌^◌, ◌≤◌, ◌<◌, ◌≡◌, false, List, length, get_or}
use Rattle.trees.specs.Records.{wide_records_in, AllValidFor}
use Rattle.roster.specs.Roster.{names, faulty as roster_faulty}
use Rattle.roster.specs.Judged.{species_most}
use Rattle.mapping.specs.Mapping.{faulty}
use Rattle.mapping.specs.Promise.{individuals_most}

-- good rosters and a good mapping; "gene trees | 1 to 4,096", and not fewer than 64 entries for each record counted
pub record Openable (line individuals mapping genes : List ℕ) (count : ℕ) : Type 0 where
  pub first_good : roster_faulty species_most line ≡ false
  pub second_good : roster_faulty individuals_most individuals ≡ false
  pub mapped : faulty (names line) (names individuals) mapping ≡ false
  pub some_genes : 1 ≤ count
  pub few_genes : count ≤ 4096
  pub fits : 64 * count ≤ length genes

-- and each record is valid for the individuals
pub record StandInOrder (line individuals mapping genes : List ℕ) (count : ℕ) : Type 0 where
  pub open_to : Openable line individuals mapping genes count
  pub valid : AllValidFor individuals_most (length (names individuals)) (wide_records_in count genes)

-- no test of the search finds a fault
pub record StandAccepted (line individuals mapping genes : List ℕ) (count : ℕ) (allowed scores splits : List ℕ) : Type 0 where
  pub in_order : StandInOrder line individuals mapping genes count
  pub allowed_fits : 2 ^ length (names line) ≤ length allowed
  pub scores_fit : 2 ^ length (names line) ≤ length scores
  pub splits_fit : 2 ^ length (names line) ≤ length splits
  pub allowed_bytes : (a : ℕ) → a < 2 ^ length (names line) → get_or allowed a 0 ≤ 1
