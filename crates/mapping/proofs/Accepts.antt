-- Good mappings are exactly those that the grammar derives, and they part the individuals among the species.
use Prim.Native.Nat.{ℕ}
use mathlib.Core.Path.{◌≡◌}
use mathlib.Core.Bool.{false}
use mathlib.Core.List.{List, map}
use lib.ListN.{length}
use Rattle.roster.specs.Roster.{names, faulty as roster_faulty}
use Rattle.roster.proofs.Names.{names-distinct}
use Rattle.mapping.specs.Mapping.{faulty}
use Rattle.mapping.specs.Groups.{set_of, groups, Parted}
use Rattle.mapping.specs.Grammar.{Maps}
use Rattle.mapping.proofs.Judging.{groups-length}
use Rattle.mapping.proofs.GrammarComplete.{derived-good, derived-groups, derived-parted}
use Rattle.mapping.proofs.GrammarSound.{good-derived}

-- a mapping without a fault is derived, a derived one has none, and its sets are those of any derivation
pub record Exactly (species individuals : List (List ℕ)) (text : List ℕ) : Type 0 where
  pub derives : faulty species individuals text ≡ false → Maps species individuals text
  pub good : Maps species individuals text → faulty species individuals text ≡ false
  pub sets : (d : Maps species individuals text) → groups species individuals text ≡ map set_of d.whose

-- two good rosters
module _ (line individuals text : List ℕ) (first : roster_faulty 16 line ≡ false) (second : roster_faulty 32 individuals ≡ false) where
  pub exactly_derived : Exactly (names line) (names individuals) text
  exactly_derived =
      record {
        derives = good-derived (names line) (names individuals) text;
        good = derived-good (names line) (names individuals) text (names-distinct 16 line first) (names-distinct 32 individuals second);
        sets = derived-groups (names line) (names individuals) text (names-distinct 16 line first) (names-distinct 32 individuals second);
      }

  -- "Each individual has exactly one species, each species at least one individual" (#110): as many sets as species, no two sharing an individual, together all
  pub good-parted : faulty (names line) (names individuals) text ≡ false
      → (length (groups (names line) (names individuals) text) ≡ length (names line)) × Parted (length (names individuals)) (groups (names line) (names individuals) text)
  good-parted good = (
    groups-length (names line) (names individuals) text,
    derived-parted (names line) (names individuals) text (names-distinct 16 line first) (names-distinct 32 individuals second)
        (good-derived (names line) (names individuals) text good),
  )
