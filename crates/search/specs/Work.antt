-- What the parts of the search ask of one another.
use Rattle.std.specs.Prelude.{ℕ, ◌≤◌, List, [], ◌∷◌, length}
use Rattle.roster.specs.Verdict.{Test, length_test}

-- so many entries are there in the allowed set and in both tables
pub record LongEnough (entries : ℕ) (allowed scores splits : List ℕ) : Type 0 where
  pub allowed_long : entries ≤ length allowed
  pub scores_long : entries ≤ length scores
  pub splits_long : entries ≤ length splits

-- "12 | a lent slice too short | 0": the tests for that
abbrev pub long_tests : ℕ → List ℕ → List ℕ → List ℕ → List Test
long_tests entries allowed scores splits = length_test (length allowed) entries ∷ length_test (length scores) entries ∷ length_test (length splits) entries ∷ []
