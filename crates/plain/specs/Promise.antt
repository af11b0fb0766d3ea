-- What `plain` promises (#108).
use Rattle.std.specs.Prelude.{ℕ, ◌*◌, ◌^◌, ◌≡◌, List, [], ◌∷◌, length, ltb}
use Rattle.clusters.specs.Sets.{whole}
use Rattle.trees.specs.Records.{records_in}
use Rattle.roster.specs.Verdict.{Test, verdict, length_test}
use Rattle.lineages.specs.Checks.{species_test, count_test, records_test, rooting_test}
use Rattle.terms.specs.Allowed.{allowed_test}
use Rattle.terms.specs.Answers.{found_or}
use Rattle.splits.specs.Best.{best_for, found_by}
use Rattle.terms.specs.declared.Found.{Found}
use Rattle.weights.specs.declared.Rooting.{Rooting}

-- "an engine for at most 7 species" (#108)
abbrev pub plain_most : ℕ
plain_most = 7

-- "17 at 0 for n over 7, in this call of the library too" (#108)
unfoldable pub plain_test : ℕ → Test
plain_test n = record { fault = ltb plain_most n; number = 17; place = 0 }

-- the tests of the call: those of the search but for the tables, which it has not, and 17 "straight after 1" (#108)
unfoldable pub plain_tests : Rooting → ℕ → List ℕ → ℕ → List ℕ → List Test
plain_tests rooting n genes count allowed =
    species_test n ∷ plain_test n ∷ count_test count ∷ length_test (length genes) (32 * count) ∷ length_test (length allowed) (2 ^ n)
    ∷ records_test n (records_in count genes)
    ∷ rooting_test rooting n (records_in count genes)
    ∷ allowed_test n allowed
    ∷ []

-- the promise of `plain` fixes the reply, by the search's own definition of the first least tree: of "all binary trees in 01's order .. those over allowed
-- clusters .. the first least one" (#108). How it is found is no part of the promise
pub record FindsPlainly (rooting : Rooting) (n : ℕ) (genes : List ℕ) (count : ℕ) (allowed : List ℕ) (r : Found) : Type 0 where
  pub reply :
      r ≡ found_or (verdict (plain_tests rooting n genes count allowed)).number (verdict (plain_tests rooting n genes count allowed)).place
      (found_by rooting (best_for rooting n (records_in count genes) allowed (whole n)) (records_in count genes))
