-- What `search` promises (01, "The count" and "Numbers returned").
use Rattle.std.specs.Prelude.{ℕ, zero, suc, ◌*◌, ◌^◌, ◌≡◌, List, [], ◌∷◌, length}
use Rattle.clusters.specs.Sets.{whole}
use Rattle.trees.specs.Records.{records_in}
use Rattle.weights.specs.Count.{weight}
use Rattle.roster.specs.Verdict.{Test, verdict, length_test}
use Rattle.lineages.specs.Checks.{species_test, count_test, records_test, rooting_test}
use Rattle.terms.specs.Allowed.{allowed_test}
use Rattle.terms.specs.Answers.{found_or}
use Rattle.splits.specs.Least.{score_entry, split_entry, filled}
use Rattle.splits.specs.Best.{best_for, found_by}
use Rattle.terms.specs.declared.Found.{Found}
use Rattle.weights.specs.declared.Rooting.{Rooting}

-- the tests before the search itself: "1, 11, 12, 16, 15, 13, 14, each where it applies", with 19 "straight after 15" (#106)
unfoldable pub search_tests : Rooting → ℕ → List ℕ → ℕ → List ℕ → List ℕ → List ℕ → List Test
search_tests rooting n genes count allowed scores splits =
    species_test n ∷ count_test count ∷ length_test (length genes) (32 * count) ∷ length_test (length allowed) (2 ^ n)
    ∷ length_test (length scores) (2 ^ n)
    ∷ length_test (length splits) (2 ^ n)
    ∷ records_test n (records_in count genes)
    ∷ rooting_test rooting n (records_in count genes)
    ∷ allowed_test n allowed
    ∷ []

-- "Lent slices keep every byte, with one exception: on 14 both tables are filled"
abbrev pub filled_by : ℕ → ℕ → (ℕ → ℕ) → List ℕ → List ℕ
filled_by zero n entry lent = filled n entry lent
filled_by (suc number) n entry lent = lent

-- the promise of `search`: its reply, and what stands in both tables then
pub record Finds (rooting : Rooting) (n : ℕ) (genes : List ℕ) (count : ℕ) (allowed scores splits : List ℕ) (r : Found) (scores_after splits_after : List ℕ) : Type 0 where
  pub reply :
      r ≡ found_or (verdict (search_tests rooting n genes count allowed scores splits)).number (verdict (search_tests rooting n genes count allowed scores splits)).place
      (found_by rooting (best_for rooting n (records_in count genes) allowed (whole n)) (records_in count genes))
  pub score_table :
      scores_after ≡ filled_by (verdict (search_tests rooting n genes count allowed scores splits)).number n
      (λ a. score_entry (weight rooting (records_in count genes)) (best_for rooting n (records_in count genes) allowed a))
      scores
  pub split_table :
      splits_after ≡ filled_by (verdict (search_tests rooting n genes count allowed scores splits)).number n
      (λ a. split_entry (best_for rooting n (records_in count genes) allowed a))
      splits
