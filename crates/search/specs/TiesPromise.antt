-- What `search_ties` promises: what `search` does, and how many trees are as good as the one that is found (#111).
use Rattle.std.specs.Prelude.{ℕ, ◌*◌, ◌^◌, ◌≡◌, List, [], ◌∷◌, length, Result, Ok, Err}
use Rattle.clusters.specs.Sets.{whole}
use Rattle.trees.specs.Records.{records_in}
use Rattle.weights.specs.Count.{weight}
use Rattle.roster.specs.Verdict.{Test, verdict, length_test, value_by}
use Rattle.lineages.specs.Checks.{species_test, count_test, records_test, rooting_test}
use Rattle.splits.specs.Least.{score_entry, split_entry}
use Rattle.splits.specs.Ties.{tie_entry}
use Rattle.terms.specs.Allowed.{allowed_in}
use Rattle.splits.specs.Best.{best_for, found_by}
use Rattle.terms.specs.Allowed.{allowed_test}
use Rattle.terms.specs.Answers.{found_to, found_or}
use Rattle.search.specs.Promise.{filled_by}
use Rattle.faults.specs.declared.Refusal.{Refusal}
use Rattle.terms.specs.declared.Found.{Found}
use Rattle.terms.specs.declared.Solution.{Solution}
use Rattle.search.specs.declared.tied.Tied.{Tied}
use Rattle.weights.specs.declared.Rooting.{Rooting}

-- "how many binary trees over the allowed clusters reach the least score" (#111), on a for these gene trees
unfoldable pub ties_for : Rooting → ℕ → List (List ℕ) → List ℕ → ℕ → ℕ
ties_for rooting n genes allowed a = tie_entry (weight rooting genes) (allowed_in n allowed) a

-- the tests of `search`, and one more table: "12 | a lent slice too short | 0"
unfoldable pub ties_tests : Rooting → ℕ → List ℕ → ℕ → List ℕ → List ℕ → List ℕ → List ℕ → List Test
ties_tests rooting n genes count allowed scores splits ties =
    species_test n ∷ count_test count ∷ length_test (length genes) (32 * count) ∷ length_test (length ties) (2 ^ n) ∷ length_test (length allowed) (2 ^ n)
    ∷ length_test (length scores) (2 ^ n)
    ∷ length_test (length splits) (2 ^ n)
    ∷ records_test n (records_in count genes)
    ∷ rooting_test rooting n (records_in count genes)
    ∷ allowed_test n allowed
    ∷ []

-- an answer of the search, with its ties
abbrev pub with_ties : Found → ℕ → Tied
with_ties found ties = record { number = found.number; place = found.place; score = found.score; ties = ties; numbers = found.numbers }

-- the answer for an outcome: the tree with its ties, or a refusal, "0 for any other value"
abbrev pub tied_to : Result (Solution × ℕ) Refusal → Tied
tied_to (Ok s) = with_ties (found_to (Ok s.0)) s.1
tied_to (Err e) = with_ties (found_to (Err e)) 0

-- an answer without its ties
abbrev pub without_ties : Tied → Found
without_ties r = record { number = r.number; place = r.place; score = r.score; numbers = r.numbers }

-- the promise of `search_ties`: reply and both tables as those of `search`; "The search is to report how many .." (#111), for the whole set in the reply,
-- 0 on a refusal, and for each cluster in the third table, which is filled or kept as the other two are
pub record FindsTies (rooting : Rooting) (n : ℕ) (genes : List ℕ) (count : ℕ) (allowed scores splits ties : List ℕ) (r : Tied)
    (scores_after splits_after ties_after : List ℕ) : Type 0 where
  pub reply :
      r ≡ with_ties
      (found_or (verdict (ties_tests rooting n genes count allowed scores splits ties)).number
      (verdict (ties_tests rooting n genes count allowed scores splits ties)).place
      (found_by rooting (best_for rooting n (records_in count genes) allowed (whole n)) (records_in count genes)))
      (value_by (verdict (ties_tests rooting n genes count allowed scores splits ties)).number (ties_for rooting n (records_in count genes) allowed (whole n)))
  pub score_table :
      scores_after ≡ filled_by (verdict (ties_tests rooting n genes count allowed scores splits ties)).number n
      (λ a. score_entry (weight rooting (records_in count genes)) (best_for rooting n (records_in count genes) allowed a))
      scores
  pub split_table :
      splits_after ≡ filled_by (verdict (ties_tests rooting n genes count allowed scores splits ties)).number n
      (λ a. split_entry (best_for rooting n (records_in count genes) allowed a))
      splits
  pub tie_table :
      ties_after ≡ filled_by (verdict (ties_tests rooting n genes count allowed scores splits ties)).number n
      (λ a. ties_for rooting n (records_in count genes) allowed a)
      ties
