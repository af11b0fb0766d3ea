-- What the parts of `check` and `write_counts` ask of one another.
use Rattle.std.specs.Prelude.{ℕ, ◌-◌, ◌*◌, ◌^◌, ◌≤◌, ◌≡◌, Bool, List, [], ◌∷◌, length, get_or, drop, Result, Ok}
use Rattle.faults.specs.declared.Refusal.{Refusal}
use Rattle.clusters.specs.Sets.{whole}
use Rattle.trees.specs.Records.{records_in, count as cluster_count}
use Rattle.trees.specs.Valid.{binary}
use Rattle.roster.specs.Verdict.{Test, verdict, length_test, said_by}
use Rattle.branches.specs.Ends.{ends_from}
use Rattle.weights.specs.Count.{weight, score}
use Rattle.weights.specs.declared.Rooting.TheVariants.{Rooted}
use Rattle.lineages.specs.Checks.{count_test, records_test}
use Rattle.terms.specs.Allowed.{every_cluster}
use Rattle.splits.specs.Least.{score_entry, split_entry, filled}
use Rattle.splits.specs.Best.{best_for}
use Rattle.counts.specs.Promise.{weight_in, least_score, first_wrong, tree_test, counts_test}

-- m nodes end from start on
unfoldable pub AllEnd : ℕ → List ℕ → ℕ → Type 0
AllEnd m text start = length (ends_from m (drop start text) start) ≡ m

-- the promise of `compare`: 23, of as many nodes that end from start on as found has clusters, which are theirs, or no refusal
unfoldable pub CountsJudged : List ℕ → ℕ → List ℕ → ℕ → List ℕ → Result (Unit {0}) Refusal → Type 0
CountsJudged text start genes count found r =
    said_by r ≡ verdict (counts_test (first_wrong (weight_in genes count) found (ends_from (length found) (drop start text) start)) ∷ [])

-- 11, 12, 16 and 15, with so many entries for each table
unfoldable pub call_tests : ℕ → List ℕ → ℕ → ℕ → List ℕ → List ℕ → Bool → List Test
call_tests n genes count entries scores splits two =
    count_test count ∷ length_test (length genes) (32 * count) ∷ length_test (length scores) entries ∷ length_test (length splits) entries
    ∷ tree_test two
    ∷ records_test n (records_in count genes)
    ∷ []

-- the promise of `judge`: one of these, or no refusal
unfoldable pub CallJudged : ℕ → List ℕ → ℕ → ℕ → List ℕ → List ℕ → Bool → Result (Unit {0}) Refusal → Type 0
CallJudged n genes count entries scores splits two r = said_by r ≡ verdict (call_tests n genes count entries scores splits two)

-- the promise of `judge_drawn`: the same of the tree that is drawn, by its record, with 2^n entries for each table
abbrev pub DrawnJudged : ℕ → List ℕ → ℕ → List ℕ → List ℕ → List ℕ → Result (Unit {0}) Refusal → Type 0
DrawnJudged n genes count numbers scores splits r = CallJudged n genes count (2 ^ n) scores splits (binary (whole n) numbers) r

-- the promise of `distance`: the score of a record above the least one, and both tables filled as by the search over all clusters
pub record Distances (n : ℕ) (genes : List ℕ) (count : ℕ) (numbers scores splits : List ℕ) (r : Result ℕ Refusal) (scores_after splits_after : List ℕ) : Type 0 where
  pub value : r ≡ Ok (score Rooted (records_in count genes) numbers - least_score n (records_in count genes))
  pub score_table :
      scores_after ≡ filled n (λ a. score_entry (weight Rooted (records_in count genes)) (best_for Rooted n (records_in count genes) (every_cluster n) a)) scores
  pub split_table : splits_after ≡ filled n (λ a. split_entry (best_for Rooted n (records_in count genes) (every_cluster n) a)) splits

-- the weight of each cluster of the record r, at the index at which the cluster stands in it
pub record Weighed (genes : List ℕ) (count : ℕ) (r counts : List ℕ) : Type 0 where
  pub each : (i : ℕ) → 1 ≤ i → i ≤ cluster_count r → get_or counts i 0 ≡ weight_in genes count (get_or r i 0)
