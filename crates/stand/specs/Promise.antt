-- What the calls on a stand promise (#110).
use Rattle.std.specs.Prelude.{ℕ, ◌≡◌, List, length}
use Rattle.std.proofs.Math.Option.{Option}
use Rattle.clusters.specs.Sets.{whole}
use Rattle.trees.specs.Records.{wide_records_in}
use Rattle.roster.specs.Roster.{names}
use Rattle.roster.specs.Verdict.{verdict, reply_of}
use Rattle.roster.specs.declared.Reply.{Reply}
use Rattle.mapping.specs.Groups.{groups}
use Rattle.mapping.specs.Promise.{stand_tests}
use Rattle.weights.specs.Stand.{stand_weight, stand_score}
use Rattle.terms.specs.Allowed.{allowed_in}
use Rattle.terms.specs.Answers.{found_or}
use Rattle.terms.specs.declared.Found.{Found}
use Rattle.splits.specs.BinaryTrees.{Binary}
use Rattle.splits.specs.Least.{best, score_entry, split_entry}
use Rattle.splits.specs.Best.{found_of}
use Rattle.search.specs.Promise.{filled_by}
use Rattle.stand.specs.Checks.{weight_tests, score_tests, search_tests}

-- the groups of a stand: for each species of the first roster its individuals, by the mapping
abbrev pub groups_of : List ℕ → List ℕ → List ℕ → List ℕ
groups_of line individuals mapping = groups (names line) (names individuals) mapping

-- "A's weight is #104's count taken on the set of all individuals of A's species" (#110), over the gene trees that are handed over
abbrev pub weight_on : List ℕ → List ℕ → List ℕ → List ℕ → ℕ → ℕ → ℕ
weight_on line individuals mapping genes count = λ a. stand_weight (groups_of line individuals mapping) (wide_records_in count genes) a

-- the best tree on a cluster of the first roster's species, for these weights and this allowed set
unfoldable pub best_on : List ℕ → List ℕ → List ℕ → List ℕ → ℕ → List ℕ → ℕ → Option Binary
best_on line individuals mapping genes count allowed a = best (weight_on line individuals mapping genes count) (allowed_in (length (names line)) allowed) a

-- the promise of `judge`: the first fault, else how many individuals there are
unfoldable pub StandJudged : List ℕ → List ℕ → List ℕ → Reply → Type 0
StandJudged line individuals mapping r = r ≡ reply_of (verdict (stand_tests line individuals mapping)) (length (names individuals))

-- the promise of `weight`
unfoldable pub StandWeighs : List ℕ → List ℕ → List ℕ → List ℕ → ℕ → ℕ → Reply → Type 0
StandWeighs line individuals mapping genes count a r =
    r ≡ reply_of (verdict (weight_tests line individuals mapping genes count a)) (weight_on line individuals mapping genes count a)

-- the promise of `score`
unfoldable pub StandScores : List ℕ → List ℕ → List ℕ → List ℕ → ℕ → List ℕ → Reply → Type 0
StandScores line individuals mapping genes count species r =
    r ≡ reply_of (verdict (score_tests line individuals mapping genes count species)) (stand_score (groups_of line individuals mapping) (wide_records_in count genes) species)

-- the promise of `search`: its reply, and what stands in both tables then
pub record StandFinds
    (line individuals mapping genes : List ℕ) (count : ℕ) (allowed scores splits : List ℕ) (r : Found) (scores_after splits_after : List ℕ)
    : Type 0 where
  pub reply :
      r ≡ found_or (verdict (search_tests line individuals mapping genes count allowed scores splits)).number
      (verdict (search_tests line individuals mapping genes count allowed scores splits)).place
      (found_of (weight_on line individuals mapping genes count) (best_on line individuals mapping genes count allowed (whole (length (names line)))))
  pub score_table :
      scores_after ≡ filled_by (verdict (search_tests line individuals mapping genes count allowed scores splits)).number (length (names line))
      (λ a. score_entry (weight_on line individuals mapping genes count) (best_on line individuals mapping genes count allowed a))
      scores
  pub split_table :
      splits_after ≡ filled_by (verdict (search_tests line individuals mapping genes count allowed scores splits)).number (length (names line))
      (λ a. split_entry (best_on line individuals mapping genes count allowed a))
      splits
