-- What the promise of the search on a stand gives: the reply's tree is over allowed clusters, least, and the first of the least; 14 where there is none; and how the reply changes with the
-- allowed set and the gene trees.
use Prim.Native.Nat.{ℕ, zero, suc, ◌^◌, ◌≤◌, ◌<◌}
use mathlib.Core.Path.{◌≡◌, refl, sym, ap, ◌∙◌, subst}
use mathlib.Core.Logic.{◌⊎◌, inl, inr, ◌↔◌}
use mathlib.Core.Bool.{true}
use mathlib.Core.List.{List}
use native.Mathlib.Omega.{arith}
use lib.ListN.{length}
use Rattle.clusters.specs.Sets.{whole}
use Rattle.trees.specs.Lists.{Sublist, InAnyOrder}
use Rattle.trees.specs.Records.{wide_records_in}
use Rattle.roster.specs.Roster.{names}
use Rattle.roster.specs.Verdict.{verdict}
use Rattle.terms.specs.Allowed.{allowed_in}
use Rattle.terms.specs.Answers.{found_or}
use Rattle.terms.specs.declared.Found.{Found}
use Rattle.splits.specs.Best.{found_of}
use Rattle.splits.proofs.RecordsOfTrees.{total_of_record}
use Rattle.search.specs.Candidates.{Candidate, AnswerBy}
use Rattle.search.proofs.AnyWeights.{ScoresBy, RepliedBy, best-replied, reply-answers, reply_none, none_is_fourteen, some_is_zero, more_clusters, scores_rise, sum_more}
use Rattle.weights.specs.Stand.{stand_weight, stand_score}
use Rattle.weights.proofs.StandWeights.{stand-score_append, stand-score-reordered}
use Rattle.stand.specs.Checks.{search_tests}
use Rattle.stand.specs.InOrder.{StandAccepted}
use Rattle.stand.specs.Promise.{groups_of, weight_on, best_on, StandFinds}
use Rattle.stand.proofs.Accepting.{accepted, accepts, no_fourteen}
use Rattle.stand.proofs.Opening.{species-count}

-- the record of a tree has the tree's score
stand-scored : (groups : List ℕ) (genes : List (List ℕ)) → ScoresBy (λ a. stand_weight groups genes a) (stand_score groups genes)
unfolding stand_score
stand-scored groups genes t = total_of_record (λ a. stand_weight groups genes a) t

-- "which counts in the score" (#110): a species record scored on the stand
abbrev pub score_on : List ℕ → List ℕ → List ℕ → List ℕ → ℕ → List ℕ → ℕ
score_on line individuals mapping genes count = λ species. stand_score (groups_of line individuals mapping) (wide_records_in count genes) species

module _ {line individuals mapping genes : List ℕ} {count : ℕ} {allowed scores splits : List ℕ} {r : Found} {scores_after splits_after : List ℕ}
    (f : StandFinds line individuals mapping genes count allowed scores splits r scores_after splits_after) where
  reply-accepted : StandAccepted line individuals mapping genes count allowed scores splits
      → r ≡ found_of (weight_on line individuals mapping genes count) (best_on line individuals mapping genes count allowed (whole (length (names line))))
  reply-accepted a = rw (accepts line individuals mapping genes count allowed scores splits a) at f.reply

  -- an accepted call answers the best of the records that compete, or 14 where none does
  pub stand-replied : StandAccepted line individuals mapping genes count allowed scores splits
      → RepliedBy (score_on line individuals mapping genes count) (length (names line)) allowed r
  unfolding best_on
  stand-replied a =
      subst (λ (q : Found). RepliedBy (score_on line individuals mapping genes count) (length (names line)) allowed q) (sym (reply-accepted a))
      (best-replied (weight_on line individuals mapping genes count) (score_on line individuals mapping genes count)
      (stand-scored (groups_of line individuals mapping) (wide_records_in count genes)) (length (names line)) allowed
      (species-count line individuals mapping genes count a.in_order.open_to).1)

  -- a test that finds a fault gives the reply its number
  refused-number : (k : ℕ) → (verdict (search_tests line individuals mapping genes count allowed scores splits)).number ≡ suc k → r.number ≡ suc k
  refused-number k q =
      let place = (verdict (search_tests line individuals mapping genes count allowed scores splits)).place in
      let found = found_of (weight_on line individuals mapping genes count) (best_on line individuals mapping genes count allowed (whole (length (names line)))) in
      ap (λ (x : Found). x.number) f.reply ∙ ap (λ (m : ℕ). (found_or m place found).number) q

  -- 0 and 14 come from the search alone
  pub accepted_of : (r.number ≡ 0) ⊎ (r.number ≡ 14) → StandAccepted line individuals mapping genes count allowed scores splits
  accepted_of d = go (verdict (search_tests line individuals mapping genes count allowed scores splits)).number refl d
    where
      go :
          (k : ℕ) → (verdict (search_tests line individuals mapping genes count allowed scores splits)).number ≡ k → (r.number ≡ 0) ⊎ (r.number ≡ 14)
          → StandAccepted line individuals mapping genes count allowed scores splits
      go zero q d = accepted line individuals mapping genes count allowed scores splits q
      go (suc k) q (inl z) = absurd (omega (arith, refused-number k q))
      go (suc k) q (inr z) = absurd (no_fourteen line individuals mapping genes count allowed scores splits (omega (arith, refused-number k q)))

  -- number 0: the reply's record is a valid binary species record over allowed clusters, its score on the stand is the reply's, none that competes scores less, and of those that score
  -- as little it is the first
  pub answer : r.number ≡ 0 → AnswerBy (score_on line individuals mapping genes count) (length (names line)) allowed r
  answer e = reply-answers (stand-replied (accepted_of (inl e))) e

  -- 14 exactly when the call is accepted and no record competes
  pub fourteen_exactly :
      (r.number ≡ 14) ↔ (StandAccepted line individuals mapping genes count allowed scores splits × ((c : List ℕ) → Candidate (length (names line)) allowed c → ⊥))
  fourteen_exactly = (λ e. (accepted_of (inr e), reply_none (stand-replied (accepted_of (inr e))) e), λ k. none_is_fourteen (stand-replied k.0) k.1)

  -- 0 exactly when the call is accepted and some record competes
  pub zero_exactly :
      (r.number ≡ 0) ↔ (StandAccepted line individuals mapping genes count allowed scores splits × ((c : List ℕ) × Candidate (length (names line)) allowed c))
  zero_exactly = (λ e. (accepted_of (inl e), (r.numbers, (answer e).competes)), λ k. some_is_zero (stand-replied k.0) k.1.0 k.1.1)

-- ---- more allowed clusters

-- an answer stays, and its score does not rise
pub more_allowed_clusters :
    {line individuals mapping genes : List ℕ} {count : ℕ} {allowed wider scores splits scores' splits' : List ℕ} {r q : Found} {s p s' p' : List ℕ}
    → StandFinds line individuals mapping genes count allowed scores splits r s p → StandFinds line individuals mapping genes count wider scores' splits' q s' p'
    → ((a : ℕ) → 1 ≤ a → a < 2 ^ length (names line) → allowed_in (length (names line)) allowed a ≡ true → allowed_in (length (names line)) wider a ≡ true)
    → StandAccepted line individuals mapping genes count wider scores' splits'
    → r.number ≡ 0 → (q.number ≡ 0) × (q.score ≤ r.score)
more_allowed_clusters f g h a e = more_clusters (stand-replied f (accepted_of f (inl e))) (stand-replied g a) h e

-- ---- more gene trees

-- put in anywhere, and the old ones in any order: whether there is a tree does not change, and the least score does not fall
pub more_gene_trees :
    {line individuals mapping genes genes' : List ℕ} {count count' : ℕ} {allowed scores splits scores' splits' : List ℕ}
    {r q : Found} {s p s' p' : List ℕ} {all : List (List ℕ)}
    → Sublist (wide_records_in count genes) all → InAnyOrder all (wide_records_in count' genes')
    → StandFinds line individuals mapping genes count allowed scores splits r s p → StandFinds line individuals mapping genes' count' allowed scores' splits' q s' p'
    → StandAccepted line individuals mapping genes count allowed scores splits → StandAccepted line individuals mapping genes' count' allowed scores' splits'
    → (r.number ≡ q.number) × (r.score ≤ q.score)
more_gene_trees {line} {individuals} {mapping} m o f f' a a' =
    scores_rise
    (λ c.
    omega (
      arith,
      sum_more (λ g. stand_score (groups_of line individuals mapping) g c) (λ g h. stand-score_append (groups_of line individuals mapping) g h c) m,
      stand-score-reordered (groups_of line individuals mapping) c o,
    ))
    (stand-replied f a) (stand-replied f' a')
