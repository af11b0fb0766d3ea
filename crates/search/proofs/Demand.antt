-- What the promise of the search gives: the reply's tree is over allowed clusters, least, and the first of the least; 14 where there is none;
-- and how the reply changes with the allowed set and the gene trees.
use Prim.Native.Nat.{ℕ, zero, suc, ◌^◌, ◌≤◌, ◌<◌}
use mathlib.Core.Path.{◌≡◌, refl, sym, ap, ◌∙◌, subst}
use mathlib.Core.Logic.{◌⊎◌, inl, inr, ◌↔◌}
use mathlib.Core.Bool.{true}
use mathlib.Core.Option.{some, none}
use mathlib.Core.List.{List}
use native.Mathlib.Omega.{arith}
use lib.Pow.{pow_mono}
use Rattle.clusters.specs.Sets.{whole, size}
use Rattle.trees.specs.Lists.{Sublist, InAnyOrder}
use Rattle.trees.specs.Records.{records_in}
use Rattle.weights.specs.Count.{weight, score}
use Rattle.roster.specs.Verdict.{verdict}
use Rattle.weights.proofs.Sums.{score_append, score-reordered}
use Rattle.splits.specs.BinaryTrees.{Binary}
use Rattle.splits.specs.Least.{score_of}
use Rattle.terms.specs.Allowed.{allowed_in}
use Rattle.search.specs.Promise.{search_tests, Finds}
use Rattle.terms.specs.Answers.{found_or}
use Rattle.splits.specs.Best.{best_for, found_by}
use Rattle.terms.specs.declared.Found.{Found}
use Rattle.splits.proofs.RecordsOfTrees.{score_of_record}
use Rattle.search.proofs.BestTrees.{LeastSplit, lemma_two}
use Rattle.search.proofs.AnyWeights.{RepliedBy, competitor, competitor-scored, best-answers, none_competing, best-replied, reply-says, reply-answers, reply_none, none_is_fourteen, some_is_zero, more_clusters, scores_rise, sum_more}
use Rattle.search.specs.Candidates.{Accepted, Candidate, Answer}
use Rattle.search.proofs.Accepted.{accepted, accepts, no_fourteen}
use Rattle.weights.specs.declared.Rooting.{Rooting}

-- what the reply of an accepted call is: an answer, or 14 where no record competes
abbrev pub Replied : Rooting → ℕ → List (List ℕ) → List ℕ → Found → Type 0
Replied rooting n genes allowed r = RepliedBy (score rooting genes) n allowed r

-- ---- the answer

-- a record that competes has the score of its tree
pub competitor-score : (rooting : Rooting) (n : ℕ) (genes : List (List ℕ)) (allowed c : List ℕ) (h : n ≤ 16) (k : Candidate n allowed c)
    → score rooting genes c ≡ score_of (weight rooting genes) (competitor n allowed c h k).tree
competitor-score rooting n genes allowed c h k = competitor-scored (weight rooting genes) (score rooting genes) (score_of_record rooting genes) n allowed h c k

module _ (rooting : Rooting) (n : ℕ) (genes : List (List ℕ)) (allowed : List ℕ) (h : n ≤ 16) where
  pub found-answers : (t : Binary) → best_for rooting n genes allowed (whole n) ≡ some t → Answer rooting n genes allowed (found_by rooting (some t) genes)
  unfolding best_for
  found-answers t e = best-answers (weight rooting genes) (score rooting genes) (score_of_record rooting genes) n allowed h t e

  pub none_competes : best_for rooting n genes allowed (whole n) ≡ none → (c : List ℕ) → Candidate n allowed c → ⊥
  unfolding best_for
  none_competes e c k = none_competing (weight rooting genes) (score rooting genes) (score_of_record rooting genes) n allowed h e c k

  found-replied : Replied rooting n genes allowed (found_by rooting (best_for rooting n genes allowed (whole n)) genes)
  unfolding best_for
  found-replied = best-replied (weight rooting genes) (score rooting genes) (score_of_record rooting genes) n allowed h

-- ---- the reply of a call that is accepted

module _ {rooting : Rooting} {n : ℕ} {genes : List ℕ} {count : ℕ} {allowed scores splits : List ℕ} {r : Found} {scores_after splits_after : List ℕ}
    (f : Finds rooting n genes count allowed scores splits r scores_after splits_after) where
  reply-accepted : Accepted rooting n genes count allowed scores splits
      → r ≡ found_by rooting (best_for rooting n (records_in count genes) allowed (whole n)) (records_in count genes)
  reply-accepted a = rw (accepts rooting n genes count allowed scores splits a) at f.reply

  pub replied : Accepted rooting n genes count allowed scores splits → Replied rooting n (records_in count genes) allowed r
  replied a =
      subst (λ (q : Found). Replied rooting n (records_in count genes) allowed q) (sym (reply-accepted a))
      (found-replied rooting n (records_in count genes) allowed a.in_order.shaped.few_species)

  -- an accepted call answers 0 or 14
  pub accepted-says : Accepted rooting n genes count allowed scores splits → (r.number ≡ 0) ⊎ (r.number ≡ 14)
  accepted-says a = reply-says (replied a)

  -- a test that finds a fault gives the reply its number
  refused-number : (k : ℕ) → (verdict (search_tests rooting n genes count allowed scores splits)).number ≡ suc k → r.number ≡ suc k
  refused-number k q =
      let place = (verdict (search_tests rooting n genes count allowed scores splits)).place in
      let found = found_by rooting (best_for rooting n (records_in count genes) allowed (whole n)) (records_in count genes) in
      ap (λ x. x.number) f.reply ∙ ap (λ m. (found_or m place found).number) q

  -- 0 and 14 come from the search alone
  pub accepted_of : (r.number ≡ 0) ⊎ (r.number ≡ 14) → Accepted rooting n genes count allowed scores splits
  accepted_of d = go (verdict (search_tests rooting n genes count allowed scores splits)).number refl d
    where
      go :
          (k : ℕ) → (verdict (search_tests rooting n genes count allowed scores splits)).number ≡ k → (r.number ≡ 0) ⊎ (r.number ≡ 14)
          → Accepted rooting n genes count allowed scores splits
      go zero q d = accepted rooting n genes count allowed scores splits q
      go (suc k) q (inl z) = absurd (omega (arith, refused-number k q))
      go (suc k) q (inr z) = absurd (no_fourteen rooting n genes count allowed scores splits (omega (arith, refused-number k q)))

  -- number 0: the reply's record is valid and binary, its clusters are allowed, its score is the reply's, none that competes scores less,
  -- and of those that score as little it is the first
  pub answer : r.number ≡ 0 → Answer rooting n (records_in count genes) allowed r
  answer e = reply-answers (replied (accepted_of (inl e))) e

  -- 14 exactly when the call is accepted and no record competes
  pub fourteen_exactly : (r.number ≡ 14) ↔ (Accepted rooting n genes count allowed scores splits × ((c : List ℕ) → Candidate n allowed c → ⊥))
  fourteen_exactly = (λ e. (accepted_of (inr e), reply_none (replied (accepted_of (inr e))) e), λ k. none_is_fourteen (replied k.0) k.1)

  -- 0 exactly when the call is accepted and some record competes
  pub zero_exactly : (r.number ≡ 0) ↔ (Accepted rooting n genes count allowed scores splits × ((c : List ℕ) × Candidate n allowed c))
  zero_exactly = (λ e. (accepted_of (inl e), (r.numbers, (answer e).competes)), λ k. some_is_zero (replied k.0) k.1.0 k.1.1)

-- ---- one outcome

pub finds-once : {rooting : Rooting} {n : ℕ} {genes : List ℕ} {count : ℕ} {allowed scores splits : List ℕ} {r q : Found} {s p s' p' : List ℕ}
    → Finds rooting n genes count allowed scores splits r s p → Finds rooting n genes count allowed scores splits q s' p' → (r ≡ q) × (s ≡ s') × (p ≡ p')
finds-once {rooting} f g = (f.reply ∙ sym g.reply, f.score_table ∙ sym g.score_table, f.split_table ∙ sym g.split_table)

-- ---- more allowed clusters

-- an answer stays, and its score does not rise
pub more_allowed_clusters :
    {rooting : Rooting} {n : ℕ} {genes : List ℕ} {count : ℕ} {allowed wider scores splits scores' splits' : List ℕ} {r q : Found} {s p s' p' : List ℕ}
    → Finds rooting n genes count allowed scores splits r s p → Finds rooting n genes count wider scores' splits' q s' p'
    → ((a : ℕ) → 1 ≤ a → a < 2 ^ n → allowed_in n allowed a ≡ true → allowed_in n wider a ≡ true) → Accepted rooting n genes count wider scores' splits'
    → r.number ≡ 0 → (q.number ≡ 0) × (q.score ≤ r.score)
more_allowed_clusters f g h a e = more_clusters (replied f (accepted_of f (inl e))) (replied g a) h e

-- ---- more gene trees

-- where no tree scores less with the second gene trees: whether there is a tree does not change, and the least score does not fall
pub no_score_falls :
    {rooting : Rooting} {n : ℕ} {genes genes' : List ℕ} {count count' : ℕ} {allowed scores splits scores' splits' : List ℕ} {r q : Found} {s p s' p' : List ℕ}
    → ((c : List ℕ) → score rooting (records_in count genes) c ≤ score rooting (records_in count' genes') c)
    → Finds rooting n genes count allowed scores splits r s p → Finds rooting n genes' count' allowed scores' splits' q s' p'
    → Accepted rooting n genes count allowed scores splits → Accepted rooting n genes' count' allowed scores' splits'
    → (r.number ≡ q.number) × (r.score ≤ q.score)
no_score_falls more f f' a a' = scores_rise more (replied f a) (replied f' a')

score_more : (rooting : Rooting) {g h : List (List ℕ)} → Sublist g h → (c : List ℕ) → score rooting g c ≤ score rooting h c
score_more rooting m c = sum_more (λ g. score rooting g c) (λ g h. score_append rooting g h c) m

-- gene trees put in anywhere: whether there is a tree does not change, and the least score does not fall
pub more_gene_trees :
    {rooting : Rooting} {n : ℕ} {genes genes' : List ℕ} {count count' : ℕ} {allowed scores splits scores' splits' : List ℕ} {r q : Found} {s p s' p' : List ℕ}
    → Sublist (records_in count genes) (records_in count' genes')
    → Finds rooting n genes count allowed scores splits r s p → Finds rooting n genes' count' allowed scores' splits' q s' p'
    → Accepted rooting n genes count allowed scores splits → Accepted rooting n genes' count' allowed scores' splits'
    → (r.number ≡ q.number) × (r.score ≤ q.score)
more_gene_trees {rooting} m = no_score_falls (score_more rooting m)

-- and in any order, the old ones too
pub more_gene_trees_in_any_order :
    {rooting : Rooting} {n : ℕ} {genes genes' : List ℕ} {count count' : ℕ} {allowed scores splits scores' splits' : List ℕ}
    {r q : Found} {s p s' p' : List ℕ} {all : List (List ℕ)}
    → Sublist (records_in count genes) all → InAnyOrder all (records_in count' genes')
    → Finds rooting n genes count allowed scores splits r s p → Finds rooting n genes' count' allowed scores' splits' q s' p'
    → Accepted rooting n genes count allowed scores splits → Accepted rooting n genes' count' allowed scores' splits'
    → (r.number ≡ q.number) × (r.score ≤ q.score)
more_gene_trees_in_any_order {rooting} m o = no_score_falls (λ c. omega (arith, score_more rooting m c, score-reordered rooting c o))

-- ---- source document 001, Lemma 2, for the tables of a call

pub source_lemma_two : (rooting : Rooting) (n : ℕ) (genes : List (List ℕ)) (allowed : List ℕ) (a : ℕ) (v : Binary) → a < 2 ^ n → n ≤ 16 → 2 ≤ size a
    → best_for rooting n genes allowed a ≡ some v → LeastSplit (weight rooting genes) (allowed_in n allowed) a v
unfolding best_for
source_lemma_two rooting n genes allowed a v l h two e = lemma_two (weight rooting genes) (allowed_in n allowed) a (omega (arith, pow_mono h)) v two e
