-- The least score over all clusters: what is solved with every cluster allowed has it, no binary species tree scores less,
-- and both tables are those of the search with bytes that mark all.
use Prim.Native.Nat.{ℕ, ◌-◌, ◌≤◌}
use native.Mathlib.Omega.{arith}
use mathlib.Core.Path.{◌≡◌, refl, sym, ap, ◌∙◌}
use mathlib.Core.Option.{Option, some, none}
use Rattle.std.proofs.Common.{None, Ok, Err}
use Rattle.faults.specs.declared.Refusal.{Refusal}
use mathlib.Core.List.{List, []}
use Rattle.clusters.specs.Sets.{whole}
use Rattle.clusters.proofs.Sets.{whole_below}
use Rattle.trees.specs.Records.{records_in}
use Rattle.weights.specs.Count.{weight, score}
use Rattle.weights.specs.declared.Rooting.TheVariants.{Rooted}
use Rattle.lineages.proofs.Verdicts.{numbered}
use Rattle.terms.specs.Answers.{found_to}
use Rattle.terms.specs.Allowed.{allowed_for}
use Rattle.terms.specs.declared.Found.{Found}
use Rattle.splits.specs.BinaryTrees.{Binary}
use Rattle.splits.specs.Least.{best, score_entry, split_entry, filled}
use Rattle.splits.specs.Best.{best_for, found_by}
use Rattle.solver.specs.Work.{Solves}
use Rattle.search.specs.Candidates.{BinarySpecies}
use Rattle.search.proofs.EveryCluster.{every-best, every-scores, every-splits, every-answered}
use Rattle.counts.specs.Promise.{least_score}
use Rattle.counts.specs.Work.{Distances}

-- the score of an answer with a tree is the entry of that tree
answer-score :
    (genes : List (List ℕ)) (o : Option Binary) → (found_by Rooted o genes).number ≡ 0 → (found_by Rooted o genes).score ≡ score_entry (weight Rooted genes) o
answer-score genes (some t) z = refl
answer-score genes none z = absurd (omega arith)

module _
    {n : ℕ} (genes : List (List ℕ)) {scores splits : List ℕ} {r : Found} {s p : List ℕ} (one : 1 ≤ n) (few : n ≤ 16)
    (solved : Solves Rooted n genes (allowed_for None n) scores splits r s p)
  where
    pub solved_least : r.score ≡ least_score n genes
    unfolding least_score best_for
    solved_least =
        let answer = every-answered one few solved in
        let on_every = best (weight Rooted genes) (allowed_for None n) (whole n) in
        let there : (found_by Rooted on_every genes).number ≡ 0 = sym (ap (λ (f : Found). f.number) solved.reply) ∙ answer.number in
        ap (λ (f : Found). f.score) solved.reply ∙ answer-score genes on_every there
        ∙ ap (score_entry (weight Rooted genes)) (every-best Rooted n genes (whole n) (whole_below n))

    -- no binary species tree scores less
    pub solved-under : (numbers : List ℕ) → BinarySpecies n numbers → r.score ≤ score Rooted genes numbers
    solved-under numbers tree = (every-answered one few solved).least numbers tree

-- there is always a tree, so nothing is refused
pub no-refusal :
    {n : ℕ} (genes : List (List ℕ)) {scores splits : List ℕ} {s p : List ℕ} → 1 ≤ n → n ≤ 16 → (e : Refusal)
    → Solves Rooted n genes (allowed_for None n) scores splits (found_to (Err e)) s p → ⊥
no-refusal genes one few e solved = numbered e.fault (every-answered one few solved).number

-- so what `distance` answers is the distance
pub distances :
    {n : ℕ} {genes : List ℕ} {count : ℕ} {numbers scores splits : List ℕ} {r : Found} {s p : List ℕ} (total : ℕ) → 1 ≤ n → n ≤ 16
    → Solves Rooted n (records_in count genes) (allowed_for None n) scores splits r s p → total ≡ score Rooted (records_in count genes) numbers
    → Distances n genes count numbers scores splits (Ok (total - r.score)) s p
unfolding best_for
distances {n} {genes} {count} {scores = scores} {splits = splits} total one few solved is =
    record {
      value = rw (is, solved_least (records_in count genes) one few solved);
      score_table = solved.score_table ∙ every-scores Rooted n (records_in count genes) scores;
      split_table = solved.split_table ∙ every-splits Rooted n (records_in count genes) splits;
    }

-- ---- the least score, without a call

module _ (n : ℕ) (genes : List (List ℕ)) where
  -- what the search over all clusters finds
  abbrev pub least_found : Found
  least_found = found_by Rooted (best (weight Rooted genes) (allowed_for None n) (whole n)) genes

  -- and how it fills the tables that it is lent
  pub least_solves :
      (scores splits : List ℕ)
      → Solves Rooted n genes (allowed_for None n) scores splits least_found
      (filled n (λ a. score_entry (weight Rooted genes) (best (weight Rooted genes) (allowed_for None n) a)) scores)
      (filled n (λ a. split_entry (best (weight Rooted genes) (allowed_for None n) a)) splits)
  least_solves scores splits = record { reply = refl; score_table = refl; split_table = refl }

  module _ (one : 1 ≤ n) (few : n ≤ 16) where
    -- no binary species tree scores less
    pub least_under : (c : List ℕ) → BinarySpecies n c → least_score n genes ≤ score Rooted genes c
    least_under c tree = let under = solved-under genes one few (least_solves [] []) c tree in omega (arith, solved_least genes one few (least_solves [] []))

    -- and one has it
    pub least_there : (c : List ℕ) × BinarySpecies n c × (score Rooted genes c ≡ least_score n genes)
    least_there =
        let answer = every-answered one few (least_solves [] []) in
        (least_found.numbers, answer.species, answer.counted ∙ solved_least genes one few (least_solves [] []))
