-- The third demand: the tree that the search returns, when there is none, and how the reply changes with the allowed set and the gene trees.
use Prim.Native.Nat.{ℕ, ◌^◌, ◌≤◌, ◌<◌}
use mathlib.Core.Path.{◌≡◌, sym, ◌∙◌, subst}
use mathlib.Core.Logic.{◌⊎◌, ◌↔◌}
use mathlib.Core.Bool.{true}
use mathlib.Core.List.{List}
use Rattle.clusters.specs.Sets.{whole}
use Rattle.trees.specs.Lists.{Among, Sublist}
use Rattle.trees.specs.Records.{listed, SpeciesValid, BinaryOn, records_in}
use Rattle.roster.specs.declared.Reply.{Reply}
use Rattle.weights.specs.Count.{score}
use Rattle.weights.specs.declared.Rooting.{Rooting}
use Rattle.lineages.specs.Promise.{Scores}
use Rattle.terms.specs.Allowed.{allowed_in}
use Rattle.search.specs.Promise.{Finds}
use Rattle.terms.specs.declared.Found.{Found}
use Rattle.search.specs.Candidates.{Accepted, Candidate, EarlierRecord}
use Rattle.search.proofs.Demand.{answer, zero_exactly, fourteen_exactly, more_allowed_clusters, more_gene_trees}
use Rattle.demands.specs.Scorable.{Scorable}
use Rattle.demands.proofs.Scorable.{scored_exactly, scored-value}

-- what the search accepts, the scoring call accepts for every tree that competes
competitor-scorable :
    (rooting : Rooting) {n : ℕ} {genes : List ℕ} {count : ℕ} {allowed scores splits c : List ℕ}
    → Accepted rooting n genes count allowed scores splits → Candidate n allowed c → Scorable rooting n genes count c
competitor-scorable rooting a k = record { in_order = a.in_order; species_valid = k.valid; species_binary = k.binary }

-- ---- "For given gene trees and a given set of allowed clusters"

module _ (rooting : Rooting) (n : ℕ) (genes : List ℕ) (count : ℕ) (allowed scores splits : List ℕ) (r : Found) (s p : List ℕ)
    (found : Finds rooting n genes count allowed scores splits r s p) where
  -- "the tree returned uses only allowed clusters": it is a valid binary record, and each of its clusters is allowed
  pub returned-tree_is_allowed :
      r.number ≡ 0
      → SpeciesValid n r.numbers × BinaryOn (whole n) r.numbers × ((a : ℕ) → Among a (listed r.numbers) → allowed_in n allowed a ≡ true)
  returned-tree_is_allowed z = let k = (answer found z).competes in (k.valid, k.binary, k.over)

  -- "The comparisons of scores in 3 rest on 2's count": the reply's score is what the scoring call gives for the reply's tree
  pub returned-score_is_the_count : r.number ≡ 0 → (q : Reply) → Scores rooting n genes count r.numbers q → (q.number ≡ 0) × (q.value ≡ r.score)
  returned-score_is_the_count z q c =
      let a = answer found z in
      let y = (scored_exactly rooting n genes count r.numbers q c).1 (competitor-scorable rooting ((zero_exactly found).0 z).0 a.competes) in
      (y, scored-value rooting n genes count r.numbers q c y ∙ a.counted)

  -- "and no binary tree over them scores less"
  pub no_tree_scores_less :
      r.number ≡ 0 → (c : List ℕ) → Candidate n allowed c → (q : Reply) → Scores rooting n genes count c q → (q.number ≡ 0) × (r.score ≤ q.value)
  no_tree_scores_less z c k q e =
      let y = (scored_exactly rooting n genes count c q e).1 (competitor-scorable rooting ((zero_exactly found).0 z).0 k) in
      (y, subst (λ (m : ℕ). r.score ≤ m) (sym (scored-value rooting n genes count c q e y)) ((answer found z).least c k))

  -- "Of equal trees one is chosen": the first in 01's order
  pub returned-tree_is_the_first :
      r.number ≡ 0 → (c : List ℕ) → Candidate n allowed c → score rooting (records_in count genes) c ≡ r.score
      → (r.numbers ≡ c) ⊎ EarlierRecord n r.numbers c
  returned-tree_is_the_first z = (answer found z).first

  -- "she is told there is none exactly when none exists"
  pub told_none_exactly_when_none_exists :
      (r.number ≡ 14) ↔ (Accepted rooting n genes count allowed scores splits × ((c : List ℕ) → Candidate n allowed c → ⊥))
  told_none_exactly_when_none_exists = fourteen_exactly found

  -- and a tree is returned exactly when one exists
  pub tree-returned_exactly_when_one_exists :
      (r.number ≡ 0) ↔ (Accepted rooting n genes count allowed scores splits × ((c : List ℕ) × Candidate n allowed c))
  tree-returned_exactly_when_one_exists = zero_exactly found

-- ---- "With the gene trees kept, allowing more clusters never loses an answer or raises its score."

pub allowing_more_clusters :
    (rooting : Rooting) (n : ℕ) (genes : List ℕ) (count : ℕ) (allowed wider scores splits scores' splits' : List ℕ) (r q : Found) (s p s' p' : List ℕ)
    → Finds rooting n genes count allowed scores splits r s p → Finds rooting n genes count wider scores' splits' q s' p'
    → ((a : ℕ) → 1 ≤ a → a < 2 ^ n → allowed_in n allowed a ≡ true → allowed_in n wider a ≡ true) → Accepted rooting n genes count wider scores' splits'
    → r.number ≡ 0 → (q.number ≡ 0) × (q.score ≤ r.score)
allowing_more_clusters rooting n genes count allowed wider scores splits scores' splits' r q s p s' p' f g = more_allowed_clusters f g

-- ---- "With the allowed set kept and all inside the limits, adding gene trees never lowers the score, nor changes whether there is a tree."

-- the old records stand among the new ones in their order, and others stand anywhere between them
pub adding_gene_trees :
    (rooting : Rooting) (n : ℕ) (genes more : List ℕ) (count count' : ℕ) (allowed scores splits scores' splits' : List ℕ) (r q : Found) (s p s' p' : List ℕ)
    → Sublist (records_in count genes) (records_in count' more)
    → Finds rooting n genes count allowed scores splits r s p → Finds rooting n more count' allowed scores' splits' q s' p'
    → Accepted rooting n genes count allowed scores splits → Accepted rooting n more count' allowed scores' splits'
    → (r.number ≡ q.number) × (r.score ≤ q.score)
adding_gene_trees rooting n genes more count count' allowed scores splits scores' splits' r q s p s' p' sub f g = more_gene_trees sub f g
