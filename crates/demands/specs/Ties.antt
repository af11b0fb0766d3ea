-- How many trees are as good (#111): the trees that an entry of the third table counts, and a search that was made with ties.
use Rattle.std.specs.Prelude.{ℕ, ◌≡◌, ◌⊎◌, true, get_or}
use mathlib.Core.List.{List, map, Memᴰ}
use Rattle.trees.specs.Lists.{Among, total}
use Rattle.weights.specs.Count.{weight}
use Rattle.weights.specs.declared.Rooting.{Rooting}
use Rattle.terms.specs.Allowed.{allowed_in}
use Rattle.splits.specs.BinaryTrees.{Binary, clusters_in}
use Rattle.splits.specs.WellFormed.{TreeOn}
use Rattle.splits.specs.Least.{score_of}
use Rattle.search.specs.TiesPromise.{with_ties, FindsTies}
use Rattle.search.specs.LeastAmong.{LeastAmong}
use Rattle.search.specs.declared.tied.Tied.{Tied}
use Rattle.demands.specs.Lots.{Searched, records}

-- ---- the trees of a cluster

-- a binary tree on a "over the allowed clusters" (#111)
pub record OverAllowed (n : ℕ) (allowed : List ℕ) (a : ℕ) (t : Binary) : Type 0 where
  pub on : TreeOn a t
  pub over : (b : ℕ) → Among b (clusters_in t) → allowed_in n allowed b ≡ true

-- one of those that "reach the least score" (#111): none of them scores less
abbrev pub LeastOn : Rooting → ℕ → List ℕ → List (List ℕ) → ℕ → Binary → Type 0
LeastOn rooting n allowed genes a t = LeastAmong (OverAllowed n allowed a) (score_of (weight rooting genes)) t

-- ---- calls

-- every check was passed: the reply is a tree (0), or that there is none (14)
abbrev pub TiesPassed : Tied → Type 0
TiesPassed r = (r.number ≡ 0) ⊎ (r.number ≡ 14)

-- a search that was made with ties: the third table that was lent to it, how many ties it reported, and what stood in that table then
pub record MadeWithTies {rooting : Rooting} {n : ℕ} (s : Searched rooting n) : Type 0 where
  pub ties : List ℕ
  pub their_number : ℕ
  pub ties_after : List ℕ
  pub finds_ties :
      FindsTies rooting n s.genes s.count s.allowed s.scores s.splits ties (with_ties s.reply their_number) s.scores_after s.splits_after
      ties_after

-- ---- lots, for every cluster

-- a tree on a that is least for every lot
abbrev pub LeastOnEach : {rooting : Rooting} {n : ℕ} → List (Searched rooting n) → ℕ → Binary → Type 0
LeastOnEach {rooting} {n} lots a t = (s : Searched rooting n) → Memᴰ s lots → LeastOn rooting n s.allowed (records s) a t

-- the sum of the lots' least scores of a, as their score tables have them
abbrev pub sum_of_entries : {rooting : Rooting} {n : ℕ} → List (Searched rooting n) → ℕ → ℕ
sum_of_entries {rooting} {n} lots a = total (map (λ (s : Searched rooting n). get_or s.scores_after a 0) lots)
