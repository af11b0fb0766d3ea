-- What a search accepts, which records compete, and what the tree that is found has over the others.
use Rattle.std.specs.Prelude.{ℕ, ◌^◌, ◌≤◌, ◌<◌, ◌≡◌, ◌⊎◌, ◌↔◌, true, List, length, get_or, take, drop}
use Rattle.clusters.specs.Sets.{whole}
use Rattle.trees.specs.Lists.{Among}
use Rattle.trees.specs.Records.{listed, record_of, ValidOn, BinaryOn}
use Rattle.lineages.specs.InOrder.{GenesInOrder}
use Rattle.weights.specs.Count.{score}
use Rattle.splits.specs.BinaryTrees.{Binary, clusters_in}
use Rattle.splits.specs.Order.{Earlier}
use Rattle.splits.specs.WellFormed.{TreeOn}
use Rattle.terms.specs.Allowed.{allowed_in}
use Rattle.terms.specs.declared.Found.{Found}
use Rattle.weights.specs.declared.Rooting.{Rooting}

-- no test finds a fault
pub record Accepted (rooting : Rooting) (n : ℕ) (genes : List ℕ) (count : ℕ) (allowed scores splits : List ℕ) : Type 0 where
  pub in_order : GenesInOrder rooting n genes count
  pub allowed_fits : 2 ^ n ≤ length allowed
  pub scores_fit : 2 ^ n ≤ length scores
  pub splits_fit : 2 ^ n ≤ length splits
  pub allowed_bytes : (a : ℕ) → a < 2 ^ n → get_or allowed a 0 ≤ 1

-- a valid binary species record, all of whose clusters are allowed
pub record Candidate (n : ℕ) (allowed c : List ℕ) : Type 0 where
  pub valid : ValidOn (whole n) c
  pub binary : BinaryOn (whole n) c
  pub over : (a : ℕ) → Among a (listed c) → allowed_in n allowed a ≡ true

-- a valid binary species record, whatever its clusters
pub record BinarySpecies (n : ℕ) (c : List ℕ) : Type 0 where
  pub valid : ValidOn (whole n) c
  pub binary : BinaryOn (whole n) c

-- the trees of two records, the first of them earlier in 01's order
pub record EarlierRecord (n : ℕ) (c d : List ℕ) : Type 0 where
  pub tree : Binary
  pub later : Binary
  pub tree_on : TreeOn (whole n) tree
  pub later_on : TreeOn (whole n) later
  pub tree_recorded : record_of (clusters_in tree) ≡ c
  pub later_recorded : record_of (clusters_in later) ≡ d
  pub earlier : Earlier tree later

-- "no binary tree over them scores less"; of equals it is the first: whatever scores the records
pub record AnswerBy (scores : List ℕ → ℕ) (n : ℕ) (allowed : List ℕ) (r : Found) : Type 0 where
  pub competes : Candidate n allowed r.numbers
  pub counted : scores r.numbers ≡ r.score
  pub least : (c : List ℕ) → Candidate n allowed c → r.score ≤ scores c
  pub first : (c : List ℕ) → Candidate n allowed c → scores c ≡ r.score → (r.numbers ≡ c) ⊎ EarlierRecord n r.numbers c

-- the same for the scores over gene trees
abbrev pub Answer : Rooting → ℕ → List (List ℕ) → List ℕ → Found → Type 0
Answer rooting n genes allowed r = AnswerBy (score rooting genes) n allowed r

-- "the least one over all clusters" (#114): there is a tree, no binary species tree scores less, and of equals it is the first
pub record AnswerOfAll (rooting : Rooting) (n : ℕ) (genes : List (List ℕ)) (r : Found) : Type 0 where
  pub number : r.number ≡ 0
  pub place : r.place ≡ 0
  pub species : BinarySpecies n r.numbers
  pub counted : score rooting genes r.numbers ≡ r.score
  pub least : (c : List ℕ) → BinarySpecies n c → r.score ≤ score rooting genes c
  pub first : (c : List ℕ) → BinarySpecies n c → score rooting genes c ≡ r.score → (r.numbers ≡ c) ⊎ EarlierRecord n r.numbers c

-- two allowed sets that say the same for n species: of every cluster, while "byte 0 has no meaning, though it too must be 0 or 1"
pub record SameAllowed (n : ℕ) (allowed other : List ℕ) : Type 0 where
  pub long : 2 ^ n ≤ length allowed
  pub other_long : 2 ^ n ≤ length other
  pub clusters : (a : ℕ) → 1 ≤ a → a < 2 ^ n → get_or allowed a 0 ≡ get_or other a 0
  pub byte_0 : (get_or allowed 0 0 ≤ 1) ↔ (get_or other 0 0 ≤ 1)

-- two tables as their calls leave them: the entries of n species are equal, and "Entries from 2^n on stay"
pub record SameTable (n : ℕ) (lent after lent' after' : List ℕ) : Type 0 where
  pub entries : take (2 ^ n) after ≡ take (2 ^ n) after'
  pub beyond : drop (2 ^ n) after ≡ drop (2 ^ n) lent
  pub beyond' : drop (2 ^ n) after' ≡ drop (2 ^ n) lent'
