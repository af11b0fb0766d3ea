-- What the parts of the plain engine ask of one another.
use Rattle.std.specs.Prelude.{ℕ, ◌-◌, ◌*◌, ◌^◌, ◌≤◌, ◌<◌, ◌≡◌, List, Option as Maybe, Some, None, [], ◌∷◌, ◌++◌, length, get_or, take}
use Rattle.std.proofs.Math.Option.{Option, some, none}
use Rattle.clusters.specs.Sets.{whole}
use Rattle.trees.specs.Valid.{every}
use Rattle.trees.specs.Records.{records_in}
use Rattle.roster.specs.Verdict.{Verdict, verdict}
use Rattle.weights.specs.Count.{weight}
use Rattle.weights.specs.declared.Rooting.{Rooting}
use Rattle.lineages.specs.InOrder.{Shaped}
use Rattle.terms.specs.Allowed.{allowed_in}
use Rattle.splits.specs.BinaryTrees.{Binary, clusters_in, forks, trees_on}
use Rattle.splits.specs.BinaryTrees.Binary.{tip}
use Rattle.splits.specs.Least.{those, score_of, least_trees, first}
use Rattle.splits.specs.WellFormed.{LowPart}
use Rattle.plain.specs.Numbering.{tree_of}
use Rattle.plain.specs.Promise.{plain_most, plain_tests}
use Rattle.plain.specs.declared.Best.{Best}
use Rattle.plain.specs.declared.numbering.Part.{Part}

-- ---- the trees by their numbers

-- a cluster of at most sixteen species, and the number of a tree on it
pub record Numbered (a i : ℕ) : Type 0 where
  pub some : 1 ≤ a
  pub few : a < 65536
  pub among : i < length (trees_on a)

-- the low part at the root of the tree of number i on a, and the number of that tree among those with this low part
pub record PartOf (a i : ℕ) (r : Part) : Type 0 where
  pub low_part : LowPart a r.low
  pub among : r.number < length (trees_on r.low) * length (trees_on (a - r.low))
  pub same : tree_of a i ≡ get_or (forks a (trees_on r.low) (trees_on (a - r.low))) r.number (tip a)

-- ---- the best so far

-- the tree that was found: its score, and its number among the trees on a
pub record Kept (w : ℕ → ℕ) (a : ℕ) (t : Binary) (b : Best) : Type 0 where
  pub score : b.score ≡ score_of w t
  pub among : b.number < length (trees_on a)
  pub tree : tree_of a b.number ≡ t

-- no tree was found, or this one
unfoldable pub Keeps : (ℕ → ℕ) → ℕ → Option Binary → Maybe Best → Type 0
Keeps w a none None = Unit {0}
Keeps w a none (Some b) = ⊥
Keeps w a (some t) None = ⊥
Keeps w a (some t) (Some b) = Kept w a t b

-- of some trees on a, "keeps the first least one" (#108)
unfoldable pub KeepsLeast : (ℕ → ℕ) → ℕ → List Binary → Maybe Best → Type 0
unfolding Keeps
KeepsLeast w a ts b = Keeps w a (first (least_trees w ts)) b

-- where b keeps the least of some trees, r keeps that of these and the tree of this number behind them, by all weights that give the tree this score
unfoldable pub Adds : Maybe Best → ℕ → ℕ → Maybe Best → Type 0
Adds b score number r =
    (w : ℕ → ℕ) (a : ℕ) (ts : List Binary) → number < length (trees_on a) → score ≡ score_of w (tree_of a number)
    → KeepsLeast w a ts b → KeepsLeast w a (ts ++ (tree_of a number ∷ [])) r

-- the best so far, once k trees on n species were visited "in 01's order": the least of "those over allowed clusters" (#108)
unfoldable pub BestOfFirst : Rooting → ℕ → List ℕ → ℕ → List ℕ → ℕ → Maybe Best → Type 0
unfolding KeepsLeast
BestOfFirst rooting n genes count allowed k b =
    KeepsLeast (weight rooting (records_in count genes)) (whole n) (those (λ t. every (allowed_in n allowed) (clusters_in t)) (take k (trees_on (whole n)))) b

-- ---- the checks of shape

-- at most seven species, and what is lent has the entries that are counted
pub record PlainShaped (n : ℕ) (genes : List ℕ) (count : ℕ) (allowed : List ℕ) : Type 0 where
  pub shaped : Shaped n genes count
  pub few : n ≤ plain_most
  pub long : 2 ^ n ≤ length allowed

-- 1, 17, 11 or 12 is what the tests of the call say; and a verdict of 0 says that none of these is at fault
pub record ShapeJudged (n : ℕ) (genes : List ℕ) (count : ℕ) (allowed : List ℕ) (r : Verdict) : Type 0 where
  pub refused : (r.number ≡ 0 → ⊥) → (rooting : Rooting) → verdict (plain_tests rooting n genes count allowed) ≡ r
  pub passed : r.number ≡ 0 → PlainShaped n genes count allowed
