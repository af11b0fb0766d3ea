-- What the parts that fill and read the tables ask of one another.
use Rattle.std.specs.Prelude.{ℕ, suc, ◌-◌, ◌^◌, ◌≤◌, ◌<◌, ◌≡◌, Bool, List, length, get_or, set, Option, IfSome}
use Rattle.splits.specs.BinaryTrees.{Binary, root, clusters_in}
use Rattle.splits.specs.BinaryTrees.Binary.{tip, fork}
use Rattle.splits.specs.Least.{best, score_entry, split_entry, filled}
use Rattle.splits.specs.Ties.{tie_entry}
use Rattle.splits.specs.Work.{Light, Scored, ScoresBelow}

-- ---- the entries of one cluster

-- a cluster with an entry in both tables, all smaller ones being scored, and its own entry a weight
pub record Next (a : ℕ) (scores splits : List ℕ) : Type 0 where
  pub some : 1 ≤ a
  pub below : a < 65536
  pub score_within : a < length scores
  pub split_within : a < length splits
  pub scored : Scored a scores
  pub light : get_or scores a 0 ≤ 131072

-- both entries of a are written, whatever the weights that the table holds from a on
abbrev pub Settles : (ℕ → Bool) → ℕ → List ℕ → List ℕ → List ℕ → List ℕ → Type 0
Settles ok a scores splits scores_after splits_after =
    (w : ℕ → ℕ) → Light w → ScoresBelow w ok a scores → get_or scores a 0 ≡ w a
    → (scores_after ≡ set scores a (score_entry w (best w ok a))) × (splits_after ≡ set splits a (split_entry (best w ok a)))

-- ---- both tables

-- the first 2^n entries of the score table are these weights
abbrev pub Weights : ℕ → (ℕ → ℕ) → List ℕ → Type 0
Weights n w scores = (b : ℕ) → b < 2 ^ n → get_or scores b 0 ≡ w b

-- 2^n entries are there, in the allowed set too where it is looked at, and those of the score table are at most 131,072
pub record Fillable (n : ℕ) (allowed : Option (List ℕ)) (scores splits : List ℕ) : Type 0 where
  pub few : n ≤ 16
  pub allowed_long : IfSome allowed (λ bytes. 2 ^ n ≤ length bytes)
  pub scores_long : 2 ^ n ≤ length scores
  pub splits_long : 2 ^ n ≤ length splits
  pub light : (b : ℕ) → b < 2 ^ n → get_or scores b 0 ≤ 131072

-- both tables are filled, whatever the weights that the score table holds
abbrev pub Fills : ℕ → (ℕ → Bool) → List ℕ → List ℕ → List ℕ → List ℕ → Type 0
Fills n ok scores splits scores_after splits_after =
    (w : ℕ → ℕ) → Light w → Weights n w scores
    → (scores_after ≡ filled n (λ a. score_entry w (best w ok a)) scores) × (splits_after ≡ filled n (λ a. split_entry (best w ok a)) splits)

-- ---- the third table

-- the entries below k of both tables are those of the best trees for these weights and this allowed set
pub record Tabled (k : ℕ) (w : ℕ → ℕ) (ok : ℕ → Bool) (scores splits : List ℕ) : Type 0 where
  pub light : Light w
  pub score : (b : ℕ) → b < k → get_or scores b 0 ≡ score_entry w (best w ok b)
  pub split : (b : ℕ) → b < k → get_or splits b 0 ≡ split_entry (best w ok b)

-- the entries below a of the third table are how many trees are as good as the best
abbrev pub TiesBelow : (ℕ → ℕ) → (ℕ → Bool) → ℕ → List ℕ → Type 0
TiesBelow w ok a ties = (b : ℕ) → b < a → get_or ties b 0 ≡ tie_entry w ok b

-- a cluster with an entry in both tables, which are filled for some weights and some allowed set, all smaller ones having their ties
pub record TieNext (a : ℕ) (scores splits ties : List ℕ) : Type 0 where
  pub few : a < 65536
  pub score_within : a < length scores
  pub split_within : a < length splits
  pub tie_entries : a ≤ length ties
  pub weights : ℕ → ℕ
  pub allowed : ℕ → Bool
  pub tabled : Tabled (suc a) weights allowed scores splits
  pub below : TiesBelow weights allowed a ties

-- 2^n entries are there, and both tables are filled for some weights and some allowed set
pub record Tieable (n : ℕ) (scores splits ties : List ℕ) : Type 0 where
  pub few : n ≤ 16
  pub scores_long : 2 ^ n ≤ length scores
  pub splits_long : 2 ^ n ≤ length splits
  pub ties_long : 2 ^ n ≤ length ties
  pub weights : ℕ → ℕ
  pub allowed : ℕ → Bool
  pub tabled : Tabled (2 ^ n) weights allowed scores splits

-- the number of ties of a, whatever the weights and the allowed set that the tables are filled for
abbrev pub Ties : ℕ → List ℕ → List ℕ → List ℕ → ℕ → Type 0
Ties a scores splits ties r = (w : ℕ → ℕ) (ok : ℕ → Bool) → Tabled (suc a) w ok scores splits → TiesBelow w ok a ties → r ≡ tie_entry w ok a

-- the third table is filled, whatever the weights and the allowed set that both tables are filled for
abbrev pub FillsTies : ℕ → List ℕ → List ℕ → List ℕ → List ℕ → Type 0
FillsTies n scores splits ties ties_after =
    (w : ℕ → ℕ) (ok : ℕ → Bool) → Tabled (2 ^ n) w ok scores splits → ties_after ≡ filled n (λ a. tie_entry w ok a) ties

-- ---- the tree that the split table chooses

-- the split table leads down the tree
unfoldable pub Chosen : List ℕ → Binary → Type 0
Chosen splits (tip a) = get_or splits a 0 ≡ 0
Chosen splits (fork a t u) =
    (get_or splits a 0 ≡ root t) × (1 ≤ root t) × (root t < a) × (root u ≡ a - root t) × Chosen splits t × Chosen splits u

-- a tree on a that the split table leads down, with room for its clusters
pub record Chooses (splits : List ℕ) (a room : ℕ) : Type 0 where
  pub tree : Binary
  pub rooted : root tree ≡ a
  pub chosen : Chosen splits tree
  pub fits : length (clusters_in tree) ≤ room
