-- The first least-scoring tree over allowed clusters, for any weights and any allowed set.
use Rattle.std.specs.Prelude.{ℕ, ◌^◌, Bool, true, false, ◌&&◌, List, [], ◌∷◌, ◌++◌, map, drop, leb}
use Rattle.std.proofs.Math.Option.{Option, some, none}
use Rattle.trees.specs.Valid.{every}
use Rattle.trees.specs.Lists.{up_to, total}
use Rattle.splits.specs.BinaryTrees.{Binary, clusters_in, trees_on, root}
use Rattle.splits.specs.BinaryTrees.Binary.{tip, fork}

-- the tree at the front, where it passes the test
abbrev pub keep_tree : Bool → Binary → List Binary → List Binary
keep_tree true t l = t ∷ l
keep_tree false t l = l

-- the trees of the list that pass a test, in their order
unfoldable pub those : (Binary → Bool) → List Binary → List Binary
those test [] = []
those test (t ∷ l) = keep_tree (test t) t (those test l)

-- every tree of the list passes the test
unfoldable pub all : (Binary → Bool) → List Binary → Bool
all test [] = true
all test (t ∷ l) = test t && all test l

-- "The score of a species tree is the sum of the weights of all its clusters"
unfoldable pub score_of : (ℕ → ℕ) → Binary → ℕ
score_of w t = total (map w (clusters_in t))

-- the binary trees on a over allowed clusters
unfoldable pub trees_over : (ℕ → Bool) → ℕ → List Binary
unfolding those
trees_over ok a = those (λ t. every ok (clusters_in t)) (trees_on a)

-- those of the trees than which none of them scores less
unfoldable pub least_trees : (ℕ → ℕ) → List Binary → List Binary
unfolding those all
least_trees w ts = those (λ t. all (λ u. leb (score_of w t) (score_of w u)) ts) ts

-- the first of the trees, if there is one
abbrev pub first : List Binary → Option Binary
first [] = none
first (t ∷ l) = some t

-- "The first least-scoring tree is the answer"
unfoldable pub best : (ℕ → ℕ) → (ℕ → Bool) → ℕ → Option Binary
best w ok a = first (least_trees w (trees_over ok a))

-- "4,294,967,295 where A is not allowed or has no such tree"
abbrev pub no_tree : ℕ
no_tree = 4294967295

-- the score table's entry: "the least score of a binary tree on A over allowed clusters, its own weight included"
abbrev pub score_entry : (ℕ → ℕ) → Option Binary → ℕ
score_entry w (some t) = score_of w t
score_entry w none = no_tree

-- the split table's entry: "the chosen low part, or 0 for singles, for entry 0 and where none exists"
abbrev pub split_entry : Option Binary → ℕ
split_entry (some (tip a)) = 0
split_entry (some (fork a t u)) = root t
split_entry none = 0

-- a table filled for n species: "Entries from 2^n on stay"
abbrev pub filled : ℕ → (ℕ → ℕ) → List ℕ → List ℕ
filled n entry lent = map entry (up_to (2 ^ n)) ++ drop (2 ^ n) lent
