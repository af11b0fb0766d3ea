-- Clusters that are lost (#113): a gene record without some of another's clusters, and what is left of a drawn tree's clusters where some of its inner nodes lose theirs.
use Rattle.std.specs.Prelude.{ℕ, ◌≡◌, Bool, true, false}
use mathlib.Core.List.{List, [], ◌∷◌, ◌++◌, Memᴰ}
use Rattle.clusters.specs.Sets.{single, union}
use Rattle.trees.specs.Lists.{Among}
use Rattle.trees.specs.Records.{listed, largest}
use Rattle.trees.specs.Tree.{Tree, Forest, Behind, cluster, cluster_of}
use Rattle.trees.specs.Tree.Tree.{leaf, node}
use Rattle.trees.specs.Tree.Forest.{last, more}

-- for valid records: r' is what is left of r where nodes lose their clusters, "not the root" (#113): the whole set is the same, and each cluster of r' is one of r
pub record Thinned (r r' : List ℕ) : Type 0 where
  pub same_species : largest r' ≡ largest r
  pub fewer : (x : ℕ) → Among x (listed r') → Among x (listed r)

-- gene records of which each lost some: each of the second list is what is left of the one at its place in the first
pub data AllThinned : List (List ℕ) → List (List ℕ) → Type 0 where
  no_records : AllThinned [] []
  beside : {r r' : List ℕ} {genes genes' : List (List ℕ)} → Thinned r r' → AllThinned genes genes' → AllThinned (r ∷ genes) (r' ∷ genes')

-- the cluster, unless it is lost
abbrev pub unless_lost : Bool → ℕ → List ℕ
unless_lost true x = []
unless_lost false x = x ∷ []

-- what is left of the clusters of a subtree below the root: "An inner node .. loses its cluster" where the test of what stands behind it says so (#113)
unfoldable mutual
  pub left_below : (Behind → Bool) → Tree → List ℕ
  left_below weak (leaf i b) = single i ∷ []
  left_below weak (node t f b) = left_below weak t ++ left_below_of weak f ++ unless_lost (weak b) (union (cluster t) (cluster_of f))

  pub left_below_of : (Behind → Bool) → Forest → List ℕ
  left_below_of weak (last t) = left_below weak t
  left_below_of weak (more t f) = left_below weak t ++ left_below_of weak f

-- what is left of the clusters of a tree: "An inner node, not the root, .. loses its cluster" (#113)
unfoldable pub clusters_left : (Behind → Bool) → Tree → List ℕ
unfolding left_below left_below_of
clusters_left weak (leaf i b) = single i ∷ []
clusters_left weak (node t f b) = left_below weak t ++ left_below_of weak f ++ (union (cluster t) (cluster_of f) ∷ [])

-- all nodes of a tree, in the order in which they end
unfoldable mutual
  pub all_nodes : Tree → List Tree
  all_nodes (leaf i b) = leaf i b ∷ []
  all_nodes (node t f b) = all_nodes t ++ all_nodes_of f ++ (node t f b ∷ [])

  pub all_nodes_of : Forest → List Tree
  all_nodes_of (last t) = all_nodes t
  all_nodes_of (more t f) = all_nodes t ++ all_nodes_of f

-- those that are "not the root" (#113)
unfoldable pub below_root : Tree → List Tree
unfolding all_nodes all_nodes_of
below_root (leaf i b) = []
below_root (node t f b) = all_nodes t ++ all_nodes_of f

-- "An inner node" that is weak (#113)
unfoldable pub WeakInner : (Behind → Bool) → Tree → Type 0
WeakInner weak (leaf i b) = ⊥
WeakInner weak (node t f b) = weak b ≡ true

-- x is the cluster of a weak "inner node, not the root" (#113)
pub record OfWeak (weak : Behind → Bool) (t : Tree) (x : ℕ) : Type 0 where
  pub whose : Tree
  pub below : Memᴰ whose (below_root t)
  pub inner : WeakInner weak whose
  pub is : cluster whose ≡ x
