-- The tree as drawn, its species and its clusters (01, "Tree text").
use Rattle.std.specs.Prelude.{ℕ, ◌≡◌, List, [], ◌∷◌, ◌++◌}
use Rattle.clusters.specs.Sets.{single, union}
use Rattle.trees.specs.Lists.{NoneTwice}

-- what was written behind a node: its name (of an inner node), the d of `:d` and the b of `:d:b` or `::b`; empty where nothing was
pub record Behind : Type 0 where
  pub name : List ℕ
  pub distance : List ℕ
  pub support : List ℕ

-- "A node is a leaf's name, or a parenthesis of two or more nodes": a leaf with its species, or a first child and the others
mutual
  pub data Tree : Type 0 where
    leaf : ℕ → Behind → Tree
    node : Tree → Forest → Behind → Tree

  pub data Forest : Type 0 where
    last : Tree → Forest
    more : Tree → Forest → Forest

-- the species of the leaves, from the left
unfoldable mutual
  pub leaves : Tree → List ℕ
  leaves (leaf i b) = i ∷ []
  leaves (node t f b) = leaves t ++ leaves_of f

  pub leaves_of : Forest → List ℕ
  leaves_of (last t) = leaves t
  leaves_of (more t f) = leaves t ++ leaves_of f

-- a node's cluster: the set of its leaves
unfoldable mutual
  pub cluster : Tree → ℕ
  cluster (leaf i b) = single i
  cluster (node t f b) = union (cluster t) (cluster_of f)

  pub cluster_of : Forest → ℕ
  cluster_of (last t) = cluster t
  cluster_of (more t f) = union (cluster t) (cluster_of f)

-- the clusters that a tree draws: one for each node, in the order in which the nodes end
unfoldable mutual
  pub clusters : Tree → List ℕ
  clusters (leaf i b) = single i ∷ []
  clusters (node t f b) = clusters t ++ clusters_of f ++ (union (cluster t) (cluster_of f) ∷ [])

  pub clusters_of : Forest → List ℕ
  clusters_of (last t) = clusters t
  clusters_of (more t f) = clusters t ++ clusters_of f

-- a tree on the species of s: each of them is a leaf once, and no other is
pub record On (s : ℕ) (t : Tree) : Type 0 where
  pub once : NoneTwice (leaves t)
  pub all : cluster t ≡ s

-- every inner node has two children
unfoldable mutual
  pub Binary : Tree → Type 0
  Binary (leaf i b) = Unit {0}
  Binary (node t f b) = Binary t × OneBinary f

  pub OneBinary : Forest → Type 0
  OneBinary (last t) = Binary t
  OneBinary (more t f) = ⊥
