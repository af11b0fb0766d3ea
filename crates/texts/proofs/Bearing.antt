-- A tree with other things behind its nodes has the same leaves and clusters.
use Prim.Native.Nat.{ℕ}
use mathlib.Core.Path.{◌≡◌, refl, ap₂}
use mathlib.Core.List.{List, ◌∷◌, ◌++◌, []}
use Rattle.clusters.specs.Sets.{union}
use Rattle.trees.specs.Tree.{Tree, Forest, Behind, leaves, leaves_of, cluster, cluster_of, clusters, clusters_of}
use Rattle.trees.specs.Tree.Tree.{leaf, node}
use Rattle.trees.specs.Tree.Forest.{last, more}
use Rattle.texts.specs.Writing.{bearing, bearing_all}

module _ (behind : ℕ → Behind) where
  mutual
    unfolding bearing bearing_all leaves leaves_of

    pub bearing-leaves : (t : Tree) → leaves (bearing behind t) ≡ leaves t
    bearing-leaves (leaf i b) = refl
    bearing-leaves (node t f b) = ap₂ ◌++◌ (bearing-leaves t) (bearing-leaves_of f)

    bearing-leaves_of : (f : Forest) → leaves_of (bearing_all behind f) ≡ leaves_of f
    bearing-leaves_of (last t) = bearing-leaves t
    bearing-leaves_of (more t f) = ap₂ ◌++◌ (bearing-leaves t) (bearing-leaves_of f)

  mutual
    unfolding bearing bearing_all cluster cluster_of

    pub bearing-cluster : (t : Tree) → cluster (bearing behind t) ≡ cluster t
    bearing-cluster (leaf i b) = refl
    bearing-cluster (node t f b) = ap₂ union (bearing-cluster t) (bearing-cluster_of f)

    bearing-cluster_of : (f : Forest) → cluster_of (bearing_all behind f) ≡ cluster_of f
    bearing-cluster_of (last t) = bearing-cluster t
    bearing-cluster_of (more t f) = ap₂ union (bearing-cluster t) (bearing-cluster_of f)

  mutual
    unfolding bearing bearing_all cluster cluster_of clusters clusters_of

    pub bearing-clusters : (t : Tree) → clusters (bearing behind t) ≡ clusters t
    bearing-clusters (leaf i b) = refl
    bearing-clusters (node t f b) =
        ap₂ (λ (l : List ℕ) (a : ℕ). l ++ (a ∷ [])) (ap₂ ◌++◌ (bearing-clusters t) (bearing-clusters_of f)) (bearing-cluster (node t f b))

    bearing-clusters_of : (f : Forest) → clusters_of (bearing_all behind f) ≡ clusters_of f
    bearing-clusters_of (last t) = bearing-clusters t
    bearing-clusters_of (more t f) = ap₂ ◌++◌ (bearing-clusters t) (bearing-clusters_of f)
