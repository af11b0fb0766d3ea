-- How many clusters a tree on n species has: at least n, at most 2n - 1, and 2n - 1 exactly when it is binary.
use Prim.Native.Nat.{ℕ, ◌+◌, ◌*◌, ◌≤◌}
use mathlib.Core.Path.{◌≡◌, ap}
use mathlib.Core.List.{[], ◌∷◌, ◌++◌}
use native.Mathlib.Omega.{arith}
use lib.ListN.{length, length-append}
use Rattle.clusters.specs.Sets.{union, size}
use Rattle.clusters.proofs.Sizes.{size-apart, size-single}
use Rattle.trees.specs.Lists.{NoneTwice}
use Rattle.trees.specs.Tree.{Tree, Forest, leaves, leaves_of, cluster, cluster_of, clusters, clusters_of, On, Binary, OneBinary}
use Rattle.trees.specs.Tree.Tree.{leaf, node}
use Rattle.trees.specs.Tree.Forest.{last, more}
use Rattle.trees.proofs.Listing.{none_twice_left, none_twice_right}
use Rattle.trees.proofs.Nodes.{children-apart}

-- the sizes of the first child and of the others add up
size_both : (t : Tree) (f : Forest) → NoneTwice (leaves t ++ leaves_of f) → size (union (cluster t) (cluster_of f)) ≡ size (cluster t) + size (cluster_of f)
size_both t f p = size-apart (cluster t) (cluster_of f) (children-apart t f p)

length-node : (t : Tree) (f : Forest) (c : ℕ) → length (clusters t ++ clusters_of f ++ (c ∷ [])) ≡ length (clusters t) + length (clusters_of f) + 1
length-node t f c = simp length-append

-- ---- bounds

mutual
  unfolding leaves leaves_of cluster cluster_of clusters clusters_of

  size-le-length : (t : Tree) → NoneTwice (leaves t) → size (cluster t) ≤ length (clusters t)
  size-le-length (leaf i b) p = omega (arith, size-single i)
  size-le-length (node t f b) p =
      let h = size-le-length t (none_twice_left (leaves t) (leaves_of f) p) in
      let k = size-le_length_of f (none_twice_right (leaves t) (leaves_of f) p) in
      omega (arith, size_both t f p, length-node t f (union (cluster t) (cluster_of f)))

  size-le_length_of : (f : Forest) → NoneTwice (leaves_of f) → size (cluster_of f) ≤ length (clusters_of f)
  size-le_length_of (last t) p = size-le-length t p
  size-le_length_of (more t f) p =
      let h = size-le-length t (none_twice_left (leaves t) (leaves_of f) p) in
      let k = size-le_length_of f (none_twice_right (leaves t) (leaves_of f) p) in
      omega (arith, size_both t f p, length-append (clusters t) (clusters_of f))

mutual
  unfolding leaves leaves_of cluster cluster_of clusters clusters_of

  length_lt_twice : (t : Tree) → NoneTwice (leaves t) → length (clusters t) + 1 ≤ 2 * size (cluster t)
  length_lt_twice (leaf i b) p = omega (arith, size-single i)
  length_lt_twice (node t f b) p =
      let h = length_lt_twice t (none_twice_left (leaves t) (leaves_of f) p) in
      let k = length_lt_twice_of f (none_twice_right (leaves t) (leaves_of f) p) in
      omega (arith, size_both t f p, length-node t f (union (cluster t) (cluster_of f)))

  length_lt_twice_of : (f : Forest) → NoneTwice (leaves_of f) → length (clusters_of f) + 1 ≤ 2 * size (cluster_of f)
  length_lt_twice_of (last t) p = length_lt_twice t p
  length_lt_twice_of (more t f) p =
      let h = length_lt_twice t (none_twice_left (leaves t) (leaves_of f) p) in
      let k = length_lt_twice_of f (none_twice_right (leaves t) (leaves_of f) p) in
      omega (arith, size_both t f p, length-append (clusters t) (clusters_of f))

-- ---- binary trees

mutual
  unfolding leaves leaves_of cluster cluster_of clusters clusters_of Binary OneBinary

  binary-length : (t : Tree) → NoneTwice (leaves t) → Binary t → length (clusters t) + 1 ≡ 2 * size (cluster t)
  binary-length (leaf i b) p q = omega (arith, size-single i)
  binary-length (node t f b) p q =
      let h = binary-length t (none_twice_left (leaves t) (leaves_of f) p) q.0 in
      let k = binary_length_of f (none_twice_right (leaves t) (leaves_of f) p) q.1 in
      omega (arith, size_both t f p, length-node t f (union (cluster t) (cluster_of f)))

  binary_length_of : (f : Forest) → NoneTwice (leaves_of f) → OneBinary f → length (clusters_of f) + 1 ≡ 2 * size (cluster_of f)
  binary_length_of (last t) p q = binary-length t p q
  binary_length_of (more t f) p q = absurd q

mutual
  unfolding leaves leaves_of cluster cluster_of clusters clusters_of Binary OneBinary

  length-binary : (t : Tree) → NoneTwice (leaves t) → length (clusters t) + 1 ≡ 2 * size (cluster t) → Binary t
  length-binary (leaf i b) p e = tt
  length-binary (node t f b) p e =
      let n = none_twice_left (leaves t) (leaves_of f) p in
      let m = none_twice_right (leaves t) (leaves_of f) p in
      let h = length_lt_twice t n in
      let k = length_lt_twice_of f m in (
        length-binary t n (omega (arith, size_both t f p, length-node t f (union (cluster t) (cluster_of f)))),
        length_binary_of f m (omega (arith, size_both t f p, length-node t f (union (cluster t) (cluster_of f)))),
      )

  length_binary_of : (f : Forest) → NoneTwice (leaves_of f) → length (clusters_of f) + 1 ≡ 2 * size (cluster_of f) → OneBinary f
  length_binary_of (last t) p e = length-binary t p e
  length_binary_of (more t f) p e =
      let h = length_lt_twice t (none_twice_left (leaves t) (leaves_of f) p) in
      let k = length_lt_twice_of f (none_twice_right (leaves t) (leaves_of f) p) in
      omega (arith, size_both t f p, length-append (clusters t) (clusters_of f))

-- ---- the same for a tree on the species of s

-- "n ≤ m"
pub species-le-clusters : {s : ℕ} {t : Tree} → On s t → size s ≤ length (clusters t)
species-le-clusters {s} {t} o = omega (arith, size-le-length t o.once, ap size o.all)

-- "m ≤ 2n - 1"
pub clusters_lt_twice : {s : ℕ} {t : Tree} → On s t → length (clusters t) + 1 ≤ 2 * size s
clusters_lt_twice {s} {t} o = omega (arith, length_lt_twice t o.once, ap size o.all)

-- "m = 2n - 1 exactly when the tree is binary"
pub clusters_of_binary : {s : ℕ} {t : Tree} → On s t → Binary t → length (clusters t) + 1 ≡ 2 * size s
clusters_of_binary {s} {t} o q = omega (arith, binary-length t o.once q, ap size o.all)

pub binary_of_clusters : {s : ℕ} {t : Tree} → On s t → length (clusters t) + 1 ≡ 2 * size s → Binary t
binary_of_clusters {s} {t} o e = length-binary t o.once (omega (arith, ap size o.all))
