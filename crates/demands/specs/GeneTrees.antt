-- Gene trees as drawn: the records that they have, and the score counted over them.
use Rattle.std.specs.Prelude.{ℕ, ◌-◌, ◌≡◌}
use mathlib.Core.List.{List, map, Memᴰ}
use Rattle.clusters.specs.Sets.{whole}
use Rattle.trees.specs.Tree.{Tree, On, leaves, cluster, clusters}
use Rattle.trees.specs.Unrooted.{RootedAnyhow}
use Rattle.trees.specs.Records.{listed, record_of, ClusterOf}
use Rattle.trees.specs.Lists.{NoneTwice, total}
use Rattle.weights.specs.declared.Rooting.{Rooting}
use Rattle.weights.specs.declared.Rooting.TheVariants.{Rooted, Unrooted}
use Rattle.weights.specs.Count.{unrooted_clusters, k_of, k_by}

-- a gene tree as drawn: each of its species is a leaf once, and these are some of n, at least one (#104)
pub record OnSome (n : ℕ) (t : Tree) : Type 0 where
  pub once : NoneTwice (leaves t)
  pub species : ClusterOf n (cluster t)

-- the gene records are those of these drawn gene trees
pub record RecordsOf (n : ℕ) (genes : List (List ℕ)) (trees : List Tree) : Type 0 where
  pub records : genes ≡ map (λ (t : Tree). record_of (clusters t)) trees
  pub on : (t : Tree) → Memᴰ t trees → OnSome n t

-- a gene tree that may be counted without a root: "Only complete trees enter, binary save that the root may have three children" (#106)
pub record Enters (n : ℕ) (t : Tree) : Type 0 where
  pub complete : On (whole n) t
  pub resolved : RootedAnyhow t

-- a gene record that may: that of such a tree
pub record MayEnter (n : ℕ) (g : List ℕ) : Type 0 where
  pub tree : Tree
  pub enters : Enters n tree
  pub records : record_of (clusters tree) ≡ g

-- the clusters that a gene tree shows: those that it draws, or, without a root, "those of its record and the complement of each but the whole" (#106)
abbrev pub clusters_shown : Rooting → Tree → List ℕ
clusters_shown Rooted t = clusters t
clusters_shown Unrooted t = unrooted_clusters (record_of (clusters t))

-- k of a gene tree: the count of #101, over the clusters of the tree as drawn; without a root that of its record (#106)
abbrev pub k_in : Rooting → Tree → ℕ → ℕ
k_in Rooted t a = k_of (clusters t) a
k_in Unrooted t a = k_by Unrooted (record_of (clusters t)) a

-- "the sum, over its clusters and all gene trees", of k, "less one", and of 0 for a gene tree with no cluster within A (#104)
unfoldable pub score_over : Rooting → List Tree → List ℕ → ℕ
score_over rooting trees species = total (map (λ (a : ℕ). total (map (λ (t : Tree). k_in rooting t a - 1) trees)) (listed species))
