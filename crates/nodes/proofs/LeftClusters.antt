-- What is left of the clusters of a node that was read (#113): what `left_in` says in the words of the drawn tree, and that it is no more than all of them.
use Prim.Native.Nat.{ℕ, zero, suc, ◌≤◌, ◌<◌}
use native.Mathlib.Omega.{arith}
use mathlib.Core.Path.{◌≡◌, refl}
use mathlib.Core.Bool.{Bool, true, false}
use mathlib.Core.List.{List, [], ◌∷◌, ◌++◌}
use lib.ListN.{length, get_or}
use Rattle.std.proofs.Common.{None}
use Rattle.clusters.specs.Sets.{union}
use Rattle.trees.specs.Lists.{Sublist}
use Rattle.trees.specs.Lists.Sublist.{ends, kept, added}
use Rattle.trees.specs.Tree.{Tree, Forest, Behind, cluster, cluster_of, clusters}
use Rattle.trees.specs.Tree.Tree.{leaf, node}
use Rattle.trees.specs.Tree.Forest.{last, more}
use Rattle.trees.specs.Thinned.{unless_lost, left_below, left_below_of, clusters_left}
use Rattle.trees.proofs.Listing.{sublist_append}
use Rattle.trees.proofs.Thinned.{left_all, below_of_all, below_of_of_all}
use Rattle.tokens.specs.Supports.{weak, Threshold}
use Rattle.nodes.specs.Core.{left_in, left_in_of}
use Rattle.nodes.proofs.Growth.{Fresh, FreshTree, FreshForest}

-- ---- in the words of the drawn tree

-- a node below the root, whose own threshold is the same as within it
pub left_below_lem : (threshold : Threshold) (t : Tree) → left_in threshold threshold t ≡ left_below (λ b. weak threshold b) t
unfolding left_in left_below
left_below_lem threshold (leaf i b) = refl
left_below_lem threshold (node t f b) = refl

-- the root, which has none
pub left_at_root : (threshold : Threshold) (t : Tree) → left_in None threshold t ≡ clusters_left (λ b. weak threshold b) t
unfolding left_in clusters_left
left_at_root threshold (leaf i b) = refl
left_at_root threshold (node t f b) = refl

-- a node over nodes that were read, each by the threshold: what is left of theirs, and its own, unless it is lost
pub left_node :
    (own threshold : Threshold) (t : Tree) (f : Forest) (b : Behind)
    → left_in own threshold (node t f b) ≡ left_in threshold threshold t ++ left_in_of threshold f ++ unless_lost (weak own b) (union (cluster t) (cluster_of f))
unfolding left_in left_in_of
left_node own threshold t f b = rw (left_below_lem threshold t)

-- the last node of a list
pub left_of_last : (threshold : Threshold) (t : Tree) → left_in_of threshold (last t) ≡ left_in threshold threshold t
unfolding left_in_of left_below_of
left_of_last threshold t = rw (left_below_lem threshold t)

-- one more before it
pub left_of_more : (threshold : Threshold) (t : Tree) (f : Forest) → left_in_of threshold (more t f) ≡ left_in threshold threshold t ++ left_in_of threshold f
unfolding left_in_of left_below_of
left_of_more threshold t f = rw (left_below_lem threshold t)

-- "without a threshold nothing changes" (#113): all clusters are left
pub left_without : (t : Tree) → clusters_left (λ b. weak None b) t ≡ clusters t
left_without t = left_all (λ b. weak None b) (λ b. refl) t

-- ---- no more than all clusters

own_or_none : (lost : Bool) (x : ℕ) → Sublist (unless_lost lost x) (x ∷ [])
own_or_none true x = added ends
own_or_none false x = kept ends

-- each is a cluster of the node
pub left_of_node : (own threshold : Threshold) (t : Tree) → Sublist (left_in own threshold t) (clusters t)
unfolding left_in clusters
left_of_node own threshold (leaf i b) = kept ends
left_of_node own threshold (node t f b) =
    sublist_append (sublist_append (below_of_all (λ b. weak threshold b) t) (below_of_of_all (λ b. weak threshold b) f))
    (own_or_none (weak own b) (union (cluster t) (cluster_of f)))

sublist_length : {l k : List ℕ} → Sublist l k → length l ≤ length k
sublist_length ends = omega arith
sublist_length (kept h) = omega (arith, sublist_length h)
sublist_length (added h) = omega (arith, sublist_length h)

sublist_each : {l k : List ℕ} (b : ℕ) → Sublist l k → ((i : ℕ) → i < length k → get_or k i 0 < b) → (i : ℕ) → i < length l → get_or l i 0 < b
sublist_each b ends each i h = absurd (omega arith)
sublist_each b (kept s) each zero h = each zero (omega arith)
sublist_each b (kept s) each (suc i) h = sublist_each b s (λ j k. each (suc j) (omega arith)) i (omega arith)
sublist_each b (added s) each i h = sublist_each b s (λ j k. each (suc j) (omega arith)) i h

fewer-fresh : {n seen mask : ℕ} {l k : List ℕ} → Sublist l k → Fresh n seen mask k → Fresh n seen mask l
fewer-fresh s f = record {
  unmet = f.unmet;
  below = f.below;
  counted = omega (arith, f.counted, sublist_length s);
  each = sublist_each _ s f.each;
}

-- what is left of a tree that was read: fewer clusters than twice its species, all of them sets of the roster's species
pub left_fresh : (own threshold : Threshold) {n seen : ℕ} (t : Tree) → FreshTree n seen t → Fresh n seen (cluster t) (left_in own threshold t)
left_fresh own threshold t f = fewer-fresh (left_of_node own threshold t) f

-- the same of the nodes of a list
pub left_of_fresh : (threshold : Threshold) {n seen : ℕ} (f : Forest) → FreshForest n seen f → Fresh n seen (cluster_of f) (left_in_of threshold f)
unfolding left_in_of
left_of_fresh threshold f h = fewer-fresh (below_of_of_all (λ b. weak threshold b) f) h
