-- Trees "binary save that the root may have three children" (#106), told by their clusters: as many as a binary tree has; or one fewer, and no two part the species.
use Prim.Native.Nat.{ℕ, ◌+◌, ◌-◌, ◌*◌, ◌≤◌}
use mathlib.Core.Path.{◌≡◌, refl, subst}
use mathlib.Core.Logic.{◌⊎◌, inl, inr, ◌↔◌}
use mathlib.Core.List.Memᴰ
use mathlib.Core.List.{List, [], ◌∷◌, ◌++◌}
use native.Mathlib.Omega.{arith}
use lib.ListN.{length, length-append}
use Rattle.clusters.specs.Sets.{Has, Within, Apart, union, size}
use Rattle.clusters.proofs.Members.{has_dec, some_has, has_of_within, has_of_apart}
use Rattle.clusters.proofs.Sets.{within_trans, within-le, within-union_left, within-union_right, apart-sym, apart-within, minus_has, union_minus_left}
use Rattle.clusters.proofs.Sizes.{size-apart}
use Rattle.trees.specs.Lists.{Among, NoneTwice}
use Rattle.trees.specs.Tree.{Tree, Forest, Behind, leaves, leaves_of, cluster, cluster_of, clusters, clusters_of, On, Binary, OneBinary}
use Rattle.trees.specs.Tree.Tree.{leaf, node}
use Rattle.trees.specs.Tree.Forest.{last, more}
use Rattle.trees.specs.Unrooted.{RootedAnyhow, OneOrTwo}
use Rattle.trees.proofs.Listing.{none_twice_left, none_twice_right}
use Rattle.trees.proofs.Nodes.{children-apart, cluster_some, cluster_of_some, clusters-inside, clusters_of-inside, whole_among}
use Rattle.trees.proofs.Counts.{clusters_lt_twice, clusters_of_binary, binary_of_clusters}

-- two clusters of the list part s between them
pub record Halved (s : ℕ) (cs : List ℕ) : Type 0 where
  pub one : ℕ
  pub among : Among one cs
  pub other : Among (s - one) cs

-- as many clusters as a binary tree on s has; or one fewer, and no two of them part s
abbrev pub FewLost : ℕ → List ℕ → Type 0
FewLost s cs = (length cs + 1 ≡ 2 * size s) ⊎ ((length cs + 2 ≡ 2 * size s) × (Halved s cs → ⊥))

-- ---- three parts

-- a part with species, apart from p and from q, is not held by x and the rest of s, which lie in p and in q
third-part : (s x p q d : ℕ) → Within x s → Within x p → Within (s - x) q → Within d s → 1 ≤ d → Apart p d → Apart q d → ⊥
third-part s x p q d w u v k some h j = let i = some_has d some in go i.0 i.1 (has_dec x i.0)
  where
    go : (i : ℕ) → Has d i → Dec (Has x i) → ⊥
    go i m (yes y) = has_of_apart p d i h (has_of_within x p i u y) m
    go i m (no n) = has_of_apart q d i j (has_of_within (s - x) q i v (minus_has s x i w (has_of_within d s i k m) n)) m

-- what lies in one of three sets
abbrev InOne : ℕ → ℕ → ℕ → ℕ → Type 0
InOne a b c x = Within x a ⊎ (Within x b ⊎ Within x c)

-- no x and the rest of s both lie in one of three disjoint parts of s that have species
three-parts :
    (s a b c x : ℕ) → Within x s → Within a s → Within b s → Within c s → 1 ≤ a → 1 ≤ b → 1 ≤ c → Apart a b → Apart a c → Apart b c → InOne a b c x
    → InOne a b c (s - x) → ⊥
three-parts s a b c x w i j k l m n ab ac bc = go
  where
    go : InOne a b c x → InOne a b c (s - x) → ⊥
    go (inl u) (inl v) = third-part s x a a b w u v j m ab ab
    go (inl u) (inr (inl v)) = third-part s x a b c w u v k n ac bc
    go (inl u) (inr (inr v)) = third-part s x a c b w u v j m ab (apart-sym b c bc)
    go (inr (inl u)) (inl v) = third-part s x b a c w u v k n bc ac
    go (inr (inl u)) (inr (inl v)) = third-part s x b b a w u v i l (apart-sym a b ab) (apart-sym a b ab)
    go (inr (inl u)) (inr (inr v)) = third-part s x b c a w u v i l (apart-sym a b ab) (apart-sym a c ac)
    go (inr (inr u)) (inl v) = third-part s x c a b w u v j m (apart-sym b c bc) ab
    go (inr (inr u)) (inr (inl v)) = third-part s x c b a w u v i l (apart-sym a c ac) (apart-sym a b ab)
    go (inr (inr u)) (inr (inr v)) = third-part s x c c a w u v i l (apart-sym a c ac) (apart-sym a c ac)

-- ---- the clusters below a root of two children, and of more

-- two children part the species
halves : (t u : Tree) (b : Behind) → NoneTwice (leaves (node t (last u) b)) → Halved (cluster (node t (last u) b)) (clusters (node t (last u) b))
unfolding leaves leaves_of cluster cluster_of clusters clusters_of
halves t u b p =
    let rest = union_minus_left (cluster t) (children-apart t (last u) p) in
    let top = union (cluster t) (cluster u) ∷ [] in
    record {
      one = cluster t;
      among = Memᴰ.append_left top (Memᴰ.append_left (clusters u) (whole_among t));
      other = Memᴰ.append_left top (Memᴰ.append_right (clusters t) (Memᴰ.cast rest (whole_among u)));
    }

-- three or more do not
no_halves : (t u : Tree) (f : Forest) (b : Behind) → NoneTwice (leaves (node t (more u f) b))
    → Halved (cluster (node t (more u f) b)) (clusters (node t (more u f) b)) → ⊥
unfolding leaves leaves_of cluster cluster_of clusters clusters_of
no_halves t u f b p h =
    let apart = children-apart t (more u f) p in
    let left = within-union_left (cluster u) (cluster_of f) in
    let right = within-union_right (cluster u) (cluster_of f) in
    let both = within-union_right (cluster t) others in
    three-parts s (cluster t) (cluster u) (cluster_of f) h.one (inside h.one h.among).1 (within-union_left (cluster t) others)
    (within_trans (cluster u) others s left both) (within_trans (cluster_of f) others s right both) (cluster_some t) (cluster_some u) (cluster_of_some f)
    (beside (cluster u) apart left) (beside (cluster_of f) apart right)
    (children-apart u f (none_twice_right (leaves t) (leaves u ++ leaves_of f) p))
    (below h.one h.among (λ e. let k = (inside (s - h.one) h.other).0 in omega arith))
    (below (s - h.one) h.other (λ e. let k = inside h.one h.among in let j = within-le k.1 in let i = k.0 in omega arith))
  where
    others : ℕ
    others = union (cluster u) (cluster_of f)

    s : ℕ
    s = union (cluster t) others

    inside : (x : ℕ) → Among x (clusters (node t (more u f) b)) → (1 ≤ x) × Within x s
    inside = clusters-inside (node t (more u f) b)

    beside : (x : ℕ) → Apart (cluster t) others → Within x others → Apart (cluster t) x
    beside x apart w = apart-sym x (cluster t) (apart-within x others (cluster t) w (apart-sym (cluster t) others apart))

    behind : (x : ℕ) → Among x (clusters u) ⊎ Among x (clusters_of f) → Within x (cluster u) ⊎ Within x (cluster_of f)
    behind x (inl m) = inl (clusters-inside u x m).1
    behind x (inr m) = inr (clusters_of-inside f x m).1

    at : (x : ℕ) → Among x (clusters t) ⊎ Among x (clusters u ++ clusters_of f) → InOne (cluster t) (cluster u) (cluster_of f) x
    at x (inl m) = inl (clusters-inside t x m).1
    at x (inr m) = inr (behind x (Memᴰ.append_cases (clusters u) m))

    below : (x : ℕ) → Among x (clusters (node t (more u f) b)) → (x ≡ s → ⊥) → InOne (cluster t) (cluster u) (cluster_of f) x
    below x m n = go (Memᴰ.append_cases (clusters t ++ (clusters u ++ clusters_of f)) m)
      where
        go : Among x (clusters t ++ (clusters u ++ clusters_of f)) ⊎ Among x (s ∷ []) → InOne (cluster t) (cluster u) (cluster_of f) x
        go (inl k) = at x (Memᴰ.append_cases (clusters t) k)
        go (inr k) = absurd (n (Memᴰ.eq_of_singleton k))

-- ---- how many clusters

-- a tree is on the species of its cluster
on_cluster : (t : Tree) → NoneTwice (leaves t) → On (cluster t) t
on_cluster t p = record { once = p; all = refl }

-- the first child, the second and the others: how many clusters and species they have, and that each has no leaf twice
record Parts (t u : Tree) (f : Forest) (b : Behind) : Type 0 where
  first : NoneTwice (leaves t)
  second : NoneTwice (leaves u)
  others : NoneTwice (leaves_of f)
  counted : length (clusters (node t (more u f) b)) ≡ length (clusters t) + (length (clusters u) + length (clusters_of f)) + 1
  sized : size (cluster (node t (more u f) b)) ≡ size (cluster t) + (size (cluster u) + size (cluster_of f))

parts : (t u : Tree) (f : Forest) (b : Behind) → NoneTwice (leaves (node t (more u f) b)) → Parts t u f b
unfolding leaves leaves_of cluster cluster_of clusters clusters_of
parts t u f b p =
    let rest = none_twice_right (leaves t) (leaves u ++ leaves_of f) p in
    record {
      first = none_twice_left (leaves t) (leaves u ++ leaves_of f) p;
      second = none_twice_left (leaves u) (leaves_of f) rest;
      others = none_twice_right (leaves u) (leaves_of f) rest;
      counted = simp length-append;
      sized =
          let all = size-apart (cluster t) (union (cluster u) (cluster_of f)) (children-apart t (more u f) p) in
          omega (arith, size-apart (cluster u) (cluster_of f) (children-apart u f rest));
    }

-- a root of three children loses one cluster where all three are binary, and else more
three-children : (t u v : Tree) (b : Behind) → NoneTwice (leaves (node t (more u (last v)) b))
    → (Binary t × (Binary u × Binary v)) ↔ (length (clusters (node t (more u (last v)) b)) + 2 ≡ 2 * size (cluster (node t (more u (last v)) b)))
unfolding leaves_of cluster_of clusters_of
three-children t u v b p =
    let k = parts t u (last v) b p in
    let ot = on_cluster t k.first in
    let ou = on_cluster u k.second in
    let ov = on_cluster v k.others in
    let n = k.counted in
    let m = k.sized in (
      λ two. omega (arith, clusters_of_binary ot two.0, clusters_of_binary ou two.1.0, clusters_of_binary ov two.1.1),
      λ e.
          let lt = clusters_lt_twice ot in
          let lu = clusters_lt_twice ou in
          let lv = clusters_lt_twice ov in
          (binary_of_clusters ot (omega arith), (binary_of_clusters ou (omega arith), binary_of_clusters ov (omega arith))),
    )

-- a root of four or more children loses more than one
four-children : (t u v : Tree) (f : Forest) (b : Behind) → NoneTwice (leaves (node t (more u (more v f)) b))
    → length (clusters (node t (more u (more v f)) b)) + 3 ≤ 2 * size (cluster (node t (more u (more v f)) b))
unfolding leaves leaves_of cluster cluster_of clusters clusters_of
four-children t u v f b p =
    let k = parts t u (more v f) b p in
    let n = k.counted in
    let m = k.sized in
    let lt = clusters_lt_twice (on_cluster t k.first) in
    let lu = clusters_lt_twice (on_cluster u k.second) in
    let lo = clusters_lt_twice (on_cluster (node v f b) k.others) in
    omega (arith, length-append (clusters v ++ clusters_of f) (union (cluster v) (cluster_of f) ∷ []))

-- a tree with a root of three or more children is not binary
not_binary : (t u : Tree) (f : Forest) (b : Behind) → NoneTwice (leaves (node t (more u f) b))
    → length (clusters (node t (more u f) b)) + 1 ≡ 2 * size (cluster (node t (more u f) b)) → ⊥
unfolding Binary OneBinary
not_binary t u f b p e = (binary_of_clusters (on_cluster (node t (more u f) b) p) e).1

told : (t : Tree) → NoneTwice (leaves t) → RootedAnyhow t ↔ FewLost (cluster t) (clusters t)
unfolding RootedAnyhow OneOrTwo Binary OneBinary
told (leaf i b) p = (λ k. inl (clusters_of_binary (on_cluster (leaf i b) p) tt), λ k. tt)
told (node t (last u) b) p = (λ two. inl (clusters_of_binary (on_cluster (node t (last u) b) p) two), back)
  where
    back : FewLost (cluster (node t (last u) b)) (clusters (node t (last u) b)) → Binary t × Binary u
    back (inl e) = binary_of_clusters (on_cluster (node t (last u) b) p) e
    back (inr k) = absurd (k.1 (halves t u b p))
told (node t (more u (last v)) b) p = (λ two. inr ((three-children t u v b p).0 two, no_halves t u (last v) b p), back)
  where
    back : FewLost (cluster (node t (more u (last v)) b)) (clusters (node t (more u (last v)) b)) → Binary t × (Binary u × Binary v)
    back (inl e) = absurd (not_binary t u (last v) b p e)
    back (inr k) = (three-children t u v b p).1 k.0
told (node t (more u (more v f)) b) p = (λ k. absurd k.1, back)
  where
    back : FewLost (cluster (node t (more u (more v f)) b)) (clusters (node t (more u (more v f)) b)) → Binary t × ⊥
    back (inl e) = absurd (not_binary t u (more v f) b p e)
    back (inr k) = let more-lost = four-children t u v f b p in let e = k.0 in absurd (omega arith)

-- a tree on s is binary save that the root may have three children exactly when it lacks at most one cluster, and no two part s where it lacks one
pub rooted-told : {s : ℕ} {t : Tree} → On s t → RootedAnyhow t ↔ FewLost s (clusters t)
rooted-told {s} {t} o = subst (λ (s : ℕ). RootedAnyhow t ↔ FewLost s (clusters t)) o.all (told t o.once)
