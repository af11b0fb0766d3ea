-- The clusters of a drawn tree: they lie within its whole set, hold its species, are nested, and none comes twice.
use Prim.Native.Nat.{ℕ, ◌≤◌}
use mathlib.Core.Path.{refl, sym, ap, ◌∙◌, subst}
use mathlib.Core.Logic.{◌⊎◌, inl, inr}
use mathlib.Core.List.Memᴰ
use mathlib.Core.List.Memᴰ.{head as here}
use mathlib.Core.List.{List, [], ◌∷◌, ◌++◌}
use native.Mathlib.Omega.{arith}
use Rattle.clusters.specs.Sets.{Has, Within, Apart, single, union}
use Rattle.clusters.proofs.Members.{has-union, union-has_left, union-has_right, has-single, single-has, apart_of_has}
use Rattle.clusters.proofs.Sets.{within-refl, within_trans, within-union_left, within-union_right, single_some, union_some_left, apart-sym, apart-within, within-apart}
use Rattle.trees.specs.Lists.{Among, NoneTwice}
use Rattle.trees.specs.Records.{Nested}
use Rattle.trees.specs.Tree.{Tree, Forest, leaves, leaves_of, cluster, cluster_of, clusters, clusters_of}
use Rattle.trees.specs.Tree.Tree.{leaf, node}
use Rattle.trees.specs.Tree.Forest.{last, more}
use Rattle.trees.proofs.Listing.{append_passes, none_twice_append, none_twice_left, none_twice_right, none_twice_parts, none_twice_one}

-- ---- the species of a tree's cluster are its leaves

either-leaf :
    (t : Tree) (f : Forest) {i : ℕ} → (Has (cluster t) i → Among i (leaves t)) → (Has (cluster_of f) i → Among i (leaves_of f))
    → Has (cluster t) i ⊎ Has (cluster_of f) i → Among i (leaves t ++ leaves_of f)
either-leaf t f p q (inl h) = Memᴰ.append_left (leaves_of f) (p h)
either-leaf t f p q (inr h) = Memᴰ.append_right (leaves t) (q h)

mutual
  unfolding cluster cluster_of leaves leaves_of

  pub has-leaf : (t : Tree) (i : ℕ) → Has (cluster t) i → Among i (leaves t)
  has-leaf (leaf j b) i h = here (sym (has-single j i h))
  has-leaf (node t f b) i h = either-leaf t f (λ k. has-leaf t i k) (λ k. has-leaf_of f i k) (has-union (cluster t) (cluster_of f) i h)

  pub has-leaf_of : (f : Forest) (i : ℕ) → Has (cluster_of f) i → Among i (leaves_of f)
  has-leaf_of (last t) i h = has-leaf t i h
  has-leaf_of (more t f) i h = either-leaf t f (λ k. has-leaf t i k) (λ k. has-leaf_of f i k) (has-union (cluster t) (cluster_of f) i h)

either-has :
    (t : Tree) (f : Forest) {i : ℕ} → (Among i (leaves t) → Has (cluster t) i) → (Among i (leaves_of f) → Has (cluster_of f) i)
    → Among i (leaves t) ⊎ Among i (leaves_of f) → Has (union (cluster t) (cluster_of f)) i
either-has t f {i} p q (inl h) = union-has_left (cluster t) (cluster_of f) i (p h)
either-has t f {i} p q (inr h) = union-has_right (cluster t) (cluster_of f) i (q h)

mutual
  unfolding cluster cluster_of leaves leaves_of

  pub leaf-has : (t : Tree) (i : ℕ) → Among i (leaves t) → Has (cluster t) i
  leaf-has (leaf j b) i h = subst (λ (x : ℕ). Has (single x) i) (Memᴰ.eq_of_singleton h) (single-has i)
  leaf-has (node t f b) i h = either-has t f (λ k. leaf-has t i k) (λ k. leaf_of-has f i k) (Memᴰ.append_cases (leaves t) h)

  pub leaf_of-has : (f : Forest) (i : ℕ) → Among i (leaves_of f) → Has (cluster_of f) i
  leaf_of-has (last t) i h = leaf-has t i h
  leaf_of-has (more t f) i h = either-has t f (λ k. leaf-has t i k) (λ k. leaf_of-has f i k) (Memᴰ.append_cases (leaves t) h)

-- the first child and the others share no species
pub children-apart : (t : Tree) (f : Forest) → NoneTwice (leaves t ++ leaves_of f) → Apart (cluster t) (cluster_of f)
children-apart t f p =
    apart_of_has (cluster t) (cluster_of f) (λ i h k. none_twice_parts (leaves t) (leaves_of f) p i (has-leaf t i h) (has-leaf_of f i k))

-- ---- laws of lists of clusters

-- the clusters of the list have species, and lie within c
abbrev pub Inside : List ℕ → ℕ → Type 0
Inside l c = (x : ℕ) → Among x l → (1 ≤ x) × Within x c

-- which of the two is named first does not matter
pub nested-sym : (a b : ℕ) → Nested a b → Nested b a
nested-sym a b (inl d) = inl (apart-sym a b d)
nested-sym a b (inr (inl w)) = inr (inr w)
nested-sym a b (inr (inr w)) = inr (inl w)

-- "any two are disjoint or one holds the other"
abbrev pub AllNested : List ℕ → Type 0
AllNested l = (a b : ℕ) → Among a l → Among b l → Nested a b

inside-wider : (l : List ℕ) (c d : ℕ) → Within c d → Inside l c → Inside l d
inside-wider l c d w p x h = ((p x h).0, within_trans x c d (p x h).1 w)

inside_append : (l k : List ℕ) (c : ℕ) → Inside l c → Inside k c → Inside (l ++ k) c
inside_append l k c p q x h = go (Memᴰ.append_cases l h)
  where
    go : Among x l ⊎ Among x k → (1 ≤ x) × Within x c
    go (inl m) = p x m
    go (inr m) = q x m

inside_one : (c : ℕ) → 1 ≤ c → Inside (c ∷ []) c
inside_one c p x h = let e = sym (Memᴰ.eq_of_singleton h) in (subst (λ (z : ℕ). 1 ≤ z) e p, subst (λ (z : ℕ). Within z c) e (within-refl c))

-- clusters within two disjoint sets are disjoint
across : (c d : ℕ) (l k : List ℕ) → Apart c d → Inside l c → Inside k d → (a b : ℕ) → Among a l → Among b k → Apart a b
across c d l k w p q a b h m =
    apart-within a c b (p a h).1 (apart-sym b c (apart-within b d c (q b m).1 (apart-sym c d w)))

none_twice_union : (c d : ℕ) (l k : List ℕ) → Apart c d → Inside l c → Inside k d → NoneTwice l → NoneTwice k → NoneTwice (l ++ k)
none_twice_union c d l k w p q n m =
    none_twice_append l k n m (λ x h j. let e = within-apart x (within-refl x) (across c d l k w p q x x h j) in let s = (p x h).0 in omega arith)

nested-union : (c d : ℕ) (l k : List ℕ) → Apart c d → Inside l c → Inside k d → AllNested l → AllNested k → AllNested (l ++ k)
nested-union c d l k w p q n m a b h j = go (Memᴰ.append_cases l h) (Memᴰ.append_cases l j)
  where
    go : Among a l ⊎ Among a k → Among b l ⊎ Among b k → Nested a b
    go (inl h) (inl j) = n a b h j
    go (inl h) (inr j) = inl (across c d l k w p q a b h j)
    go (inr h) (inl j) = inl (apart-sym b a (across c d l k w p q b a j h))
    go (inr h) (inr j) = m a b h j

nested_one : (c : ℕ) → AllNested (c ∷ [])
nested_one c a b h j = inr (inl (subst (λ (z : ℕ). Within a z) (Memᴰ.eq_of_singleton h ∙ sym (Memᴰ.eq_of_singleton j)) (within-refl a)))

nested-top : (l : List ℕ) (c : ℕ) → Inside l c → AllNested l → AllNested (l ++ (c ∷ []))
nested-top l c p n a b h j = go (Memᴰ.append_cases l h) (Memᴰ.append_cases l j)
  where
    under : {x y : ℕ} → Among x l → Among y (c ∷ []) → Within x y
    under {x} {y} h j = subst (λ (z : ℕ). Within x z) (sym (Memᴰ.eq_of_singleton j)) (p x h).1

    go : Among a l ⊎ Among a (c ∷ []) → Among b l ⊎ Among b (c ∷ []) → Nested a b
    go (inl h) (inl j) = n a b h j
    go (inl h) (inr j) = inr (inl (under h j))
    go (inr h) (inl j) = inr (inr (under j h))
    go (inr h) (inr j) = nested_one c a b h j

-- ---- the clusters of a tree lie within its cluster

mutual
  unfolding cluster cluster_of

  pub cluster_some : (t : Tree) → 1 ≤ cluster t
  cluster_some (leaf i b) = single_some i
  cluster_some (node t f b) = union_some_left (cluster_of f) (cluster_some t)

  pub cluster_of_some : (f : Forest) → 1 ≤ cluster_of f
  cluster_of_some (last t) = cluster_some t
  cluster_of_some (more t f) = union_some_left (cluster_of f) (cluster_some t)

inside_both :
    (t : Tree) (f : Forest) → Inside (clusters t) (cluster t) → Inside (clusters_of f) (cluster_of f)
    → Inside (clusters t ++ clusters_of f) (union (cluster t) (cluster_of f))
inside_both t f p q =
    inside_append (clusters t) (clusters_of f) _ (inside-wider (clusters t) _ _ (within-union_left (cluster t) (cluster_of f)) p)
    (inside-wider (clusters_of f) _ _ (within-union_right (cluster t) (cluster_of f)) q)

mutual
  unfolding cluster cluster_of clusters clusters_of

  pub clusters-inside : (t : Tree) → Inside (clusters t) (cluster t)
  clusters-inside (leaf i b) = inside_one (single i) (single_some i)
  clusters-inside (node t f b) =
      inside_append (clusters t ++ clusters_of f) (union (cluster t) (cluster_of f) ∷ []) _ (inside_both t f (clusters-inside t) (clusters_of-inside f))
      (inside_one (union (cluster t) (cluster_of f)) (union_some_left (cluster_of f) (cluster_some t)))

  pub clusters_of-inside : (f : Forest) → Inside (clusters_of f) (cluster_of f)
  clusters_of-inside (last t) = clusters-inside t
  clusters_of-inside (more t f) = inside_both t f (clusters-inside t) (clusters_of-inside f)

pub whole_among : (t : Tree) → Among (cluster t) (clusters t)
unfolding cluster cluster_of clusters clusters_of
whole_among (leaf i b) = here refl
whole_among (node t f b) = Memᴰ.append_right (clusters t ++ clusters_of f) (here refl)

mutual
  unfolding leaves leaves_of clusters clusters_of

  pub single-among : (t : Tree) (i : ℕ) → Among i (leaves t) → Among (single i) (clusters t)
  single-among (leaf j b) i h = here (ap single (Memᴰ.eq_of_singleton h))
  single-among (node t f b) i h =
      Memᴰ.append_left (union (cluster t) (cluster_of f) ∷ [])
      (append_passes (leaves t) (leaves_of f) (clusters t) (clusters_of f) (λ k. single-among t i k) (λ k. single_among_of f i k) h)

  pub single_among_of : (f : Forest) (i : ℕ) → Among i (leaves_of f) → Among (single i) (clusters_of f)
  single_among_of (last t) i h = single-among t i h
  single_among_of (more t f) i h = append_passes (leaves t) (leaves_of f) (clusters t) (clusters_of f) (λ k. single-among t i k) (λ k. single_among_of f i k) h

-- ---- the clusters of a tree are nested, and none comes twice

mutual
  unfolding leaves leaves_of cluster cluster_of clusters clusters_of

  pub clusters-nested : (t : Tree) → NoneTwice (leaves t) → AllNested (clusters t)
  clusters-nested (leaf i b) p = nested_one (single i)
  clusters-nested (node t f b) p =
      nested-top (clusters t ++ clusters_of f) _ (inside_both t f (clusters-inside t) (clusters_of-inside f))
      (nested-union _ _ (clusters t) (clusters_of f) (children-apart t f p) (clusters-inside t) (clusters_of-inside f)
      (clusters-nested t (none_twice_left (leaves t) (leaves_of f) p)) (clusters_of-nested f (none_twice_right (leaves t) (leaves_of f) p)))

  pub clusters_of-nested : (f : Forest) → NoneTwice (leaves_of f) → AllNested (clusters_of f)
  clusters_of-nested (last t) p = clusters-nested t p
  clusters_of-nested (more t f) p =
      nested-union _ _ (clusters t) (clusters_of f) (children-apart t f p) (clusters-inside t) (clusters_of-inside f)
      (clusters-nested t (none_twice_left (leaves t) (leaves_of f) p)) (clusters_of-nested f (none_twice_right (leaves t) (leaves_of f) p))

-- the whole of two disjoint sets that have species lies within neither
pub union_not_left : (c d : ℕ) → Apart c d → 1 ≤ d → Within (union c d) c → ⊥
union_not_left c d w s h =
    let e = within-apart c (within_trans d (union c d) c (within-union_right c d) h) (apart-sym c d w) in omega arith

pub union_not_right : (c d : ℕ) → Apart c d → 1 ≤ c → Within (union c d) d → ⊥
union_not_right c d w s h =
    let e = within-apart d (within_trans c (union c d) d (within-union_left c d) h) w in omega arith

top-once :
    (t : Tree) (f : Forest) → Apart (cluster t) (cluster_of f) → NoneTwice (clusters t ++ clusters_of f)
    → NoneTwice (clusters t ++ clusters_of f ++ (union (cluster t) (cluster_of f) ∷ []))
top-once t f w n =
    none_twice_append (clusters t ++ clusters_of f) (union (cluster t) (cluster_of f) ∷ []) n (none_twice_one (union (cluster t) (cluster_of f)))
    (λ x h m. off x (Memᴰ.cast (sym (Memᴰ.eq_of_singleton m)) h))
  where
    split : Among (union (cluster t) (cluster_of f)) (clusters t) ⊎ Among (union (cluster t) (cluster_of f)) (clusters_of f) → ⊥
    split (inl h) = union_not_left _ _ w (cluster_of_some f) (clusters-inside t (union (cluster t) (cluster_of f)) h).1
    split (inr h) = union_not_right _ _ w (cluster_some t) (clusters_of-inside f (union (cluster t) (cluster_of f)) h).1

    off : (x : ℕ) → Among (union (cluster t) (cluster_of f)) (clusters t ++ clusters_of f) → ⊥
    off x h = split (Memᴰ.append_cases (clusters t) h)

mutual
  unfolding leaves leaves_of cluster cluster_of clusters clusters_of

  pub clusters-once : (t : Tree) → NoneTwice (leaves t) → NoneTwice (clusters t)
  clusters-once (leaf i b) p = none_twice_one (single i)
  clusters-once (node t f b) p =
      top-once t f (children-apart t f p)
      (none_twice_union _ _ (clusters t) (clusters_of f) (children-apart t f p) (clusters-inside t) (clusters_of-inside f)
      (clusters-once t (none_twice_left (leaves t) (leaves_of f) p)) (clusters_of-once f (none_twice_right (leaves t) (leaves_of f) p)))

  pub clusters_of-once : (f : Forest) → NoneTwice (leaves_of f) → NoneTwice (clusters_of f)
  clusters_of-once (last t) p = clusters-once t p
  clusters_of-once (more t f) p =
      none_twice_union _ _ (clusters t) (clusters_of f) (children-apart t f p) (clusters-inside t) (clusters_of-inside f)
      (clusters-once t (none_twice_left (leaves t) (leaves_of f) p)) (clusters_of-once f (none_twice_right (leaves t) (leaves_of f) p))
