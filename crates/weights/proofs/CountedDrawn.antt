-- 01's count is the number of lineages counted down the drawn tree, each child on its own.
use Prim.Native.Nat.{ℕ, ◌+◌, ◌≤◌}
use mathlib.Core.Path.{◌≡◌, refl, sym, ap, ap₂, ◌∙◌, subst}
use mathlib.Core.Logic.{◌⊎◌, inl, inr}
use mathlib.Core.Bool.{Bool, true, false}
use mathlib.Core.List.Memᴰ
use mathlib.Core.List.Memᴰ.{head as here}
use mathlib.Core.List.{List, [], ◌∷◌, ◌++◌}
use native.Mathlib.Omega.{arith}
use lib.ListN.{length-append}
use Rattle.clusters.specs.Sets.{Within, Apart, within, single, union}
use Rattle.clusters.proofs.Sets.{within-true, within-false, apart-within, apart-sym, within-apart, within_trans, within-refl, within_antisym}
use Rattle.trees.specs.Lists.{Among, NoneTwice, sorted}
use Rattle.trees.specs.Records.{listed, record_for}
use Rattle.trees.specs.Tree.{Tree, Forest, leaves, leaves_of, cluster, cluster_of, clusters, clusters_of, On}
use Rattle.trees.specs.Tree.Tree.{leaf, node}
use Rattle.trees.specs.Tree.Forest.{last, more}
use Rattle.trees.proofs.Listing.{none_twice_append, none_twice_left, none_twice_right, none_twice_parts, none_twice_one}
use Rattle.trees.proofs.Order.{among-sorted, sorted-among, rising-sorted, rising_none_twice}
use Rattle.trees.proofs.Nodes.{Inside, children-apart, clusters-inside, clusters_of-inside, clusters-once, clusters_of-once}
use Rattle.trees.proofs.Recorded.{listed_record}
use Rattle.weights.specs.Count.{maximal_within, k_drawn, one_or}
use Rattle.weights.specs.Lineages.{lineages_drawn, lineages_drawn_of}
use Rattle.weights.proofs.Tops.{Top, drawn-tops, among-tops, tops-among, tops-once, drawn_none, drawn-counts, top_also, drawn_same}

-- ---- 01's count of lists put together

-- a set that has species lies within no set that is disjoint from one around it
pub not_across : {x : ℕ} (c d y : ℕ) → Apart c d → 1 ≤ x → Within x c → Within y d → Within x y → ⊥
not_across {x} c d y p s w v i =
    let e = within-apart d (within_trans x y d i v) (apart-within x c d w p) in omega arith

-- clusters within two disjoint sets are counted apart
pub drawn-apart : (a c d : ℕ) (l k : List ℕ) → Apart c d → Inside l c → Inside k d → NoneTwice (l ++ k) → k_drawn (l ++ k) a ≡ k_drawn l a + k_drawn k a
drawn-apart a c d l k p i j n =
    drawn-counts (l ++ k) a (maximal_within l a ++ maximal_within k a) n once (λ x t. split x t (Memᴰ.append_cases l t.among))
    (λ x h. join x (Memᴰ.append_cases (maximal_within l a) h))
    ∙ length-append (maximal_within l a) (maximal_within k a)
    ∙ ap₂ ◌+◌ (sym (drawn-tops l a)) (sym (drawn-tops k a))
  where
    once : NoneTwice (maximal_within l a ++ maximal_within k a)
    once =
        none_twice_append (maximal_within l a) (maximal_within k a) (tops-once l a (none_twice_left l k n)) (tops-once k a (none_twice_right l k n))
        (λ x h m. none_twice_parts l k n x (among-tops l a h).among (among-tops k a m).among)

    split : (x : ℕ) → Top (l ++ k) a x → Among x l ⊎ Among x k → Among x (maximal_within l a ++ maximal_within k a)
    split x t (inl h) = Memᴰ.append_left (maximal_within k a) (tops-among l a (top_also (λ m. h) (λ y m w. Memᴰ.append_left k m) t))
    split x t (inr h) = Memᴰ.append_right (maximal_within l a) (tops-among k a (top_also (λ m. h) (λ y m w. Memᴰ.append_right l m) t))

    left : (x y : ℕ) → Top l a x → Within y a → Within x y → Among y l ⊎ Among y k → x ≡ y
    left x y t w v (inl m) = t.greatest y m w v
    left x y t w v (inr m) = absurd (not_across c d y p (i x t.among).0 (i x t.among).1 (j y m).1 v)

    right : (x y : ℕ) → Top k a x → Within y a → Within x y → Among y l ⊎ Among y k → x ≡ y
    right x y t w v (inl m) = absurd (not_across d c y (apart-sym c d p) (j x t.among).0 (j x t.among).1 (i y m).1 v)
    right x y t w v (inr m) = t.greatest y m w v

    joined : (x : ℕ) → Among x (l ++ k) → Within x a → ((y : ℕ) → Among y (l ++ k) → Within y a → Within x y → x ≡ y) → Top (l ++ k) a x
    joined x m w g = record { among = m; inside = w; greatest = g }

    join : (x : ℕ) → Among x (maximal_within l a) ⊎ Among x (maximal_within k a) → Top (l ++ k) a x
    join x (inl h) =
        let t = among-tops l a h in
        joined x (Memᴰ.append_left k t.among) t.inside (λ y m w v. left x y t w v (Memᴰ.append_cases l m))
    join x (inr h) =
        let t = among-tops k a h in
        joined x (Memᴰ.append_right l t.among) t.inside (λ y m w v. right x y t w v (Memᴰ.append_cases l m))

-- a cluster that does not lie within A is not counted
pub drawn-outside : (a c : ℕ) (l : List ℕ) → (Within c a → ⊥) → NoneTwice (l ++ (c ∷ [])) → k_drawn (l ++ (c ∷ [])) a ≡ k_drawn l a
drawn-outside a c l off n =
    drawn-counts (l ++ (c ∷ [])) a (maximal_within l a) n (tops-once l a (none_twice_left l (c ∷ []) n))
    (λ x t. tops-among l a (top_also (λ m. kept x t.inside (Memᴰ.append_cases l m)) (λ y m w. Memᴰ.append_left (c ∷ []) m) t))
    (λ x h. top_also (λ m. Memᴰ.append_left (c ∷ []) m) (λ y m w. kept y w (Memᴰ.append_cases l m)) (among-tops l a h))
    ∙ sym (drawn-tops l a)
  where
    kept : (x : ℕ) → Within x a → Among x l ⊎ Among x (c ∷ []) → Among x l
    kept x w (inl m) = m
    kept x w (inr m) = absurd (off (subst (λ (y : ℕ). Within y a) (Memᴰ.eq_of_singleton m) w))

-- a cluster within A that holds all others is counted alone
pub drawn_all : (a c : ℕ) (l : List ℕ) → Within c a → Inside l c → NoneTwice (l ++ (c ∷ [])) → k_drawn (l ++ (c ∷ [])) a ≡ 1
drawn_all a c l w i n =
    drawn-counts (l ++ (c ∷ [])) a (c ∷ []) n (none_twice_one c) (λ x t. only x t)
    (λ x h. subst (λ (y : ℕ). Top (l ++ (c ∷ [])) a y) (sym (Memᴰ.eq_of_singleton h)) whole)
  where
    last_one : Among c (l ++ (c ∷ []))
    last_one = Memᴰ.append_right l (here refl)

    below : (x : ℕ) → Among x l ⊎ Among x (c ∷ []) → Within x c
    below x (inl m) = (i x m).1
    below x (inr m) = subst (λ (y : ℕ). Within y c) (sym (Memᴰ.eq_of_singleton m)) (within-refl c)

    only : (x : ℕ) → Top (l ++ (c ∷ [])) a x → Among x (c ∷ [])
    only x t = here (t.greatest c last_one w (below x (Memᴰ.append_cases l t.among)))

    whole : Top (l ++ (c ∷ [])) a c
    whole = record { among = last_one; inside = w; greatest = λ y m v u. within_antisym u (below y (Memᴰ.append_cases l m)) }

-- ---- down the tree

-- a last cluster that holds all before it: counted alone where it lies within A, else passed over
drawn-top : (a c below : ℕ) (l : List ℕ) → Inside l c → NoneTwice (l ++ (c ∷ [])) → k_drawn l a ≡ below → k_drawn (l ++ (c ∷ [])) a ≡ one_or (within c a) below
drawn-top a c below l i n e = go (within c a) refl
  where
    go : (b : Bool) → within c a ≡ b → k_drawn (l ++ (c ∷ [])) a ≡ one_or b below
    go true h = drawn_all a c l (within-true c a h) i n
    go false h = drawn-outside a c l (within-false c a h) n ∙ e

-- the clusters of the first child and those of the others are counted apart
drawn-children :
    (a : ℕ) (t : Tree) (f : Forest) → NoneTwice (leaves t ++ leaves_of f) → NoneTwice (clusters t ++ clusters_of f)
    → k_drawn (clusters t ++ clusters_of f) a ≡ k_drawn (clusters t) a + k_drawn (clusters_of f) a
drawn-children a t f p n =
    drawn-apart a (cluster t) (cluster_of f) (clusters t) (clusters_of f) (children-apart t f p) (clusters-inside t) (clusters_of-inside f) n

mutual
  unfolding leaves leaves_of cluster cluster_of clusters clusters_of lineages_drawn lineages_drawn_of

  drawn_down : (a : ℕ) (t : Tree) → NoneTwice (leaves t) → k_drawn (clusters t) a ≡ lineages_drawn a t
  drawn_down a (leaf i b) p = drawn-top a (single i) 0 [] (λ x h. absurd (Memᴰ.not-nil h)) (none_twice_one (single i)) (drawn_none a)
  drawn_down a (node t f b) p =
      let once = clusters-once (node t f b) p in
      drawn-top a (union (cluster t) (cluster_of f)) (lineages_drawn a t + lineages_drawn_of a f) (clusters t ++ clusters_of f)
      (λ x h. clusters-inside (node t f b) x (Memᴰ.append_left (union (cluster t) (cluster_of f) ∷ []) h)) once
      (drawn-children a t f p (none_twice_left (clusters t ++ clusters_of f) (union (cluster t) (cluster_of f) ∷ []) once)
      ∙ ap₂ ◌+◌ (drawn_down a t (none_twice_left (leaves t) (leaves_of f) p)) (drawn_down_of a f (none_twice_right (leaves t) (leaves_of f) p)))

  drawn_down_of : (a : ℕ) (f : Forest) → NoneTwice (leaves_of f) → k_drawn (clusters_of f) a ≡ lineages_drawn_of a f
  drawn_down_of a (last t) p = drawn_down a t p
  drawn_down_of a (more t f) p =
      drawn-children a t f p (clusters_of-once (more t f) p)
      ∙ ap₂ ◌+◌ (drawn_down a t (none_twice_left (leaves t) (leaves_of f) p)) (drawn_down_of a f (none_twice_right (leaves t) (leaves_of f) p))

-- ---- the theorem

-- 01's count of a drawn tree's clusters is its number of lineages for A, whatever A is
pub drawn-counted_down : {s : ℕ} {t : Tree} (a : ℕ) → On s t → k_drawn (clusters t) a ≡ lineages_drawn a t
drawn-counted_down {s} {t} a o = drawn_down a t o.once

-- and so is that of the clusters that its record lists
pub drawn_of_record : {s : ℕ} {t : Tree} (b a : ℕ) → On s t → k_drawn (listed (record_for b (clusters t))) a ≡ lineages_drawn a t
drawn_of_record {s} {t} b a o =
    let once = clusters-once t o.once in
    ap (λ (l : List ℕ). k_drawn l a) (listed_record b (clusters t))
    ∙ drawn_same (sorted (clusters t)) (clusters t) a (rising_none_twice (sorted (clusters t)) (rising-sorted (clusters t) once)) once
    (λ x h. among-sorted (clusters t) h) (λ x h. sorted-among (clusters t) h)
    ∙ drawn-counted_down a o
