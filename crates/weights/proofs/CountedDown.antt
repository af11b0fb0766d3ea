-- k is the number of lineages counted down the drawn tree: one for all children within A together, and what the other children count.
use Prim.Native.Nat.{ℕ, ◌+◌, ◌≤◌}
use mathlib.Core.Path.{◌≡◌, refl, sym, ap, ap₂, ◌∙◌, subst}
use mathlib.Core.Logic.{◌⊎◌, inl, inr}
use mathlib.Core.Bool.{Bool, true, false, ◌||◌}
use mathlib.Core.List.Memᴰ
use mathlib.Core.List.Memᴰ.{head as here}
use mathlib.Core.List.{List, [], ◌∷◌, ◌++◌}
use native.Mathlib.Omega.{arith}
use Rattle.clusters.specs.Sets.{Within, Apart, within, single, union}
use Rattle.clusters.proofs.Sets.{single_some, within-true, within-false, true-within, within_trans, within-refl, within_antisym, apart-sym, within-union_left, within-union_right}
use Rattle.trees.specs.Lists.{Among, NoneTwice, sorted}
use Rattle.trees.specs.Records.{listed, record_for}
use Rattle.trees.specs.Tree.{Tree, Forest, leaves, leaves_of, cluster, cluster_of, clusters, clusters_of, On}
use Rattle.trees.specs.Tree.Tree.{leaf, node}
use Rattle.trees.specs.Tree.Forest.{last, more}
use Rattle.trees.specs.Valid.{every}
use Rattle.trees.proofs.Booleans.{either, or_left, or_right, unless}
use Rattle.trees.proofs.Listing.{none_twice_left, none_twice_right}
use Rattle.trees.proofs.Order.{among-sorted, sorted-among, rising-sorted, rising_none_twice}
use Rattle.trees.proofs.Nodes.{Inside, children-apart, clusters-inside, clusters_of-inside, clusters-nested, clusters_of-nested, clusters-once, whole_among, cluster_some, cluster_of_some, union_not_left, union_not_right}
use Rattle.trees.proofs.Children.{Child}
use Rattle.trees.proofs.Recorded.{listed_record}
use Rattle.trees.proofs.ValidTest.{Tells, tells_every, tells_within}
use Rattle.weights.specs.Count.{holds_maximal, k_of, one_or}
use Rattle.weights.specs.Lineages.{one_if, none_or, some_within, lineages, others_of}
use Rattle.weights.proofs.CountedDrawn.{not_across}
use Rattle.weights.proofs.Joining.{Joins, Clusters, tells_joins, tells_same, joining, joining_append, joining-counted, joining-passed, joining_local, joining-inside, k_either, k_same}

-- ---- the clusters of a tree and of its children

tree-clusters : (t : Tree) → NoneTwice (leaves t) → Clusters (clusters t)
tree-clusters t p = record { some = λ x m. (clusters-inside t x m).0; nested = clusters-nested t p }

forest-clusters : (f : Forest) → NoneTwice (leaves_of f) → Clusters (clusters_of f)
forest-clusters f p = record { some = λ x m. (clusters_of-inside f x m).0; nested = clusters_of-nested f p }

-- ---- lists of clusters within two disjoint sets

-- what stands in k does not matter to the clusters of l
joining-part :
    (a c d : ℕ) (l k ds : List ℕ) → Apart c d → Inside l c → Inside k d → Clusters ds → ((x : ℕ) → Among x l → Among x ds)
    → ((x y : ℕ) → Among x ds → Within x y → Among y l → Among x l ⊎ Among x k) → Clusters l → joining ds a l ≡ joining l a l
joining-part a c d l k ds apart l-inside k-inside whole l-in in_either h =
    joining_local ds l a l whole h (λ p m. (l-in p m, m)) (λ p x m w i. own p x m w (in_either x p i w m)) (λ p x m w i. l-in x i)
  where
    own : (p x : ℕ) → Among p l → Within x p → Among x l ⊎ Among x k → Among x l
    own p x m w (inl h) = h
    own p x m w (inr h) = absurd (not_across d c p (apart-sym c d apart) (k-inside x h).0 (k-inside x h).1 (l-inside p m).1 w)

turned : {A B : Type 0} → A ⊎ B → B ⊎ A
turned (inl x) = inr x
turned (inr x) = inl x

-- ---- one cluster

joining_one : (cs : List ℕ) (a p : ℕ) (b : Bool) → holds_maximal cs a p ≡ b → joining cs a (p ∷ []) ≡ one_if b
joining_one cs a p true e = joining-counted cs a p e
joining_one cs a p false e = joining-passed cs a p e

-- ---- the root's children

-- the cluster of a child of a node, the first one left out
pub data ChildOf : Forest → ℕ → Type 0 where
  the_last : {t : Tree} → ChildOf (last t) (cluster t)
  the_first : {t : Tree} {f : Forest} → ChildOf (more t f) (cluster t)
  a_later : {t : Tree} {f : Forest} {c : ℕ} → ChildOf f c → ChildOf (more t f) c

child-within : {f : Forest} {c : ℕ} → ChildOf f c → Within c (cluster_of f)
unfolding cluster_of
child-within (the_last {t = t}) = within-refl (cluster t)
child-within (the_first {t = t} {f = f}) = within-union_left (cluster t) (cluster_of f)
child-within (a_later {t = t} {f = f} {c = c} h) = within_trans c (cluster_of f) (union (cluster t) (cluster_of f)) (child-within h) (within-union_right (cluster t) (cluster_of f))

child_some : {f : Forest} {c : ℕ} → ChildOf f c → 1 ≤ c
child_some (the_last {t = t}) = cluster_some t
child_some (the_first {t = t}) = cluster_some t
child_some (a_later h) = child_some h

child-among : {f : Forest} {c : ℕ} → ChildOf f c → Among c (clusters_of f)
unfolding clusters_of
child-among (the_last {t = t}) = whole_among t
child-among (the_first {t = t} {f = f}) = Memᴰ.append_left (clusters_of f) (whole_among t)
child-among (a_later {t = t} h) = Memᴰ.append_right (clusters t) (child-among h)

-- each cluster of the children lies within one of them
child-above : (f : Forest) {x : ℕ} → Among x (clusters_of f) → (c : ℕ) × ChildOf f c × Within x c
unfolding clusters_of
child-above (last t) {x} m = (cluster t, the_last, (clusters-inside t x m).1)
child-above (more t f) {x} m = go (Memᴰ.append_cases (clusters t) m) (λ h. child-above f h)
  where
    go : Among x (clusters t) ⊎ Among x (clusters_of f) → (Among x (clusters_of f) → (c : ℕ) × ChildOf f c × Within x c) → (c : ℕ) × ChildOf (more t f) c × Within x c
    go (inl h) later = (cluster t, the_first, (clusters-inside t x h).1)
    go (inr h) later = let c = later h in (c.0, a_later c.1, c.2)

-- and none of them lies within a larger one
child-greatest : {f : Forest} {c y : ℕ} → NoneTwice (leaves_of f) → ChildOf f c → Among y (clusters_of f) → Within c y → c ≡ y
unfolding leaves_of clusters_of
child-greatest {y = y} p (the_last {t = t}) m w = within_antisym w (clusters-inside t y m).1
child-greatest {y = y} p (the_first {t = t} {f = f}) m w = go (Memᴰ.append_cases (clusters t) m)
  where
    go : Among y (clusters t) ⊎ Among y (clusters_of f) → cluster t ≡ y
    go (inl h) = within_antisym w (clusters-inside t y h).1
    go (inr h) = absurd (not_across (cluster t) (cluster_of f) y (children-apart t f p) (cluster_some t) (within-refl (cluster t)) (clusters_of-inside f y h).1 w)
child-greatest {c = c} {y = y} p (a_later {t = t} {f = f} h) m w =
    go (Memᴰ.append_cases (clusters t) m) (λ k. child-greatest (none_twice_right (leaves t) (leaves_of f) p) h k w)
  where
    go : Among y (clusters t) ⊎ Among y (clusters_of f) → (Among y (clusters_of f) → c ≡ y) → c ≡ y
    go (inl k) later = absurd (not_across (cluster_of f) (cluster t) y (apart-sym (cluster t) (cluster_of f) (children-apart t f p)) (child_some h) (child-within h) (clusters-inside t y k).1 w)
    go (inr k) later = later k

-- one of them lies within A exactly where `some_within` says so
some_child : (a : ℕ) (f : Forest) → some_within a f ≡ true → (c : ℕ) × ChildOf f c × Within c a
unfolding some_within
some_child a (last t) e = (cluster t, the_last, within-true (cluster t) a e)
some_child a (more t f) e = go (either (within (cluster t) a) (some_within a f) e) (λ h. some_child a f h)
  where
    go : (within (cluster t) a ≡ true) ⊎ (some_within a f ≡ true) → (some_within a f ≡ true → (c : ℕ) × ChildOf f c × Within c a) → (c : ℕ) × ChildOf (more t f) c × Within c a
    go (inl h) later = (cluster t, the_first, within-true (cluster t) a h)
    go (inr h) later = let c = later h in (c.0, a_later c.1, c.2)

child_some_within : (a : ℕ) {f : Forest} {c : ℕ} → ChildOf f c → Within c a → some_within a f ≡ true
unfolding some_within
child_some_within a (the_last {t = t}) w = true-within (cluster t) a w
child_some_within a (the_first {t = t} {f = f}) w = or_left (within (cluster t) a) (some_within a f) (true-within (cluster t) a w)
child_some_within a (a_later {t = t} {f = f} h) w = or_right (within (cluster t) a) (some_within a f) (child_some_within a h w)

-- ---- a node

-- the cluster of a node, and all clusters of its tree
abbrev top_of : Tree → Forest → ℕ
top_of t f = union (cluster t) (cluster_of f)

abbrev all_of : Tree → Forest → List ℕ
all_of t f = (clusters t ++ clusters_of f) ++ (top_of t f ∷ [])

module _ (a : ℕ) (t : Tree) (f : Forest) (p : NoneTwice (leaves t ++ leaves_of f)) where
  -- t and the others have no species in common
  two_apart : Apart (cluster t) (cluster_of f)
  two_apart = children-apart t f p

  among_all : {x : ℕ} → Among x (all_of t f)
      → (Among x (clusters t) ⊎ Among x (clusters_of f)) ⊎ (x ≡ top_of t f)
  among_all m = go (Memᴰ.append_cases (clusters t ++ clusters_of f) m)
    where
      go : {x : ℕ} → Among x (clusters t ++ clusters_of f) ⊎ Among x (top_of t f ∷ [])
          → (Among x (clusters t) ⊎ Among x (clusters_of f)) ⊎ (x ≡ top_of t f)
      go (inl h) = inl (Memᴰ.append_cases (clusters t) h)
      go (inr h) = inr (Memᴰ.eq_of_singleton h)

  first_among : {x : ℕ} → Among x (clusters t) → Among x (all_of t f)
  first_among h = Memᴰ.append_left (top_of t f ∷ []) (Memᴰ.append_left (clusters_of f) h)

  others-among : {x : ℕ} → Among x (clusters_of f) → Among x (all_of t f)
  others-among h = Memᴰ.append_left (top_of t f ∷ []) (Memᴰ.append_right (clusters t) h)

  top-among : Among (top_of t f) (all_of t f)
  top-among = Memᴰ.append_right (clusters t ++ clusters_of f) (here refl)

  not_in_first : Within (top_of t f) (cluster t) → ⊥
  not_in_first w = union_not_left (cluster t) (cluster_of f) two_apart (cluster_of_some f) w

  not_in_others : Within (top_of t f) (cluster_of f) → ⊥
  not_in_others w = union_not_right (cluster t) (cluster_of f) two_apart (cluster_some t) w

  -- what lies within a cluster below the root is not the root
  below-only : (x y : ℕ) → Among x (all_of t f) → Within x y
      → Among y (clusters t) ⊎ Among y (clusters_of f) → Among x (clusters t) ⊎ Among x (clusters_of f)
  below-only x y m w h = go (among_all m) h
    where
      go : (Among x (clusters t) ⊎ Among x (clusters_of f)) ⊎ (x ≡ top_of t f)
          → Among y (clusters t) ⊎ Among y (clusters_of f) → Among x (clusters t) ⊎ Among x (clusters_of f)
      go (inl k) h = k
      go (inr e) (inl k) = absurd (not_in_first (within_trans _ y (cluster t) (rw e at w) (clusters-inside t y k).1))
      go (inr e) (inr k) = absurd (not_in_others (within_trans _ y (cluster_of f) (rw e at w) (clusters_of-inside f y k).1))

  -- the first child is a child of the root
  first_child : Child (all_of t f) (top_of t f) (cluster t)
  first_child = record {
    among = first_among (whole_among t);
    inside = within-union_left (cluster t) (cluster_of f);
    other = λ e. not_in_first (subst (λ (x : ℕ). Within x (cluster t)) e (within-refl (cluster t)));
    greatest = λ y m w d v. at y d v (among_all m);
  }
    where
      at : (y : ℕ) → (y ≡ top_of t f → ⊥) → Within (cluster t) y
          → (Among y (clusters t) ⊎ Among y (clusters_of f)) ⊎ (y ≡ top_of t f) → cluster t ≡ y
      at y d v (inl (inl k)) = within_antisym v (clusters-inside t y k).1
      at y d v (inl (inr k)) =
          absurd (not_across (cluster t) (cluster_of f) y two_apart (cluster_some t) (within-refl (cluster t)) (clusters_of-inside f y k).1 v)
      at y d v (inr e) = absurd (d e)

  -- and so are the others
  other_child : {c : ℕ} → ChildOf f c → Child (all_of t f) (top_of t f) c
  other_child {c} h = record {
    among = others-among (child-among h);
    inside = within_trans c (cluster_of f) _ (child-within h) (within-union_right (cluster t) (cluster_of f));
    other = λ e. not_in_others (subst (λ (x : ℕ). Within x (cluster_of f)) e (child-within h));
    greatest = λ y m w d v. at y d v (among_all m);
  }
    where
      at : (y : ℕ) → (y ≡ top_of t f → ⊥) → Within c y
          → (Among y (clusters t) ⊎ Among y (clusters_of f)) ⊎ (y ≡ top_of t f) → c ≡ y
      at y d v (inl (inl k)) =
          absurd (not_across (cluster_of f) (cluster t) y (apart-sym (cluster t) (cluster_of f) two_apart) (child_some h) (child-within h) (clusters-inside t y k).1 v)
      at y d v (inl (inr k)) = child-greatest (none_twice_right (leaves t) (leaves_of f) p) h k v
      at y d v (inr e) = absurd (d e)

  -- where the root does not lie within A, it is counted exactly when some child does
  root-joins : (Within (top_of t f) a → ⊥)
      → Tells (within (cluster t) a || some_within a f)
      (Joins (all_of t f) a (top_of t f))
  root-joins off = record { holds = λ e. holds (either (within (cluster t) a) (some_within a f) e); told = told }
    where
      holds : (within (cluster t) a ≡ true) ⊎ (some_within a f ≡ true)
          → Joins (all_of t f) a (top_of t f)
      holds (inl e) = record { outside = off; held = cluster t; child = first_child; inside = within-true (cluster t) a e }
      holds (inr e) = let c = some_child a f e in record { outside = off; held = c.0; child = other_child c.1; inside = c.2 }

      told : Joins (all_of t f) a (top_of t f)
          → (within (cluster t) a || some_within a f) ≡ true
      told j = go (among_all j.child.among)
        where
          go : (Among j.held (clusters t) ⊎ Among j.held (clusters_of f)) ⊎ (j.held ≡ top_of t f)
              → (within (cluster t) a || some_within a f) ≡ true
          go (inl (inl k)) =
              let e = j.child.greatest (cluster t) first_child.among first_child.inside first_child.other (clusters-inside t j.held k).1 in
              or_left (within (cluster t) a) (some_within a f) (true-within (cluster t) a (rw e at j.inside))
          go (inl (inr k)) =
              let c = child-above f k in
              let g = other_child c.1 in
              let e = j.child.greatest c.0 g.among g.inside g.other c.2 in
              or_right (within (cluster t) a) (some_within a f) (child_some_within a c.1 (rw e at j.inside))
          go (inr e) = absurd (j.child.other e)

  -- the nodes counted below the root, and the root
  joining-node : Clusters (all_of t f) → (Within (top_of t f) a → ⊥)
      → joining (all_of t f) a (all_of t f)
      ≡ one_if (within (cluster t) a || some_within a f) + (joining (clusters t) a (clusters t) + joining (clusters_of f) a (clusters_of f))
  joining-node whole off =
      let every = all_of t f in
      let first = joining-part a (cluster t) (cluster_of f) (clusters t) (clusters_of f) every two_apart (clusters-inside t) (clusters_of-inside f) whole
      (λ x m. first_among m) (λ x y m w h. below-only x y m w (inl h)) (tree-clusters t (none_twice_left (leaves t) (leaves_of f) p)) in
      let others = joining-part a (cluster_of f) (cluster t) (clusters_of f) (clusters t) every (apart-sym (cluster t) (cluster_of f) two_apart) (clusters_of-inside f)
      (clusters-inside t) whole (λ x m. others-among m) (λ x y m w h. turned (below-only x y m w (inr h)))
      (forest-clusters f (none_twice_right (leaves t) (leaves_of f) p)) in
      omega (
        arith,
        joining_append every a (clusters t ++ clusters_of f) (top_of t f ∷ []),
        joining_append every a (clusters t) (clusters_of f),
        first,
        others,
        joining_one every a (top_of t f) (within (cluster t) a || some_within a f)
            (tells_same (tells_joins every a (top_of t f) whole top-among) (root-joins off) (λ j. j) (λ j. j)),
      )

  -- the clusters of the children alone are counted apart
  joining-beside : Clusters (clusters t ++ clusters_of f)
      → joining (clusters t ++ clusters_of f) a (clusters t ++ clusters_of f) ≡ joining (clusters t) a (clusters t) + joining (clusters_of f) a (clusters_of f)
  joining-beside whole =
      let both = clusters t ++ clusters_of f in
      omega (
        arith,
        joining_append both a (clusters t) (clusters_of f),
        joining-part a (cluster t) (cluster_of f) (clusters t) (clusters_of f) both two_apart (clusters-inside t) (clusters_of-inside f) whole
            (λ x m. Memᴰ.append_left (clusters_of f) m) (λ x y m w h. Memᴰ.append_cases (clusters t) m)
            (tree-clusters t (none_twice_left (leaves t) (leaves_of f) p)),
        joining-part a (cluster_of f) (cluster t) (clusters_of f) (clusters t) both (apart-sym (cluster t) (cluster_of f) two_apart) (clusters_of-inside f)
            (clusters-inside t) whole (λ x m. Memᴰ.append_right (clusters t) m) (λ x y m w h. turned (Memᴰ.append_cases (clusters t) m))
            (forest-clusters f (none_twice_right (leaves t) (leaves_of f) p)),
      )

-- ---- down the tree

-- every cluster lies within A exactly when the root's does
every-within : (a : ℕ) (t : Tree) → every (λ x. within x a) (clusters t) ≡ within (cluster t) a
every-within a t =
    tells_same (tells_every (λ x. within x a) (clusters t) (λ x. tells_within x a)) (tells_within (cluster t) a) (λ f. f (cluster t) (whole_among t))
    (λ w x m. within_trans x (cluster t) a (clusters-inside t x m).1 w)

-- a leaf has no node that is counted
joining-leaf : (a c : ℕ) → 1 ≤ c → (b : Bool) → joining (c ∷ []) a (c ∷ []) ≡ none_or b (one_or b 0)
joining-leaf a c some b = none_counted ∙ go b
  where
    alone : Clusters (c ∷ [])
    alone = record {
      some = λ x m. rw (Memᴰ.eq_of_singleton m) some;
      nested = λ x y m k. inr (inl (rw (Memᴰ.eq_of_singleton m, Memᴰ.eq_of_singleton k) (within-refl c)));
    }

    none_counted : joining (c ∷ []) a (c ∷ []) ≡ 0
    none_counted =
        joining_one (c ∷ []) a c false
        (unless (holds_maximal (c ∷ []) a c) (λ e. let j = (tells_joins (c ∷ []) a c alone (here refl)).holds e in j.child.other (Memᴰ.eq_of_singleton j.child.among)))

    go : (b : Bool) → 0 ≡ none_or b (one_or b 0)
    go true = refl
    go false = refl

-- a node: what is counted below the root, and the root
joining_at_node :
    (a : ℕ) (t : Tree) (f : Forest) → NoneTwice (leaves t ++ leaves_of f) → Clusters (all_of t f)
    → joining (clusters t) a (clusters t) ≡ none_or (within (cluster t) a) (lineages a t) → joining (clusters_of f) a (clusters_of f) ≡ others_of a f
    → (b : Bool) → within (top_of t f) a ≡ b
    → joining (all_of t f) a (all_of t f)
    ≡ none_or b (one_or b (one_if (within (cluster t) a || some_within a f) + (none_or (within (cluster t) a) (lineages a t) + others_of a f)))
joining_at_node a t f p whole first others true e =
    joining-inside (all_of t f) a (all_of t f) whole (λ x m. (m, within_trans x (top_of t f) a (in_top x (among_all a t f p m)) (within-true (top_of t f) a e)))
  where
    in_top : (x : ℕ) → (Among x (clusters t) ⊎ Among x (clusters_of f)) ⊎ (x ≡ top_of t f) → Within x (top_of t f)
    in_top x (inl (inl m)) = within_trans x (cluster t) (top_of t f) (clusters-inside t x m).1 (within-union_left (cluster t) (cluster_of f))
    in_top x (inl (inr m)) = within_trans x (cluster_of f) (top_of t f) (clusters_of-inside f x m).1 (within-union_right (cluster t) (cluster_of f))
    in_top x (inr q) = rw q (within-refl (top_of t f))
joining_at_node a t f p whole first others false e =
    joining-node a t f p whole (within-false (top_of t f) a e)
    ∙ ap₂ (λ (x y : ℕ). one_if (within (cluster t) a || some_within a f) + (x + y)) first others

mutual
  unfolding leaves leaves_of cluster cluster_of clusters clusters_of lineages others_of

  -- the nodes that are counted in a tree: none where it lies within A, else its lineages
  joining_down : (a : ℕ) (t : Tree) → NoneTwice (leaves t) → joining (clusters t) a (clusters t) ≡ none_or (within (cluster t) a) (lineages a t)
  joining_down a (leaf i b) p = joining-leaf a (single i) (single_some i) (within (single i) a)
  joining_down a (node t f b) p =
      joining_at_node a t f p (tree-clusters (node t f b) p) (joining_down a t (none_twice_left (leaves t) (leaves_of f) p))
      (joining_down_of a f (none_twice_right (leaves t) (leaves_of f) p)) (within (top_of t f) a) refl

  joining_down_of : (a : ℕ) (f : Forest) → NoneTwice (leaves_of f) → joining (clusters_of f) a (clusters_of f) ≡ others_of a f
  joining_down_of a (last t) p = joining_down a t p
  joining_down_of a (more t f) p =
      joining-beside a t f p (forest-clusters (more t f) p)
      ∙ ap₂ ◌+◌ (joining_down a t (none_twice_left (leaves t) (leaves_of f) p)) (joining_down_of a f (none_twice_right (leaves t) (leaves_of f) p))

-- a tree within A is one lineage
pub lineages-held : (a : ℕ) (t : Tree) → within (cluster t) a ≡ true → lineages a t ≡ 1
unfolding lineages
lineages-held a (leaf i b) e = rw e refl
lineages-held a (node t f b) e = rw e refl

-- ---- the theorem

-- k of a drawn tree's clusters is its number of lineages for A, whatever A is
pub k_counted_down : {s : ℕ} {t : Tree} (a : ℕ) → On s t → k_of (clusters t) a ≡ lineages a t
k_counted_down {s} {t} a o =
    k_either (clusters t) a ∙ ap (λ (b : Bool). one_or b (joining (clusters t) a (clusters t))) (every-within a t)
    ∙ go (within (cluster t) a) (λ e. lineages-held a t e) (joining_down a t o.once)
  where
    go : (b : Bool) → (b ≡ true → lineages a t ≡ 1) → joining (clusters t) a (clusters t) ≡ none_or b (lineages a t)
        → one_or b (joining (clusters t) a (clusters t)) ≡ lineages a t
    go true h j = sym (h refl)
    go false h j = j

-- and so is k of the clusters that its record lists
pub k_of_record : {s : ℕ} {t : Tree} (b a : ℕ) → On s t → k_of (listed (record_for b (clusters t))) a ≡ lineages a t
k_of_record {s} {t} b a o =
    let once = clusters-once t o.once in
    ap (λ (l : List ℕ). k_of l a) (listed_record b (clusters t))
    ∙ k_same (sorted (clusters t)) (clusters t) a (tree-clusters t o.once) (rising_none_twice (sorted (clusters t)) (rising-sorted (clusters t) once)) once
    (λ x h. among-sorted (clusters t) h) (λ x h. sorted-among (clusters t) h)
    ∙ k_counted_down a o
