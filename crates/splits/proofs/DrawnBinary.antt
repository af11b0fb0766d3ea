-- Binary trees as drawn trees and back: each has the clusters of the other.
use Prim.Native.Nat.{ℕ, ◌-◌, ◌^◌, ◌≤◌, ◌<◌}
use mathlib.Core.Path.{◌≡◌, refl, sym, ap, ap₂, ◌∙◌, subst}
use mathlib.Core.Logic.{◌⊎◌, inl, inr}
use mathlib.Core.Bool.{Bool, true, false}
use mathlib.Core.List.Memᴰ
use mathlib.Core.List.Memᴰ.{head as here}
use mathlib.Core.List.Memᴰ.{tail as there}
use mathlib.Core.List.{List, [], ◌∷◌, ◌++◌}
use native.Mathlib.Omega.{arith}
use lib.Dec.{leb}
use borrow.Author.Tests.{leb-true, leb-false}
use Rattle.clusters.specs.Sets.{Has, Within, Apart, single, union, lowest}
use Rattle.clusters.proofs.Members.{has_of_apart, has-union}
use Rattle.clusters.proofs.Sets.{within-refl, within_trans, within-le, within-apart, within-union_left, within-union_right, union_comm, union_some_left, apart-sym, apart-within, apart-union-sum, minus_apart, minus_union, minus_within, union_minus_left, within-below}
use Rattle.clusters.proofs.Sizes.{size-single, some_of_size}
use Rattle.clusters.proofs.LowestSpecies.{lowest-has, lowest_least, lowest-apart, lowest-within, single-lowest}
use Rattle.trees.specs.Lists.{Among, NoneTwice}
use Rattle.trees.specs.Tree.{Tree, Forest, leaves, leaves_of, cluster, cluster_of, clusters, clusters_of, On, Binary as BinaryDrawn, OneBinary}
use Rattle.trees.specs.Tree.Tree.{leaf, node}
use Rattle.trees.specs.Tree.Forest.{last, more}
use Rattle.trees.specs.Drawn.{bare}
use Rattle.trees.proofs.Listing.{none_twice_append, none_twice_left, none_twice_right}
use Rattle.trees.proofs.Nodes.{leaf-has, children-apart, cluster_some, cluster_of_some, Inside}
use Rattle.splits.specs.BinaryTrees.{Binary, root, clusters_in}
use Rattle.splits.specs.BinaryTrees.Binary.{tip, fork}
use Rattle.splits.specs.WellFormed.{LowPart, TreeOn}
use Rattle.splits.specs.WellFormed.TreeOn.{one, two}
use Rattle.splits.proofs.LowParts.{low_some}
use Rattle.splits.proofs.Membership.{tree-root}

-- ---- the clusters of a binary tree

pub tree_some : {a : ℕ} {t : Binary} → TreeOn a t → 1 ≤ a
tree_some (one e) = some_of_size (omega arith)
tree_some (two p v w) = let l = p.less in omega arith

-- a cluster of a fork: the root, or one of a child
pub data InFork (a : ℕ) (t u : Binary) (x : ℕ) : Type 0 where
  at_root : x ≡ a → InFork a t u x
  in_low : Among x (clusters_in t) → InFork a t u x
  in_other : Among x (clusters_in u) → InFork a t u x

pub among-fork : {a x : ℕ} {t u : Binary} → Among x (clusters_in (fork a t u)) → InFork a t u x
unfolding clusters_in
among-fork {a} {x} {t} {u} h = go (Memᴰ.cases_cons h)
  where
    part : Among x (clusters_in t) ⊎ Among x (clusters_in u) → InFork a t u x
    part (inl k) = in_low k
    part (inr k) = in_other k

    go : (x ≡ a) ⊎ Among x (clusters_in t ++ clusters_in u) → InFork a t u x
    go (inl e) = at_root e
    go (inr k) = part (Memᴰ.append_cases (clusters_in t) k)

pub fork-among : {a x : ℕ} {t u : Binary} → InFork a t u x → Among x (clusters_in (fork a t u))
unfolding clusters_in
fork-among (at_root e) = here e
fork-among {u = u} (in_low k) = there (Memᴰ.append_left (clusters_in u) k)
fork-among {t = t} (in_other k) = there (Memᴰ.append_right (clusters_in t) k)

pub tree-inside : {a : ℕ} {t : Binary} → TreeOn a t → Inside (clusters_in t) a
unfolding clusters_in
tree-inside {a} (one e) x h =
    let q = sym (Memᴰ.eq_of_singleton h) in
    (subst (λ y. 1 ≤ y) q (some_of_size (omega arith)), subst (λ y. Within y a) q (within-refl a))
tree-inside {a} (two {t = t} {u = u} p v w) x h = go (among-fork {t = t} {u = u} h) (λ k. tree-inside v x k) (λ k. tree-inside w x k)
  where
    go : InFork a t u x → (Among x (clusters_in t) → (1 ≤ x) × Within x (root t)) → (Among x (clusters_in u) → (1 ≤ x) × Within x (a - root t))
        → (1 ≤ x) × Within x a
    go (at_root e) f g = (subst (λ y. 1 ≤ y) (sym e) (let l = p.less in omega arith), subst (λ y. Within y a) (sym e) (within-refl a))
    go (in_low k) f g = let r = f k in (r.0, within_trans x (root t) a r.1 p.inside)
    go (in_other k) f g = let r = g k in (r.0, within_trans x (a - root t) a r.1 (minus_within a (root t) p.inside))

pub tree-once : {a : ℕ} {t : Binary} → TreeOn a t → NoneTwice (clusters_in t)
unfolding clusters_in NoneTwice
tree-once (one e) = (λ h. Memᴰ.not-nil h, tt)
tree-once {a} (two {t = t} {u = u} p v w) = (
  λ h. go (Memᴰ.append_cases (clusters_in t) h),
  none_twice_append (clusters_in t) (clusters_in u) (tree-once v) (tree-once w) (λ x h k. clash x (tree-inside v x h) (tree-inside w x k)),
)
  where
    go : Among a (clusters_in t) ⊎ Among a (clusters_in u) → ⊥
    go (inl h) = let l = p.less in omega (arith, within-le (tree-inside v a h).1)
    go (inr h) = let l = p.less in omega (arith, low_some p, within-le (tree-inside w a h).1)

    clash : (x : ℕ) → (1 ≤ x) × Within x (root t) → (1 ≤ x) × Within x (a - root t) → ⊥
    clash x m n =
        let e = within-apart (a - root t) n.1 (apart-within x (root t) (a - root t) m.1 (minus_apart a (root t) p.inside)) in
        omega (arith, m.0)

-- ---- a binary tree, drawn

unfoldable pub drawing : Binary → Tree
drawing (tip a) = leaf (lowest a) bare
drawing (fork a t u) = node (drawing t) (last (drawing u)) bare

pub drawing-cluster : {a : ℕ} {t : Binary} → TreeOn a t → a < 2 ^ 32 → cluster (drawing t) ≡ a
unfolding drawing cluster cluster_of
drawing-cluster (one e) l = sym (single-lowest l e)
drawing-cluster {a} (two {t = t} p v w) l =
    let m = p.less in
    ap₂ union (drawing-cluster v (omega arith)) (drawing-cluster w (omega arith)) ∙ minus_union (root t) p.inside

pub drawing-once : {a : ℕ} {t : Binary} → TreeOn a t → a < 2 ^ 32 → NoneTwice (leaves (drawing t))
unfolding drawing leaves leaves_of NoneTwice
drawing-once (one e) l = (λ h. Memᴰ.not-nil h, tt)
drawing-once {a} (two {t = t} {u = u} p v w) l =
    let m = p.less in
    none_twice_append (leaves (drawing t)) (leaves (drawing u)) (drawing-once v (omega arith)) (drawing-once w (omega arith))
    (λ i h k.
    has_of_apart (root t) (a - root t) i (minus_apart a (root t) p.inside)
    (subst (λ x. Has x i) (drawing-cluster v (omega arith)) (leaf-has (drawing t) i h))
    (subst (λ x. Has x i) (drawing-cluster w (omega arith)) (leaf-has (drawing u) i k)))

pub drawing_on : {a : ℕ} {t : Binary} → TreeOn a t → a < 2 ^ 32 → On a (drawing t)
drawing_on v l = record { once = drawing-once v l; all = drawing-cluster v l }

pub drawing-among : {a x : ℕ} {t : Binary} → TreeOn a t → a < 2 ^ 32 → Among x (clusters_in t) → Among x (clusters (drawing t))
unfolding drawing clusters clusters_of clusters_in cluster cluster_of
drawing-among {x = x} (one e) l h = subst (λ y. Among x (y ∷ [])) (single-lowest l e) h
drawing-among {a} {x} (two {t = t} {u = u} p v w) l h =
    go (among-fork {t = t} {u = u} h) (λ k. drawing-among v (let m = p.less in omega arith) k) (λ k. drawing-among w (let m = p.less in omega arith) k)
  where
    top : union (cluster (drawing t)) (cluster (drawing u)) ≡ a
    top = drawing-cluster (two p v w) l

    go : InFork a t u x → (Among x (clusters_in t) → Among x (clusters (drawing t))) → (Among x (clusters_in u) → Among x (clusters (drawing u)))
        → Among x (clusters (drawing t) ++ clusters (drawing u) ++ (union (cluster (drawing t)) (cluster (drawing u)) ∷ []))
    go (at_root e) f g = Memᴰ.append_right (clusters (drawing t) ++ clusters (drawing u)) (here (e ∙ sym top))
    go (in_low k) f g = Memᴰ.append_left (union (cluster (drawing t)) (cluster (drawing u)) ∷ []) (Memᴰ.append_left (clusters (drawing u)) (f k))
    go (in_other k) f g = Memᴰ.append_left (union (cluster (drawing t)) (cluster (drawing u)) ∷ []) (Memᴰ.append_right (clusters (drawing t)) (g k))

pub among-drawing : {a x : ℕ} {t : Binary} → TreeOn a t → a < 2 ^ 32 → Among x (clusters (drawing t)) → Among x (clusters_in t)
unfolding drawing clusters clusters_of clusters_in cluster cluster_of
among-drawing {x = x} (one e) l h = subst (λ y. Among x (y ∷ [])) (sym (single-lowest l e)) h
among-drawing {a} {x} (two {t = t} {u = u} p v w) l h =
    go (Memᴰ.append_cases (clusters (drawing t) ++ clusters (drawing u)) h)
    (λ k. among-drawing v (let m = p.less in omega arith) k) (λ k. among-drawing w (let m = p.less in omega arith) k)
  where
    top : union (cluster (drawing t)) (cluster (drawing u)) ≡ a
    top = drawing-cluster (two p v w) l

    part : Among x (clusters (drawing t)) ⊎ Among x (clusters (drawing u))
        → (Among x (clusters (drawing t)) → Among x (clusters_in t)) → (Among x (clusters (drawing u)) → Among x (clusters_in u)) → InFork a t u x
    part (inl k) f g = in_low (f k)
    part (inr k) f g = in_other (g k)

    go : Among x (clusters (drawing t) ++ clusters (drawing u)) ⊎ Among x (union (cluster (drawing t)) (cluster (drawing u)) ∷ [])
        → (Among x (clusters (drawing t)) → Among x (clusters_in t)) → (Among x (clusters (drawing u)) → Among x (clusters_in u))
        → Among x (clusters_in (fork a t u))
    go (inl k) f g = fork-among {t = t} {u = u} (part (Memᴰ.append_cases (clusters (drawing t)) k) f g)
    go (inr k) f g = fork-among {t = t} {u = u} (at_root (Memᴰ.eq_of_singleton k ∙ top))

-- ---- a drawn binary tree, with the low child first

abbrev low_first : Bool → ℕ → Binary → Binary → Binary
low_first true a t u = fork a t u
low_first false a t u = fork a u t

unfoldable mutual
  pub low_tree : Tree → Binary
  low_tree (leaf i b) = tip (single i)
  low_tree (node t f b) = low_first (leb (lowest (cluster t)) (lowest (cluster_of f))) (union (cluster t) (cluster_of f)) (low_tree t) (low_last f)

  pub low_last : Forest → Binary
  low_last (last t) = low_tree t
  low_last (more t f) = low_tree t

-- the child with the lowest species is the low part
lowest-part : (c d : ℕ) → 1 ≤ c → 1 ≤ d → Apart c d → union c d < 2 ^ 32 → lowest c ≤ lowest d → LowPart (union c d) c
lowest-part c d p q w l h =
    let sum = apart-union-sum c d w in
    record { inside = within-union_left c d; holds = held (has-union c d (lowest (union c d)) (lowest-has (union_some_left d p) l)); less = omega arith }
  where
    c_below : c < 2 ^ 32
    c_below = within-below (union c d) 32 (within-union_left c d) l

    d_below : d < 2 ^ 32
    d_below = within-below (union c d) 32 (within-union_right c d) l

    held : Has c (lowest (union c d)) ⊎ Has d (lowest (union c d)) → Has c (lowest (union c d))
    held (inl k) = k
    held (inr k) =
        absurd (lowest-apart c_below d_below p q w (omega (arith, h, lowest_least d_below k, lowest-within c_below l p (within-union_left c d))))

fork_on :
    (c d : ℕ) (t u : Binary) → 1 ≤ c → 1 ≤ d → Apart c d → union c d < 2 ^ 32 → lowest c ≤ lowest d → TreeOn c t → TreeOn d u
    → TreeOn (union c d) (fork (union c d) t u)
fork_on c d t u p q w l h v x =
    let e = sym (tree-root v) in
    two (subst (LowPart (union c d)) e (lowest-part c d p q w l h)) (subst (λ b. TreeOn b t) e v)
    (subst (λ b. TreeOn b u) (sym (union_minus_left c w) ∙ ap (λ b. union c d - b) e) x)

low_first_on : (c d : ℕ) (t u : Binary) → 1 ≤ c → 1 ≤ d → Apart c d → union c d < 2 ^ 32 → TreeOn c t → TreeOn d u
    → TreeOn (union c d) (low_first (leb (lowest c) (lowest d)) (union c d) t u)
low_first_on c d t u p q w l v x = go (leb (lowest c) (lowest d)) refl
  where
    go : (b : Bool) → leb (lowest c) (lowest d) ≡ b → TreeOn (union c d) (low_first b (union c d) t u)
    go true e = fork_on c d t u p q w l (leb-true (lowest c) (lowest d) e) v x
    go false e =
        subst (λ a. TreeOn a (fork a u t)) (union_comm d c)
        (fork_on d c u t q p (apart-sym c d w) (subst (λ a. a < 2 ^ 32) (union_comm c d) l) (let m = leb-false (lowest c) (lowest d) e in omega arith) x v)

mutual
  unfolding low_tree low_last cluster cluster_of leaves leaves_of BinaryDrawn OneBinary

  pub low_tree_on : (t : Tree) → BinaryDrawn t → NoneTwice (leaves t) → cluster t < 2 ^ 32 → TreeOn (cluster t) (low_tree t)
  low_tree_on (leaf i b) p n l = one (size-single i)
  low_tree_on (node t f b) p n l =
      low_first_on (cluster t) (cluster_of f) (low_tree t) (low_last f) (cluster_some t) (cluster_of_some f) (children-apart t f n) l
      (low_tree_on t p.0 (none_twice_left (leaves t) (leaves_of f) n) (within-below (union (cluster t) (cluster_of f)) 32 (within-union_left (cluster t) (cluster_of f)) l))
      (low_last_on f p.1 (none_twice_right (leaves t) (leaves_of f) n) (within-below (union (cluster t) (cluster_of f)) 32 (within-union_right (cluster t) (cluster_of f)) l))

  pub low_last_on : (f : Forest) → OneBinary f → NoneTwice (leaves_of f) → cluster_of f < 2 ^ 32 → TreeOn (cluster_of f) (low_last f)
  low_last_on (last t) p n l = low_tree_on t p n l
  low_last_on (more t f) p n l = absurd p

-- its clusters are those of the drawn tree
low_first-among : (b : Bool) (a x : ℕ) (t u : Binary) → InFork a t u x → Among x (clusters_in (low_first b a t u))
low_first-among true a x t u h = fork-among {t = t} {u = u} h
low_first-among false a x t u (at_root e) = fork-among {t = u} {u = t} (at_root e)
low_first-among false a x t u (in_low k) = fork-among {t = u} {u = t} (in_other k)
low_first-among false a x t u (in_other k) = fork-among {t = u} {u = t} (in_low k)

swapped : {a x : ℕ} {t u : Binary} → InFork a t u x → InFork a u t x
swapped (at_root e) = at_root e
swapped (in_low k) = in_other k
swapped (in_other k) = in_low k

among-low_first : (b : Bool) (a x : ℕ) (t u : Binary) → Among x (clusters_in (low_first b a t u)) → InFork a t u x
among-low_first true a x t u h = among-fork {t = t} {u = u} h
among-low_first false a x t u h = swapped (among-fork {t = u} {u = t} h)

node_in_fork : (a x : ℕ) (l k : List ℕ) (t u : Binary) → Among x (l ++ k ++ (a ∷ [])) → (Among x l → Among x (clusters_in t)) → (Among x k → Among x (clusters_in u))
    → InFork a t u x
node_in_fork a x l k t u h f g = go (Memᴰ.append_cases (l ++ k) h)
  where
    part : Among x l ⊎ Among x k → InFork a t u x
    part (inl m) = in_low (f m)
    part (inr m) = in_other (g m)

    go : Among x (l ++ k) ⊎ Among x (a ∷ []) → InFork a t u x
    go (inl m) = part (Memᴰ.append_cases l m)
    go (inr m) = at_root (Memᴰ.eq_of_singleton m)

fork_in_node : (a x : ℕ) (l k : List ℕ) (t u : Binary) → InFork a t u x → (Among x (clusters_in t) → Among x l) → (Among x (clusters_in u) → Among x k)
    → Among x (l ++ k ++ (a ∷ []))
fork_in_node a x l k t u (at_root e) f g = Memᴰ.append_right (l ++ k) (here e)
fork_in_node a x l k t u (in_low m) f g = Memᴰ.append_left (a ∷ []) (Memᴰ.append_left k (f m))
fork_in_node a x l k t u (in_other m) f g = Memᴰ.append_left (a ∷ []) (Memᴰ.append_right l (g m))

mutual
  unfolding low_tree low_last clusters clusters_of clusters_in BinaryDrawn OneBinary

  pub low_tree-among : (t : Tree) → BinaryDrawn t → (x : ℕ) → Among x (clusters t) → Among x (clusters_in (low_tree t))
  low_tree-among (leaf i b) p x h = h
  low_tree-among (node t f b) p x h =
      low_first-among (leb (lowest (cluster t)) (lowest (cluster_of f))) (union (cluster t) (cluster_of f)) x (low_tree t) (low_last f)
      (node_in_fork (union (cluster t) (cluster_of f)) x (clusters t) (clusters_of f) (low_tree t) (low_last f) h
      (λ k. low_tree-among t p.0 x k) (λ k. low_last-among f p.1 x k))

  pub low_last-among : (f : Forest) → OneBinary f → (x : ℕ) → Among x (clusters_of f) → Among x (clusters_in (low_last f))
  low_last-among (last t) p x h = low_tree-among t p x h
  low_last-among (more t f) p x h = absurd p

mutual
  unfolding low_tree low_last clusters clusters_of clusters_in BinaryDrawn OneBinary

  pub among-low_tree : (t : Tree) → BinaryDrawn t → (x : ℕ) → Among x (clusters_in (low_tree t)) → Among x (clusters t)
  among-low_tree (leaf i b) p x h = h
  among-low_tree (node t f b) p x h =
      fork_in_node (union (cluster t) (cluster_of f)) x (clusters t) (clusters_of f) (low_tree t) (low_last f)
      (among-low_first (leb (lowest (cluster t)) (lowest (cluster_of f))) (union (cluster t) (cluster_of f)) x (low_tree t) (low_last f) h)
      (λ k. among-low_tree t p.0 x k) (λ k. among-low_last f p.1 x k)

  pub among-low_last : (f : Forest) → OneBinary f → (x : ℕ) → Among x (clusters_in (low_last f)) → Among x (clusters_of f)
  among-low_last (last t) p x h = among-low_tree t p x h
  among-low_last (more t f) p x h = absurd p
