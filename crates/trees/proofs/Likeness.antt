-- A tree is determined by its record, up to the order of children and what was written behind nodes.
use Prim.Native.Nat.{ℕ, ◌≤◌}
use mathlib.Core.Path.{◌≡◌, refl, sym, ap, ◌∙◌, subst}
use mathlib.Core.Logic.{◌⊎◌, inl, inr}
use mathlib.Core.List.Memᴰ
use mathlib.Core.List.Memᴰ.{head as here}
use mathlib.Core.List.Memᴰ.{tail as there}
use mathlib.Core.List.{List, [], ◌∷◌, ◌++◌, Memᴰ}
use native.Mathlib.Omega.{arith}
use Rattle.clusters.specs.Sets.{Has, Within, Apart, union}
use Rattle.clusters.proofs.Members.{has-single, single-has}
use Rattle.clusters.proofs.Sets.{within-refl, within_trans, within_antisym, within-union_left, within-union_right, apart-sym, apart-within, within-apart}
use Rattle.trees.specs.Lists.{Among, NoneTwice}
use Rattle.trees.specs.Records.{listed, record_for}
use Rattle.trees.specs.Tree.{Tree, Forest, Behind, leaves, leaves_of, cluster, cluster_of, clusters, clusters_of, On}
use Rattle.trees.specs.Tree.Tree.{leaf, node}
use Rattle.trees.specs.Tree.Forest.{last, more}
use Rattle.trees.specs.Drawn.{drawn, trees, Picked, Alike, AlikeAll}
use Rattle.trees.specs.Drawn.Picked.{here as first, there as later}
use Rattle.trees.specs.Drawn.Alike.{leaves as like-leaves, nodes}
use Rattle.trees.specs.Drawn.AlikeAll.{none, next}
use Rattle.trees.proofs.Listing.{none_twice_left, none_twice_right, none_twice_parts}
use Rattle.trees.proofs.Nodes.{children-apart, cluster_some, clusters-inside, whole_among, clusters-once}
use Rattle.trees.proofs.Breadth.{Small, small_in_breadth}
use Rattle.trees.proofs.Recorded.{among_record, record_among, valid_of_drawn}
use Rattle.trees.proofs.Drawing.{drawn_on, drawn_record}

-- t stands in a list of trees
abbrev Stands : Tree → List Tree → Type 0
Stands t l = Memᴰ t l

-- ---- the trees of a forest

tree-clusters : {t : Tree} {x : ℕ} (f : Forest) → Stands t (trees f) → Among x (clusters t) → Among x (clusters_of f)
unfolding trees clusters_of
tree-clusters {t} {x} (last u) m h = subst (λ (v : Tree). Among x (clusters v)) (Memᴰ.eq_of_singleton m) h
tree-clusters {t} {x} (more u f) m h = go (Memᴰ.cases_cons m) (λ k. tree-clusters f k h)
  where
    go : (t ≡ u) ⊎ Stands t (trees f) → (Stands t (trees f) → Among x (clusters_of f)) → Among x (clusters u ++ clusters_of f)
    go (inl e) ih = Memᴰ.append_left (clusters_of f) (subst (λ (v : Tree). Among x (clusters v)) e h)
    go (inr k) ih = Memᴰ.append_right (clusters u) (ih k)

clusters-tree : {x : ℕ} (f : Forest) → Among x (clusters_of f) → (t : Tree) × Stands t (trees f) × Among x (clusters t)
unfolding trees clusters_of
clusters-tree {x} (last u) h = (u, here refl, h)
clusters-tree {x} (more u f) h = go (Memᴰ.append_cases (clusters u) h) (λ k. clusters-tree f k)
  where
    go :
        Among x (clusters u) ⊎ Among x (clusters_of f) → (Among x (clusters_of f) → (t : Tree) × Stands t (trees f) × Among x (clusters t))
        → (t : Tree) × Stands t (u ∷ trees f) × Among x (clusters t)
    go (inl k) ih = (u, here refl, k)
    go (inr k) ih = let r = ih k in (r.0, there r.1, r.2)

tree-within : {t : Tree} (f : Forest) → Stands t (trees f) → Within (cluster t) (cluster_of f)
unfolding trees cluster_of
tree-within {t} (last u) m = subst (λ (v : Tree). Within (cluster t) (cluster v)) (Memᴰ.eq_of_singleton m) (within-refl (cluster t))
tree-within {t} (more u f) m = go (Memᴰ.cases_cons m) (λ k. tree-within f k)
  where
    go : (t ≡ u) ⊎ Stands t (trees f) → (Stands t (trees f) → Within (cluster t) (cluster_of f)) → Within (cluster t) (union (cluster u) (cluster_of f))
    go (inl e) ih = subst (λ (v : Tree). Within (cluster t) (union (cluster v) (cluster_of f))) e (within-union_left (cluster t) (cluster_of f))
    go (inr k) ih = within_trans (cluster t) (cluster_of f) (union (cluster u) (cluster_of f)) (ih k) (within-union_right (cluster u) (cluster_of f))

-- ---- lists of trees that share no species

-- each tree has no leaf twice, and none in common with those behind it
Parted : List Tree → Type 0
Parted [] = Unit {0}
Parted (t ∷ l) = NoneTwice (leaves t) × ((u : Tree) → Stands u l → Apart (cluster t) (cluster u)) × Parted l

forest-parted : (f : Forest) → NoneTwice (leaves_of f) → Parted (trees f)
unfolding trees leaves_of Parted
forest-parted (last t) p = (p, λ u m. absurd (Memᴰ.not-nil m), tt)
forest-parted (more t f) p = (
  none_twice_left (leaves t) (leaves_of f) p,
  λ u m. apart-sym (cluster u) (cluster t) (apart-within (cluster u) (cluster_of f) (cluster t) (tree-within f m)
      (apart-sym (cluster t) (cluster_of f) (children-apart t f p))),
  forest-parted f (none_twice_right (leaves t) (leaves_of f) p),
)

parted-once : {t : Tree} (l : List Tree) → Parted l → Stands t l → NoneTwice (leaves t)
unfolding Parted
parted-once [] p m = absurd (Memᴰ.not-nil m)
parted-once {t} (u ∷ l) p m = go (Memᴰ.cases_cons m) (λ k. parted-once l p.2 k)
  where
    go : (t ≡ u) ⊎ Stands t l → (Stands t l → NoneTwice (leaves t)) → NoneTwice (leaves t)
    go (inl e) ih = subst (λ (v : Tree). NoneTwice (leaves v)) (sym e) p.0
    go (inr k) ih = ih k

-- two trees of such a list that share a species are one
parted_same : {t u : Tree} (l : List Tree) → Parted l → Stands t l → Stands u l → (Apart (cluster t) (cluster u) → ⊥) → t ≡ u
unfolding Parted
parted_same [] p m k n = absurd (Memᴰ.not-nil m)
parted_same {t} {u} (v ∷ l) p m k n = go (Memᴰ.cases_cons m) (Memᴰ.cases_cons k) (λ m k. parted_same l p.2 m k n)
  where
    go : (t ≡ v) ⊎ Stands t l → (u ≡ v) ⊎ Stands u l → (Stands t l → Stands u l → t ≡ u) → t ≡ u
    go (inl d) (inl e) ih = d ∙ sym e
    go (inl d) (inr k) ih = absurd (n (subst (λ (w : Tree). Apart (cluster w) (cluster u)) (sym d) (p.1 u k)))
    go (inr m) (inl e) ih = absurd (n (apart-sym (cluster u) (cluster t) (subst (λ (w : Tree). Apart (cluster w) (cluster t)) (sym e) (p.1 t m))))
    go (inr m) (inr k) ih = ih m k

-- sets with a part in common that has species are not disjoint
not_apart : (x a b : ℕ) → 1 ≤ x → Within x a → Within x b → Apart a b → ⊥
not_apart x a b s v w h = let e = within-apart b w (apart-within x a b v h) in omega arith

-- a cluster of the forest that lies within one of its trees is a cluster of that tree
located : {u : Tree} {x : ℕ} (g : Forest) → Parted (trees g) → Stands u (trees g) → Among x (clusters_of g) → Within x (cluster u) → Among x (clusters u)
located {u} {x} g p m h w =
    let v = clusters-tree g h in
    let i = clusters-inside v.0 x v.2 in
    let e = parted_same (trees g) p v.1 m (not_apart x (cluster v.0) (cluster u) i.0 i.1 w) in
    subst (λ (t : Tree). Among x (clusters t)) e v.2

-- ---- trees with the same clusters

Agree : Tree → Tree → Type 0
Agree t u = ((x : ℕ) → Among x (clusters t) → Among x (clusters u)) × ((x : ℕ) → Among x (clusters u) → Among x (clusters t))

agree-sym : (t u : Tree) → Agree t u → Agree u t
unfolding Agree
agree-sym t u a = (a.1, a.0)

agree-cluster : (t u : Tree) → Agree t u → cluster t ≡ cluster u
unfolding Agree
agree-cluster t u a =
    within_antisym (clusters-inside u (cluster t) (a.0 (cluster t) (whole_among t))).1 (clusters-inside t (cluster u) (a.1 (cluster u) (whole_among u))).1

-- the same of two forests
AgreeAll : Forest → Forest → Type 0
AgreeAll f g = ((x : ℕ) → Among x (clusters_of f) → Among x (clusters_of g)) × ((x : ℕ) → Among x (clusters_of g) → Among x (clusters_of f))

agree_all_sym : (f g : Forest) → AgreeAll f g → AgreeAll g f
unfolding AgreeAll
agree_all_sym f g a = (a.1, a.0)

-- a tree of the one forest has its like in the other
partner : {t : Tree} (f g : Forest) → Parted (trees f) → Parted (trees g) → AgreeAll f g → Stands t (trees f) → (u : Tree) × Stands u (trees g) × Agree t u
unfolding Agree AgreeAll
partner {t} f g p q a m =
    let u = clusters-tree g (a.0 (cluster t) (tree-clusters f m (whole_among t))) in
    let v = clusters-tree f (a.1 (cluster u.0) (tree-clusters g u.1 (whole_among u.0))) in
    let tu = (clusters-inside u.0 (cluster t) u.2).1 in
    let uv = (clusters-inside v.0 (cluster u.0) v.2).1 in
    let e =
    parted_same (trees f) p v.1 m (not_apart (cluster t) (cluster v.0) (cluster t) (cluster_some t)
    (within_trans (cluster t) (cluster u.0) (cluster v.0) tu uv) (within-refl (cluster t)))
    in
    let ut = subst (λ (w : Tree). Within (cluster u.0) (cluster w)) e uv in (
      u.0,
      u.1,
      (
        λ x h. located g q u.1 (a.0 x (tree-clusters f m h)) (within_trans x (cluster t) (cluster u.0) (clusters-inside t x h).1 tu),
        λ x h. located f p m (a.1 x (tree-clusters g u.1 h)) (within_trans x (cluster u.0) (cluster t) (clusters-inside u.0 x h).1 ut),
      ),
    )

-- ---- lists of trees that are alike one by one

pick : {u : Tree} (l : List Tree) → Stands u l → (k : List Tree) × Picked u l k
pick [] m = absurd (Memᴰ.not-nil m)
pick {u} (t ∷ l) m = go (Memᴰ.cases_cons m) (λ k. pick l k)
  where
    go : (u ≡ t) ⊎ Stands u l → (Stands u l → (k : List Tree) × Picked u l k) → (k : List Tree) × Picked u (t ∷ l) k
    go (inl e) ih = (l, subst (λ (v : Tree). Picked u (v ∷ l) l) e first)
    go (inr k) ih = let r = ih k in (t ∷ r.0, later r.1)

picked_stands : {u v : Tree} {l k : List Tree} → Picked u l k → Stands v k → Stands v l
picked_stands first m = there m
picked_stands {u} {v} (later {t = t} {l = l} {k = k} p) m = go (Memᴰ.cases_cons m) (λ j. picked_stands p j)
  where
    go : (v ≡ t) ⊎ Stands v k → (Stands v k → Stands v l) → Stands v (t ∷ l)
    go (inl e) ih = here e
    go (inr j) ih = there (ih j)

stands_picked : {u v : Tree} {l k : List Tree} → Picked u l k → Stands v l → (v ≡ u) ⊎ Stands v k
stands_picked first m = Memᴰ.cases_cons m
stands_picked {u} {v} (later {t = t} {l = l} {k = k} p) m = go (Memᴰ.cases_cons m) (λ j. stands_picked p j)
  where
    further : (v ≡ u) ⊎ Stands v k → (v ≡ u) ⊎ Stands v (t ∷ k)
    further (inl e) = inl e
    further (inr j) = inr (there j)

    go : (v ≡ t) ⊎ Stands v l → (Stands v l → (v ≡ u) ⊎ Stands v k) → (v ≡ u) ⊎ Stands v (t ∷ k)
    go (inl e) ih = inr (here e)
    go (inr j) ih = further (ih j)

picked_parted : {u : Tree} {l k : List Tree} → Picked u l k → Parted l → Parted k
unfolding Parted
picked_parted first q = q.2
picked_parted (later p) q = (q.0, λ v m. q.1 v (picked_stands p m), picked_parted p q.2)

picked_stood : {u : Tree} {l k : List Tree} → Picked u l k → Stands u l
picked_stood first = here refl
picked_stood (later p) = there (picked_stood p)

picked_apart : {u v : Tree} {l k : List Tree} → Picked u l k → Parted l → Stands v k → Apart (cluster u) (cluster v)
unfolding Parted
picked_apart {u} {v} first q m = q.1 v m
picked_apart {u} {v} (later {t = t} {l = l} {k = k} p) q m = go (Memᴰ.cases_cons m) (λ j. picked_apart p q.2 j)
  where
    go : (v ≡ t) ⊎ Stands v k → (Stands v k → Apart (cluster u) (cluster v)) → Apart (cluster u) (cluster v)
    go (inl e) ih = apart-sym (cluster v) (cluster u) (subst (λ (w : Tree). Apart (cluster w) (cluster u)) (sym e) (q.1 u (picked_stood p)))
    go (inr j) ih = ih j

-- a set with species is not disjoint from itself
self_not_apart : (t u : Tree) → cluster t ≡ cluster u → Apart (cluster t) (cluster u) → ⊥
self_not_apart t u e h =
    not_apart (cluster t) (cluster t) (cluster u) (cluster_some t) (within-refl (cluster t))
    (subst (λ (x : ℕ). Within (cluster t) x) e (within-refl (cluster t))) h

-- the like of a later tree is not the one that was picked
like_left :
    (t u v : Tree) {k m : List Tree} → Picked u k m → Agree t u → Apart (cluster t) (cluster v) → (w : Tree) × Stands w k × Agree v w
    → (w : Tree) × Stands w m × Agree v w
like_left t u v {k} {m} p a h w = go (stands_picked p w.1)
  where
    go : (w.0 ≡ u) ⊎ Stands w.0 m → (w : Tree) × Stands w m × Agree v w
    go (inl e) = absurd (self_not_apart t v (agree-cluster t u a ∙ sym (ap cluster e) ∙ sym (agree-cluster v w.0 w.2)) h)
    go (inr j) = (w.0, j, w.2)

-- and the other way round
like_tail : (t u v : Tree) {l : List Tree} → Agree t u → Apart (cluster u) (cluster v) → (w : Tree) × Stands w (t ∷ l) × Agree v w → (w : Tree) × Stands w l × Agree v w
like_tail t u v {l} a h w = go (Memᴰ.cases_cons w.1)
  where
    go : (w.0 ≡ t) ⊎ Stands w.0 l → (w : Tree) × Stands w l × Agree v w
    go (inl e) = absurd (self_not_apart u v (sym (agree-cluster t u a) ∙ sym (ap cluster e) ∙ sym (agree-cluster v w.0 w.2)) h)
    go (inr j) = (w.0, j, w.2)

alike_all :
    (l k : List Tree) → Parted l → Parted k → ((t : Tree) → Stands t l → (u : Tree) × Stands u k × Agree t u)
    → ((u : Tree) → Stands u k → (t : Tree) × Stands t l × Agree u t)
    → ((t u : Tree) → Stands t l → Stands u k → Agree t u → Alike t u) → AlikeAll l k
unfolding Parted
alike_all [] [] p q f g a = none
alike_all [] (u ∷ k) p q f g a = absurd (Memᴰ.not-nil (g u (here refl)).1)
alike_all (t ∷ l) k p q f g a =
    let u = f t (here refl) in
    let c = pick k u.1 in
    next (a t u.0 (here refl) u.1 u.2) c.1
    (alike_all l c.0 p.2 (picked_parted c.1 q)
    (λ v m. like_left t u.0 v c.1 u.2 (p.1 v m) (f v (there m)))
    (λ v m. like_tail t u.0 v u.2 (picked_apart c.1 q m) (g v (picked_stands c.1 m)))
    (λ v w m n e. a v w (there m) (picked_stands c.1 n) e))

-- ---- trees with the same clusters are alike

-- the cluster of an inner node is none of those below it
top_not_below : (t : Tree) (f : Forest) (b : Behind) → NoneTwice (leaves (node t f b)) → Among (union (cluster t) (cluster_of f)) (clusters t ++ clusters_of f) → ⊥
unfolding clusters
top_not_below t f b p h =
    none_twice_parts (clusters t ++ clusters_of f) (union (cluster t) (cluster_of f) ∷ []) (clusters-once (node t f b) p) (union (cluster t) (cluster_of f)) h (here refl)

-- an inner node has more clusters than a leaf
leaf_not_node : (i : ℕ) (b : Behind) (t : Tree) (f : Forest) (c : Behind) → NoneTwice (leaves (node t f c)) → Agree (leaf i b) (node t f c) → ⊥
unfolding Agree clusters
leaf_not_node i b t f c p a =
    let inner = Memᴰ.append_left (clusters_of f) (whole_among t) in
    let d = Memᴰ.eq_of_singleton (a.1 (cluster t) (Memᴰ.append_left (union (cluster t) (cluster_of f) ∷ []) inner)) in
    let e = Memᴰ.eq_of_singleton (a.1 (union (cluster t) (cluster_of f)) (Memᴰ.append_right (clusters t ++ clusters_of f) (here refl))) in
    top_not_below t f c p (Memᴰ.cast (e ∙ sym d) inner)

-- nodes with the same clusters have children with the same clusters
below-agree : (t u : Tree) (f g : Forest) (b c : Behind) → NoneTwice (leaves (node t f b)) → Agree (node t f b) (node u g c)
    → (x : ℕ) → Among x (clusters_of (more t f)) → Among x (clusters_of (more u g))
unfolding Agree cluster clusters clusters_of
below-agree t u f g b c p a x h =
    go (Memᴰ.append_cases (clusters u ++ clusters_of g) (a.0 x (Memᴰ.append_left (union (cluster t) (cluster_of f) ∷ []) h)))
  where
    go : Among x (clusters u ++ clusters_of g) ⊎ Among x (union (cluster u) (cluster_of g) ∷ []) → Among x (clusters u ++ clusters_of g)
    go (inl k) = k
    go (inr k) = absurd (top_not_below t f b p (Memᴰ.cast (agree-cluster (node t f b) (node u g c) a ∙ sym (Memᴰ.eq_of_singleton k)) h))

agree-below :
    (t u : Tree) (f g : Forest) (b c : Behind) → NoneTwice (leaves (node t f b)) → NoneTwice (leaves (node u g c)) → Agree (node t f b) (node u g c)
    → AgreeAll (more t f) (more u g)
unfolding AgreeAll
agree-below t u f g b c p q a =
    (below-agree t u f g b c p a, below-agree u t g f c b q (agree-sym (node t f b) (node u g c) a))

-- the induction step
nodes-alike : (t u : Tree) (f g : Forest) (b c : Behind) → NoneTwice (leaves (node t f b)) → NoneTwice (leaves (node u g c)) → Agree (node t f b) (node u g c)
    → ((v w : Tree) → Stands v (t ∷ trees f) → NoneTwice (leaves v) → NoneTwice (leaves w) → Agree v w → Alike v w) → Alike (node t f b) (node u g c)
unfolding trees leaves leaves_of
nodes-alike t u f g b c p q a ih =
    let m = forest-parted (more t f) p in
    let n = forest-parted (more u g) q in
    let e = agree-below t u f g b c p q a in
    nodes (alike_all (t ∷ trees f) (u ∷ trees g) m n
    (λ v h. partner (more t f) (more u g) m n e h)
    (λ v h. partner (more u g) (more t f) n m (agree_all_sym (more t f) (more u g) e) h)
    (λ v w h k d. ih v w h (parted-once (t ∷ trees f) m h) (parted-once (u ∷ trees g) n k) d))

leaves_alike : (i j : ℕ) (b c : Behind) → Agree (leaf i b) (leaf j c) → Alike (leaf i b) (leaf j c)
unfolding cluster
leaves_alike i j b c a =
    let e = has-single i j (subst (λ (x : ℕ). Has x j) (sym (agree-cluster (leaf i b) (leaf j c) a)) (single-has j)) in
    subst (λ (x : ℕ). Alike (leaf i b) (leaf x c)) e like-leaves

either-alike : {t v w : Tree} {l : List Tree} → ((w : Tree) → NoneTwice (leaves t) → NoneTwice (leaves w) → Agree t w → Alike t w)
    → (Stands v l → NoneTwice (leaves v) → NoneTwice (leaves w) → Agree v w → Alike v w)
    → (v ≡ t) ⊎ Stands v l → NoneTwice (leaves v) → NoneTwice (leaves w) → Agree v w → Alike v w
either-alike {t} {v} {w} {l} f g (inl e) = subst (λ (x : Tree). NoneTwice (leaves x) → NoneTwice (leaves w) → Agree x w → Alike x w) (sym e) (f w)
either-alike {t} {v} {w} {l} f g (inr k) = g k

mutual
  unfolding trees

  agree-alike : (t u : Tree) → NoneTwice (leaves t) → NoneTwice (leaves u) → Agree t u → Alike t u
  agree-alike (leaf i b) (leaf j c) p q a = leaves_alike i j b c a
  agree-alike (leaf i b) (node u g c) p q a = absurd (leaf_not_node i b u g c q a)
  agree-alike (node t f b) (leaf j c) p q a = absurd (leaf_not_node j c t f b p (agree-sym (node t f b) (leaf j c) a))
  agree-alike (node t f b) (node u g c) p q a =
      nodes-alike t u f g b c p q a
      (λ v w m. either-alike {t = t} {v = v} {w = w} (λ w p q a. agree-alike t w p q a) (λ k p q a. agree_alike_of f v w k p q a) (Memᴰ.cases_cons m))

  agree_alike_of : (f : Forest) (v w : Tree) → Stands v (trees f) → NoneTwice (leaves v) → NoneTwice (leaves w) → Agree v w → Alike v w
  agree_alike_of (last t) v w m = either-alike {t = t} {v = v} {w = w} (λ w p q a. agree-alike t w p q a) (λ k p q a. absurd (Memᴰ.not-nil k)) (Memᴰ.cases_cons m)
  agree_alike_of (more t f) v w m = either-alike {t = t} {v = v} {w = w} (λ w p q a. agree-alike t w p q a) (λ k p q a. agree_alike_of f v w k p q a) (Memᴰ.cases_cons m)

-- trees that have the same clusters are alike
pub alike_of_clusters :
    {s : ℕ} {t u : Tree} → On s t → On s u → ((x : ℕ) → Among x (clusters t) → Among x (clusters u))
    → ((x : ℕ) → Among x (clusters u) → Among x (clusters t)) → Alike t u
unfolding Agree
alike_of_clusters {s} {t} {u} o q f g = agree-alike t u o.once q.once (f, g)

-- "the tree unique up to the order of children"
pub alike_of_record : {s : ℕ} {t u : Tree} (b : ℕ) → On s t → On s u → record_for b (clusters t) ≡ record_for b (clusters u) → Alike t u
alike_of_record {s} {t} {u} b o q e =
    alike_of_clusters o q (λ x h. among_record b (clusters u) (subst (λ (r : List ℕ). Among x (listed r)) e (record_among b (clusters t) h)))
    (λ x h. among_record b (clusters t) (subst (λ (r : List ℕ). Among x (listed r)) (sym e) (record_among b (clusters u) h)))

-- a tree is alike to the one that its record draws
pub alike-drawn : {s : ℕ} {t : Tree} (b : ℕ) → On s t → Small b s → Alike t (drawn (listed (record_for b (clusters t))) s)
alike-drawn {s} {t} b o small =
    let v = valid_of_drawn {b = b} o (small_in_breadth b small) in
    alike_of_record b o (drawn_on v small) (sym (drawn_record v small))
