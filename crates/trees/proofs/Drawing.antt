-- A valid record draws a tree: the tree is on the record's species, and the record is its record.
use Prim.Native.Nat.{ℕ, zero, suc, ◌≤◌}
use mathlib.Core.Path.{◌≡◌, refl, sym, ap, ap₂, ◌∙◌, subst}
use mathlib.Core.Logic.{◌⊎◌, inl, inr}
use mathlib.Core.Bool.{Bool, true, false}
use mathlib.Core.List.Memᴰ
use mathlib.Core.List.Memᴰ.{head as here}
use mathlib.Core.List.Memᴰ.{tail as there}
use mathlib.Core.List.{List, [], ◌∷◌, ◌++◌}
use native.Mathlib.Decide.{ℕ_discrete}
use native.Mathlib.Omega.{arith}
use lib.ListN.{length}
use lib.Dec.{eqb}
use borrow.Author.Tests.{eqb-true, eqb-false, eq-eqb, ne_eqb}
use Rattle.clusters.specs.Sets.{Within, Apart, union, size, lowest}
use Rattle.clusters.proofs.Members.{has_of_apart}
use Rattle.clusters.proofs.Sets.{within-single, union-zero}
use Rattle.clusters.proofs.Sizes.{size_some, size-within_lt}
use Rattle.clusters.proofs.LowestSpecies.{single-lowest}
use Rattle.trees.specs.Lists.{Among, NoneTwice}
use Rattle.trees.specs.Records.{listed, record_for, ValidFor}
use Rattle.trees.specs.Tree.{Tree, Forest, leaves, leaves_of, cluster, cluster_of, clusters, clusters_of, On}
use Rattle.trees.specs.Tree.Tree.{leaf, node}
use Rattle.trees.specs.Tree.Forest.{last, more}
use Rattle.trees.specs.Drawn.{children, bare, forest_over, node_over, drawn_by, drawn_to, drawn}
use Rattle.trees.proofs.Breadth.{Small}
use Rattle.trees.proofs.Listing.{none_twice_append, none_twice_one}
use Rattle.trees.proofs.Nodes.{leaf-has, leaf_of-has, clusters-once}
use Rattle.trees.proofs.Recorded.{record_same}
use Rattle.trees.proofs.Children.{Hierarchy, hierarchy_of_valid, among-children, within-child, together, AllApart, cluster-below, children_all_apart, children-together, children_two}

-- t is the tree on a that cs draws: its clusters are those of cs that lie within a
pub record Draws (cs : List ℕ) (a : ℕ) (t : Tree) : Type 0 where
  pub on : On a t
  pub fewer : (x : ℕ) → Among x (clusters t) → Among x cs
  pub every : (x : ℕ) → Among x cs → Within x a → Among x (clusters t)

-- the same for the children of a node
pub record DrawsAll (cs l : List ℕ) (f : Forest) : Type 0 where
  pub once : NoneTwice (leaves_of f)
  pub all : cluster_of f ≡ together l
  pub fewer : (x : ℕ) → Among x (clusters_of f) → Among x cs
  pub every : (x c : ℕ) → Among x cs → Among c l → Within x c → Among x (clusters_of f)

-- disjoint sets have no leaf in common
leaves-differ : {b c : ℕ} (t : Tree) (f : Forest) → cluster t ≡ b → cluster_of f ≡ c → Apart b c → (i : ℕ) → Among i (leaves t) → Among i (leaves_of f) → ⊥
leaves-differ {b} {c} t f e d w i h k = has_of_apart b c i w (rw e at (leaf-has t i h)) (rw d at (leaf_of-has f i k))

module _ (cs : List ℕ) (draw : ℕ → Tree) where
  forest-draws : (b : ℕ) (l : List ℕ) → ((x : ℕ) → Among x (b ∷ l) → Draws cs x (draw x)) → AllApart (b ∷ l) → DrawsAll cs (b ∷ l) (forest_over draw b l)
  unfolding leaves_of cluster_of clusters_of together AllApart
  forest-draws b [] d w =
      let t = d b (here refl) in
      record {
        once = t.on.once;
        all = t.on.all ∙ sym (union-zero b);
        fewer = t.fewer;
        every = λ x c h m k. t.every x h (subst (λ (z : ℕ). Within x z) (Memᴰ.eq_of_singleton m) k);
      }
  forest-draws b (c ∷ l) d w =
      let t = d b (here refl) in
      let f = forest-draws c l (λ x h. d x (there h)) w.1 in
      record {
        once = none_twice_append (leaves (draw b)) (leaves_of (forest_over draw c l)) t.on.once f.once
            (leaves-differ (draw b) (forest_over draw c l) t.on.all f.all w.0);
        all = ap₂ union t.on.all f.all;
        fewer = λ x h. either-fewer x t f (Memᴰ.append_cases (clusters (draw b)) h);
        every = λ x e h m k. either-every x e t f h k (Memᴰ.cases_cons m);
      }
    where
      either-fewer :
          (x : ℕ) → Draws cs b (draw b) → DrawsAll cs (c ∷ l) (forest_over draw c l)
          → Among x (clusters (draw b)) ⊎ Among x (clusters_of (forest_over draw c l)) → Among x cs
      either-fewer x t f (inl h) = t.fewer x h
      either-fewer x t f (inr h) = f.fewer x h

      either-every :
          (x e : ℕ) → Draws cs b (draw b) → DrawsAll cs (c ∷ l) (forest_over draw c l) → Among x cs → Within x e → (e ≡ b) ⊎ Among e (c ∷ l)
          → Among x (clusters (draw b) ++ clusters_of (forest_over draw c l))
      either-every x e t f h k (inl p) = Memᴰ.append_left (clusters_of (forest_over draw c l)) (t.every x h (subst (λ (z : ℕ). Within x z) p k))
      either-every x e t f h k (inr m) = Memᴰ.append_right (clusters (draw b)) (f.every x e h m k)

  -- the node over the children of a
  node-draws : (a : ℕ) (l : List ℕ) → 2 ≤ length l → Among a cs → ((x : ℕ) → Among x l → Draws cs x (draw x)) → AllApart l → together l ≡ a
      → ((x : ℕ) → Among x cs → Within x a → (x ≡ a → ⊥) → (c : ℕ) × Among c l × Within x c) → Draws cs a (node_over draw l)
  unfolding leaves leaves_of cluster cluster_of clusters clusters_of
  node-draws a [] n m d w e v = absurd (omega arith)
  node-draws a (b ∷ []) n m d w e v = absurd (omega arith)
  node-draws a (b ∷ c ∷ l) n m d w e v =
      let f = forest-draws b (c ∷ l) d w in
      record {
        on = record { once = f.once; all = f.all ∙ e };
        fewer = λ x h. among x f (Memᴰ.append_cases (clusters (draw b) ++ clusters_of (forest_over draw c l)) h);
        every = λ x h k. reached x f h k (ℕ_discrete x a);
      }
    where
      top : ℕ
      top = union (cluster (draw b)) (cluster_of (forest_over draw c l))

      among :
          (x : ℕ) → DrawsAll cs (b ∷ c ∷ l) (forest_over draw b (c ∷ l))
          → Among x (clusters (draw b) ++ clusters_of (forest_over draw c l)) ⊎ Among x (top ∷ []) → Among x cs
      among x f (inl h) = f.fewer x h
      among x f (inr h) = Memᴰ.cast (Memᴰ.eq_of_singleton h ∙ f.all ∙ e) m

      reached :
          (x : ℕ) → DrawsAll cs (b ∷ c ∷ l) (forest_over draw b (c ∷ l)) → Among x cs → Within x a → Dec (x ≡ a)
          → Among x (clusters (draw b) ++ clusters_of (forest_over draw c l) ++ (top ∷ []))
      reached x f h k (yes p) = Memᴰ.append_right (clusters (draw b) ++ clusters_of (forest_over draw c l)) (here (p ∙ sym e ∙ sym f.all))
      reached x f h k (no p) = let y = v x h k p in Memᴰ.append_left (top ∷ []) (f.every x y.0 h y.1 y.2)

module _ {s : ℕ} {cs : List ℕ} (h : Hierarchy s cs) where
  leaf-draws : {a : ℕ} → Among a cs → size a ≡ 1 → Draws cs a (leaf (lowest a) bare)
  unfolding leaves cluster clusters
  leaf-draws {a} m e =
      let p = single-lowest (cluster-below h m) e in
      record {
        on = record { once = none_twice_one (lowest a); all = sym p };
        fewer = λ x k. Memᴰ.cast (Memᴰ.eq_of_singleton k ∙ sym p) m;
        every = λ x k w. here (within-single (lowest a) (rw p at w) (h.inside x k).0);
      }

  drawn_to-draws : (k a : ℕ) → Among a cs → size a ≤ k → Draws cs a (drawn_to k cs a)
  unfolding drawn_to
  drawn_to-draws zero a m l = let p = size_some (h.inside a m).0 in absurd (omega arith)
  drawn_to-draws (suc k) a m l = go (eqb (size a) 1) refl (λ x. drawn_to-draws k x)
    where
      go : (t : Bool) → eqb (size a) 1 ≡ t → ((x : ℕ) → Among x cs → size x ≤ k → Draws cs x (drawn_to k cs x)) → Draws cs a (drawn_by t (λ b. drawn_to k cs b) cs a)
      go true e ih = leaf-draws m (eqb-true (size a) 1 e)
      go false e ih =
          let n = eqb-false (size a) 1 e in
          node-draws cs (λ b. drawn_to k cs b) a (children cs a) (children_two h m n) m
          (λ x j. let c = among-children cs a j in let q = size-within_lt x a c.inside c.other in ih x c.among (omega arith))
          (children_all_apart h a) (children-together h m n) (λ x j w d. within-child h j w d)

  -- each cluster draws the tree of those within it
  pub drawn-draws : {a : ℕ} → Among a cs → Draws cs a (drawn cs a)
  unfolding drawn
  drawn-draws {a} m = drawn_to-draws (size a) a m (omega arith)

-- ---- the drawing step by step

forest_over_same : (f g : ℕ → Tree) (b : ℕ) (l : List ℕ) → ((x : ℕ) → Among x (b ∷ l) → f x ≡ g x) → forest_over f b l ≡ forest_over g b l
forest_over_same f g b [] e = ap last (e b (here refl))
forest_over_same f g b (c ∷ l) e = ap₂ more (e b (here refl)) (forest_over_same f g c l (λ x h. e x (there h)))

node_over_same : (f g : ℕ → Tree) (l : List ℕ) → ((x : ℕ) → Among x l → f x ≡ g x) → node_over f l ≡ node_over g l
node_over_same f g [] e = refl
node_over_same f g (b ∷ []) e = e b (here refl)
node_over_same f g (b ∷ c ∷ l) e =
    ap₂ (λ (t : Tree) (u : Forest). node t u bare) (e b (here refl)) (forest_over_same f g c l (λ x h. e x (there h)))

module _ {s : ℕ} {cs : List ℕ} (h : Hierarchy s cs) where
  -- a depth that is not below the size of a does not matter
  depth_enough : (k j a : ℕ) → Among a cs → size a ≤ k → size a ≤ j → drawn_to k cs a ≡ drawn_to j cs a
  unfolding drawn_to
  depth_enough zero j a m p q = let n = size_some (h.inside a m).0 in absurd (omega arith)
  depth_enough (suc k) zero a m p q = let n = size_some (h.inside a m).0 in absurd (omega arith)
  depth_enough (suc k) (suc j) a m p q = go (eqb (size a) 1) (λ x. depth_enough k j x)
    where
      go :
          (t : Bool) → ((x : ℕ) → Among x cs → size x ≤ k → size x ≤ j → drawn_to k cs x ≡ drawn_to j cs x)
          → drawn_by t (λ b. drawn_to k cs b) cs a ≡ drawn_by t (λ b. drawn_to j cs b) cs a
      go true ih = refl
      go false ih =
          node_over_same (λ b. drawn_to k cs b) (λ b. drawn_to j cs b) (children cs a)
          (λ x i. let c = among-children cs a i in let n = size-within_lt x a c.inside c.other in ih x c.among (omega arith) (omega arith))

  -- a cluster of more than one species draws the node over what its children draw
  pub drawn-node : {a : ℕ} → Among a cs → (size a ≡ 1 → ⊥) → drawn cs a ≡ node_over (λ b. drawn cs b) (children cs a)
  unfolding drawn drawn_to
  drawn-node {a} m n =
      depth_enough (size a) (suc (size a)) a m (omega arith) (omega arith)
      ∙ ap (λ (t : Bool). drawn_by t (λ b. drawn_to (size a) cs b) cs a) (ne_eqb (size a) 1 n)
      ∙ node_over_same (λ b. drawn_to (size a) cs b) (λ b. drawn_to (size b) cs b) (children cs a)
      (λ x i. let c = among-children cs a i in let l = size-within_lt x a c.inside c.other in depth_enough (size a) (size x) x c.among (omega arith) (omega arith))

-- a cluster of one species draws a leaf
pub drawn-leaf : (cs : List ℕ) (a : ℕ) → size a ≡ 1 → drawn cs a ≡ leaf (lowest a) bare
unfolding drawn drawn_to
drawn-leaf cs a e =
    ap (λ (k : ℕ). drawn_to k cs a) e ∙ ap (λ (t : Bool). drawn_by t (λ b. drawn_to 0 cs b) cs a) (eq-eqb (size a) 1 e)

-- ---- the tree that a valid record draws

-- it is on the record's species
pub drawn_on : {b s : ℕ} {r : List ℕ} → ValidFor b s r → Small b s → On s (drawn (listed r) s)
drawn_on v small = (drawn-draws (hierarchy_of_valid v small) v.all).on

-- and the record is its record
pub drawn_record : {b s : ℕ} {r : List ℕ} → ValidFor b s r → Small b s → record_for b (clusters (drawn (listed r) s)) ≡ r
drawn_record {b} {s} {r} v small =
    let d = drawn-draws (hierarchy_of_valid v small) v.all in
    record_same (clusters (drawn (listed r) s)) v (clusters-once (drawn (listed r) s) d.on.once) d.fewer (λ x h. d.every x h (v.inside x h).1)
