-- Trees that differ only in where the root was drawn (#106): an equivalence; on the same species, equally resolved, and with the same clusters and complements.
use Prim.Native.Nat.{ℕ, ◌-◌, ◌≤◌}
use mathlib.Core.Path.{◌≡◌, sym, ap, ◌∙◌}
use mathlib.Core.Logic.{◌⊎◌, inl, inr, ⊎_elim}
use mathlib.Core.List.Memᴰ
use mathlib.Core.List.{List, [], ◌∷◌, ◌++◌, append_assoc, Memᴰ}
use native.Mathlib.Omega.{arith}
use Rattle.clusters.proofs.Sets.{within-le, union_minus_right}
use Rattle.trees.specs.Lists.{Among}
use Rattle.trees.specs.Tree.{Tree, Forest, Behind, leaves, leaves_of, cluster, clusters, clusters_of, On, Binary}
use Rattle.trees.specs.Tree.Tree.{node}
use Rattle.trees.specs.Tree.Forest.{last, more}
use Rattle.trees.specs.Unrooted.{OneOrTwo, RootedAnyhow, Redrawn}
use Rattle.trees.specs.Unrooted.Redrawn.{reordered, moved_over, at_node, on_branch, and_then}
use Rattle.trees.proofs.Nodes.{children-apart, cluster_some, clusters-inside, whole_among}
use Rattle.trees.proofs.RedrawingOrder.{times, Reordered, reordered-among, reordered_on, alike_refl, alike-sym, alike_two, alike-leaves, alike-clusters, alike-rooted}

-- what was drawn elsewhere can be drawn back
pub redrawn-sym : {t u : Tree} → Redrawn t u → Redrawn u t
redrawn-sym (reordered a) = reordered (alike-sym a)
redrawn-sym (moved_over {x = x} {y = y} {z = z} {b = b}) =
    and_then (reordered (alike_two {c = b} (alike_refl x) (alike_two {c = b} (alike_refl y) (alike_refl z))))
    (and_then (moved_over {d = b} {e = b}) (reordered (alike_two (alike_refl z) (alike_two (alike_refl y) (alike_refl x)))))
redrawn-sym at_node = on_branch
redrawn-sym on_branch = at_node
redrawn-sym (and_then p q) = and_then (redrawn-sym q) (redrawn-sym p)

-- ---- the same leaves, equally resolved

regrouped : (l k m : List ℕ) → Reordered (l ++ k ++ m) (l ++ (k ++ m))
regrouped l k m = record { same = λ x. ap (λ (r : List ℕ). times x r) (append_assoc l k m) }

grouped : (l k m : List ℕ) → Reordered (l ++ (k ++ m)) (l ++ k ++ m)
grouped l k m = record { same = λ x. sym ((regrouped l k m).same x) }

redrawn-leaves : {t u : Tree} → Redrawn t u → Reordered (leaves t) (leaves u)
unfolding leaves leaves_of
redrawn-leaves (reordered a) = alike-leaves a
redrawn-leaves (moved_over {x = x} {y = y} {z = z}) = regrouped (leaves x) (leaves y) (leaves z)
redrawn-leaves (at_node {x = x} {y = y} {z = z}) = regrouped (leaves x) (leaves y) (leaves z)
redrawn-leaves (on_branch {x = x} {y = y} {z = z}) = grouped (leaves x) (leaves y) (leaves z)
redrawn-leaves (and_then p q) = record { same = λ x. (redrawn-leaves p).same x ∙ (redrawn-leaves q).same x }

-- the redrawn tree is on the same species
pub redrawn_on : {s : ℕ} {t u : Tree} → Redrawn t u → On s t → On s u
redrawn_on {s} {t} {u} r o = reordered_on t u (redrawn-leaves r) o

-- and "binary save that the root may have three children" where the tree was
pub redrawn-rooted : {t u : Tree} → Redrawn t u → RootedAnyhow t → RootedAnyhow u
unfolding RootedAnyhow OneOrTwo Binary
redrawn-rooted (reordered a) h = alike-rooted a h
redrawn-rooted moved_over h = (h.0.0, (h.0.1, h.1))
redrawn-rooted at_node h = (h.0.0, (h.0.1, h.1))
redrawn-rooted on_branch h = ((h.0, h.1.0), h.1.1)
redrawn-rooted (and_then p q) h = redrawn-rooted q (redrawn-rooted p h)

-- ---- the same clusters without a root

-- x is "the complement of each but the whole" (#106): of one of the clusters cs, the whole set being s
pub record Complement (s : ℕ) (cs : List ℕ) (x : ℕ) : Type 0 where
  pub of : ℕ
  pub among : Among of cs
  pub other : of ≡ s → ⊥
  pub is : x ≡ s - of

-- x is one of the clusters cs, or such a complement
abbrev pub WithoutRoot : ℕ → List ℕ → ℕ → Type 0
WithoutRoot s cs x = Among x cs ⊎ Complement s cs x

-- where each of the one list is a cluster of the other without a root, so is the complement of each
pub without-root_through :
    {s x : ℕ} {cs ds : List ℕ} → ((y : ℕ) → Among y ds → y ≤ s) → ((y : ℕ) → Among y cs → WithoutRoot s ds y) → WithoutRoot s cs x → WithoutRoot s ds x
without-root_through {s} {x} {cs} {ds} below f (inl m) = f x m
without-root_through {s} {x} {cs} {ds} below f (inr c) = go (f c.of c.among)
  where
    go : WithoutRoot s ds c.of → WithoutRoot s ds x
    go (inl k) = inr (record { of = c.of; among = k; other = c.other; is = c.is })
    go (inr d) = inl (Memᴰ.cast (omega (arith, below d.of d.among, c.is, d.is)) d.among)

-- what each of two lists gives, they give one behind the other
pub either_side : {A P : Type 0} {x : A} (l k : List A) → (Memᴰ x l → P) → (Memᴰ x k → P) → Memᴰ x (l ++ k) → P
either_side l k f g m = ⊎_elim f g (Memᴰ.append_cases l m)

module _ (t : Tree) (f : Forest) (b : Behind) {x : ℕ} where
  -- the clusters of a node: its first child's, the others', and its own
  cluster-cases : {P : Type 0} → (Among x (clusters t) → P) → (Among x (clusters_of f) → P) → (x ≡ cluster (node t f b) → P) → Among x (clusters (node t f b)) → P
  unfolding clusters cluster
  cluster-cases p q r m =
      either_side (clusters t ++ clusters_of f) (cluster (node t f b) ∷ []) (either_side (clusters t) (clusters_of f) p q) (λ h. r (Memᴰ.eq_of_singleton h)) m

  first_among : Among x (clusters t) → Among x (clusters (node t f b))
  unfolding clusters cluster
  first_among m = Memᴰ.append_left (cluster (node t f b) ∷ []) (Memᴰ.append_left (clusters_of f) m)

  others-among : Among x (clusters_of f) → Among x (clusters (node t f b))
  unfolding clusters cluster
  others-among m = Memᴰ.append_left (cluster (node t f b) ∷ []) (Memᴰ.append_right (clusters t) m)

-- of two children at the root each is the complement of the other, and not the whole
pub across-root : {s : ℕ} {t u : Tree} {b : Behind} → On s (node t (last u) b) → (cluster t ≡ s - cluster u) × (cluster u ≡ s → ⊥)
unfolding cluster leaves
across-root {s} {t} {u} {b} o =
    let e : cluster t ≡ s - cluster u = sym (union_minus_right (cluster u) (children-apart t (last u) o.once)) ∙ ap (λ (c : ℕ). c - cluster u) o.all in
    (e, λ d. omega (arith, cluster_some t, d))

-- the root moved off the branch to z: what has the clusters of x, y and z, and the whole, has those of the tree
off_branch :
    {s : ℕ} {x y z : Tree} {b c : Behind} {ds : List ℕ} → On s (node (node x (last y) b) (last z) c) → ((v : ℕ) → Among v (clusters x) → Among v ds)
    → ((v : ℕ) → Among v (clusters y) → Among v ds) → ((v : ℕ) → Among v (clusters z) → Among v ds) → Among s ds
    → (v : ℕ) → Among v (clusters (node (node x (last y) b) (last z) c)) → WithoutRoot s ds v
unfolding clusters_of
off_branch {s} {x} {y} {z} {b} {c} {ds} o p q r all v m =
    let opp = across-root o in
    cluster-cases (node x (last y) b) (last z) c
    (cluster-cases x (last y) b (λ h. inl (p v h)) (λ h. inl (q v h))
    (λ e. inr (record { of = cluster z; among = r (cluster z) (whole_among z); other = opp.1; is = e ∙ opp.0 })))
    (λ h. inl (r v h)) (λ e. inl (Memᴰ.cast (e ∙ o.all) all)) m

on_whole : {s : ℕ} {t : Tree} → On s t → Among s (clusters t)
on_whole {s} {t} o = Memᴰ.cast (sym o.all) (whole_among t)

on_below : {s : ℕ} {t : Tree} → On s t → (y : ℕ) → Among y (clusters t) → y ≤ s
on_below {s} {t} o y m = omega (arith, within-le (clusters-inside t y m).1, o.all)

-- each cluster of the tree is one of the redrawn tree without a root
redrawn_covers : {s : ℕ} {t u : Tree} → On s t → Redrawn t u → (v : ℕ) → Among v (clusters t) → WithoutRoot s (clusters u) v
unfolding clusters_of
redrawn_covers o (reordered a) v m = inl (reordered-among (alike-clusters a) v m)
redrawn_covers o (moved_over {x = x} {y = y} {z = z} {d = d} {e = e}) v m =
    let u = node y (last z) d in
    off_branch o (λ v h. first_among x (last u) e h) (λ v h. others-among x (last u) e (first_among y (last z) d h))
    (λ v h. others-among x (last u) e (others-among y (last z) d h)) (on_whole (redrawn_on (moved_over {d = d} {e = e}) o)) v m
redrawn_covers o (at_node {x = x} {y = y} {z = z} {d = d}) v m =
    let f = more y (last z) in
    off_branch o (λ v h. first_among x f d h) (λ v h. others-among x f d (Memᴰ.append_left (clusters z) h))
    (λ v h. others-among x f d (Memᴰ.append_right (clusters y) h)) (on_whole (redrawn_on (at_node {d = d}) o)) v m
redrawn_covers o (on_branch {x = x} {y = y} {z = z} {b = b} {c = c} {d = d}) v m =
    let t = node x (last y) c in
    cluster-cases x (more y (last z)) b (λ h. inl (first_among t (last z) d (first_among x (last y) c h)))
    (either_side (clusters y) (clusters z) (λ h. inl (first_among t (last z) d (others-among x (last y) c h))) (λ h. inl (others-among t (last z) d h)))
    (λ e. inl (Memᴰ.cast (e ∙ o.all) (on_whole (redrawn_on (on_branch {c = c} {d = d}) o)))) m
redrawn_covers {s} o (and_then {u = u} {v = w} p q) v m =
    without-root_through (λ y k. on_below (redrawn_on q (redrawn_on p o)) y k) (redrawn_covers (redrawn_on p o) q) (redrawn_covers o p v m)

-- the clusters of a tree without its root are those of every redrawn tree
pub redrawn-without-root : {s : ℕ} {t u : Tree} → On s t → Redrawn t u → (x : ℕ) → WithoutRoot s (clusters t) x → WithoutRoot s (clusters u) x
redrawn-without-root {s} {t} {u} o r x h = without-root_through (on_below (redrawn_on r o)) (redrawn_covers o r) h
