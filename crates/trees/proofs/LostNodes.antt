-- Which clusters are lost (#113): exactly those of the weak inner nodes that are not the root.
use Prim.Native.Nat.{ℕ}
use mathlib.Core.Path.{◌≡◌, refl, sym, ap, ap₂, ◌∙◌, subst}
use mathlib.Core.Logic.{◌⊎◌, inl, inr, ◌↔◌}
use mathlib.Core.Bool.{Bool, true, false, false≢true}
use mathlib.Core.List.{List, [], ◌∷◌, ◌++◌, map, map-append}
use mathlib.Core.List.Memᴰ
use mathlib.Core.List.Memᴰ.{head as here}
use mathlib.Core.List.{Memᴰ}
use Rattle.clusters.specs.Sets.{union}
use Rattle.trees.specs.Lists.{Among, NoneTwice}
use Rattle.trees.specs.Tree.{Tree, Forest, Behind, On, cluster, cluster_of, clusters, clusters_of}
use Rattle.trees.specs.Tree.Tree.{leaf, node}
use Rattle.trees.specs.Tree.Forest.{last, more}
use Rattle.trees.specs.Thinned.{unless_lost, left_below, left_below_of, clusters_left, all_nodes, all_nodes_of, below_root, WeakInner, OfWeak}
use Rattle.trees.proofs.Booleans.{unless, never_both}
use Rattle.trees.proofs.Listing.{append_passes, none_twice_left, none_twice_parts}
use Rattle.trees.proofs.Nodes.{clusters-once}

-- ---- the clusters of a tree are those of its nodes

mutual
  unfolding clusters clusters_of cluster all_nodes all_nodes_of

  pub nodes-clusters : (t : Tree) → map cluster (all_nodes t) ≡ clusters t
  nodes-clusters (leaf i b) = refl
  nodes-clusters (node t f b) =
      map-append cluster (all_nodes t ++ all_nodes_of f) (node t f b ∷ [])
      ∙ ap (λ (l : List ℕ). l ++ (union (cluster t) (cluster_of f) ∷ [])) (map-append cluster (all_nodes t) (all_nodes_of f) ∙ ap₂ ◌++◌ (nodes-clusters t) (nodes_of_clusters f))

  nodes_of_clusters : (f : Forest) → map cluster (all_nodes_of f) ≡ clusters_of f
  nodes_of_clusters (last t) = nodes-clusters t
  nodes_of_clusters (more t f) = map-append cluster (all_nodes t) (all_nodes_of f) ∙ ap₂ ◌++◌ (nodes-clusters t) (nodes_of_clusters f)

-- nodes with different clusters: the same cluster is that of the same node
own-cluster : {u v : Tree} (l : List Tree) → NoneTwice (map cluster l) → Memᴰ u l → Memᴰ v l → cluster u ≡ cluster v → u ≡ v
unfolding NoneTwice
own-cluster [] p m k e = absurd (Memᴰ.not-nil m)
own-cluster {u} {v} (w ∷ l) p m k e = go (Memᴰ.cases_cons m) (Memᴰ.cases_cons k) (λ i j. own-cluster l p.1 i j e)
  where
    go : (u ≡ w) ⊎ Memᴰ u l → (v ≡ w) ⊎ Memᴰ v l → (Memᴰ u l → Memᴰ v l → u ≡ v) → u ≡ v
    go (inl i) (inl j) later = i ∙ sym j
    go (inl i) (inr j) later = absurd (p.0 (Memᴰ.cast (ap cluster (sym i) ∙ e) (Memᴰ.map cluster j)))
    go (inr i) (inl j) later = absurd (p.0 (Memᴰ.cast (ap cluster (sym j) ∙ sym e) (Memᴰ.map cluster i)))
    go (inr i) (inr j) later = later i j

-- ---- all nodes keep their clusters but the weak inner ones that are not the root

module _ (weak : Behind → Bool) where
  -- the root keeps its cluster
  pub root_left : (t : Tree) → Among (cluster t) (clusters_left weak t)
  unfolding clusters_left cluster
  root_left (leaf i b) = here refl
  root_left (node t f b) = Memᴰ.append_right (left_below weak t ++ left_below_of weak f) (here refl)

  end_strong : (t : Tree) (f : Forest) (b : Behind) (u : Tree) → (WeakInner weak u → ⊥) → Memᴰ u (node t f b ∷ []) → Among (cluster u) (unless_lost (weak b) (union (cluster t) (cluster_of f)))
  unfolding cluster WeakInner
  end_strong t f b u s m =
      let e = Memᴰ.eq_of_singleton m in
      rw (unless (weak b) (λ h. s (subst (WeakInner weak) (sym e) h))) (here (ap cluster e))

  mutual
    unfolding left_below left_below_of all_nodes all_nodes_of cluster

    strong-kept : (t u : Tree) → (WeakInner weak u → ⊥) → Memᴰ u (all_nodes t) → Among (cluster u) (left_below weak t)
    strong-kept (leaf i b) u s m = here (ap cluster (Memᴰ.eq_of_singleton m))
    strong-kept (node t f b) u s m =
        append_passes (all_nodes t ++ all_nodes_of f) (node t f b ∷ []) (left_below weak t ++ left_below_of weak f) (unless_lost (weak b) (union (cluster t) (cluster_of f)))
        (append_passes (all_nodes t) (all_nodes_of f) (left_below weak t) (left_below_of weak f) (λ k. strong-kept t u s k) (λ k. strong_of_kept f u s k))
        (end_strong t f b u s) m

    strong_of_kept : (f : Forest) (u : Tree) → (WeakInner weak u → ⊥) → Memᴰ u (all_nodes_of f) → Among (cluster u) (left_below_of weak f)
    strong_of_kept (last t) u s m = strong-kept t u s m
    strong_of_kept (more t f) u s m =
        append_passes (all_nodes t) (all_nodes_of f) (left_below weak t) (left_below_of weak f) (λ k. strong-kept t u s k) (λ k. strong_of_kept f u s k) m

  below-kept : (t u : Tree) → (WeakInner weak u → ⊥) → Memᴰ u (below_root t) → Among (cluster u) (clusters_left weak t)
  unfolding clusters_left below_root
  below-kept (leaf i b) u s m = absurd (Memᴰ.not-nil m)
  below-kept (node t f b) u s m = Memᴰ.append_left (union (cluster t) (cluster_of f) ∷ []) (strong_of_kept (more t f) u s m)

-- ---- and no others

-- x is the cluster of one of the nodes, which is no weak inner one
record OfStrong (weak : Behind → Bool) (l : List Tree) (x : ℕ) : Type 0 where
  whose : Tree
  among : Memᴰ whose l
  strong : WeakInner weak whose → ⊥
  is : cluster whose ≡ x

module _ (weak : Behind → Bool) where
  strong_left : {x : ℕ} {l : List Tree} (k : List Tree) → OfStrong weak l x → OfStrong weak (l ++ k) x
  strong_left k s = record { whose = s.whose; among = Memᴰ.append_left k s.among; strong = s.strong; is = s.is }

  strong_right : {x : ℕ} {k : List Tree} (l : List Tree) → OfStrong weak k x → OfStrong weak (l ++ k) x
  strong_right l s = record { whose = s.whose; among = Memᴰ.append_right l s.among; strong = s.strong; is = s.is }

  strong-either :
      {x : ℕ} (l k : List ℕ) (ns ms : List Tree) → (Among x l → OfStrong weak ns x) → (Among x k → OfStrong weak ms x) → Among x (l ++ k) → OfStrong weak (ns ++ ms) x
  strong-either {x} l k ns ms f g m = go (Memᴰ.append_cases l m)
    where
      go : Among x l ⊎ Among x k → OfStrong weak (ns ++ ms) x
      go (inl h) = strong_left ms (f h)
      go (inr h) = strong_right ns (g h)

  -- a node whose cluster stays where it ends
  strong_end : (t : Tree) (f : Forest) (b : Behind) (x : ℕ) → Among x (unless_lost (weak b) (union (cluster t) (cluster_of f))) → OfStrong weak (node t f b ∷ []) x
  unfolding cluster WeakInner
  strong_end t f b x m = go (weak b) refl m
    where
      go : (lost : Bool) → weak b ≡ lost → Among x (unless_lost lost (union (cluster t) (cluster_of f))) → OfStrong weak (node t f b ∷ []) x
      go true e m = absurd (Memᴰ.not-nil m)
      go false e m = record { whose = node t f b; among = here refl; strong = λ h. never_both (weak b) h e; is = sym (Memᴰ.eq_of_singleton m) }

  mutual
    unfolding left_below left_below_of all_nodes all_nodes_of cluster WeakInner

    left_strong : (t : Tree) (x : ℕ) → Among x (left_below weak t) → OfStrong weak (all_nodes t) x
    left_strong (leaf i b) x m = record { whose = leaf i b; among = here refl; strong = λ h. h; is = sym (Memᴰ.eq_of_singleton m) }
    left_strong (node t f b) x m =
        strong-either (left_below weak t ++ left_below_of weak f) (unless_lost (weak b) (union (cluster t) (cluster_of f))) (all_nodes t ++ all_nodes_of f) (node t f b ∷ [])
        (strong-either (left_below weak t) (left_below_of weak f) (all_nodes t) (all_nodes_of f) (λ k. left_strong t x k) (λ k. left_of_strong f x k))
        (strong_end t f b x) m

    left_of_strong : (f : Forest) (x : ℕ) → Among x (left_below_of weak f) → OfStrong weak (all_nodes_of f) x
    left_of_strong (last t) x m = left_strong t x m
    left_of_strong (more t f) x m =
        strong-either (left_below weak t) (left_below_of weak f) (all_nodes t) (all_nodes_of f) (λ k. left_strong t x k) (λ k. left_of_strong f x k) m

  -- what is left is the root's, or that of a node below it that is no weak inner one
  left_whose : (t : Tree) (x : ℕ) → Among x (clusters_left weak t) → (x ≡ cluster t) ⊎ OfStrong weak (below_root t) x
  unfolding clusters_left below_root cluster
  left_whose (leaf i b) x m = inl (Memᴰ.eq_of_singleton m)
  left_whose (node t f b) x m = go (Memᴰ.append_cases (left_below weak t ++ left_below_of weak f) m)
    where
      go : Among x (left_below weak t ++ left_below_of weak f) ⊎ Among x (union (cluster t) (cluster_of f) ∷ []) → (x ≡ union (cluster t) (cluster_of f)) ⊎ OfStrong weak (all_nodes t ++ all_nodes_of f) x
      go (inl h) = inr (left_of_strong (more t f) x h)
      go (inr h) = inl (Memᴰ.eq_of_singleton h)

nodes-below : (t : Tree) → all_nodes t ≡ below_root t ++ (t ∷ [])
unfolding below_root all_nodes
nodes-below (leaf i b) = refl
nodes-below (node t f b) = refl

weak_dec : (weak : Behind → Bool) (u : Tree) → Dec (WeakInner weak u)
unfolding WeakInner
weak_dec weak (leaf i b) = no (λ h. h)
weak_dec weak (node t f b) = go (weak b)
  where
    go : (lost : Bool) → Dec (lost ≡ true)
    go true = yes refl
    go false = no (λ e. false≢true e)

-- ---- which clusters are lost

module _ (weak : Behind → Bool) {s : ℕ} {t : Tree} (o : On s t) (x : ℕ) where
  by_nodes : clusters t ≡ map cluster (below_root t) ++ (cluster t ∷ [])
  by_nodes = sym (nodes-clusters t) ∙ ap (λ (l : List Tree). map cluster l) (nodes-below t) ∙ map-append cluster (below_root t) (t ∷ [])

  nodes-once : NoneTwice (map cluster (below_root t) ++ (cluster t ∷ []))
  nodes-once = subst NoneTwice by_nodes (clusters-once t o.once)

  weak_of_lost : Among x (clusters t) → (Among x (clusters_left weak t) → ⊥) → OfWeak weak t x
  weak_of_lost m lost = go (Memᴰ.append_cases (map cluster (below_root t)) (subst (Among x) by_nodes m))
    where
      by : (u : Tree) → Memᴰ u (below_root t) → cluster u ≡ x → Dec (WeakInner weak u) → OfWeak weak t x
      by u k e (yes w) = record { whose = u; below = k; inner = w; is = e }
      by u k e (no strong) = absurd (lost (Memᴰ.cast (sym e) (below-kept weak t u strong k)))

      go : Among x (map cluster (below_root t)) ⊎ Among x (cluster t ∷ []) → OfWeak weak t x
      go (inl k) = let u = Memᴰ.of_map cluster (below_root t) k in by u.0 u.1 u.2 (weak_dec weak u.0)
      go (inr k) = absurd (lost (Memᴰ.cast (Memᴰ.eq_of_singleton k) (root_left weak t)))

  among_below : OfWeak weak t x → Among x (map cluster (below_root t))
  among_below u = Memᴰ.cast (sym u.is) (Memᴰ.map cluster u.below)

  lost_of_weak : OfWeak weak t x → Among x (clusters_left weak t) → ⊥
  lost_of_weak u m = go (left_whose weak t x m)
    where
      go : (x ≡ cluster t) ⊎ OfStrong weak (below_root t) x → ⊥
      go (inl top) = none_twice_parts (map cluster (below_root t)) (cluster t ∷ []) nodes-once x (among_below u) (here top)
      go (inr v) =
          let same = own-cluster (below_root t) (none_twice_left (map cluster (below_root t)) (cluster t ∷ []) nodes-once) u.below v.among (u.is ∙ sym v.is) in
          v.strong (subst (WeakInner weak) same u.inner)

  -- "An inner node, not the root, .. loses its cluster" (#113), and no other does
  pub lost_exactly : (Among x (clusters t) × (Among x (clusters_left weak t) → ⊥)) ↔ OfWeak weak t x
  lost_exactly = (
    λ k. weak_of_lost k.0 k.1,
    λ u. (subst (Among x) (sym by_nodes) (Memᴰ.append_left (cluster t ∷ []) (among_below u)), lost_of_weak u),
  )
