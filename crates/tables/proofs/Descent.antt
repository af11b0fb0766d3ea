-- The clusters of a tree, stored one after the other while the split table leads down the tree.
use Prim.Native.Nat.{ℕ, ◌+◌, ◌-◌, ◌≤◌, ◌<◌}
use mathlib.Core.Path.{◌≡◌, refl, sym, ap, ◌∙◌, subst}
use mathlib.Core.Logic.{◌⊎◌, inl, inr}
use mathlib.Core.List.Memᴰ
use mathlib.Core.List.{List, ◌++◌}
use native.Mathlib.Omega.{arith}
use lib.ListN.{length, get_or, set, take}
use Rattle.trees.specs.Lists.{Among}
use Rattle.splits.specs.BinaryTrees.{Binary, root, clusters_in}
use Rattle.splits.specs.BinaryTrees.Binary.{tip, fork}
use Rattle.splits.proofs.StoredClusters.{TreeStored, some_cluster, tip-stored, low-child-room, other_child_room, fork-stored, stored-clusters, stored-fits, stored-among}
use Rattle.tables.specs.Work.{Chosen, Chooses}

-- ---- a chosen tree, by the split entry of its cluster

-- it is a fork, at the low part that the entry says
pub record Forked (splits : List ℕ) (a : ℕ) (t : Binary) : Type 0 where
  pub low_tree_lem : Binary
  pub other_tree : Binary
  pub made : t ≡ fork a low_tree_lem other_tree
  pub low_root : root low_tree_lem ≡ get_or splits a 0
  pub other_root : root other_tree ≡ a - get_or splits a 0
  pub low_some : 1 ≤ get_or splits a 0
  pub low_less : get_or splits a 0 < a
  pub low_chosen : Chosen splits low_tree_lem
  pub other_chosen : Chosen splits other_tree

forked : (splits : List ℕ) (a : ℕ) (t : Binary) → Chosen splits t → root t ≡ a → (get_or splits a 0 ≡ 0 → ⊥) → Forked splits a t
unfolding Chosen
forked splits a (tip b) h e f = absurd (f (ap (λ k. get_or splits k 0) (sym e) ∙ h))
forked splits a (fork b t u) h e f =
    subst (λ k. Forked splits k (fork b t u)) e (record {
      low_tree_lem = t;
      other_tree = u;
      made = refl;
      low_root = sym h.0;
      other_root = h.3 ∙ ap (λ k. b - k) (sym h.0);
      low_some = omega (arith, h.0, h.1);
      low_less = omega (arith, h.0, h.2);
      low_chosen = h.4;
      other_chosen = h.5;
    })

tip-chosen : (splits : List ℕ) (a : ℕ) (t : Binary) → Chosen splits t → root t ≡ a → get_or splits a 0 ≡ 0 → t ≡ tip a
unfolding Chosen
tip-chosen splits a (tip b) h e z = ap tip e
tip-chosen splits a (fork b t u) h e z = absurd (omega (arith, h.0, h.1, ap (λ k. get_or splits k 0) e))

-- what is stored for a tree on a: its clusters, from the place on
abbrev pub Stored : List ℕ → List ℕ → ℕ → ℕ → ℕ → List ℕ → Type 0
Stored splits clusters a place next after = (t : Binary) → root t ≡ a → Chosen splits t → TreeStored clusters place t next after

module _ (splits clusters : List ℕ) (a place : ℕ) where
  pub stored-tip : get_or splits a 0 ≡ 0 → Stored splits clusters a place (place + 1) (set clusters place a)
  stored-tip z t e h =
      subst (λ u. TreeStored clusters place u (place + 1) (set clusters place a)) (sym (tip-chosen splits a t h e z)) (tip-stored clusters a place)

  module _ (h : Chooses splits a (length clusters - place)) where
    pub place_there : place < length clusters
    place_there = let f = h.fits in omega (arith, some_cluster h.tree)

    module _ (f : get_or splits a 0 ≡ 0 → ⊥) where
      split-tree : Forked splits a h.tree
      split-tree = forked splits a h.tree h.chosen h.rooted f

      pub low_less : get_or splits a 0 < a
      low_less = split-tree.low_less

      pub rest_less : a - get_or splits a 0 < a
      rest_less = let l = split-tree.low_some in let m = split-tree.low_less in omega arith

      room : place + length (clusters_in (fork a split-tree.low_tree_lem split-tree.other_tree)) ≤ length clusters
      room = let f = h.fits in omega (arith, ap (λ t. length (clusters_in t)) split-tree.made, place_there)

      pub low_chooses : Chooses splits (get_or splits a 0) (length (set clusters place a) - (place + 1))
      low_chooses = record {
        tree = split-tree.low_tree_lem;
        rooted = split-tree.low_root;
        chosen = split-tree.low_chosen;
        fits = omega (arith, low-child-room clusters a place split-tree.low_tree_lem split-tree.other_tree room);
      }

      module _ (next : ℕ) (between : List ℕ) (s : Stored splits (set clusters place a) (get_or splits a 0) (place + 1) next between) where
        low-stored : TreeStored (set clusters place a) (place + 1) split-tree.low_tree_lem next between
        low-stored = s split-tree.low_tree_lem split-tree.low_root split-tree.low_chosen

        pub rest_chooses : Chooses splits (a - get_or splits a 0) (length between - next)
        rest_chooses = record {
          tree = split-tree.other_tree;
          rooted = split-tree.other_root;
          chosen = split-tree.other_chosen;
          fits = omega (arith, other_child_room clusters a place split-tree.low_tree_lem split-tree.other_tree low-stored room);
        }

      -- both children are stored, and so the fork is
      pub stored-fork : (next : ℕ) (between : List ℕ) (last : ℕ) (after : List ℕ)
          → Stored splits (set clusters place a) (get_or splits a 0) (place + 1) next between
          → Stored splits between (a - get_or splits a 0) next last after
          → Stored splits clusters a place last after
      stored-fork next between last after s r t e c =
          let k = forked splits a t c e f in
          let low = s k.low_tree_lem k.low_root k.low_chosen in
          let other = r k.other_tree k.other_root k.other_chosen in
          subst (λ u. TreeStored clusters place u last after) (sym k.made) (fork-stored clusters a place k.low_tree_lem k.other_tree low other)

pub chooses_more : {splits : List ℕ} {a less room : ℕ} → Chooses splits a less → less ≤ room → Chooses splits a room
chooses_more h l = let f = h.fits in record { tree = h.tree; rooted = h.rooted; chosen = h.chosen; fits = omega arith }

-- ---- what is stored from the first place on

-- no cluster of a chosen tree is greater than its root
clusters-le : (splits : List ℕ) (t : Binary) → Chosen splits t → (x : ℕ) → Among x (clusters_in t) → x ≤ root t
unfolding Chosen clusters_in
clusters-le splits (tip a) h x m = let e = Memᴰ.eq_of_singleton m in omega arith
clusters-le splits (fork a t u) h x m = go (Memᴰ.cases_cons m) (λ k. clusters-le splits t h.4 x k) (λ k. clusters-le splits u h.5 x k)
  where
    below : Among x (clusters_in t) ⊎ Among x (clusters_in u) → (Among x (clusters_in t) → x ≤ root t) → (Among x (clusters_in u) → x ≤ root u) → x ≤ a
    below (inl k) p q = omega (arith, p k, h.2)
    below (inr k) p q = omega (arith, q k, h.3)

    go : (x ≡ a) ⊎ Among x (clusters_in t ++ clusters_in u) → (Among x (clusters_in t) → x ≤ root t) → (Among x (clusters_in u) → x ≤ root u) → x ≤ a
    go (inl e) p q = omega arith
    go (inr k) p q = below (Memᴰ.append_cases (clusters_in t) k) p q

module _ {splits : List ℕ} {a next : ℕ} {after : List ℕ} (lent : List ℕ) (h : Chooses splits a (length lent)) (s : Stored splits lent a 0 next after) where
  stored : TreeStored lent 0 h.tree next after
  stored = s h.tree h.rooted h.chosen

  pub front_fits : next ≤ length after
  front_fits = stored-fits lent h.tree h.fits stored

  pub front_few : {room : ℕ} → Chooses splits a room → next ≤ room
  front_few m = let f = m.fits in omega (arith, (s m.tree m.rooted m.chosen).0)

  pub front_below : (k : ℕ) → k < next → get_or after k 0 ≤ a
  front_below k l = omega (arith, h.rooted, clusters-le splits h.tree h.chosen (get_or after k 0) (stored-among lent h.tree h.fits stored k l))

  pub front-clusters : (t : Binary) → root t ≡ a → Chosen splits t → take next after ≡ clusters_in t
  front-clusters t e c = let f = h.fits in stored-clusters lent t (omega (arith, stored.0, (s t e c).0)) (s t e c)
