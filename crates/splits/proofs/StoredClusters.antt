-- The clusters of a binary tree, counted, and stored one after the other: that of its root, then those of its low child, then those of the other.
use Prim.Native.Nat.{ℕ, ◌+◌, ◌≤◌, ◌<◌}
use mathlib.Core.Path.{◌≡◌, refl, sym, ap, ap₂, ◌∙◌, subst}
use mathlib.Core.List.{List, ◌++◌}
use native.Mathlib.Numerals.{add-one}
use native.Mathlib.Omega.{arith}
use lib.ListN.{length, get_or, set, take, length-append, length-set}
use lib.Seq.{sets, length-sets}
use Rattle.trees.specs.Lists.{Among}
use Rattle.trees.proofs.Places.{at_among}
use Rattle.trees.proofs.Stores.{sets_append, get_or-sets, take-sets}
use Rattle.splits.specs.BinaryTrees.{Binary, clusters_in}
use Rattle.splits.specs.BinaryTrees.Binary.{tip, fork}

-- ---- how many they are

pub some_cluster : (t : Binary) → 1 ≤ length (clusters_in t)
unfolding clusters_in
some_cluster (tip a) = omega arith
some_cluster (fork a t u) = omega arith

pub count-fork : (a : ℕ) (t u : Binary) → length (clusters_in (fork a t u)) ≡ 1 + (length (clusters_in t) + length (clusters_in u))
unfolding clusters_in
count-fork a t u = omega (arith, length-append (clusters_in t) (clusters_in u))

-- ---- stored from a place on

-- the clusters of a tree stand from the place on; next is the place behind them
abbrev pub TreeStored : List ℕ → ℕ → Binary → ℕ → List ℕ → Type 0
TreeStored l place t next after = (next ≡ place + length (clusters_in t)) × (after ≡ sets l place (clusters_in t))

pub tip-stored : (l : List ℕ) (a place : ℕ) → TreeStored l place (tip a) (place + 1) (set l place a)
unfolding clusters_in
tip-stored l a place = (refl, refl)

module _ (l : List ℕ) (a place : ℕ) (t u : Binary) where
  -- where there is room for a fork, there is for its low child behind the root
  pub low-child-room : place + length (clusters_in (fork a t u)) ≤ length l → place + 1 + length (clusters_in t) ≤ length (set l place a)
  low-child-room room = omega (arith, count-fork a t u, length-set l place a)

  module _ {next : ℕ} {between : List ℕ} (s : TreeStored (set l place a) (place + 1) t next between) where
    -- and for the other child behind that one
    pub other_child_room : place + length (clusters_in (fork a t u)) ≤ length l → next + length (clusters_in u) ≤ length between
    other_child_room room =
        omega (arith, count-fork a t u, s.0, ap length s.1, length-sets (set l place a) (place + 1) (clusters_in t), length-set l place a)

    -- both children are stored behind the root, and so the fork is
    pub fork-stored : {last : ℕ} {after : List ℕ} → TreeStored between next u last after → TreeStored l place (fork a t u) last after
    unfolding clusters_in
    fork-stored r = (
      omega (arith, s.0, r.0, length-append (clusters_in t) (clusters_in u)),
      r.1 ∙ ap₂ (λ k i. sets k i (clusters_in u)) s.1 s.0 ∙ sets_append (set l place a) (place + 1) (clusters_in t) (clusters_in u)
          ∙ ap (λ i. sets (set l place a) i (clusters_in t ++ clusters_in u)) (add-one place),
    )

-- ---- stored from the first place on

module _ (lent : List ℕ) (t : Binary) {next : ℕ} {after : List ℕ} (fits : length (clusters_in t) ≤ length lent) (s : TreeStored lent 0 t next after) where
  count : next ≡ length (clusters_in t)
  count = omega (arith, s.0)

  pub stored-clusters : take next after ≡ clusters_in t
  stored-clusters = ap₂ take count s.1 ∙ take-sets lent (clusters_in t) fits

  pub stored-fits : next ≤ length after
  stored-fits = omega (arith, count, ap length s.1, length-sets lent 0 (clusters_in t))

  -- each entry is a cluster of the tree
  pub stored-among : (k : ℕ) → k < next → Among (get_or after k 0) (clusters_in t)
  stored-among k l =
      let inside : k < length (clusters_in t) = omega (arith, count) in
      subst (λ x. Among x (clusters_in t)) (sym (ap (λ r. get_or r k 0) s.1 ∙ get_or-sets lent (clusters_in t) k fits inside)) (at_among (clusters_in t) 0 k inside)
