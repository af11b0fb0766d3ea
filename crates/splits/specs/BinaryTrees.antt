-- All binary trees on a cluster, in 01's order.
use Rattle.std.specs.Prelude.{ℕ, zero, suc, ◌-◌, Bool, true, false, ◌&&◌, List, [], ◌∷◌, ◌++◌, map, eqb}
use Rattle.clusters.specs.Sets.{has, within, size, lowest}
use Rattle.trees.specs.Lists.{keep, up_to}

-- a binary tree with the cluster of each node: a single species, or a node over its low child and its other child
pub data Binary : Type 0 where
  tip : ℕ → Binary
  fork : ℕ → Binary → Binary → Binary

-- the cluster of a tree's root
abbrev pub root : Binary → ℕ
root (tip a) = a
root (fork a t u) = a

-- all clusters of a tree
unfoldable pub clusters_in : Binary → List ℕ
clusters_in (tip a) = a ∷ []
clusters_in (fork a t u) = a ∷ clusters_in t ++ clusters_in u

-- "The low part of a cluster is the child that holds its lowest species": it can be low, and the other child is the rest of a
unfoldable pub is_low : ℕ → ℕ → Bool
is_low a low = within low a && has low (lowest a)

-- the low parts of a, "the smaller number first"
unfoldable pub lows : ℕ → List ℕ
lows a = keep (is_low a) (up_to a)

-- the lists that a function gives, one after the other
unfoldable pub each : {A B : Type 0} → (A → List B) → List A → List B
each f [] = []
each f (x ∷ l) = f x ++ each f l

-- the trees with a low child of the first list and another child of the second, by the low child first
unfoldable pub forks : ℕ → List Binary → List Binary → List Binary
unfolding each
forks a ts us = each (λ t. map (λ u. fork a t u) us) ts

-- a single species has its tip; else each low part with the rest of a
abbrev pub trees_by : Bool → (ℕ → List Binary) → ℕ → List Binary
trees_by true below a = tip a ∷ []
trees_by false below a = each (λ low. forks a (below low) (below (a - low))) (lows a)

-- the binary trees on a cluster of at most so many species
unfoldable pub trees_to : ℕ → ℕ → List Binary
trees_to zero a = []
trees_to (suc k) a = trees_by (eqb (size a) 1) (λ b. trees_to k b) a

-- all binary trees on a, in 01's order; none on the empty set
unfoldable pub trees_on : ℕ → List Binary
unfolding trees_to
trees_on a = trees_to (size a) a
