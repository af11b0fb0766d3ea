-- How large the number of ties is: no more than there are trees, so 64 bits hold it.
use Prim.Native.Nat.{ℕ, ◌^◌, ◌≤◌, ◌<◌}
use mathlib.Core.Bool.{Bool, true, false}
use mathlib.Core.List.{List, [], ◌∷◌}
use native.Mathlib.Omega.{arith}
use lib.ListN.{length}
use Rattle.clusters.specs.Sets.{size}
use Rattle.clusters.proofs.Sizes.{size-le}
use Rattle.splits.specs.BinaryTrees.{Binary, trees_on}
use Rattle.splits.specs.Least.{keep_tree, those, trees_over, least_trees}
use Rattle.splits.specs.Ties.{tie_entry, tree_count}
use Rattle.splits.proofs.TreeCounts.{trees-counted, tree_count-mono, tree_count-sixteen}
use Rattle.splits.proofs.OverAllowed.{over}
use Rattle.splits.proofs.LeastTrees.{least_test}

-- those that pass a test are no more than all
those_shorter : (test : Binary → Bool) (l : List Binary) → length (those test l) ≤ length l
unfolding those
those_shorter test [] = omega arith
those_shorter test (t ∷ l) = go (test t) (those_shorter test l)
  where
    go : (b : Bool) → length (those test l) ≤ length l → length (keep_tree b t (those test l)) ≤ length (t ∷ l)
    go true h = omega arith
    go false h = omega arith

module _ (w : ℕ → ℕ) (ok : ℕ → Bool) (a : ℕ) where
  -- no more than all binary trees on a
  pub tie_bound : a < 2 ^ 32 → tie_entry w ok a ≤ tree_count (size a)
  unfolding tie_entry least_trees trees_over
  tie_bound h =
      omega (arith, those_shorter (least_test w (trees_over ok a)) (trees_over ok a), those_shorter (over ok) (trees_on a), trees-counted a h)

  -- "as a 64-bit number" (#111): for at most sixteen species it is one
  pub tie_fits : a < 65536 → tie_entry w ok a < 18446744073709551616
  tie_fits h = omega (arith, tie_bound (omega arith), tree_count-mono (size a) 16 (size-le 16 h), tree_count-sixteen)
