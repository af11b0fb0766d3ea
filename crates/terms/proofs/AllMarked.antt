-- Bytes that mark every cluster allow every cluster.
use Prim.Native.Nat.{ℕ, ◌^◌, ◌≤◌, ◌<◌}
use mathlib.Core.Path.{◌≡◌, sym}
use mathlib.Core.Bool.{true, ◌||◌}
use native.Mathlib.Omega.{arith}
use lib.ListN.{get_or, get_or-replicate}
use lib.Dec.{eqb}
use borrow.Author.Tests.{eq-eqb}
use Rattle.clusters.specs.Sets.{whole, size}
use Rattle.trees.proofs.Booleans.{or_right}
use Rattle.terms.specs.Allowed.{allowed_in, allowed_for, every_cluster}
use Rattle.std.specs.Prelude.{Some, None}

module _ (n a : ℕ) (below : a < 2 ^ n) where
  all_ones : get_or (every_cluster n) a 0 ≡ 1
  all_ones = get_or-replicate (2 ^ n) a 1 0 below

  -- no byte is strange
  pub all_judged : get_or (every_cluster n) a 0 ≤ 1
  all_judged = omega (arith, all_ones)

  pub all_allowed : allowed_in n (every_cluster n) a ≡ true
  unfolding allowed_in
  all_allowed = or_right (eqb (size a) 1 || eqb a (whole n)) (eqb (get_or (every_cluster n) a 0) 1) (eq-eqb (get_or (every_cluster n) a 0) 1 all_ones)

  -- every cluster of n species is allowed by them as it is without them
  pub every_as_marked : allowed_for None n a ≡ allowed_for (Some (every_cluster n)) n a
  every_as_marked = sym all_allowed
