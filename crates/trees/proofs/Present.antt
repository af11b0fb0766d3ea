-- Which clusters a record lists, place by place.
use Prim.Native.Nat.{ℕ, ◌+◌, ◌-◌, ◌≤◌, ◌<◌}
use mathlib.Core.Path.{◌≡◌, sym, subst}
use mathlib.Core.List.Memᴰ
use mathlib.Core.List.{List}
use native.Mathlib.Omega.{arith}
use lib.ListN.{length, get_or, take, drop}
use Rattle.clusters.specs.Sets.{Has, Within, single}
use Rattle.clusters.proofs.Members.{single-has, has_of_within}
use Rattle.trees.specs.Lists.{Among}
use Rattle.trees.proofs.Places.{place-among, among-place}

-- a set has a species when the set of that one species lies within it
pub has_of_single : (s i : ℕ) → Within (single i) s → Has s i
has_of_single s i w = has_of_within (single i) s i w (single-has i)

module _ {size : ℕ} (r : List ℕ) (m : ℕ) (long : length r ≡ size) (few : m ≤ size - 1) where
  -- what holds at the places from 1 to m holds of all clusters
  pub all_of_places : (P : ℕ → Type 0) → ((i : ℕ) → i < m + 1 → 1 ≤ i → P (get_or r i 0)) → (a : ℕ) → Among a (take m (drop 1 r)) → P a
  all_of_places P f a h =
      let p = among-place r m long few a h in
      subst P p.there (f p.place (omega arith) p.first)

  -- a number that stands at no place from 1 to m is no cluster
  pub absent_of_places : (a : ℕ) → ((i : ℕ) → i < m + 1 → 1 ≤ i → get_or r i 0 ≡ a → ⊥) → Among a (take m (drop 1 r)) → ⊥
  absent_of_places a f h =
      let p = among-place r m long few a h in
      f p.place (omega arith) p.first p.there

  -- a number that stands at one of them is one
  pub present_of_place : (a i : ℕ) → 1 ≤ i → i ≤ m → get_or r i 0 ≡ a → Among a (take m (drop 1 r))
  present_of_place a i one last e = Memᴰ.cast (sym e) (place-among r m long few i one last)
