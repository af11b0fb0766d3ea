-- Where labels begin, and the names of those that begin before a place.
use Prim.Native.Nat.{ℕ, zero, suc, ◌+◌, ◌≤◌, ◌<◌}
use native.Mathlib.Nat.{add-zero, add-suc}
use native.Mathlib.Omega.{arith}
use mathlib.Core.Path.{◌≡◌, refl}
use mathlib.Core.Bool.{Bool, true, false}
use mathlib.Core.List.{List, [], ◌∷◌, ◌++◌, map, append-nil, map-append}
use lib.ListN.{length, length-map}
use Rattle.trees.specs.Lists.{keep, up_to}
use Rattle.trees.proofs.Listing.{keep_append}
use Rattle.roster.specs.Roster.{begins, beginnings, name_at, names}
use Rattle.roster.proofs.Each.{Each, each_none, each_more}

-- the names whose labels begin before p
unfoldable pub names_to : List ℕ → ℕ → List (List ℕ)
names_to line p = map (name_at line) (beginnings line p)

module _ (line : List ℕ) where
  pub names_to_end : names line ≡ names_to line (length line)
  unfolding names names_to
  names_to_end = refl

  pub as_many : (p : ℕ) → length (names_to line p) ≡ length (beginnings line p)
  unfolding names_to
  as_many p = length-map (beginnings line p) (name_at line)

  pub none_yet : names_to line 0 ≡ []
  unfolding names_to beginnings up_to keep
  none_yet = refl

  -- a name whose label begins at p is the next
  pub with_more : (p : ℕ) → begins line p ≡ true → names_to line (suc p) ≡ names_to line p ++ (name_at line p ∷ [])
  unfolding names_to beginnings up_to keep
  with_more p e = rw (keep_append (begins line) (up_to p) (p ∷ []), e) (map-append (name_at line) (keep (begins line) (up_to p)) (p ∷ []))

  -- where none begins there are as before
  pub no_more : (p : ℕ) → begins line p ≡ false → names_to line (suc p) ≡ names_to line p
  unfolding names_to beginnings up_to keep
  no_more p e = rw (keep_append (begins line) (up_to p) (p ∷ []), e, append-nil)

  pub no_more_upto : (n p : ℕ) → ((q : ℕ) → p ≤ q → q < p + n → begins line q ≡ false) → names_to line (p + n) ≡ names_to line p
  no_more_upto zero p none = rw (add-zero p)
  no_more_upto (suc n) p none =
      rw (add-suc p n, no_more (p + n) (none (p + n) (omega arith) (omega arith))) (no_more_upto n p (λ q k l. none q k (omega arith)))

  -- what holds of each name whose label begins before a place holds of each of them
  pub each-begun : (P : List ℕ → Type 0) (m : ℕ) → ((p : ℕ) → p < m → begins line p ≡ true → P (name_at line p)) → Each P (names_to line m)
  each-begun P zero all = rw none_yet (each_none P)
  each-begun P (suc m) all = by (begins line m) refl (each-begun P m (λ p h. all p (omega arith)))
    where
      by : (t : Bool) → begins line m ≡ t → Each P (names_to line m) → Each P (names_to line (suc m))
      by true e before = rw (with_more m e) (each_more P (names_to line m) (name_at line m) before (all m (omega arith) e))
      by false e before = rw (no_more m e) before
