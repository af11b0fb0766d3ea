-- Lists of one length, one after the other: what stands at q n + r is number r of the list of number q.
use Prim.Native.Nat.{ℕ, zero, suc, ◌+◌, ◌*◌, ◌<◌}
use mathlib.Core.Path.{◌≡◌, refl, ap, ◌∙◌}
use mathlib.Core.List.{List, [], ◌∷◌, ◌++◌, map}
use native.Mathlib.Nat.{zero-mul, suc-mul}
use native.Mathlib.Omega.{arith}
use lib.ListN.{length, get_or, get_or-append}
use lib.Seq.{get_or-append-add}
use Rattle.splits.specs.BinaryTrees.{each}

-- what a function makes of a list, at a place of it
pub map_at : {A B : Type 0} (f : A → B) (l : List A) (k : ℕ) (d : B) (e : A) → k < length l → get_or (map f l) k d ≡ f (get_or l k e)
map_at f [] k d e h = absurd (omega arith)
map_at f (x ∷ l) zero d e h = refl
map_at f (x ∷ l) (suc k) d e h = map_at f l k d e (omega arith)

module _ {A B : Type 0} (f : A → List B) (n : ℕ) (same : (x : A) → length (f x) ≡ n) where
  pub at_block : (l : List A) (q r : ℕ) (d : B) (e : A) → q < length l → r < n → get_or (each f l) (q * n + r) d ≡ get_or (f (get_or l q e)) r d
  unfolding each
  at_block [] q r d e h k = absurd (omega arith)
  at_block (x ∷ l) zero r d e h k =
      ap (λ i. get_or (f x ++ each f l) i d) {x = zero * n + r} {y = r} (omega (arith, zero-mul n))
      ∙ get_or-append (f x) (each f l) d r (omega (arith, same x))
  at_block (x ∷ l) (suc q) r d e h k =
      ap (λ i. get_or (f x ++ each f l) i d) {x = suc q * n + r} {y = length (f x) + (q * n + r)} (omega (arith, suc-mul q n, same x))
      ∙ get_or-append-add (f x) (each f l) (q * n + r) d
      ∙ at_block l q r d e (omega arith) k
