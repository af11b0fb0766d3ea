-- Records one after the other in the lent numbers: how many there are, and one more put behind them.
use Prim.Native.Nat.{ℕ, zero, suc, ◌+◌, ◌*◌, ◌≤◌}
use mathlib.Core.Path.{◌≡◌, refl, ap, ap₂, ◌∙◌}
use mathlib.Core.List.{List, [], ◌∷◌, ◌++◌}
use native.Mathlib.Nat.{add-suc}
use native.Mathlib.Numerals.{add-one}
use native.Mathlib.Omega.{arith}
use lib.ListN.{length, take, drop, set, length-drop}
use lib.Seq.{sets, take-set-le, drop-set-add, take_at}
use Rattle.trees.specs.Lists.{pieces}
use Rattle.trees.specs.Records.{records_in}
use Rattle.trees.proofs.Stores.{sets-front}

-- ---- stores behind a place

take-sets : (n : ℕ) (l : List ℕ) (i : ℕ) (vs : List ℕ) → n ≤ i → take n (sets l i vs) ≡ take n l
take-sets n l i [] h = refl
take-sets n l i (v ∷ vs) h = take-sets n (set l i v) (suc i) vs (omega arith) ∙ take-set-le n l i v h

drop-sets : (n : ℕ) (l : List ℕ) (i : ℕ) (vs : List ℕ) → drop n (sets l (n + i) vs) ≡ sets (drop n l) i vs
drop-sets n l i [] = refl
drop-sets n l i (v ∷ vs) =
    rw (← add-suc n i) (drop-sets n (set l (n + i) v) (suc i) vs ∙ ap (λ (k : List ℕ). sets k (suc i) vs) (drop-set-add n l i v))

-- one more record behind the first n
records_snoc :
    (n : ℕ) (numbers r : List ℕ) → length r ≡ 32 → 32 * n + 32 ≤ length numbers
    → records_in (suc n) (sets numbers (32 * n) r) ≡ records_in n numbers ++ (r ∷ [])
unfolding pieces
records_snoc zero numbers r e h =
    ap (λ (k : List ℕ). k ∷ [])
    (ap (take 32) (sets-front numbers r (omega arith)) ∙ take_at r (drop (length r) numbers) 32 e)
records_snoc (suc n) numbers r e h =
    let place : 32 * suc n ≡ 32 + 32 * n = omega arith in
    let l = length-drop 32 numbers in
    rw place
    (ap₂ (λ (first : List ℕ) (others : List (List ℕ)). first ∷ others) (take-sets 32 numbers (32 + 32 * n) r (omega arith))
    (ap (λ (k : List ℕ). records_in (suc n) k) (drop-sets 32 numbers (32 * n) r) ∙ records_snoc n (drop 32 numbers) r e (omega arith)))

pub records_more :
    (n : ℕ) (numbers r : List ℕ) → length r ≡ 32 → 32 * n + 32 ≤ length numbers
    → records_in (n + 1) (sets numbers (32 * n) r) ≡ records_in n numbers ++ (r ∷ [])
records_more n numbers r e h = rw add-one (records_snoc n numbers r e h)
