-- The laws of the lowest species of a set.
use Prim.Native.Nat.{ℕ, zero, suc, ◌-◌, ◌/◌, ◌%◌, ◌^◌, ◌≤◌, ◌<◌}
use mathlib.Core.Path.{◌≡◌, sym, ap, ◌∙◌, subst}
use native.Mathlib.Nat.{pow-suc}
use native.Mathlib.Decide.{ℕ_discrete}
use native.Mathlib.Omega.{arith}
use lib.Bits.{bit_and, and_step, and_self}
use lib.Count.{count_trailing_zeros, under, trailing_of_zero}
use Rattle.clusters.specs.Sets.{Has, Within, Apart, single, size, lowest}
use Rattle.clusters.proofs.Members.{has-odd, odd-has, has-half, half-has, half-below, has-below, single-has, has-single, has_of_within, has_of_apart}
use Rattle.clusters.proofs.Sets.{single-below, single_some, single-within}
use Rattle.clusters.proofs.Sizes.{size_one}

-- ---- the count of trailing zeros, of any number of digits

pub trailing_odd : (k a : ℕ) → a % 2 ≡ 1 → count_trailing_zeros (suc k) a ≡ 0
unfolding count_trailing_zeros
trailing_odd k a e = ap (λ (x : ℕ). under x (count_trailing_zeros k (a / 2))) e

pub trailing_even : (k a : ℕ) → a % 2 ≡ 0 → count_trailing_zeros (suc k) a ≡ suc (count_trailing_zeros k (a / 2))
unfolding count_trailing_zeros
trailing_even k a e = ap (λ (x : ℕ). under x (count_trailing_zeros k (a / 2))) e

pub trailing_has : {a : ℕ} (k : ℕ) → 1 ≤ a → a < 2 ^ k → Has a (count_trailing_zeros k a)
trailing_has zero p l = absurd (omega arith)
trailing_has {a} (suc k) p l = go (trailing_has {a = a / 2} k) (ℕ_discrete (a % 2) 1)
  where
    go : (1 ≤ a / 2 → a / 2 < 2 ^ k → Has (a / 2) (count_trailing_zeros k (a / 2))) → Dec (a % 2 ≡ 1) → Has a (count_trailing_zeros (suc k) a)
    go ih (yes e) = subst (λ (i : ℕ). Has a i) (sym (trailing_odd k a e)) (has-odd a e)
    go ih (no f) =
        subst (λ (i : ℕ). Has a i) (sym (trailing_even k a (omega (arith, f))))
        (half-has a (count_trailing_zeros k (a / 2)) (ih (omega (arith, f)) (half-below k l)))

pub trailing_least : (k a i : ℕ) → Has a i → count_trailing_zeros k a ≤ i
unfolding count_trailing_zeros
trailing_least zero a i h = omega arith
trailing_least (suc k) a zero h = omega (arith, trailing_odd k a (odd-has a h))
trailing_least (suc k) a (suc i) h = go (trailing_least k (a / 2) i (has-half a i h)) (ℕ_discrete (a % 2) 1)
  where
    go : count_trailing_zeros k (a / 2) ≤ i → Dec (a % 2 ≡ 1) → count_trailing_zeros (suc k) a ≤ suc i
    go ih (yes e) = omega (arith, trailing_odd k a e)
    go ih (no f) = omega (arith, trailing_even k a (omega (arith, f)))

pub trailing_off : {a : ℕ} (k : ℕ) → 1 ≤ a → a < 2 ^ k → a - 2 ^ count_trailing_zeros k a ≡ bit_and (a - 1) a
trailing_off zero p l = absurd (omega arith)
trailing_off {a} (suc k) p l = go (trailing_off {a = a / 2} k) (ℕ_discrete (a % 2) 1)
  where
    go : (1 ≤ a / 2 → a / 2 < 2 ^ k → a / 2 - 2 ^ count_trailing_zeros k (a / 2) ≡ bit_and (a / 2 - 1) (a / 2))
        → Dec (a % 2 ≡ 1) → a - 2 ^ count_trailing_zeros (suc k) a ≡ bit_and (a - 1) a
    go ih (yes e) =
        let same : (a - 1) / 2 ≡ a / 2 = omega arith in
        omega (
          arith,
          ap (λ (t : ℕ). 2 ^ t) (trailing_odd k a e),
          and_step (a - 1) a,
          ap (λ (x : ℕ). bit_and x (a / 2)) same,
          and_self (a / 2),
        )
    go ih (no f) =
        let even : a % 2 ≡ 0 = omega (arith, f) in
        let less : (a - 1) / 2 ≡ a / 2 - 1 = omega arith in
        omega (
          arith,
          ap (λ (t : ℕ). 2 ^ t) (trailing_even k a even),
          pow-suc 2 (count_trailing_zeros k (a / 2)),
          and_step (a - 1) a,
          ap (λ (x : ℕ). bit_and x (a / 2)) less,
          ih (omega arith) (half-below k l),
        )

-- ---- the lowest species

pub lowest-has : {a : ℕ} → 1 ≤ a → a < 2 ^ 32 → Has a (lowest a)
unfolding lowest
lowest-has p l = trailing_has 32 p l

pub lowest-alone-within : {a : ℕ} → 1 ≤ a → a < 2 ^ 32 → Within (single (lowest a)) a
lowest-alone-within {a} some below = single-within a (lowest a) (lowest-has some below)

pub lowest_least : {a i : ℕ} → a < 2 ^ 32 → Has a i → lowest a ≤ i
unfolding lowest
lowest_least {a} {i} l h = trailing_least 32 a i h

pub lowest-below : {a : ℕ} (n : ℕ) → 1 ≤ a → a < 2 ^ 32 → a < 2 ^ n → lowest a < n
lowest-below n p l k = has-below n k (lowest-has p l)

pub lowest-single : {i : ℕ} → i < 32 → lowest (single i) ≡ i
lowest-single {i} l = sym (has-single i (lowest (single i)) (lowest-has (single_some i) (single-below l)))

pub lowest-within : {a b : ℕ} → a < 2 ^ 32 → b < 2 ^ 32 → 1 ≤ a → Within a b → lowest b ≤ lowest a
lowest-within {a} {b} l k p w = lowest_least k (has_of_within a b (lowest a) w (lowest-has p l))

pub lowest-zero : lowest 0 ≡ 32
unfolding lowest
lowest-zero = trailing_of_zero 32

pub lowest-apart : {a b : ℕ} → a < 2 ^ 32 → b < 2 ^ 32 → 1 ≤ a → 1 ≤ b → Apart a b → lowest a ≡ lowest b → ⊥
lowest-apart {a} {b} l k p q d e =
    has_of_apart a b (lowest a) d (lowest-has p l) (subst (λ (i : ℕ). Has b i) (sym e) (lowest-has q k))

-- taking the lowest species off a set is the and with one less
pub lowest-off : {a : ℕ} → 1 ≤ a → a < 2 ^ 32 → a - single (lowest a) ≡ bit_and (a - 1) a
unfolding lowest single
lowest-off p l = trailing_off 32 p l

-- a set of one species is that of its lowest
pub single-lowest : {a : ℕ} → a < 2 ^ 32 → size a ≡ 1 → a ≡ single (lowest a)
single-lowest {a} b e = go (size_one e).0 (size_one e).1
  where
    go : (i : ℕ) → a ≡ single i → a ≡ single (lowest a)
    go i p =
        let l : i < 32 = has-below 32 b (rw p (single-has i)) in
        p ∙ ap single (sym (ap lowest p ∙ lowest-single l))
