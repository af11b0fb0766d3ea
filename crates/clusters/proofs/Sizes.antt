-- The laws of sizes: the count of a set's species under union, difference and parts.
use Prim.Native.Nat.{ℕ, zero, suc, ◌+◌, ◌-◌, ◌/◌, ◌^◌, ◌≤◌, ◌<◌}
use mathlib.Core.Path.{◌≡◌, refl, sym, ap, ◌∙◌}
use mathlib.Core.Logic.{◌⊎◌, inl, inr}
use native.Mathlib.Nat.{eq-zero-or-pos, add_comm, pow-suc}
use native.Mathlib.Decide.{ℕ_discrete}
use native.Mathlib.Omega.{arith}
use lib.Arith.{bin_ind}
use lib.Bits.{bit_and, bit_or, and_step, or_step}
use lib.Count.{ones, ones_in, ones_step, ones-ones, ones-le}
use Rattle.clusters.specs.Sets.{Within, Apart, whole, single, union, size}
use Rattle.clusters.proofs.Members.{some_has, power-half}
use Rattle.clusters.proofs.Sets.{single-within, minus_apart, minus_union, minus_some}

pub size-zero : size 0 ≡ 0
unfolding size ones ones_in
size-zero = refl

pub size_some : {a : ℕ} → 1 ≤ a → 1 ≤ size a
unfolding size
size_some {a} l =
    bin_ind (λ (n : ℕ). 1 ≤ n → 1 ≤ ones n) (λ k. absurd (omega arith)) (λ n ih k. step n ih k (eq-zero-or-pos (n / 2))) a l
  where
    step : (n : ℕ) → (1 ≤ n / 2 → 1 ≤ ones (n / 2)) → 1 ≤ n → (n / 2 ≡ 0) ⊎ (0 < n / 2) → 1 ≤ ones n
    step n ih k (inl e) = omega (arith, ones_step n)
    step n ih k (inr p) = omega (arith, ones_step n, ih p)

pub some_of_size : {a : ℕ} → 1 ≤ size a → 1 ≤ a
some_of_size {a} l = go (eq-zero-or-pos a)
  where
    go : (a ≡ 0) ⊎ (0 < a) → 1 ≤ a
    go (inl e) = absurd (omega (arith, size-zero, ap size e))
    go (inr p) = p

-- ---- unions

or_half : (a b : ℕ) → bit_or a b / 2 ≡ bit_or (a / 2) (b / 2)
or_half a b = omega (arith, or_step a b)

and_half : (a b : ℕ) → bit_and a b / 2 ≡ bit_and (a / 2) (b / 2)
and_half a b = omega (arith, and_step a b)

pub size-union_and : (a b : ℕ) → size (union a b) + size (bit_and a b) ≡ size a + size b
unfolding size union
size-union_and =
    bin_ind (λ (a : ℕ). (b : ℕ) → ones (bit_or a b) + ones (bit_and a b) ≡ ones a + ones b) (λ b. add_comm (ones b) (ones 0))
    (λ a ih b.
    omega (
      arith,
      ih (b / 2),
      ones_step a,
      ones_step b,
      ones_step (bit_or a b),
      ones_step (bit_and a b),
      ap ones (or_half a b),
      ap ones (and_half a b),
      or_step a b,
      and_step a b,
    ))

pub size-apart : (a b : ℕ) → Apart a b → size (union a b) ≡ size a + size b
unfolding Apart
size-apart a b p = omega (arith, size-union_and a b, ap size p, size-zero)

pub size-union-le : (a b : ℕ) → size (union a b) ≤ size a + size b
size-union-le a b = omega (arith, size-union_and a b)

-- ---- parts

pub size_minus : (a b : ℕ) → Within b a → size b + size (a - b) ≡ size a
size_minus a b w = sym (size-apart b (a - b) (minus_apart a b w)) ∙ ap size (minus_union b w)

pub size-within : (a b : ℕ) → Within a b → size a ≤ size b
size-within a b w = omega (arith, size_minus b a w)

pub size-within_lt : (a b : ℕ) → Within a b → (a ≡ b → ⊥) → size a < size b
size-within_lt a b w f = omega (arith, size_minus b a w, size_some (minus_some w f))

-- a part of the same size is the whole
pub size-within-eq : {a b : ℕ} → Within a b → size a ≡ size b → a ≡ b
size-within-eq {a} {b} w e = go (ℕ_discrete a b)
  where
    go : Dec (a ≡ b) → a ≡ b
    go (yes p) = p
    go (no f) = absurd (omega (arith, size-within_lt a b w f))

-- ---- one species, and all of them

pub size-single : (i : ℕ) → size (single i) ≡ 1
unfolding size single
size-single zero = omega (arith, ones_step 1, size-zero)
size-single (suc i) = omega (arith, ones_step (2 ^ suc i), pow-suc 2 i, ap ones (power-half i), size-single i)

pub size_one : {a : ℕ} → size a ≡ 1 → (i : ℕ) × (a ≡ single i)
size_one {a} e =
    let s = some_has a (some_of_size (omega arith)) in
    (s.0, sym (size-within-eq (single-within a s.0 s.1) (size-single s.0 ∙ sym e)))

pub size_whole : (n : ℕ) → size (whole n) ≡ n
unfolding size whole
size_whole n = ones-ones n

pub size-le : {a : ℕ} (n : ℕ) → a < 2 ^ n → size a ≤ n
unfolding size
size-le {a} n l = ones-le n a l
