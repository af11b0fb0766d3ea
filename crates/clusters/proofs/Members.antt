-- The species of a set: what Has says of each operation, and that the species determine the set.
use Prim.Native.Nat.{ℕ, zero, suc, ◌-◌, ◌/◌, ◌%◌, ◌^◌, ◌≤◌, ◌<◌, min, max}
use mathlib.Core.Path.{◌≡◌, refl, sym, ap, ◌∙◌, subst}
use mathlib.Core.Logic.{◌⊎◌, inl, inr}
use native.Mathlib.Nat.{pow-suc, eq-zero-or-pos}
use native.Mathlib.Decide.{ℕ_discrete}
use native.Mathlib.Numerals.{one-add}
use native.Mathlib.Omega.{arith}
use lib.Arith.{bin_ind, lt-one}
use lib.Pow.{pow_pos, shr-shr, ones_lt}
use lib.Bits.{bit_and, bit_or, and_step, or_step, and_shr, or_shr}
use Rattle.clusters.specs.Sets.{Has, Within, Apart, whole, single, union}

-- one digit of a number
digit : ℕ → ℕ → ℕ
digit a i = a / 2 ^ i % 2

digit_and : (a b i : ℕ) → digit (bit_and a b) i ≡ min (digit a i) (digit b i)
unfolding digit
digit_and a b i = omega (arith, and_shr a b i, and_step (a / 2 ^ i) (b / 2 ^ i))

digit_or : (a b i : ℕ) → digit (bit_or a b) i ≡ max (digit a i) (digit b i)
unfolding digit
digit_or a b i = omega (arith, or_shr a b i, or_step (a / 2 ^ i) (b / 2 ^ i))

digit-le : (a i : ℕ) → digit a i ≤ 1
unfolding digit
digit-le a i = omega arith

has-digit : (a i : ℕ) → Has a i → digit a i ≡ 1
unfolding Has digit
has-digit a i h = h

digit-has : (a i : ℕ) → digit a i ≡ 1 → Has a i
unfolding Has digit
digit-has a i h = h

pub has_dec : (a i : ℕ) → Dec (Has a i)
unfolding Has
has_dec a i = ℕ_discrete (a / 2 ^ i % 2) 1

-- ---- the lowest species, and those above it

pub has-odd : (a : ℕ) → a % 2 ≡ 1 → Has a 0
unfolding Has
has-odd a h = omega arith

pub odd-has : (a : ℕ) → Has a 0 → a % 2 ≡ 1
unfolding Has
odd-has a h = omega arith

half_shr : (a i : ℕ) → a / 2 / 2 ^ i ≡ a / 2 ^ suc i
half_shr a i = shr-shr a 1 i ∙ ap (λ (x : ℕ). a / 2 ^ x) (one-add i)

pub has-half : (a i : ℕ) → Has a (suc i) → Has (a / 2) i
unfolding Has
has-half a i h = ap (λ (x : ℕ). x % 2) (half_shr a i) ∙ h

pub half-has : (a i : ℕ) → Has (a / 2) i → Has a (suc i)
unfolding Has
half-has a i h = ap (λ (x : ℕ). x % 2) (sym (half_shr a i)) ∙ h

-- ---- what is in both, and what is in one or the other

pub has_and : (a b i : ℕ) → Has (bit_and a b) i → Has a i × Has b i
has_and a b i h =
    let d = digit_and a b i in
    let k = has-digit (bit_and a b) i h in
    let l = digit-le a i in
    let m = digit-le b i in
    (digit-has a i (omega arith), digit-has b i (omega arith))

pub and_has : (a b i : ℕ) → Has a i → Has b i → Has (bit_and a b) i
and_has a b i h k = digit-has (bit_and a b) i (omega (arith, digit_and a b i, has-digit a i h, has-digit b i k))

pub has-union : (a b i : ℕ) → Has (union a b) i → Has a i ⊎ Has b i
unfolding union
has-union a b i h = go (has_dec a i)
  where
    go : Dec (Has a i) → Has a i ⊎ Has b i
    go (yes k) = inl k
    go (no k) =
        let d = digit_or a b i in
        let e = has-digit (bit_or a b) i h in
        let l = digit-le a i in
        let m = digit-le b i in
        let n : digit a i ≡ 1 → ⊥ = λ x. k (digit-has a i x) in
        inr (digit-has b i (omega (arith, n)))

pub union-has_left : (a b i : ℕ) → Has a i → Has (union a b) i
unfolding union
union-has_left a b i h = digit-has (bit_or a b) i (omega (arith, digit_or a b i, has-digit a i h, digit-le b i))

pub union-has_right : (a b i : ℕ) → Has b i → Has (union a b) i
unfolding union
union-has_right a b i h = digit-has (bit_or a b) i (omega (arith, digit_or a b i, has-digit b i h, digit-le a i))

-- ---- the empty set, and a bound on the species

pub has-zero : (i : ℕ) → Has 0 i → ⊥
has-zero zero h = let o = odd-has 0 h in omega arith
has-zero (suc i) h = has-zero i (has-half 0 i h)

pub has_some : {a : ℕ} (i : ℕ) → Has a i → 1 ≤ a
has_some {a} i h = go (eq-zero-or-pos a)
  where
    go : (a ≡ 0) ⊎ (0 < a) → 1 ≤ a
    go (inl e) = absurd (has-zero i (subst (λ (x : ℕ). Has x i) e h))
    go (inr l) = l

pub some_has : (a : ℕ) → 1 ≤ a → (i : ℕ) × Has a i
some_has =
    bin_ind (λ (a : ℕ). 1 ≤ a → (i : ℕ) × Has a i) (λ l. absurd (omega arith))
    (λ a ih l. at a ih l (ℕ_discrete (a % 2) 1))
  where
    at : (a : ℕ) → (1 ≤ a / 2 → (i : ℕ) × Has (a / 2) i) → 1 ≤ a → Dec (a % 2 ≡ 1) → (i : ℕ) × Has a i
    at a ih l (yes e) = (0, has-odd a e)
    at a ih l (no e) = let k = ih (omega arith) in (suc k.0, half-has a k.0 k.1)

pub half-below : {a : ℕ} (n : ℕ) → a < 2 ^ suc n → a / 2 < 2 ^ n
half-below n h = omega (arith, pow-suc 2 n)

pub has-below : {a i : ℕ} (n : ℕ) → a < 2 ^ n → Has a i → i < n
has-below {a} {i} zero l h = absurd (has-zero i (subst (λ (x : ℕ). Has x i) (lt-one l) h))
has-below {a} {i = zero} (suc n) l h = omega arith
has-below {a} {i = suc i} (suc n) l h = let k = has-below {a = a / 2} {i = i} n (half-below n l) (has-half a i h) in omega arith

-- ---- one species, and all of them

pub power-half : (i : ℕ) → 2 ^ suc i / 2 ≡ 2 ^ i
power-half i = omega (arith, pow-suc 2 i)

pub single-has : (i : ℕ) → Has (single i) i
unfolding single
single-has zero = has-odd 1 refl
single-has (suc i) = half-has (2 ^ suc i) i (subst (λ (x : ℕ). Has x i) (sym (power-half i)) (single-has i))

pub has-single : (i j : ℕ) → Has (single i) j → i ≡ j
unfolding single
has-single zero zero h = refl
has-single zero (suc j) h = absurd (has-zero j (has-half 1 j h))
has-single (suc i) zero h = let o = odd-has (2 ^ suc i) h in absurd (omega (arith, pow-suc 2 i))
has-single (suc i) (suc j) h = ap suc (has-single i j (subst (λ (x : ℕ). Has x j) (power-half i) (has-half (2 ^ suc i) j h)))

pub has_whole : (n i : ℕ) → Has (whole n) i → i < n
unfolding whole
has_whole n i h = has-below n (ones_lt n) h

whole_half : (n : ℕ) → (2 ^ suc n - 1) / 2 ≡ 2 ^ n - 1
whole_half n = omega (arith, pow-suc 2 n, pow_pos n)

pub whole_has : (n i : ℕ) → i < n → Has (whole n) i
unfolding whole
whole_has zero i l = absurd (omega arith)
whole_has (suc n) zero l = has-odd (2 ^ suc n - 1) (omega (arith, pow-suc 2 n, pow_pos n))
whole_has (suc n) (suc i) l =
    half-has (2 ^ suc n - 1) i (subst (λ (x : ℕ). Has x i) (sym (whole_half n)) (whole_has n i (omega arith)))

-- ---- a set is determined by its species

pub same_members : (a b : ℕ) → ((i : ℕ) → Has a i → Has b i) → ((i : ℕ) → Has b i → Has a i) → a ≡ b
same_members =
    bin_ind (λ (a : ℕ). (b : ℕ) → ((i : ℕ) → Has a i → Has b i) → ((i : ℕ) → Has b i → Has a i) → a ≡ b)
    (λ b f g. none b g (eq-zero-or-pos b))
    (λ a ih b f g. joined a b (ih (b / 2) (λ i h. has-half b i (f (suc i) (half-has a i h))) (λ i h. has-half a i (g (suc i) (half-has b i h))))
    (λ e. odd-has b (f 0 (has-odd a e))) (λ e. odd-has a (g 0 (has-odd b e))) (ℕ_discrete (a % 2) 1))
  where
    none : (b : ℕ) → ((i : ℕ) → Has b i → Has 0 i) → (b ≡ 0) ⊎ (0 < b) → 0 ≡ b
    none b g (inl e) = sym e
    none b g (inr l) = let k = some_has b l in absurd (has-zero k.0 (g k.0 k.1))

    joined : (a b : ℕ) → a / 2 ≡ b / 2 → (a % 2 ≡ 1 → b % 2 ≡ 1) → (b % 2 ≡ 1 → a % 2 ≡ 1) → Dec (a % 2 ≡ 1) → a ≡ b
    joined a b e f g (yes h) = let k = f h in omega arith
    joined a b e f g (no h) = let k : b % 2 ≡ 1 → ⊥ = λ x. h (g x) in omega (arith, k)

pub within_of_has : (a b : ℕ) → ((i : ℕ) → Has a i → Has b i) → Within a b
unfolding Within
within_of_has a b f = same_members (bit_and a b) a (λ i h. (has_and a b i h).0) (λ i h. and_has a b i h (f i h))

pub has_of_within : (a b i : ℕ) → Within a b → Has a i → Has b i
unfolding Within
has_of_within a b i w h = (has_and a b i (subst (λ (x : ℕ). Has x i) (sym w) h)).1

pub apart_of_has : (a b : ℕ) → ((i : ℕ) → Has a i → Has b i → ⊥) → Apart a b
unfolding Apart
apart_of_has a b f =
    same_members (bit_and a b) 0 (λ i h. let k = has_and a b i h in absurd (f i k.0 k.1)) (λ i h. absurd (has-zero i h))

pub has_of_apart : (a b i : ℕ) → Apart a b → Has a i → Has b i → ⊥
unfolding Apart
has_of_apart a b i w h k = has-zero i (subst (λ (x : ℕ). Has x i) w (and_has a b i h k))
