-- The laws of sets: what lies within what, unions, disjoint sets, the tests, and the difference of a set and a part of it.
use Prim.Native.Nat.{ℕ, zero, suc, ◌+◌, ◌-◌, ◌/◌, ◌%◌, ◌^◌, ◌≤◌, ◌<◌}
use mathlib.Core.Path.{◌≡◌, sym, ◌∙◌, subst}
use mathlib.Core.Logic.{⊎_elim}
use mathlib.Core.Bool.{true, false}
use native.Mathlib.Decide.{ℕ_discrete}
use native.Mathlib.Omega.{arith}
use lib.Pow.{pow_pos, pow-lt, ones_lt}
use lib.Bits.{bit_and, and_le_r, or_comm, or_disjoint}
use borrow.Author.Tests.{eqb-true, eqb-false, eq-eqb, ne_eqb}
use Rattle.clusters.specs.Sets.{Has, Within, Apart, within, apart, whole, single, union}
use Rattle.clusters.proofs.Members.{has-odd, odd-has, has-half, half-has, has-union, union-has_left, union-has_right, has-zero, some_has, has-below, single-has, has-single, whole_has, same_members, within_of_has, has_of_within, apart_of_has, has_of_apart}

-- ---- within

pub within-refl : (a : ℕ) → Within a a
within-refl a = within_of_has a a (λ i h. h)

pub within_trans : (a b c : ℕ) → Within a b → Within b c → Within a c
within_trans a b c w v = within_of_has a c (λ i h. has_of_within b c i v (has_of_within a b i w h))

pub within_antisym : {a b : ℕ} → Within a b → Within b a → a ≡ b
within_antisym {a} {b} w v = same_members a b (λ i h. has_of_within a b i w h) (λ i h. has_of_within b a i v h)

pub within-le : {a b : ℕ} → Within a b → a ≤ b
unfolding Within
within-le {a} {b} w = omega (arith, and_le_r a b)

pub zero-within : (a : ℕ) → Within 0 a
zero-within a = within_of_has 0 a (λ i h. absurd (has-zero i h))

pub within-zero : {a : ℕ} → Within a 0 → a ≡ 0
within-zero {a} w = omega (arith, within-le w)

-- ---- all species, and one

pub whole_below : (n : ℕ) → whole n < 2 ^ n
unfolding whole
whole_below n = ones_lt n

pub whole_some : (n : ℕ) → 1 ≤ n → 1 ≤ whole n
unfolding whole
whole_some n l = omega (arith, pow-lt {i = 0} {j = n} l)

pub within_whole : {a : ℕ} (n : ℕ) → a < 2 ^ n → Within a (whole n)
within_whole {a} n l = within_of_has a (whole n) (λ i h. whole_has n i (has-below n l h))

pub below_of_within : {a : ℕ} (n : ℕ) → Within a (whole n) → a < 2 ^ n
below_of_within {a} n w = omega (arith, within-le w, whole_below n)

-- a part of a set of n species is one too
pub within-below : {a : ℕ} (b n : ℕ) → Within a b → b < 2 ^ n → a < 2 ^ n
within-below {a} b n w l = omega (arith, within-le w)

pub single-below : {i n : ℕ} → i < n → single i < 2 ^ n
unfolding single
single-below l = pow-lt l

pub single_some : (i : ℕ) → 1 ≤ single i
unfolding single
single_some i = pow_pos i

pub single-within : (a i : ℕ) → Has a i → Within (single i) a
single-within a i h = within_of_has (single i) a (λ j k. subst (λ (x : ℕ). Has a x) (has-single i j k) h)

pub within-single : {a : ℕ} (i : ℕ) → Within a (single i) → 1 ≤ a → a ≡ single i
within-single {a} i w l =
    let s = some_has a l in
    let e : i ≡ s.0 = has-single i s.0 (has_of_within a (single i) s.0 w s.1) in
    within_antisym w (single-within a i (subst (λ (x : ℕ). Has a x) (sym e) s.1))

-- ---- unions

pub within-union_left : (a b : ℕ) → Within a (union a b)
within-union_left a b = within_of_has a (union a b) (λ i h. union-has_left a b i h)

pub within-union_right : (a b : ℕ) → Within b (union a b)
within-union_right a b = within_of_has b (union a b) (λ i h. union-has_right a b i h)

pub union-within : (a b c : ℕ) → Within a c → Within b c → Within (union a b) c
union-within a b c w v = within_of_has (union a b) c (λ i h. ⊎_elim (has_of_within a c i w) (has_of_within b c i v) (has-union a b i h))

-- the parts of a union lie where it lies
pub left_within : (a b c : ℕ) → Within (union a b) c → Within a c
left_within a b c w = within_trans a (union a b) c (within-union_left a b) w

pub right_within : (a b c : ℕ) → Within (union a b) c → Within b c
right_within a b c w = within_trans b (union a b) c (within-union_right a b) w

pub union_comm : (a b : ℕ) → union a b ≡ union b a
unfolding union
union_comm a b = or_comm a b

pub union_assoc : (a b c : ℕ) → union (union a b) c ≡ union a (union b c)
union_assoc a b c =
    within_antisym
    (union-within (union a b) c (union a (union b c))
    (union-within a b (union a (union b c)) (within-union_left a (union b c))
    (within_trans b (union b c) (union a (union b c)) (within-union_left b c) (within-union_right a (union b c))))
    (within_trans c (union b c) (union a (union b c)) (within-union_right b c) (within-union_right a (union b c))))
    (union-within a (union b c) (union (union a b) c)
    (within_trans a (union a b) (union (union a b) c) (within-union_left a b) (within-union_left (union a b) c))
    (union-within b c (union (union a b) c)
    (within_trans b (union a b) (union (union a b) c) (within-union_right a b) (within-union_left (union a b) c))
    (within-union_right (union a b) c)))

pub union_of_within : {b : ℕ} (a : ℕ) → Within a b → union a b ≡ b
union_of_within {b} a w = within_antisym (union-within a b b w (within-refl b)) (within-union_right a b)

pub union_self : (a : ℕ) → union a a ≡ a
union_self a = union_of_within a (within-refl a)

pub zero-union : (a : ℕ) → union 0 a ≡ a
zero-union a = union_of_within 0 (zero-within a)

pub union-zero : (a : ℕ) → union a 0 ≡ a
union-zero a = union_comm a 0 ∙ zero-union a

pub union-below : {a b : ℕ} (n : ℕ) → a < 2 ^ n → b < 2 ^ n → union a b < 2 ^ n
union-below {a} {b} n l k = below_of_within n (union-within a b (whole n) (within_whole n l) (within_whole n k))

pub union_some_left : {a : ℕ} (b : ℕ) → 1 ≤ a → 1 ≤ union a b
union_some_left {a} b l = omega (arith, within-le (within-union_left a b))

pub union_some_right : {b : ℕ} (a : ℕ) → 1 ≤ b → 1 ≤ union a b
union_some_right {b} a l = omega (arith, within-le (within-union_right a b))

-- a union is monotone in both sets
pub union-mono : (a b c d : ℕ) → Within a c → Within b d → Within (union a b) (union c d)
union-mono a b c d w v =
    union-within a b (union c d)
    (within_trans a c (union c d) w (within-union_left c d))
    (within_trans b d (union c d) v (within-union_right c d))

-- ---- disjoint sets

pub apart-sym : (a b : ℕ) → Apart a b → Apart b a
apart-sym a b p = apart_of_has b a (λ i h k. has_of_apart a b i p k h)

pub apart-within : (a b c : ℕ) → Within a b → Apart b c → Apart a c
apart-within a b c w p = apart_of_has a c (λ i h k. has_of_apart b c i p (has_of_within a b i w h) k)

pub union-apart : (a b c : ℕ) → Apart a c → Apart b c → Apart (union a b) c
union-apart a b c p q = apart_of_has (union a b) c (λ i h k. ⊎_elim (λ l. has_of_apart a c i p l k) (λ l. has_of_apart b c i q l k) (has-union a b i h))

pub apart-union : (a b c : ℕ) → Apart a b → Apart a c → Apart a (union b c)
apart-union a b c p q = apart-sym (union b c) a (union-apart b c a (apart-sym a b p) (apart-sym a c q))

pub apart-zero : (a : ℕ) → Apart a 0
apart-zero a = apart_of_has a 0 (λ i h k. has-zero i k)

pub zero-apart : (a : ℕ) → Apart 0 a
zero-apart a = apart_of_has 0 a (λ i h k. has-zero i h)

pub apart-union-sum : (a b : ℕ) → Apart a b → union a b ≡ a + b
unfolding Apart union
apart-union-sum a b p = or_disjoint a b p

pub within-apart : {a : ℕ} (b : ℕ) → Within a b → Apart a b → a ≡ 0
unfolding Within Apart
within-apart b w p = sym w ∙ p

pub single-apart : (a i : ℕ) → (Has a i → ⊥) → Apart (single i) a
single-apart a i f = apart_of_has (single i) a (λ j h k. f (subst (λ (x : ℕ). Has a x) (sym (has-single i j h)) k))

pub apart-single : (a i : ℕ) → Apart (single i) a → Has a i → ⊥
apart-single a i p h = has_of_apart (single i) a i p (single-has i) h

-- ---- the tests

pub within-true : (a b : ℕ) → within a b ≡ true → Within a b
unfolding within Within
within-true a b e = eqb-true (bit_and a b) a e

pub true-within : (a b : ℕ) → Within a b → within a b ≡ true
unfolding within Within
true-within a b w = eq-eqb (bit_and a b) a w

pub within-false : (a b : ℕ) → within a b ≡ false → Within a b → ⊥
unfolding within Within
within-false a b e = eqb-false (bit_and a b) a e

pub false-within : (a b : ℕ) → (Within a b → ⊥) → within a b ≡ false
unfolding within Within
false-within a b f = ne_eqb (bit_and a b) a f

pub apart-true : (a b : ℕ) → apart a b ≡ true → Apart a b
unfolding apart Apart
apart-true a b e = eqb-true (bit_and a b) 0 e

pub true-apart : (a b : ℕ) → Apart a b → apart a b ≡ true
unfolding apart Apart
true-apart a b w = eq-eqb (bit_and a b) 0 w

pub apart-false : (a b : ℕ) → apart a b ≡ false → Apart a b → ⊥
unfolding apart Apart
apart-false a b e = eqb-false (bit_and a b) 0 e

pub false-apart : (a b : ℕ) → (Apart a b → ⊥) → apart a b ≡ false
unfolding apart Apart
false-apart a b f = ne_eqb (bit_and a b) 0 f

pub within_dec : (a b : ℕ) → Dec (Within a b)
unfolding Within
within_dec a b = ℕ_discrete (bit_and a b) a

pub apart_dec : (a b : ℕ) → Dec (Apart a b)
unfolding Apart
apart_dec a b = ℕ_discrete (bit_and a b) 0

-- ---- the difference of a set and a part of it

pub odd-within : (a b : ℕ) → Within b a → b % 2 ≤ a % 2
odd-within a b w = go (ℕ_discrete (b % 2) 1)
  where
    go : Dec (b % 2 ≡ 1) → b % 2 ≤ a % 2
    go (yes e) = omega (arith, odd-has a (has_of_within b a 0 w (has-odd b e)))
    go (no e) = omega arith

pub half-within : (a b : ℕ) → Within b a → Within (b / 2) (a / 2)
half-within a b w = within_of_has (b / 2) (a / 2) (λ i h. has-half a i (has_of_within b a (suc i) w (half-has b i h)))

half_minus : (a b : ℕ) → Within b a → (a - b) / 2 ≡ a / 2 - b / 2
half_minus a b w = omega (arith, odd-within a b w, within-le w)

pub minus_has : (a b i : ℕ) → Within b a → Has a i → (Has b i → ⊥) → Has (a - b) i
minus_has a b zero w h f =
    let g : b % 2 ≡ 1 → ⊥ = λ e. f (has-odd b e) in
    has-odd (a - b) (omega (arith, g, odd-has a h, within-le w))
minus_has a b (suc i) w h f =
    half-has (a - b) i
    (subst (λ (x : ℕ). Has x i) (sym (half_minus a b w))
    (minus_has (a / 2) (b / 2) i (half-within a b w) (has-half a i h) (λ k. f (half-has b i k))))

pub has_minus : (a b i : ℕ) → Within b a → Has (a - b) i → Has a i × (Has b i → ⊥)
has_minus a b zero w h =
    let o = odd-has (a - b) h in
    let l = within-le w in
    let m = odd-within a b w in
    (has-odd a (omega arith), λ k. let e = odd-has b k in omega arith)
has_minus a b (suc i) w h =
    let r = has_minus (a / 2) (b / 2) i (half-within a b w) (subst (λ (x : ℕ). Has x i) (half_minus a b w) (has-half (a - b) i h)) in
    (half-has a i r.0, λ k. r.1 (has-half b i k))

pub minus_within : (a b : ℕ) → Within b a → Within (a - b) a
minus_within a b w = within_of_has (a - b) a (λ i h. (has_minus a b i w h).0)

pub minus_apart : (a b : ℕ) → Within b a → Apart b (a - b)
minus_apart a b w = apart_of_has b (a - b) (λ i h k. (has_minus a b i w k).1 h)

pub minus_union : {a : ℕ} (b : ℕ) → Within b a → union b (a - b) ≡ a
minus_union {a} b w = apart-union-sum b (a - b) (minus_apart a b w) ∙ omega (arith, within-le w)

-- a part that is not the whole leaves something
pub minus_some : {a b : ℕ} → Within b a → (b ≡ a → ⊥) → 1 ≤ a - b
minus_some {a} {b} w f = omega (arith, within-le w, f)

pub minus_below : {a : ℕ} (b n : ℕ) → a < 2 ^ n → a - b < 2 ^ n
minus_below b n l = omega arith

-- what a disjoint union leaves when one side is taken off
pub union_minus_left : {b : ℕ} (a : ℕ) → Apart a b → union a b - a ≡ b
union_minus_left {b} a p = omega (arith, apart-union-sum a b p)

pub union_minus_right : {a : ℕ} (b : ℕ) → Apart a b → union a b - b ≡ a
union_minus_right {a} b p = omega (arith, apart-union-sum a b p)
