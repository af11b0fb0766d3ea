-- The number that digits write: one digit more, zeros in front and behind, and how large it can be.
use Prim.Native.Nat.{ℕ, zero, suc, ◌+◌, ◌-◌, ◌*◌, ◌^◌, ◌≤◌, ◌<◌}
use native.Mathlib.Omega.{arith}
use native.Mathlib.Nat.{pow-suc}
use native.Mathlib.Numerals.{add-one}
use mathlib.Core.Path.{◌≡◌, refl, sym, ◌∙◌}
use mathlib.Core.Bool.{Bool, true, false, ◌&&◌}
use mathlib.Core.List.{List, [], ◌∷◌, ◌++◌}
use lib.ListN.{length, get_or, take, drop}
use lib.Seq.{take-suc, get_or-drop}
use lib.Dec.{leb}
use borrow.Author.Tests.{leb-true}
use Rattle.labels.specs.Bytes.{is_digit, run}
use Rattle.labels.proofs.Runs.{run-within, run_left, run-byte}
use Rattle.tokens.specs.Values.{written_behind, written, filled}

-- a digit is a byte from 48 to 57
digit-between : (b : ℕ) → is_digit b ≡ true → (48 ≤ b) × (b ≤ 57)
digit-between b is = both (leb 48 b) (leb b 57) refl refl is
  where
    both : (x y : Bool) → leb 48 b ≡ x → leb b 57 ≡ y → (x && y) ≡ true → (48 ≤ b) × (b ≤ 57)
    both true true l m e = (leb-true 48 b l, leb-true b 57 m)
    both true false l m e = absurd (let z : ◌≡◌ {A = ℕ} 0 1 = cc in omega arith)
    both false y l m e = absurd (let z : ◌≡◌ {A = ℕ} 0 1 = cc in omega arith)

pub run-digit : (s : List ℕ) (k : ℕ) → k < run is_digit s → (48 ≤ get_or s k 0) × (get_or s k 0 ≤ 57)
run-digit s k h = digit-between (get_or s k 0) (run-byte is_digit s k h)

-- a power of ten is no less than a lower one
pub tens_rise : (k n : ℕ) → k ≤ n → 10 ^ k ≤ 10 ^ n
tens_rise k n h = let e : (n - k) + k ≡ n = omega arith in rw e at (by_steps (n - k))
  where
    by_steps : (m : ℕ) → 10 ^ k ≤ 10 ^ (m + k)
    by_steps zero = let e : zero + k ≡ k = omega arith in rw e (omega arith)
    by_steps (suc m) = let e : suc m + k ≡ suc (m + k) = omega arith in let h = by_steps m in rw e (omega (arith, pow-suc 10 (m + k)))

-- no digits
pub written_none : 0 ≡ written []
unfolding written written_behind
written_none = refl

-- digits behind digits
written_behind_lem : (v : ℕ) (ds es : List ℕ) → written_behind v (ds ++ es) ≡ written_behind (written_behind v ds) es
unfolding written_behind
written_behind_lem v [] es = refl
written_behind_lem v (d ∷ ds) es = written_behind_lem (10 * v + (d - 48)) ds es

pub written_append : (ds es : List ℕ) → written (ds ++ es) ≡ written_behind (written ds) es
unfolding written
written_append ds es = written_behind_lem 0 ds es

-- one digit more: ten times those before it, and the digit
pub written_more : (ds : List ℕ) (d : ℕ) → written (ds ++ (d ∷ [])) ≡ 10 * written ds + (d - 48)
unfolding written_behind
written_more ds d = written_append ds (d ∷ [])

-- a zero in front changes nothing
pub written-zero : (ds : List ℕ) → written (48 ∷ ds) ≡ written ds
unfolding written written_behind
written-zero ds = let e : 10 * 0 + (48 - 48) ≡ 0 = omega arith in rw e

-- three digits behind v: v times 1000, and what they write
pub written-three : (v a b c : ℕ) → written_behind v (a ∷ b ∷ c ∷ []) ≡ 1000 * v + written (a ∷ b ∷ c ∷ [])
unfolding written written_behind
written-three v a b c = omega arith

module _ (s : List ℕ) where
  -- the first digits of a text, one at a time
  pub written_step : (i : ℕ) → i < run is_digit s → written (take (i + 1) s) ≡ 10 * written (take i s) + (get_or s i 0 - 48)
  written_step i h =
      let l : i < length s = omega (arith, run-within is_digit s) in
      rw (add-one, take-suc s i 0 l) (written_more (take i s) (get_or s i 0))

  -- n digits write less than the power of ten with n zeros
  pub written_below : (n : ℕ) → n ≤ run is_digit s → written (take n s) < 10 ^ n
  unfolding written written_behind
  written_below zero h = omega (arith, pow_zero)
    where
      pow_zero : 10 ^ 0 ≡ 1
      pow_zero = refl
  written_below (suc n) h =
      let step = written_step n (omega arith) in
      let l = written_below n (omega arith) in
      let d = run-digit s n (omega arith) in
      let e : n + 1 ≡ suc n = omega arith in
      let step' = rw e at step in
      omega (arith, pow-suc 10 n, d.0, d.1)

-- the same from a place on, where this many digits stand
module _ (bytes : List ℕ) (at count : ℕ) (some : count ≤ run is_digit (drop at bytes)) where
  pub digit-within : (i : ℕ) → i < count → at + i < length bytes
  digit-within i h = omega (arith, run_left is_digit bytes at (run is_digit (drop at bytes)) refl)

  pub digit_there : (i : ℕ) → i < count → (48 ≤ get_or bytes (at + i) 0) × (get_or bytes (at + i) 0 ≤ 57)
  digit_there i h = rw (← get_or-drop at bytes i 0) (run-digit (drop at bytes) i (omega arith))

  pub digit_more : (i : ℕ) → i < count → 10 * written (take i (drop at bytes)) + (get_or bytes (at + i) 0 - 48) ≡ written (take (i + 1) (drop at bytes))
  digit_more i h = rw (← get_or-drop at bytes i 0) (sym (written_step (drop at bytes) i (omega arith)))

  -- twelve digits write less than 10 ^ 12
  pub twelve_below : (i : ℕ) → i ≤ count → count ≤ 12 → written (take i (drop at bytes)) < 10 ^ 12
  twelve_below i h few =
      let l = written_below (drop at bytes) i (omega arith) in
      let t = tens_rise i 12 (omega arith) in
      omega arith

-- ---- decimals filled up to three

-- one decimal, two, or else none or three
pub filled_one : (ds : List ℕ) (n v : ℕ) → n ≡ 1 → n ≡ length ds → v ≡ written ds → 100 * v ≡ written (filled ds)
unfolding filled written written_behind
filled_one [] n v is many e = absurd (omega arith)
filled_one (a ∷ []) n v is many e = omega arith
filled_one (a ∷ b ∷ ds) n v is many e = absurd (omega arith)

pub filled_two : (ds : List ℕ) (n v : ℕ) → n ≡ 2 → n ≡ length ds → v ≡ written ds → 10 * v ≡ written (filled ds)
unfolding filled written written_behind
filled_two [] n v is many e = absurd (omega arith)
filled_two (a ∷ []) n v is many e = absurd (omega arith)
filled_two (a ∷ b ∷ []) n v is many e = omega arith
filled_two (a ∷ b ∷ c ∷ ds) n v is many e = absurd (omega arith)

pub filled_else : (ds : List ℕ) (n v : ℕ) → (n ≡ 1 → ⊥) → (n ≡ 2 → ⊥) → n ≤ 3 → n ≡ length ds → v ≡ written ds → v ≡ written (filled ds)
unfolding filled written written_behind
filled_else [] n v one two few many e = e
filled_else (a ∷ []) n v one two few many e = absurd (one (omega arith))
filled_else (a ∷ b ∷ []) n v one two few many e = absurd (two (omega arith))
filled_else (a ∷ b ∷ c ∷ []) n v one two few many e = e
filled_else (a ∷ b ∷ c ∷ d ∷ ds) n v one two few many e = absurd (omega arith)

-- one digit writes less than 10, and two less than 100
pub one_below : (n v : ℕ) → v < 10 ^ n → n ≡ 1 → 100 * v < 1000
one_below n v l is = let m : v < 10 ^ 1 = rw is at l in omega arith

pub two_below : (n v : ℕ) → v < 10 ^ n → n ≡ 2 → 10 * v < 1000
two_below n v l is = let m : v < 10 ^ 2 = rw is at l in omega arith

-- three digits at most write less than 1000
pub few_below : (n v : ℕ) → v < 10 ^ n → n ≤ 3 → v < 1000
few_below n v l few = let t = tens_rise n 3 few in omega arith

-- decimals filled up: three digits, less than 1000
pub filled-below : (n : ℕ) (ds : List ℕ) → n ≡ length ds → n ≤ 3 → written ds < 10 ^ n → written (filled ds) < 1000
filled-below zero ds many few l = rw (← filled_else ds 0 (written ds) (λ e. absurd (omega arith)) (λ e. absurd (omega arith)) few many refl) (few_below 0 (written ds) l few)
filled-below (suc zero) ds many few l = rw (← filled_one ds 1 (written ds) refl many refl) (one_below 1 (written ds) l refl)
filled-below (suc (suc zero)) ds many few l = rw (← filled_two ds 2 (written ds) refl many refl) (two_below 2 (written ds) l refl)
filled-below (suc (suc (suc n))) ds many few l =
    rw (← filled_else ds (suc (suc (suc n))) (written ds) (λ e. absurd (omega arith)) (λ e. absurd (omega arith)) few many refl)
    (few_below (suc (suc (suc n))) (written ds) l few)

-- a zero behind fewer than three changes nothing
pub filled_zero : (ds : List ℕ) → length ds < 3 → filled (ds ++ (48 ∷ [])) ≡ filled ds
unfolding filled
filled_zero [] h = refl
filled_zero (a ∷ []) h = refl
filled_zero (a ∷ b ∷ []) h = refl
filled_zero (a ∷ b ∷ c ∷ ds) h = absurd (omega arith)

-- they count as three digits behind the others
pub filled-behind : (v ds : List ℕ) → length ds ≤ 3 → written (v ++ filled ds) ≡ 1000 * written v + written (filled ds)
unfolding filled
filled-behind v [] h = written_append v (48 ∷ 48 ∷ 48 ∷ []) ∙ written-three (written v) 48 48 48
filled-behind v (a ∷ []) h = written_append v (a ∷ 48 ∷ 48 ∷ []) ∙ written-three (written v) a 48 48
filled-behind v (a ∷ b ∷ []) h = written_append v (a ∷ b ∷ 48 ∷ []) ∙ written-three (written v) a b 48
filled-behind v (a ∷ b ∷ c ∷ []) h = written_append v (a ∷ b ∷ c ∷ []) ∙ written-three (written v) a b c
filled-behind v (a ∷ b ∷ c ∷ d ∷ ds) h = absurd (omega arith)

-- no decimals count nothing
pub filled_none : written (filled []) ≡ 0
unfolding filled written written_behind
filled_none = refl
