-- Decimal digits: how many there are, and that they read back to the number.
use Prim.Native.Nat.{ℕ, zero, suc, ◌+◌, ◌-◌, ◌*◌, ◌/◌, ◌%◌, ◌^◌, ◌≤◌, ◌<◌}
use mathlib.Core.Path.{◌≡◌, refl, sym, ap, ◌∙◌}
use mathlib.Core.Bool.{Bool, true, false}
use mathlib.Core.Logic.{◌⊎◌, inl, inr, ⊎_elim}
use mathlib.Core.List.{List, [], ◌∷◌, ◌++◌}
use native.Mathlib.Omega.{arith}
use native.Mathlib.Nat.{pow-suc}
use lib.ListN.{length, get_or, length-append, get_or-append}
use lib.Dec.{ltb}
use borrow.Author.Tests.{ltb-true, ltb-false, lt-ltb, le-ltb}
use Rattle.std.specs.Fmt.{decimal as std_decimal}
use Rattle.std.proofs.lemmas.Fmt.{decimal_from_appends_wide, length-decimal-le_wide}
use Rattle.printing.specs.Words.{digits_by, digits_to, decimal}
use Rattle.printing.specs.Value.{value_behind, value_of}

-- a tenth of a number has a digit less
pub tenth_below : (k x : ℕ) → x < 10 ^ suc k → x / 10 < 10 ^ k
tenth_below k x h = omega (arith, pow-suc 10 k)

-- ---- one digit, or the digits of the tenth and one more

module _ (k x : ℕ) where
  pub digits_one : x < 10 → digits_to (suc k) x ≡ (48 + x) ∷ []
  unfolding digits_to
  digits_one h = rw (lt-ltb x 10 h)

  pub digits_more : 10 ≤ x → digits_to (suc k) x ≡ digits_to k (x / 10) ++ ((48 + x % 10) ∷ [])
  unfolding digits_to
  digits_more h = rw (le-ltb x 10 h) (ap (λ d. digits_to k (x / 10) ++ (d ∷ [])) (omega arith))

-- how many digits are allowed does not matter, where there are enough
pub digits-enough : (k x : ℕ) → x < 10 ^ suc k → digits_to (suc (suc k)) x ≡ digits_to (suc k) x
digits-enough zero x h = let l : x < 10 = omega (arith, pow-suc 10 0) in digits_one 1 x l ∙ sym (digits_one 0 x l)
digits-enough (suc k) x h = go (ltb x 10) refl (digits-enough k (x / 10) (tenth_below (suc k) x h))
  where
    go : (b : Bool) → ltb x 10 ≡ b → digits_to (suc (suc k)) (x / 10) ≡ digits_to (suc k) (x / 10) → digits_to (suc (suc (suc k))) x ≡ digits_to (suc (suc k)) x
    go true e same = let l = ltb-true x 10 e in digits_one (suc (suc k)) x l ∙ sym (digits_one (suc k) x l)
    go false e same =
        let l = ltb-false x 10 e in
        digits_more (suc (suc k)) x l ∙ (ap (λ (front : List ℕ). front ++ ((48 + x % 10) ∷ [])) same ∙ sym (digits_more (suc k) x l))

-- ---- a number of the machine

pub decimal_one : (x : ℕ) → x < 10 → decimal x ≡ (48 + x) ∷ []
unfolding decimal
decimal_one x h = digits_one 19 x h

pub decimal_more : (x : ℕ) → 10 ≤ x → x < 10 ^ 20 → decimal x ≡ decimal (x / 10) ++ ((48 + x % 10) ∷ [])
unfolding decimal
decimal_more x h l =
    digits_more 19 x h ∙ ap (λ (front : List ℕ). front ++ ((48 + x % 10) ∷ [])) (sym (digits-enough 18 (x / 10) (tenth_below 19 x l)))

-- as std writes them
pub decimal_written : (x : ℕ) → x < 10 ^ 20 → std_decimal x ≡ decimal x
unfolding decimal
decimal_written x h =
    sym
    (decimal_from_appends_wide digits_to (record { one = λ k n l. digits_one k n l; more = λ k n l. digits_more k n l }) 20 x (omega arith)
    (length-decimal-le_wide 20 x (omega arith) h (omega arith)))

-- ---- how many there are

digits-length : (k x : ℕ) → length (digits_to k x) ≤ k
unfolding digits_to
digits-length zero x = omega arith
digits-length (suc k) x = go (ltb x 10) (digits-length k (x / 10))
  where
    go : (b : Bool) → length (digits_to k (x / 10)) ≤ k → length (digits_by b (digits_to k (x / 10)) x) ≤ suc k
    go true h = omega arith
    go false h = omega (arith, length-append (digits_to k (x / 10)) ((48 + x % 10) ∷ []))

pub decimal-length : (x : ℕ) → length (decimal x) ≤ 20
unfolding decimal
decimal-length x = digits-length 20 x

-- ---- they are digits

with_more : (s : List ℕ) (d i : ℕ) → i < length (s ++ (d ∷ [])) → (i < length s) ⊎ (get_or (s ++ (d ∷ [])) i 0 ≡ d)
with_more [] d zero h = inr refl
with_more [] d (suc i) h = absurd (omega arith)
with_more (c ∷ s) d zero h = inl (omega arith)
with_more (c ∷ s) d (suc i) h = ⊎_elim (λ l. inl (omega arith)) inr (with_more s d i (omega arith))

-- the bytes of the digits 0 to 9
abbrev Digit : ℕ → Type 0
Digit b = (48 ≤ b) × (b ≤ 57)

digits_are : (k x i : ℕ) → i < length (digits_to k x) → Digit (get_or (digits_to k x) i 0)
unfolding digits_to
digits_are zero x i h = absurd (omega arith)
digits_are (suc k) x i h = go (ltb x 10) refl i h (digits_are k (x / 10))
  where
    front : List ℕ
    front = digits_to k (x / 10)

    go :
        (b : Bool) → ltb x 10 ≡ b → (i : ℕ) → i < length (digits_by b front x) → ((j : ℕ) → j < length front → Digit (get_or front j 0))
        → Digit (get_or (digits_by b front x) i 0)
    go true e zero h later = let l = ltb-true x 10 e in (omega arith, omega arith)
    go true e (suc i) h later = absurd (omega arith)
    go false e i h later =
        ⊎_elim (λ l. rw (get_or-append front ((48 + x % 10) ∷ []) 0 i l) (later i l))
        (λ is. rw is (omega arith, omega arith))
        (with_more front (48 + x % 10) i h)

pub decimal-digits : (x i : ℕ) → i < length (decimal x) → (48 ≤ get_or (decimal x) i 0) × (get_or (decimal x) i 0 ≤ 57)
unfolding decimal
decimal-digits x i h = digits_are 20 x i h

-- ---- they read back to the number

value_snoc : (v : ℕ) (l : List ℕ) (d : ℕ) → value_behind v (l ++ (d ∷ [])) ≡ 10 * value_behind v l + (d - 48)
unfolding value_behind
value_snoc v [] d = refl
value_snoc v (c ∷ l) d = value_snoc (10 * v + (c - 48)) l d

-- one digit says itself
digits_value : (k x : ℕ) → x < 10 ^ suc k → value_of (digits_to (suc k) x) ≡ x
unfolding value_of value_behind
digits_value zero x h = let l : x < 10 = omega (arith, pow-suc 10 0) in rw (digits_one 0 x l) (omega arith)
digits_value (suc k) x h = go (ltb x 10) refl (digits_value k (x / 10) (tenth_below (suc k) x h))
  where
    go : (b : Bool) → ltb x 10 ≡ b → value_behind 0 (digits_to (suc k) (x / 10)) ≡ x / 10 → value_behind 0 (digits_to (suc (suc k)) x) ≡ x
    go true e tenth = let l = ltb-true x 10 e in rw (digits_one (suc k) x l) (omega arith)
    go false e tenth =
        let l = ltb-false x 10 e in
        rw (digits_more (suc k) x l, value_snoc 0 (digits_to (suc k) (x / 10)) (48 + x % 10), tenth) (omega arith)

-- decimal digits say the number
pub decimal-value : (x : ℕ) → x < 10 ^ 20 → value_of (decimal x) ≡ x
unfolding decimal
decimal-value x h = digits_value 19 x h

-- ---- no zero stands in front

digits_some : (k x : ℕ) → 0 < length (digits_to (suc k) x)
unfolding digits_to
digits_some k x = go (ltb x 10)
  where
    go : (b : Bool) → 0 < length (digits_by b (digits_to k (x / 10)) x)
    go true = omega arith
    go false = omega (arith, length-append (digits_to k (x / 10)) ((48 + x % 10) ∷ []))

digits-lead : (k x : ℕ) → x < 10 ^ suc k → 0 < x → get_or (digits_to (suc k) x) 0 0 ≡ 48 → ⊥
digits-lead zero x h some = let l : x < 10 = omega (arith, pow-suc 10 0) in rw (digits_one 0 x l) (λ e. omega arith)
digits-lead (suc k) x h some = go (ltb x 10) refl (digits-lead k (x / 10) (tenth_below (suc k) x h))
  where
    go : (b : Bool) → ltb x 10 ≡ b → (0 < x / 10 → get_or (digits_to (suc k) (x / 10)) 0 0 ≡ 48 → ⊥) → get_or (digits_to (suc (suc k)) x) 0 0 ≡ 48 → ⊥
    go true e tenth = let l = ltb-true x 10 e in rw (digits_one (suc k) x l) (λ e. omega arith)
    go false e tenth =
        let l = ltb-false x 10 e in
        rw (digits_more (suc k) x l, get_or-append (digits_to (suc k) (x / 10)) ((48 + x % 10) ∷ []) 0 0 (digits_some k (x / 10)))
        (tenth (omega arith))

-- for a number above 0 the first digit is not 0
pub decimal-lead : (x : ℕ) → x < 10 ^ 20 → 0 < x → get_or (decimal x) 0 0 ≡ 48 → ⊥
unfolding decimal
decimal-lead x h some = digits-lead 19 x h some
