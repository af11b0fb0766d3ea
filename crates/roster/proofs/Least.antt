-- The least number that passes a test.
use Prim.Native.Nat.{ℕ, zero, suc, ◌+◌, ◌≤◌, ◌<◌}
use native.Mathlib.Nat.{eq-or-lt_of_le, le_refl}
use native.Mathlib.Omega.{arith}
use mathlib.Core.Path.{◌≡◌, refl}
use mathlib.Core.Logic.{◌⊎◌, inl, inr}
use mathlib.Core.Bool.{Bool, true, false}
use Rattle.roster.specs.Roster.{least, first_or}

module _ (test : ℕ → Bool) where
  -- none from p on, below m, passes
  abbrev pub None : ℕ → ℕ → Type 0
  None p m = (q : ℕ) → p ≤ q → q < m → test q ≡ false

  -- one that passes, with none before it, is the least
  pub least_is : (n p q : ℕ) → p ≤ q → q < p + n → test q ≡ true → None p q → least test p n ≡ q
  unfolding least
  least_is zero p q l h e none = absurd (omega arith)
  least_is (suc n) p q l h e none = by (eq-or-lt_of_le l) (λ m. least_is n (suc p) q m (omega arith) e (λ r k. none r (omega arith)))
    where
      by : (p ≡ q) ⊎ (p < q) → (suc p ≤ q → least test (suc p) n ≡ q) → first_or (test p) p (least test (suc p) n) ≡ q
      by (inl s) next = rw (s, e)
      by (inr m) next = rw (none p (le_refl p) m) (next m)

  -- where none passes, it is the number behind the last
  pub least_none : (n p : ℕ) → None p (p + n) → least test p n ≡ p + n
  unfolding least
  least_none zero p none = omega arith
  least_none (suc n) p none =
      let next = least_none n (suc p) (λ r k m. none r (omega arith) (omega arith)) in
      rw (none p (le_refl p) (omega arith)) (omega arith)

  -- what the least number is: it passes unless it is behind the last, and none before it passes
  pub least_first : (n p : ℕ) → (least test p n < p + n → test (least test p n) ≡ true) × None p (least test p n)
  unfolding least
  least_first zero p = ((λ l. absurd (omega arith)), (λ r k m. absurd (omega arith)))
  least_first (suc n) p = by (test p) refl (least_first n (suc p))
    where
      by : (t : Bool) → test p ≡ t → (least test (suc p) n < suc p + n → test (least test (suc p) n) ≡ true) × None (suc p) (least test (suc p) n)
          → (first_or t p (least test (suc p) n) < p + suc n → test (first_or t p (least test (suc p) n)) ≡ true) × None p (first_or t p (least test (suc p) n))
      by true e next = ((λ l. e), (λ r k m. absurd (omega arith)))
      by false e next = ((λ l. next.0 (omega arith)), (λ r k m. later r m (eq-or-lt_of_le k)))
        where
          later : (r : ℕ) → r < least test (suc p) n → (p ≡ r) ⊎ (p < r) → test r ≡ false
          later r m (inl s) = rw (← s) e
          later r m (inr k) = next.1 r k m

-- two tests that agree where the first has not passed before have the same least number
pub least_same : (test other : ℕ → Bool) (n p : ℕ) → ((q : ℕ) → p ≤ q → q < p + n → None test p q → test q ≡ other q) → least test p n ≡ least other p n
unfolding least
least_same test other zero p same = refl
least_same test other (suc n) p same =
    by (test p) refl (same p (le_refl p) (omega arith) (λ q k m. absurd (omega arith)))
    (λ e. least_same test other n (suc p) (λ q k m none. same q (omega arith) (omega arith) (λ r l h. later e q none r h (eq-or-lt_of_le l))))
  where
    later : test p ≡ false → (q : ℕ) → None test (suc p) q → (r : ℕ) → r < q → (p ≡ r) ⊎ (p < r) → test r ≡ false
    later e q none r h (inl s) = rw (← s) e
    later e q none r h (inr l) = none r l h

    by : (t : Bool) → test p ≡ t → t ≡ other p → (t ≡ false → least test (suc p) n ≡ least other (suc p) n)
        → first_or t p (least test (suc p) n) ≡ first_or (other p) p (least other (suc p) n)
    by true e f on = rw (← f)
    by false e f on = rw (← f) (on refl)
