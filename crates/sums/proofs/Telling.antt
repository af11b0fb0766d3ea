-- The steps of all species, and the end: what both transformed tables tell of each set.
use Rattle.std.proofs.Common.{◌≡◌, ℕ, ◌+◌, ◌-◌, ◌%◌, ◌<◌, ◌≤◌, List, length, get_or, set, sym, refl, ap, ◌∙◌, subst, add-one, arith, length-set, get_or-set_other, get_or-set_same}
use native.Mathlib.Decide.{ℕ_discrete}
use Rattle.weights.specs.Subsets.{modulus, stepped, zeta}
use Rattle.sums.specs.Work.{Told}

-- ---- the steps of all species

-- one step more
pub zeta_more : (i : ℕ) {f g : List ℕ} (before : List ℕ) → f ≡ zeta i before → g ≡ stepped i f → g ≡ zeta (i + 1) before
unfolding zeta
zeta_more i before e d = d ∙ ap (stepped i) e ∙ ap (λ (k : ℕ). zeta k before) (sym (add-one i))

-- no step yet
pub zeta_none : (f : List ℕ) → f ≡ zeta 0 f
unfolding zeta
zeta_none f = refl

-- ---- the entries told

-- those before a are told, the others are as they were
pub record ToldTo (count all : ℕ) (before lost now : List ℕ) (a : ℕ) : Type 0 where
  pub first : 1 ≤ a
  pub same : length now ≡ length before
  pub none : get_or now 0 0 ≡ 0
  pub small : (b : ℕ) → b < a → get_or now b 0 < modulus
  pub done :
      (b : ℕ) → 1 ≤ b → b < a → (get_or now b 0 + count) % modulus ≡ (get_or before b 0 + get_or lost (all - b) 0) % modulus
  pub left : (b : ℕ) → a ≤ b → get_or now b 0 ≡ get_or before b 0

-- entry 0 is none
pub told_start : (count all : ℕ) (sums lost : List ℕ) → 1 ≤ length sums → ToldTo count all (set sums 0 0) lost (set sums 0 0) 1
told_start count all sums lost some = record {
  first = omega arith;
  same = refl;
  none = get_or-set_same sums 0 0 0 (omega arith);
  small = λ b l. let zero-there : b ≡ 0 = omega arith in omega (arith, ap (λ (i : ℕ). get_or (set sums 0 0) i 0) zero-there, get_or-set_same sums 0 0 0 some);
  done = λ b l k. absurd (omega arith);
  left = λ b l. refl;
}

module _ {count all : ℕ} {before lost now : List ℕ} {a : ℕ} (t : ToldTo count all before lost now a) where
  -- the next is told
  pub told_next :
      {met : ℕ} (r : ℕ) → a < length before → r < modulus → met ≡ (get_or now a 0 + get_or lost (all - a) 0) % modulus
      → (r + count) % modulus ≡ met → ToldTo count all before lost (set now a r) (a + 1)
  told_next {met} r less below e d = record {
    first = omega arith;
    same = length-set now a r ∙ t.same;
    none = get_or-set_other now a 0 r 0 (λ p. omega (arith, t.first)) ∙ t.none;
    small = λ b l. tiny b l (ℕ_discrete b a);
    done = λ b l k. go b l k (ℕ_discrete b a);
    left = λ b l. get_or-set_other now a b r 0 (λ p. omega arith) ∙ t.left b (omega arith);
  }
    where
      there : get_or (set now a r) a 0 ≡ r
      there = get_or-set_same now a r 0 (omega (arith, t.same))

      tiny : (b : ℕ) → b < a + 1 → Dec (b ≡ a) → get_or (set now a r) b 0 < modulus
      tiny b l (yes p) = subst (λ (x : ℕ). get_or (set now a r) x 0 < modulus) (sym p) (omega (arith, there))
      tiny b l (no f) = omega (arith, get_or-set_other now a b r 0 f, t.small b (omega (arith, f)))

      go :
          (b : ℕ) → 1 ≤ b → b < a + 1 → Dec (b ≡ a)
          → (get_or (set now a r) b 0 + count) % modulus ≡ (get_or before b 0 + get_or lost (all - b) 0) % modulus
      go b l k (yes p) =
          subst (λ (x : ℕ). (get_or (set now a r) x 0 + count) % modulus ≡ (get_or before x 0 + get_or lost (all - x) 0) % modulus) (sym p)
          (ap (λ (x : ℕ). (x + count) % modulus) there ∙ d ∙ e ∙ ap (λ (x : ℕ). (x + get_or lost (all - a) 0) % modulus) (t.left a (omega arith)))
      go b l k (no f) = ap (λ (x : ℕ). (x + count) % modulus) (get_or-set_other now a b r 0 f) ∙ t.done b l (omega (arith, f))

-- all are told
pub told_end :
    {count all : ℕ} (sums : List ℕ) {lost now : List ℕ} {a : ℕ} → ToldTo count all (set sums 0 0) lost now a → all ≡ length sums - 1 → length sums ≤ a
    → Told count sums lost now
told_end {count} {all} sums {lost} {now} {a} t e past = record {
  same = t.same ∙ length-set sums 0 0;
  none = t.none;
  small = λ b l. t.small b (omega arith);
  entries = λ b one l.
      t.done b one (omega arith)
      ∙ ap (λ (x : ℕ). (x + get_or lost (all - b) 0) % modulus) (get_or-set_other sums 0 b 0 0 (λ p. omega arith))
      ∙ ap (λ (x : ℕ). (get_or sums b 0 + get_or lost (x - b) 0) % modulus) e;
}
