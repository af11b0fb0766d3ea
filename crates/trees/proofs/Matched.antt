-- A list of which each number has a partner in another list, no two the same one, is no longer than the other.
use Prim.Native.Nat.{ℕ, suc, ◌≤◌, ◌<◌}
use mathlib.Core.Path.{◌≡◌, refl, sym, ap, ◌∙◌, subst}
use mathlib.Core.Logic.{◌⊎◌, inl, inr}
use mathlib.Core.Bool.{Bool, true, false, not, true≢false}
use mathlib.Core.List.Memᴰ
use mathlib.Core.List.Memᴰ.{head as here}
use mathlib.Core.List.Memᴰ.{tail as there}
use mathlib.Core.List.{List, [], ◌∷◌}
use native.Mathlib.Omega.{arith}
use lib.Dec.{eqb}
use lib.ListN.{length}
use borrow.Author.Tests.{eq-eqb, ne_eqb}
use Rattle.trees.specs.Lists.{Among, NoneTwice, keep_if, keep}
use Rattle.trees.proofs.Listing.{keep-among}

-- ---- a list without one of its numbers

keep-le : (test : ℕ → Bool) (l : List ℕ) → length (keep test l) ≤ length l
unfolding keep
keep-le test [] = omega arith
keep-le test (x ∷ l) = go (test x) (keep-le test l)
  where
    go : (b : Bool) → length (keep test l) ≤ length l → length (keep_if b x (keep test l)) ≤ suc (length l)
    go true h = omega arith
    go false h = omega arith

unfoldable without : ℕ → List ℕ → List ℕ
without y l = keep (λ x. not (eqb x y)) l

without-among : {x y : ℕ} (l : List ℕ) → Among x l → (x ≡ y → ⊥) → Among x (without y l)
unfolding without
without-among {x} {y} l m d = keep-among (λ x. not (eqb x y)) l m (ap not (ne_eqb x y d))

without_shorter : {y : ℕ} (l : List ℕ) → Among y l → length (without y l) < length l
unfolding without keep
without_shorter [] m = absurd (Memᴰ.not-nil m)
without_shorter {y} (x ∷ l) m = go (eqb x y) refl (Memᴰ.cases_cons m) (λ k. without_shorter l k)
  where
    go : (b : Bool) → eqb x y ≡ b → (y ≡ x) ⊎ Among y l → (Among y l → length (without y l) < length l)
        → length (keep_if (not b) x (without y l)) < suc (length l)
    go true e d later = omega (arith, keep-le (λ x. not (eqb x y)) l)
    go false e (inl p) later = absurd (true≢false (sym (eq-eqb x y (sym p)) ∙ e))
    go false e (inr k) later = omega (arith, later k)

-- ---- partners

module _ (Partner : ℕ → ℕ → Type 0) where
  pub matched_le :
      (l k : List ℕ) → NoneTwice l → ((x z y : ℕ) → Partner x y → Partner z y → x ≡ z) → ((x : ℕ) → Among x l → (y : ℕ) × Among y k × Partner x y)
      → length l ≤ length k
  unfolding NoneTwice
  matched_le [] k once one partner = omega arith
  matched_le (x ∷ l) k once one partner =
      let y = partner x (here refl) in
      omega (
        arith,
        without_shorter k y.1,
        matched_le l (without y.0 k) once.1 one (λ z m.
            let w = partner z (there m) in
            (w.0, without-among k w.1 (λ e. once.0 (Memᴰ.cast (one x z w.0 (subst (Partner x) (sym e) y.2) w.2) m)), w.2)),
      )

-- of two lists the one that holds no number twice and none that the other has not
pub fewer-le : (l k : List ℕ) → NoneTwice l → ((x : ℕ) → Among x l → Among x k) → length l ≤ length k
fewer-le l k once among = matched_le (λ (x y : ℕ). x ≡ y) l k once (λ x z y p q. p ∙ sym q) (λ x m. (x, among x m, refl))
