-- A list of which the first i elements are filled, one after the other.
use Prim.Native.Nat.{ℕ, zero, suc, ◌+◌}
use mathlib.Core.Path.{◌≡◌, refl, sym, ap, ap₂, ◌∙◌}
use mathlib.Core.List.{List, [], ◌∷◌, map}
use native.Mathlib.Numerals.{add-one}
use lib.ListN.{length, get_or, set}

module _ {A : Type 0} (fill : A → A) where
  pub filled_to : ℕ → List A → List A
  filled_to zero l = l
  filled_to (suc i) [] = []
  filled_to (suc i) (x ∷ l) = fill x ∷ filled_to i l

  pub filled_none : (l : List A) → filled_to 0 l ≡ l
  unfolding filled_to
  filled_none l = refl

  -- the next one is filled
  pub filled_next : (i : ℕ) (l : List A) (d : A) → set (filled_to i l) i (fill (get_or (filled_to i l) i d)) ≡ filled_to (suc i) l
  unfolding filled_to
  filled_next zero [] d = refl
  filled_next zero (x ∷ l) d = refl
  filled_next (suc i) [] d = refl
  filled_next (suc i) (x ∷ l) d = ap (λ (k : List A). fill x ∷ k) (filled_next i l d)

  -- as the code writes it
  pub filled_here :
      (i : ℕ) (xs : List A) {ys : List A} {x : A} (d : A) → ys ≡ filled_to i xs → x ≡ fill (get_or ys i d) → set ys i x ≡ filled_to (i + 1) xs
  filled_here i xs d now told =
      ap₂ (λ (l : List A) (x : A). set l i x) now (told ∙ ap (λ (l : List A). fill (get_or l i d)) now)
      ∙ filled_next i xs d ∙ ap (λ (k : ℕ). filled_to k xs) (sym (add-one i))

  -- where the code counts from 1: none is filled, and then one more, at i
  pub none_filled : (k : ℕ) (l : List A) → k ≡ 0 → l ≡ filled_to k l
  none_filled k l none = rw none (sym (filled_none l))

  pub filled_as_counted :
      (k i j : ℕ) (xs : List A) {ys : List A} {x : A} (d : A) → i ≡ k → j ≡ k + 1 → ys ≡ filled_to k xs → x ≡ fill (get_or ys i d) → set ys i x ≡ filled_to j xs
  filled_as_counted k i j xs d here next now told = rw (here, next) (filled_here k xs d now (rw here at told))

  pub filled-length : (i : ℕ) (l : List A) → length (filled_to i l) ≡ length l
  unfolding filled_to
  filled-length zero l = refl
  filled-length (suc i) [] = refl
  filled-length (suc i) (x ∷ l) = ap suc (filled-length i l)

  pub filled_all : (l : List A) → filled_to (length l) l ≡ map fill l
  unfolding filled_to
  filled_all [] = refl
  filled_all (x ∷ l) = ap (λ (k : List A). fill x ∷ k) (filled_all l)
