-- The line of a refusal says its number and its place: two such lines are equal only where both are.
use Prim.Native.Nat.{ℕ, suc, ◌^◌, ◌<◌}
use mathlib.Core.Path.{◌≡◌, refl, sym, ap, ◌∙◌}
use mathlib.Core.List.{List, [], ◌∷◌, ◌++◌, append_assoc}
use native.Mathlib.Omega.{arith}
use lib.ListN.{length, get_or, drop}
use Rattle.printing.specs.Words.{refused_text, at_text, newline, decimal}
use Rattle.printing.specs.Value.{value_of}
use Rattle.printing.specs.Texts.{refusal_text}
use Rattle.printing.proofs.Digits.{decimal-value, decimal-digits}

-- the byte b does not stand in the list
abbrev Without : ℕ → List ℕ → Type 0
Without b l = (i : ℕ) → i < length l → get_or l i 0 ≡ b → ⊥

-- what stands before the first b, and what stands behind it, are one thing each
same_front :
    (b : ℕ) (l k : List ℕ) {rest rest' : List ℕ} → Without b l → Without b k → l ++ (b ∷ rest) ≡ k ++ (b ∷ rest') → (l ≡ k) × (rest ≡ rest')
same_front b [] [] f g e = (refl, cc)
same_front b [] (c ∷ k) f g e = absurd (g 0 (omega arith) (sym (ap (λ (l : List ℕ). get_or l 0 0) e)))
same_front b (c ∷ l) [] f g e = absurd (f 0 (omega arith) (ap (λ (l : List ℕ). get_or l 0 0) e))
same_front b (c ∷ l) (d ∷ k) f g e =
    let h : c ≡ d = ap (λ (l : List ℕ). get_or l 0 0) e in
    let s = same_front b l k (λ i m. f (suc i) (omega arith)) (λ i m. g (suc i) (omega arith)) (ap (drop 1) e) in
    (ap (λ (x : ℕ). x ∷ l) h ∙ ap (λ (m : List ℕ). d ∷ m) s.0, s.1)

-- digits have no byte below 48
no_digit : (b x : ℕ) → b < 48 → Without b (decimal x)
no_digit b x l i h e = omega (arith, (decimal-digits x i h).0)

-- the line from the left
from_left : (k p : ℕ) → refusal_text k p ≡ refused_text ++ (decimal k ++ (at_text ++ (decimal p ++ newline)))
from_left k p = grouped refused_text (decimal k) at_text (decimal p) newline
  where
    grouped : (a b c d e : List ℕ) → a ++ b ++ c ++ d ++ e ≡ a ++ (b ++ (c ++ (d ++ e)))
    grouped a b c d e = simp append_assoc

-- of numbers with at most twenty digits, one number is said, and what stands behind it is one thing
pub same_number :
    (k p number : ℕ) {rest : List ℕ} → k < 10 ^ 20 → number < 10 ^ 20 → refusal_text k p ≡ refused_text ++ (decimal number ++ (at_text ++ rest))
    → (k ≡ number) × (decimal p ++ newline ≡ rest)
same_number k p number {rest} a c e =
    let whole = sym (from_left k p) ∙ e in
    let front = same_front 32 (decimal k) (decimal number) (no_digit 32 k (omega arith)) (no_digit 32 number (omega arith)) (ap (drop 8) whole) in
    (sym (decimal-value k a) ∙ ap value_of front.0 ∙ decimal-value number c, ap (drop 3) front.1)

-- and one place
pub one_refusal :
    (k p number place : ℕ) → k < 10 ^ 20 → p < 10 ^ 20 → number < 10 ^ 20 → place < 10 ^ 20 → refusal_text k p ≡ refusal_text number place
    → (k ≡ number) × (p ≡ place)
one_refusal k p number place a b c d e =
    let front = same_number k p number a c (e ∙ from_left number place) in
    let behind = same_front 10 (decimal p) (decimal place) (no_digit 10 p (omega arith)) (no_digit 10 place (omega arith)) front.1 in
    (front.0, sym (decimal-value p b) ∙ ap value_of behind.0 ∙ decimal-value place d)
