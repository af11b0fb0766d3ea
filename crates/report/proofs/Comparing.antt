-- A line compared with a word by the library's test of two lists.
use Rattle.std.proofs.Common.{ℕ, ◌≡◌, refl, sym, ◌∙◌, Bool, List, [], ◌∷◌, eqb}
use lib.Pointwise.{pointwise}
use Rattle.roster.specs.Roster.{same}

same-pointwise : (k l : List ℕ) → same k l ≡ pointwise eqb k l
unfolding same
same-pointwise [] [] = refl
same-pointwise [] (y ∷ l) = refl
same-pointwise (x ∷ k) [] = refl
same-pointwise (x ∷ k) (y ∷ l) = rw (same-pointwise k l)

pub compared : (s w : List ℕ) {l : List ℕ} {r b : Bool} → l ≡ w → r ≡ pointwise eqb s l → r ≡ b → same s w ≡ b
compared s w {l} is e f = rw (← is) (same-pointwise s l ∙ sym e ∙ f)
