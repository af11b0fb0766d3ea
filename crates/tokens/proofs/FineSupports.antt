-- A support is too fine exactly where it has bytes and no value; so what the code judges by is what 18 speaks of.
use Prim.Native.Nat.{ℕ, zero, suc, ◌+◌, ◌<◌}
use native.Mathlib.Omega.{arith}
use mathlib.Core.Path.{◌≡◌, refl, ap}
use mathlib.Core.Bool.{Bool, true, false}
use mathlib.Core.List.{List, [], ◌∷◌, tail}
use lib.ListN.{length, take, drop}
use lib.Dec.{leb}
use borrow.Author.Tests.{lt-ltb, le-ltb}
use Rattle.labels.specs.Bytes.{is_digit, run, one_more, next_is}
use Rattle.trees.specs.Tree.{Behind}
use Rattle.tokens.specs.Answers.{Answer, and_then, unexpected}
use Rattle.tokens.specs.Answers.Answer.{parsed, refused}
use Rattle.tokens.specs.Tokens.{number_bytes, blanks, skip, limited, numeral, pointed, fraction, digits, number, number_behind, second_number, first_number, numbers_by, numbers}
use Rattle.tokens.specs.Values.{too_fine, value_unless, thousandths}
use Rattle.tokens.specs.Says.{refusal, between, behind_says, behind_valued, fine_by, fine_figure, fine_as, judged_as}
use Rattle.tokens.specs.Supports.{Threshold, is_given, unless_fine, supported}
use Rattle.tokens.specs.declared.answer.Figures.{Figures}
use Rattle.std.proofs.Common.{None, Some, Ok}
use Rattle.faults.specs.declared.Refusal.{Refusal}
use Rattle.tokens.proofs.Values.{no_bytes, number-value}

-- what was read has the property P
abbrev pub OfRead : {A : Type 0} → (A → Type 0) → Answer A → Type 0
OfRead P (parsed x s p) = P x
OfRead P (refused n q) = Unit {0}

of_then :
    {A B : Type 0} (P : A → Type 0) (Q : B → Type 0) (a : Answer A) (next : A → List ℕ → ℕ → Answer B) → OfRead P a
    → ((x : A) (s : List ℕ) (p : ℕ) → P x → OfRead Q (next x s p)) → OfRead Q (and_then a next)
of_then P Q (parsed x s p) next h later = later x s p h
of_then P Q (refused n q) next h later = tt

of_limited : {A : Type 0} (P : A → Type 0) (b : Bool) (p : ℕ) (a : Answer A) → OfRead P a → OfRead P (limited b p a)
of_limited P true p a h = h
of_limited P false p a h = tt

of_unexpected : {A : Type 0} (P : A → Type 0) (s : List ℕ) (p : ℕ) → OfRead P (unexpected s p)
of_unexpected P [] p = tt
of_unexpected P (b ∷ s) p = tt

-- bytes that begin with a digit, if there are any
abbrev pub Begun : List ℕ → Type 0
Begun w = 0 < length w → 0 < run is_digit w

-- the front of a text that begins with a digit does so too
front-begun : (c : ℕ) (s : List ℕ) → 0 < run is_digit s → Begun (take c s)
unfolding run
front-begun zero s some h = absurd (omega arith)
front-begun (suc c) [] some h = absurd (omega arith)
front-begun (suc c) (b ∷ s) some h = by_byte (is_digit b) some
  where
    by_byte : (t : Bool) → 0 < one_more t (run is_digit s) → 0 < one_more t (run is_digit (take c s))
    by_byte true l = omega arith
    by_byte false l = absurd (omega arith)

numeral-begun : (c : ℕ) (s : List ℕ) (p : ℕ) → 0 < run is_digit s → OfRead Begun (numeral c s p)
numeral-begun c s p some = of_limited Begun (leb c number_bytes) p (parsed (take c s) (drop c s) (p + c)) (front-begun c s some)

-- a number begins with a digit
number-begun : (s : List ℕ) (p : ℕ) → OfRead Begun (number s p)
unfolding number
number-begun s p = by_digits (run is_digit s) refl
  where
    by_digits : (d : ℕ) → run is_digit s ≡ d → OfRead Begun (digits d s p)
    by_digits zero is = of_unexpected Begun s p
    by_digits (suc d) is = by_point (next_is 46 (drop (suc d) s))
      where
        some : 0 < run is_digit s
        some = omega arith

        by_part : (e : ℕ) → OfRead Begun (pointed (suc d) e s p)
        by_part zero =
            let open_point = unexpected (drop (suc d + 1) s) (p + (suc d + 1)) in
            of_limited Begun (leb (suc d + 1) number_bytes) p open_point (of_unexpected Begun (drop (suc d + 1) s) (p + (suc d + 1)))
        by_part (suc e) = numeral-begun (suc d + 1 + suc e) s p some

        by_point : (t : Bool) → OfRead Begun (fraction t (suc d) s p)
        by_point false = numeral-begun (suc d) s p some
        by_point true = by_part (run is_digit (drop (suc d + 1) s))

number-behind-begun : (s : List ℕ) (p : ℕ) → OfRead Begun (number_behind s p)
unfolding number_behind
number-behind-begun s p = number-begun (skip s) (p + blanks s)

-- the same of the support behind a node
abbrev pub Supporting : Behind → Type 0
Supporting b = Begun b.support

none_begun : Begun []
none_begun h = absurd (omega arith)

-- the support that is read behind a node begins with a digit, if it has bytes
pub numbers-begun : (w s : List ℕ) (p : ℕ) → OfRead Supporting (numbers w s p)
unfolding numbers
numbers-begun w s p = by_colon (next_is 58 (skip s))
  where
    last : (d s : List ℕ) (p : ℕ) → OfRead Supporting (and_then (number_behind s p) (λ b s p. parsed (record { name = w; distance = d; support = b }) s p))
    last d s p = of_then Begun Supporting (number_behind s p) _ (number-behind-begun s p) (λ b s p begun. begun)

    by_second : (t : Bool) (d s : List ℕ) (p : ℕ) → OfRead Supporting (second_number t w d s p)
    by_second false d s p = none_begun
    by_second true d s p = last d (tail (skip s)) (p + blanks s + 1)

    by_first : (t : Bool) (s : List ℕ) (p : ℕ) → OfRead Supporting (first_number t w s p)
    by_first true s p = last [] (tail (skip s)) (p + blanks s + 1)
    by_first false s p = of_then Begun Supporting (number_behind s p) _ (number-behind-begun s p) (λ d s p begun. by_second (next_is 58 (skip s)) d s p)

    by_colon : (t : Bool) → OfRead Supporting (numbers_by t w s p)
    by_colon false = none_begun
    by_colon true = by_first (next_is 58 (skip (tail (skip s)))) (tail (skip s)) (p + blanks s + 1)

-- bytes between two places that have no value are too fine, unless there are none
pub fine_same : (w : List ℕ) (from to : ℕ) → Begun w → to ≡ from + length w → fine_by (thousandths w) from to ≡ too_fine w
fine_same [] from to begun e = rw (← no_bytes.0, no_bytes.1) (le-ltb from to (omega arith))
fine_same (b ∷ w) from to begun e = rw (number-value (b ∷ w) (begun (omega arith))) (by_fine (too_fine (b ∷ w)) _)
  where
    by_fine : (t : Bool) (n : ℕ) → fine_by (value_unless t n) from to ≡ t
    by_fine true n = lt-ltb from to (omega arith)
    by_fine false n = refl

-- what is judged keeps its values
pub judged-valued : (text : List ℕ) (t : Threshold) (e : Figures) → behind_valued text (Ok e) → behind_valued text (judged_as t e)
judged-valued text None e v = v
judged-valued text (Some n) e v = by_fine (fine_figure e.support)
  where
    by_fine : (fine : Bool) → behind_valued text (fine_as fine e)
    by_fine true = tt
    by_fine false = v

-- numbers that were read and judged are numbers with their support judged
module _ (text w s : List ℕ) (p : ℕ) where
  pub judged-supported :
      (t : Threshold) (e : Figures) → behind_valued text (Ok e) → behind_says text w (Ok e) ≡ numbers w s p
      → behind_says text w (judged_as t e) ≡ supported (is_given t) w s p
  unfolding supported
  judged-supported None e v says = rw (← says)
  judged-supported (Some n) e v says = rw (← says, same) (by_fine (too_fine bytes))
    where
      bytes : List ℕ
      bytes = between text e.support

      same : fine_figure e.support ≡ too_fine bytes
      same = rw v.1.0 (fine_same bytes e.support.from e.support.to (rw (← says) at (numbers-begun w s p)) v.1.1)

      by_fine :
          (fine : Bool)
          → behind_says text w (fine_as fine e)
          ≡ unless_fine fine (record { name = w; distance = between text e.distance; support = bytes }) (drop e.next text) e.next
      by_fine true = ap (refused 18) (omega (arith, v.1.1, v.2))
      by_fine false = refl

  -- and a refusal of them stays
  pub refused-supported : (given : Bool) (e : Refusal) → refusal e ≡ numbers w s p → refusal e ≡ supported given w s p
  unfolding supported
  refused-supported given e says = rw (← says)
