-- Within quotes: the letter at the front, how many bytes it takes, and the quote that closes the label.
use Prim.Native.Nat.{ℕ, suc, ◌+◌, ◌≤◌, ◌<◌}
use native.Mathlib.Omega.{arith}
use native.Mathlib.Numerals.{add-one}
use mathlib.Core.Path.{◌≡◌, refl, sym, ap, subst, ◌∙◌}
use mathlib.Core.Bool.{Bool, true, false}
use mathlib.Core.List.{List, [], ◌∷◌, ◌++◌}
use lib.ListN.{length, get_or, drop}
use lib.Seq.{drop-cons}
use lib.Dec.{eqb}
use Rattle.std.proofs.Common.{None, Some}
use Rattle.std.specs.Bool.{then_some}
use Rattle.std.proofs.lemmas.Option.{none-some, same_Some}
use borrow.Author.Tests.{ne_eqb, eqb-true}
use Rattle.labels.specs.Bytes.{is_printable, is_plain, next_is}
use Rattle.labels.specs.Labels.{letters_from, plain_by, half_by, doubled}
use Rattle.labels.specs.Work.{width_by, width_of}
use Rattle.labels.proofs.ByteKinds.{plain_no_quote, plain-printable}

-- the letter at the front of s is b, and takes n bytes
pub record Letter (s : List ℕ) (b n : ℕ) : Type 0 where
  pub split : s ≡ doubled (b ∷ []) ++ drop n s
  pub printable : is_printable b ≡ true
  pub within : n ≤ length s
  pub some : 0 < n
  pub few : n ≤ 2
  pub raw : length (doubled (b ∷ [])) ≡ n

-- where a letter takes n bytes, it is the first of them
pub letter_there : (b : ℕ) (s : List ℕ) (n : ℕ) → width_of (b ∷ s) ≡ Some n → Letter (b ∷ s) b n
unfolding width_of doubled next_is
letter_there b s = by (is_plain b) (eqb b 39) refl refl s
  where
    by : (plain quote : Bool) → is_plain b ≡ plain → eqb b 39 ≡ quote → (s : List ℕ) (n : ℕ) → width_by plain quote (next_is 39 s) ≡ Some n
        → Letter (b ∷ s) b n
    by true quote e f s n is =
        let other = plain_no_quote b e in
        let one : 1 ≡ n = same_Some 1 n is in
        rw (← one)
        (record { split = rw other refl; printable = plain-printable b e; within = omega arith; some = omega arith; few = omega arith; raw = rw other })
    by false true e f [] n is = absurd (none-some n is)
    by false true e f (c ∷ s) n is = pair (eqb c 39) refl is
      where
        pair : (twice : Bool) → eqb c 39 ≡ twice → width_by false true twice ≡ Some n → Letter (b ∷ c ∷ s) b n
        pair true g is =
            let first = eqb-true b 39 f in
            let both : b ∷ c ∷ s ≡ b ∷ b ∷ s = ap (λ (x : ℕ). b ∷ x ∷ s) (eqb-true c 39 g ∙ sym first) in
            let two : 2 ≡ n = same_Some 2 n is in
            rw (← two)
            (record { split = rw f both; printable = ap is_printable first; within = omega arith; some = omega arith; few = omega arith; raw = rw f })
        pair false g is = absurd (none-some n is)
    by false false e f s n is = absurd (none-some n is)

-- where it takes none, no letter stands there
pub no_letter : (s : List ℕ) → width_of s ≡ None → letters_from false s ≡ []
unfolding width_of letters_from next_is
no_letter [] e = refl
no_letter (b ∷ s) e = by (is_plain b) (eqb b 39) s e
  where
    by : (plain quote : Bool) (s : List ℕ) → width_by plain quote (next_is 39 s) ≡ None → plain_by plain quote b (letters_from false s) (letters_from true s) ≡ []
    by true quote s e = absurd (none-some 1 (sym e))
    by false true [] e = refl
    by false true (c ∷ s) e = pair (eqb c 39) e
      where
        pair : (twice : Bool) → width_by false true twice ≡ None → half_by twice (letters_from false s) ≡ []
        pair true e = absurd (none-some 2 (sym e))
        pair false e = refl
    by false false s e = refl

-- how many bytes the letter at a place takes, by the tests of the code
module _ (text : List ℕ) (at : ℕ) (here : at < length text) where
  abbrev byte : ℕ
  byte = get_or text at 0

  width-by : width_of (drop at text) ≡ width_by (is_plain byte) (eqb byte 39) (next_is 39 (drop (at + 1) text))
  unfolding width_of
  width-by = rw (add-one, drop-cons text at 0)

  pub width-quote : byte ≡ 39 → then_some (next_is 39 (drop (at + 1) text)) 2 ≡ width_of (drop at text)
  width-quote e = by (next_is 39 (drop (at + 1) text)) (width-by ∙ rw e)
    where
      by : (twice : Bool) → width_of (drop at text) ≡ width_by false true twice → then_some twice 2 ≡ width_of (drop at text)
      by true is = sym is
      by false is = sym is

  pub width-other : (byte ≡ 39 → ⊥) → then_some (is_printable byte) 1 ≡ width_of (drop at text)
  width-other e = by (is_printable byte) refl
    where
      by : (t : Bool) → is_printable byte ≡ t → then_some t 1 ≡ width_of (drop at text)
      by true is = rw (width-by, is, ne_eqb byte 39 e)
      by false is = rw (width-by, is, ne_eqb byte 39 e)

  -- a letter that takes bytes is the byte at the place
  pub letter_at : (n : ℕ) → width_of (drop at text) ≡ Some n → Letter (drop at text) byte n
  letter_at n =
      subst (λ (s : List ℕ). width_of s ≡ Some n → Letter s byte n) (sym (drop-cons text at 0 here)) (letter_there byte (drop (suc at) text) n)
