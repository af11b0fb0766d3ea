-- Bytes by their kind: what one kind says of another.
use Prim.Native.Nat.{ℕ, ◌≤◌, ◌<◌}
use native.Mathlib.Omega.{arith}
use native.Mathlib.Decide.{dec_le}
use mathlib.Core.Path.{◌≡◌, refl, sym, ap, ◌∙◌}
use mathlib.Core.Bool.{Bool, true, false, not, ◌||◌, true≢false, and-eq-true_iff}
use lib.Dec.{eqb}
use borrow.Author.Tests.{le-leb, lt-leb, ne_eqb, eqb-true}
use Rattle.labels.specs.Bytes.{is_name, is_bare, is_printable, is_plain}

-- a byte that passes a test is none that does not
pub passes_other : (test : ℕ → Bool) (b c : ℕ) → test b ≡ true → test c ≡ false → eqb b c ≡ false
passes_other test b c p f = ne_eqb b c (λ e. true≢false (sym p ∙ ap test e ∙ f))

module _ (b : ℕ) where
  name_from : b < 48 → is_name b ≡ false
  name_from h = rw (lt-leb 48 b h, lt-leb 65 b (omega arith), lt-leb 97 b (omega arith))

  name_to : 122 < b → is_name b ≡ false
  name_to h =
      rw (le-leb 48 b (omega arith), lt-leb b 57 (omega arith), le-leb 65 b (omega arith), lt-leb b 90 (omega arith), le-leb 97 b (omega arith), lt-leb b 122 h)

  -- letters and digits lie between 0 and z
  pub name_bounds : is_name b ≡ true → (48 ≤ b) × (b ≤ 122)
  name_bounds e = by (dec_le 48 b) (dec_le b 122)
    where
      by : Dec (48 ≤ b) → Dec (b ≤ 122) → (48 ≤ b) × (b ≤ 122)
      by (yes l) (yes h) = (l, h)
      by (yes l) (no n) = absurd (true≢false (sym e ∙ name_to (omega arith)))
      by (no n) d = absurd (true≢false (sym e ∙ name_from (omega arith)))

  pub printable_is : 32 ≤ b → b ≤ 126 → is_printable b ≡ true
  printable_is l h = rw (le-leb 32 b l, le-leb b 126 h)

  -- a byte of a bare label is printable
  pub bare-printable : is_bare b ≡ true → is_printable b ≡ true
  bare-printable = by (is_name b) refl
    where
      by : (t : Bool) → is_name b ≡ t → (t || eqb b 95) ≡ true → is_printable b ≡ true
      by true n e = let bounds = name_bounds n in printable_is (omega arith) (omega arith)
      by false n e = let same = eqb-true b 95 e in printable_is (omega arith) (omega arith)

  -- nor is it a quote
  pub bare_no_quote : is_bare b ≡ true → eqb b 39 ≡ false
  bare_no_quote is = passes_other is_bare b 39 is refl

  -- a byte that stands for itself within quotes is printable, and no quote
  pub plain-printable : is_plain b ≡ true → is_printable b ≡ true
  plain-printable is = ((and-eq-true_iff (is_printable b) (not (eqb b 39))).0 is).0

  pub plain_no_quote : is_plain b ≡ true → eqb b 39 ≡ false
  plain_no_quote is = passes_other is_plain b 39 is refl

  pub plain_of : is_printable b ≡ true → eqb b 39 ≡ false → is_plain b ≡ true
  plain_of is other = rw (is, other)
