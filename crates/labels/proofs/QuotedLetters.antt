-- The letters behind a first quote, and the raw bytes that they take: each quote twice.
use Prim.Native.Nat.{ℕ}
use mathlib.Core.Path.{◌≡◌, refl, sym, ap, ◌∙◌}
use mathlib.Core.Bool.{Bool, true, false}
use mathlib.Core.List.{List, [], ◌∷◌, ◌++◌, append-nil, append_cancel_left}
use lib.ListN.{length, drop}
use lib.Dec.{eqb}
use borrow.Author.Tests.{eqb-true}
use Rattle.labels.specs.Bytes.{is_printable, is_plain, next_is}
use Rattle.labels.specs.Spelling.{Quoted}
use Rattle.labels.specs.Spelling.Quoted.{closes, plain, twice}
use Rattle.labels.specs.Labels.{plain_by, half_by, letters_from, twice_by, doubled}
use Rattle.labels.proofs.Bytewise.{All}
use Rattle.labels.proofs.Bytewise.All.{no_byte, a_byte}
use Rattle.labels.proofs.ByteKinds.{plain-printable, plain_of, plain_no_quote}
use Rattle.labels.proofs.Letters.{letters_from_printable}

-- ---- quotes twice

pub doubled-joins : (v w : List ℕ) → doubled (v ++ w) ≡ doubled v ++ doubled w
unfolding doubled
doubled-joins [] w = refl
doubled-joins (b ∷ v) w = by (eqb b 39) (doubled-joins v w)
  where
    by : (q : Bool) → doubled (v ++ w) ≡ doubled v ++ doubled w → twice_by q b (doubled (v ++ w)) ≡ twice_by q b (doubled v) ++ doubled w
    by true h = ap (λ (l : List ℕ). b ∷ b ∷ l) h
    by false h = ap (λ (l : List ℕ). b ∷ l) h

-- what is written with each quote twice is read so, whatever follows it
pub letters-doubled : {w : List ℕ} → All is_printable w → (t : List ℕ) → letters_from false (doubled w ++ t) ≡ w ++ letters_from false t
unfolding letters_from doubled
letters-doubled no_byte t = refl
letters-doubled (a_byte {b = b} {s = w} is all) t = by (eqb b 39) refl (letters-doubled all t)
  where
    by : (q : Bool) → eqb b 39 ≡ q → letters_from false (doubled w ++ t) ≡ w ++ letters_from false t
        → letters_from false (twice_by q b (doubled w) ++ t) ≡ b ∷ w ++ letters_from false t
    by true e h = rw (eqb-true b 39 e) (ap (λ (l : List ℕ). 39 ∷ l) h)
    by false e h = rw (is, e) (ap (λ (l : List ℕ). b ∷ l) h)

-- ---- the letters of a text

-- the text from the quote that stood just before, where one did
abbrev from : Bool → List ℕ → List ℕ
from true s = 39 ∷ s
from false s = s

-- a text begins with its letters, each quote twice
front-letters : (half : Bool) (s : List ℕ) → from half s ≡ doubled (letters_from half s) ++ drop (length (doubled (letters_from half s))) (from half s)
unfolding letters_from doubled
front-letters false [] = refl
front-letters true [] = refl
front-letters false (b ∷ s) = by (is_plain b) refl (eqb b 39) refl (front-letters false s) (front-letters true s)
  where
    by : (t : Bool) → is_plain b ≡ t → (q : Bool) → eqb b 39 ≡ q
        → s ≡ doubled (letters_from false s) ++ drop (length (doubled (letters_from false s))) s
        → 39 ∷ s ≡ doubled (letters_from true s) ++ drop (length (doubled (letters_from true s))) (39 ∷ s)
        → b ∷ s ≡ doubled (plain_by t q b (letters_from false s) (letters_from true s))
        ++ drop (length (doubled (plain_by t q b (letters_from false s) (letters_from true s)))) (b ∷ s)
    by true is q e more halved = rw (plain_no_quote b is) (ap (λ (l : List ℕ). b ∷ l) more)
    by false is true e more halved = rw (eqb-true b 39 e) halved
    by false is false e more halved = refl
front-letters true (b ∷ s) = by (eqb b 39) refl (front-letters false s)
  where
    by : (q : Bool) → eqb b 39 ≡ q → s ≡ doubled (letters_from false s) ++ drop (length (doubled (letters_from false s))) s
        → 39 ∷ b ∷ s ≡ doubled (half_by q (letters_from false s)) ++ drop (length (doubled (half_by q (letters_from false s)))) (39 ∷ b ∷ s)
    by true e more = rw (eqb-true b 39 e) (ap (λ (l : List ℕ). 39 ∷ 39 ∷ l) more)
    by false e more = refl

-- what stands behind the letters of a text
abbrev pub behind_letters : List ℕ → List ℕ
behind_letters s = drop (length (doubled (letters_from false s))) s

pub letters-front : (s : List ℕ) → s ≡ doubled (letters_from false s) ++ behind_letters s
letters-front s = front-letters false s

-- behind its letters stands no letter
pub no_letter_behind : (s : List ℕ) → letters_from false (behind_letters s) ≡ []
no_letter_behind s =
    let w = letters_from false s in
    append_cancel_left w (letters_from false (behind_letters s)) []
    (sym (letters-doubled (letters_from_printable false s) (behind_letters s)) ∙ (ap (letters_from false) (sym (letters-front s)) ∙ sym (append-nil w)))

-- a quote that no quote follows is no letter
pub quote_no_letter : (s : List ℕ) → next_is 39 s ≡ false → letters_from false (39 ∷ s) ≡ []
unfolding letters_from next_is
quote_no_letter [] e = refl
quote_no_letter (c ∷ s) e = rw e refl

-- ---- the rules

pub quoted-splits : {w s rest : List ℕ} → Quoted w s rest → s ≡ doubled w ++ 39 ∷ rest
unfolding doubled
quoted-splits closes = refl
quoted-splits (plain {b = b} is q) = rw (plain_no_quote b is) (ap (λ (l : List ℕ). b ∷ l) (quoted-splits q))
quoted-splits (twice q) = ap (λ (l : List ℕ). 39 ∷ 39 ∷ l) (quoted-splits q)

pub quoted-printable : {w s rest : List ℕ} → Quoted w s rest → All is_printable w
quoted-printable closes = no_byte
quoted-printable (plain {b = b} is q) = a_byte (plain-printable b is) (quoted-printable q)
quoted-printable (twice q) = a_byte refl (quoted-printable q)

pub quoted_of : {w : List ℕ} → All is_printable w → (rest : List ℕ) → Quoted w (doubled w ++ 39 ∷ rest) rest
unfolding doubled
quoted_of no_byte rest = closes
quoted_of (a_byte {b = b} {s = w} is all) rest = by (eqb b 39) refl (quoted_of all rest)
  where
    by : (q : Bool) → eqb b 39 ≡ q → Quoted w (doubled w ++ 39 ∷ rest) rest → Quoted (b ∷ w) (twice_by q b (doubled w) ++ 39 ∷ rest) rest
    by true e h = rw (eqb-true b 39 e) (twice h)
    by false e h = plain (plain_of b is e) h
