-- Which bytes decide a refusal of a tree text (01, "Reading goes from the left"; #103, #113).
use Rattle.std.specs.Prelude.{ℕ, suc, ◌+◌, ◌≡◌, Bool, true, false, ◌&&◌, ◌||◌, drop, eqb}
use mathlib.Core.List.{List, [], ◌∷◌, tail}
use Rattle.labels.specs.Bytes.{is_bare, is_digit, run, next_is, next_bare}
use Rattle.labels.specs.Labels.{Told, told}
use Rattle.labels.specs.Labels.Told.{ended, faulty}

-- the raw bytes of a label that ends
abbrev pub bytes_of : Told → ℕ
bytes_of (ended n) = n
bytes_of (faulty number d) = 0

-- the text begins with a digit
unfoldable pub next_digit : List ℕ → Bool
next_digit [] = false
next_digit (b ∷ s) = is_digit b

-- a point and the digits behind it, if a point follows
abbrev pub fraction_length : Bool → List ℕ → ℕ
fraction_length true s = 1 + run is_digit (tail s)
fraction_length false s = 0

-- the bytes of the number that stands at the front, "digits, or digits, a point and digits", where digits stand behind its point
unfoldable pub number_length : List ℕ → ℕ
number_length s = run is_digit s + fraction_length (next_is 46 (drop (run is_digit s) s)) (drop (run is_digit s) s)

-- by the number: a leaf's name, refused by 5 or 6, is decided when its label ends, a support, refused by 18, when its number ends;
-- a sixteenth byte that is a quote takes two; else the byte at fault is the last
abbrev pub border_by : Bool → Bool → Bool → ℕ → List ℕ → ℕ
border_by true number twice d s = d + bytes_of (told (drop d s))
border_by false true twice d s = d + number_length (drop d s)
border_by false false true d s = suc (suc d)
border_by false false false d s = suc d

-- the place behind the bytes that decide a refusal by this number at the byte d
unfoldable pub border : ℕ → List ℕ → ℕ → ℕ
border number s d = border_by (eqb number 5 || eqb number 6) (eqb number 18) (eqb number 4 && next_is 39 (drop d s)) d s

-- what is put behind a place goes on with a label only where the text does; `before` is the byte before the place
pub record LabelAlike (before : ℕ) (more behind : List ℕ) : Type 0 where
  pub bare : is_bare before ≡ true → next_bare more ≡ true → next_bare behind ≡ true
  pub quote : eqb before 39 ≡ true → next_is 39 more ≡ true → next_is 39 behind ≡ true

-- and with the digits of a number
abbrev pub DigitsAlike : ℕ → List ℕ → List ℕ → Type 0
DigitsAlike before more behind = is_digit before ≡ true → next_digit more ≡ true → next_digit behind ≡ true

-- and with either
pub record GoesOnAlike (before : ℕ) (more behind : List ℕ) : Type 0 where
  pub label : LabelAlike before more behind
  pub digits : DigitsAlike before more behind

-- whose refusal looks at whether a label goes on behind the bytes that decide it, t being the text from its place on:
-- 5 and 6, for a leaf's name is judged when its label ends, and 3 at a quote, for "an empty quoted label is 3 at its closing quote" (#103)
abbrev pub asks_label : ℕ → List ℕ → Bool
asks_label number t = (eqb number 5 || eqb number 6) || (eqb number 3 && next_is 39 t)

-- what is put behind the bytes that decide a refusal goes on alike as far as it asks for that: with a label, or,
-- where it is 18, for a support is judged "when its run ends" (#113), with a number
pub record AlikeWhereAsked (number : ℕ) (t : List ℕ) (before : ℕ) (more behind : List ℕ) : Type 0 where
  pub label : asks_label number t ≡ true → LabelAlike before more behind
  pub digits : number ≡ 18 → DigitsAlike before more behind
