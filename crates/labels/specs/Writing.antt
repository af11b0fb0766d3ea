-- How a name is written (#103): "names of letters, digits and blanks bare, blanks as underscores, and quotes others".
use Rattle.std.specs.Prelude.{ℕ, ◌≤◌, ◌<◌, ◌≡◌, Bool, true, false, ◌&&◌, ◌||◌, List, [], ◌∷◌, ◌++◌, map, length, get_or, eqb}
use Rattle.labels.specs.Bytes.{is_name, is_printable}
use Rattle.labels.specs.Labels.{label_bytes, doubled}

-- each byte is printable
abbrev pub Printable : List ℕ → Type 0
Printable w = (k : ℕ) → k < length w → is_printable (get_or w k 0) ≡ true

-- "Names are 1 to 15 printable bytes decoded" (#103)
pub record Name (w : List ℕ) : Type 0 where
  pub some : 1 ≤ length w
  pub short : length w ≤ label_bytes
  pub printable : Printable w

-- "letters, digits and blanks" (#103)
abbrev pub is_free : ℕ → Bool
is_free b = is_name b || eqb b 32

-- "names of letters, digits and blanks" (#103): they have no other byte
unfoldable pub may_be_bare : List ℕ → Bool
may_be_bare [] = true
may_be_bare (b ∷ w) = is_free b && may_be_bare w

-- an underscore for a blank, else the byte itself
abbrev pub score_for : Bool → ℕ → ℕ
score_for true b = 95
score_for false b = b

-- "blanks as underscores" (#103)
abbrev pub underscored : ℕ → ℕ
underscored b = score_for (eqb b 32) b

-- bare, or between quotes with each quote twice
abbrev pub written_by : Bool → List ℕ → List ℕ
written_by true w = map underscored w
written_by false w = 39 ∷ doubled w ++ 39 ∷ []

-- the label of a name
unfoldable pub label_of : List ℕ → List ℕ
label_of w = written_by (may_be_bare w) w
