-- Bytes by their kind, and runs of bytes of one kind.
use Rattle.std.specs.Prelude.{ℕ, zero, suc, Bool, true, false, not, ◌&&◌, ◌||◌, List, [], ◌∷◌, eqb, leb}

-- "digits"
abbrev pub is_digit : ℕ → Bool
is_digit b = leb 48 b && leb b 57

-- "ASCII letters and digits", case counting
abbrev pub is_name : ℕ → Bool
is_name b = is_digit b || (leb 65 b && leb b 90) || (leb 97 b && leb b 122)

-- a byte of a bare label: a letter, a digit, or an underscore, which "stands for a blank" (#103)
abbrev pub is_bare : ℕ → Bool
is_bare b = is_name b || eqb b 95

-- "any printable ASCII byte" (#103)
abbrev pub is_printable : ℕ → Bool
is_printable b = leb 32 b && leb b 126

-- a printable byte that is no quote: within quotes it stands for itself
abbrev pub is_plain : ℕ → Bool
is_plain b = is_printable b && not (eqb b 39)

-- a byte with which a label begins: of a bare one, or a quote
abbrev pub is_label : ℕ → Bool
is_label b = is_bare b || eqb b 39

-- "Space, tab, line feed and carriage return"
abbrev pub is_blank : ℕ → Bool
is_blank b = eqb b 32 || eqb b 9 || eqb b 10 || eqb b 13

-- one more where a test is passed, and none where it is not
abbrev pub one_more : Bool → ℕ → ℕ
one_more true n = suc n
one_more false n = zero

-- how many bytes at the front pass the test, up to the first that does not
unfoldable pub run : (ℕ → Bool) → List ℕ → ℕ
run test [] = zero
run test (b ∷ s) = one_more (test b) (run test s)

-- the text begins with this byte
unfoldable pub next_is : ℕ → List ℕ → Bool
next_is b [] = false
next_is b (c ∷ s) = eqb c b

-- the text begins with a byte of a bare label
unfoldable pub next_bare : List ℕ → Bool
next_bare [] = false
next_bare (c ∷ s) = is_bare c

-- the text begins with a label
unfoldable pub next_label : List ℕ → Bool
next_label [] = false
next_label (c ∷ s) = is_label c
