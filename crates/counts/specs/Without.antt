-- A text without its counts (#114): each `:` that stands outside quotes goes, with the digits behind it, and every other byte stays.
use Rattle.std.specs.Prelude.{ℕ, Bool, true, false, List, [], ◌∷◌, eqb}
use Rattle.labels.specs.Bytes.{is_digit}

-- where a text goes on behind a byte: outside quotes, within them, or in a count
pub data Part : Type 0 where
  outside : Part
  quoted : Part
  counted : Part

-- outside, a quote opens and `:` begins a count
abbrev pub behind_outside : Bool → Bool → Part
behind_outside true colon = quoted
behind_outside false true = counted
behind_outside false false = outside

-- within quotes, a quote closes; of two quotes that stand for one, the second opens again
abbrev pub behind_quoted : Bool → Part
behind_quoted true = outside
behind_quoted false = quoted

-- a count goes on with digits, and ends with any other byte
abbrev pub behind_counted : Bool → Part → Part
behind_counted true other = counted
behind_counted false other = other

-- the part behind a byte, by the part before it
abbrev pub behind : Part → ℕ → Part
behind outside b = behind_outside (eqb b 39) (eqb b 58)
behind quoted b = behind_quoted (eqb b 39)
behind counted b = behind_counted (is_digit b) (behind_outside (eqb b 39) (eqb b 58))

-- a byte of a count goes, any other stays
abbrev pub kept_by : Part → ℕ → List ℕ → List ℕ
kept_by outside b l = b ∷ l
kept_by quoted b l = b ∷ l
kept_by counted b l = l

-- what is left of a text that begins in a part
unfoldable pub without_from : Part → List ℕ → List ℕ
without_from part [] = []
without_from part (b ∷ s) = kept_by (behind part b) b (without_from (behind part b) s)

-- the whole text without them: "Our writer gets a form with these counts" (#114)
abbrev pub without_counts : List ℕ → List ℕ
without_counts s = without_from outside s
