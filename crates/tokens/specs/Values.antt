-- What the bytes of a number are worth, in whole thousandths (#113).
use Rattle.std.specs.Prelude.{ℕ, ◌+◌, ◌-◌, ◌*◌, Bool, true, false, List, [], ◌∷◌, ◌++◌, length, take, drop, replicate, ltb, Option, None, Some}
use Rattle.labels.specs.Bytes.{is_digit, run}

-- "a longer one no value" (#113), any other number whole thousandths
abbrev pub Value : Type 0
Value = Option ℕ

-- "A number of up to three decimals" (#113)
abbrev pub most_decimals : ℕ
most_decimals = 3

-- the digits at the front: of a number's bytes, those before its point
unfoldable pub leading : List ℕ → List ℕ
leading w = take (run is_digit w) w

-- the digits behind the byte that ends these: in a number, behind its point; none where it has none
unfoldable pub decimals : List ℕ → List ℕ
decimals w = leading (drop (run is_digit w + 1) w)

-- the digits behind others that write v: each place counts ten times the one behind it
unfoldable pub written_behind : ℕ → List ℕ → ℕ
written_behind v [] = v
written_behind v (d ∷ ds) = written_behind (10 * v + (d - 48)) ds

-- the number that digits write
unfoldable pub written : List ℕ → ℕ
written ds = written_behind 0 ds

-- decimals, with zeros behind them up to three: tenths, hundredths and thousandths
unfoldable pub filled : List ℕ → List ℕ
filled ds = ds ++ replicate (most_decimals - length ds) 48

-- more than three decimals: "a longer one no value" (#113)
unfoldable pub too_fine : List ℕ → Bool
too_fine w = ltb most_decimals (length (decimals w))

-- none where the number is too fine
abbrev pub value_unless : Bool → ℕ → Value
value_unless true n = None
value_unless false n = Some n

-- the digits times 1000, and the decimals as thousandths; none where no number is written
abbrev pub value_by : Bool → List ℕ → List ℕ → Value
value_by fine [] ds = None
value_by fine (d ∷ w) ds = value_unless fine (1000 * written (d ∷ w) + written (filled ds))

-- "yields whole thousandths" (#113)
unfoldable pub thousandths : List ℕ → Value
thousandths w = value_by (too_fine w) (leading w) (decimals w)
