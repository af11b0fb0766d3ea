-- What the functions that scan a quoted label ask of one another: the raw bytes of a letter, and the label that a quote closes.
use Rattle.std.specs.Prelude.{ℕ, zero, suc, ◌+◌, Bool, true, false, List, [], ◌∷◌, eqb, Option, None, Some, Result, Ok, Err}
use Rattle.faults.specs.declared.Fault.TheVariants.{StrayByte}
use Rattle.faults.specs.declared.Refusal.{Refusal}
use Rattle.labels.specs.Bytes.{is_plain, next_is}
use Rattle.labels.specs.declared.Scanned.{Scanned}

-- by the byte at hand, and whether a quote follows it: how many raw bytes its letter takes
abbrev pub width_by : Bool → Bool → Bool → Option ℕ
width_by true quote twice = Some 1
width_by false true true = Some 2
width_by false true false = None
width_by false false twice = None

-- within quotes, the raw bytes of the letter at the front, if one stands there
unfoldable pub width_of : List ℕ → Option ℕ
width_of [] = None
width_of (b ∷ s) = width_by (is_plain b) (eqb b 39) (next_is 39 s)

-- the quoted label of n letters that a quote at this place closes
abbrev pub closed_at : ℕ → List ℕ → ℕ → Result Scanned Refusal
closed_at zero name at = Err (record { fault = StrayByte; place = at })
closed_at (suc n) name at = Ok (record { next = at + 1; name = name })
