-- What judging a roster line answers.
use Rattle.std.specs.Prelude.{ℕ, ◌≡◌, Bool, true, false, List, length, Result, Ok, Err}
use Rattle.faults.specs.Faults.{number as fault_number}
use Rattle.faults.specs.declared.Fault.TheVariants.{FaultyRoster}
use Rattle.faults.specs.declared.Refusal.{Refusal}
use Rattle.roster.specs.Roster.{names, faulty, first_fault}
use Rattle.roster.specs.Table.{table}
use Rattle.roster.specs.declared.Reply.{Reply}
use Rattle.roster.specs.declared.Roster.{Roster}

-- "most species": 1 to 16
abbrev pub species_most : ℕ
species_most = 16

-- "0 | done | 0" with a value
abbrev pub done : ℕ → Reply
done v = record { number = 0; place = 0; value = v }

-- a refusal: "A refused call returns .. 0 for any other value"
abbrev pub refusal : ℕ → ℕ → Reply
refusal number place = record { number = number; place = place; value = 0 }

-- "A refused call returns .. 0 for any other value": the fault's number, and its place
abbrev pub refused_by : Refusal → Reply
refused_by e = refusal (fault_number e.fault) e.place

-- the reply of a call: "0 | done | 0" with its value, or its refusal
abbrev pub reply_to : Result ℕ Refusal → Reply
reply_to (Ok v) = done v
reply_to (Err e) = refused_by e

-- at fault: 1 at the place; else how many names there are
abbrev pub judged_by : Bool → ℕ → List ℕ → Reply
judged_by true most line = refusal 1 (first_fault most line)
judged_by false most line = done (length (names line))

-- the promise of `judge`: "1 | roster faulty | first byte at fault", else how many names there are
unfoldable pub Judged : List ℕ → Reply → Type 0
unfolding faulty
Judged line r = r ≡ judged_by (faulty species_most line) species_most line

-- the roster as the layers above have it: how many names and their table, or the first byte at fault
abbrev pub roster_by : Bool → ℕ → List ℕ → Result Roster Refusal
roster_by true most line = Err (record { fault = FaultyRoster; place = first_fault most line })
roster_by false most line = Ok (record { count = length (names line); table = table (names line) })

-- a line judged, with its table; at most so many names
unfoldable pub roster_of : ℕ → List ℕ → Result Roster Refusal
unfolding faulty
roster_of most line = roster_by (faulty most line) most line
