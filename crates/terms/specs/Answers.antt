-- The answer of a search: what its outcome answers, and by the refusal that its tests give (01, "Numbers returned").
use Rattle.std.specs.Prelude.{ℕ, zero, suc, replicate, Result, Ok, Err}
use Rattle.faults.specs.Faults.{number as fault_number}
use Rattle.faults.specs.declared.Refusal.{Refusal}
use Rattle.terms.specs.declared.Found.{Found}
use Rattle.terms.specs.declared.Solution.{Solution}

-- an answer without a tree
abbrev pub without : ℕ → ℕ → Found
without number place = record { number = number; place = place; score = 0; numbers = replicate 32 0 }

-- the answer for an outcome: "0 | done | 0" with the tree, or the fault's number and place: "A refused call returns score 0, .. an all-zero record"
abbrev pub found_to : Result Solution Refusal → Found
found_to (Ok s) = record { number = 0; place = 0; score = s.score; numbers = s.numbers }
found_to (Err e) = without (fault_number e.fault) e.place

-- a refusal before the search: "A refused call returns score 0, .. an all-zero record"
abbrev pub found_or : ℕ → ℕ → Found → Found
found_or zero place found = found
found_or (suc number) place found = record { number = suc number; place = place; score = 0; numbers = replicate 32 0 }
