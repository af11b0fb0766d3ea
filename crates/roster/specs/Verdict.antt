-- The refusals of a call, as tests in order, and the reply that they lead to.
use Rattle.std.specs.Prelude.{ℕ, zero, suc, Bool, true, false, List, [], ◌∷◌, ltb, Result, Ok, Err}
use Rattle.faults.specs.Faults.{number as fault_number}
use Rattle.faults.specs.declared.Refusal.{Refusal}
use Rattle.roster.specs.declared.Reply.{Reply}

-- a test that refuses where it finds a fault, with its number and place
pub record Test : Type 0 where
  pub fault : Bool
  pub number : ℕ
  pub place : ℕ

-- what the tests say: the number and place of the first that finds a fault, or 0 and 0
pub record Verdict : Type 0 where
  pub number : ℕ
  pub place : ℕ

-- this test finds a fault, or the later ones are asked
abbrev pub verdict_by : Bool → Test → Verdict → Verdict
verdict_by true t later = record { number = t.number; place = t.place }
verdict_by false t later = later

-- the first fault that the tests find
unfoldable pub verdict : List Test → Verdict
verdict [] = record { number = 0; place = 0 }
verdict (t ∷ l) = verdict_by t.fault t (verdict l)

-- "12 | a lent slice too short | 0": fewer entries than the need
unfoldable pub length_test : ℕ → ℕ → Test
length_test entries need = record { fault = ltb entries need; number = 12; place = 0 }

-- a reply: the value where there is no refusal, "0 for any other value" where there is one
abbrev pub value_by : ℕ → ℕ → ℕ
value_by zero v = v
value_by (suc number) v = 0

-- what the tests say, with the value
abbrev pub reply_of : Verdict → ℕ → Reply
reply_of said v = record { number = said.number; place = said.place; value = value_by said.number v }

-- the verdict that an answer stands for: "0 | done | 0", or the fault's number and its place
abbrev pub said_by : {A : Type 0} → Result A Refusal → Verdict
said_by (Ok v) = record { number = 0; place = 0 }
said_by (Err e) = record { number = fault_number e.fault; place = e.place }
