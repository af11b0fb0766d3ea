-- What a piece of reading answers: what it read, with the text that is left and its place, or a refusal.
use Rattle.std.specs.Prelude.{ℕ, List, [], ◌∷◌}

-- what was read, the text that is left and its place; or 01's number and place
pub data Answer (A : Type 0) : Type 0 where
  parsed : A → List ℕ → ℕ → Answer A
  refused : ℕ → ℕ → Answer A

-- "Reading goes from the left and stops at the first fault met": the next piece reads on, a refusal stays
abbrev pub and_then : {A B : Type 0} → Answer A → (A → List ℕ → ℕ → Answer B) → Answer B
and_then (parsed a s p) next = next a s p
and_then (refused number place) next = refused number place

-- nothing that may stand here does: "10 | text ends first" or "3 | byte not allowed here"
abbrev pub unexpected : {A : Type 0} → List ℕ → ℕ → Answer A
unexpected [] p = refused 10 p
unexpected (b ∷ s) p = refused 3 p
