-- What a step of the low parts gives, as they fall.
use Rattle.std.specs.Prelude.{ℕ, ◌+◌, ◌-◌, ◌≤◌, ◌≡◌, bit_and, Option, Some, None}
use Rattle.splits.specs.declared.parts.LowParts.{LowParts}

-- none is left, or the next part of the others, with the lowest species
abbrev pub LowPartSteps : LowParts → Option ℕ → LowParts → Type 0
LowPartSteps s None t = s.left ≡ 0
LowPartSteps s (Some low) t = (1 ≤ s.left) × (low ≡ s.low + t.left) × (t.left ≡ bit_and (s.left - 1) s.rest) × (t.low ≡ s.low) × (t.rest ≡ s.rest)
