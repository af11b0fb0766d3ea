-- What the parts of `sheet` ask of one another.
use Rattle.std.specs.Prelude.{ℕ, ◌≡◌, List}
use Rattle.roster.specs.Verdict.{verdict}
use Rattle.weights.specs.declared.Rooting.{Rooting}
use Rattle.sheet.specs.Promise.{sheet_tests}

-- nothing refuses the whole call
abbrev pub Passed : Rooting → ℕ → List ℕ → ℕ → Type 0
Passed rooting n genes count = (verdict (sheet_tests rooting n genes count)).number ≡ 0
