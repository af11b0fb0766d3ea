-- What the program prints, and what `report` promises.
use Rattle.std.specs.Prelude.{ℕ, ◌-◌, ◌≡◌, List, ◌++◌, length, replicate}
use Rattle.roster.specs.Roster.{names}
use Rattle.printing.specs.Texts.{report_bytes}
use Rattle.printing.specs.declared.Report.{Report}
use Rattle.outcomes.specs.Outcome.{printed}
use Rattle.report.specs.Input.{first_line}
use Rattle.report.specs.Program.{program}

-- the output for an input
unfoldable pub output : List ℕ → List ℕ
output input = printed (names (first_line input)) (program input)

-- the promise of `report`: the output's length, and the output with zeros behind it
unfoldable pub Reports : List ℕ → Report → Type 0
Reports input r = r ≡ record { len = length (output input); text = output input ++ replicate (report_bytes - length (output input)) 0 }
