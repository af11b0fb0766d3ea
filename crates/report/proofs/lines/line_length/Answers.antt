-- The closure's test is that of the line.
use Rattle.std.proofs.Common.{not, eqb, rules}
use Rattle.report.specs.Input.{line_length}
use Rattle.report.proofs.lines.line_length.Goals as goal

pub returns : goal.returns
unfolding line_length
returns c = c.run.ensures (λ b. not (eqb b 10)) (λ b r h. search rules)
