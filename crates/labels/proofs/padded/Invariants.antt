-- The loop keeps: i bytes are decoded, and zeros stand behind them.
use mathlib.Core.Path.{◌≡◌}
use Rattle.labels.specs.Labels.{padded}
use Rattle.labels.proofs.Words.{decoded}
use Rattle.labels.proofs.padded.Given as goal

abbrev pub invariant-loop-i : goal.invariant-loop-i
invariant-loop-i l = l.name ≡ padded (decoded l.text l.at l.i)
