-- The loop keeps: the value is what the first i digits write.
use mathlib.Core.Path.{◌≡◌}
use lib.ListN.{take, drop}
use Rattle.tokens.specs.Values.{written}
use Rattle.tokens.proofs.value.written.Given as goal

abbrev pub invariant-loop-i : goal.invariant-loop-i
invariant-loop-i l = l.value ≡ written (take l.i (drop l.at l.bytes))
