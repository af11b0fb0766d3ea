-- `records::widened` meets its contract. The invariant: the numbers passed are copied.
use Rattle.trees.proofs.Stores.{Copied}
use Rattle.records.proofs.widened.Given as goal

abbrev pub invariant-loop-i : goal.invariant-loop-i
invariant-loop-i l = Copied 32 l.r l.wide l.i
