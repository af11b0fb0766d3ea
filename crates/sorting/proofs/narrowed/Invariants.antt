-- `sorting::narrowed` meets its contract. The invariant: the numbers passed are copied.
use Rattle.trees.proofs.Stores.{Copied}
use Rattle.sorting.proofs.narrowed.Given as goal

abbrev pub invariant-loop-i : goal.invariant-loop-i
invariant-loop-i l = Copied 32 l.numbers l.narrow l.i
