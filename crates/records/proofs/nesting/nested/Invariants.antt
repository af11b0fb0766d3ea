-- `records::nesting::nested` meets its contract. The invariants: every cluster passed agrees with all behind it, and the present one with those passed.
use Prim.Native.Nat.{ℕ, ◌<◌}
use lib.ListN.{get_or}
use Rattle.trees.specs.Records.{Nested}
use Rattle.records.proofs.Pairs.{AgreesBehind}
use Rattle.records.proofs.nesting.nested.Given as goal

abbrev pub invariant-loop-j : goal.invariant-loop-j
invariant-loop-j l = (y : ℕ) → y < l.j → l.i < y → Nested (get_or l.clusters l.i 0) (get_or l.clusters y 0)

abbrev pub invariant-loop-i : goal.invariant-loop-i
invariant-loop-i l = (x : ℕ) → x < l.i → AgreesBehind l.clusters x
