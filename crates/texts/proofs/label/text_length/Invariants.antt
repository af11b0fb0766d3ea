-- `texts::label::text_length` meets its contract. The invariant: the labels passed, of the species in the set, are added.
use Prim.Native.Nat.{◌+◌, ◌*◌, ◌≤◌}
use mathlib.Core.Path.{◌≡◌}
use Rattle.texts.specs.Work.{names_in, labels_in}
use Rattle.texts.proofs.label.text_length.Given as goal

abbrev pub invariant-loop-i : goal.invariant-loop-i
invariant-loop-i l = (l.i ≤ l.n) × (l.total ≡ labels_in (names_in l.n l.table) l.set l.i + 2 * l.m) × (l.total ≤ 62 + 34 * l.i)
