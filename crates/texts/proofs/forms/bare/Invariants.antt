-- `texts::forms::bare` meets its contract. The invariant: what is left to store is the rest of the name.
use Prim.Native.Nat.{◌+◌}
use mathlib.Core.List.{map}
use lib.ListN.{drop}
use Rattle.labels.specs.Writing.{underscored}
use Rattle.texts.proofs.Storing.{Going}
use Rattle.texts.proofs.forms.bare.Given as goal

abbrev pub invariant-loop-i : goal.invariant-loop-i
invariant-loop-i l = Going l.initial.out l.at (map underscored l.name) l.out (l.at + l.i) (map underscored (drop l.i l.name))
