-- `texts::forms::doubled` meets its contract. The invariant: what is left to store is the rest of the name, with each quote twice.
use lib.ListN.{drop}
use Rattle.labels.specs.Labels.{doubled}
use Rattle.texts.proofs.Storing.{Going}
use Rattle.texts.proofs.forms.doubled.Given as goal

abbrev pub invariant-loop-b : goal.invariant-loop-b
invariant-loop-b l = Going l.initial.out l.at (doubled l.name) l.out l.end (doubled (drop l.b-index l.name))
