-- `weights::wide::individuals_of` meets its contract. The invariant: what is joined are the individuals of the species of a before the i-th.
use Rattle.std.proofs.Common.{◌≡◌, take}
use Rattle.weights.specs.Stand.{individuals_of}
use Rattle.weights.proofs.wide.individuals_of.Given as goal

abbrev pub invariant-loop-i : goal.invariant-loop-i
invariant-loop-i l = l.all ≡ individuals_of (take l.i l.groups) l.a
