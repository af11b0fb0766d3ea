-- `sums::seen::Species::entry` meets its contract. The invariant: what is joined are the species before the i-th that have an individual in x.
use Rattle.std.proofs.Common.{◌≡◌, take}
use Rattle.weights.specs.Stand.{species_in}
use Rattle.sums.proofs.seen.SpeciesSeen.entry.Given as goal

abbrev pub invariant-loop-i : goal.invariant-loop-i
invariant-loop-i l = l.met ≡ species_in (take l.i l.self.groups.now) l.x
