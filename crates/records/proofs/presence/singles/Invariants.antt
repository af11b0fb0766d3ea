-- `records::presence::singles` meets its contract. The invariant: every species of s that was passed is there as a set of one.
use Prim.Native.Nat.{ℕ, ◌<◌}
use Rattle.clusters.specs.Sets.{Has, single}
use Rattle.trees.specs.Lists.{Among}
use Rattle.records.proofs.presence.singles.Given as goal

abbrev pub invariant-loop-i : goal.invariant-loop-i
invariant-loop-i l = (k : ℕ) → k < l.i → Has l.s k → Among (single k) l.clusters
