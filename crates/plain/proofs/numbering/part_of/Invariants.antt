-- `plain::numbering::part_of` meets its contract. The invariant: of the trees from the low part on, the tree stands at the place that is left.
use Prim.Native.Nat.{◌-◌}
use Rattle.plain.proofs.PartWalk.{Tried}
use Rattle.plain.proofs.numbering.part_of.Given as goal

abbrev pub invariant-loop-low : goal.invariant-loop-low
invariant-loop-low l = Tried l.a l.number l.low l.left

abbrev pub decreases-loop-low : goal.decreases-loop-low
decreases-loop-low l = l.a - l.low
