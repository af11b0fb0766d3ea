-- `sums::add_tree` meets its contract: by the rooting, on the same record of 32-bit numbers.
use Rattle.std.proofs.Common.{arith}
use Rattle.std.proofs.lemmas.List.{map-id}
use Rattle.weights.specs.Subsets.{plus_by, minus_by}
use Rattle.weights.specs.declared.Rooting.TheVariants.{Rooted}
use Rattle.sums.proofs.Grouping.{entered_itself}
use Rattle.sums.proofs.add_tree.Goals as goal

pub add_rooted-requires : goal.add_rooted-requires
add_rooted-requires c =
    rw c.widened-wide.ensures (record { narrow = omega arith; countable = c.requires.countable; entered = entered_itself c.requires.fits })

pub returns-in-Rooted : goal.returns-in-Rooted
returns-in-Rooted c =
    let g = c.args.g.now in
    rw c.in-Rooted.is
    (rw (map-id (plus_by Rooted g), map-id (minus_by Rooted g)) at (rw c.widened-wide.ensures at c.add_rooted.ensures))

pub returns-in-Unrooted : goal.returns-in-Unrooted
returns-in-Unrooted c =
    rw c.in-Unrooted.is (rw c.widened-wide.ensures at c.add_unrooted.ensures)
