-- `plain::numbering::tree_of` meets its contract: the clusters that `draw` stores, put into a record.
use Prim.Native.Nat.{ℕ}
use mathlib.Core.Path.{ap, ◌∙◌}
use mathlib.Core.List.{List}
use native.Mathlib.Omega.{arith}
use lib.ListN.{replicate}
use Rattle.trees.specs.Records.{record_of}
use Rattle.plain.proofs.ForkNumbers.{few_clusters, front, front_fits, front_below}
use Rattle.plain.proofs.numbering.tree_of.Goals as goal

-- the numbers that are lent to `draw`
abbrev zeros : List ℕ
zeros = replicate 32 0

pub draw-count-requires : goal.draw-count-requires
draw-count-requires c =
    let numbered = c.requires in record {
      numbered = numbered;
      number_in_bounds = omega (arith, few_clusters numbered);
    }

pub record_of-requires : goal.record_of-requires
record_of-requires c =
    let numbered = c.requires in
    let stored = c.draw-count.ensures in
    let fits = front_fits numbered zeros (omega arith) stored in
    record {
      count_bound = fits.0;
      count_in_bounds = fits.1;
      by_index = front_below numbered zeros (omega arith) stored;
    }

pub returns : goal.returns
returns c =
    let numbered = c.requires in
    c.record_of.ensures ∙ ap record_of (front numbered zeros (omega arith) c.draw-count.ensures)
