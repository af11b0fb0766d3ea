-- `sums::fill` meets its contract: both tables cleared, changed by the gene trees, transformed, and told.
use Rattle.sums.proofs.Filled.{zeros_of, trees-counted, trees_few, weighable_summed, lost-small, all_told}
use Rattle.sums.proofs.fill.Goals as goal

pub transform-requires-clause-by_index : goal.transform-requires-clause-by_index
transform-requires-clause-by_index c =
    let blank = zeros_of c.clear.ensures.sums_after c.requires.sums_len in
    let blank-too = zeros_of c.clear.ensures.lost_after c.requires.lost_len in
    lost-small (weighable_summed c.requires.weighable) (trees_few c.requires.weighable) blank blank-too c.add_trees.ensures c.count_sets.ensures

pub returns : goal.returns
returns c =
    let blank = zeros_of c.clear.ensures.sums_after c.requires.sums_len in
    let blank-too = zeros_of c.clear.ensures.lost_after c.requires.lost_len in
    all_told (weighable_summed c.requires.weighable) (trees_few c.requires.weighable) blank blank-too c.add_trees.ensures c.count_sets.ensures
    (trees-counted c.requires.weighable)
    (rw (c.transform.ensures.sums_after, c.transform.ensures.lost_after) at c.tell.ensures)
