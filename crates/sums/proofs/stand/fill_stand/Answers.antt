-- `sums::stand::fill_stand` meets its contract: both tables cleared, changed by the gene trees, transformed, and told.
use Rattle.sums.proofs.Filled.{zeros_of, stand-trees-counted, stand-trees_few, stand-weighable_summed, lost-small, all_told}
use Rattle.sums.proofs.stand.fill_stand.Goals as goal

pub transform-requires-clause-by_index : goal.transform-requires-clause-by_index
transform-requires-clause-by_index c =
    let stand = c.requires.stand_weighable in
    let blank = zeros_of c.clear.ensures.sums_after c.requires.sums_len in
    let blank-too = zeros_of c.clear.ensures.lost_after c.requires.lost_len in
    lost-small (stand-weighable_summed stand) (stand-trees_few stand) blank blank-too c.add_trees.ensures c.count_sets.ensures

pub returns : goal.returns
returns c =
    let stand = c.requires.stand_weighable in
    let blank = zeros_of c.clear.ensures.sums_after c.requires.sums_len in
    let blank-too = zeros_of c.clear.ensures.lost_after c.requires.lost_len in
    all_told (stand-weighable_summed stand) (stand-trees_few stand) blank blank-too c.add_trees.ensures c.count_sets.ensures (stand-trees-counted stand)
    (rw (c.transform.ensures.sums_after, c.transform.ensures.lost_after) at c.tell.ensures)
