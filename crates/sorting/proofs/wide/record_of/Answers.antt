-- `sorting::wide::record_of` meets its contract: the clusters behind their count, sorted, before zeros.
use Rattle.std.proofs.Common.{take, length-take-le, rules}
use Rattle.std.proofs.lemmas.List.Sorted.{IsNonDecreasingBy-from_sort_by}
use Rattle.sorting.proofs.OneOrder.{sorted_by, wide_record}
use Rattle.sorting.proofs.wide.record_of.Goals as goal

pub returns : goal.returns
returns c =
    let cs = take c.args.count c.args.clusters.now in
    wide_record c.args.count cs (length-take-le c.args.count c.args.clusters.now c.requires.count_in_bounds)
    (sorted_by cs c.sort_unstable_by.new.self
    (rw c.copy_from_slice.ensures.after at c.sort_unstable_by.ensures.permutation)
    (IsNonDecreasingBy-from_sort_by (λ x. x) _ c.sort_unstable_by.ensures.sorted (λ a r q k. search rules)))
