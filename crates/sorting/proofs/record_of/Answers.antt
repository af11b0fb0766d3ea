-- `sorting::record_of` meets its contract: the front of the wide record, whose numbers have sixteen bits.
use Prim.Native.Nat.{ℕ}
use mathlib.Core.Path.{ap, ◌∙◌}
use mathlib.Core.List.{List}
use lib.ListN.{take}
use Rattle.sorting.proofs.Narrowing.{wide_enough, front_of_wide}
use Rattle.sorting.proofs.record_of.Goals as goal

pub narrowed-requires : goal.narrowed-requires
narrowed-requires c =
    let all = wide_enough c.args.count c.args.clusters.now c.requires.count_bound c.requires.by_index c.record_of-all.ensures in
    record { in_bounds = all.0; by_index = all.1 }

pub returns : goal.returns
returns c =
    let sorted = c.record_of-all.ensures in
    c.narrowed.ensures ∙ ap (λ (l : List ℕ). take 32 l) sorted ∙ front_of_wide c.args.count c.args.clusters.now c.requires.count_bound
