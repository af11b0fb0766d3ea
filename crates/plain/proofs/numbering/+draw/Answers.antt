use Rattle.std.proofs.Common.{ℕ, List, ◌+◌, ◌<◌, ◌≤◌, length, refl, sym, ◌∙◌, arith, rules}
use Rattle.clusters.proofs.Sizes.{size_some}
use Rattle.splits.specs.BinaryTrees.{clusters_in}
use Rattle.splits.proofs.LowParts.{rest_some, low-smaller, rest-smaller}
use Rattle.splits.proofs.StoredClusters.{some_cluster}
use Rattle.plain.specs.Numbering.{tree_of}
use Rattle.plain.proofs.ForkNumbers.{children, others_some, stored-tip, low-room, rest-room, stored-fork}
use Rattle.plain.proofs.numbering.+draw.Goals as goal

-- the tree has a cluster, so that there is room for it
there : (a number stored : ℕ) (drawn : List ℕ) → stored + length (clusters_in (tree_of a number)) ≤ length drawn → stored < length drawn
there a number stored drawn room = omega (arith, some_cluster (tree_of a number))

pub offset_bounds-drawn-stored : goal.offset_bounds-drawn-stored
offset_bounds-drawn-stored t c =
    let inside = there _ _ _ c.args.drawn.now c.requires.number_in_bounds in search rules

pub bounds-drawn-stored : goal.bounds-drawn-stored
bounds-drawn-stored t c = there _ _ _ c.args.drawn.now c.requires.number_in_bounds

pub overflow_add-result : goal.overflow_add-result
overflow_add-result t c =
    let inside = there _ _ _ c.args.drawn.now c.requires.number_in_bounds in search rules

pub returns-then-size-eq1 : goal.returns-then-size-eq1
returns-then-size-eq1 t c =
    stored-tip c.args.drawn.now c.args.stored c.requires.numbered (sym c.size.ensures ∙ c.if-size-eq1.true)

pub part_of-low-requires : goal.part_of-low-requires
part_of-low-requires t c =
    let other = c.if-size-eq1.false in record {
      numbered = c.requires.numbered;
      bound = omega (arith, c.size.ensures, size_some c.requires.numbered.some);
    }

pub overflow_sub-a : goal.overflow_sub-a
overflow_sub-a t c = let less = c.part_of-low.ensures.low_part.less in omega arith

pub trees_on-others-requires : goal.trees_on-others-requires
trees_on-others-requires t c =
    let few = c.requires.numbered.few in
    record { le_a = rest_some c.part_of-low.ensures.low_part; a_bound = omega arith }

pub nonzero_div-number : goal.nonzero_div-number
nonzero_div-number t c = omega (arith, c.trees_on-others.ensures, others_some c.part_of-low.ensures)

pub nonzero_rem-number : goal.nonzero_rem-number
nonzero_rem-number t c = omega (arith, c.trees_on-others.ensures, others_some c.part_of-low.ensures)

pub overflow_add-stored : goal.overflow_add-stored
overflow_add-stored t c =
    let inside = there _ _ _ c.args.drawn.now c.requires.number_in_bounds in search rules

pub draw-next-requires : goal.draw-next-requires
draw-next-requires t c =
    let kids = children c.requires.numbered c.part_of-low.ensures c.trees_on-others.ensures refl refl in
    let less = low-smaller c.part_of-low.ensures.low_part in
    (search rules, (kids.low_numbered, low-room kids c.args.drawn.now c.args.stored c.requires.number_in_bounds))

pub overflow_sub-a-2 : goal.overflow_sub-a-2
overflow_sub-a-2 t c = let less = c.part_of-low.ensures.low_part.less in omega arith

pub draw-requires : goal.draw-requires
draw-requires t c =
    let kids = children c.requires.numbered c.part_of-low.ensures c.trees_on-others.ensures refl refl in
    let less = rest-smaller c.part_of-low.ensures.low_part in
    let room = rest-room kids c.args.drawn.now c.args.stored c.draw-next.ensures c.requires.number_in_bounds in
    (search rules, (kids.rest_numbered, room))

pub returns : goal.returns
returns t c =
    stored-fork (children c.requires.numbered c.part_of-low.ensures c.trees_on-others.ensures refl refl) c.args.drawn.now c.args.stored
    c.draw-next.ensures c.draw.ensures
