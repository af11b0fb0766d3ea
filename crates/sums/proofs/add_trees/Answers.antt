use Rattle.std.proofs.Common.{◌≤◌, length, ap, ◌∙◌, arith}
use Rattle.std.specs.Slice.Iter.{chunks_exact_rest, chunks_exact_size}
use Rattle.std.proofs.lemmas.Iterator.Consumers.{YieldsList-turn, YieldsList-end}
use Rattle.std.proofs.lemmas.List.{length_push}
use Rattle.trees.proofs.EqualPieces.{pieces-length}
use Rattle.weights.proofs.Chunks.{pieces_lent}
use Rattle.sums.proofs.RootedChanges.{summable_same}
use Rattle.sums.proofs.TreeChanges.{Turn, turn_of, turn-among, trees_start, trees_next, trees_end}
use Rattle.sums.proofs.add_trees.Goals.{In-Some, In-None}
use Rattle.sums.proofs.add_trees.Goals as goal

-- this turn's gene tree
turn : (c : In-Some) → Turn 32 c.args.count c.args.genes.now (length c.loop-tree.yielded) c.in-Some.tree.now
turn c =
    turn_of 32 c.args.count c.args.genes.now
    (YieldsList-turn
    (pieces_lent 32 (omega arith) c.args.count c.args.genes.now _ (ap chunks_exact_size c.into_iter-tree-iterator.ensures.into_iter_gives ∙ c.chunks_exact-tree-items.ensures.size)
    (ap chunks_exact_rest c.into_iter-tree-iterator.ensures.into_iter_gives ∙ c.chunks_exact-tree-items.ensures.rest) (omega arith) c.requires.count_in_bounds)
    c.loop-tree.yielded _ c.loop-tree.yielded_by _ _ c.in-Some.tree c.in-Some.is c.next.ensures.steps)

-- behind the last
ended : (c : In-None) → c.args.count ≤ length c.loop-tree.yielded
ended c =
    let all =
    YieldsList-end
    (pieces_lent 32 (omega arith) c.args.count c.args.genes.now _ (ap chunks_exact_size c.into_iter-tree-iterator.ensures.into_iter_gives ∙ c.chunks_exact-tree-items.ensures.size)
    (ap chunks_exact_rest c.into_iter-tree-iterator.ensures.into_iter_gives ∙ c.chunks_exact-tree-items.ensures.rest) (omega arith) c.requires.count_in_bounds)
    c.loop-tree.yielded _ c.loop-tree.yielded_by _ _ c.in-None.is c.next.ensures.steps in
    omega (arith, all.1, pieces-length 32 c.args.count c.args.genes.now)

pub loop-tree-init : goal.loop-tree-init
loop-tree-init c =
    trees_start _ _ _ _ _ _

pub add_tree-requires : goal.add_tree-requires
add_tree-requires c =
    summable_same c.loop-tree.invariant.changed.same (c.requires.all_summable _ (turn-among (turn (goal.at.add_tree-requires c).In-Some)))

pub loop-tree-preserved : goal.loop-tree-preserved
loop-tree-preserved c =
    let t = turn (goal.at.loop-tree-preserved c).In-Some in
    rw length_push (trees_next c.loop-tree.invariant t.less (rw t.is at c.add_tree.ensures))

pub returns : goal.returns
returns c =
    trees_end c.loop-tree.invariant (ended c)
