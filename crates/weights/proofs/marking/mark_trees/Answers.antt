use Rattle.std.proofs.Common.{length, ap, ◌∙◌, arith}
use Rattle.std.specs.Slice.Iter.{chunks_exact_rest, chunks_exact_size}
use Rattle.std.proofs.lemmas.List.{length_push}
use Rattle.std.proofs.lemmas.Iterator.Consumers.{YieldsList-turn, YieldsList-end}
use Rattle.trees.proofs.Lent.{record_among, length-records_in}
use Rattle.weights.proofs.Chunks.{pieces_lent, piece_turn}
use Rattle.weights.proofs.Shown.{all_start, all_next, all_end}
use Rattle.weights.proofs.marking.mark_trees.Goals as goal

pub loop-g-init : goal.loop-g-init
loop-g-init c = all_start _ _ _ _

pub mark_tree-requires : goal.mark_tree-requires
mark_tree-requires c =
    let s = c.args in
    let t =
    YieldsList-turn
    (pieces_lent 32 (omega arith) s.count s.genes.now _ (ap chunks_exact_size c.into_iter-g-iterator.ensures.into_iter_gives ∙ c.chunks_exact-g-items.ensures.size)
    (ap chunks_exact_rest c.into_iter-g-iterator.ensures.into_iter_gives ∙ c.chunks_exact-g-items.ensures.rest) (omega arith) c.requires.count_in_bounds)
    c.loop-g.yielded _ c.loop-g.yielded_by _ _ c.in-Some.g c.in-Some.is c.next.ensures.steps in
    let g = piece_turn 32 (omega arith) s.count s.genes.now t.0 t.1 in
    rw (c.loop-g.invariant.same, g.1) (c.requires.all_markable _ (record_among (length c.loop-g.yielded) s.count s.genes.now g.0))

pub loop-g-preserved : goal.loop-g-preserved
loop-g-preserved c =
    let s = c.args in
    let t =
    YieldsList-turn
    (pieces_lent 32 (omega arith) s.count s.genes.now _ (ap chunks_exact_size c.into_iter-g-iterator.ensures.into_iter_gives ∙ c.chunks_exact-g-items.ensures.size)
    (ap chunks_exact_rest c.into_iter-g-iterator.ensures.into_iter_gives ∙ c.chunks_exact-g-items.ensures.rest) (omega arith) c.requires.count_in_bounds)
    c.loop-g.yielded _ c.loop-g.yielded_by _ _ c.in-Some.g c.in-Some.is c.next.ensures.steps in
    let g = piece_turn 32 (omega arith) s.count s.genes.now t.0 t.1 in
    rw (length_push c.loop-g.yielded c.in-Some.g) (all_next _ c.loop-g.invariant g.0 (rw g.1 at c.mark_tree.ensures))

pub returns : goal.returns
returns c =
    let s = c.args in
    let e =
    YieldsList-end
    (pieces_lent 32 (omega arith) s.count s.genes.now _ (ap chunks_exact_size c.into_iter-g-iterator.ensures.into_iter_gives ∙ c.chunks_exact-g-items.ensures.size)
    (ap chunks_exact_rest c.into_iter-g-iterator.ensures.into_iter_gives ∙ c.chunks_exact-g-items.ensures.rest) (omega arith) c.requires.count_in_bounds)
    c.loop-g.yielded _ c.loop-g.yielded_by _ _ c.in-None.is c.next.ensures.steps in
    all_end _ c.loop-g.invariant (omega (arith, e.1, length-records_in s.count s.genes.now))
