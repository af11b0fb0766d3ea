use Rattle.std.proofs.Common.{◌≤◌, length, ap, ◌∙◌, arith}
use Rattle.std.specs.Slice.Iter.{chunks_exact_rest, chunks_exact_size}
use Rattle.std.proofs.lemmas.Iterator.Consumers.{YieldsList-turn, YieldsList-end}
use Rattle.std.proofs.lemmas.List.{length_push}
use Rattle.trees.proofs.EqualPieces.{pieces-length}
use Rattle.weights.proofs.Chunks.{pieces_lent}
use Rattle.trees.specs.Records.{largest}
use Rattle.sums.specs.Work.{Summable}
use Rattle.sums.proofs.TreeChanges.{Turn, turn_of, turn-among, tallied_start, tallied_room, tallied_next, tallied_end}
use Rattle.sums.proofs.count_sets.Goals.{In-Some, In-None}
use Rattle.sums.proofs.count_sets.Goals as goal

-- this turn's gene tree
turn : (c : In-Some) → Turn 32 c.args.count c.args.genes.now (length c.loop-g.yielded) c.in-Some.g.now
turn c =
    turn_of 32 c.args.count c.args.genes.now
    (YieldsList-turn
    (pieces_lent 32 (omega arith) c.args.count c.args.genes.now _ (ap chunks_exact_size c.into_iter-g-iterator.ensures.into_iter_gives ∙ c.chunks_exact-g-items.ensures.size)
    (ap chunks_exact_rest c.into_iter-g-iterator.ensures.into_iter_gives ∙ c.chunks_exact-g-items.ensures.rest) (omega arith) c.requires.count_in_bounds)
    c.loop-g.yielded _ c.loop-g.yielded_by _ _ c.in-Some.g c.in-Some.is c.next.ensures.steps)

-- behind the last
ended : (c : In-None) → c.args.count ≤ length c.loop-g.yielded
ended c =
    let all =
    YieldsList-end
    (pieces_lent 32 (omega arith) c.args.count c.args.genes.now _ (ap chunks_exact_size c.into_iter-g-iterator.ensures.into_iter_gives ∙ c.chunks_exact-g-items.ensures.size)
    (ap chunks_exact_rest c.into_iter-g-iterator.ensures.into_iter_gives ∙ c.chunks_exact-g-items.ensures.rest) (omega arith) c.requires.count_in_bounds)
    c.loop-g.yielded _ c.loop-g.yielded_by _ _ c.in-None.is c.next.ensures.steps in
    omega (arith, all.1, pieces-length 32 c.args.count c.args.genes.now)

summable : (c : In-Some) → Summable (length c.args.lost.now) c.in-Some.g.now
summable c = c.requires.all_summable _ (turn-among (turn c))

pub loop-g-init : goal.loop-g-init
loop-g-init c =
    tallied_start _ _ _ _ _

pub bounds-g-g : goal.bounds-g-g
bounds-g-g c =
    let form = (summable (goal.at.bounds-g-g c).In-Some).countable.valid.form in omega arith

pub bounds-lost-all : goal.bounds-lost-all
bounds-lost-all c =
    omega (arith, c.loop-g.invariant.same, (summable (goal.at.bounds-lost-all c).In-Some).fits)

pub overflow_add-lost : goal.overflow_add-lost
overflow_add-lost c =
    let here = (goal.at.overflow_add-lost c).In-Some in
    let few = c.requires.count_bound in
    let room = tallied_room c.loop-g.invariant (ap largest (turn here).is) (turn here).less (summable here).fits c.requires.lost_value in
    omega arith

pub bounds-lost-all-in-loop-g : goal.bounds-lost-all-in-loop-g
bounds-lost-all-in-loop-g c =
    omega (arith, c.loop-g.invariant.same, (summable (goal.at.bounds-lost-all-in-loop-g c).In-Some).fits)

pub loop-g-preserved : goal.loop-g-preserved
loop-g-preserved c =
    let here = (goal.at.loop-g-preserved c).In-Some in
    rw length_push (tallied_next c.loop-g.invariant (ap largest (turn here).is) (turn here).less (summable here).fits)

pub returns : goal.returns
returns c =
    tallied_end c.loop-g.invariant (ended c)
