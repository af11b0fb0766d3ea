use Rattle.std.proofs.Common.{◌≤◌, length, sym, ap, ◌∙◌, arith}
use Rattle.std.specs.Slice.Iter.{chunks_exact_rest, chunks_exact_size}
use Rattle.std.proofs.lemmas.Iterator.Consumers.{YieldsList-turn, YieldsList-end}
use Rattle.std.proofs.lemmas.List.{length_push}
use Rattle.trees.proofs.EqualPieces.{pieces-length}
use Rattle.weights.proofs.Chunks.{pieces_yielded}
use Rattle.trees.specs.Records.{wide_records_in}
use Rattle.weights.specs.Subsets.{plus_by, minus_by}
use Rattle.weights.specs.declared.Rooting.TheVariants.{Rooted}
use Rattle.weights.proofs.SumOfStand.{taken-gathered}
use Rattle.sums.proofs.Grouping.{entered_species}
use Rattle.sums.proofs.TreeChanges.{Turn, turn_of, turn-among, trees_start, trees_next, trees_end}
use Rattle.sums.proofs.stand.add_trees.Goals.{In-Some, In-None}
use Rattle.sums.proofs.stand.add_trees.Goals as goal

-- this turn's gene tree
turn : (c : In-Some) → Turn 64 c.args.count c.args.genes.now (length c.loop-g.yielded) c.in-Some.g.now
turn c =
    turn_of 64 c.args.count c.args.genes.now
    (YieldsList-turn
    (pieces_yielded 64 (omega arith) c.args.count c.args.genes.now (ap chunks_exact_size c.into_iter-g-iterator.ensures.into_iter_gives ∙ c.chunks_exact-g-items.ensures.size)
    (ap chunks_exact_rest c.into_iter-g-iterator.ensures.into_iter_gives ∙ c.chunks_exact-g-items.ensures.rest) c.requires.count_in_bounds)
    c.loop-g.yielded _ c.loop-g.yielded_by _ _ c.in-Some.g c.in-Some.is c.next.ensures.steps)

-- behind the last
ended : (c : In-None) → c.args.count ≤ length c.loop-g.yielded
ended c =
    let all =
    YieldsList-end
    (pieces_yielded 64 (omega arith) c.args.count c.args.genes.now (ap chunks_exact_size c.into_iter-g-iterator.ensures.into_iter_gives ∙ c.chunks_exact-g-items.ensures.size)
    (ap chunks_exact_rest c.into_iter-g-iterator.ensures.into_iter_gives ∙ c.chunks_exact-g-items.ensures.rest) c.requires.count_in_bounds)
    c.loop-g.yielded _ c.loop-g.yielded_by _ _ c.in-None.is c.next.ensures.steps in
    omega (arith, all.1, pieces-length 64 c.args.count c.args.genes.now)

pub loop-g-init : goal.loop-g-init
loop-g-init c =
    trees_start _ _ _ _ _ _

pub add_rooted-requires-clause-countable : goal.add_rooted-requires-clause-countable
add_rooted-requires-clause-countable c =
    c.requires.all_countable_for _ (turn-among (turn (goal.at.add_rooted-requires-clause-countable c).In-Some))

pub add_rooted-requires-clause-entered : goal.add_rooted-requires-clause-entered
add_rooted-requires-clause-entered c =
    entered_species c.args.species.now.groups.now (c.loop-g.invariant.changed.same ∙ c.requires.grouped)

pub loop-g-preserved : goal.loop-g-preserved
loop-g-preserved c =
    let t = turn (goal.at.loop-g-preserved c).In-Some in
    rw length_push (trees_next c.loop-g.invariant t.less (rw t.is at c.add_rooted.ensures))

pub returns : goal.returns
returns c =
    let groups = c.args.species.now.groups.now in
    let genes = wide_records_in c.args.count c.args.genes.now in
    rw (sym (taken-gathered groups (λ g. plus_by Rooted g) genes), sym (taken-gathered groups (λ g. minus_by Rooted g) genes))
    (trees_end c.loop-g.invariant (ended c))
