use Rattle.std.proofs.Common.{◌≡◌, ℕ, ◌^◌, ◌<◌, ◌≤◌, List, length, ap, ◌∙◌, arith}
use Rattle.std.specs.Slice.Iter.{chunks_exact_rest, chunks_exact_size}
use Rattle.std.proofs.lemmas.Iterator.Consumers.{YieldsList-turn, YieldsList-end}
use Rattle.std.proofs.lemmas.List.{length_push}
use Rattle.trees.proofs.EqualPieces.{pieces-length}
use Rattle.weights.proofs.Chunks.{pieces_yielded}
use Rattle.trees.specs.Records.{largest, wide_records_in}
use Rattle.weights.specs.Stand.{species_in}
use Rattle.weights.specs.Work.{CountableFor}
use Rattle.weights.proofs.SumOfStand.{taken_wholes}
use Rattle.weights.proofs.Groups.{species-below}
use Rattle.sums.proofs.TreeChanges.{Turn, turn_of, turn-among, tallied_start, tallied_room, tallied_next, tallied_end}
use Rattle.sums.proofs.stand.count_sets.Goals.{In-Some, In-None}
use Rattle.sums.proofs.stand.count_sets.Goals as goal

-- this turn's gene tree
turn : (c : In-Some) → Turn 64 c.args.count c.args.genes.now (length c.loop-g.yielded) c.in-Some.g.now
turn c =
    turn_of 64 c.args.count c.args.genes.now
    (YieldsList-turn
    (pieces_yielded 64 (omega arith) c.args.count c.args.genes.now (ap chunks_exact_size c.into_iter-g-iterator.ensures.into_iter_gives ∙ c.chunks_exact-g-items.ensures.size)
    (ap chunks_exact_rest c.into_iter-g-iterator.ensures.into_iter_gives ∙ c.chunks_exact-g-items.ensures.rest) c.requires.count_in_bounds)
    c.loop-g.yielded _ c.loop-g.yielded_by _ _ c.in-Some.g c.in-Some.is c.next.ensures.steps)

-- behind the last
ended : (c : In-None) → c.args.count ≤ length c.loop-g.yielded
ended c =
    let all =
    YieldsList-end
    (pieces_yielded 64 (omega arith) c.args.count c.args.genes.now (ap chunks_exact_size c.into_iter-g-iterator.ensures.into_iter_gives ∙ c.chunks_exact-g-items.ensures.size)
    (ap chunks_exact_rest c.into_iter-g-iterator.ensures.into_iter_gives ∙ c.chunks_exact-g-items.ensures.rest) c.requires.count_in_bounds)
    c.loop-g.yielded _ c.loop-g.yielded_by _ _ c.in-None.is c.next.ensures.steps in
    omega (arith, all.1, pieces-length 64 c.args.count c.args.genes.now)

countable : (c : In-Some) → CountableFor 32 c.in-Some.g.now
countable c = c.requires.all_countable_for _ (turn-among (turn c))

-- its species have an entry
fits : (groups : List ℕ) (x : ℕ) {r entries : ℕ} → r ≡ species_in groups x → entries ≡ 2 ^ length groups → r < entries
fits groups x e long = omega (arith, species-below groups x)

pub loop-g-init : goal.loop-g-init
loop-g-init c =
    tallied_start _ _ _ _ _

pub bounds-g-last : goal.bounds-g-last
bounds-g-last c =
    let form = (countable (goal.at.bounds-g-last c).In-Some).valid.form in omega arith

pub bounds-lost-all : goal.bounds-lost-all
bounds-lost-all c =
    omega (arith, c.loop-g.invariant.same, fits c.args.species.now.groups.now _ c.entry-all.ensures c.requires.grouped)

pub overflow_add-lost : goal.overflow_add-lost
overflow_add-lost c =
    let t = turn (goal.at.overflow_add-lost c).In-Some in
    let few = c.requires.count_bound in
    let room =
    tallied_room c.loop-g.invariant (c.entry-all.ensures ∙ ap (λ g. species_in c.args.species.now.groups.now (largest g)) t.is) t.less
    (fits c.args.species.now.groups.now _ c.entry-all.ensures c.requires.grouped) c.requires.lost_value in
    omega arith

pub bounds-lost-all-in-loop-g : goal.bounds-lost-all-in-loop-g
bounds-lost-all-in-loop-g c =
    omega (arith, c.loop-g.invariant.same, fits c.args.species.now.groups.now _ c.entry-all.ensures c.requires.grouped)

pub loop-g-preserved : goal.loop-g-preserved
loop-g-preserved c =
    let t = turn (goal.at.loop-g-preserved c).In-Some in
    rw length_push
    (tallied_next c.loop-g.invariant (c.entry-all.ensures ∙ ap (λ g. species_in c.args.species.now.groups.now (largest g)) t.is) t.less
    (fits c.args.species.now.groups.now _ c.entry-all.ensures c.requires.grouped))

pub returns : goal.returns
returns c =
    rw (taken_wholes c.args.species.now.groups.now (wide_records_in c.args.count c.args.genes.now)) at (tallied_end c.loop-g.invariant (ended c))
