use Rattle.std.proofs.Common.{arith, rules}
use Rattle.splits.proofs.TieWalk.{summed_start, summed_end, step_room, summed_step}
use Rattle.splits.proofs.tied.tied_splits.Goals as goal

pub loop-low-init : goal.loop-low-init
loop-low-init c =
    let of = c.of-low-items.ensures in
    rw (c.into_iter-low-iterator.ensures.into_iter_gives, of.all_left)
    (summed_start c.args.scores.now c.args.ties.now c.args.least (search rules) c.requires.bound of.low_alone of.others)

pub add_split-count-requires-clause-room : goal.add_split-count-requires-clause-room
add_split-count-requires-clause-room c =
    step_room c.loop-low.low-iterator c.next.new.self c.loop-low.invariant c.requires.a_bound c.requires.bound c.in-Some.ensures.steps c.requires.counted

pub loop-low-preserved : goal.loop-low-preserved
loop-low-preserved c =
    summed_step c.loop-low.low-iterator c.next.new.self c.loop-low.invariant c.requires.a_bound c.requires.bound c.in-Some.ensures.steps c.add_split-count.ensures

pub returns : goal.returns
returns c =
    summed_end c.loop-low.invariant c.requires.a_bound c.requires.bound (let none = c.in-None.ensures.steps in omega arith)
