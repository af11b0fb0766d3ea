use Rattle.std.proofs.Common.{refl, arith, rules}
use Rattle.splits.proofs.FallingParts.{step_low}
use Rattle.splits.proofs.SplitChoice.{visited_start, visited_step, visited_end, held_none, held_some}
use Rattle.splits.proofs.best_split.Goals as goal

pub loop-low-init : goal.loop-low-init
loop-low-init c =
    let of = c.of-low-items.ensures in
    rw (c.into_iter-low-iterator.ensures.into_iter_gives, of.all_left) (visited_start c.args.scores.now (search rules) c.requires.bound of.low_alone of.others)

pub better-best-requires-clause-low_part : goal.better-best-requires-clause-low_part
better-best-requires-clause-low_part c =
    step_low (search rules) c.requires.bound c.loop-low.low-iterator c.next.new.self c.loop-low.invariant.walk c.in-Some.ensures.steps

pub loop-low-preserved : goal.loop-low-preserved
loop-low-preserved c =
    visited_step c.loop-low.low-iterator c.next.new.self c.loop-low.invariant (search rules) c.requires.bound c.requires.scored c.in-Some.ensures.steps c.better-best.ensures

pub returns-then-best : goal.returns-then-best
returns-then-best c =
    let v = c.loop-low.invariant in
    visited_end v (search rules) c.requires.bound (let none = c.in-None.ensures.steps in omega arith) (held_none v.small c.if-best.true) tt

pub returns : goal.returns
returns c =
    let v = c.loop-low.invariant in
    visited_end v (search rules) c.requires.bound (let none = c.in-None.ensures.steps in omega arith) refl (held_some v.small c.if-best.false)
