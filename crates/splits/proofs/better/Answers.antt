-- `splits::better` meets its contract: one case of the definition for each way out.
use mathlib.Core.Path.{sym}
use native.Mathlib.Omega.{arith}
use Rattle.splits.proofs.LowParts.{low_some}
use Rattle.splits.proofs.Recurrence.{better_no_low, better_no_rest, better_less, better_more}
use Rattle.splits.proofs.SplitChoice.{score-below}
use Rattle.splits.proofs.better.Goals as goal

pub returns-then-x : goal.returns-then-x
returns-then-x c =
    sym (better_no_low _ _ _ _ c.if-x.true)

pub bounds-scores-a : goal.bounds-scores-a
bounds-scores-a c =
    omega (arith, low_some c.requires.low_part)

pub returns-then-y : goal.returns-then-y
returns-then-y c =
    sym (better_no_rest _ _ _ _ c.if-y.true)

pub overflow_add-x : goal.overflow_add-x
overflow_add-x c =
    let less = c.requires.low_part.less in
    let x = score-below (c.requires.scored c.args.low less) c.if-x.false in
    let y = score-below (c.requires.scored _ (omega (arith, low_some c.requires.low_part))) c.if-y.false in
    omega arith

pub returns-then-x-y : goal.returns-then-x-y
returns-then-x-y c =
    sym (better_less _ _ _ _ c.if-x.false c.if-y.false (omega arith))

pub returns : goal.returns
returns c =
    sym (better_more _ _ _ _ c.if-x.false c.if-y.false (omega arith))
