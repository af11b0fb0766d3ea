-- `checked::distance` meets its contract: what is solved has the least score, and the tree's is no less.
use native.Mathlib.Omega.{arith}
use Rattle.counts.proofs.LeastScore.{no-refusal, solved-under, distances}
use Rattle.counts.proofs.Passing.{solvable}
use Rattle.counts.proofs.checked.distance.Goals as goal

pub solve-requires : goal.solve-requires
solve-requires c = solvable c.args.trees.now c.requires.scores_long c.requires.splits_long

pub returns-in_err-least : goal.returns-in_err-least
returns-in_err-least c =
    let shaped = c.args.trees.now.shaped in
    absurd (no-refusal _ shaped.some_species shaped.few_species c.in_err-least.field-0.0 c.in_err-least.ensures)

pub overflow_sub-result : goal.overflow_sub-result
overflow_sub-result c =
    let shaped = c.args.trees.now.shaped in
    let under = solved-under _ shaped.some_species shaped.few_species c.in_ok-least.ensures c.args.numbers.now c.requires.binary_species in
    omega (arith, c.score-score.ensures)

pub returns : goal.returns
returns c =
    let shaped = c.args.trees.now.shaped in
    distances _ shaped.some_species shaped.few_species c.in_ok-least.ensures c.score-score.ensures
