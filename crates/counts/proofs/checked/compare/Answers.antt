use mathlib.Core.Path.{◌≡◌, sym, ◌∙◌}
use native.Mathlib.Omega.{arith}
use Rattle.std.proofs.Common.{ℕ}
use Rattle.std.proofs.lemmas.List.{length-take, get_or-take}
use lib.ListN.{get_or}
use Rattle.counts.specs.Promise.{weight_in, is_right}
use Rattle.counts.proofs.Comparing.{compared_start, Turned, turned, none_left, compared-wrong, compared_right}
use Rattle.counts.proofs.checked.compare.Goals.{After-is_right}
use Rattle.counts.proofs.checked.compare.Goals as goal

-- `length-take` and `get_or-take` say the same of a walk over a front part of the clusters: only what it leaves out is then refused, at `returns`

-- what the turn makes of its node
turn :
    (c : After-is_right) → let start = c.args in
    Turned (weight_in start.trees.now.genes.now start.trees.now.count) start.text.now start.start start.found.now c.loop-a.a-index c.next_end-end.result
turn c = turned c.loop-a.invariant (omega (arith, length-take {A = ℕ})) _ c.next_end-end.ensures

-- whether its count is right, by the weight of its cluster over rooted gene trees
right :
    (c : After-is_right) → let start = c.args in
    c.is_right.result
    ≡ is_right (weight_in start.trees.now.genes.now start.trees.now.count (get_or start.found.now c.loop-a.a-index 0)) c.next_end-end.result.count
right c = grind (arith, length-take, get_or-take)

pub loop-a-init : goal.loop-a-init
loop-a-init c =
    compared_start _ _ _ _ c.requires

pub returns-then-not-is_right : goal.returns-then-not-is_right
returns-then-not-is_right c =
    compared-wrong _ _ _ _ _ _ _ ((turn (goal.at.returns-then-not-is_right c).After-is_right).wrong (sym (right (goal.at.returns-then-not-is_right c).After-is_right) ∙ c.if-not-is_right.true)) c.at.ensures

pub loop-a-preserved : goal.loop-a-preserved
loop-a-preserved c =
    (turn (goal.at.loop-a-preserved c).After-is_right).right (sym (right (goal.at.loop-a-preserved c).After-is_right) ∙ c.if-not-is_right.false)

pub returns : goal.returns
returns c =
    compared_right _ _ _ _ _ (none_left c.loop-a.invariant (omega (arith, length-take {A = ℕ})))
