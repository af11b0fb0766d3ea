use borrow.Author.Count.{below_more}
use native.Mathlib.Omega.{arith}
use Rattle.records.proofs.Pairs.{all_agree, clash}
use Rattle.records.proofs.nesting.nested.Goals as goal

pub loop-j-init : goal.loop-j-init
loop-j-init c y less more =
    absurd (omega arith)

pub loop-j-preserved : goal.loop-j-preserved
loop-j-preserved c =
    below_more _ _ c.loop-j.invariant (λ more. rw c.if-not-agree.false at c.agree.ensures)

pub loop-i-preserved : goal.loop-i-preserved
loop-i-preserved c =
    below_more _ _ c.loop-i.invariant (λ y more last. c.loop-j.invariant y (omega arith) more)

pub returns-then-not-agree : goal.returns-then-not-agree
returns-then-not-agree c =
    clash c.args.clusters.now c.loop-i.i c.loop-j.j (omega arith) (omega arith) (rw c.if-not-agree.true at c.agree.ensures)

pub returns-after-loop-i : goal.returns-after-loop-i
returns-after-loop-i c =
    all_agree c.args.clusters.now (λ x last. c.loop-i.invariant x (omega arith))
