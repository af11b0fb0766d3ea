use Rattle.std.proofs.Common.{sym, ◌∙◌}
use Rattle.weights.proofs.Pass.{passing_start, passing-inside, passing-outside, passing-counted, passing_end}
use Rattle.weights.proofs.Checked.{listed_item, listed_over}
use Rattle.weights.proofs.count.lineages_within.Goals.{then-not-within+then-joined-ne0, then-not-within+else-joined-ne0, else-not-within}
use Rattle.weights.proofs.count.lineages_within.Goals as goal

pub loop-x-init : goal.loop-x-init
loop-x-init c = passing_start _ _

pub loop-x-preserved : goal.loop-x-preserved
loop-x-preserved c =
    let can = c.requires.can in
    let at = listed_item c.loop-x.x-index can.valid.form c.loop-x-test.true in
    elim c.if-not-within.branch [
      | then-not-within+then-joined-ne0 w ↦
          rw (w.k-is, w.loose-is, w.all-is)
          (rw (← at.1) at (passing-counted can c.loop-x.invariant at.0 (rw at.1 at (sym c.within.ensures ∙ w.if-not-within.true)) (rw at.1 at w.if-joined-ne0.true)))
      | then-not-within+else-joined-ne0 w ↦
          rw (w.k-is, w.loose-is, w.all-is)
          (passing-outside can c.loop-x.invariant at.0 (rw at.1 at (sym c.within.ensures ∙ w.if-not-within.true)) (rw at.1 at w.if-joined-ne0.false))
      | else-not-within w ↦
          rw (w.k-is, w.loose-is, w.all-is) (passing-inside can c.loop-x.invariant at.0 (rw at.1 at (sym c.within.ensures ∙ w.if-not-within.false)))
    ]

pub returns-then-all : goal.returns-then-all
returns-then-all c = passing_end c.loop-x.invariant (listed_over c.requires.can.valid.form c.loop-x-test.false) c.if-all.true

pub returns-else-all : goal.returns-else-all
returns-else-all c = passing_end c.loop-x.invariant (listed_over c.requires.can.valid.form c.loop-x-test.false) c.if-all.false
