-- Each return is a way through one individual's label.
use mathlib.Core.Path.{sym, ◌∙◌}
use Rattle.labels.proofs.Exits.{passed_on}
use Rattle.mapping.proofs.LineReads.{member_fails, member_unknown, member_taken, member_ends_early, member_reads}
use Rattle.mapping.proofs.lines.member_at.Goals as goal

pub returns-in_err-label : goal.returns-in_err-label
returns-in_err-label c =
    rw (passed_on c.from_residual.result c.from_residual.ensures.1) (member_fails _ _ _ _ _ c.label_at.result c.label_at.ensures _ c.in_err-label.was)

pub returns-in_default : goal.returns-in_default
returns-in_default c =
    rw c.at.ensures (member_unknown _ _ _ _ _ c.label_at.result c.label_at.ensures _ c.in_ok-label.was c.in_default.ensures)

pub returns-then-not-apart : goal.returns-then-not-apart
returns-then-not-apart c =
    rw c.at-then-not-apart.ensures (member_taken _ _ _ _ _ c.label_at.result c.label_at.ensures _ c.in_ok-label.was
    _ (rw c.in-Some.ensures.0 at c.single-one.ensures) (sym c.apart.ensures ∙ c.if-not-apart.true))

pub returns-then-label-text : goal.returns-then-label-text
returns-then-label-text c =
    rw c.at-then-label-text.ensures (member_ends_early _ _ _ _ _ c.label_at.result c.label_at.ensures _ c.in_ok-label.was
    _ (rw c.in-Some.ensures.0 at c.single-one.ensures) (rw c.in-Some.ensures.0 at c.in-Some.ensures.1) (sym c.apart.ensures ∙ c.if-not-apart.false)
    c.if-label-text.true)

pub returns : goal.returns
returns c =
    member_reads _ _ _ _ _ c.label_at.result c.label_at.ensures _ c.in_ok-label.was
    _ (rw c.in-Some.ensures.0 at c.single-one.ensures) (rw c.in-Some.ensures.0 at c.in-Some.ensures.1) (sym c.apart.ensures ∙ c.if-not-apart.false)
    c.if-label-text.false
