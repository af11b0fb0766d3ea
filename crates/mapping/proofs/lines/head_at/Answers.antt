-- Each return is a way through the head of a line.
use borrow.Author.Rules.{rules}
use native.Mathlib.Omega.{arith}
use mathlib.Core.Bool.{not}
use mathlib.Core.Path.{sym, ap, ◌∙◌}
use Rattle.labels.proofs.Exits.{passed_on}
use Rattle.labels.proofs.FirstBytes.{next_within}
use Rattle.mapping.proofs.LineReads.{found_there, found_elsewhere, due_is, label_onward, head_fails, head-wrong, head_no_colon, head-reads}
use Rattle.mapping.proofs.lines.head_at.Goals as goal

pub returns-in_err-label : goal.returns-in_err-label
returns-in_err-label c =
    rw (passed_on c.from_residual.result c.from_residual.ensures.1) (head_fails _ _ _ _ _ c.label_at.result c.label_at.ensures _ c.in_err-label.was)

pub returns-then-not-due : goal.returns-then-not-due
returns-then-not-due c =
    let due = due_is c.args.i c.species-found.result c.is_some_and-due.ensures (λ j h. search rules) in
    rw c.at.ensures (head-wrong _ _ _ _ _ c.label_at.result c.label_at.ensures _ c.in_ok-label.was
    (found_elsewhere _ _ _ c.species-found.result c.species-found.ensures (ap not (due ∙ c.if-not-due.true))))

pub returns-then-not-next_is : goal.returns-then-not-next_is
returns-then-not-next_is c =
    let due = due_is c.args.i c.species-found.result c.is_some_and-due.ensures (λ j h. search rules) in
    rw c.at-then-not-next_is.ensures (head_no_colon _ _ _ _ _ c.label_at.result c.label_at.ensures _ c.in_ok-label.was
    (found_there _ _ _ c.species-found.result c.species-found.ensures (ap not (due ∙ c.if-not-due.false))) (sym c.next_is.ensures ∙ c.if-not-next_is.true))

pub returns : goal.returns
returns c =
    let due = due_is c.args.i c.species-found.result c.is_some_and-due.ensures (λ j h. search rules) in
    head-reads _ _ _ _ _ c.label_at.result c.label_at.ensures _ c.in_ok-label.was
    (found_there _ _ _ c.species-found.result c.species-found.ensures (ap not (due ∙ c.if-not-due.false))) (sym c.next_is.ensures ∙ c.if-not-next_is.false)

pub overflow_add-result : goal.overflow_add-result
overflow_add-result c =
    let on = label_onward _ _ c.label_at.result c.label_at.ensures _ c.in_ok-label.was in
    let here = next_within 58 c.args.text.now c.in_ok-label.label.next (sym c.next_is.ensures ∙ c.if-not-next_is.false) in
    omega arith
