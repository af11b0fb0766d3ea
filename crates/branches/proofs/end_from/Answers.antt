-- `end_from` meets its contract: behind what leads to it, a closing parenthesis or a name, and what stands behind that.
use native.Mathlib.Omega.{arith}
use mathlib.Core.Path.{sym, ◌∙◌}
use Rattle.labels.proofs.Exits.{passed_on}
use Rattle.tokens.proofs.Places.{next_is_inside}
use Rattle.branches.proofs.EndWays.{closing_way, faulty_way, leaf_way}
use Rattle.branches.proofs.end_from.Goals as goal

pub overflow_add-place : goal.overflow_add-place
overflow_add-place c =
    let inside = next_is_inside c.args.text.now c.lead-from.result 41 (sym c.next_is.ensures ∙ c.if-next_is.true) in
    omega arith

pub returns-in_err-figures : goal.returns-in_err-figures
returns-in_err-figures c =
    rw (passed_on c.from_residual.result c.from_residual.ensures.1)
    (rw c.in_err-figures.was at
    (closing_way c.args.text.now c.args.at c.lead-from.result c.lead-from.ensures (sym c.next_is.ensures ∙ c.if-next_is.true)
    c.closing.result c.closing.ensures.result_value))

pub returns-then-next_is : goal.returns-then-next_is
returns-then-next_is c =
    rw c.end_at.ensures
    (rw c.in_ok-figures.was at
    (closing_way c.args.text.now c.args.at c.lead-from.result c.lead-from.ensures (sym c.next_is.ensures ∙ c.if-next_is.true)
    c.closing.result c.closing.ensures.result_value))

pub returns-in_err-label : goal.returns-in_err-label
returns-in_err-label c =
    rw (passed_on c.from_residual-in_err-label.result c.from_residual-in_err-label.ensures.1)
    (faulty_way c.args.text.now c.args.at c.lead-from.result c.lead-from.ensures (sym c.next_is.ensures ∙ c.if-next_is.false)
    c.scan.result c.scan.ensures _ c.in_err-label.was)

pub returns-in_err-figures-2 : goal.returns-in_err-figures-2
returns-in_err-figures-2 c =
    rw (passed_on c.from_residual-in_err-figures-2.result c.from_residual-in_err-figures-2.ensures.1)
    (rw c.in_err-figures-2.was at
    (leaf_way c.args.text.now c.args.at c.lead-from.result c.lead-from.ensures (sym c.next_is.ensures ∙ c.if-next_is.false)
    c.scan.result c.scan.ensures _ c.in_ok-label.was c.behind.result c.behind.ensures.by_index))

pub returns : goal.returns
returns c =
    rw c.end_at-2.ensures
    (rw c.in_ok-figures-2.was at
    (leaf_way c.args.text.now c.args.at c.lead-from.result c.lead-from.ensures (sym c.next_is.ensures ∙ c.if-next_is.false)
    c.scan.result c.scan.ensures _ c.in_ok-label.was c.behind.result c.behind.ensures.by_index))
