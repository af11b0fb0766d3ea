-- `inner_name`: a name behind the blanks, or none.
use Rattle.std.proofs.Common.{sym, ◌∙◌}
use Rattle.tokens.proofs.BehindNodes.{inner-named, inner-nameless}
use Rattle.tokens.proofs.behind.inner_name.Goals as goal

pub returns-then-not-next_label : goal.returns-then-not-next_label
returns-then-not-next_label c =
    inner-nameless c.args.text.now c.args.at c.blanks-begun.result c.blanks-begun.ensures (sym c.next_label.ensures ∙ c.if-not-next_label.true)

pub returns-in-Ok : goal.returns-in-Ok
returns-in-Ok c =
    let named = inner-named c.args.text.now c.args.at c.blanks-begun.result c.blanks-begun.ensures (sym c.next_label.ensures ∙ c.if-not-next_label.false) in
    rw (sym c.scan.ensures ∙ c.in-Ok.is) at named

pub returns-in-Err : goal.returns-in-Err
returns-in-Err c =
    let named = inner-named c.args.text.now c.args.at c.blanks-begun.result c.blanks-begun.ensures (sym c.next_label.ensures ∙ c.if-not-next_label.false) in
    rw c.at.ensures (rw (sym c.scan.ensures ∙ c.in-Err.is) at named)
