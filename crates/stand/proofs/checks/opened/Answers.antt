-- `stand::checks::opened` meets its contract: one law for each way.
use Rattle.std.proofs.lemmas.Result.{err_from_is_err_and}
use Rattle.stand.proofs.Opening.{opened-refused, opened-shut, opened-good}
use Rattle.stand.proofs.checks.opened.Goals as goal

pub returns-in_err-stand : goal.returns-in_err-stand
returns-in_err-stand c =
    let p = err_from_is_err_and c.from_residual.result c.from_residual.ensures.1 in
    rw (p.1, p.2) (opened-refused _ _ _ _ _ c.in_err-stand.field-0.0 c.in_err-stand.ensures)

pub returns-in_err-lent : goal.returns-in_err-lent
returns-in_err-lent c =
    let p = err_from_is_err_and c.from_residual-in_err-lent.result c.from_residual-in_err-lent.ensures.1 in
    rw (p.1, p.2) (opened-shut _ _ _ _ _ _ c.in_ok-stand.ensures c.in_err-lent.field-0.0 c.in_err-lent.ensures)

pub returns : goal.returns
returns c =
    opened-good _ _ _ _ _ _ c.in_ok-stand.ensures c.in_ok-lent.ensures
