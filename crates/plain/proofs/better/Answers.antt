-- `plain::better` meets its contract: the best so far scores no more, or more, or there is none.
use Rattle.plain.proofs.Keeping.{stays, taken}
use Rattle.plain.proofs.better.Goals as goal

pub returns-in-Some : goal.returns-in-Some
returns-in-Some c =
    rw c.in-Some.is (stays c.args.score c.args.number c.in-Some.held c.if-held-score.true)

pub returns-in_default : goal.returns-in_default
returns-in_default c =
    taken c.args.score c.args.number c.args.best (rw c.in-Some.is c.if-held-score.false)

pub returns-in_default-2 : goal.returns-in_default-2
returns-in_default-2 c =
    taken c.args.score c.args.number c.args.best (rw c.in_default.is tt)
