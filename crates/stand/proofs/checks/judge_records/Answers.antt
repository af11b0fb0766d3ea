-- `stand::checks::judge_records` meets its contract: a record was found, or none.
use Rattle.stand.proofs.Replies.{bad_told, good_told}
use Rattle.stand.proofs.checks.judge_records.Goals as goal

pub returns-in-Some : goal.returns-in-Some
returns-in-Some c = rw c.at.ensures (bad_told _ _ _ c.in-Some.ensures)

pub returns-in-None : goal.returns-in-None
returns-in-None c = good_told _ _ _ c.in-None.ensures
