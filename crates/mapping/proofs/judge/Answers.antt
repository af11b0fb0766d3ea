-- Each return is one test of the three, or that all pass.
use borrow.Author.Rules.{rules}
use Rattle.labels.proofs.Exits.{passed_on}
use Rattle.mapping.proofs.Judging.{roster-room, judged_first, judged-second, judged-faulty, judged-good}
use Rattle.mapping.proofs.judge.Goals as goal

pub returns-in_err-first : goal.returns-in_err-first
returns-in_err-first c =
    rw (passed_on c.from_residual.result c.from_residual.ensures.1) (judged_first _ _ _ c.parse.result c.parse.ensures _ c.in_err-first.was)

pub returns-in_err-second : goal.returns-in_err-second
returns-in_err-second c =
    rw (passed_on c.from_residual-in_err-second.result c.from_residual-in_err-second.ensures.1) (judged-second _ _ _ c.parse.result c.parse.ensures _ c.in_ok-first.was c.parse-2.result c.parse-2.ensures _ c.in_err-second.was)

pub read_groups-requires : goal.read_groups-requires
read_groups-requires c = (
  roster-room 16 _ c.parse.result c.parse.ensures (search rules) _ c.in_ok-first.was,
  roster-room 32 _ c.parse-2.result c.parse-2.ensures (search rules) _ c.in_ok-second.was,
)

pub returns-in_err-groups : goal.returns-in_err-groups
returns-in_err-groups c =
    rw (passed_on c.from_residual-in_err-groups.result c.from_residual-in_err-groups.ensures.1) (judged-faulty _ _ _ c.parse.result c.parse.ensures _ c.in_ok-first.was c.parse-2.result c.parse-2.ensures _ c.in_ok-second.was
    c.read_groups.result c.read_groups.ensures _ c.in_err-groups.was)

pub returns : goal.returns
returns c =
    judged-good _ _ _ c.parse.result c.parse.ensures _ c.in_ok-first.was c.parse-2.result c.parse-2.ensures _ c.in_ok-second.was
    c.read_groups.result c.read_groups.ensures _ c.in_ok-groups.was
