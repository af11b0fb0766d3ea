-- `judge` hands on the place of the fault, or the count of the roster.
use Rattle.std.proofs.Common.{◌≡◌, rules}
use Rattle.std.specs.Result.{result_map_both}
use Rattle.roster.proofs.Judging.{roster-judged}
use Rattle.roster.proofs.line.judge.Goals as goal

pub returns : goal.returns
returns c =
    let mapped : c.map.result ≡ result_map_both (λ s. s.count) (λ e. e) c.parse.result = search rules in
    rw (c.reply_to.ensures, mapped) (roster-judged c.args.line.now c.parse.result c.parse.ensures)
