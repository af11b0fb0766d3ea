-- `stand::judge` meets its contract: the refusal of the stand, or how many individuals it has.
use mathlib.Core.Path.{◌≡◌}
use Rattle.std.proofs.Common.{rules}
use Rattle.std.specs.Result.{result_map_both}
use Rattle.stand.proofs.Replies.{judged_members}
use Rattle.stand.proofs.judge.Goals as goal

pub returns : goal.returns
returns c =
    let m : c.map.result ≡ result_map_both (λ s. s.individuals) (λ e. e) c.judge.result = search rules in
    rw (c.reply_to.ensures, m) (judged_members _ _ _ c.judge.result c.judge.ensures)
