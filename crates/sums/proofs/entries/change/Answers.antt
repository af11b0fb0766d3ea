-- `sums::entries::change` meets its contract: a law for each side.
use Rattle.std.proofs.Common.{refl, arith}
use Rattle.sums.proofs.Changes.{with_more, one_less}
use Rattle.sums.proofs.entries.change.Goals as goal
use Rattle.sums.proofs.entries.change.Goals.{Else-more}

pub returns-then-more : goal.returns-then-more
returns-then-more c =
    rw c.if-more.true (with_more c.args.x c.args.sums.now c.requires refl)

pub returns-else-more : goal.returns-else-more
returns-else-more c =
    let start = (goal.at.returns-else-more c).Else-more in
    rw c.if-more.false (one_less c.args.x c.args.sums.now c.requires _ (omega (arith, start.type_inv.sums c.args.x)))
