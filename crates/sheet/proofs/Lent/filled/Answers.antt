-- `sheet::Lent::filled` meets its contract: the entry of the promise.
use Rattle.std.proofs.Common.{arith}
use Rattle.sheet.proofs.Filling.{within-filled, twelve_filled}
use Rattle.sheet.proofs.Lent.filled.Goals as goal

pub returns-then-position-self : goal.returns-then-position-self
returns-then-position-self c = rw c.reply_to-single.ensures (within-filled _ _ _ _ _ _ _ (omega arith) c.score_one.ensures)

pub returns-else-position-self : goal.returns-else-position-self
returns-else-position-self c = twelve_filled _ _ _ _ _ _ _ _ c.number.ensures (omega arith) (omega arith)
