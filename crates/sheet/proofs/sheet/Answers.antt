-- `sheet::sheet` meets its contract: every entry filled, or the whole call refused.
use Rattle.sheet.proofs.Endings.{sheet_refused, sheet_filled}
use Rattle.sheet.proofs.sheet.Goals as goal

pub returns-in-Ok : goal.returns-in-Ok
returns-in-Ok c = rw c.done.ensures (sheet_filled _ _ _ _ _ _ c.in-Ok.ensures c.fill.ensures)

pub returns-in-Err : goal.returns-in-Err
returns-in-Err c = rw c.from.ensures (sheet_refused _ _ _ _ _ _ c.in-Err.refusal c.in-Err.ensures)
