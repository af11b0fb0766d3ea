-- The name is a part of the table.
use Prim.Native.Nat.{◌+◌, ◌*◌, ◌≤◌}
use native.Mathlib.Omega.{arith}
use lib.ListN.{length}
use Rattle.texts.proofs.TableNames.{name-within, name-part, name-short}
use Rattle.texts.proofs.label.name.Goals.{After-name_len}
use Rattle.texts.proofs.label.name.Goals as goal

inside :
    (c : After-name_len)
    → 16 * c.args.i + c.name_len.result ≤ length c.args.table.now
inside c =
    name-within c.args.table.now c.args.i c.requires c.name_len.ensures

pub overflow_add-result : goal.overflow_add-result
overflow_add-result c =
    omega (arith, inside (goal.at.overflow_add-result c).After-name_len)

pub slice_bounds-result-end : goal.slice_bounds-result-end
slice_bounds-result-end c =
    inside (goal.at.slice_bounds-result-end c).After-name_len

pub returns-clause-value : goal.returns-clause-value
returns-clause-value c =
    name-part c.args.table.now c.args.i c.requires c.name_len.ensures

pub returns-clause-short : goal.returns-clause-short
returns-clause-short c =
    rw (name-part c.args.table.now c.args.i c.requires c.name_len.ensures) (name-short c.args.table.now c.args.i c.requires)
