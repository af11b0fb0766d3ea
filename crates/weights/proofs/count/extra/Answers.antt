-- `weights::count::extra` meets its contract.
use Rattle.std.proofs.Common.{arith}
use Rattle.weights.specs.Count.{extra}
use Rattle.weights.proofs.count.extra.Goals as goal

pub returns : goal.returns
unfolding extra
returns c = omega (arith, c.lineages_by.ensures)
