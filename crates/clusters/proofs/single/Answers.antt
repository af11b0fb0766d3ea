-- `clusters::single` meets its contract: no digit is shifted out.
use mathlib.Core.Path.{◌∙◌}
use native.Mathlib.Nat.{one-mul}
use native.Mathlib.Omega.{arith}
use lib.Pow.{shl_exact}
use Rattle.clusters.specs.Sets.{single}
use Rattle.clusters.proofs.single.Goals as goal

pub returns : goal.returns
unfolding single
returns c =
    shl_exact 1 _ 32 (omega arith) (omega arith) ∙ one-mul _
