use mathlib.Core.Path.{refl, ◌∙◌}
use borrow.Author.Rules.{rules}
use native.Mathlib.Omega.{arith}
use lib.Seq.{take_all}
use Rattle.trees.proofs.Stores.{copied_none, copied_next, copied_all}
use Rattle.records.proofs.widened.Goals as goal

pub loop-i-init : goal.loop-i-init
loop-i-init c =
    copied_none _ _ refl (omega arith)

pub loop-i-preserved : goal.loop-i-preserved
loop-i-preserved c =
    rw c.from.ensures (copied_next c.loop-i.invariant (search rules))

pub returns : goal.returns
returns c =
    copied_all c.loop-i.invariant (search rules) ∙ take_all 32 c.args.r.now (omega arith)
