use mathlib.Core.Path.{refl}
use borrow.Author.Rules.{rules}
use Rattle.trees.proofs.Stores.{copied_none, copied_next, copied_all}
use Rattle.sorting.proofs.narrowed.Goals as goal

pub loop-i-init : goal.loop-i-init
loop-i-init c =
    copied_none _ _ refl (search rules)

pub overflow_cast-narrow : goal.overflow_cast-narrow
overflow_cast-narrow c =
    record { fits = c.requires.by_index _ }

pub loop-i-preserved : goal.loop-i-preserved
loop-i-preserved c =
    copied_next c.loop-i.invariant (search rules)

pub returns : goal.returns
returns c =
    copied_all c.loop-i.invariant (search rules)
