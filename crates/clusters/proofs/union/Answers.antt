-- `clusters::union` meets its contract: the machine's or is its definition.
use Rattle.clusters.specs.Sets.{union}
use mathlib.Core.Path.{refl}
use Rattle.clusters.proofs.union.Goals as goal

pub returns : goal.returns
unfolding union
returns c =
    refl
