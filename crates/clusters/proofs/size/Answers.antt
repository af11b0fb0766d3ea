-- `clusters::size` meets its contract: the machine's count is its definition.
use Rattle.clusters.specs.Sets.{size}
use mathlib.Core.Path.{refl}
use Rattle.clusters.proofs.size.Goals as goal

pub returns : goal.returns
unfolding size
returns c =
    refl
