-- `clusters::lowest` meets its contract: the machine's count is its definition.
use Rattle.clusters.specs.Sets.{lowest}
use mathlib.Core.Path.{refl}
use Rattle.clusters.proofs.lowest.Goals as goal

pub returns : goal.returns
unfolding lowest
returns c =
    refl
