-- `clusters::within` meets its contract: the test is its definition.
use Rattle.clusters.specs.Sets.{within}
use mathlib.Core.Path.{refl}
use Rattle.clusters.proofs.within.Goals as goal

pub returns : goal.returns
unfolding within
returns c =
    refl
