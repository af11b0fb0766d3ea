-- `clusters::apart` meets its contract: the test is its definition.
use Rattle.clusters.specs.Sets.{apart}
use mathlib.Core.Path.{refl}
use Rattle.clusters.proofs.apart.Goals as goal

pub returns : goal.returns
unfolding apart
returns c =
    refl
