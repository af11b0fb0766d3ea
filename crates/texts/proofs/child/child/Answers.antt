-- The last inner cluster with the lowest species left is the child.
use mathlib.Core.Path.{ap, ◌∙◌}
use native.Mathlib.Omega.{arith}
use Rattle.clusters.specs.Sets.{single}
use Rattle.texts.proofs.Largest.{lowest_thirty_two, single-largest, last-child}
use Rattle.texts.proofs.NodeText.{lowest-sixteen}
use Rattle.texts.proofs.child.child.Goals as goal

-- of what is left and of the cluster itself, so that a child looked for by the cluster is refused by what the search finds
pub single-species-requires : goal.single-species-requires
single-species-requires c =
    let l = lowest_thirty_two c.requires.listed c.args.left c.requires.le_left.0 c.requires.le_left.1 c.requires.bound in
    let k = lowest-sixteen c.requires.listed in
    omega (arith, c.lowest.ensures)

pub returns : goal.returns
returns c =
    let h = c.requires.listed in
    let alone = c.single-species.ensures ∙ ap single c.lowest.ensures in
    let first = single-largest h c.args.left c.requires.le_left.0 c.requires.le_left.1 c.requires.bound in
    last-child h alone first c.from-m.ensures c.last_inner.ensures c.unwrap_or.ensures
