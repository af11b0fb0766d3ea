use mathlib.Core.Path.{◌≡◌}
use native.Mathlib.Omega.{arith}
use lib.ListN.{length}
use Rattle.clusters.specs.Sets.{whole}
use Rattle.clusters.proofs.Sets.{whole_some}
use Rattle.trees.proofs.Bounds.{whole_below_sixteen}
use Rattle.splits.specs.BinaryTrees.{trees_on}
use Rattle.plain.proofs.Keeping.{none_visited, best_of_all}
use Rattle.plain.proofs.Asked.first_least.Goals.{After-trees_on-trees}
use Rattle.plain.proofs.Asked.first_least.Goals as goal

-- so many trees are numbered
trees : (c : After-trees_on-trees) → c.trees_on-trees.result ≡ length (trees_on (whole c.args.self.now.n))
trees c = rw c.whole.ensures at c.trees_on-trees.ensures

pub trees_on-trees-requires : goal.trees_on-trees-requires
trees_on-trees-requires c =
    let shaped = c.args.self.now.shaped.shaped in
    let n = c.args.self.now.n in
    rw c.whole.ensures record { le_a = whole_some n shaped.some_species; a_bound = whole_below_sixteen n shaped.few_species }

pub loop-number-init : goal.loop-number-init
loop-number-init c = none_visited _ _ _ _ _

pub returns : goal.returns
returns c =
    best_of_all _ _ _ _ _ c.loop-number.number c.loop-number.best (omega (arith, trees (goal.at.returns c).After-trees_on-trees)) c.loop-number.invariant
