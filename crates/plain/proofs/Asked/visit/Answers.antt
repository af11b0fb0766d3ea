-- `plain::Asked::visit` meets its contract: the tree is over allowed clusters and is added, or is passed over.
use mathlib.Core.Path.{◌≡◌, sym, ◌∙◌}
use Rattle.clusters.specs.Sets.{whole}
use Rattle.trees.specs.Records.{record_of, SpeciesValid}
use Rattle.weights.proofs.Sums.{valid-countable}
use Rattle.splits.specs.BinaryTrees.{clusters_in}
use Rattle.plain.specs.Numbering.{tree_of}
use Rattle.plain.proofs.Keeping.{over_told, score-told, numbered, visited-valid, added, passed_over}
use Rattle.plain.proofs.Calling.{genes_in_order}
use Rattle.plain.proofs.Asked.visit.Goals.{After-tree_of-tree}
use Rattle.plain.proofs.Asked.visit.Goals as goal

-- the record that was made is that of the tree
recorded :
    (c : After-tree_of-tree) → let args = c.args in
    c.tree_of-tree.result.numbers ≡ record_of (clusters_in (tree_of (whole args.self.now.n) args.number))
recorded c = rw c.whole.ensures at c.tree_of-tree.ensures

-- and valid
valid : (c : After-tree_of-tree) → SpeciesValid c.args.self.now.n c.tree_of-tree.result.numbers
valid c =
    visited-valid c.args.self.now.n c.args.number c.args.self.now.shaped.shaped.few_species c.requires.number_in_bounds (recorded c)

pub tree_of-tree-requires : goal.tree_of-tree-requires
tree_of-tree-requires c =
    let shaped = c.args.self.now.shaped.shaped in
    rw c.whole.ensures (numbered _ _ shaped.some_species shaped.few_species c.requires.number_in_bounds)

pub is_over_allowed-requires : goal.is_over_allowed-requires
is_over_allowed-requires c =
    valid (goal.at.is_over_allowed-requires c).After-tree_of-tree

pub weigh_tree-score-requires-clause-all_countable : goal.weigh_tree-score-requires-clause-all_countable
weigh_tree-score-requires-clause-all_countable c =
    let ordered = genes_in_order c.args.self.now in valid-countable ordered.shaped.few_species ordered.valid

pub weigh_tree-score-requires-clause-form : goal.weigh_tree-score-requires-clause-form
weigh_tree-score-requires-clause-form c = (valid (goal.at.weigh_tree-score-requires-clause-form c).After-tree_of-tree).form

pub returns-then-is_over_allowed : goal.returns-then-is_over_allowed
returns-then-is_over_allowed c =
    added _ _ _ _ _ c.args.number c.args.best c.requires.number_in_bounds c.requires.best_of_first c.better.result
    (sym (over_told _ (recorded (goal.at.returns-then-is_over_allowed c).After-tree_of-tree) _) ∙ sym c.is_over_allowed.ensures ∙ c.if-is_over_allowed.true)
    (c.weigh_tree-score.ensures ∙ score-told _ (recorded (goal.at.returns-then-is_over_allowed c).After-tree_of-tree) _ _)
    c.better.ensures

pub returns : goal.returns
returns c =
    passed_over _ _ _ _ _ c.args.number c.args.best c.requires.number_in_bounds c.requires.best_of_first
    (sym (over_told _ (recorded (goal.at.returns c).After-tree_of-tree) _) ∙ sym c.is_over_allowed.ensures ∙ c.if-is_over_allowed.false)
