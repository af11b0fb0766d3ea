-- `sheet::Lent::score_one` meets its contract: what the single scoring call answers, where the gene trees are in order.
use Rattle.std.proofs.Common.{sym, ◌∙◌}
use Rattle.lineages.specs.InOrder.{Shaped}
use Rattle.lineages.proofs.FirstBad.{checked-countable}
use Rattle.lineages.proofs.Told.{species-form}
use Rattle.lineages.proofs.Calls.{scores_no_tree, scores_done}
use Rattle.sheet.proofs.Judged.{passed-shape, passed-genes}
use Rattle.sheet.proofs.Lent.score_one.Goals.{Start}
use Rattle.sheet.proofs.Lent.score_one.Goals as goal

-- of the gene trees
in_order : (c : Start) → Shaped c.args.self.now.n c.args.self.now.genes.now c.args.self.now.count
in_order c = passed-shape c.args.self.now.rooting _ _ _ c.args.self.now.passed

pub is_species_tree-requires : goal.is_species_tree-requires
is_species_tree-requires c =
    record { n_bound = (in_order (goal.at.is_species_tree-requires c).Start).few_species; species_len = c.requires }

pub returns-then-not-is_species_tree : goal.returns-then-not-is_species_tree
returns-then-not-is_species_tree c =
    rw c.at.ensures
    (scores_no_tree _ _ _ _ _ (in_order (goal.at.returns-then-not-is_species_tree c).Start) (sym c.is_species_tree.ensures ∙ c.if-not-is_species_tree.true))

pub weigh_tree-requires : goal.weigh_tree-requires
weigh_tree-requires c =
    let s = in_order (goal.at.weigh_tree-requires c).Start in
    record {
      count_bound = s.few_genes;
      count_in_bounds = s.fits;
      all_countable = checked-countable _ _ _ (passed-genes c.args.self.now.rooting _ _ _ c.args.self.now.passed) s.few_species;
      form = species-form _ _ s.few_species (sym c.is_species_tree.ensures ∙ c.if-not-is_species_tree.false);
    }

pub returns : goal.returns
returns c =
    scores_done _ _ _ _ _ (in_order (goal.at.returns c).Start) (sym c.is_species_tree.ensures ∙ c.if-not-is_species_tree.false)
    (passed-genes c.args.self.now.rooting _ _ _ c.args.self.now.passed) c.weigh_tree.ensures
