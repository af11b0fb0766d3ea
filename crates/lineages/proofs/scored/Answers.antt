-- `lineages::scored` meets its contract: one law for each way through the checks.
use Rattle.std.proofs.Common.{sym, ◌∙◌}
use Rattle.std.proofs.lemmas.Result.{err_from_is_err_and}
use Rattle.lineages.specs.InOrder.{Shaped}
use Rattle.lineages.proofs.FirstBad.{checked-countable}
use Rattle.lineages.proofs.Told.{species-form}
use Rattle.lineages.proofs.Verdicts.{shaped}
use Rattle.lineages.proofs.Calls.{scores-shape, scores_no_tree, scores_bad, scores_done}
use Rattle.lineages.proofs.scored.Goals.{In_ok-shape}
use Rattle.lineages.proofs.scored.Goals as goal

-- behind the first check
passed : (c : In_ok-shape) → Shaped c.args.n c.args.genes.now c.args.count
passed c = shaped _ _ _ (sym c.in_ok-shape.ensures)

pub returns-in_err-shape : goal.returns-in_err-shape
returns-in_err-shape c =
    let p = err_from_is_err_and c.from_residual.result c.from_residual.ensures.1 in
    rw (p.1, p.2) (scores-shape _ _ _ _ _ c.in_err-shape.field-0.0 c.in_err-shape.ensures)

pub is_species_tree-requires : goal.is_species_tree-requires
is_species_tree-requires c =
    record { n_bound = (passed (goal.at.is_species_tree-requires c).In_ok-shape).few_species; species_len = c.requires }

pub returns-then-not-is_species_tree : goal.returns-then-not-is_species_tree
returns-then-not-is_species_tree c =
    rw c.at.ensures
    (scores_no_tree _ _ _ _ _ (passed (goal.at.returns-then-not-is_species_tree c).In_ok-shape) (sym c.is_species_tree.ensures ∙ c.if-not-is_species_tree.true))

pub judge_genes-requires : goal.judge_genes-requires
judge_genes-requires c =
    let s = passed (goal.at.judge_genes-requires c).In_ok-shape in record { n_bound = s.few_species; count_in_bounds = s.fits }

pub returns-in_err-judge_genes : goal.returns-in_err-judge_genes
returns-in_err-judge_genes c =
    let p = err_from_is_err_and c.from_residual-in_err-judge_genes.result c.from_residual-in_err-judge_genes.ensures.1 in
    rw (p.1, p.2)
    (scores_bad _ _ _ _ _ (passed (goal.at.returns-in_err-judge_genes c).In_ok-shape) (sym c.is_species_tree.ensures ∙ c.if-not-is_species_tree.false)
    c.in_err-judge_genes.field-0.0 c.in_err-judge_genes.ensures)

pub weigh_tree-score-requires : goal.weigh_tree-score-requires
weigh_tree-score-requires c =
    let s = passed (goal.at.weigh_tree-score-requires c).In_ok-shape in
    record {
      count_bound = s.few_genes;
      count_in_bounds = s.fits;
      all_countable = checked-countable _ _ _ c.in_ok-judge_genes.ensures s.few_species;
      form = species-form _ _ s.few_species (sym c.is_species_tree.ensures ∙ c.if-not-is_species_tree.false);
    }

pub returns : goal.returns
returns c =
    scores_done _ _ _ _ _ (passed (goal.at.returns c).In_ok-shape) (sym c.is_species_tree.ensures ∙ c.if-not-is_species_tree.false) c.in_ok-judge_genes.ensures
    c.weigh_tree-score.ensures
