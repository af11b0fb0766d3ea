-- `stand::counting::scored` meets its contract: one law for each way through its checks.
use mathlib.Core.Path.{sym, ◌∙◌}
use Rattle.std.proofs.lemmas.Result.{err_from_is_err_and}
use Rattle.lineages.proofs.Told.{species-form}
use Rattle.stand.proofs.Replies.{few_named, few_members, enough-lent, stand-countable, scores-closed, scores_no_tree, scores_bad, scores_done}
use Rattle.stand.proofs.counting.scored.Goals as goal

pub returns-in_err-stand : goal.returns-in_err-stand
returns-in_err-stand c =
    let p = err_from_is_err_and c.from_residual.result c.from_residual.ensures.1 in
    rw (p.1, p.2) (scores-closed _ _ _ _ _ _ c.in_err-stand.field-0.0 c.in_err-stand.ensures)

pub is_species_tree-requires : goal.is_species_tree-requires
is_species_tree-requires c = record { n_bound = few_named _ _ _ _ _ _ c.in_ok-stand.ensures; species_len = c.requires }

pub returns-then-not-is_species_tree : goal.returns-then-not-is_species_tree
returns-then-not-is_species_tree c =
    rw c.at.ensures (scores_no_tree _ _ _ _ _ _ _ c.in_ok-stand.ensures (sym c.is_species_tree.ensures ∙ c.if-not-is_species_tree.true))

pub judge_records-requires : goal.judge_records-requires
judge_records-requires c =
    let opened = c.in_ok-stand.ensures in record { m_bound = few_members _ _ _ _ _ _ opened; count_in_bounds = enough-lent _ _ _ _ _ _ opened }

pub returns-in_err-judge_records : goal.returns-in_err-judge_records
returns-in_err-judge_records c =
    let p = err_from_is_err_and c.from_residual-in_err-judge_records.result c.from_residual-in_err-judge_records.ensures.1 in
    rw (p.1, p.2)
    (scores_bad _ _ _ _ _ _ _ c.in_ok-stand.ensures (sym c.is_species_tree.ensures ∙ c.if-not-is_species_tree.false) c.in_err-judge_records.field-0.0
    c.in_err-judge_records.ensures)

pub weigh_stand_tree-requires : goal.weigh_stand_tree-requires
weigh_stand_tree-requires c = record {
  stand_countable = stand-countable _ _ _ _ _ _ c.in_ok-stand.ensures c.in_ok-judge_records.ensures;
  form = species-form _ _ (few_named _ _ _ _ _ _ c.in_ok-stand.ensures) (sym c.is_species_tree.ensures ∙ c.if-not-is_species_tree.false);
}

pub returns : goal.returns
returns c =
    scores_done _ _ _ _ _ _ _ c.in_ok-stand.ensures (sym c.is_species_tree.ensures ∙ c.if-not-is_species_tree.false) c.in_ok-judge_records.ensures
    c.weigh_stand_tree.ensures
