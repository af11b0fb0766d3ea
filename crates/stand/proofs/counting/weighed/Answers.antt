-- `stand::counting::weighed` meets its contract: one law for each way through its checks.
use mathlib.Core.Path.{sym, ◌∙◌}
use native.Mathlib.Omega.{arith}
use Rattle.std.proofs.lemmas.Result.{err_from_is_err_and}
use Rattle.lineages.proofs.Told.{cluster-small}
use Rattle.stand.proofs.Replies.{few_named, few_members, enough-lent, stand-countable, weighs_closed, weighs_bad, weighs_no_cluster, weighs_done}
use Rattle.stand.proofs.counting.weighed.Goals as goal

pub returns-in_err-stand : goal.returns-in_err-stand
returns-in_err-stand c =
    let p = err_from_is_err_and c.from_residual.result c.from_residual.ensures.1 in
    rw (p.1, p.2) (weighs_closed _ _ _ _ _ _ c.in_err-stand.field-0.0 c.in_err-stand.ensures)

pub judge_records-requires : goal.judge_records-requires
judge_records-requires c =
    let opened = c.in_ok-stand.ensures in record { m_bound = few_members _ _ _ _ _ _ opened; count_in_bounds = enough-lent _ _ _ _ _ _ opened }

pub returns-in_err-judge_records : goal.returns-in_err-judge_records
returns-in_err-judge_records c =
    let p = err_from_is_err_and c.from_residual-in_err-judge_records.result c.from_residual-in_err-judge_records.ensures.1 in
    rw (p.1, p.2) (weighs_bad _ _ _ _ _ _ _ c.in_ok-stand.ensures c.in_err-judge_records.field-0.0 c.in_err-judge_records.ensures)

pub is_cluster-requires : goal.is_cluster-requires
is_cluster-requires c = few_named _ _ _ _ _ _ c.in_ok-stand.ensures

pub returns-then-not-is_cluster : goal.returns-then-not-is_cluster
returns-then-not-is_cluster c =
    rw c.at.ensures
    (weighs_no_cluster _ _ _ _ _ _ _ c.in_ok-stand.ensures c.in_ok-judge_records.ensures (sym c.is_cluster.ensures ∙ c.if-not-is_cluster.true))

pub overflow_cast-cluster : goal.overflow_cast-cluster
overflow_cast-cluster c =
    let small = cluster-small _ c.args.cluster (few_named _ _ _ _ _ _ c.in_ok-stand.ensures) (sym c.is_cluster.ensures ∙ c.if-not-is_cluster.false) in
    omega arith

pub weigh_stand-weight-requires : goal.weigh_stand-weight-requires
weigh_stand-weight-requires c = stand-countable _ _ _ _ _ _ c.in_ok-stand.ensures c.in_ok-judge_records.ensures

pub returns : goal.returns
returns c =
    weighs_done _ _ _ _ _ _ _ c.in_ok-stand.ensures c.in_ok-judge_records.ensures (sym c.is_cluster.ensures ∙ c.if-not-is_cluster.false) c.weigh_stand-weight.ensures
