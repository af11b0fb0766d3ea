-- `lineages::weighed` meets its contract: one law for each way through the checks.
use Rattle.std.proofs.Common.{sym, ◌∙◌, arith}
use Rattle.std.proofs.lemmas.Result.{err_from_is_err_and}
use Rattle.lineages.specs.InOrder.{Shaped}
use Rattle.lineages.proofs.FirstBad.{checked-countable}
use Rattle.lineages.proofs.Told.{cluster-small}
use Rattle.lineages.proofs.Verdicts.{shaped}
use Rattle.lineages.proofs.Calls.{weighs_shape, weighs_bad, weighs_no_cluster, weighs_done}
use Rattle.lineages.proofs.weighed.Goals.{In_ok-shape}
use Rattle.lineages.proofs.weighed.Goals as goal

-- behind the first check
passed : (c : In_ok-shape) → Shaped c.args.n c.args.genes.now c.args.count
passed c = shaped _ _ _ (sym c.in_ok-shape.ensures)

pub returns-in_err-shape : goal.returns-in_err-shape
returns-in_err-shape c =
    let p = err_from_is_err_and c.from_residual.result c.from_residual.ensures.1 in
    rw (p.1, p.2) (weighs_shape _ _ _ _ _ c.in_err-shape.field-0.0 c.in_err-shape.ensures)

pub judge_genes-requires : goal.judge_genes-requires
judge_genes-requires c =
    let s = passed (goal.at.judge_genes-requires c).In_ok-shape in record { n_bound = s.few_species; count_in_bounds = s.fits }

pub returns-in_err-judge_genes : goal.returns-in_err-judge_genes
returns-in_err-judge_genes c =
    let p = err_from_is_err_and c.from_residual-in_err-judge_genes.result c.from_residual-in_err-judge_genes.ensures.1 in
    rw (p.1, p.2)
    (weighs_bad _ _ _ _ _ (passed (goal.at.returns-in_err-judge_genes c).In_ok-shape) c.in_err-judge_genes.field-0.0 c.in_err-judge_genes.ensures)

pub is_cluster-requires : goal.is_cluster-requires
is_cluster-requires c = (passed (goal.at.is_cluster-requires c).In_ok-shape).few_species

pub returns-then-not-is_cluster : goal.returns-then-not-is_cluster
returns-then-not-is_cluster c =
    rw c.at.ensures
    (weighs_no_cluster _ _ _ _ _ (passed (goal.at.returns-then-not-is_cluster c).In_ok-shape) c.in_ok-judge_genes.ensures
    (sym c.is_cluster.ensures ∙ c.if-not-is_cluster.true))

pub overflow_cast-cluster : goal.overflow_cast-cluster
overflow_cast-cluster c =
    let small = cluster-small c.args.n c.args.cluster (passed (goal.at.overflow_cast-cluster c).In_ok-shape).few_species
    (sym c.is_cluster.ensures ∙ c.if-not-is_cluster.false)
    in
    omega arith

pub weigh-requires : goal.weigh-requires
weigh-requires c =
    let s = passed (goal.at.weigh-requires c).In_ok-shape in
    record { count_bound = s.few_genes; count_in_bounds = s.fits; all_countable = checked-countable _ _ _ c.in_ok-judge_genes.ensures s.few_species }

pub returns : goal.returns
returns c =
    weighs_done _ _ _ _ _ (passed (goal.at.returns c).In_ok-shape) c.in_ok-judge_genes.ensures (sym c.is_cluster.ensures ∙ c.if-not-is_cluster.false)
    c.weigh.ensures
