-- `search::searched` meets its contract: one law for each way through its checks.
use Rattle.std.proofs.Common.{◌^◌, refl, sym, arith}
use Rattle.std.proofs.lemmas.Result.{err_from_is_err_and}
use Rattle.clusters.specs.Sets.{single}
use Rattle.lineages.specs.InOrder.{Shaped}
use Rattle.lineages.proofs.Verdicts.{shaped}
use Rattle.search.specs.Work.{LongEnough}
use Rattle.search.proofs.Finding.{checked, long_passed, finds-shape-by, finds-short-by, finds_bad, finds_strange, finds-solved}
use Rattle.search.proofs.searched.Goals.{In_ok-shape, In_ok-long_enough}
use Rattle.search.proofs.searched.Goals as goal

-- behind the first check
passed : (c : In_ok-shape) → let args = c.args in Shaped args.n args.genes.now args.count
passed c = shaped _ _ _ (sym c.in_ok-shape.ensures)

-- behind the second check
long : (c : In_ok-long_enough) → let args = c.args in LongEnough (2 ^ args.n) args.allowed.now args.scores.now args.splits.now
unfolding single
long c = long_passed _ _ _ _ (rw c.single.ensures at c.in_ok-long_enough.ensures)

pub returns-in_err-shape : goal.returns-in_err-shape
returns-in_err-shape c =
    let p = err_from_is_err_and c.from_residual.result c.from_residual.ensures.1 in
    rw (p.1, p.2) (finds-shape-by _ _ _ _ _ _ _ c.in_err-shape.field-0.0 c.in_err-shape.ensures refl refl refl)

pub single-requires : goal.single-requires
single-requires c =
    let few = (passed (goal.at.single-requires c).In_ok-shape).few_species in omega arith

pub returns-in_err-long_enough : goal.returns-in_err-long_enough
unfolding single
returns-in_err-long_enough c =
    let p = err_from_is_err_and c.from_residual-in_err-long_enough.result c.from_residual-in_err-long_enough.ensures.1 in
    rw (p.1, p.2)
    (finds-short-by _ _ _ _ _ _ _ (passed (goal.at.returns-in_err-long_enough c).In_ok-shape) c.in_err-long_enough.field-0.0
    (rw c.single.ensures at c.in_err-long_enough.ensures) refl refl refl)

pub judge_genes-requires : goal.judge_genes-requires
judge_genes-requires c =
    let s = passed (goal.at.judge_genes-requires c).In_ok-shape in record {
      n_bound = s.few_species;
      count_in_bounds = s.fits;
    }

pub returns-in_err-judge_genes : goal.returns-in_err-judge_genes
returns-in_err-judge_genes c =
    let p = err_from_is_err_and c.from_residual-in_err-judge_genes.result c.from_residual-in_err-judge_genes.ensures.1 in
    rw (p.1, p.2)
    (finds_bad _ _ _ _ _ _ _ (passed (goal.at.returns-in_err-judge_genes c).In_ok-shape) (long (goal.at.returns-in_err-judge_genes c).In_ok-long_enough)
    c.in_err-judge_genes.field-0.0 c.in_err-judge_genes.ensures refl refl refl)

pub judge_allowed-requires : goal.judge_allowed-requires
judge_allowed-requires c =
    record {
      n_bound = (passed (goal.at.judge_allowed-requires c).In_ok-shape).few_species;
      allowed_long = (long (goal.at.judge_allowed-requires c).In_ok-long_enough).allowed_long;
    }

pub returns-in_err-judge_allowed : goal.returns-in_err-judge_allowed
returns-in_err-judge_allowed c =
    let p = err_from_is_err_and c.from_residual-in_err-judge_allowed.result c.from_residual-in_err-judge_allowed.ensures.1 in
    rw (p.1, p.2)
    (finds_strange _ _ _ _ _ _ _ (passed (goal.at.returns-in_err-judge_allowed c).In_ok-shape) (long (goal.at.returns-in_err-judge_allowed c).In_ok-long_enough)
    c.in_ok-judge_genes.ensures c.in_err-judge_allowed.field-0.0 c.in_err-judge_allowed.ensures refl refl refl)

pub solve-requires : goal.solve-requires
solve-requires c =
    checked _ _ _ _ _ _ _ (passed (goal.at.solve-requires c).In_ok-shape) (long (goal.at.solve-requires c).In_ok-long_enough)
    c.in_ok-judge_genes.ensures

pub returns : goal.returns
returns c =
    finds-solved _ _ _ _ _ _ _ (passed (goal.at.returns c).In_ok-shape) (long (goal.at.returns c).In_ok-long_enough)
    c.in_ok-judge_genes.ensures c.in_ok-judge_allowed.ensures c.solve.ensures
