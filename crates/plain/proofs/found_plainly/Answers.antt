-- `plain::found_plainly` meets its contract: one law for each way through its checks.
use Rattle.std.proofs.Common.{refl}
use Rattle.std.proofs.lemmas.Result.{err_from_is_err_and}
use Rattle.lineages.proofs.Verdicts.{numbered}
use Rattle.plain.specs.Work.{PlainShaped}
use Rattle.plain.proofs.Keeping.{kept-numbered}
use Rattle.plain.proofs.Judging.{plain-shape, plain_bad, plain_strange, plain-found}
use Rattle.plain.proofs.found_plainly.Goals.{In_ok-plain_shape}
use Rattle.plain.proofs.found_plainly.Goals as goal

-- behind the first check
passed : (c : In_ok-plain_shape) → let args = c.args in PlainShaped args.n args.genes.now args.count args.allowed.now
passed c = c.in_ok-plain_shape.ensures.passed refl

pub returns-in_err-plain_shape : goal.returns-in_err-plain_shape
returns-in_err-plain_shape c =
    let p = err_from_is_err_and c.from_residual.result c.from_residual.ensures.1 in
    let e = c.in_err-plain_shape.field-0.0 in
    rw (p.1, p.2) (plain-shape _ _ _ _ _ c.in_err-plain_shape.ensures (numbered e.fault) refl)

pub returns-in_err-judge_genes : goal.returns-in_err-judge_genes
returns-in_err-judge_genes c =
    let p = err_from_is_err_and c.from_residual-in_err-judge_genes.result c.from_residual-in_err-judge_genes.ensures.1 in
    rw (p.1, p.2)
    (plain_bad _ _ _ _ _ (passed (goal.at.returns-in_err-judge_genes c).In_ok-plain_shape) c.in_err-judge_genes.field-0.0 c.in_err-judge_genes.ensures)

pub returns-in_err-judge_allowed : goal.returns-in_err-judge_allowed
returns-in_err-judge_allowed c =
    let p = err_from_is_err_and c.from_residual-in_err-judge_allowed.result c.from_residual-in_err-judge_allowed.ensures.1 in
    rw (p.1, p.2)
    (plain_strange _ _ _ _ _ (passed (goal.at.returns-in_err-judge_allowed c).In_ok-plain_shape) c.in_ok-judge_genes.ensures
    c.in_err-judge_allowed.field-0.0 c.in_err-judge_allowed.ensures)

pub answer-requires-clause-numbered : goal.answer-requires-clause-numbered
answer-requires-clause-numbered c =
    let s = (passed (goal.at.answer-requires-clause-numbered c).In_ok-plain_shape).shaped in
    kept-numbered _ _ _ _ c.first_least.ensures s.some_species s.few_species

pub returns : goal.returns
returns c =
    plain-found _ _ _ _ _ (passed (goal.at.returns c).In_ok-plain_shape) c.in_ok-judge_genes.ensures c.in_ok-judge_allowed.ensures
    (c.answer.ensures _ _ _ c.first_least.ensures)
