-- `sheet::judge_call` meets its contract: 1, 11 and 12, then 15 and 19.
use Rattle.std.proofs.Common.{sym}
use Rattle.std.proofs.lemmas.Result.{err_from_is_err_and}
use Rattle.lineages.specs.InOrder.{Shaped}
use Rattle.lineages.proofs.Verdicts.{shaped}
use Rattle.sheet.proofs.Judged.{refused-shape, judged-genes}
use Rattle.sheet.proofs.judge_call.Goals.{In_ok-shape}
use Rattle.sheet.proofs.judge_call.Goals as goal

-- behind the first check
passed : (c : In_ok-shape) → Shaped c.args.n c.args.genes.now c.args.count
passed c = shaped _ _ _ (sym c.in_ok-shape.ensures)

pub returns-in_err-shape : goal.returns-in_err-shape
returns-in_err-shape c =
    let p = err_from_is_err_and c.from_residual.result c.from_residual.ensures.1 in
    rw (p.1, p.2) (refused-shape _ _ _ _ c.in_err-shape.field-0.0 c.in_err-shape.ensures)

pub judge_genes-requires : goal.judge_genes-requires
judge_genes-requires c =
    let s = passed (goal.at.judge_genes-requires c).In_ok-shape in record { n_bound = s.few_species; count_in_bounds = s.fits }

pub returns : goal.returns
returns c = judged-genes _ _ _ _ (passed (goal.at.returns c).In_ok-shape) c.judge_genes.ensures
