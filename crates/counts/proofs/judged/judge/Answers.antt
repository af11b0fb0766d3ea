-- `judged::judge` meets its contract: one law for each way through its tests.
use mathlib.Core.Path.{sym}
use native.Mathlib.Omega.{arith}
use Rattle.labels.proofs.Exits.{passed_on}
use Rattle.lineages.specs.InOrder.{Shaped}
use Rattle.lineages.proofs.Verdicts.{shaped}
use Rattle.counts.proofs.CallFaults.{call_shape, call-short, call_not_binary, call-genes}
use Rattle.counts.proofs.judged.judge.Goals.{In_ok-shape}
use Rattle.counts.proofs.judged.judge.Goals as goal

-- behind the first check
passed : (c : In_ok-shape) → let args = c.args in Shaped args.n args.genes.now args.count
passed c = shaped _ _ _ (sym c.in_ok-shape.ensures)

pub returns-in_err-shape : goal.returns-in_err-shape
returns-in_err-shape c =
    rw (passed_on c.from_residual.result c.from_residual.ensures.1)
    (call_shape _ _ _ _ _ _ _ c.requires.le_n c.requires.n_bound c.in_err-shape.field-0.0 c.in_err-shape.ensures)

pub judge_genes-requires : goal.judge_genes-requires
judge_genes-requires c =
    let s = passed (goal.at.judge_genes-requires c).In_ok-shape in record {
      n_bound = s.few_species;
      count_in_bounds = s.fits;
    }

pub returns-then-scores-entries : goal.returns-then-scores-entries
returns-then-scores-entries c =
    call-short _ _ _ _ _ _ _ c.requires.le_n c.requires.n_bound (passed (goal.at.returns-then-scores-entries c).In_ok-shape) _ c.then-scores-entries.either c.at.ensures

pub returns-then-not-binary : goal.returns-then-not-binary
returns-then-not-binary c =
    call_not_binary _ _ _ _ _ _ _ c.requires.le_n c.requires.n_bound (passed (goal.at.returns-then-not-binary c).In_ok-shape) (omega arith) (omega arith) _
    c.if-not-binary.true c.at-then-not-binary.ensures

pub returns : goal.returns
returns c =
    call-genes _ _ _ _ _ _ _ c.requires.le_n c.requires.n_bound (passed (goal.at.returns c).In_ok-shape) (omega arith) (omega arith) _
    c.if-not-binary.false c.judge_genes.ensures
