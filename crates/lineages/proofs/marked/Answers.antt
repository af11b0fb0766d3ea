-- `lineages::marked` meets its contract: one law for each way through the checks.
use Rattle.std.proofs.Common.{◌≡◌, ◌^◌, refl, sym, arith, rules}
use Rattle.std.proofs.lemmas.Result.{err_from_is_err_and}
use Rattle.clusters.specs.Sets.{single}
use Rattle.lineages.specs.InOrder.{Shaped}
use Rattle.lineages.proofs.FirstBad.{checked_markable}
use Rattle.lineages.proofs.Verdicts.{shaped}
use Rattle.lineages.proofs.Calls.{marks-shape, marks-short, marks_bad, marks_done}
use Rattle.lineages.proofs.marked.Goals.{In_ok-shape, After-single-entries}
use Rattle.lineages.proofs.marked.Goals as goal

-- behind the first check
passed : (c : In_ok-shape) → Shaped c.args.n c.args.genes.now c.args.count
passed c = shaped _ _ _ (sym c.in_ok-shape.ensures)

-- what is to be cleared: 2^n entries
entries-power : (c : After-single-entries) → c.single-entries.result ≡ 2 ^ c.args.n
unfolding single
entries-power c = c.single-entries.ensures

pub returns-in_err-shape : goal.returns-in_err-shape
returns-in_err-shape c =
    let p = err_from_is_err_and c.from_residual.result c.from_residual.ensures.1 in
    rw (p.1, p.2) (marks-shape _ _ _ _ _ c.in_err-shape.field-0.0 c.in_err-shape.ensures refl)

pub single-entries-requires : goal.single-entries-requires
single-entries-requires c =
    let s = passed (goal.at.single-entries-requires c).In_ok-shape in omega (arith, s.few_species)

pub returns-then-out-entries : goal.returns-then-out-entries
returns-then-out-entries c =
    let power = entries-power (goal.at.returns-then-out-entries c).After-single-entries in
    rw c.at.ensures (marks-short _ _ _ _ _ (passed (goal.at.returns-then-out-entries c).In_ok-shape) (omega arith) refl)

pub judge_genes-requires : goal.judge_genes-requires
judge_genes-requires c =
    let s = passed (goal.at.judge_genes-requires c).In_ok-shape in record { n_bound = s.few_species; count_in_bounds = s.fits }

pub returns-in_err-judge_genes : goal.returns-in_err-judge_genes
returns-in_err-judge_genes c =
    let power = entries-power (goal.at.returns-in_err-judge_genes c).After-single-entries in
    let p = err_from_is_err_and c.from_residual-in_err-judge_genes.result c.from_residual-in_err-judge_genes.ensures.1 in
    rw (p.1, p.2)
    (marks_bad _ _ _ _ _ (passed (goal.at.returns-in_err-judge_genes c).In_ok-shape) (omega arith) c.in_err-judge_genes.field-0.0 c.in_err-judge_genes.ensures refl)

pub mark_shown-requires : goal.mark_shown-requires
mark_shown-requires c =
    let s = passed (goal.at.mark_shown-requires c).In_ok-shape in
    record {
      count_in_bounds = s.fits;
      entries_in_bounds = search rules;
      all_markable = rw (entries-power (goal.at.mark_shown-requires c).After-single-entries) (checked_markable _ _ _ c.in_ok-judge_genes.ensures s.few_species);
    }

pub returns : goal.returns
returns c =
    let s = passed (goal.at.returns c).In_ok-shape in
    let power = entries-power (goal.at.returns c).After-single-entries in
    marks_done _ _ _ _ _ s (omega arith) c.in_ok-judge_genes.ensures (rw (← power) c.mark_shown.ensures)
