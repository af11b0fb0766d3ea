-- `search::tied::ties_shape` meets its contract: the tests of shape, then the third table's length.
use Rattle.std.proofs.Common.{◌≡◌, ◌^◌, sym, arith}
use Rattle.std.proofs.lemmas.Result.{err_from_is_err_and}
use Rattle.clusters.specs.Sets.{single}
use Rattle.lineages.specs.InOrder.{Shaped}
use Rattle.lineages.proofs.Verdicts.{refused_first, shaped}
use Rattle.search.proofs.Tying.{ties-short, ties-passed}
use Rattle.search.proofs.tied.ties_shape.Goals.{After-single, In_ok-shape}
use Rattle.search.proofs.tied.ties_shape.Goals as goal

-- behind the first check
passed : (c : In_ok-shape) → let args = c.args in Shaped args.n args.genes.now args.count
passed c = shaped _ _ _ (sym c.in_ok-shape.ensures)

-- so many entries are needed
power : (c : After-single) → c.single.result ≡ 2 ^ c.args.n
unfolding single
power c = c.single.ensures

pub returns-in_err-shape : goal.returns-in_err-shape
returns-in_err-shape c =
    let p = err_from_is_err_and c.from_residual.result c.from_residual.ensures.1 in
    rw (p.1, p.2) (sym (refused_first _ _ c.in_err-shape.field-0.0 c.in_err-shape.ensures))

pub single-requires : goal.single-requires
single-requires c =
    let few = (passed (goal.at.single-requires c).In_ok-shape).few_species in omega arith

pub returns-then-ties-single : goal.returns-then-ties-single
returns-then-ties-single c =
    let entries = power (goal.at.returns-then-ties-single c).After-single in
    rw c.at.ensures (sym (ties-short _ _ _ c.args.ties.now (passed (goal.at.returns-then-ties-single c).In_ok-shape) (omega arith)))

pub returns : goal.returns
returns c =
    let entries = power (goal.at.returns c).After-single in
    sym (ties-passed _ _ _ c.args.ties.now (passed (goal.at.returns c).In_ok-shape) (omega arith))
