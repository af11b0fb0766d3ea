-- `plain::plain_shape` meets its contract: each way out is the first fault, or none.
use Prim.Native.Nat.{◌^◌}
use Rattle.std.proofs.Common.{◌≡◌, sym}
use Rattle.std.proofs.lemmas.Result.{err_from_is_err_and}
use native.Mathlib.Omega.{arith}
use Rattle.clusters.specs.Sets.{single}
use Rattle.lineages.specs.InOrder.{Shaped}
use Rattle.lineages.proofs.Verdicts.{shaped}
use Rattle.plain.proofs.Judging.{many_species, over_seven, shape-told-by, short, well_shaped}
use Rattle.plain.proofs.plain_shape.Goals.{After-single, In_ok-shape}
use Rattle.plain.proofs.plain_shape.Goals as goal

-- behind the checks of the gene trees
passed : (c : In_ok-shape) → let args = c.args in Shaped args.n args.genes.now args.count
passed c = shaped _ _ _ (sym c.in_ok-shape.ensures)

-- so many entries are needed
power : (c : After-single) → c.single.result ≡ 2 ^ c.args.n
unfolding single
power c = c.single.ensures

pub returns-then-n-gt16 : goal.returns-then-n-gt16
returns-then-n-gt16 c =
    rw c.at.ensures (many_species _ _ _ _ (omega arith))

pub returns-then-n-gt7 : goal.returns-then-n-gt7
returns-then-n-gt7 c =
    rw c.at-then-n-gt7.ensures (over_seven _ _ _ _ (omega arith) (omega arith))

pub returns-in_err-shape : goal.returns-in_err-shape
returns-in_err-shape c =
    let p = err_from_is_err_and c.from_residual.result c.from_residual.ensures.1 in
    rw (p.1, p.2) (shape-told-by _ _ _ _ (omega arith) c.in_err-shape.field-0.0 c.in_err-shape.ensures)

pub returns-then-allowed-single : goal.returns-then-allowed-single
returns-then-allowed-single c =
    rw c.at-then-allowed-single.ensures
    (short _ _ _ _ (omega arith) (passed (goal.at.returns-then-allowed-single c).In_ok-shape) (omega (arith, power (goal.at.returns-then-allowed-single c).After-single)))

pub returns : goal.returns
returns c =
    well_shaped _ _ _ _ (omega arith) (passed (goal.at.returns c).In_ok-shape) (omega (arith, power (goal.at.returns c).After-single))
