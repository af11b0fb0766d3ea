use Rattle.std.proofs.Common.{◌≡◌, ℕ, ◌+◌, ◌^◌, ◌≤◌, length, arith, pow_pos, pow_mono}
use Rattle.clusters.specs.Sets.{single}
use Rattle.sums.proofs.Steps.{step_start, step_fits, step_small, step_next, step_end}
use Rattle.sums.proofs.zeta.step.Goals.{In-loop-start, After-single-half}
use Rattle.sums.proofs.zeta.step.Goals as goal

-- half a block
half_is : (r i : ℕ) → r ≡ single i → r ≡ 2 ^ i
unfolding single
half_is r i e = e

-- the next block is there in both tables, which have at most 65,536 entries
block :
    (c : In-loop-start) → let ends = c.loop-start.start + c.single-half.result + c.single-half.result in
    (ends ≤ length c.args.sums.now) × (ends ≤ length c.args.lost.now) × (length c.args.sums.now ≤ 65536)
block c =
    let sums = c.requires.sums_len in
    let lost = c.requires.lost_len in
    let fits = step_fits c.loop-start.invariant.0 c.requires.i_lt_n sums (half_is _ _ c.single-half.ensures) (omega arith) in
    (fits, omega arith, omega (arith, pow_mono {i = c.args.n} {j = 16} c.requires.n_bound))

pub nonzero_div-start-step : goal.nonzero_div-start-step
nonzero_div-start-step c =
    omega (arith, half_is _ _ c.single-half.ensures, pow_pos c.args.i)

pub loop-start-init : goal.loop-start-init
loop-start-init c =
    (step_start _ _, step_start _ _)

pub add_half-requires-clause-half_in_bounds : goal.add_half-requires-clause-half_in_bounds
add_half-requires-clause-half_in_bounds c =
    let fits = block (goal.at.add_half-requires-clause-half_in_bounds c).In-loop-start in
    let same = c.loop-start.invariant.0.same in
    omega arith

pub add_half-requires-clause-by_index : goal.add_half-requires-clause-by_index
add_half-requires-clause-by_index c =
    let fits = block (goal.at.add_half-requires-clause-by_index c).In-loop-start in
    step_small c.loop-start.invariant.1 (half_is _ _ c.single-half.ensures) fits.1 c.requires.at_most
    (λ a l. omega (arith, (goal.at.add_half-requires-clause-by_index c).After-single-half.type_inv.lost a))

pub loop-start-smaller : goal.loop-start-smaller
loop-start-smaller c =
    omega (arith, half_is _ _ c.single-half.ensures, pow_pos c.args.i)

pub loop-start-preserved : goal.loop-start-preserved
loop-start-preserved c =
    let fits = block (goal.at.loop-start-preserved c).In-loop-start in
    let half = half_is _ _ c.single-half.ensures in
    (step_next c.loop-start.invariant.0 half fits.0 c.add_half.ensures.half_added, step_next c.loop-start.invariant.1 half fits.1 c.add_half.ensures.half_added_2)

pub returns-clause-sums_after : goal.returns-clause-sums_after
returns-clause-sums_after c =
    step_end c.loop-start.invariant.0 (omega arith)

pub returns-clause-lost_after : goal.returns-clause-lost_after
returns-clause-lost_after c =
    let long = c.requires.sums_len in
    let long-too = c.requires.lost_len in
    step_end c.loop-start.invariant.1 (omega arith)

pub returns-2-clause-sums_after : goal.returns-2-clause-sums_after
returns-2-clause-sums_after c =
    let fits = block (goal.at.returns-2-clause-sums_after c).In-loop-start in
    let half = half_is _ _ c.single-half.ensures in
    step_end (step_next c.loop-start.invariant.0 half fits.0 c.add_half.ensures.half_added) (omega arith)

pub returns-2-clause-lost_after : goal.returns-2-clause-lost_after
returns-2-clause-lost_after c =
    let fits = block (goal.at.returns-2-clause-lost_after c).In-loop-start in
    let half = half_is _ _ c.single-half.ensures in
    let long = c.requires.sums_len in
    let long-too = c.requires.lost_len in
    step_end (step_next c.loop-start.invariant.1 half fits.1 c.add_half.ensures.half_added_2) (omega arith)
