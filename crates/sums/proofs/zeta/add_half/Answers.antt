use Rattle.std.proofs.Common.{refl, arith}
use Rattle.sums.proofs.Steps.{half_start, half-read, half_next, half_end}
use Rattle.sums.proofs.zeta.add_half.Goals as goal

pub loop-a-init : goal.loop-a-init
loop-a-init c =
    (half_start _ _ _, half_start _ _ _)

pub overflow_add-lost : goal.overflow_add-lost
overflow_add-lost c =
    let small = c.requires.by_index c.loop-a.a c.loop-a.invariant.1.from (omega arith) in
    let read = half-read c.loop-a.invariant.1 (omega arith) in
    omega arith

pub loop-a-preserved : goal.loop-a-preserved
loop-a-preserved c =
    let sums = c.requires.sums_len in
    let fits = c.requires.half_in_bounds in
    let small = c.requires.by_index c.loop-a.a c.loop-a.invariant.1.from (omega arith) in
    let read = half-read c.loop-a.invariant.1 (omega arith) in (
      half_next c.loop-a.invariant.0 (omega arith) (omega arith) refl,
      half_next c.loop-a.invariant.1 (omega arith) (omega arith) (omega arith),
    )

pub returns-clause-half_added : goal.returns-clause-half_added
returns-clause-half_added c =
    half_end c.loop-a.invariant.0 (omega arith)

pub returns-clause-half_added_2 : goal.returns-clause-half_added_2
returns-clause-half_added_2 c =
    half_end c.loop-a.invariant.1 (omega arith)
