use Prim.Native.Nat.{◌<◌}
use native.Mathlib.Omega.{arith}
use lib.ListN.{length}
use Rattle.labels.proofs.Exits.{passed_on}
use Rattle.mapping.proofs.LineReads.{gathered_none, followed, group_fails, group-stray, group_ends, gathered_more}
use Rattle.mapping.proofs.lines.group_at.Goals.{After-union-set}
use Rattle.mapping.proofs.lines.group_at.Goals as goal

-- a byte stands behind the individual's label
here :
    (c : After-union-set)
    → (c.loop-member.at < c.in_ok-member.member.next) × (c.in_ok-member.member.next < length c.args.text.now)
here c =
    followed _ _ _ _ _ _ _ c.loop-member.invariant _ c.union.ensures c.member_at.result c.member_at.ensures _ c.in_ok-member.was

pub loop-member-init : goal.loop-member-init
loop-member-init c =
    gathered_none _ _ _ _ _ c.requires.1

pub returns-in_err-member : goal.returns-in_err-member
returns-in_err-member c =
    rw (passed_on c.from_residual.result c.from_residual.ensures.1) (group_fails _ _ _ _ _ _ _ c.loop-member.invariant _ c.union.ensures c.member_at.result c.member_at.ensures _ c.in_err-member.was)

pub overflow_add-at : goal.overflow_add-at
overflow_add-at c =
    let h = here (goal.at.overflow_add-at c).After-union-set in
    omega (arith, h.1)

pub bounds-text-member : goal.bounds-text-member
bounds-text-member c =
    (here (goal.at.bounds-text-member c).After-union-set).1

pub returns-in-10 : goal.returns-in-10
returns-in-10 c =
    group_ends _ _ _ _ _ _ _ c.loop-member.invariant _ c.union.ensures c.member_at.result c.member_at.ensures _ c.in_ok-member.was _ c.union-set.ensures c.in-10.is

pub returns-in_default : goal.returns-in_default
returns-in_default c =
    rw c.at.ensures (group-stray _ _ _ _ _ _ _ c.loop-member.invariant _ c.union.ensures c.member_at.result c.member_at.ensures _ c.in_ok-member.was (λ e. omega arith) (λ e. omega arith))

pub loop-member-smaller : goal.loop-member-smaller
loop-member-smaller c =
    let h = here (goal.at.loop-member-smaller c).After-union-set in
    omega (arith, h.0, h.1)

pub loop-member-preserved : goal.loop-member-preserved
loop-member-preserved c =
    gathered_more _ _ _ _ _ _ _ c.loop-member.invariant _ c.union.ensures c.member_at.result c.member_at.ensures _ c.in_ok-member.was _ c.union-set.ensures c.in-44.is
