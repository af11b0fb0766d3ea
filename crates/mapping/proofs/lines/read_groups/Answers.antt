use native.Mathlib.Omega.{arith}
use Rattle.labels.proofs.Exits.{passed_on}
use Rattle.mapping.proofs.MappingReads.{passed_none, head_onward, head-refused, group-refused, passed_more, lines-beyond, lines-leave-out, lines-good}
use Rattle.mapping.proofs.lines.read_groups.Goals.{then-at-text-via-then-at-text, then-at-text-via-else-at-text+then-taken-whole}
use Rattle.mapping.proofs.lines.read_groups.Goals as goal

pub loop-i-init : goal.loop-i-init
loop-i-init c =
    passed_none _ _ _ _ _

pub returns-in_err-start : goal.returns-in_err-start
returns-in_err-start c =
    rw (passed_on c.from_residual.result c.from_residual.ensures.1) (head-refused _ _ _ _ _ _ _ _ _ c.loop-i.invariant c.loop-i-test.true c.head_at.result c.head_at.ensures _ c.in_err-start.was)

pub group_at-requires : goal.group_at-requires
group_at-requires c =
    let on = head_onward _ _ _ _ _ _ _ _ _ c.loop-i.invariant c.loop-i-test.true c.head_at.result c.head_at.ensures _ c.in_ok-start.was in
    (c.requires.1, on.1)

pub returns-in_err-group : goal.returns-in_err-group
returns-in_err-group c =
    rw (passed_on c.from_residual-in_err-group.result c.from_residual-in_err-group.ensures.1) (group-refused _ _ _ _ _ _ _ _ _ c.loop-i.invariant c.loop-i-test.true c.head_at.result c.head_at.ensures _ c.in_ok-start.was
    c.group_at.result c.group_at.ensures _ c.in_err-group.was)

pub loop-i-preserved : goal.loop-i-preserved
loop-i-preserved c =
    passed_more _ _ _ _ _ _ _ _ _ c.loop-i.invariant c.loop-i-test.true c.head_at.result c.head_at.ensures _ c.in_ok-start.was
    c.group_at.result c.group_at.ensures _ c.in_ok-group.was c.requires.0 _ c.union-taken.ensures

pub returns-then-at-text : goal.returns-then-at-text
returns-then-at-text c =
    rw c.at.ensures (elim c.then-at-text.branch [
      | then-at-text-via-then-at-text w ↦ lines-beyond _ _ _ _ _ _ _ _ _ c.loop-i.invariant c.loop-i-test.false w.if-at-text.true
      | then-at-text-via-else-at-text+then-taken-whole w ↦
          let other = w.if-taken-whole.true in
          lines-leave-out _ _ _ _ _ _ _ _ _ c.loop-i.invariant c.loop-i-test.false w.if-at-text.false _ w.whole.ensures (λ same. omega arith)
    ])

pub returns : goal.returns
returns c =
    let same = c.if-taken-whole.false in
    lines-good _ _ _ _ _ _ _ _ _ c.loop-i.invariant c.loop-i-test.false c.if-at-text.false _ c.whole.ensures c.requires.0 (omega arith)
