use Rattle.std.proofs.Common.{arith, sym, ◌∙◌, refl, get_or, drop, length-drop}
use Rattle.labels.proofs.FirstBytes.{next_within}
use Rattle.labels.proofs.Quotes.{Letter, letter_at}
use Rattle.labels.proofs.Scans.{scanning_begun, scanning_more, scan_closed, scan_stray, scan_open, scan_long}
use Rattle.labels.proofs.quoted.Goals.{Else-n-eq15}
use Rattle.labels.proofs.quoted.Goals as goal

-- a letter stands at i, and takes the bytes that were counted
letter :
    (c : Else-n-eq15)
    → let text = c.args.text.now in
    Letter (drop c.loop-i.i text) (get_or text c.loop-i.i 0) c.in-Some.width
letter c =
    letter_at c.args.text.now c.loop-i.i c.loop-i-test.true c.in-Some.width (sym c.letter_width.ensures ∙ c.in-Some.is)

pub overflow_add-i : goal.overflow_add-i
overflow_add-i c =
    let here = next_within 39 c.args.text.now c.args.at c.requires in omega arith

pub loop-i-init : goal.loop-i-init
loop-i-init c =
    scanning_begun c.args.text.now c.args.at c.requires

pub returns-then-b-eq39 : goal.returns-then-b-eq39
returns-then-b-eq39 c =
    c.closed.ensures
    ∙ scan_closed c.args.text.now c.args.at c.loop-i.n c.loop-i.i c.loop-i.name c.loop-i.invariant c.loop-i-test.true
    c.if-b-eq39.true (sym c.letter_width.ensures ∙ c.in_default.is)

pub returns-in_default : goal.returns-in_default
returns-in_default c =
    rw c.at.ensures
    (scan_stray c.args.text.now c.args.at c.loop-i.n c.loop-i.i c.loop-i.name c.loop-i.invariant c.loop-i-test.true
    c.if-b-eq39.false (sym c.letter_width.ensures ∙ c.in_default.is))

pub returns-then-n-eq15 : goal.returns-then-n-eq15
returns-then-n-eq15 c =
    rw c.at-then-n-eq15.ensures
    (scan_long c.args.text.now c.args.at c.loop-i.n c.loop-i.i c.loop-i.name c.loop-i.invariant _ c.loop-i-test.true
    (sym c.letter_width.ensures ∙ c.in-Some.is) c.if-n-eq15.true)

pub overflow_add-i-in-loop-i : goal.overflow_add-i-in-loop-i
overflow_add-i-in-loop-i c =
    let left = length-drop c.loop-i.i c.args.text.now in
    omega (arith, (letter (goal.at.overflow_add-i-in-loop-i c).Else-n-eq15).within)

pub loop-i-smaller : goal.loop-i-smaller
loop-i-smaller c =
    let left = length-drop c.loop-i.i c.args.text.now in
    omega (arith, (letter (goal.at.loop-i-smaller c).Else-n-eq15).within, (letter (goal.at.loop-i-smaller c).Else-n-eq15).some)

pub loop-i-preserved : goal.loop-i-preserved
loop-i-preserved c =
    scanning_more c.args.text.now c.args.at c.loop-i.n c.loop-i.i c.loop-i.name c.loop-i.invariant
    c.loop-i-test.true _ c.in-Some.width refl (sym c.letter_width.ensures ∙ c.in-Some.is) c.if-n-eq15.false

pub returns : goal.returns
returns c =
    rw c.at-2.ensures
    (scan_open c.args.text.now c.args.at c.loop-i.n c.loop-i.i c.loop-i.name c.loop-i.invariant c.loop-i-test.false)
