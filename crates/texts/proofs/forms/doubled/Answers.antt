use Prim.Native.Nat.{◌+◌}
use mathlib.Core.List.{◌∷◌}
use native.Mathlib.Omega.{arith}
use lib.ListN.{get_or, drop}
use Rattle.labels.specs.Labels.{doubled}
use Rattle.texts.proofs.Storing.{Going, going-byte, going-room, going_end}
use Rattle.texts.proofs.TwoForms.{quote_on, plain_on, doubled_end}
use Rattle.texts.proofs.forms.doubled.Goals.{Joined-quote, Then-quote, then-quote, else-quote}
use Rattle.texts.proofs.forms.doubled.Goals as goal

-- at a quote the same byte is left once more
quote_left :
    (c : Then-quote)
    → let s = c.args in
    let b = get_or s.name.now c.loop-b.b-index 0 in
    Going s.out.now s.at (doubled s.name.now) c.loop-b.out c.loop-b.end (b ∷ b ∷ doubled (drop (c.loop-b.b-index + 1) s.name.now))
quote_left c =
    rw (quote_on c.args.name.now c.loop-b.b-index (omega arith) c.if-quote.true) at c.loop-b.invariant

-- behind the test, at a quote or not, the byte and the rest of the name are left
byte_left :
    (c : Joined-quote)
    → let s = c.args in
    Going s.out.now s.at (doubled s.name.now) c.if-quote.out c.if-quote.end
    (get_or s.name.now c.loop-b.b-index 0 ∷ doubled (drop (c.loop-b.b-index + 1) s.name.now))
byte_left c =
    let name = c.args.name.now in
    let i = c.loop-b.b-index in
    elim c.if-quote.branch [
      | then-quote w ↦
          rw (w.out-is, w.end-is)
          (going-byte (rw (quote_on name i (omega arith) w.if-quote.true) at c.loop-b.invariant))
      | else-quote w ↦
          rw (w.out-is, w.end-is) (rw (plain_on name i (omega arith) w.if-quote.false) at c.loop-b.invariant)
    ]

pub bounds-out-end : goal.bounds-out-end
bounds-out-end c =
    let g = quote_left (goal.at.bounds-out-end c).Then-quote in omega (arith, going-room g, g.long)

pub bounds-out-end-in-loop-b : goal.bounds-out-end-in-loop-b
bounds-out-end-in-loop-b c =
    let g = byte_left (goal.at.bounds-out-end-in-loop-b c).Joined-quote in omega (arith, going-room g, g.long)

pub loop-b-preserved : goal.loop-b-preserved
loop-b-preserved c =
    going-byte (byte_left (goal.at.loop-b-preserved c).Joined-quote)

pub returns : goal.returns
returns c =
    let name = c.args.name.now in
    going_end (rw (doubled_end name c.loop-b.b-index (omega arith)) at c.loop-b.invariant)
