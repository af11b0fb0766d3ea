-- The pieces stand one behind the other, and there is room for each.
use mathlib.Core.Path.{refl}
use native.Mathlib.Omega.{arith}
use Rattle.printing.specs.Words.{refused_text, at_text, decimal}
use Rattle.printing.proofs.Printing.{put_then, put-then_both, put_report, refused-length, Room, room_all, room-labelled}
use Rattle.printing.proofs.refusal.Goals.{After-labelled-at, After-labelled-at-2}
use Rattle.printing.proofs.refusal.Goals as goal

after-number : (c : After-labelled-at) → Room 28 c.labelled-at.result c.labelled-at.new.out
after-number c =
    room-labelled refused_text c.args.number (room_all refl) c.labelled-at.ensures

after-place :
    (c : After-labelled-at-2) →
    Room 28 c.labelled-at.result c.labelled-at.new.out →
    Room 52 c.labelled-at-2.result c.labelled-at-2.new.out
after-place c number = room-labelled at_text c.args.place number c.labelled-at-2.ensures

pub labelled-at-requires-2 : goal.labelled-at-requires-2
labelled-at-requires-2 c =
    let room = after-number (goal.at.labelled-at-requires-2 c).After-labelled-at in omega (arith, room.bytes, room.used)

pub word-len-requires : goal.word-len-requires
word-len-requires c =
    let at = goal.at.word-len-requires c in
    let room = after-place at.After-labelled-at-2 (after-number at.After-labelled-at) in
    omega (arith, room.bytes, room.used)

pub returns : goal.returns
returns c =
    let args = c.args in
    put_report (omega (arith, refused-length args.number args.place))
    (put_then (put-then_both at_text (decimal args.place) c.labelled-at.ensures c.labelled-at-2.ensures) c.word-len.ensures)
