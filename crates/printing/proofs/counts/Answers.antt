-- The pieces stand one behind the other, and there is room for each.
use mathlib.Core.List.{◌++◌}
use native.Mathlib.Omega.{arith}
use Rattle.printing.specs.Words.{taxa_text, genes_text, score_text, ties_text, newline, decimal}
use Rattle.printing.proofs.Printing.{put_then, put-then_both, put-then-three, Room, room_all, room-labelled}
use Rattle.printing.proofs.counts.Goals.{After-labelled-at, After-labelled-at-2, After-labelled-at-3, After-labelled-at-4}
use Rattle.printing.proofs.counts.Goals as goal

after-species : (c : After-labelled-at) → Room 25 c.labelled-at.result c.labelled-at.new.out
after-species c = room-labelled taxa_text _ (room_all c.requires) c.labelled-at.ensures

after-trees :
    (c : After-labelled-at-2) →
    Room 25 c.labelled-at.result c.labelled-at.new.out →
    Room 52 c.labelled-at-2.result c.labelled-at-2.new.out
after-trees c species = room-labelled genes_text _ species c.labelled-at-2.ensures

after-score :
    (c : After-labelled-at-3) →
    Room 52 c.labelled-at-2.result c.labelled-at-2.new.out →
    Room 79 c.labelled-at-3.result c.labelled-at-3.new.out
after-score c trees = room-labelled (newline ++ score_text) _ trees c.labelled-at-3.ensures

after-ties :
    (c : After-labelled-at-4) →
    Room 79 c.labelled-at-3.result c.labelled-at-3.new.out →
    Room 105 c.labelled-at-4.result c.labelled-at-4.new.out
after-ties c score = room-labelled (newline ++ ties_text) _ score c.labelled-at-4.ensures

pub labelled-at-requires-2 : goal.labelled-at-requires-2
labelled-at-requires-2 c =
    let room = after-species (goal.at.labelled-at-requires-2 c).After-labelled-at in omega (arith, room.bytes, room.used)

pub labelled-at-requires-3 : goal.labelled-at-requires-3
labelled-at-requires-3 c =
    let at = goal.at.labelled-at-requires-3 c in
    let room = after-trees at.After-labelled-at-2 (after-species at.After-labelled-at) in
    omega (arith, room.bytes, room.used)

pub labelled-at-requires-4 : goal.labelled-at-requires-4
labelled-at-requires-4 c =
    let at = goal.at.labelled-at-requires-4 c in
    let trees = after-trees at.After-labelled-at-2 (after-species at.After-labelled-at) in
    let room = after-score at.After-labelled-at-3 trees in
    omega (arith, room.bytes, room.used)

pub word-requires : goal.word-requires
word-requires c =
    let at = goal.at.word-requires c in
    let trees = after-trees at.After-labelled-at-2 (after-species at.After-labelled-at) in
    let room = after-ties at.After-labelled-at-4 (after-score at.After-labelled-at-3 trees) in
    omega (arith, room.bytes, room.used)

pub returns : goal.returns
returns c =
    let args = c.args in
    let counted = put-then_both genes_text (decimal args.count) c.labelled-at.ensures c.labelled-at-2.ensures in
    let scored = put-then-three newline score_text (decimal args.score) counted c.labelled-at-3.ensures in
    put_then (put-then-three newline ties_text (decimal args.ties) scored c.labelled-at-4.ensures) c.word.ensures
