-- `texts::node::Source::note` meets its contract: nothing without counts, else a colon and the count that stands at the cluster's place.
use mathlib.Core.Path.{◌≡◌, refl, ap}
use mathlib.Core.List.{◌∷◌}
use native.Mathlib.Omega.{arith}
use lib.ListN.{length, get_or, length-set}
use Rattle.std.specs.Prelude.{Some}
use Rattle.printing.specs.Words.{decimal}
use Rattle.printing.proofs.Printing.{put_byte, put_then}
use Rattle.texts.specs.Work.{lent, note_in}
use Rattle.texts.proofs.Noted.{note_in_none, note-placed}
use Rattle.texts.proofs.node.Source.note.Goals.{After-place-i}
use Rattle.texts.proofs.node.Source.note.Goals as goal

-- the note, by the place found
noted :
    (c : After-place-i)
    → let s = c.args in
    note_in (lent s.self.now.counts) s.self.now.numbers.now s.cluster ≡ 58 ∷ decimal (get_or c.in-Some.counts.now c.place-i.result 0)
noted c =
    let p = c.place-i.ensures in
    rw c.in-Some.is (note-placed (Some c.in-Some.counts.now) c.requires.listed.valid.form p.0 p.1 p.2)

pub returns-in_default : goal.returns-in_default
returns-in_default c =
    let s = c.args in
    rw (c.in_default.is, note_in_none s.self.now.numbers.now s.cluster) (record { ended = omega arith; stored = refl })

pub bounds-out-at : goal.bounds-out-at
bounds-out-at c =
    let l = ap length (noted (goal.at.bounds-out-at c).After-place-i) in omega arith

pub decimal-requires : goal.decimal-requires
decimal-requires c =
    let l = ap length (noted (goal.at.decimal-requires c).After-place-i) in simp length-set (omega arith)

pub returns : goal.returns
returns c =
    let s = c.args in
    rw (noted (goal.at.returns c).After-place-i) (put_then (put_byte s.out.now s.at 58) c.decimal.ensures)
