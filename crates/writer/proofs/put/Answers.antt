-- `writer::put` meets its contract: the text is written once its length is judged, whatever notes the counts give.
use Prim.Native.Nat.{ℕ, ◌+◌, ◌≤◌}
use mathlib.Core.Path.{◌≡◌, refl, ap}
use mathlib.Core.List.{List}
use native.Mathlib.Omega.{arith}
use borrow.Author.Rules.{rules}
use Rattle.std.specs.Prelude.{Ok, Err}
use lib.ListN.{length}
use Rattle.roster.specs.Roster.{names}
use Rattle.faults.specs.declared.Refusal.{Refusal}
use Rattle.roster.specs.Judged.{reply_to}
use Rattle.texts.specs.Writing.{written_with}
use Rattle.texts.specs.Work.{lent, Notes, note_in}
use Rattle.texts.proofs.Noted.{notes_in}
use Rattle.writer.specs.Work.{Given}
use Rattle.writer.proofs.WholeText.{given-table, given-listed, given-counts, given-length, given-short, given-room, end_room, given-stored}
use Rattle.writer.proofs.Outcomes.{puts-short, puts_done}
use Rattle.writer.proofs.put.Goals.{After-notes_length, Else-out-length}
use Rattle.writer.proofs.put.Goals as goal

-- the length judged is that of the text, with the notes that the counts give
length_there :
    (c : After-notes_length) (line : List ℕ) (notes : ℕ → List ℕ)
    → let s = c.args in
    Given line s.n s.table.now → Notes (lent s.counts) s.numbers.now notes
    → c.text_length.result + c.notes_length.result ≡ length (written_with notes (names line) s.numbers.now)
length_there c line notes g noted =
    given-length g c.requires.gene_valid refl notes noted c.text_length.result c.notes_length.result c.text_length.ensures c.notes_length.ensures

-- such notes there are
own :
    (c : After-notes_length)
    → let s = c.args in
    Notes (lent s.counts) s.numbers.now (note_in (lent s.counts) s.numbers.now)
own c =
    notes_in (lent c.args.counts) c.requires.gene_valid.valid.form

-- the text has room
room :
    (c : Else-out-length) (line : List ℕ) (notes : ℕ → List ℕ)
    → let s = c.args in
    c.text_length.result + c.notes_length.result ≡ length (written_with notes (names line) s.numbers.now)
    → length (written_with notes (names line) s.numbers.now) ≤ length s.out.now
room c line notes l = omega arith

pub text_length-requires : goal.text_length-requires
text_length-requires c =
    let all = given-counts c.requires.by_index.1 c.requires.gene_valid refl in
    record { n_bound = all.0; set_bound = all.1 }

pub overflow_add-length : goal.overflow_add-length
overflow_add-length c =
    let line = c.requires.by_index in
    let notes = note_in (lent c.args.counts) c.args.numbers.now in
    let at = goal.at.overflow_add-length c in
    let l = length_there at.After-notes_length line.0 notes line.1 (own at.After-notes_length) in
    let b = given-short line.1 c.requires.gene_valid refl notes (own at.After-notes_length) in
    search rules

pub returns-then-out-length : goal.returns-then-out-length
returns-then-out-length c =
    let s = c.args in
    record {
      puts = λ line notes g noted.
          let l = length_there (goal.at.returns-then-out-length c).After-notes_length line notes g noted in
          puts-short (written_with notes (names line) s.numbers.now) s.out.now (omega arith) (ap (λ (e : Refusal). reply_to (Err e)) c.at.ensures) refl;
    }

pub node-end-requires : goal.node-end-requires
node-end-requires c =
    let g = c.requires.by_index.1 in
    let v = c.requires.gene_valid in
    let notes = note_in (lent c.args.counts) c.args.numbers.now in
    let at = goal.at.node-end-requires c in
    let o = own at.After-notes_length in
    let r = room at.Else-out-length c.requires.by_index.0 notes (length_there at.After-notes_length c.requires.by_index.0 notes g o) in
    record {
      listed = given-listed g v refl;
      table_len = given-table g;
      enough = c.requires.enough;
      cluster_in_bounds = given-room g v refl notes o c.args.out.now r;
    }

pub bounds-out-end : goal.bounds-out-end
bounds-out-end c =
    let g = c.requires.by_index.1 in
    let notes = note_in (lent c.args.counts) c.args.numbers.now in
    let at = goal.at.bounds-out-end c in
    let o = own at.After-notes_length in
    let r = room at.Else-out-length c.requires.by_index.0 notes (length_there at.After-notes_length c.requires.by_index.0 notes g o) in
    end_room g c.requires.gene_valid refl notes o c.args.out.now r c.node-end.ensures

pub returns : goal.returns
returns c =
    let s = c.args in
    let at = goal.at.returns c in
    record {
      puts = λ line notes g noted.
          let l = length_there at.After-notes_length line notes g noted in
          let r = room at.Else-out-length line notes l in
          let b = given-stored g c.requires.gene_valid refl notes noted s.out.now r c.node-end.ensures in
          -- the reply has the length that was counted
          let replied = ap (λ (k : ℕ). reply_to (Ok k)) l in
          puts_done (written_with notes (names line) s.numbers.now) s.out.now r replied b;
    }
