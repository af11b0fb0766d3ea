-- What every report is: one outcome for an input, a line that refuses, never by 9, or four that answer, and never more than its bytes.
use Prim.Native.Nat.{ℕ, ◌-◌, ◌≤◌}
use mathlib.Core.Path.{◌≡◌, refl, sym, ap, ◌∙◌}
use mathlib.Core.Bool.{Bool, true, false}
use mathlib.Core.List.{List}
use native.Mathlib.Omega.{arith}
use lib.ListN.{length, take, drop, replicate, length-append}
use lib.Seq.{take_at}
use lib.Dec.{leb}
use Rattle.roster.specs.Roster.{names, faulty}
use Rattle.roster.specs.Judged.{species_most}
use Rattle.reader.specs.Promise.{text_most}
use Rattle.printing.specs.Texts.{report_bytes}
use Rattle.printing.specs.declared.Report.{Report}
use Rattle.report.specs.Input.{first_line, behind_line, ends_in_feed, trees_place}
use Rattle.std.proofs.Common.{Option, Some, None}
use Rattle.report.specs.Program.{Mode, mode_of, on_mode, on_feeds, on_species, on_roster, on_text, program}
use Rattle.outcomes.specs.Outcome.{Outcome, program_most, printed}
use Rattle.outcomes.specs.Outcome.Outcome.{refused, solved}
use Rattle.outcomes.proofs.NeverNine.{other_number, trees-never-nine}
use Rattle.report.specs.Promise.{output, Reports}
use Rattle.report.specs.Forms.{Form}
use Rattle.report.specs.Forms.Form.{refusal, answer}

-- the promise admits one outcome
pub reports-once : (input : List ℕ) {r r' : Report} → Reports input r → Reports input r' → r ≡ r'
unfolding Reports
reports-once input e e' = e ∙ sym e'

-- ---- the output stands at the front of the bytes

pub reported_within : (input : List ℕ) (r : Report) → Reports input r → r.len ≤ length r.text
unfolding Reports
reported_within input r e =
    let l = ap (λ (q : Report). q.len) e in
    let t = ap (λ (q : Report). length q.text) e in
    omega (arith, length-append (output input) (replicate (report_bytes - length (output input)) 0))

pub reported_text : (input : List ℕ) (r : Report) → Reports input r → take r.len r.text ≡ output input
unfolding Reports
reported_text input r e = rw e (take_at (output input) (replicate (report_bytes - length (output input)) 0) (length (output input)) refl)

-- ---- what it says

-- `refused N at P`, or species and gene trees read, the score, the ties, and the tree's text
pub output-form : (input : List ℕ) → Form (names (first_line input)) (output input)
unfolding output
output-form input = go (program input)
  where
    go : (outcome : Outcome) → Form (names (first_line input)) (printed (names (first_line input)) outcome)
    go (refused number place) = refusal number place
    go (solved n m score ties r) = answer n m score ties r

-- ---- 9

-- "9 is shown never to occur for gene trees" (#104): the program reads no species text, so it never says 9
pub program-never-nine : (input : List ℕ) {number place : ℕ} → program input ≡ refused number place → number ≡ 9 → ⊥
unfolding program
program-never-nine input {number} {place} = sized (leb (length input) text_most)
  where
    NeverNine : Outcome → Type 0
    NeverNine outcome = outcome ≡ refused number place → number ≡ 9 → ⊥

    moded : (mode : Option Mode) → NeverNine (on_mode mode input)
    moded None e = other_number (λ k. omega arith) e
    moded (Some (all, rooting)) e =
        trees-never-nine (first_line input) (drop (trees_place input) input) (trees_place input) all rooting (length (names (first_line input))) e

    fed : (first second : Bool) → NeverNine (on_feeds first second input)
    fed false second e = other_number (λ k. omega arith) e
    fed true false e = other_number (λ k. omega arith) e
    fed true true e = moded (mode_of (first_line (behind_line input))) e

    counted : (few : Bool) → NeverNine (on_species few input)
    counted false e = other_number (λ k. omega arith) e
    counted true e = fed (ends_in_feed input) (ends_in_feed (behind_line input)) e

    judged : (fault : Bool) → NeverNine (on_roster fault input)
    judged true e = other_number (λ k. omega arith) e
    judged false e = counted (leb (length (names (first_line input))) program_most) e

    sized : (short : Bool) → NeverNine (on_text short input)
    sized true e = judged (faulty species_most (first_line input)) e
    sized false e = other_number (λ k. omega arith) e
