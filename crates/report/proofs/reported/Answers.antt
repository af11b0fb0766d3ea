-- Each check that refuses gives the program's outcome, and what passes them all is that of the mode and the trees.
use Rattle.std.proofs.Common.{◌≡◌, sym, ap, subst, List, ℕ, refl}
use Rattle.std.proofs.lemmas.Result.{err_from_is_err_and}
use lib.Seq.{length-take-le}
use Rattle.faults.specs.declared.Refusal.{Refusal}
use Rattle.printing.specs.Texts.{refused}
use Rattle.roster.specs.Judged.{species_most, roster_of}
use Rattle.report.specs.Input.{first_line}
use Rattle.report.proofs.InputParts.{first_line_lem, first_within}
use Rattle.report.proofs.Checks.{reports, too_long, faulty_roster, many_species, mode_next, roster_good}
use Rattle.report.proofs.reported.Goals.{After-parse}
use Rattle.report.proofs.reported.Goals as goal

-- the roster of the first line is read
read : (c : After-parse) → c.parse.result ≡ roster_of species_most (first_line c.args.input.now)
read c =
    let input = c.args.input.now in
    subst (λ (line : List ℕ). c.parse.result ≡ roster_of species_most line) (first_line_lem input c.line_length-end.ensures) c.parse.ensures

pub returns-then-input-gt65536 : goal.returns-then-input-gt65536
returns-then-input-gt65536 c =
    let input = c.args.input.now in
    reports input (ap (λ (e : Refusal). refused e) c.at.ensures) (too_long input c.if-input-gt65536.true)

pub slice_bounds-parse-end : goal.slice_bounds-parse-end
slice_bounds-parse-end c =
    let input = c.args.input.now in
    sym (length-take-le c.line_length-end.result input (first_within input c.line_length-end.ensures))

pub returns-in_err-n : goal.returns-in_err-n
returns-in_err-n c =
    let input = c.args.input.now in
    let p = err_from_is_err_and c.from_residual.result c.from_residual.ensures.1 in
    let e = c.in_err-n.field-0.0 in
    rw (p.1, p.2)
    (reports input refl (faulty_roster input c.if-input-gt65536.false e (rw c.in_err-n.was at (read (goal.at.returns-in_err-n c).After-parse))))

pub returns-then-n-gt12 : goal.returns-then-n-gt12
returns-then-n-gt12 c =
    let input = c.args.input.now in
    reports input (ap (λ (e : Refusal). refused e) c.at-then-n-gt12.ensures)
    (many_species input c.if-input-gt65536.false c.in_ok-n.field-0 (rw c.in_ok-n.was at (read (goal.at.returns-then-n-gt12 c).After-parse)) c.if-n-gt12.true)

pub on_mode-requires-clause-roster : goal.on_mode-requires-clause-roster
on_mode-requires-clause-roster c =
    roster_good c.args.input.now c.if-input-gt65536.false c.in_ok-n.field-0
    (rw c.in_ok-n.was at (read (goal.at.on_mode-requires-clause-roster c).After-parse))
    c.if-n-gt12.false

pub returns : goal.returns
returns c =
    let input = c.args.input.now in
    reports input c.on_mode.ensures
    (mode_next input c.if-input-gt65536.false c.in_ok-n.field-0 (rw c.in_ok-n.was at (read (goal.at.returns c).After-parse)) c.if-n-gt12.false)
