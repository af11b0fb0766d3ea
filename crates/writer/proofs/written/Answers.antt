-- `writer::written` meets its contract: each refusal has its own return, and behind both checks the text is put without counts.
use mathlib.Core.Path.{◌≡◌, refl, sym, ap, ◌∙◌}
use mathlib.Core.Bool.{true}
use lib.ListN.{length}
use Rattle.labels.proofs.Exits.{passed_on}
use Rattle.trees.specs.Valid.{valid_gene}
use Rattle.roster.specs.Roster.{names}
use Rattle.roster.specs.Judged.{species_most, refused_by}
use Rattle.roster.proofs.Judging.{read-good, read-faulty}
use Rattle.writer.specs.Work.{Given}
use Rattle.writer.proofs.WholeText.{given_few, given-test, given-plain}
use Rattle.writer.proofs.Outcomes.{writes_faulty, writes_invalid, writes_put}
use Rattle.writer.proofs.written.Goals.{In_ok-roster, Else-not-valid_gene}
use Rattle.writer.proofs.written.Goals as goal

-- the roster is good
given :
    (c : In_ok-roster)
    → Given c.args.line.now c.in_ok-roster.roster.count c.in_ok-roster.roster.table
given c =
    let g = read-good species_most c.args.line.now c.parse.result c.parse.ensures c.in_ok-roster.roster c.in_ok-roster.was in
    record { good = g.0; counted = g.1; tabled = g.2 }

-- the record is valid
tested :
    (c : Else-not-valid_gene)
    → Given c.args.line.now c.in_ok-roster.roster.count c.in_ok-roster.roster.table
    → valid_gene (length (names c.args.line.now)) c.args.tree.numbers ≡ true
tested c g =
    sym (given-test g c.valid_gene.result c.args.tree.numbers c.valid_gene.ensures) ∙ c.if-not-valid_gene.false

pub returns-in_err-roster : goal.returns-in_err-roster
returns-in_err-roster c =
    let s = c.args in
    let f = read-faulty species_most s.line.now c.parse.result c.parse.ensures c.in_err-roster.field-0.0 c.in_err-roster.was in
    rw (passed_on c.from_residual.result c.from_residual.ensures.1) (writes_faulty s.line.now s.tree.numbers s.out.now f.0 (rw (f.1, f.2)) refl)

pub valid_gene-requires-clause-n_bound : goal.valid_gene-requires-clause-n_bound
valid_gene-requires-clause-n_bound c =
    given_few (given (goal.at.valid_gene-requires-clause-n_bound c).In_ok-roster)

pub returns-then-not-valid_gene : goal.returns-then-not-valid_gene
returns-then-not-valid_gene c =
    let s = c.args in
    let g = given (goal.at.returns-then-not-valid_gene c).In_ok-roster in
    let t = sym (given-test g c.valid_gene.result s.tree.numbers c.valid_gene.ensures) ∙ c.if-not-valid_gene.true in
    writes_invalid s.line.now s.tree.numbers s.out.now g.good t (ap refused_by c.at.ensures) refl

pub put-requires-clause-by_index : goal.put-requires-clause-by_index
put-requires-clause-by_index c =
    (c.args.line.now, given (goal.at.put-requires-clause-by_index c).In_ok-roster)

pub returns : goal.returns
returns c =
    let s = c.args in
    let g = given (goal.at.returns c).In_ok-roster in
    writes_put s.line.now s.tree.numbers s.out.now g.good (tested (goal.at.returns c).Else-not-valid_gene g) (given-plain g c.put.ensures)
