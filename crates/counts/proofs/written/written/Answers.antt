-- `written::written` meets its contract: each refusal has its own return, and behind all checks the text is put with the weights.
use Prim.Native.Nat.{ℕ}
use mathlib.Core.Path.{refl, subst}
use native.Mathlib.Omega.{arith}
use Rattle.std.proofs.Common.{Err}
use Rattle.labels.proofs.Exits.{passed_on}
use Rattle.trees.proofs.GeneRecords.{gene_of_species}
use Rattle.roster.specs.Judged.{species_most}
use Rattle.roster.proofs.Judging.{read-good, read-faulty}
use Rattle.writer.specs.Work.{Given}
use Rattle.writer.proofs.WholeText.{given_few}
use Rattle.counts.proofs.TreesJudging.{TreesInOrder, TreesJudged, judged_in_order}
use Rattle.counts.proofs.Answered.{given_some, given-counts, counts-faulty, counts-judged, counts-put}
use Rattle.counts.proofs.Passing.{none_at_fault}
use Rattle.counts.proofs.written.written.Goals.{In_ok-roster, In_ok-judge}
use Rattle.counts.proofs.written.written.Goals as goal

-- the roster is good
given : (c : In_ok-roster) → Given c.args.line.now c.in_ok-roster.roster.count c.in_ok-roster.roster.table
given c =
    let g = read-good species_most c.args.line.now c.parse.result c.parse.ensures c.in_ok-roster.roster c.in_ok-roster.was in
    record { good = g.0; counted = g.1; tabled = g.2 }

-- behind the checks the gene trees and the species record are in order
in_order :
    (c : In_ok-judge) → let args = c.args in
    Given args.line.now c.in_ok-roster.roster.count c.in_ok-roster.roster.table
    → TreesInOrder c.in_ok-roster.roster.count args.genes.now args.count args.species.numbers
in_order c g = judged_in_order (given_some g) (given_few g) _ _ _ (rw c.is_species_tree-binary.ensures at c.in_ok-judge.ensures)

pub returns-in_err-roster : goal.returns-in_err-roster
returns-in_err-roster c =
    let s = c.args in
    let f = read-faulty species_most s.line.now c.parse.result c.parse.ensures c.in_err-roster.field-0.0 c.in_err-roster.was in
    rw (passed_on c.from_residual.result c.from_residual.ensures.1)
    (counts-faulty s.line.now s.genes.now s.count s.species.numbers s.out.now c.in_err-roster.field-0.0 f.0 f.1 f.2 refl refl)

pub is_species_tree-binary-requires-clause-n_bound : goal.is_species_tree-binary-requires-clause-n_bound
is_species_tree-binary-requires-clause-n_bound c = given_few (given (goal.at.is_species_tree-binary-requires-clause-n_bound c).In_ok-roster)

pub judge-requires : goal.judge-requires
judge-requires c =
    let g = given (goal.at.judge-requires c).In_ok-roster in
    record {
      le_n = given_some g;
      n_bound = given_few g;
    }

pub returns-in_err-judge : goal.returns-in_err-judge
returns-in_err-judge c =
    let s = c.args in
    let g = given (goal.at.returns-in_err-judge c).In_ok-roster in
    let told = rw c.is_species_tree-binary.ensures at c.in_err-judge.ensures in
    rw (passed_on c.from_residual-in_err-judge.result c.from_residual-in_err-judge.ensures.1)
    (counts-judged s.line.now s.genes.now s.count s.species.numbers s.out.now c.in_err-judge.field-0.0 g.good
    (subst (λ (n : ℕ). TreesJudged n s.genes.now s.count s.species.numbers (Err c.in_err-judge.field-0.0)) g.counted told) refl refl)

pub invariant_of-trees : goal.invariant_of-trees
invariant_of-trees c =
    let o = in_order (goal.at.invariant_of-trees c).In_ok-judge (given (goal.at.invariant_of-trees c).In_ok-roster) in
    record { shaped = o.trees.shaped; passed = none_at_fault o.trees }

pub weigh_all-counts-requires : goal.weigh_all-counts-requires
weigh_all-counts-requires c =
    (in_order (goal.at.weigh_all-counts-requires c).In_ok-judge (given (goal.at.weigh_all-counts-requires c).In_ok-roster)).tree.form

pub put-requires : goal.put-requires
put-requires c =
    let g = given (goal.at.put-requires c).In_ok-roster in
    let o = in_order (goal.at.put-requires c).In_ok-judge g in
    let most = o.tree.form.counted in
    record {
      by_index = (c.args.line.now, g);
      gene_valid = gene_of_species (given_some g) o.tree;
      enough = omega arith;
    }

pub returns : goal.returns
returns c =
    let s = c.args in
    let g = given (goal.at.returns c).In_ok-roster in
    let o = in_order (goal.at.returns c).In_ok-judge g in
    counts-put s.line.now s.genes.now s.count s.species.numbers s.out.now g.good
    (subst (λ (n : ℕ). TreesInOrder n s.genes.now s.count s.species.numbers) g.counted o)
    (given-counts g c.weigh_all-counts.ensures c.put.ensures)
