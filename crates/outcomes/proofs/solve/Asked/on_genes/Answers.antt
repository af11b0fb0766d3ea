-- What is answered of the gene records decides: 19 where the tree of the index begins, or what the search is asked.
use Rattle.std.proofs.Common.{ℕ, ◌+◌, ◌<◌, length, ap, subst, sym, ◌∙◌, arith}
use Rattle.faults.specs.Faults.{number}
use Rattle.faults.specs.declared.Refusal.{Refusal}
use Rattle.roster.specs.Roster.{names}
use Rattle.printing.specs.Texts.{refused as refused_line}
use Rattle.outcomes.specs.Outcome.{tree_place}
use Rattle.outcomes.specs.Outcome.Outcome.{refused}
use Rattle.outcomes.proofs.Telling.{retold}
use Rattle.outcomes.proofs.GeneTrees.{unresolved_inside, none_unresolved, refused-genes, searched-genes}
use Rattle.outcomes.proofs.solve.Asked.on_genes.Goals as goal

pub overflow_add-shift : goal.overflow_add-shift
overflow_add-shift c =
    let args = c.args in
    let inside : c.place-at.result < length args.trees.now =
    subst (λ (p : ℕ). p < length args.trees.now) (sym c.place-at.ensures)
    (unresolved_inside args.self.now.rooting c.requires.genes c.in-Err.refusal c.in-Err.ensures args.self.now.line.now args.trees.now c.requires.genes_value)
    in
    omega (arith, c.requires.trees_bound)

pub returns-in-Err : goal.returns-in-Err
returns-in-Err c =
    let args = c.args in
    retold (names args.self.now.line.now)
    (ap (λ (p : ℕ). refused (number c.in-Err.refusal.fault) (args.shift + p)) c.place-at.ensures
    ∙ refused-genes args.genes.now (tree_place args.self.now.line.now args.trees.now args.shift) args.self.now.all args.self.now.rooting args.self.now.n c.requires.genes c.in-Err.refusal
    c.in-Err.ensures)
    (ap (λ (e : Refusal). refused_line e) c.at.ensures)

pub invariant_of-counted : goal.invariant_of-counted
invariant_of-counted c =
    record { countable = none_unresolved c.args.self.now.rooting c.requires.genes c.in_default.ensures }

pub returns : goal.returns
returns c =
    let args = c.args in
    retold (names args.self.now.line.now)
    (searched-genes args.genes.now (tree_place args.self.now.line.now args.trees.now args.shift) args.self.now.all args.self.now.rooting args.self.now.n c.requires.genes c.in_default.ensures)
    c.solve.ensures
