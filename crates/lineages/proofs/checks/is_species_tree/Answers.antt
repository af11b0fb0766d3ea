-- `lineages::checks::is_species_tree` meets its contract: the replies that decide are the tests.
use mathlib.Core.Path.{sym, ◌∙◌}
use native.Mathlib.Omega.{arith}
use Rattle.trees.proofs.Bounds.{whole_below_sixteen}
use Rattle.lineages.proofs.Told.{valid-told, binary-told}
use Rattle.lineages.proofs.checks.is_species_tree.Goals as goal

pub valid-requires-clause-s_bound : goal.valid-requires-clause-s_bound
valid-requires-clause-s_bound c = omega (arith, whole_below_sixteen c.args.n c.requires.n_bound)

pub returns-then-valid : goal.returns-then-valid
returns-then-valid c =
    let whole = c.whole-all.ensures in
    rw (sym (valid-told c.valid.result c.args.species.now c.requires.n_bound whole c.valid.ensures) ∙ c.if-valid.true)
    (binary-told c.binary.result c.args.n c.args.species.now whole c.binary.ensures)

pub returns-else-valid : goal.returns-else-valid
returns-else-valid c =
    let told = sym (valid-told c.valid.result c.args.species.now c.requires.n_bound c.whole-all.ensures c.valid.ensures) ∙ c.if-valid.false in
    rw (told, c.if-valid.false)
