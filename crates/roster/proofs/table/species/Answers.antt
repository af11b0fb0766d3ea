use Rattle.std.proofs.Common.{rules, ◌≡◌, true, false, eqb}
use Rattle.std.proofs.lemmas.Iterator.{first_from_Range}
use lib.Pointwise.{pointwise}
use Rattle.roster.specs.Table.{slot}
use Rattle.roster.proofs.Slots.{sought_first}
use Rattle.roster.proofs.table.species.Goals as goal

pub returns : goal.returns
returns c =
    let name = c.args.name in
    let table = c.args.table.now in
    let found =
    first_from_Range _ _ _ c.find.result (λ i. pointwise eqb name (slot table i) ≡ true) (λ i. pointwise eqb name (slot table i) ≡ false) c.find.ensures.ran
    (λ x q k. search rules) (λ x q k. search rules) in
    sought_first name table c.args.count c.find.result found
