use Rattle.std.proofs.Common.{sym, ◌∙◌, arith}
use Rattle.clusters.proofs.Sets.{within-true}
use Rattle.sums.proofs.Joins.{joins_end, joins_here, joins-held_here, joined-below, fits_here, joined_here, passed_here}
use Rattle.sums.proofs.rooted.+add_unions.Goals as goal

pub returns-in_default : goal.returns-in_default
returns-in_default t c = joins_end c.args.sets.now c.args.odd c.args.joined c.args.sums.now c.in_default.ensures.cases

pub change-requires : goal.change-requires
change-requires t c = joined-below c.requires

pub returns-then-within : goal.returns-then-within
returns-then-within t c =
    joins-held_here c.in-Some.ensures.cases.0 c.args.odd c.args.joined (within-true _ _ (sym c.within.ensures ∙ c.if-within.true)) c.change.ensures

pub change-requires-2 : goal.change-requires-2
change-requires-2 t c =
    let fits = fits_here c.in-Some.ensures.cases.0 c.requires in
    omega (arith, c.union-more.ensures)

pub add_unions-requires : goal.add_unions-requires
add_unions-requires t c =
    let less = c.in-Some.ensures.cases.1 in
    (omega arith, joined_here c.in-Some.ensures.cases.0 c.requires c.change-2.ensures.same c.union-more.ensures)

pub add_unions-requires-2 : goal.add_unions-requires-2
add_unions-requires-2 t c =
    let less = c.in-Some.ensures.cases.1 in
    (omega arith, passed_here c.in-Some.ensures.cases.0 c.requires (c.add_unions.ensures.same ∙ c.change-2.ensures.same))

pub returns : goal.returns
returns t c =
    joins_here c.in-Some.ensures.cases.0 c.args.odd c.args.joined c.union-more.ensures c.change-2.ensures c.add_unions.ensures
    c.add_unions-2.ensures
