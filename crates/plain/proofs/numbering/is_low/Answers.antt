-- `plain::numbering::is_low` meets its contract: a set holds the lowest species where that species alone lies within it.
use mathlib.Core.Path.{sym, ◌∙◌}
use borrow.Author.Rules.{rules}
use native.Mathlib.Omega.{arith}
use Rattle.clusters.proofs.LowestSpecies.{lowest-below}
use Rattle.plain.proofs.PartWalk.{inside-low, outside_low}
use Rattle.plain.proofs.numbering.is_low.Goals as goal

pub single-requires : goal.single-requires
single-requires c =
    let a = c.args.a in
    omega (arith, c.lowest.ensures, lowest-below {a = a} 32 (search rules) (search rules) (search rules))

pub returns-then-within : goal.returns-then-within
returns-then-within c =
    let args = c.args in
    let alone = rw c.lowest.ensures at c.single.ensures in
    let inside = sym c.within.ensures ∙ c.if-within.true in
    c.within-then-within.ensures ∙ rw alone (inside-low args.a args.low inside)

pub returns-else-within : goal.returns-else-within
returns-else-within c =
    c.if-within.false ∙ outside_low c.args.a c.args.low (sym c.within.ensures ∙ c.if-within.false)
