-- `tables::fill` meets its contract. The invariant: the entries below a are final, and from a on the score table holds the weights.
use Rattle.std.specs.Prelude.{option_copied}
use Rattle.terms.specs.Allowed.{allowed_for}
use Rattle.tables.proofs.Reached.{Reached}
use Rattle.tables.proofs.fill.Given as goal

abbrev pub invariant-loop-a : goal.invariant-loop-a
invariant-loop-a l = Reached l.n (allowed_for (option_copied l.allowed) l.n) l.initial.scores l.initial.splits l.scores l.splits l.a
