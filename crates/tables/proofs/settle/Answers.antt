-- `tables::settle` meets its contract: a cluster that is not allowed, a single species, and all others.
use mathlib.Core.Path.{sym, ◌∙◌}
use Rattle.std.specs.Prelude.{option_copied}
use Rattle.terms.specs.Allowed.{allowed_for}
use Rattle.tables.proofs.Settling.{settles_refused, settles_single, two_of_more}
use Rattle.tables.proofs.settle.Goals as goal

pub returns-then-not-is_allowed_for : goal.returns-then-not-is_allowed_for
returns-then-not-is_allowed_for c =
    settles_refused (allowed_for (option_copied c.args.allowed) c.args.n) c.args.a
    c.args.scores.now c.args.splits.now
    (sym c.is_allowed_for.ensures ∙ c.if-not-is_allowed_for.true)

pub returns-then-size-eq1 : goal.returns-then-size-eq1
returns-then-size-eq1 c =
    settles_single (allowed_for (option_copied c.args.allowed) c.args.n) c.args.a
    c.args.scores.now c.args.splits.now
    (sym c.is_allowed_for.ensures ∙ c.if-not-is_allowed_for.false) (sym c.size.ensures ∙ c.if-size-eq1.true)

pub join-requires : goal.join-requires
join-requires c =
    record {
      next = c.requires.next;
      bound = two_of_more c.requires.next.some (λ e. c.if-size-eq1.false (c.size.ensures ∙ e));
    }

pub returns : goal.returns
returns c =
    c.join.ensures (allowed_for (option_copied c.args.allowed) c.args.n)
    (sym c.is_allowed_for.ensures
    ∙ c.if-not-is_allowed_for.false)
