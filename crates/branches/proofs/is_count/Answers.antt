-- `is_count` meets its contract: all bytes of a number are digits, or it has none.
use borrow.Author.Tests.{le-ltb}
use Rattle.std.proofs.Common.{rules}
use Rattle.branches.proofs.Counts.{all_digits, no_digits, some_digits}
use Rattle.branches.proofs.is_count.Goals as goal

pub returns-then-number : goal.returns-then-number
returns-then-number c =
    all_digits _ c.all.result (some_digits c.args.text.now c.args.number c.requires c.if-number.true) (search rules) (search rules)

pub returns-else-number : goal.returns-else-number
returns-else-number c =
    rw (le-ltb c.args.number.from c.args.number.to c.if-number.false) (no_digits c.args.text.now c.args.number c.requires c.if-number.false)
