-- `letter_width` by the byte at hand, and the one behind a quote.
use Rattle.labels.proofs.Quotes.{width-quote, width-other}
use Rattle.labels.proofs.letter_width.Goals as goal

pub returns-then-b-eq39 : goal.returns-then-b-eq39
returns-then-b-eq39 c =
    rw (c.then_some.ensures, c.next_is.ensures) (width-quote c.args.text.now c.args.at c.requires c.if-b-eq39.true)

pub returns-else-b-eq39 : goal.returns-else-b-eq39
returns-else-b-eq39 c =
    rw (c.then_some-else-b-eq39.ensures, c.is_printable.ensures) (width-other c.args.text.now c.args.at c.requires c.if-b-eq39.false)
