-- `stray`: within the text a byte stands there, beyond it none.
use Rattle.tokens.proofs.Places.{stray-within}
use Rattle.tokens.proofs.cursor.stray.Goals as goal

pub returns-then-at-text : goal.returns-then-at-text
returns-then-at-text c =
    rw c.at.ensures (stray-within c.args.text.now c.args.at c.if-at-text.true)
