-- The number stands behind the word, and there is room for both.
use native.Mathlib.Omega.{arith}
use Rattle.printing.proofs.Digits.{decimal-length}
use Rattle.printing.proofs.Printing.{put_then, put-length}
use Rattle.printing.proofs.labelled.Goals as goal

pub decimal-requires : goal.decimal-requires
decimal-requires c =
    omega (arith, c.requires, c.word-at.ensures.ended, put-length c.word-at.ensures, decimal-length c.args.x)

pub returns : goal.returns
returns c =
    put_then c.word-at.ensures c.decimal.ensures
