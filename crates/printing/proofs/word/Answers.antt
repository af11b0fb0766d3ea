-- The bytes of the word are copied into their part of the output.
use native.Mathlib.Omega.{arith}
use Rattle.printing.proofs.Printing.{put_part}
use Rattle.printing.proofs.word.Goals as goal

pub returns : goal.returns
returns c =
    rw c.copy_from_slice.ensures.after (put_part c.args.out.now c.args.word.now c.args.at (omega arith))
