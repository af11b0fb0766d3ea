-- `blanks`: the run of blanks is passed over.
use Rattle.std.proofs.Common.{arith, ap, ◌+◌}
use Rattle.labels.specs.Bytes.{is_blank}
use Rattle.labels.proofs.Runs.{run_left}
use Rattle.tokens.specs.Tokens.{blanks}
use Rattle.tokens.proofs.cursor.blanks.Goals as goal

pub overflow_add-result : goal.overflow_add-result
overflow_add-result c =
    let left = run_left is_blank c.args.text.now c.args.at c.run.result (c.run.ensures is_blank (λ b r h. h)) in omega arith

pub returns : goal.returns
unfolding blanks
returns c =
    ap (λ n. c.args.at + n) (c.run.ensures is_blank (λ b r h. h))
