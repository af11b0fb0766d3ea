-- `stand::checks::lent` meets its contract: each way out is the first fault, or none.
use mathlib.Core.Path.{sym}
use native.Mathlib.Omega.{arith}
use Rattle.stand.proofs.Opening.{wrong_count, short-lent, all_lent}
use Rattle.stand.proofs.checks.lent.Goals as goal

pub returns-then-count-lt1 : goal.returns-then-count-lt1
returns-then-count-lt1 c =
    let s = c.args in rw c.at.ensures (sym (wrong_count s.genes.now s.count c.then-count-lt1.either))

pub returns-then-genes-count : goal.returns-then-genes-count
returns-then-genes-count c =
    let s = c.args in rw c.at-then-genes-count.ensures (sym (short-lent s.genes.now s.count (omega arith) (omega arith) (omega arith)))

pub returns : goal.returns
returns c =
    let s = c.args in sym (all_lent s.genes.now s.count (omega arith) (omega arith) (omega arith))
