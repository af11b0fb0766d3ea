-- `value::filled` meets its contract: one decimal counts hundreds, two count tens.
use native.Mathlib.Omega.{arith}
use Rattle.tokens.proofs.DigitValues.{filled_one, filled_two, filled_else}
use Rattle.tokens.proofs.value.filled.Goals as goal

pub returns-in-1-clause-by_index : goal.returns-in-1-clause-by_index
returns-in-1-clause-by_index c ds many e =
    let f = filled_one ds _ _ c.in-1.is many e in omega arith

pub returns-in-2-clause-by_index : goal.returns-in-2-clause-by_index
returns-in-2-clause-by_index c ds many e =
    let f = filled_two ds _ _ c.in-2.is many e in omega arith

pub returns-in_default-clause-by_index : goal.returns-in_default-clause-by_index
returns-in_default-clause-by_index c ds many e =
    filled_else ds _ _ (λ z. omega arith) (λ z. omega arith) c.requires.count_bound many e
