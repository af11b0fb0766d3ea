use native.Mathlib.Omega.{arith}
use Rattle.printing.proofs.Printing.{put-digit, put-digits, one_digit, one_digit_more, put-length}
use Rattle.printing.proofs.+decimal.Goals as goal

pub bounds-out-at : goal.bounds-out-at
bounds-out-at t c = let d = one_digit c.args.x c.if-x-lt10.true in omega arith

pub returns-then-x-lt10 : goal.returns-then-x-lt10
returns-then-x-lt10 t c = put-digit c.args.x c.args.out.now c.args.at c.if-x-lt10.true

pub decimal-end-requires : goal.decimal-end-requires
decimal-end-requires t c =
    let d = one_digit_more c.args.x (omega arith) (omega arith) in
    (omega arith, omega arith)

pub bounds-out-end : goal.bounds-out-end
bounds-out-end t c =
    let d = one_digit_more c.args.x (omega arith) (omega arith) in
    let l = put-length c.decimal-end.ensures in
    omega arith

pub overflow_add-result-2 : goal.overflow_add-result-2
overflow_add-result-2 t c =
    let d = one_digit_more c.args.x (omega arith) (omega arith) in
    omega arith

pub returns : goal.returns
returns t c = put-digits c.args.x (omega arith) (omega arith) c.decimal-end.ensures
