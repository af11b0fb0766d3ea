use Rattle.std.proofs.Common.{◌≡◌, ◌+◌, ◌≤◌, arith, get_or, drop}
use Rattle.tokens.proofs.DigitValues.{written_none, written_below, digit-within, digit_there, digit_more, twelve_below}
use Rattle.tokens.proofs.value.written.Goals.{In-loop-i}
use Rattle.tokens.proofs.value.written.Goals as goal

-- a digit stands at i
digit :
    (c : In-loop-i)
    → let byte = get_or c.args.bytes.now (c.args.at + c.loop-i.i) 0 in
    (48 ≤ byte) × (byte ≤ 57)
digit c =
    digit_there c.args.bytes.now c.args.at c.args.count c.requires.count_bound c.loop-i.i c.loop-i-test.true

pub loop-i-init : goal.loop-i-init
loop-i-init c = written_none

pub overflow_mul-value : goal.overflow_mul-value
overflow_mul-value c =
    let l = twelve_below c.args.bytes.now c.args.at c.args.count c.requires.count_bound c.loop-i.i (omega arith) c.requires.count_bound_2 in
    omega (arith, c.loop-i.invariant)

pub overflow_add-at : goal.overflow_add-at
overflow_add-at c =
    let l = digit-within c.args.bytes.now c.args.at c.args.count c.requires.count_bound c.loop-i.i c.loop-i-test.true in
    omega arith

pub bounds-bytes-at : goal.bounds-bytes-at
bounds-bytes-at c =
    digit-within c.args.bytes.now c.args.at c.args.count c.requires.count_bound c.loop-i.i c.loop-i-test.true

pub overflow_sub-bytes : goal.overflow_sub-bytes
overflow_sub-bytes c =
    (digit (goal.at.overflow_sub-bytes c).In-loop-i).0

pub overflow_add-value : goal.overflow_add-value
overflow_add-value c =
    let d = digit (goal.at.overflow_add-value c).In-loop-i in
    let l = twelve_below c.args.bytes.now c.args.at c.args.count c.requires.count_bound c.loop-i.i (omega arith) c.requires.count_bound_2 in
    omega (arith, d.1, c.loop-i.invariant, c.from.ensures)

pub loop-i-preserved : goal.loop-i-preserved
loop-i-preserved c =
    rw (c.from.ensures, c.loop-i.invariant)
    (digit_more c.args.bytes.now c.args.at c.args.count c.requires.count_bound c.loop-i.i c.loop-i-test.true)

pub returns : goal.returns
returns c =
    let over : c.loop-i.i ≡ c.args.count = omega arith in
    let all = rw over at c.loop-i.invariant in
    record {
      value = all;
      upper_bound = rw all (written_below (drop c.args.at c.args.bytes.now) c.args.count c.requires.count_bound);
    }
