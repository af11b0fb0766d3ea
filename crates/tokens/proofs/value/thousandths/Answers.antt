-- `value::thousandths` meets its contract: no digit, too many decimals, or the digits times 1000 and the decimals.
use Prim.Native.Nat.{◌^◌, ◌≤◌, ◌<◌}
use native.Mathlib.Omega.{arith}
use Rattle.labels.specs.Bytes.{is_digit}
use Rattle.labels.proofs.Runs.{run-within}
use Rattle.tokens.proofs.DigitValues.{tens_rise}
use Rattle.tokens.proofs.Values.{valued_none, valued-fine, decimals-count, valued}
use Rattle.tokens.proofs.value.thousandths.Goals.{After-filled-decimals, Else-whole-eq0}
use Rattle.tokens.proofs.value.thousandths.Goals as goal

-- the first digits are some of the twelve bytes
digits_few : (c : Else-whole-eq0) → c.run-whole.result ≤ 12
digits_few c =
    omega (arith, run-within is_digit c.args.bytes.now, (c.run-whole.ensures is_digit (λ b r h. h)))

-- and write less than 10 ^ 12
units_below : (c : After-filled-decimals) → c.written-units.result < 10 ^ 12
units_below c =
    let l = (let it : c.run-whole.result ≤ 12 = omega (arith, run-within is_digit c.args.bytes.now, (c.run-whole.ensures is_digit (λ b r h. h))) in it) in
    omega (arith, tens_rise c.run-whole.result 12 l, c.written-units.ensures.upper_bound)

pub returns-then-whole-eq0 : goal.returns-then-whole-eq0
returns-then-whole-eq0 c =
    valued_none _ _ (c.run-whole.ensures is_digit (λ b r h. h)) c.if-whole-eq0.true

pub overflow_add-whole : goal.overflow_add-whole
overflow_add-whole c =
    let l = digits_few (goal.at.overflow_add-whole c).Else-whole-eq0 in omega arith

pub returns-then-part-gt-MOST_DECIMALS : goal.returns-then-part-gt-MOST_DECIMALS
returns-then-part-gt-MOST_DECIMALS c =
    valued-fine _ _ (c.run-whole.ensures is_digit (λ b r h. h)) (omega arith) _ (c.run-part.ensures is_digit (λ b r h. h)) (omega arith)

pub written-units-requires : goal.written-units-requires
written-units-requires c =
    let l = digits_few (goal.at.written-units-requires c).Else-whole-eq0 in
    record {
      count_bound = omega (arith, c.run-whole.ensures is_digit (λ b r h. h));
      count_bound_2 = omega arith;
    }

pub overflow_add-whole-2 : goal.overflow_add-whole-2
overflow_add-whole-2 c =
    let l = digits_few (goal.at.overflow_add-whole-2 c).Else-whole-eq0 in omega arith

pub overflow_mul-result : goal.overflow_mul-result
overflow_mul-result c =
    let l = units_below (goal.at.overflow_mul-result c).After-filled-decimals in omega arith

pub overflow_add-result : goal.overflow_add-result
overflow_add-result c =
    let l = units_below (goal.at.overflow_add-result c).After-filled-decimals in omega arith

pub returns : goal.returns
returns c =
    valued _ _ (c.run-whole.ensures is_digit (λ b r h. h)) (omega arith) _ (c.run-part.ensures is_digit (λ b r h. h)) c.written-units.result c.filled-decimals.result
    (omega arith)
    c.written-units.ensures.value
    (c.filled-decimals.ensures.by_index _ (decimals-count _ _ (c.run-whole.ensures is_digit (λ b r h. h)) (omega arith) _ (c.run-part.ensures is_digit (λ b r h. h))) c.written.ensures.value)
