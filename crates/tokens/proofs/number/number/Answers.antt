-- `number::number` meets its contract: one law of `Numerals` for each way that a number ends.
use Prim.Native.Nat.{◌+◌, ◌≤◌, ◌<◌}
use native.Mathlib.Omega.{arith}
use mathlib.Core.Path.{◌≡◌, sym, ◌∙◌}
use mathlib.Core.Bool.{true}
use Rattle.std.proofs.Common.{inl, inr}
use lib.ListN.{length, drop}
use Rattle.labels.specs.Bytes.{is_digit, next_is}
use Rattle.tokens.proofs.Numerals.{digits-within, no_digits, whole_number, part-within, open_point, past_point}
use Rattle.tokens.proofs.Places.{next_is_inside}
use Rattle.tokens.proofs.number.number.Goals.{After-run-part, Else-not-next_is, Else-whole-eq0}
use Rattle.tokens.proofs.number.number.Goals as goal

-- the first digits are some, and end within the text
some : (c : Else-whole-eq0) → 0 < c.run-whole.result
some c = omega arith

ends : (c : Else-whole-eq0) → c.args.at + c.run-whole.result ≤ length c.args.text.now
ends c =
    let h = digits-within c.args.text.now c.args.at c.run-whole.result (c.run-whole.ensures is_digit (λ b r h. h)) in
    let z = some c in
    omega arith

-- a point stands behind them
pointed :
    (c : Else-not-next_is)
    → next_is 46 (drop (c.args.at + c.run-whole.result) c.args.text.now) ≡ true
pointed c = sym c.next_is.ensures ∙ c.if-not-next_is.false

point_ends :
    (c : Else-not-next_is)
    → c.args.at + c.run-whole.result < length c.args.text.now
point_ends c =
    next_is_inside c.args.text.now (c.args.at + c.run-whole.result) 46 (pointed c)

-- and digits behind the point
part_ends :
    (c : After-run-part)
    → c.args.at + c.run-whole.result + 1 + c.run-part.result ≤ length c.args.text.now
part_ends c =
    let l = (let it : c.args.at + c.run-whole.result < length c.args.text.now = next_is_inside c.args.text.now (c.args.at + c.run-whole.result) 46 ((let it : next_is 46 (drop (c.args.at + c.run-whole.result) c.args.text.now) ≡ true = sym c.next_is.ensures ∙ c.if-not-next_is.false in it)) in it) in
    let h =
    part-within c.args.text.now c.args.at c.run-whole.result (c.run-whole.ensures is_digit (λ b r h. h)) ((let it : 0 < c.run-whole.result = omega arith in it))
    ((let it : next_is 46 (drop (c.args.at + c.run-whole.result) c.args.text.now) ≡ true = sym c.next_is.ensures ∙ c.if-not-next_is.false in it)) c.run-part.result (c.run-part.ensures is_digit (λ b r h. h))
    in
    omega arith

pub returns-then-whole-eq0 : goal.returns-then-whole-eq0
returns-then-whole-eq0 c =
    record {
      result_value = no_digits c.args.text.now c.args.at _ (c.run-whole.ensures is_digit (λ b r h. h)) c.stray.result c.stray.ensures c.if-whole-eq0.true;
      number_valued = tt;
    }

pub overflow_add-point : goal.overflow_add-point
overflow_add-point c =
    let e = ends (goal.at.overflow_add-point c).Else-whole-eq0 in omega arith

pub limited-requires : goal.limited-requires
limited-requires c =
    let e = ends (goal.at.limited-requires c).Else-whole-eq0 in omega arith

pub returns-then-not-next_is : goal.returns-then-not-next_is
returns-then-not-next_is c =
    record {
      result_value = c.limited.ensures.result_value
          ∙ whole_number _ _ _ (c.run-whole.ensures is_digit (λ b r h. h)) (some (goal.at.returns-then-not-next_is c).Else-whole-eq0) (sym c.next_is.ensures ∙ c.if-not-next_is.true);
      number_valued = c.limited.ensures.number_valued;
    }

pub overflow_add-point-2 : goal.overflow_add-point-2
overflow_add-point-2 c =
    let e = point_ends (goal.at.overflow_add-point-2 c).Else-not-next_is in omega arith

pub overflow_add-point-then-whole-lt12 : goal.overflow_add-point-then-whole-lt12
overflow_add-point-then-whole-lt12 c =
    let e = point_ends (goal.at.overflow_add-point-then-whole-lt12 c).Else-not-next_is in omega arith

pub returns-then-whole-lt12 : goal.returns-then-whole-lt12
returns-then-whole-lt12 c =
    record {
      result_value = open_point _ _ _ (c.run-whole.ensures is_digit (λ b r h. h)) (some (goal.at.returns-then-whole-lt12 c).Else-whole-eq0)
          (pointed (goal.at.returns-then-whole-lt12 c).Else-not-next_is) _ (c.run-part.ensures is_digit (λ b r h. h))
          c.stray-then-whole-lt12.result c.stray-then-whole-lt12.ensures c.if-part-eq0.true c.if-whole-lt12.true;
      number_valued = tt;
    }

pub overflow_add-whole : goal.overflow_add-whole
overflow_add-whole c =
    let e = part_ends (goal.at.overflow_add-whole c).After-run-part in omega arith

pub overflow_add-whole-2 : goal.overflow_add-whole-2
overflow_add-whole-2 c =
    let e = part_ends (goal.at.overflow_add-whole-2 c).After-run-part in omega arith

pub limited-requires-2 : goal.limited-requires-2
limited-requires-2 c =
    let e = part_ends (goal.at.limited-requires-2 c).After-run-part in omega arith

pub returns : goal.returns
returns c =
    record {
      result_value = c.limited-2.ensures.result_value
          ∙ past_point _ _ _ (c.run-whole.ensures is_digit (λ b r h. h)) (some (goal.at.returns c).Else-whole-eq0) (pointed (goal.at.returns c).Else-not-next_is)
          _ (c.run-part.ensures is_digit (λ b r h. h))
          (λ none. elim c.else-part-eq0.either [ inl full ↦ full.1 | inr some ↦ absurd (some none) ]);
      number_valued = c.limited-2.ensures.number_valued;
    }
