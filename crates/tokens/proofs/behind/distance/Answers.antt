-- `behind::distance` meets its contract: the number is the distance, and a colon behind it brings the support.
use native.Mathlib.Omega.{arith}
use mathlib.Core.Path.{sym, ◌∙◌}
use Rattle.labels.specs.Bytes.{next_is}
use Rattle.tokens.specs.Tokens.{skip, second_number}
use Rattle.tokens.specs.Says.{between}
use Rattle.tokens.proofs.Places.{next_is_inside}
use Rattle.tokens.proofs.Pieces.{number_read}
use Rattle.tokens.proofs.BehindNodes.{between_none, none_valued, second_follows, second-missing}
use Rattle.tokens.proofs.behind.distance.Goals as goal

pub overflow_add-colon : goal.overflow_add-colon
overflow_add-colon c =
    let h = next_is_inside c.args.text.now c.blanks-colon.result 58 (sym c.next_is.ensures ∙ c.if-next_is.true) in
    omega arith

pub returns-then-next_is : goal.returns-then-next_is
returns-then-next_is c =
    let text = c.args.text.now in
    let x = c.in_ok-distance.distance in record {
      by_index = λ w.
          c.support.ensures.by_index w
          ∙ sym (second_follows text x.to c.blanks-colon.result c.blanks-colon.ensures w (between text x) (sym c.next_is.ensures ∙ c.if-next_is.true))
          ∙ number_read text c.number.result _ c.number.ensures.result_value (λ d s p. second_number (next_is 58 (skip s)) w d s p) x c.in_ok-distance.was;
      behind_valued = c.support.ensures.behind_valued;
    }

pub returns : goal.returns
returns c =
    let text = c.args.text.now in
    let x = c.in_ok-distance.distance in record {
      by_index = λ w.
          rw (c.nothing.ensures, between_none text x.to)
          (sym (second-missing text x.to c.blanks-colon.result c.blanks-colon.ensures w (between text x) (sym c.next_is.ensures ∙ c.if-next_is.false))
          ∙ number_read text c.number.result _ c.number.ensures.result_value (λ d s p. second_number (next_is 58 (skip s)) w d s p) x c.in_ok-distance.was);
      behind_valued = (c.in_ok-distance.ensures.number_valued, rw c.nothing.ensures (none_valued text x.to), rw c.nothing.ensures);
    }
