-- `behind::numbers` meets its contract: no colon, two, or one.
use native.Mathlib.Omega.{arith}
use mathlib.Core.Path.{sym, ◌∙◌}
use Rattle.tokens.proofs.Places.{next_is_inside}
use Rattle.tokens.proofs.BehindNodes.{between_none, none_valued, numbers-missing, support-alone, distance_first}
use Rattle.tokens.proofs.behind.numbers.Goals as goal

pub returns-then-not-next_is : goal.returns-then-not-next_is
returns-then-not-next_is c =
    let text = c.args.text.now in
    let at = c.args.at in record {
      by_index = λ w.
          rw (c.nothing-then-not-next_is.ensures, c.nothing.ensures, between_none text at)
          (numbers-missing text at c.blanks-colon.result c.blanks-colon.ensures w (sym c.next_is.ensures ∙ c.if-not-next_is.true));
      behind_valued = (rw c.nothing.ensures (none_valued text at), rw c.nothing-then-not-next_is.ensures (none_valued text at), rw c.nothing-then-not-next_is.ensures);
    }

pub overflow_add-colon : goal.overflow_add-colon
overflow_add-colon c =
    let h = next_is_inside c.args.text.now c.blanks-colon.result 58 (sym c.next_is.ensures ∙ c.if-not-next_is.false) in
    omega arith

pub overflow_add-second : goal.overflow_add-second
overflow_add-second c =
    let h = next_is_inside c.args.text.now c.blanks-second.result 58 (sym c.next_is-2.ensures ∙ c.if-next_is.true) in
    omega arith

pub support-requires : goal.support-requires
support-requires c =
    rw c.nothing-then-next_is.ensures (none_valued c.args.text.now c.blanks-second.result)

pub returns-then-next_is : goal.returns-then-next_is
returns-then-next_is c =
    record {
      by_index = λ w.
          c.support.ensures.by_index w
          ∙ support-alone c.args.text.now c.args.at c.blanks-colon.result c.blanks-colon.ensures c.blanks-second.result c.blanks-second.ensures w
          (sym c.next_is.ensures ∙ c.if-not-next_is.false) c.nothing-then-next_is.result c.nothing-then-next_is.ensures
          (sym c.next_is-2.ensures ∙ c.if-next_is.true);
      behind_valued = c.support.ensures.behind_valued;
    }

pub returns : goal.returns
returns c =
    record {
      by_index = λ w.
          c.distance.ensures.by_index w
          ∙ distance_first c.args.text.now c.args.at c.blanks-colon.result c.blanks-colon.ensures c.blanks-second.result c.blanks-second.ensures w
          (sym c.next_is.ensures ∙ c.if-not-next_is.false) (sym c.next_is-2.ensures ∙ c.if-next_is.false);
      behind_valued = c.distance.ensures.behind_valued;
    }
