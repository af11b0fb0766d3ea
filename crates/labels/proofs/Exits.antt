-- A result is its value, or its error.
use mathlib.Core.Path.{◌≡◌, refl, sym, ap, ◌∙◌}
use Rattle.std.proofs.Common.{Result, Ok, Err}
use Rattle.std.specs.Result.{IsErrAnd}
use Rattle.std.proofs.lemmas.Result.{MatchResult-at_ok, MatchResult-at_err, err_from_is_err_and}

module _ {A E : Type 0} where
  pub same_Ok : {a b : A} → ◌≡◌ {A = Result A E} (Ok a) (Ok b) → a ≡ b
  same_Ok {a} {b} e = MatchResult-at_ok (λ x. x ≡ b) (λ _. Unit {0}) a (sym e) refl

  pub same_Err : {a b : E} → ◌≡◌ {A = Result A E} (Err a) (Err b) → a ≡ b
  same_Err {a} {b} e = MatchResult-at_err (λ _. Unit {0}) (λ x. x ≡ b) a (sym e) refl

  pub ok-err : {a : A} {b : E} → ◌≡◌ {A = Result A E} (Ok a) (Err b) → ⊥
  ok-err {a} {b} e = MatchResult-at_err (λ _. Unit {0}) (λ _. ⊥) b e tt

  -- what a `?` hands on: the error as it came
  pub passed_on : (r : Result A E) {e : E} → IsErrAnd r (λ x. x ≡ e) → r ≡ Err e
  passed_on r h = let p = err_from_is_err_and r h in p.1 ∙ ap Err p.2
