-- A number by the rules takes as many bytes as are counted for it, where what follows stops it; a support that is too fine has digits behind its point.
use Prim.Native.Nat.{ℕ, ◌+◌, ◌<◌}
use native.Mathlib.Omega.{arith}
use mathlib.Core.Path.{◌≡◌, refl, sym, ap, ◌∙◌}
use mathlib.Core.Bool.{true, false, false≢true}
use mathlib.Core.List.{List, [], ◌∷◌, ◌++◌, tail}
use lib.ListN.{length, drop, length-append}
use lib.Seq.{drop-append_seam}
use Rattle.labels.specs.Bytes.{is_digit, run}
use Rattle.labels.specs.Spelling.{Run}
use Rattle.labels.proofs.RunRules.{run_some, run-splits, run_all, run-exact}
use Rattle.tokens.specs.Values.{too_fine}
use Rattle.tokens.proofs.Values.{digits-begin, whole_not_fine}
use Rattle.nodes.specs.Grammar.{Number}
use Rattle.nodes.specs.Grammar.Number.{whole, decimal}
use Rattle.nodes.specs.Deciding.{next_digit, number_length}
use Rattle.nodes.proofs.Exact.{no_digit_run, Stopped, stopped-label, stopped-point, next_is_lem, solid-run}
use Rattle.nodes.proofs.Rests.{tail-drop}
use Rattle.nodes.proofs.Spans.{span_of, span_length, Decimal, decimal-length}

-- digits begin a text with as many at the least
run_begins : {w s rest : List ℕ} → Run is_digit w s rest → 0 < run is_digit s
run_begins {rest = rest} r = rw (run-splits r) (digits-begin (run_all r) (run_some r) rest)

number_begins : {w s rest : List ℕ} → Number w s rest → 0 < run is_digit s
number_begins (whole r) = run_begins r
number_begins (decimal r u) = run_begins r

-- digits, a point and digits
module _ {v w s mid rest : List ℕ} (r : Run is_digit v s (46 ∷ mid)) (u : Run is_digit w mid rest) where
  before-point : run is_digit s ≡ length v
  before-point = run-exact r (solid-run is_digit 46 mid refl)

  at_point : drop (length v) s ≡ 46 ∷ mid
  at_point = rw (run-splits r) (drop-append_seam v (46 ∷ mid))

  behind-point : drop (length v + 1) s ≡ mid
  behind-point = sym (tail-drop (length v) s) ∙ ap tail at_point

  pointed-decimal : Decimal s
  pointed-decimal =
      record { whole = run_begins r; point = rw (before-point, at_point) (next_is_lem 46 mid); part = rw (before-point, behind-point) (run_begins u) }

  pointed-length : run is_digit rest ≡ 0 → number_length s ≡ length (v ++ 46 ∷ w)
  pointed-length over =
      let e : run is_digit mid ≡ length w = run-exact u over in
      decimal-length pointed-decimal ∙ rw (before-point, behind-point, e) (simp length-append (omega arith))

-- a number that is stopped takes as many bytes as are counted for it
pub number-length : {w s rest : List ℕ} → Number w s rest → Stopped rest → number_length s ≡ length w
unfolding number_length
number-length {w} {s} {rest} (whole r) stop =
    let d : run is_digit s ≡ length w = run-exact r (no_digit_run rest (stopped-label stop)) in
    let e : drop (length w) s ≡ rest = rw (run-splits r) (drop-append_seam w rest) in
    rw (d, e, stopped-point stop) (omega arith)
number-length {rest = rest} (decimal r u) stop = pointed-length r u (no_digit_run rest (stopped-label stop))

-- by either count
pub number_span : {w s rest : List ℕ} → Number w s rest → Stopped rest → span_of s ≡ length w
number_span {s = s} n stop = span_length s (number_begins n) ∙ number-length n stop

-- ---- a number with more than three decimals

-- it has digits behind a point
pub fine-decimal : {w s rest : List ℕ} → Number w s rest → too_fine w ≡ true → Decimal s
fine-decimal {w} (whole r) fine = absurd (false≢true (sym (whole_not_fine w (run_all r) (run_some r)) ∙ fine))
fine-decimal (decimal r u) fine = pointed-decimal r u

no_digit_over : (rest : List ℕ) → next_digit rest ≡ false → run is_digit rest ≡ 0
unfolding next_digit run
no_digit_over [] over = refl
no_digit_over (b ∷ rest) over = rw over refl

-- where no digit follows, it takes as many bytes as are counted for it
pub fine-length : {w s rest : List ℕ} → Number w s rest → next_digit rest ≡ false → too_fine w ≡ true → number_length s ≡ length w
fine-length {w} (whole r) over fine = absurd (false≢true (sym (whole_not_fine w (run_all r) (run_some r)) ∙ fine))
fine-length {rest = rest} (decimal r u) over fine = pointed-length r u (no_digit_over rest over)
