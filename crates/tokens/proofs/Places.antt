-- A text from a place on: what is skipped, the byte that stands there, and what stands behind it.
use Prim.Native.Nat.{ℕ, ◌+◌, ◌≤◌, ◌<◌}
use mathlib.Core.Path.{◌≡◌, refl, sym, ap, ◌∙◌}
use mathlib.Core.Bool.{true}
use mathlib.Core.List.{List, [], ◌∷◌, tail}
use lib.ListN.{length, drop, drop_of_length-le}
use lib.Seq.{drop-cons, drop-drop}
use Rattle.faults.specs.declared.Fault.TheVariants.{StrayByte, TextEnds}
use Rattle.labels.specs.Bytes.{is_blank, run, next_is}
use Rattle.labels.proofs.FirstBytes.{next_within}
use Rattle.tokens.specs.Answers.{unexpected}
use Rattle.tokens.specs.Tokens.{blanks, skip}
use Rattle.tokens.specs.Says.{refusal, stray_at}

module _ (text : List ℕ) (at : ℕ) where
  -- the text behind the blanks begins where they end
  skip_at : skip (drop at text) ≡ drop (at + blanks (drop at text)) text
  unfolding skip blanks
  skip_at = drop-drop (run is_blank (drop at text)) at text

  pub skip_to : (here : ℕ) → here ≡ at + blanks (drop at text) → skip (drop at text) ≡ drop here text
  skip_to here skipped = rw skipped skip_at

  -- behind the byte that stands at a place
  pub tail_at : tail (drop at text) ≡ drop (at + 1) text
  tail_at = by_cases (drop at text) refl
    where
      by_cases : (s : List ℕ) → drop at text ≡ s → tail s ≡ drop (at + 1) text
      by_cases [] e = sym (sym (drop-drop 1 at text) ∙ ap (λ (l : List ℕ). drop 1 l) e)
      by_cases (b ∷ s) e = sym (sym (drop-drop 1 at text) ∙ ap (λ (l : List ℕ). drop 1 l) e)

  -- nothing that may stand at a place does: a byte stands there, or none
  pub stray-within : at < length text → record { fault = StrayByte; place = at } ≡ stray_at (drop at text) at
  stray-within h = rw (drop-cons text at 0)

  pub stray-beyond : length text ≤ at → record { fault = TextEnds; place = at } ≡ stray_at (drop at text) at
  stray-beyond h = rw (drop_of_length-le text h)

  -- a byte that stands there is within the text
  pub next_is_inside : (b : ℕ) → next_is b (drop at text) ≡ true → at < length text
  next_is_inside b e = next_within b text at e

-- the fault of a stray byte, or of the text's end, is what nothing that fits answers
pub stray-unexpected : {A : Type 0} (s : List ℕ) (p : ℕ) → refusal {A = A} (stray_at s p) ≡ unexpected s p
stray-unexpected [] p = refl
stray-unexpected (b ∷ s) p = refl
