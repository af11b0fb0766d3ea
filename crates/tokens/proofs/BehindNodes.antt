-- What stands behind a node, read from a place of the text, for each way that it can go on.
use Prim.Native.Nat.{ℕ, ◌+◌, ◌-◌}
use native.Mathlib.Omega.{arith}
use mathlib.Core.Path.{◌≡◌, refl}
use mathlib.Core.Bool.{true, false}
use mathlib.Core.List.{List, []}
use lib.ListN.{drop}
use lib.Seq.{drop-drop}
use Rattle.labels.specs.Bytes.{next_is, next_label}
use Rattle.labels.specs.Labels.{letters, Told, told, scanned_by, scanned_at}
use Rattle.labels.specs.Labels.Told.{ended, faulty}
use Rattle.tokens.specs.Answers.{and_then}
use Rattle.tokens.specs.Answers.Answer.{parsed}
use Rattle.tokens.specs.Tokens.{blanks, skip, number, number_behind, second_number, first_number, numbers, name_by, name, inner_name}
use Rattle.tokens.specs.Says.{between, Valued, label_says, inner_word}
use Rattle.tokens.specs.declared.answer.Figure.{Figure}
use Rattle.std.proofs.Common.{None}
use Rattle.tokens.proofs.Places.{skip_to, tail_at}
use Rattle.tokens.proofs.Values.{no_bytes}

-- no bytes
pub between_none : (text : List ℕ) (p : ℕ) → between text (record { from = p; to = p; value = None }) ≡ []
between_none text p = let e : p - p ≡ 0 = omega arith in rw e

-- have no value
pub none_valued : (text : List ℕ) (p : ℕ) → Valued text (record { from = p; to = p; value = None })
none_valued text p = (rw (between_none text p) no_bytes.0, rw (between_none text p) (omega arith))

-- the blanks from `at` on end at `colon`
module _ (text : List ℕ) (at colon : ℕ) (skipped : colon ≡ at + blanks (drop at text)) where
  -- the number behind a colon begins behind the blanks
  pub number_behind_lem : number_behind (drop at text) at ≡ number (drop colon text) colon
  unfolding number_behind
  number_behind_lem = rw (skip_to text at colon skipped, ← skipped)

module _ (text : List ℕ) (at colon : ℕ) (skipped : colon ≡ at + blanks (drop at text)) where
  -- a second number follows a first, or none does
  pub second_follows :
      (w d : List ℕ) → next_is 58 (drop colon text) ≡ true
      → second_number (next_is 58 (skip (drop at text))) w d (drop at text) at
      ≡ and_then (number_behind (drop (colon + 1) text) (colon + 1)) (λ b s p. parsed (record { name = w; distance = d; support = b }) s p)
  second_follows w d t = rw (skip_to text at colon skipped, t, skip_to text at colon skipped, ← skipped, tail_at text colon)

  pub second-missing :
      (w d : List ℕ) → next_is 58 (drop colon text) ≡ false
      → second_number (next_is 58 (skip (drop at text))) w d (drop at text) at ≡ parsed (record { name = w; distance = d; support = [] }) (drop at text) at
  second-missing w d t = rw (skip_to text at colon skipped, t)

  -- no numbers
  pub numbers-missing :
      (w : List ℕ) → next_is 58 (drop colon text) ≡ false
      → parsed (record { name = w; distance = []; support = [] }) (drop at text) at ≡ numbers w (drop at text) at
  unfolding numbers
  numbers-missing w t = rw (skip_to text at colon skipped, t)

  -- a colon, and blanks up to `second`
  module _ (second : ℕ) (again : second ≡ colon + 1 + blanks (drop (colon + 1) text)) (w : List ℕ) (t : next_is 58 (drop colon text) ≡ true) where
    numbers_first :
        numbers w (drop at text) at ≡ first_number (next_is 58 (skip (drop (colon + 1) text))) w (drop (colon + 1) text) (colon + 1)
    unfolding numbers
    numbers_first = rw (skip_to text at colon skipped, t, skip_to text at colon skipped, ← skipped, tail_at text colon)

    -- a second colon: the support alone
    pub support-alone :
        (none : Figure) → none ≡ record { from = second; to = second; value = None } → next_is 58 (drop second text) ≡ true
        → and_then (number_behind (drop (second + 1) text) (second + 1))
        (λ b s p. parsed (record { name = w; distance = between text none; support = b }) s p)
        ≡ numbers w (drop at text) at
    support-alone none e u =
        let n : between text none ≡ [] = rw e (between_none text second) in
        rw (numbers_first, skip_to text (colon + 1) second again, u, skip_to text (colon + 1) second again, ← again, tail_at text second, n)

    -- else the distance
    pub distance_first :
        next_is 58 (drop second text) ≡ false
        → and_then (number (drop second text) second) (λ d s p. second_number (next_is 58 (skip s)) w d s p) ≡ numbers w (drop at text) at
    distance_first u =
        rw (numbers_first, skip_to text (colon + 1) second again, u, number_behind_lem text (colon + 1) second again)

-- the label that is scanned is the name
pub scanned-name : (text : List ℕ) (at : ℕ) → label_says text (letters (drop at text)) (scanned_at text at) ≡ name (drop at text) at
unfolding scanned_at name
scanned-name text at = by_end (told (drop at text))
  where
    by_end : (t : Told) → label_says text (letters (drop at text)) (scanned_by t (drop at text) at) ≡ name_by t (drop at text) at
    by_end (ended n) = rw (drop-drop n at text)
    by_end (faulty fault d) = refl

-- an inner node's name
module _ (text : List ℕ) (at begun : ℕ) (skipped : begun ≡ at + blanks (drop at text)) where
  pub inner-named :
      next_label (drop begun text) ≡ true → label_says text (inner_word (drop at text)) (scanned_at text begun) ≡ inner_name (drop at text) at
  unfolding inner_word inner_name
  inner-named t =
      rw (skip_to text at begun skipped, t, skip_to text at begun skipped, ← skipped) (scanned-name text begun)

  pub inner-nameless : next_label (drop begun text) ≡ false → parsed (inner_word (drop at text)) (drop at text) at ≡ inner_name (drop at text) at
  unfolding inner_word inner_name
  inner-nameless t =
      rw (skip_to text at begun skipped, t)
