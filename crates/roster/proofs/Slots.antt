-- The sixteens of the table: how long a name is in one of them, and where a name stands among them.
use Prim.Native.Nat.{ℕ, zero, suc, ◌+◌, ◌-◌, ◌*◌, ◌≤◌, ◌<◌, zero-le}
use native.Mathlib.Nat.{le_refl, sub-zero, zero-add}
use Rattle.std.specs.Prelude.{Option, None, Some}
use Rattle.std.specs.Option.{MatchOption, is_some}
use native.Mathlib.Omega.{arith}
use native.Mathlib.Numerals.{add-one}
use mathlib.Core.Path.{◌≡◌, refl, sym, ◌∙◌}
use mathlib.Core.Bool.{true, false, false≢true}
use mathlib.Core.List.{List, [], ◌∷◌}
use lib.ListN.{length, get_or, drop, length-drop}
use lib.Dec.{eqb}
use lib.Pointwise.{pointwise}
use lib.Seq.{length-take-le, get_or-drop, get_or-take}
use borrow.Author.Tests.{eq-eqb, ne_eqb}
use Rattle.labels.specs.Bytes.{run}
use Rattle.trees.specs.Lists.{pieces}
use Rattle.trees.proofs.EqualPieces.{pieces_next}
use Rattle.roster.specs.Roster.{same, position}
use Rattle.roster.specs.Table.{slots, slot, non_zero, Sought}

-- the library's comparison of two lists
pointwise-same : (k l : List ℕ) → pointwise eqb k l ≡ same k l
unfolding same
pointwise-same [] [] = refl
pointwise-same [] (y ∷ l) = refl
pointwise-same (x ∷ k) [] = refl
pointwise-same (x ∷ k) (y ∷ l) = rw (pointwise-same k l)

-- how many bytes stand before the first 0
pub run_none : run non_zero [] ≡ 0
unfolding run
run_none = refl

pub run_zero : (b : ℕ) (l : List ℕ) → b ≡ 0 → run non_zero (b ∷ l) ≡ 0
unfolding run
run_zero b l e = rw (eq-eqb b 0 e)

pub run_more : (b : ℕ) (l : List ℕ) → (b ≡ 0 → ⊥) → run non_zero (b ∷ l) ≡ run non_zero l + 1
unfolding run
run_more b l n = rw (ne_eqb b 0 n) (omega arith)

pub slot-length : (table : List ℕ) (i : ℕ) → 16 * i + 16 ≤ length table → length (slot table i) ≡ 16
slot-length table i h = length-take-le 16 (drop (16 * i) table) (simp length-drop (omega arith))

pub slot-byte : (table : List ℕ) (i k : ℕ) → k < 16 → get_or (slot table i) k 0 ≡ get_or table (16 * i + k) 0
slot-byte table i k h = get_or-take 16 (drop (16 * i) table) k 0 h ∙ get_or-drop (16 * i) table k 0

-- k is within the i-th sixteen
pub within-slot : (table : List ℕ) (i k : ℕ) → 16 * i + 16 ≤ length table → k < 16 → k < length (slot table i)
within-slot table i k fits h = let e = slot-length table i fits in omega arith

module _ (w table : List ℕ) (count i : ℕ) (h : i < count) where
  -- the i-th sixteen is the word
  pub position_here : same w (slot table i) ≡ true → position w (slots (count - i) (drop (16 * i) table)) ≡ 0
  unfolding position
  position_here e = rw (pieces_next 16 i count table h, e)

  -- it is not: the word stands one further from there
  pub position_on :
      same w (slot table i) ≡ false → position w (slots (count - i) (drop (16 * i) table))
      ≡ suc (position w (slots (count - (i + 1)) (drop (16 * (i + 1)) table)))
  unfolding position
  position_on e = rw (pieces_next 16 i count table h, e)

-- none is left
pub position_end : (w table : List ℕ) (count i : ℕ) → count ≤ i → position w (slots (count - i) table) ≡ 0
unfolding position pieces
position_end w table count i h = let n : count - i ≡ 0 = omega arith in rw n

-- the first i sixteens are not the word: it stands i further than it does among those behind them
position_past :
    (w table : List ℕ) (count i : ℕ) → i ≤ count → ((k : ℕ) → k < i → pointwise eqb w (slot table k) ≡ false)
    → position w (slots count table) ≡ i + position w (slots (count - i) (drop (16 * i) table))
position_past w table count zero h none = simp (sub-zero, zero-add)
position_past w table count (suc i) h none =
    let before = position_past w table count i (omega arith) (λ k l. none k (omega arith)) in
    let on = position_on w table count i (omega arith) (sym (pointwise-same w (slot table i)) ∙ none i (omega arith)) in
    rw (← add-one i) (omega arith)

-- what the first sixteen that is the word says of where the word stands
pub sought_first :
    (w table : List ℕ) (count : ℕ) (r : Option ℕ)
    → MatchOption r ((k : ℕ) → 0 ≤ k → k < count → pointwise eqb w (slot table k) ≡ false)
    (λ i. (0 ≤ i) × (i < count) × (pointwise eqb w (slot table i) ≡ true) × ((k : ℕ) → 0 ≤ k → k < i → pointwise eqb w (slot table k) ≡ false))
    → Sought count (position w (slots count table)) r
sought_first w table count None none =
    let past = position_past w table count count (le_refl count) (λ k l. none k zero-le l) in
    let end = position_end w (drop (16 * count) table) count count (le_refl count) in
    omega arith
sought_first w table count (Some i) found =
    let past = position_past w table count i (omega arith) (λ k l. found.3 k zero-le l) in
    let here = position_here w table count i found.1 (sym (pointwise-same w (slot table i)) ∙ found.2) in
    (omega arith, found.1)

-- the name was found, so it is one of so many
pub known : (count p : ℕ) (r : Option ℕ) → Sought count p r → is_some r ≡ true → p < count
known count p None s e = absurd (false≢true e)
known count p (Some i) s e = omega arith

pub unknown : (count p : ℕ) (r : Option ℕ) → Sought count p r → is_some r ≡ false → count ≤ p
unknown count p None s e = omega arith
unknown count p (Some i) s e = absurd (false≢true (sym e))
