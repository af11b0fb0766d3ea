-- What follows from the meaning of a refusal: its place, its number, and what it says by each number.
use Prim.Native.Nat.{ℕ, ◌+◌, ◌≤◌, ◌<◌}
use mathlib.Core.Path.{◌≡◌, refl, ap}
use mathlib.Core.Logic.{◌⊎◌, inl, inr}
use mathlib.Core.Bool.{Bool, true, false}
use mathlib.Core.List.{List}
use native.Mathlib.Omega.{arith}
use lib.ListN.{length, drop}
use Rattle.labels.specs.Bytes.{next_is}
use Rattle.labels.specs.Labels.{told}
use Rattle.labels.proofs.Spelled.{told_sound}
use Rattle.nodes.specs.Deciding.{border, bytes_of, border_by}
use Rattle.nodes.proofs.Spans.{decimal-length}
use Rattle.meanings.specs.Meaning.{Stray, LongName, LongNumber, LeafAt, UnknownName, RepeatedName, SingleChild, TooDeep, Missing, EndsFirst, FineSupport, Means}
use Rattle.meanings.specs.Meaning.Means.{stray, long_name, long_number, unknown_name, repeated_name, single_child, too_deep, missing, ends_first, fine_support}
use Rattle.meanings.proofs.NumberSpans.{fine-decimal}
use Rattle.meanings.proofs.OneAnswer.{border-within}

-- a leaf's label has bytes
leaf-before : {s : List ℕ} {d : ℕ} → LeafAt s d → d < d + bytes_of (told (drop d s))
leaf-before {s} {d} l =
    let e : bytes_of (told (drop d s)) ≡ l.bytes = ap bytes_of l.ends in
    omega (arith, (told_sound (drop d s) l.bytes l.begins l.ends).some)

-- a sixteenth letter takes one byte or two
letter-before : (twice : Bool) (d : ℕ) (s : List ℕ) → d < border_by false false twice d s
letter-before true d s = omega arith
letter-before false d s = omega arith

module _ (given : Bool) {names : List (List ℕ)} {most needed : ℕ} {s : List ℕ} {d : ℕ} where
  -- the place stands before the border
  pub refusal-before : {number : ℕ} → Means given names most needed s d number → d < border number s d
  unfolding border
  refusal-before (stray r) = omega arith
  refusal-before (long_name r) = letter-before (next_is 39 (drop d s)) d s
  refusal-before (long_number r) = letter-before (next_is 39 (drop d s)) d s
  refusal-before (unknown_name r) = leaf-before r.leaf
  refusal-before (repeated_name r) = leaf-before r.leaf
  refusal-before (single_child r) = omega arith
  refusal-before (too_deep r) = omega arith
  refusal-before (missing r) = omega arith
  refusal-before (ends_first r) = omega arith
  refusal-before (fine_support is r) = omega (arith, decimal-length (fine-decimal r.number r.fine))

  -- but for 10, the bytes that decide are bytes of the text, and so is the place
  pub refusal-inside : {number : ℕ} → Means given names most needed s d number → (number ≡ 10 → ⊥) → d < length s
  refusal-inside m other = omega (arith, refusal-before m, border-within given m other)

  -- the numbers are those from 3 to 10, and 18
  pub refusal-numbers : {number : ℕ} → Means given names most needed s d number → (3 ≤ number) × ((number ≤ 10) ⊎ (number ≡ 18))
  refusal-numbers (stray r) = (omega arith, inl (omega arith))
  refusal-numbers (long_name r) = (omega arith, inl (omega arith))
  refusal-numbers (long_number r) = (omega arith, inl (omega arith))
  refusal-numbers (unknown_name r) = (omega arith, inl (omega arith))
  refusal-numbers (repeated_name r) = (omega arith, inl (omega arith))
  refusal-numbers (single_child r) = (omega arith, inl (omega arith))
  refusal-numbers (too_deep r) = (omega arith, inl (omega arith))
  refusal-numbers (missing r) = (omega arith, inl (omega arith))
  refusal-numbers (ends_first r) = (omega arith, inl (omega arith))
  refusal-numbers (fine_support is r) = (omega arith, inr refl)

  -- each number by itself
  pub says_3 : Means given names most needed s d 3 → Stray s d
  says_3 (stray r) = r

  pub says_4 : Means given names most needed s d 4 → LongName s d ⊎ LongNumber s d
  says_4 (long_name r) = inl r
  says_4 (long_number r) = inr r

  pub says_5 : Means given names most needed s d 5 → UnknownName names s d
  says_5 (unknown_name r) = r

  pub says_6 : Means given names most needed s d 6 → RepeatedName names s d
  says_6 (repeated_name r) = r

  pub says_7 : Means given names most needed s d 7 → SingleChild s d
  says_7 (single_child r) = r

  pub says_8 : Means given names most needed s d 8 → TooDeep most s d
  says_8 (too_deep r) = r

  pub says_9 : Means given names most needed s d 9 → Missing given names most needed s d
  says_9 (missing r) = r

  pub says_10 : Means given names most needed s d 10 → EndsFirst s d
  says_10 (ends_first r) = r

  pub says_18 : Means given names most needed s d 18 → (given ≡ true) × FineSupport s d
  says_18 (fine_support is r) = (is, r)
