-- The low parts of a cluster, tried one number after the other until that of the tree is met.
use Prim.Native.Nat.{ℕ, suc, ◌+◌, ◌-◌, ◌*◌, ◌≤◌, ◌<◌}
use mathlib.Core.Path.{◌≡◌, sym, ap, ap₂, ◌∙◌, subst}
use mathlib.Core.Bool.{true, false}
use mathlib.Core.List.{List, ◌∷◌, ◌++◌}
use native.Mathlib.Omega.{arith}
use lib.ListN.{length, get_or, drop, length-append, drop_of_length-le, get_or-append, get_or-map}
use lib.Seq.{drop-cons, get_or-append-add}
use Rattle.clusters.specs.Sets.{has, within, size, single, lowest}
use Rattle.clusters.proofs.Members.{has_of_within, single-has}
use Rattle.clusters.proofs.Sets.{within-true, true-within, single-within}
use Rattle.trees.specs.Lists.{keep, up_to}
use Rattle.trees.proofs.Booleans.{unless}
use Rattle.trees.proofs.Totals.{one_le_total}
use Rattle.trees.proofs.UpTo.{length-up_to, map-up_to}
use Rattle.splits.specs.BinaryTrees.{Binary, is_low, lows, each, forks, trees_on}
use Rattle.splits.specs.BinaryTrees.Binary.{tip}
use Rattle.splits.specs.WellFormed.{LowPart}
use Rattle.splits.proofs.LowParts.{has-true, true-has, is_low-true, true-is_low, lows-among, low_some, low-part_two}
use Rattle.splits.proofs.Membership.{trees_on-splits}
use Rattle.splits.proofs.TreeCounts.{same_test, length-each, length-forks}
use Rattle.plain.specs.Numbering.{tree_of}
use Rattle.plain.specs.Work.{Numbered, PartOf}

-- ---- the test for a low part

-- a species is in a set where it lies within it alone
single-has-test : (low i : ℕ) → within (single i) low ≡ has low i
single-has-test low i =
    same_test (within (single i) low) (has low i)
    (λ e. true-has low i (has_of_within (single i) low i (within-true (single i) low e) (single-has i)))
    (λ e. true-within (single i) low (single-within low i (has-true low i e)))

pub inside-low : (a low : ℕ) → within low a ≡ true → within (single (lowest a)) low ≡ is_low a low
unfolding is_low
inside-low a low e = rw e (single-has-test low (lowest a))

pub outside_low : (a low : ℕ) → within low a ≡ false → false ≡ is_low a low
unfolding is_low
outside_low a low e = rw e

pub low_part : {a low : ℕ} → is_low a low ≡ true → low < a → LowPart a low
low_part {a} {low} e l = let k = is_low-true a low e in record { inside = k.0; holds = k.1; less = l }

-- ---- the trees with one low part, and those from it on

-- the trees with this low part at their root
abbrev with_low : ℕ → ℕ → List Binary
with_low a low = forks a (trees_on low) (trees_on (a - low))

-- they are no more than all
pub part_few : {a low : ℕ} → LowPart a low → length (trees_on low) * length (trees_on (a - low)) ≤ length (trees_on a)
part_few {a} {low} p =
    let all = ap length (trees_on-splits a (λ e. omega (arith, low-part_two p))) ∙ length-each (with_low a) (lows a) in
    omega (arith, all, one_le_total (λ x. length (with_low a x)) (lows a) low (lows-among p), length-forks a (trees_on low) (trees_on (a - low)))

-- the trees on a whose low part at the root is no smaller number than low
abbrev from : ℕ → ℕ → List Binary
from a low = each (with_low a) (keep (is_low a) (drop low (up_to a)))

-- the number at the front is the next one
next_number : (a low : ℕ) → low < a → drop low (up_to a) ≡ low ∷ drop (suc low) (up_to a)
next_number a low l =
    drop-cons (up_to a) low 0 (omega (arith, length-up_to a))
    ∙ ap (λ x. x ∷ drop (suc low) (up_to a)) (sym (get_or-map (λ x. x) (up_to a) low 0) ∙ map-up_to (λ x. x) a low l)

from_low : {a low : ℕ} → LowPart a low → from a low ≡ with_low a low ++ from a (suc low)
unfolding keep each
from_low {a} {low} p = rw (next_number a low p.less, true-is_low a low p.inside p.holds)

from_other : (a low : ℕ) → low < a → is_low a low ≡ false → from a low ≡ from a (suc low)
unfolding keep each
from_other a low l e = rw (next_number a low l, e)

-- none has the empty set for its low part
from_one : (a : ℕ) → 1 ≤ a → (size a ≡ 1 → ⊥) → from a 1 ≡ trees_on a
unfolding lows
from_one a l f = sym (from_other a 0 l (unless (is_low a 0) empty)) ∙ sym (trees_on-splits a f)
  where
    empty : is_low a 0 ≡ true → ⊥
    empty e = omega (arith, low_some (low_part e l))

-- at the end there is none left
from_end : (a low : ℕ) → a ≤ low → length (from a low) ≡ 0
unfolding keep each
from_end a low l = rw (drop_of_length-le (up_to a) {i = low} (omega (arith, length-up_to a)))

-- ---- while the low parts are tried

-- of the trees from this low part on, the tree of the number stands at the place that is left
pub record Tried (a number low left : ℕ) : Type 0 where
  pub among : left < length (from a low)
  pub same : tree_of a number ≡ get_or (from a low) left (tip a)

pub tried_start : {a number : ℕ} → Numbered a number → 2 ≤ size a → Tried a number 1 number
unfolding tree_of
tried_start {a} {number} h two =
    let all = from_one a h.some (λ e. omega arith) in
    let under = h.among in
    record { among = omega (arith, ap length all); same = ap (λ l. get_or l number (tip a)) (sym all) }

module _ {a number low left : ℕ} (t : Tried a number low left) where
  -- some low part has the tree
  pub tried_end : a ≤ low → ⊥
  tried_end l = let among = t.among in omega (arith, from_end a low l)

  -- this number is no low part
  pub tried_other : {low' : ℕ} → low < a → is_low a low ≡ false → low' ≡ suc low → Tried a number low' left
  tried_other l e n =
      let all = from_other a low l e in
      let among = t.among in
      subst (λ k. Tried a number k left) (sym n) (record { among = omega (arith, ap length all); same = t.same ∙ ap (λ k. get_or k left (tip a)) all })

  -- it is a low part; x and y are how many trees there are on it and on the rest of a
  module _ {x y : ℕ} (p : LowPart a low) (e : x ≡ length (trees_on low)) (f : y ≡ length (trees_on (a - low))) where
    met : length (with_low a low) ≡ x * y
    met = length-forks a (trees_on low) (trees_on (a - low)) ∙ sym (ap₂ ◌*◌ e f)

    -- the tree has it
    pub tried_met : left < x * y → PartOf a number (record { low = low; number = left })
    tried_met h = record {
      low_part = p;
      among = omega (arith, ap₂ ◌*◌ e f);
      same =
          t.same ∙ ap (λ k. get_or k left (tip a)) (from_low p)
          ∙ get_or-append (with_low a low) (from a (suc low)) (tip a) left (omega (arith, met));
    }

    -- the tree is behind all that have it
    pub tried_behind : {low' left' : ℕ} → x * y ≤ left → low' ≡ suc low → left' ≡ left - x * y → Tried a number low' left'
    tried_behind {low'} {left'} h n m =
        let among = t.among in
        let place : left ≡ length (with_low a low) + left' = omega (arith, met) in
        subst (λ k. Tried a number k left') (sym n) (record {
          among = omega (arith, ap length (from_low p), length-append (with_low a low) (from a (suc low)));
          same = t.same ∙ ap₂ (λ k i. get_or k i (tip a)) (from_low p) place ∙ get_or-append-add (with_low a low) (from a (suc low)) left' (tip a);
        })
