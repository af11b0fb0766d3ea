-- Runs of stores into a list: one run behind another is one run, and what was stored stands there.
use Prim.Native.Nat.{ℕ, suc, ◌+◌, ◌≤◌, ◌<◌}
use mathlib.Core.Path.{◌≡◌, refl, sym, ap, ◌∙◌}
use mathlib.Core.List.{List, [], ◌∷◌, ◌++◌}
use native.Mathlib.Nat.{add-zero, add-suc, suc-add}
use native.Mathlib.Numerals.{add-one}
use native.Mathlib.Omega.{arith}
use lib.ListN.{length, get_or, take, drop, set, length-set, get_or-append}
use lib.Seq.{sets, sets-eq, length-take-le, take-suc, take-suc-set, take_all, take-take, take-append_seam}

pub sets_append : (l : List ℕ) (i : ℕ) (a b : List ℕ) → sets (sets l i a) (i + length a) b ≡ sets l i (a ++ b)
sets_append l i [] b = rw add-zero
sets_append l i (x ∷ a) b = rw (add-suc, ← suc-add) (sets_append (set l i x) (suc i) a b)

-- one store behind a run
pub set-behind : (l : List ℕ) (i x : ℕ) (a : List ℕ) → set (sets l i a) (i + length a) x ≡ sets l i (a ++ (x ∷ []))
set-behind l i x a = sets_append l i a (x ∷ [])

-- a copy, element by element
pub copy_more : (l w : List ℕ) (i k : ℕ) → k < length w → set (sets l i (take k w)) (i + k) (get_or w k 0) ≡ sets l i (take (k + 1) w)
copy_more l w i k h =
    let e : length (take k w) ≡ k = length-take-le k w (omega arith) in
    rw (add-one, take-suc w k 0 h) (ap (λ (j : ℕ). set (sets l i (take k w)) (i + j) (get_or w k 0)) (sym e) ∙ set-behind l i (get_or w k 0) (take k w))

-- a run from the front of a list that has room for it
pub sets-front : (l a : List ℕ) → length a ≤ length l → sets l 0 a ≡ a ++ drop (length a) l
sets-front l a h = let e : 0 + length a ≡ length a = omega arith in sets-eq a l 0 (omega arith) ∙ ap (λ (k : ℕ). a ++ drop k l) e

pub get_or-sets : (l a : List ℕ) (i : ℕ) → length a ≤ length l → i < length a → get_or (sets l 0 a) i 0 ≡ get_or a i 0
get_or-sets l a i h k = rw (sets-front l a h) (get_or-append a (drop (length a) l) 0 i k)

pub take-sets : (l a : List ℕ) → length a ≤ length l → take (length a) (sets l 0 a) ≡ a
take-sets l a h = rw (sets-front l a h) (take-append_seam a (drop (length a) l))

-- ---- a copy into a list of a size, number by number

-- the first i of its numbers are those of the other list, which is no shorter
pub record Copied (size : ℕ) (from to : List ℕ) (i : ℕ) : Type 0 where
  pub sized : length to ≡ size
  pub room : size ≤ length from
  pub done : take i to ≡ take i from

pub copied_none : {size : ℕ} (from to : List ℕ) → length to ≡ size → size ≤ length from → Copied size from to 0
copied_none from to sized room = record { sized = sized; room = room; done = refl }

pub copied_next : {size : ℕ} {from to : List ℕ} {i : ℕ} → Copied size from to i → i < size → Copied size from (set to i (get_or from i 0)) (i + 1)
copied_next {size} {from} {to} {i} c here =
    let sized = c.sized in
    let room = c.room in
    record {
      sized = length-set to i (get_or from i 0) ∙ sized;
      room = room;
      done = rw (add-one, take-suc-set to i (get_or from i 0) (omega arith), take-suc from i 0 (omega arith), c.done) refl;
    }

pub copied_all : {size : ℕ} {from to : List ℕ} {i : ℕ} → Copied size from to i → size ≤ i → to ≡ take size from
copied_all {size} {from} {to} {i} c past =
    let sized = c.sized in
    sym (take_all size to (omega arith)) ∙ sym (take-take size i to past) ∙ ap (λ (l : List ℕ). take size l) c.done ∙ take-take size i from past
