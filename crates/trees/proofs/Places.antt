-- The places of a record's clusters: the m clusters of a record stand at its places 1 to m.
use Prim.Native.Nat.{ℕ, zero, suc, ◌+◌, ◌-◌, ◌≤◌, ◌<◌}
use mathlib.Core.Path.{◌≡◌, refl, sym, ap, ◌∙◌}
use mathlib.Core.List.Memᴰ
use mathlib.Core.List.{List, [], ◌∷◌, Memᴰ}
use native.Mathlib.Omega.{arith}
use lib.ListN.{length, get_or, take, drop, length-take, length-drop}
use lib.Seq.{get_or-take, get_or-drop}
use Rattle.trees.specs.Lists.{Among}

-- ---- a list and its places

-- what stands at a place of a list is among it
pub at_among : {A : Type 0} (l : List A) (other : A) (k : ℕ) → k < length l → Memᴰ (get_or l k other) l
at_among [] other k h = absurd (omega arith)
at_among (x ∷ l) other zero h = Memᴰ.head refl
at_among (x ∷ l) other (suc k) h = Memᴰ.tail (at_among l other k (omega arith))

-- what is among a list stands at a place of it
pub record At {A : Type 0} (l : List A) (other a : A) : Type 0 where
  pub place : ℕ
  pub before_end : place < length l
  pub there : get_or l place other ≡ a

pub among_at : {A : Type 0} {a : A} {l : List A} (other : A) → Memᴰ a l → At l other a
among_at other (Memᴰ.head e) = record { place = 0; before_end = omega arith; there = sym e }
among_at other (Memᴰ.tail m) =
    let p = among_at other m in
    record { place = suc p.place; before_end = omega arith; there = p.there }

-- ---- the clusters of a record

module _ {size : ℕ} (r : List ℕ) (m : ℕ) (long : length r ≡ size) (few : m ≤ size - 1) where
  pub listed-length : length (take m (drop 1 r)) ≡ m
  listed-length = simp (length-take, length-drop) (omega arith)

  pub listed-place : (k : ℕ) → k < m → get_or (take m (drop 1 r)) k 0 ≡ get_or r (k + 1) 0
  listed-place k h = get_or-take m (drop 1 r) k 0 h ∙ get_or-drop 1 r k 0 ∙ ap (λ (n : ℕ). get_or r n 0) (omega arith)

  -- the number at a place from 1 to m is one of the clusters
  pub place-among : (i : ℕ) → 1 ≤ i → i ≤ m → Among (get_or r i 0) (take m (drop 1 r))
  place-among i one last =
      let e = listed-place (i - 1) (omega arith) in
      let n : i - 1 + 1 ≡ i = omega arith in
      let here = at_among (take m (drop 1 r)) 0 (i - 1) (omega (arith, listed-length)) in
      Memᴰ.cast (sym (e ∙ ap (λ (n : ℕ). get_or r n 0) n)) here

  -- each of the clusters stands at a place from 1 to m
  pub record Placed (a : ℕ) : Type 0 where
    pub place : ℕ
    pub first : 1 ≤ place
    pub last : place ≤ m
    pub there : get_or r place 0 ≡ a

  pub among-place : (a : ℕ) → Among a (take m (drop 1 r)) → Placed a
  among-place a h =
      let p = among_at 0 h in
      let b : p.place < m = omega (arith, listed-length) in
      record { place = p.place + 1; first = omega arith; last = omega arith; there = sym (listed-place p.place b) ∙ p.there }
