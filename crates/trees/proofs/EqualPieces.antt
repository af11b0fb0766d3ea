-- A list cut into pieces of one size: the i-th of them, those behind it, and that nothing behind the last is read.
use Prim.Native.Nat.{ℕ, zero, suc, ◌+◌, ◌-◌, ◌*◌, ◌≤◌, ◌<◌}
use mathlib.Core.Path.{◌≡◌, refl, sym, ap, ap₂, ◌∙◌}
use mathlib.Core.List.Memᴰ
use mathlib.Core.List.Memᴰ.{head as here}
use mathlib.Core.List.Memᴰ.{tail as there}
use mathlib.Core.List.{List, [], ◌∷◌, Memᴰ}
use native.Mathlib.Nat.{zero-add, suc-add, mul-zero, mul-suc, mul-le-mul_left}
use native.Mathlib.Numerals.{add-one}
use native.Mathlib.Omega.{arith}
use lib.ListN.{length, get_or, take, drop, length-take, length-drop}
use lib.Seq.{drop-drop, take-take, take-nil}
use Rattle.trees.specs.Lists.{pieces}

drop-take : (n m : ℕ) (l : List ℕ) → drop n (take (n + m) l) ≡ take m (drop n l)
drop-take zero m l = ap (λ (k : ℕ). take k l) (zero-add m)
drop-take (suc n) m [] = ap (λ (k : List ℕ). drop (suc n) k) (take-nil (suc n + m)) ∙ sym (take-nil m)
drop-take (suc n) m (x ∷ l) = ap (λ (k : ℕ). drop (suc n) (take k (x ∷ l))) (suc-add n m) ∙ drop-take n m l

module _ (size : ℕ) where
  pub pieces-length : (n : ℕ) (l : List ℕ) → length (pieces size n l) ≡ n
  unfolding pieces
  pieces-length zero l = refl
  pieces-length (suc n) l = ap suc (pieces-length n (drop size l))

  -- one piece further on
  further : (i : ℕ) (l : List ℕ) → drop size (drop (size * i) l) ≡ drop (size * (i + 1)) l
  further i l = drop-drop size (size * i) l ∙ rw (add-one, mul-suc) refl

  later : (i : ℕ) (l : List ℕ) → drop (size * i) (drop size l) ≡ drop (size * suc i) l
  later i l = let e : size + size * i ≡ size * i + size = omega arith in drop-drop (size * i) size l ∙ rw (e, mul-suc) refl

  -- the i-th piece, and those behind it
  pub pieces_next :
      (i count : ℕ) (l : List ℕ) → i < count
      → pieces size (count - i) (drop (size * i) l) ≡ take size (drop (size * i) l) ∷ pieces size (count - (i + 1)) (drop (size * (i + 1)) l)
  unfolding pieces
  pieces_next i count l h =
      let more : count - i ≡ suc (count - (i + 1)) = omega arith in
      rw (more, further i l) refl

  -- the pieces one by one
  pub piece_at : (n i : ℕ) (l : List ℕ) → i < n → get_or (pieces size n l) i [] ≡ take size (drop (size * i) l)
  unfolding pieces
  piece_at zero i l h = absurd (omega arith)
  piece_at (suc n) zero l h = rw mul-zero refl
  piece_at (suc n) (suc i) l h = piece_at n i (drop size l) (omega arith) ∙ ap (take size) (later i l)

  -- the i-th of them is one of them
  pub piece_among : (i n : ℕ) (l : List ℕ) → i < n → Memᴰ (take size (drop (size * i) l)) (pieces size n l)
  unfolding pieces
  piece_among i zero l h = absurd (omega arith)
  piece_among zero (suc n) l h = let first : take size (drop (size * 0) l) ≡ take size l = rw mul-zero refl in here first
  piece_among (suc i) (suc n) l h = there (Memᴰ.cast (ap (take size) (sym (later i l))) (piece_among i n (drop size l) (omega arith)))

  -- ---- the pieces from the i-th on

  unfoldable pub pieces_from : ℕ → ℕ → List ℕ → List (List ℕ)
  pieces_from i count l = pieces size (count - i) (drop (size * i) l)

  pub pieces_from_first : (count : ℕ) (l : List ℕ) → pieces_from 0 count l ≡ pieces size count l
  unfolding pieces_from
  pieces_from_first count l = let all : count - 0 ≡ count = omega arith in rw (mul-zero, all) refl

  pub pieces_from_next : (i count : ℕ) (l : List ℕ) → i < count → pieces_from i count l ≡ take size (drop (size * i) l) ∷ pieces_from (i + 1) count l
  unfolding pieces_from
  pieces_from_next i count l h = pieces_next i count l h

  pub pieces_from_last : (count : ℕ) (l : List ℕ) → pieces_from count count l ≡ []
  unfolding pieces pieces_from
  pieces_from_last count l = let none : count - count ≡ 0 = omega arith in ap (λ (n : ℕ). pieces size n (drop (size * count) l)) none

  -- ---- the part of the entries that a call is lent

  -- by its start
  pub part_from : (i : ℕ) (l : List ℕ) → take (size * i + size - size * i) (drop (size * i) l) ≡ take size (drop (size * i) l)
  part_from i l =
      let whole : size * i + size - size * i ≡ size = omega arith in
      ap (λ (n : ℕ). take n (drop (size * i) l)) whole

  -- by its end
  pub part_up_to : (i : ℕ) (l : List ℕ) → 1 ≤ i → take (size * i - (size * i - size)) (drop (size * i - size) l) ≡ take size (drop (size * (i - 1)) l)
  part_up_to zero l one = absurd (omega arith)
  part_up_to (suc i) l one =
      let before : suc i - 1 ≡ i = omega arith in
      let whole : size * suc i - (size * suc i - size) ≡ size = omega (arith, mul-suc size i) in
      let start : size * suc i - size ≡ size * (suc i - 1) = rw before (omega (arith, mul-suc size i)) in
      ap₂ (λ (n k : ℕ). take n (drop k l)) whole start

  pub part-size : (i count : ℕ) (l : List ℕ) → i < count → size * count ≤ length l → length (take (size * i + size - size * i) (drop (size * i) l)) ≡ size
  part-size i count l h fits =
      let most : size * suc i ≤ size * count = mul-le-mul_left size h in
      omega (arith, mul-suc size i, length-take (size * i + size - size * i) (drop (size * i) l), length-drop (size * i) l)

  -- ---- entries beyond the need

  -- the pieces are those of the entries that are needed
  pub pieces-needed : (count : ℕ) (l : List ℕ) → pieces size count (take (size * count) l) ≡ pieces size count l
  unfolding pieces
  pieces-needed zero l = refl
  pieces-needed (suc n) l =
      let more : size * suc n ≡ size + size * n = omega (arith, mul-suc size n) in
      ap₂ ◌∷◌ (take-take size (size * suc n) l (omega arith))
      (ap (λ (k : ℕ). pieces size n (drop size (take k l))) more ∙ ap (λ (k : List ℕ). pieces size n k) (drop-take size (size * n) l)
      ∙ pieces-needed n (drop size l))
