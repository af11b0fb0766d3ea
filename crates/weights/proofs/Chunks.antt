-- Entries read by `chunks_exact`: what it yields are their pieces, such as the gene records that are lent.
use Prim.Native.Nat.{ℕ, zero, suc, ◌+◌, ◌*◌, ◌/◌, ◌≤◌, ◌<◌}
use mathlib.Core.Path.{◌≡◌, refl, ap, ◌∙◌}
use mathlib.Core.List.{List, [], ◌∷◌, ◌++◌}
use native.Mathlib.Omega.{arith}
use native.Mathlib.Numerals.{add-one}
use lib.ListN.{length, get_or, take, drop, length-take, length-append}
use Rattle.std.specs.Slice.Iter.{chunks_exact_rest, chunks_exact_size, chunks_exact_steps}
use Rattle.std.proofs.Math.Nat.{add-div_left, mul-div_right}
use Rattle.std.proofs.lemmas.Nat.{div-mul-add}
use Rattle.std.proofs.lemmas.Iterator.{YieldsList}
use Rattle.std.proofs.lemmas.Iterator.Splits.{YieldsList-from_shown_while}
use Rattle.std.proofs.lemmas.List.{take_at, drop_at}
use Rattle.trees.specs.Lists.{pieces}
use Rattle.trees.proofs.EqualPieces.{pieces-length, piece_at, pieces-needed}

module _ (size : ℕ) (some : 0 < size) where
  -- all whole pieces
  unfoldable pub whole_pieces : List ℕ → List (List ℕ)
  whole_pieces l = pieces size (length l / size) l

  pub whole_few : (l : List ℕ) → length l < size → length (whole_pieces l) ≡ 0
  unfolding whole_pieces pieces
  whole_few l short = let plain : 0 * size + length l ≡ length l = omega arith in
      let none : length l / size ≡ 0 = rw plain at (div-mul-add 0 size (length l) short) in rw none refl

  pub whole_more : (x l : List ℕ) → length x ≡ size → whole_pieces (x ++ l) ≡ x ∷ whole_pieces l
  unfolding whole_pieces pieces
  whole_more x l long =
      let more : length (x ++ l) / size ≡ suc (length l / size) = rw (length-append, long, add-div_left (length l) some) (add-one (length l / size)) in
      let front : take size (x ++ l) ≡ x = take_at x l size long in
      let behind : drop size (x ++ l) ≡ l = drop_at x l size long in
      rw (more, front, behind) refl

  pub whole_pieces_yielded : {s : _} → chunks_exact_size s ≡ size → YieldsList chunks_exact_steps (λ y. y.now) s (whole_pieces (chunks_exact_rest s))
  whole_pieces_yielded {s} e =
      YieldsList-from_shown_while chunks_exact_steps (λ y. y.now) (λ t. whole_pieces (chunks_exact_rest t)) (λ t. chunks_exact_size t ≡ size)
      (λ s t h k. whole_few (chunks_exact_rest s) (omega (arith, k.1.0)))
      (λ s x t h k. (k.0 ∙ h, ap whole_pieces k.1.0 ∙ whole_more x.now (chunks_exact_rest t) (k.1.1 ∙ h))) s e

  -- the first count pieces of entries, lent as those that are needed
  pub pieces_yielded :
      (count : ℕ) (l : List ℕ) {s : _} → chunks_exact_size s ≡ size → chunks_exact_rest s ≡ take (size * count) l → size * count ≤ length l
      → YieldsList chunks_exact_steps (λ y. y.now) s (pieces size count l)
  unfolding whole_pieces
  pieces_yielded count l {s} e needed fits =
      let long : length (take (size * count) l) ≡ size * count = omega (arith, length-take (size * count) l) in
      let many : length (take (size * count) l) / size ≡ count = rw long (mul-div_right count some) in
      let same : whole_pieces (chunks_exact_rest s) ≡ pieces size count l = rw (needed, many) (pieces-needed size count l) in
      rw same at (whole_pieces_yielded {s = s} e)

  -- the same of entries that are lent up to any place, where that is the needed one
  pub pieces_lent :
      (count : ℕ) (l : List ℕ) (lent : ℕ) {s : _} → chunks_exact_size s ≡ size → chunks_exact_rest s ≡ take lent l → lent ≡ size * count → size * count ≤ length l
      → YieldsList chunks_exact_steps (λ y. y.now) s (pieces size count l)
  pieces_lent count l lent {s} e is needed fits = pieces_yielded count l {s = s} e (is ∙ ap (λ k. take k l) needed) fits

  -- one turn of a loop over them
  pub piece_turn : (count : ℕ) (l : List ℕ) {i : ℕ} {g : List ℕ} → i < length (pieces size count l) → g ≡ get_or (pieces size count l) i g → (i < count) × (g ≡ take size (drop (size * i) l))
  piece_turn count l {i} {g} here is =
      let inside : i < count = omega (arith, pieces-length size count l) in
      (inside, is ∙ any_default (pieces size count l) i g [] here ∙ piece_at size count i l inside)
    where
      any_default : (k : List (List ℕ)) (i : ℕ) (d e : List ℕ) → i < length k → get_or k i d ≡ get_or k i e
      any_default [] i d e h = absurd (omega arith)
      any_default (x ∷ k) zero d e h = refl
      any_default (x ∷ k) (suc i) d e h = any_default k i d e (omega arith)
