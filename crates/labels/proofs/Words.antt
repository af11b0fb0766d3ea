-- Names in sixteen bytes, filled byte by byte.
use Prim.Native.Nat.{ℕ, suc, ◌+◌, ◌-◌, ◌<◌}
use native.Mathlib.Omega.{arith}
use native.Mathlib.Numerals.{add-one}
use mathlib.Core.Path.{◌≡◌, refl, sym, ap, ◌∙◌}
use mathlib.Core.List.{List, [], ◌∷◌, ◌++◌, map, map-append}
use lib.ListN.{length, get_or, set, take, drop, replicate, length-append, length-drop, length-map}
use lib.Seq.{take-suc, length-take-le, set_at, append_snoc, get_or-drop}
use Rattle.labels.specs.Bytes.{is_bare, run}
use Rattle.labels.specs.Spelling.{unwritten}
use Rattle.labels.specs.Labels.{bare_letters, padded}

-- at first there is nothing but zeros
pub nothing_written : replicate 16 0 ≡ padded []
unfolding padded
nothing_written = refl

-- one more byte written behind a name
pub written_more : (w : List ℕ) (b n : ℕ) → length w ≡ n → n < 16 → set (padded w) n b ≡ padded (w ++ (b ∷ []))
unfolding padded
written_more w b n e h =
    let more : 16 - length w ≡ suc (16 - length (w ++ (b ∷ []))) = rw (length-append w (b ∷ [])) (omega arith) in
    ap (λ (k : ℕ). set (w ++ replicate k 0) n b) more
    ∙ set_at w 0 (replicate (16 - length (w ++ (b ∷ []))) 0) b n e
    ∙ sym (append_snoc w b (replicate (16 - length (w ++ (b ∷ []))) 0))

-- the bytes of a bare label as they are decoded
module _ (text : List ℕ) (at i : ℕ) where
  abbrev pub decoded : List ℕ
  decoded = map unwritten (take i (drop at text))

  pub decoded_more : (name : List ℕ) (b : ℕ) → i < 16 → at + i < length text → b ≡ unwritten (get_or text (at + i) 0) → name ≡ padded decoded
      → set name i b ≡ padded (map unwritten (take (i + 1) (drop at text)))
  decoded_more name b h k byte e =
      let s = drop at text in
      let l : i < length s = simp length-drop (omega arith) in
      let n : length (map unwritten (take i s)) ≡ i = length-map (take i s) unwritten ∙ length-take-le i s (omega arith) in
      ap (λ (m : List ℕ). set m i b) e ∙ written_more (map unwritten (take i s)) b i n h
      ∙ ap (λ (c : ℕ). padded (map unwritten (take i s) ++ (c ∷ []))) (byte ∙ ap unwritten (sym (get_or-drop at text i 0)))
      ∙ ap padded (sym (map-append unwritten (take i s) (get_or s i 0 ∷ [])))
      ∙ ap (λ (v : List ℕ). padded (map unwritten v)) (sym (take-suc s i 0 l) ∙ ap (λ (k : ℕ). take k s) (sym (add-one i)))

  pub decoded_all : (name : List ℕ) → i ≡ run is_bare (drop at text) → name ≡ padded decoded → name ≡ padded (bare_letters (drop at text))
  unfolding bare_letters
  decoded_all name e is = rw e at is
