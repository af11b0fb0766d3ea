-- The bytes of the notes behind the nodes of a record's tree: as many as those of the record's clusters, place by place.
use Prim.Native.Nat.{ℕ, zero, suc, ◌+◌, ◌*◌, ◌/◌, ◌^◌, ◌≤◌, ◌<◌}
use mathlib.Core.Path.{◌≡◌, refl, sym, ap, ◌∙◌}
use mathlib.Core.List.Memᴰ.{head as here}
use mathlib.Core.List.Memᴰ.{tail as there}
use mathlib.Core.List.{List, [], ◌∷◌, map}
use native.Mathlib.Nat.{mul-suc, pow-suc}
use native.Mathlib.Decide.{dec_lt}
use native.Mathlib.Omega.{arith}
use Rattle.std.specs.Prelude.{Option}
use lib.ListN.{length, get_or, take, drop, length-drop}
use lib.Seq.{take-suc, get_or-drop}
use Rattle.trees.specs.Lists.{Among, sorted, total}
use Rattle.trees.specs.Tree.{clusters}
use Rattle.trees.specs.Records.{count, listed, Form, ValidOn}
use Rattle.trees.specs.Drawn.{drawn}
use Rattle.trees.proofs.Totals.{total_append, total-sorted}
use Rattle.trees.proofs.Recorded.{listed_record}
use Rattle.trees.proofs.Drawing.{drawn_record}
use Rattle.printing.specs.Words.{decimal}
use Rattle.printing.proofs.Digits.{tenth_below}
use Rattle.printing.proofs.Printing.{one_digit, one_digit_more}
use Rattle.texts.specs.Writing.{note}
use Rattle.texts.specs.Work.{note_at, Notes, notes_to}

-- the bytes of the notes of some clusters
abbrev pub note_bytes : (ℕ → List ℕ) → List ℕ → ℕ
note_bytes notes l = total (map (λ a. length (notes a)) l)

-- the tree that a record draws has the notes of the record's clusters
pub drawn_notes : (notes : ℕ → List ℕ) {s : ℕ} {r : List ℕ} → ValidOn s r → s < 2 ^ 16 → note_bytes notes (clusters (drawn (listed r) s)) ≡ note_bytes notes (listed r)
drawn_notes notes {s} {r} v b =
    let cs = clusters (drawn (listed r) s) in
    let same : sorted cs ≡ listed r = sym (listed_record 16 cs) ∙ ap (λ (k : List ℕ). listed k) (drawn_record v b) in
    sym (total-sorted (λ a. length (notes a)) cs) ∙ ap (λ (l : List ℕ). note_bytes notes l) same

-- ---- place by place

module _ (counts : Option (List ℕ)) (notes : ℕ → List ℕ) (l : List ℕ) where
  notes_to_lem : (m : ℕ) → m ≤ length l → ((i : ℕ) → i < m → notes (get_or l i 0) ≡ note_at counts (suc i)) → note_bytes notes (take m l) ≡ notes_to counts m
  unfolding notes_to total
  notes_to_lem zero h e = refl
  notes_to_lem (suc m) h e =
      let k = notes_to_lem m (omega arith) (λ i p. e i (omega arith)) in
      let a = total_append (λ a. length (notes a)) (take m l) (get_or l m 0 ∷ []) in
      let b = ap length (e m (omega arith)) in
      rw (take-suc l m 0 (omega arith)) (omega arith)

pub listed_notes : {counts : Option (List ℕ)} {r : List ℕ} {notes : ℕ → List ℕ} → Form r → Notes counts r notes → note_bytes notes (listed r) ≡ notes_to counts (count r)
listed_notes {counts} {r} {notes} f given =
    notes_to_lem counts notes (drop 1 r) (count r) (let l = length-drop 1 r in let c = f.counted in let d = f.sized in omega arith)
    (λ i h.
    let next : 1 + i ≡ suc i = omega arith in
    ap notes (get_or-drop 1 r i 0 ∙ ap (λ (k : ℕ). get_or r k 0) next) ∙ given.each (suc i) (omega arith) (omega arith))

-- ---- how many there are

pub no_note_bytes : (l : List ℕ) → note_bytes note l ≡ 0
unfolding total
no_note_bytes [] = refl
no_note_bytes (x ∷ l) = let h = no_note_bytes l in omega arith

-- notes of at most k bytes
pub note-bytes_most : (notes : ℕ → List ℕ) (k : ℕ) (l : List ℕ) → ((a : ℕ) → Among a l → length (notes a) ≤ k) → note_bytes notes l ≤ k * length l
unfolding total
note-bytes_most notes k [] h = omega arith
note-bytes_most notes k (x ∷ l) h =
    let i = note-bytes_most notes k l (λ a m. h a (there m)) in
    let e = h x (here refl) in
    rw mul-suc (omega arith)

-- a number below 10 ^ (k + 1) has at most k + 1 digits
pub decimal-within : (k x : ℕ) → x < 10 ^ 20 → x < 10 ^ suc k → length (decimal x) ≤ suc k
decimal-within zero x h l = let d = one_digit x (omega (arith, pow-suc 10 0)) in omega arith
decimal-within (suc k) x h l = go (dec_lt x 10) (decimal-within k (x / 10) (omega arith) (tenth_below (suc k) x l))
  where
    go : Dec (x < 10) → length (decimal (x / 10)) ≤ suc k → length (decimal x) ≤ suc (suc k)
    go (yes b) ih = let d = one_digit x b in omega arith
    go (no b) ih = let d = one_digit_more x (omega arith) h in omega arith

-- and at least one
pub decimal_some : (x : ℕ) → x < 10 ^ 20 → 0 < length (decimal x)
decimal_some x h = go (dec_lt x 10)
  where
    go : Dec (x < 10) → 0 < length (decimal x)
    go (yes b) = let d = one_digit x b in omega arith
    go (no b) = let d = one_digit_more x (omega arith) h in omega arith
