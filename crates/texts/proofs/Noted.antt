-- Notes that the counts of a record's clusters give: there are such notes, and any two of them make the same text.
use Prim.Native.Nat.{ℕ, zero, suc, ◌+◌, ◌-◌, ◌≤◌, ◌<◌}
use mathlib.Core.Path.{◌≡◌, refl, sym, ap, ap₂, ◌∙◌}
use mathlib.Core.List.{List, [], ◌∷◌, ◌++◌}
use mathlib.Core.List.Memᴰ
use mathlib.Core.List.Memᴰ.{head as here}
use native.Mathlib.Decide.{ℕ_discrete}
use mathlib.Core.Logic.{◌⊎◌, inl, inr}
use native.Mathlib.Omega.{arith}
use lib.ListN.{length, get_or, take, drop, length-drop}
use lib.Seq.{get_or-drop}
use Rattle.std.specs.Prelude.{◌==◌, Option, None, Some}
use Rattle.std.specs.List.{sum_by, position, position_or_len}
use Rattle.std.proofs.lemmas.List.Quantifiers.{position-Some}
use Rattle.std.proofs.lemmas.List.Sums.{sum_by_more}
use borrow.Author.Tests.{eq-eqb, ne_eqb, eqb-true, lt-ltb}
use Rattle.trees.specs.Lists.{Among, Rising}
use Rattle.trees.specs.Tree.{Tree, Forest, leaves, leaves_of, cluster, cluster_of, clusters, clusters_of}
use Rattle.trees.specs.Tree.Tree.{leaf, node}
use Rattle.trees.specs.Tree.Forest.{last, more}
use Rattle.trees.specs.Records.{count, listed, Form}
use Rattle.trees.proofs.Order.{rising-below}
use Rattle.trees.proofs.Places.{at_among, listed-length, listed-place, among-place}
use Rattle.texts.specs.Writing.{label, count_note, node_with, others_with}
use Rattle.printing.specs.Words.{decimal}
use Rattle.printing.proofs.Digits.{decimal-length}
use Rattle.texts.specs.Work.{note_at, Notes, note_in, notes_to}

-- ---- the notes by the place of a cluster

-- any two that the counts give agree on the clusters of the record
pub notes_agree :
    {counts : Option (List ℕ)} {r : List ℕ} {notes notes' : ℕ → List ℕ} → Form r → Notes counts r notes → Notes counts r notes' → (a : ℕ) → Among a (listed r) → notes a ≡ notes' a
notes_agree {counts} {r} {notes} {notes'} f given given' a m =
    let p = among-place r (count r) f.sized f.counted a m in
    ap notes (sym p.there) ∙ given.each p.place p.first p.last ∙ sym (given'.each p.place p.first p.last) ∙ ap notes' p.there

-- in a rising list a number stands at one place
place-rising : (l : List ℕ) → Rising l → (i : ℕ) → i < length l → position_or_len (λ c. c == get_or l i 0) l ≡ i
unfolding Rising
place-rising [] r i h = absurd (omega arith)
place-rising (x ∷ l) r zero h = rw (eq-eqb x x refl)
place-rising (x ∷ l) r (suc i) h =
    let below = rising-below l r (at_among l 0 i (omega arith)) in
    let later = place-rising l r.1 i (omega arith) in
    rw (ne_eqb x (get_or l i 0) (λ e. omega arith)) (omega arith)

-- there are such notes
pub notes_in : (counts : Option (List ℕ)) {r : List ℕ} → Form r → Notes counts r (note_in counts r)
unfolding note_in
notes_in counts {r} f = record { each = each }
  where
    each : (i : ℕ) → 1 ≤ i → i ≤ count r → note_at counts (suc (position_or_len (λ c. c == get_or r i 0) (listed r))) ≡ note_at counts i
    each i one most =
        let n : i - 1 + 1 ≡ i = omega arith in
        let at = listed-place r (count r) f.sized f.counted (i - 1) (omega arith) ∙ ap (λ (k : ℕ). get_or r k 0) n in
        let p = place-rising (listed r) f.rising (i - 1) (let l = listed-length r (count r) f.sized f.counted in omega arith) in
        let q : suc (i - 1) ≡ i = omega arith in
        ap (λ (k : ℕ). note_at counts k) (ap suc (ap (λ (b : ℕ). position_or_len (λ c. c == b) (listed r)) (sym at) ∙ p) ∙ q)

-- the note of a cluster by its place
pub note-placed : (counts : Option (List ℕ)) {r : List ℕ} {i a : ℕ} → Form r → 1 ≤ i → i ≤ count r → get_or r i 0 ≡ a → note_in counts r a ≡ note_at counts i
note-placed counts {r} {i} {a} f one most e = ap (λ (b : ℕ). note_in counts r b) (sym e) ∙ (notes_in counts f).each i one most

-- a number of the list is found in it
among-found : (a : ℕ) (l : List ℕ) → Among a l → position_or_len (λ c. c == a) l < length l
among-found a [] m = absurd (Memᴰ.not-nil m)
among-found a (x ∷ l) m = go (ℕ_discrete x a) (Memᴰ.cases_cons m) (λ k. among-found a l k)
  where
    go :
        Dec (x ≡ a) → (a ≡ x) ⊎ Among a l → (Among a l → position_or_len (λ c. c == a) l < length l)
        → position_or_len (λ c. c == a) (x ∷ l) < length (x ∷ l)
    go (yes e) k later = rw (eq-eqb x a e) (omega arith)
    go (no n) (inl e) later = absurd (n (sym e))
    go (no n) (inr k) later = let h = later k in rw (ne_eqb x a n) (omega arith)

-- where a cluster of the record was found
pub record Found (r : List ℕ) (a : ℕ) (found : Option ℕ) : Type 0 where
  pub before : ℕ
  pub is : found ≡ Some before
  pub last : before + 1 ≤ count r
  pub there : get_or r (before + 1) 0 ≡ a

pub listed_found :
    {r : List ℕ} {a m : ℕ} {found : Option ℕ} → Form r → Among a (listed r) → m ≡ count r
    → found ≡ position (λ c. c == a) (take (m + 1 - 1) (drop 1 r)) → Found r a found
listed_found {r} {a} {m} f among d e =
    let all : m + 1 - 1 ≡ count r = omega arith in
    let l = listed-length r (count r) f.sized f.counted in
    let at = position_or_len (λ c. c == a) (listed r) in
    let inside : at < length (listed r) = among-found a (listed r) among in
    let here : position (λ c. c == a) (listed r) ≡ Some at = rw (lt-ltb at (length (listed r)) inside) in
    let p = position-Some (λ c. c == a) (listed r) at 0 here in
    record {
      before = at;
      is = e ∙ rw all here;
      last = omega arith;
      there = sym (listed-place r (count r) f.sized f.counted at (omega arith)) ∙ eqb-true (get_or (listed r) at 0) a p.1;
    }

-- ---- without counts, and with them

-- a colon and twenty digits at the most
note-short : (counts : Option (List ℕ)) (i : ℕ) → length (note_at counts i) ≤ 21
note-short None i = omega arith
note-short (Some counts) i = let l = decimal-length (get_or counts i 0) in omega arith

pub notes_short : {counts : Option (List ℕ)} {r : List ℕ} {notes : ℕ → List ℕ} → Form r → Notes counts r notes → (a : ℕ) → Among a (listed r) → length (notes a) ≤ 21
notes_short {counts} {r} {notes} f given a m =
    let p = among-place r (count r) f.sized f.counted a m in
    let e = ap (λ (b : ℕ). length (notes b)) p.there in
    let d = ap length (given.each p.place p.first p.last) in
    let l = note-short counts p.place in
    omega arith

pub note_in_none : (r : List ℕ) (a : ℕ) → note_in None r a ≡ []
unfolding note_in
note_in_none r a = refl

-- counts that are given entry for entry
pub notes_counted :
    {counts r : List ℕ} (count_of : ℕ → ℕ) → ((i : ℕ) → 1 ≤ i → i ≤ count r → get_or counts i 0 ≡ count_of (get_or r i 0))
    → Notes (Some counts) r (count_note count_of)
notes_counted {counts} {r} count_of e = record { each = λ i one most. ap (λ (k : ℕ). 58 ∷ decimal k) (sym (e i one most)) }

-- the bytes of none, and of counts: a colon, and the digits of each
pub notes_none : (m : ℕ) → notes_to None m ≡ 0
unfolding notes_to
notes_none zero = refl
notes_none (suc m) = let h = notes_none m in omega arith

pub notes_sum : (counts : List ℕ) (m : ℕ) → m < length counts → notes_to (Some counts) m ≡ sum_by (λ k. length (decimal k) + 1) (take m (drop 1 counts))
unfolding notes_to
notes_sum counts zero h = refl
notes_sum counts (suc m) h =
    let later = drop 1 counts in
    let more = sum_by_more (λ k. length (decimal k) + 1) later m 0 (let l = length-drop 1 counts in omega arith) in
    let one : 1 + m ≡ suc m = omega arith in
    let same = ap (λ (k : ℕ). length (decimal k)) (get_or-drop 1 counts m 0 ∙ ap (λ (i : ℕ). get_or counts i 0) one) in
    let before = notes_sum counts m (omega arith) in
    let next : m + 1 ≡ suc m = omega arith in
    let step = ap (λ (n : ℕ). sum_by (λ k. length (decimal k) + 1) (take n later)) next in
    omega arith

-- ---- names that agree on a tree's leaves, and notes that agree on its clusters, give it one text

module _ (notes notes' : ℕ → List ℕ) (names names' : List (List ℕ)) where
  mutual
    unfolding node_with others_with leaves leaves_of cluster cluster_of clusters clusters_of

    pub node_agrees :
        (t : Tree) → ((i : ℕ) → Among i (leaves t) → get_or names i [] ≡ get_or names' i []) → ((a : ℕ) → Among a (clusters t) → notes a ≡ notes' a)
        → node_with notes names t ≡ node_with notes' names' t
    node_agrees (leaf i b) e d = ap₂ (λ (w v : List ℕ). label w ++ v) (e i (here refl)) (d (cluster (leaf i b)) (here refl))
    node_agrees (node t f b) e d =
        let top = cluster (node t f b) in
        let inside = clusters t ++ clusters_of f in
        ap₂ (λ (x y : List ℕ). 40 ∷ x ++ y ++ 41 ∷ notes top)
        (node_agrees t (λ i h. e i (Memᴰ.append_left (leaves_of f) h)) (λ a h. d a (Memᴰ.append_left (top ∷ []) (Memᴰ.append_left (clusters_of f) h))))
        (others-agree f (λ i h. e i (Memᴰ.append_right (leaves t) h)) (λ a h. d a (Memᴰ.append_left (top ∷ []) (Memᴰ.append_right (clusters t) h))))
        ∙ ap (λ (v : List ℕ). 40 ∷ node_with notes' names' t ++ others_with notes' names' f ++ 41 ∷ v) (d top (Memᴰ.append_right inside (here refl)))

    others-agree :
        (f : Forest) → ((i : ℕ) → Among i (leaves_of f) → get_or names i [] ≡ get_or names' i []) → ((a : ℕ) → Among a (clusters_of f) → notes a ≡ notes' a)
        → others_with notes names f ≡ others_with notes' names' f
    others-agree (last t) e d = ap (λ (x : List ℕ). 44 ∷ x) (node_agrees t e d)
    others-agree (more t f) e d =
        ap₂ (λ (x y : List ℕ). 44 ∷ x ++ y)
        (node_agrees t (λ i h. e i (Memᴰ.append_left (leaves_of f) h)) (λ a h. d a (Memᴰ.append_left (clusters_of f) h)))
        (others-agree f (λ i h. e i (Memᴰ.append_right (leaves t) h)) (λ a h. d a (Memᴰ.append_right (clusters t) h)))
