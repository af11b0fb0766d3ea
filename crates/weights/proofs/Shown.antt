-- Bytes with a one at each cluster that some gene tree shows: what stands at each index, and that they are the marks.
use Prim.Native.Nat.{ℕ, ◌+◌, ◌*◌, ◌≤◌, ◌<◌}
use mathlib.Core.Path.{◌≡◌, refl, sym, ap, ◌∙◌}
use mathlib.Core.Bool.{Bool, true, false, ◌||◌}
use mathlib.Core.List.Memᴰ.{head as here}
use mathlib.Core.List.Memᴰ.{tail as there}
use mathlib.Core.List.{List, [], ◌∷◌, ◌++◌}
use native.Mathlib.Decide.{ℕ_discrete}
use native.Mathlib.Omega.{arith}
use lib.ListN.{length, take, drop, get_or, set, replicate, length-append, length-drop, length-set, length-replicate, get_or-replicate}
use lib.Seq.{set-append_left, get_or-set_same, get_or-set_other, ext_get_or}
use lib.Dec.{eqb}
use borrow.Author.Fill.{fill_more}
use borrow.Author.Tests.{eq-eqb, ne_eqb}
use Rattle.trees.specs.Lists.{Among, some}
use Rattle.trees.specs.Records.{records_in}
use Rattle.trees.specs.Valid.{among}
use Rattle.weights.specs.Count.{shown_by}
use Rattle.weights.specs.Marks.{shown, flag}
use Rattle.weights.specs.Work.{AllMarkable, marked_one, to_mark, marked_all, marks_below}
use Rattle.trees.proofs.Lent.{records_from, records_from_first, records_next, records_from_last}
use Rattle.weights.proofs.ToMark.{to_mark_below, to_mark_shown}
use Rattle.trees.proofs.UpTo.{length-map-up_to, map-up_to}
use Rattle.weights.specs.declared.Rooting.{Rooting}

-- ---- one gene tree after the other

pub marked_none : (out : List ℕ) → marked_one [] out ≡ out
unfolding marked_one
marked_none out = refl

pub marked_cons : (x : ℕ) (l out : List ℕ) → marked_one (x ∷ l) out ≡ marked_one l (set out x 1)
unfolding marked_one
marked_cons x l out = refl

-- two lists marked one after the other are one
pub marked_append : (l k out : List ℕ) {first after : List ℕ} → first ≡ marked_one l out → after ≡ marked_one k first → after ≡ marked_one (l ++ k) out
unfolding marked_one
marked_append [] k out e d = d ∙ ap (λ (o : List ℕ). marked_one k o) e
marked_append (x ∷ l) k out e d = marked_append l k (set out x 1) e d

pub all_none : (rooting : Rooting) (out : List ℕ) → marked_all rooting [] out ≡ out
unfolding marked_all
all_none rooting out = refl

pub all_cons : (rooting : Rooting) (g : List ℕ) (l : List (List ℕ)) (out : List ℕ) → marked_all rooting (g ∷ l) out ≡ marked_all rooting l (marked_one (to_mark rooting g) out)
unfolding marked_all
all_cons rooting g l out = refl

pub length_marked : (l out : List ℕ) → length (marked_one l out) ≡ length out
unfolding marked_one
length_marked [] out = refl
length_marked (x ∷ l) out = length_marked l (set out x 1) ∙ length-set out x 1

pub length_all : (rooting : Rooting) (genes : List (List ℕ)) (out : List ℕ) → length (marked_all rooting genes out) ≡ length out
unfolding marked_all
length_all rooting [] out = refl
length_all rooting (g ∷ l) out = length_all rooting l (marked_one (to_mark rooting g) out) ∙ length_marked (to_mark rooting g) out

-- ---- bytes behind those that are marked stay

marked-front : (l xs ys : List ℕ) → ((x : ℕ) → Among x l → x < length xs) → marked_one l (xs ++ ys) ≡ marked_one l xs ++ ys
unfolding marked_one
marked-front [] xs ys f = refl
marked-front (x ∷ l) xs ys f =
    ap (λ (k : List ℕ). marked_one l k) (set-append_left xs ys x 1 (f x (here refl)))
    ∙ marked-front l (set xs x 1) ys (λ y h. rw length-set (f y (there h)))

all_front : (rooting : Rooting) (genes : List (List ℕ)) (xs ys : List ℕ) → AllMarkable (length xs) genes
    → marked_all rooting genes (xs ++ ys) ≡ marked_all rooting genes xs ++ ys
unfolding marked_all
all_front rooting [] xs ys f = refl
all_front rooting (g ∷ l) xs ys f =
    ap (λ (k : List ℕ). marked_all rooting l k) (marked-front (to_mark rooting g) xs ys (to_mark_below rooting (f g (here refl))))
    ∙ all_front rooting l (marked_one (to_mark rooting g) xs) ys (λ h m. rw length_marked (f h (there m)))

-- ---- what stands at an index

mark_if : Bool → ℕ → ℕ
mark_if true v = 1
mark_if false v = v

marked_at : (l out : List ℕ) (a : ℕ) → a < length out → get_or (marked_one l out) a 0 ≡ mark_if (among a l) (get_or out a 0)
unfolding marked_one among some mark_if
marked_at [] out a h = refl
marked_at (x ∷ l) out a h = marked_at l (set out x 1) a (rw length-set h) ∙ go (ℕ_discrete a x) (among a l)
  where
    go : Dec (a ≡ x) → (b : Bool) → mark_if b (get_or (set out x 1) a 0) ≡ mark_if (eqb a x || b) (get_or out a 0)
    go (yes e) true = rw (eq-eqb a x e)
    go (yes e) false = rw (eq-eqb a x e) (ap (λ (y : ℕ). get_or (set out y 1) a 0) (sym e) ∙ get_or-set_same out a 1 0 h)
    go (no d) true = rw (ne_eqb a x d)
    go (no d) false = rw (ne_eqb a x d) (get_or-set_other out x a 1 0 d)

all_at :
    (rooting : Rooting) {bytes : ℕ} (genes : List (List ℕ)) (out : List ℕ) (a : ℕ) → AllMarkable bytes genes → a < length out
    → get_or (marked_all rooting genes out) a 0 ≡ mark_if (shown rooting genes a) (get_or out a 0)
unfolding marked_all shown mark_if
all_at rooting [] out a f h = refl
all_at rooting (g ∷ l) out a f h =
    all_at rooting l (marked_one (to_mark rooting g) out) a (λ k m. f k (there m)) (rw length_marked h)
    ∙ ap (λ (v : ℕ). mark_if (shown rooting l a) v) (marked_at (to_mark rooting g) out a h
    ∙ ap (λ (b : Bool). mark_if b (get_or out a 0)) (to_mark_shown rooting (f g (here refl)).form a))
    ∙ go (shown rooting l a) (among a (shown_by rooting g))
  where
    go : (b c : Bool) → mark_if b (mark_if c (get_or out a 0)) ≡ mark_if (c || b) (get_or out a 0)
    go true true = refl
    go true false = refl
    go false true = refl
    go false false = refl

-- ---- the marks

pub length-marks : (rooting : Rooting) (entries : ℕ) (genes : List (List ℕ)) → length (marks_below rooting entries genes) ≡ entries
unfolding marks_below
length-marks rooting entries genes = length-map-up_to (λ a. flag (shown rooting genes a)) entries

-- zeros that are marked for all gene trees are the marks
all_marks : (rooting : Rooting) (entries : ℕ) (genes : List (List ℕ)) → AllMarkable entries genes
    → marked_all rooting genes (replicate entries 0) ≡ marks_below rooting entries genes
unfolding marks_below mark_if
all_marks rooting entries genes f = ext_get_or 0 (marked_all rooting genes (replicate entries 0)) (marks_below rooting entries genes) (size ∙ sym long) each
  where
    size : length (marked_all rooting genes (replicate entries 0)) ≡ entries
    size = length_all rooting genes (replicate entries 0) ∙ length-replicate entries 0

    long : length (marks_below rooting entries genes) ≡ entries
    long = length-marks rooting entries genes

    flagged : (b : Bool) → mark_if b 0 ≡ flag b
    flagged true = refl
    flagged false = refl

    each : (a : ℕ) → a < length (marked_all rooting genes (replicate entries 0))
        → get_or (marked_all rooting genes (replicate entries 0)) a 0 ≡ get_or (marks_below rooting entries genes) a 0
    each a h =
        let k : a < entries = omega (arith, size) in
        all_at rooting genes (replicate entries 0) a f (rw length-replicate k)
        ∙ ap (λ (v : ℕ). mark_if (shown rooting genes a) v) (get_or-replicate entries a 0 0 k)
        ∙ flagged (shown rooting genes a)
        ∙ sym (map-up_to (λ a. flag (shown rooting genes a)) entries a k)

-- cleared bytes that are marked are the marks, and behind them what was there
pub cleared-marked :
    (rooting : Rooting) (entries : ℕ) (genes : List (List ℕ)) (out : List ℕ) {clear after : List ℕ} → AllMarkable entries genes
    → clear ≡ replicate entries 0 ++ drop entries out → after ≡ marked_all rooting genes clear → after ≡ marks_below rooting entries genes ++ drop entries out
cleared-marked rooting entries genes out f zeros marked =
    marked
    ∙ ap (λ (k : List ℕ). marked_all rooting genes k) zeros
    ∙ all_front rooting genes (replicate entries 0) (drop entries out) (λ g m. rw length-replicate (f g m))
    ∙ ap (λ (l : List ℕ). l ++ drop entries out) (all_marks rooting entries genes f)

-- ---- the loops

-- the bytes when those before i are cleared
pub record ClearedTo (out₀ : List ℕ) (entries : ℕ) (out : List ℕ) (i : ℕ) : Type 0 where
  pub place : i ≤ entries
  pub front : out ≡ replicate i 0 ++ drop i out₀

pub cleared_start : (out : List ℕ) (entries : ℕ) → ClearedTo out entries out 0
cleared_start out entries = record { place = omega arith; front = refl }

module _ {out₀ : List ℕ} {entries : ℕ} {out : List ℕ} {i : ℕ} (now : ClearedTo out₀ entries out i) (fits : entries ≤ length out₀) where
  pub cleared-length : length out ≡ length out₀
  cleared-length =
      rw (now.front, length-append, length-replicate, length-drop) (omega (arith, now.place))

  pub cleared_next : i < entries → ClearedTo out₀ entries (set out i 0) (i + 1)
  cleared_next l = record {
    place = omega arith;
    front = ap (λ (k : List ℕ). set k i 0) now.front ∙ fill_more i 0 out₀ (omega arith);
  }

  pub cleared_end : entries ≤ i → out ≡ replicate entries 0 ++ drop entries out₀
  cleared_end l =
      let all : i ≡ entries = omega (arith, now.place) in
      now.front ∙ ap (λ (j : ℕ). replicate j 0 ++ drop j out₀) all

-- clearing leaves the length
pub cleared-size : (out : List ℕ) (entries : ℕ) {clear : List ℕ} → clear ≡ replicate entries 0 ++ drop entries out → entries ≤ length out → length clear ≡ length out
cleared-size out entries {clear} e fits = cleared-length cleared fits
  where
    cleared : ClearedTo out entries clear entries
    cleared = record { place = omega arith; front = e }

-- more bytes can be marked too
pub markable_more : {m k : ℕ} (genes : List (List ℕ)) → m ≤ k → AllMarkable m genes → AllMarkable k genes
markable_more genes l f g h = let p = f g h in record { form = p.form; below = λ x a. let b = p.below x a in omega arith }

-- the bytes when some clusters of a list are marked: the rest, left to mark, gives all; i is where the rest begins, counted from 1
pub record MarkedTo (l out₀ rest out : List ℕ) (i : ℕ) : Type 0 where
  pub first : 1 ≤ i
  pub same : length out ≡ length out₀
  pub left : marked_one rest out ≡ marked_one l out₀

pub marked_start : (l out : List ℕ) → MarkedTo l out l out 1
marked_start l out = record { first = omega arith; same = refl; left = refl }

module _ {l out₀ rest out : List ℕ} {i : ℕ} (now : MarkedTo l out₀ rest out i) where
  pub marked_next : {x : ℕ} {rest' : List ℕ} → rest ≡ x ∷ rest' → MarkedTo l out₀ rest' (set out x 1) (i + 1)
  marked_next {x} {rest'} e = record {
    first = omega arith;
    same = length-set out x 1 ∙ now.same;
    left = sym (marked_cons x rest' out) ∙ ap (λ (k : List ℕ). marked_one k out) (sym e) ∙ now.left;
  }

  pub marked_end : rest ≡ [] → out ≡ marked_one l out₀
  marked_end e = sym (marked_none out) ∙ ap (λ (k : List ℕ). marked_one k out) (sym e) ∙ now.left

-- the bytes when the gene trees before the i-th are marked
pub record AllMarkedTo (rooting : Rooting) (genes : List ℕ) (count : ℕ) (out₀ out : List ℕ) (i : ℕ) : Type 0 where
  pub place : i ≤ count
  pub same : length out ≡ length out₀
  pub left : marked_all rooting (records_from i count genes) out ≡ marked_all rooting (records_in count genes) out₀

pub all_start : (rooting : Rooting) (genes : List ℕ) (count : ℕ) (out : List ℕ) → AllMarkedTo rooting genes count out out 0
all_start rooting genes count out = record { place = omega arith; same = refl; left = ap (λ (l : List (List ℕ)). marked_all rooting l out) (records_from_first count genes) }

module _ (rooting : Rooting) {genes : List ℕ} {count : ℕ} {out₀ out : List ℕ} {i : ℕ} (now : AllMarkedTo rooting genes count out₀ out i) where
  pub all_next : {after : List ℕ} → i < count → after ≡ marked_one (to_mark rooting (take 32 (drop (32 * i) genes))) out → AllMarkedTo rooting genes count out₀ after (i + 1)
  all_next {after} l e = record {
    place = omega arith;
    same = ap length e ∙ length_marked (to_mark rooting (take 32 (drop (32 * i) genes))) out ∙ now.same;
    left =
        ap (λ (k : List ℕ). marked_all rooting (records_from (i + 1) count genes) k) e
        ∙ sym (all_cons rooting (take 32 (drop (32 * i) genes)) (records_from (i + 1) count genes) out)
        ∙ ap (λ (k : List (List ℕ)). marked_all rooting k out) (sym (records_next i count genes l))
        ∙ now.left;
  }

  pub all_end : count ≤ i → out ≡ marked_all rooting (records_in count genes) out₀
  all_end l =
      let all : i ≡ count = omega (arith, now.place) in
      sym (all_none rooting out)
      ∙ ap (λ (k : List (List ℕ)). marked_all rooting k out) (sym (ap (λ (j : ℕ). records_from j count genes) all ∙ records_from_last count genes))
      ∙ now.left
