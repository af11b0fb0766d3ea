-- Insertion into the places of a record, step by step, and a record filled cluster by cluster.
use Prim.Native.Nat.{ℕ, zero, suc, ◌+◌, ◌-◌, ◌*◌, ◌≤◌, ◌<◌, min, max}
use mathlib.Core.Path.{◌≡◌, refl, sym, ap, ap₂, ◌∙◌}
use mathlib.Core.List.{List, [], ◌∷◌, ◌++◌, append_assoc}
use native.Mathlib.Numerals.{add-one}
use native.Mathlib.Omega.{arith}
use lib.ListN.{length, get_or, take, drop, set, replicate, length-drop, length-set, drop_of_length-le}
use lib.Seq.{drop-cons, take-suc-set, drop-set-lt, set_split, set-get_or, take_at, drop-drop, drop-append-add, length-take-le, get_or-take}
use Rattle.trees.specs.Lists.{insert, sorted}
use Rattle.trees.specs.Records.{record_for}
use Rattle.trees.proofs.Order.{length-sorted}

-- ---- one insertion

-- the list after x has been put among its numbers from place i to place held, and all behind them stay
unfoldable pub inserted : ℕ → ℕ → ℕ → List ℕ → List ℕ
inserted x held i l = take i l ++ (insert x (take (held + 1 - i) (drop i l)) ++ drop (held + 2) l)

pub inserted_first : (x held : ℕ) (l : List ℕ) → inserted x held 1 l ≡ take 1 l ++ (insert x (take held (drop 1 l)) ++ drop (held + 2) l)
unfolding inserted
inserted_first x held l =
    let all : held + 1 - 1 ≡ held = omega arith in
    ap (λ (n : ℕ). take 1 l ++ (insert x (take n (drop 1 l)) ++ drop (held + 2) l)) all

-- at a place with y, the smaller of x and y stays and the greater moves on
inserted_next : (x y z held i : ℕ) (l : List ℕ) → held + 1 < length l → i ≤ held → y ≡ min x (get_or l i 0) → z ≡ max x (get_or l i 0)
    → inserted x held i l ≡ inserted z held (i + 1) (set l i y)
unfolding inserted insert
inserted_next x y z held i l long here e f =
    let g = get_or l i 0 in
    let fewer : held + 1 - (i + 1) ≡ held - i = omega arith in
    let some : held + 1 - i ≡ suc (held - i) = omega arith in
    let t = take (held - i) (drop (suc i) l) in
    let d = drop (held + 2) l in
    let kept : take (i + 1) (set l i y) ≡ take i l ++ (y ∷ []) =
    ap (λ (n : ℕ). take n (set l i y)) (add-one i) ∙ take-suc-set l i y (omega arith) in
    let left : take (held + 1 - (i + 1)) (drop (i + 1) (set l i y)) ≡ t =
    ap₂ (λ (n : ℕ) (k : List ℕ). take n k) fewer (drop-set-lt (i + 1) l i y (omega arith) ∙ ap (λ (n : ℕ). drop n l) (add-one i)) in
    let behind : drop (held + 2) (set l i y) ≡ d = drop-set-lt (held + 2) l i y (omega arith) in
    let split : inserted x held i l ≡ take i l ++ (insert x (g ∷ t) ++ d) =
    ap₂ (λ (n : ℕ) (k : List ℕ). take i l ++ (insert x (take n k) ++ d)) some (drop-cons l i 0 (omega arith)) in
    let same : take i l ++ (insert x (g ∷ t) ++ d) ≡ take i l ++ (y ∷ (insert z t ++ d)) =
    ap₂ (λ (u v : ℕ). take i l ++ (u ∷ (insert v t ++ d))) (sym e) (sym f) in
    split ∙ same ∙ sym (append_assoc (take i l) (y ∷ []) (insert z t ++ d))
    ∙ ap₂ (λ (p q : List ℕ). p ++ q) (sym kept) (ap₂ (λ (p q : List ℕ). insert z p ++ q) (sym left) (sym behind))

pub inserted-moves : (x held i : ℕ) (l : List ℕ) → held + 1 < length l → i ≤ held → x < get_or l i 0
    → inserted x held i l ≡ inserted (get_or l i 0) held (i + 1) (set l i x)
inserted-moves x held i l long here less = inserted_next x x (get_or l i 0) held i l long here (omega arith) (omega arith)

pub inserted-stays : (x held i : ℕ) (l : List ℕ) → held + 1 < length l → i ≤ held → get_or l i 0 ≤ x
    → inserted x held i l ≡ inserted x held (i + 1) l
inserted-stays x held i l long here less =
    inserted_next x (get_or l i 0) x held i l long here (omega arith) (omega arith)
    ∙ ap (λ (k : List ℕ). inserted x held (i + 1) k) (set-get_or l i 0)

pub inserted_last : (x held : ℕ) (l : List ℕ) → held + 1 < length l → inserted x held (held + 1) l ≡ set l (held + 1) x
unfolding inserted insert
inserted_last x held l long =
    let none : held + 1 - (held + 1) ≡ 0 = omega arith in
    let past : held + 2 ≡ suc (held + 1) = omega arith in
    ap₂ (λ (n m : ℕ). take (held + 1) l ++ (insert x (take n (drop (held + 1) l)) ++ drop m l)) none past
    ∙ sym (set_split l (held + 1) x long)

-- an insertion on its way, at place i with c in hand: what is left to do gives what all of it gives
pub record Inserting (start : List ℕ) (held x : ℕ) (l : List ℕ) (c i : ℕ) : Type 0 where
  pub same_length : length l ≡ length start
  pub first : 1 ≤ i
  pub last : i ≤ held + 1
  pub left : inserted c held i l ≡ inserted x held 1 start

pub inserting_starts : (start : List ℕ) (held x : ℕ) → Inserting start held x start x 1
inserting_starts start held x = record { same_length = refl; first = omega arith; last = omega arith; left = refl }

module _ {start : List ℕ} {held x : ℕ} {l : List ℕ} {c i : ℕ} (long : held + 1 < length start) (now : Inserting start held x l c i) where
  pub inserting_moves : {l' : List ℕ} {c' : ℕ} → i ≤ held → c < get_or l i 0 → l' ≡ set l i c → c' ≡ get_or l i 0
      → Inserting start held x l' c' (i + 1)
  inserting_moves here less e f =
      let n = now.same_length in
      record {
        same_length = ap length e ∙ length-set l i c ∙ n;
        first = omega arith;
        last = omega arith;
        left = ap₂ (λ (k : List ℕ) (u : ℕ). inserted u held (i + 1) k) e f ∙ sym (inserted-moves c held i l (omega arith) here less) ∙ now.left;
      }

  pub inserting_stays : {l' : List ℕ} {c' : ℕ} → i ≤ held → get_or l i 0 ≤ c → l' ≡ l → c' ≡ c → Inserting start held x l' c' (i + 1)
  inserting_stays here less e f =
      let n = now.same_length in
      record {
        same_length = ap length e ∙ n;
        first = omega arith;
        last = omega arith;
        left = ap₂ (λ (k : List ℕ) (u : ℕ). inserted u held (i + 1) k) e f ∙ sym (inserted-stays c held i l (omega arith) here less) ∙ now.left;
      }

  pub inserting_ends : held < i → set l i c ≡ take 1 start ++ (insert x (take held (drop 1 start)) ++ drop (held + 2) start)
  inserting_ends past =
      let n = now.same_length in
      let e : i ≡ held + 1 = omega arith in
      ap (λ (k : ℕ). set l k c) e ∙ sym (inserted_last c held l (omega arith)) ∙ ap (λ (k : ℕ). inserted c held k l) (sym e) ∙ now.left
      ∙ inserted_first x held start

-- ---- all of them

-- the list with those of cs in rising order behind its first number, and the rest as it was
unfoldable pub filled : List ℕ → List ℕ → List ℕ
filled l cs = take 1 l ++ (sorted cs ++ drop (suc (length cs)) l)

pub filled_none : (l : List ℕ) → filled l [] ≡ l
unfolding filled sorted
filled_none [] = refl
filled_none (x ∷ l) = refl

pub filled_next : (x held : ℕ) (l cs : List ℕ) → length cs ≡ held → held + 1 < length l
    → inserted x held 1 (filled l cs) ≡ filled l (x ∷ cs)
unfolding filled sorted
filled_next x held [] cs e long = absurd (omega arith)
filled_next x held (h ∷ l) cs e long =
    let n : length (sorted cs) ≡ held = length-sorted cs ∙ e in
    let d = drop (length cs) l in
    let front : take held (sorted cs ++ d) ≡ sorted cs = take_at (sorted cs) d held n in
    let past : held + 2 ≡ suc (length (sorted cs) + 1) = omega arith in
    let back : drop (held + 2) (h ∷ (sorted cs ++ d)) ≡ drop (suc (length cs)) l =
    ap (λ (k : ℕ). drop k (h ∷ (sorted cs ++ d))) past ∙ drop-append-add (sorted cs) d 1 ∙ drop-drop 1 (length cs) l
    ∙ ap (λ (k : ℕ). drop k l) (add-one (length cs)) in
    inserted_first x held (h ∷ (sorted cs ++ d)) ∙ ap₂ (λ (p q : List ℕ). h ∷ (insert x p ++ q)) front back

-- a record on its way: held clusters, the last ones of the first n, are in it
pub record Filling (start cs : List ℕ) (n : ℕ) (l : List ℕ) (held : ℕ) : Type 0 where
  pub same_length : length l ≡ length start
  pub few : held ≤ n
  pub done : l ≡ filled start (drop (n - held) (take n cs))

module _ (start cs : List ℕ) (n : ℕ) (listed : n ≤ length cs) (long : n < length start) where
  first_length : length (take n cs) ≡ n
  first_length = length-take-le n cs listed

  pub filling_starts : Filling start cs n start 0
  filling_starts =
      let end : length (take n cs) ≤ n - 0 = omega (arith, first_length) in
      record {
        same_length = refl;
        few = omega arith;
        done = sym (filled_none start) ∙ ap (λ (k : List ℕ). filled start k) (sym (drop_of_length-le (take n cs) end));
      }

  pub filling_next : {l l' : List ℕ} (held : ℕ) → Filling start cs n l held → held < n → length l' ≡ length l
      → l' ≡ take 1 l ++ (insert (get_or cs (n - 1 - held) 0) (take held (drop 1 l)) ++ drop (held + 2) l)
      → Filling start cs n l' (held + 1)
  filling_next {l} {l'} held now more same e =
      let x = get_or cs (n - 1 - held) 0 in
      let d = drop (n - held) (take n cs) in
      let size : length d ≡ held = length-drop (n - held) (take n cs) ∙ omega (arith, first_length, now.few) in
      let here : n - (held + 1) ≡ n - 1 - held = omega arith in
      let behind : suc (n - 1 - held) ≡ n - held = omega arith in
      let one : drop (n - (held + 1)) (take n cs) ≡ x ∷ d =
      ap (λ (k : ℕ). drop k (take n cs)) here ∙ drop-cons (take n cs) (n - 1 - held) 0 (omega (arith, first_length))
      ∙ ap₂ (λ (u : ℕ) (k : ℕ). u ∷ drop k (take n cs)) (get_or-take n cs (n - 1 - held) 0 (omega arith)) behind in
      record {
        same_length = same ∙ now.same_length;
        few = omega arith;
        done = e ∙ sym (inserted_first x held l) ∙ ap (λ (k : List ℕ). inserted x held 1 k) now.done
            ∙ filled_next x held start d size (omega arith) ∙ ap (λ (k : List ℕ). filled start k) (sym one);
      }

  pub filling_ends : {l : List ℕ} (held : ℕ) → Filling start cs n l held → n ≤ held
      → l ≡ take 1 start ++ (sorted (take n cs) ++ drop (n + 1) start)
  unfolding filled
  filling_ends held now past =
      let none : n - held ≡ 0 = omega arith in
      let all : suc (length (take n cs)) ≡ n + 1 = omega (arith, first_length) in
      now.done ∙ ap (λ (k : ℕ). filled start (drop k (take n cs))) none
      ∙ ap (λ (k : ℕ). take 1 start ++ (sorted (take n cs) ++ drop k start)) all

-- ---- the record

drop-zeros : (k n : ℕ) → drop k (replicate {A = ℕ} n 0) ≡ replicate (n - k) 0
drop-zeros zero n = let e : n ≡ n - 0 = omega arith in ap (λ (m : ℕ). replicate m 0) e
drop-zeros (suc k) zero = let e : 0 ≡ 0 - suc k = omega arith in ap (λ (m : ℕ). replicate m 0) e
drop-zeros (suc k) (suc n) =
    let e : n - k ≡ suc n - suc k = omega arith in drop-zeros k n ∙ ap (λ (m : ℕ). replicate m 0) e

-- put behind their count in place of zeros, the clusters make the record
pub zeros-filled : (b n : ℕ) (cs : List ℕ) → n ≤ length cs
    → n ∷ (sorted (take n cs) ++ drop (n + 1) (n ∷ replicate (2 * b - 1) 0)) ≡ record_for b (take n cs)
unfolding record_for
zeros-filled b n cs listed =
    let e = length-take-le n cs listed in
    let zeros : drop (n + 1) (n ∷ replicate (2 * b - 1) 0) ≡ replicate (2 * b - 1 - n) 0 =
    ap (λ (k : ℕ). drop k (n ∷ replicate (2 * b - 1) 0)) (add-one n) ∙ drop-zeros n (2 * b - 1) in
    ap (λ (d : List ℕ). n ∷ (sorted (take n cs) ++ d)) zeros
    ∙ ap (λ (k : ℕ). k ∷ (sorted (take n cs) ++ replicate (2 * b - 1 - k) 0)) (sym e)
