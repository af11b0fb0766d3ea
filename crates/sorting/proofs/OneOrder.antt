-- Of the lists that have the same numbers as often, one alone is in rising order: what a sort leaves is the definition's list.
use Prim.Native.Nat.{ℕ, zero, suc, ◌+◌, ◌-◌, ◌≤◌, min, max}
use mathlib.Core.Path.{◌≡◌, refl, sym, ap, ap₂, ◌∙◌, subst}
use mathlib.Core.List.Memᴰ
use mathlib.Core.List.Memᴰ.{head as here}
use mathlib.Core.List.{List, [], ◌∷◌, ◌++◌}
use mathlib.Core.Logic.{◌⊎◌, inl, inr}
use native.Mathlib.Omega.{arith}
use lib.Dec.{eqb}
use lib.ListN.{length, drop, replicate}
use Rattle.std.specs.List.{sum_by}
use Rattle.std.specs.List.Sorted.{IsPermutation, IsNonDecreasing}
use Rattle.std.proofs.lemmas.List.Sorted.{sum_by-IsPermutation}
use Rattle.std.proofs.lemmas.List.Sums.{sum_by-cons}
use Rattle.trees.specs.Lists.{Among, insert, sorted}
use Rattle.trees.specs.Records.{record_for}
use Rattle.trees.proofs.Order.{min-max, among-insert}
use Rattle.trees.proofs.Places.{among_at}
use Rattle.trees.proofs.RedrawingOrder.{one_if, times, times-among, among-times}

-- ---- lists in order

-- no number is above one behind it
abbrev pub Ordered : List ℕ → Type 0
Ordered [] = Unit {0}
Ordered (x ∷ l) = ((y : ℕ) → Among y l → x ≤ y) × Ordered l

first-least : {x y : ℕ} {l : List ℕ} → Ordered (x ∷ l) → Among y (x ∷ l) → x ≤ y
first-least {x} {y} {l} p m = go (Memᴰ.cases_cons m)
  where
    go : (y ≡ x) ⊎ Among y l → x ≤ y
    go (inl e) = omega arith
    go (inr k) = p.0 y k

-- with the same numbers as often they are one list
one_order : (l k : List ℕ) → Ordered l → Ordered k → ((z : ℕ) → times z l ≡ times z k) → l ≡ k
unfolding times
one_order [] [] p q same = refl
one_order [] (y ∷ k) p q same = absurd (omega (arith, same y, times-among (y ∷ k) (here refl)))
one_order (x ∷ l) [] p q same = absurd (omega (arith, same x, times-among (x ∷ l) (here refl)))
one_order (x ∷ l) (y ∷ k) p q same =
    ap₂ ◌∷◌ first (one_order l k p.1 q.1 (λ z. omega (arith, same z, ap (λ (n : ℕ). one_if (eqb z n)) first)))
  where
    low : x ≤ y
    low = first-least p (among-times y (x ∷ l) (omega (arith, same y, times-among (y ∷ k) (here refl))))

    high : y ≤ x
    high = first-least q (among-times x (y ∷ k) (omega (arith, same x, times-among (x ∷ l) (here refl))))

    first : x ≡ y
    first = omega (arith, low, high)

-- ---- the definition's list

times-insert : (z x : ℕ) (l : List ℕ) → times z (insert x l) ≡ one_if (eqb z x) + times z l
unfolding insert times
times-insert z x [] = refl
times-insert z x (y ∷ l) = go (min-max x y) (times-insert z (max x y) l)
  where
    go :
        ((min x y ≡ x) × (max x y ≡ y)) ⊎ ((min x y ≡ y) × (max x y ≡ x)) → times z (insert (max x y) l) ≡ one_if (eqb z (max x y)) + times z l
        → one_if (eqb z (min x y)) + times z (insert (max x y) l) ≡ one_if (eqb z x) + (one_if (eqb z y) + times z l)
    go (inl e) ih = omega (arith, ih, ap (λ (n : ℕ). one_if (eqb z n)) e.0, ap (λ (n : ℕ). one_if (eqb z n)) e.1)
    go (inr e) ih = omega (arith, ih, ap (λ (n : ℕ). one_if (eqb z n)) e.0, ap (λ (n : ℕ). one_if (eqb z n)) e.1)

times-sorted : (z : ℕ) (l : List ℕ) → times z (sorted l) ≡ times z l
unfolding sorted times
times-sorted z [] = refl
times-sorted z (x ∷ l) = times-insert z x (sorted l) ∙ ap (λ (n : ℕ). one_if (eqb z x) + n) (times-sorted z l)

ordered-insert : (x : ℕ) (l : List ℕ) → Ordered l → Ordered (insert x l)
unfolding insert
ordered-insert x [] p = (λ y m. absurd (Memᴰ.not-nil m), tt)
ordered-insert x (y ∷ l) p = (λ z m. go z (among-insert (max x y) l m), ordered-insert (max x y) l p.1)
  where
    go : (z : ℕ) → (z ≡ max x y) ⊎ Among z l → min x y ≤ z
    go z (inl e) = omega arith
    go z (inr k) = omega (arith, p.0 z k)

ordered-sorted : (l : List ℕ) → Ordered (sorted l)
unfolding sorted
ordered-sorted [] = tt
ordered-sorted (x ∷ l) = ordered-insert x (sorted l) (ordered-sorted l)

-- ---- what a sort leaves

times-sum : (z : ℕ) (l : List ℕ) → times z l ≡ sum_by (λ y. one_if (eqb z y)) l
unfolding times
times-sum z [] = refl
times-sum z (y ∷ l) = ap (λ (n : ℕ). one_if (eqb z y) + n) (times-sum z l) ∙ sym (sum_by-cons (λ y. one_if (eqb z y)) y l)

ordered_of : (l : List ℕ) → IsNonDecreasing l → Ordered l
ordered_of [] h = tt
ordered_of (x ∷ l) h = (
  λ y m. let p = among_at 0 m in
      subst (λ (z : ℕ). x ≤ z) p.there (h 0 (suc p.place) 0 (omega arith) (omega (arith, p.before_end))),
  ordered_of l (λ i j d le less. h (suc i) (suc j) d (omega arith) (omega arith)),
)

pub sorted_by : (cs left : List ℕ) → IsPermutation cs left → IsNonDecreasing left → left ≡ sorted cs
sorted_by cs left moved rises =
    one_order left (sorted cs) (ordered_of left rises) (ordered-sorted cs)
    (λ z.
    times-sum z left ∙ sum_by-IsPermutation (λ y. one_if (eqb z y)) cs left moved ∙ sym (times-sum z cs) ∙ sym (times-sorted z cs))

-- ---- the record

drop-zeros : (k n : ℕ) → drop k (replicate {A = ℕ} n 0) ≡ replicate (n - k) 0
drop-zeros zero n = let e : n ≡ n - 0 = omega arith in ap (λ (m : ℕ). replicate m 0) e
drop-zeros (suc k) zero = let e : 0 ≡ 0 - suc k = omega arith in ap (λ (m : ℕ). replicate m 0) e
drop-zeros (suc k) (suc n) =
    let e : n - k ≡ suc n - suc k = omega arith in drop-zeros k n ∙ ap (λ (m : ℕ). replicate m 0) e

-- sorted behind their count, before zeros, the clusters make the wide record
pub wide_record :
    (n : ℕ) (cs : List ℕ) {left : List ℕ} → length cs ≡ n → left ≡ sorted cs → n ∷ (left ++ drop (n + 1 - 1) (replicate {A = ℕ} 63 0)) ≡ record_for 32 cs
unfolding record_for
wide_record n cs {left} e is =
    let all : n + 1 - 1 ≡ n = omega arith in
    ap₂ (λ (k : ℕ) (l : List ℕ). k ∷ (l ++ drop (n + 1 - 1) (replicate {A = ℕ} 63 0))) (sym e) is
    ∙ ap (λ (l : List ℕ). length cs ∷ (sorted cs ++ l))
    (ap (λ (k : ℕ). drop k (replicate {A = ℕ} 63 0)) all ∙ drop-zeros n 63 ∙ ap (λ (k : ℕ). replicate {A = ℕ} (63 - k) 0) (sym e))
