-- The low parts of a cluster: the list of them holds exactly those, rising, and both children are smaller than the cluster.
use Prim.Native.Nat.{ℕ, zero, suc, ◌+◌, ◌-◌, ◌^◌, ◌≤◌, ◌<◌}
use mathlib.Core.Path.{◌≡◌, refl, sym, ap, subst}
use mathlib.Core.Logic.{◌⊎◌, inl, inr}
use mathlib.Core.Bool.{Bool, true, false}
use mathlib.Core.List.Memᴰ
use mathlib.Core.List.Memᴰ.{head as here}
use mathlib.Core.List.Memᴰ.{tail as there}
use mathlib.Core.List.{List, [], ◌∷◌, ◌++◌}
use native.Mathlib.Nat.{eq-zero-or-pos}
use native.Mathlib.Decide.{dec_lt}
use native.Mathlib.Omega.{arith}
use borrow.Author.Tests.{eqb-true, eq-eqb}
use Rattle.clusters.specs.Sets.{Has, Within, has, within, size, single, lowest}
use Rattle.clusters.proofs.Members.{has_some, single-has}
use Rattle.clusters.proofs.Sets.{within-true, true-within, within-le}
use Rattle.clusters.proofs.Sizes.{size-zero, size_some, size_minus, size-single}
use Rattle.clusters.proofs.LowestSpecies.{lowest-alone-within}
use Rattle.trees.specs.Lists.{Among, keep, keep_if, Rising, Below, up_to}
use Rattle.trees.proofs.Listing.{keep-among, among-keep}
use Rattle.trees.proofs.Booleans.{both}
use Rattle.trees.proofs.Order.{rising-below}
use Rattle.trees.proofs.UpTo.{among-up_to, up_to-among}
use Rattle.splits.specs.BinaryTrees.{is_low, lows}
use Rattle.splits.specs.WellFormed.{LowPart}

-- ---- the tests as facts

pub has-true : (a i : ℕ) → has a i ≡ true → Has a i
unfolding has Has
has-true a i e = eqb-true _ _ e

pub true-has : (a i : ℕ) → Has a i → has a i ≡ true
unfolding has Has
true-has a i h = eq-eqb _ _ h

pub is_low-true : (a low : ℕ) → is_low a low ≡ true → Within low a × Has low (lowest a)
unfolding is_low
is_low-true a low e = let b = both (within low a) (has low (lowest a)) e in (within-true low a b.0, has-true low (lowest a) b.1)

pub true-is_low : (a low : ℕ) → Within low a → Has low (lowest a) → is_low a low ≡ true
unfolding is_low
true-is_low a low w h = rw (true-within low a w, true-has low (lowest a) h)

-- ---- the list of low parts

pub among-lows : {low : ℕ} (a : ℕ) → Among low (lows a) → LowPart a low
unfolding lows
among-lows {low} a h =
    let k = among-keep (is_low a) (up_to a) h in
    let e = is_low-true a low k.1 in
    record { inside = e.0; holds = e.1; less = among-up_to a k.0 }

pub lows-among : {a low : ℕ} → LowPart a low → Among low (lows a)
unfolding lows
lows-among {a} {low} p = keep-among (is_low a) (up_to a) (up_to-among a p.less) (true-is_low a low p.inside p.holds)

-- ---- both children are smaller than the cluster, and neither is empty

pub low_some : {a low : ℕ} → LowPart a low → 1 ≤ low
low_some {a} p = has_some (lowest a) p.holds

pub rest_some : {a low : ℕ} → LowPart a low → 1 ≤ a - low
rest_some p = let l = p.less in omega arith

pub low_and_rest : {a low : ℕ} → LowPart a low → size low + size (a - low) ≡ size a
low_and_rest {a} {low} p = size_minus a low p.inside

pub low-smaller : {a low : ℕ} → LowPart a low → size low < size a
low-smaller {a} {low} p = omega (arith, low_and_rest p, size_some (rest_some p))

pub rest-smaller : {a low : ℕ} → LowPart a low → size (a - low) < size a
rest-smaller {a} {low} p = omega (arith, low_and_rest p, size_some (low_some p))

pub low-part_two : {a low : ℕ} → LowPart a low → 2 ≤ size a
low-part_two {a} {low} p = omega (arith, low_and_rest p, size_some (low_some p), size_some (rest_some p))

-- a cluster of two or more species has a low part: its lowest species alone
pub lowest_alone : {a : ℕ} → a < 2 ^ 32 → 2 ≤ size a → LowPart a (single (lowest a))
lowest_alone {a} l two =
    let some = some_of a two (eq-zero-or-pos a) in
    let w = lowest-alone-within some l in
    record {
      inside = w;
      holds = single-has (lowest a);
      less = below w (dec_lt (single (lowest a)) a);
    }
  where
    some_of : (a : ℕ) → 2 ≤ size a → (a ≡ 0) ⊎ (0 < a) → 1 ≤ a
    some_of a t (inl e) = absurd (omega (arith, ap size e, size-zero))
    some_of a t (inr p) = p

    below : Within (single (lowest a)) a → Dec (single (lowest a) < a) → single (lowest a) < a
    below w (yes p) = p
    below w (no f) =
        let e : single (lowest a) ≡ a = omega (arith, f, within-le w) in
        absurd (omega (arith, ap size e, size-single (lowest a)))

-- ---- the list is rising

pub rising_cons : (x : ℕ) (l : List ℕ) → ((y : ℕ) → Among y l → x < y) → Rising l → Rising (x ∷ l)
unfolding Rising Below
rising_cons x [] h r = (tt, tt)
rising_cons x (y ∷ l) h r = (h y (here refl), r)

rising-tail : (x : ℕ) (l : List ℕ) → Rising (x ∷ l) → Rising l
unfolding Rising
rising-tail x l r = r.1

rising_append : (l : List ℕ) (x : ℕ) → Rising l → ((y : ℕ) → Among y l → y < x) → Rising (l ++ (x ∷ []))
unfolding Rising Below
rising_append [] x r h = (tt, tt)
rising_append (y ∷ l) x r h = rising_cons y (l ++ (x ∷ [])) (λ z m. go z (Memᴰ.append_cases l m)) (rising_append l x r.1 (λ z m. h z (there m)))
  where
    go : (z : ℕ) → Among z l ⊎ Among z (x ∷ []) → y < z
    go z (inl m) = rising-below l r m
    go z (inr m) = subst (λ v. y < v) (sym (Memᴰ.eq_of_singleton m)) (h y (here refl))

pub rising-keep : (test : ℕ → Bool) (l : List ℕ) → Rising l → Rising (keep test l)
unfolding keep
rising-keep test [] r = r
rising-keep test (x ∷ l) r = go (test x) (rising-keep test l (rising-tail x l r))
  where
    go : (b : Bool) → Rising (keep test l) → Rising (keep_if b x (keep test l))
    go true ih = rising_cons x (keep test l) (λ y m. rising-below l r (among-keep test l m).0) ih
    go false ih = ih

pub rising-up_to : (n : ℕ) → Rising (up_to n)
unfolding up_to Rising
rising-up_to zero = tt
rising-up_to (suc n) = rising_append (up_to n) n (rising-up_to n) (λ y m. among-up_to n m)

pub rising-lows : (a : ℕ) → Rising (lows a)
unfolding lows
rising-lows a = rising-keep (is_low a) (up_to a) (rising-up_to a)
