-- How many binary trees there are on a cluster depends on its size alone: it is the product of odd numbers that 02 names.
use Prim.Native.Nat.{ℕ, zero, suc, ◌+◌, ◌-◌, ◌*◌, ◌/◌, ◌%◌, ◌^◌, ◌≤◌, ◌<◌}
use mathlib.Core.Path.{◌≡◌, refl, sym, ap, ap₂, ◌∙◌, subst}
use mathlib.Core.Bool.{Bool, true, false}
use mathlib.Core.List.{List, [], ◌∷◌, map}
use native.Mathlib.Nat.{pow-suc, zero-mul, mul-zero, suc-mul}
use native.Mathlib.Decide.{ℕ_discrete, dec_lt}
use native.Mathlib.Omega.{arith}
use lib.Arith.{lt-one}
use lib.ListN.{length, length-append, length-map}
use lib.Count.{ones, ones_step}
use Rattle.clusters.specs.Sets.{Has, Within, within, size, single, lowest}
use Rattle.clusters.proofs.Members.{has-odd, odd-has, has-half, half-has, half-below, has_of_within, within_of_has, has_dec, single-has, has-single}
use Rattle.clusters.proofs.Sets.{within-true, true-within, false-within, within-refl, within-le, has_minus, minus_has, half-within, within_dec, within_trans, minus_within, minus_below}
use Rattle.clusters.proofs.Sizes.{size-zero, size_minus, size-single, some_of_size}
use Rattle.clusters.proofs.LowestSpecies.{lowest-has, lowest-alone-within}
use Rattle.trees.specs.Lists.{keep, keep_if, total, up_to}
use Rattle.splits.specs.BinaryTrees.{Binary, is_low, lows, each, forks, trees_on}
use Rattle.splits.specs.BinaryTrees.Binary.{fork}
use Rattle.splits.specs.WellFormed.{LowPart}
use Rattle.splits.specs.Ties.{tree_count}
use Rattle.splits.specs.Work.{only}
use Rattle.splits.proofs.LowParts.{among-lows, is_low-true, true-is_low, low_and_rest, low-smaller, rest-smaller}
use Rattle.splits.proofs.Membership.{trees_on-zero, trees_on-single, trees_on-splits, empty_of_size}
use Rattle.splits.proofs.OddProducts.{parted, parted_same, tree_count-parted}
use Rattle.trees.proofs.Totals.{total_append, total_same}

-- ---- sums over the numbers below a bound

sum_below : (ℕ → ℕ) → ℕ → ℕ
sum_below f zero = 0
sum_below f (suc n) = sum_below f n + f n

sum_below_same : (f g : ℕ → ℕ) (n : ℕ) → ((x : ℕ) → f x ≡ g x) → sum_below f n ≡ sum_below g n
unfolding sum_below
sum_below_same f g zero h = refl
sum_below_same f g (suc n) h = ap₂ ◌+◌ (sum_below_same f g n h) (h n)

sum_below_plus : (f g : ℕ → ℕ) (n : ℕ) → sum_below (λ x. f x + g x) n ≡ sum_below f n + sum_below g n
unfolding sum_below
sum_below_plus f g zero = refl
sum_below_plus f g (suc n) = omega (arith, sum_below_plus f g n)

-- nothing is added from n on
sum_below-rest : (f : ℕ → ℕ) (n m : ℕ) → ((x : ℕ) → n ≤ x → f x ≡ 0) → n ≤ m → sum_below f m ≡ sum_below f n
unfolding sum_below
sum_below-rest f n zero h l = ap (sum_below f) {x = zero} {y = n} (omega arith)
sum_below-rest f n (suc m) h l = go (dec_lt m n) (λ k. sum_below-rest f n m h k)
  where
    go : Dec (m < n) → (n ≤ m → sum_below f m ≡ sum_below f n) → sum_below f m + f m ≡ sum_below f n
    go (yes k) ih = ap (sum_below f) {x = suc m} {y = n} (omega arith)
    go (no k) ih = omega (arith, h m (omega (arith, k)), ih (omega (arith, k)))

-- the even numbers and the odd ones
sum_below-twice : (f : ℕ → ℕ) (n : ℕ) → sum_below f (2 * n) ≡ sum_below (λ x. f (2 * x) + f (suc (2 * x))) n
unfolding sum_below
sum_below-twice f zero = refl
sum_below-twice f (suc n) = ap (sum_below f) {x = 2 * suc n} {y = suc (suc (2 * n))} (omega arith) ∙ omega (arith, sum_below-twice f n)

-- ---- lengths as sums

total-keep : (test : ℕ → Bool) (g : ℕ → ℕ) (l : List ℕ) → total (map g (keep test l)) ≡ total (map (λ x. only (test x) (g x)) l)
unfolding total keep
total-keep test g [] = refl
total-keep test g (x ∷ l) = go (test x) (total-keep test g l)
  where
    go : (b : Bool) → total (map g (keep test l)) ≡ total (map (λ y. only (test y) (g y)) l)
        → total (map g (keep_if b x (keep test l))) ≡ only b (g x) + total (map (λ y. only (test y) (g y)) l)
    go true ih = omega arith
    go false ih = omega arith

total-up_to : (f : ℕ → ℕ) (n : ℕ) → total (map f (up_to n)) ≡ sum_below f n
unfolding up_to sum_below total
total-up_to f zero = refl
total-up_to f (suc n) = omega (arith, total_append f (up_to n) (n ∷ []), total-up_to f n)

total-lows : (g : ℕ → ℕ) (a : ℕ) → total (map g (lows a)) ≡ sum_below (λ x. only (is_low a x) (g x)) a
unfolding lows
total-lows g a = total-keep (is_low a) g (up_to a) ∙ total-up_to (λ x. only (is_low a x) (g x)) a

-- the lists one after the other, counted
pub length-each : {A B : Type 0} (f : A → List B) (l : List A) → length (each f l) ≡ total (map (λ x. length (f x)) l)
unfolding each total
length-each f [] = refl
length-each f (x ∷ l) = omega (arith, length-append (f x) (each f l), length-each f l)

pub length-forks : (a : ℕ) (ts us : List Binary) → length (forks a ts us) ≡ length ts * length us
unfolding forks each
length-forks a [] us = sym (zero-mul (length us))
length-forks a (t ∷ ts) us =
    omega (arith, length-append (map (λ u. fork a t u) us) (forks a ts us), length-map us (λ u. fork a t u), length-forks a ts us, suc-mul (length ts) (length us))

-- ---- the parts of a set, halved

-- two tests of which each passes where the other does
pub same_test : (b c : Bool) → (b ≡ true → c ≡ true) → (c ≡ true → b ≡ true) → b ≡ c
same_test true true f g = refl
same_test true false f g = sym (f refl)
same_test false true f g = g refl
same_test false false f g = refl

no_test : (b : Bool) → (b ≡ true → ⊥) → b ≡ false
no_test true f = absurd (f refl)
no_test false f = refl

twice_half : (x : ℕ) → 2 * x / 2 ≡ x
twice_half x = omega arith

suc-twice-half : (x : ℕ) → suc (2 * x) / 2 ≡ x
suc-twice-half x = omega arith

within_even : (x m : ℕ) → within (2 * x) m ≡ within x (m / 2)
within_even x m =
    same_test (within (2 * x) m) (within x (m / 2))
    (λ e. true-within x (m / 2) (subst (λ y. Within y (m / 2)) (twice_half x) (half-within m (2 * x) (within-true (2 * x) m e))))
    (λ e. true-within (2 * x) m (within_of_has (2 * x) m (doubled (within-true x (m / 2) e))))
  where
    doubled : Within x (m / 2) → (i : ℕ) → Has (2 * x) i → Has m i
    doubled w zero h = let o = odd-has (2 * x) h in absurd (omega arith)
    doubled w (suc i) h = half-has m i (has_of_within x (m / 2) i w (subst (λ y. Has y i) (twice_half x) (has-half (2 * x) i h)))

within-odd : (x m : ℕ) → m % 2 ≡ 1 → within (suc (2 * x)) m ≡ within x (m / 2)
within-odd x m odd =
    same_test (within (suc (2 * x)) m) (within x (m / 2))
    (λ e. true-within x (m / 2) (subst (λ y. Within y (m / 2)) (suc-twice-half x) (half-within m (suc (2 * x)) (within-true (suc (2 * x)) m e))))
    (λ e. true-within (suc (2 * x)) m (within_of_has (suc (2 * x)) m (doubled (within-true x (m / 2) e))))
  where
    doubled : Within x (m / 2) → (i : ℕ) → Has (suc (2 * x)) i → Has m i
    doubled w zero h = has-odd m odd
    doubled w (suc i) h = half-has m i (has_of_within x (m / 2) i w (subst (λ y. Has y i) (suc-twice-half x) (has-half (suc (2 * x)) i h)))

within-odd-even : (x m : ℕ) → m % 2 ≡ 0 → within (suc (2 * x)) m ≡ false
within-odd-even x m even =
    false-within (suc (2 * x)) m
    (λ w. let o = odd-has m (has_of_within (suc (2 * x)) m 0 w (has-odd (suc (2 * x)) (omega arith))) in omega arith)

size-even : (x : ℕ) → size (2 * x) ≡ size x
unfolding size
size-even x = omega (arith, ones_step (2 * x), ap ones (twice_half x))

size-odd : (x : ℕ) → size (suc (2 * x)) ≡ suc (size x)
unfolding size
size-odd x = omega (arith, ones_step (suc (2 * x)), ap ones (suc-twice-half x))

-- ---- a sum over all parts of a set depends on its size alone

-- over all choices of some of n things, the sum of g of how many are chosen
abbrev choices : ℕ → (ℕ → ℕ) → ℕ
choices n g = parted n (λ i j. g i)

half-size-odd : (m : ℕ) → m % 2 ≡ 1 → size m ≡ suc (size (m / 2))
unfolding size
half-size-odd m e = omega (arith, ones_step m)

half-size-even : (m : ℕ) → m % 2 ≡ 0 → size m ≡ size (m / 2)
unfolding size
half-size-even m e = omega (arith, ones_step m)

parts-sum : (k m : ℕ) → m < 2 ^ k → (g : ℕ → ℕ) → sum_below (λ x. only (within x m) (g (size x))) (2 ^ k) ≡ choices (size m) g
unfolding sum_below parted
parts-sum zero m l g = rw (lt-one l, true-within 0 0 (within-refl 0), size-zero) (omega arith)
parts-sum (suc k) m l g =
    ap (sum_below part) {x = 2 ^ suc k} {y = 2 * 2 ^ k} (omega (arith, pow-suc 2 k)) ∙ sum_below-twice part (2 ^ k)
    ∙ sum_below_plus (λ x. part (2 * x)) (λ x. part (suc (2 * x))) (2 ^ k)
    ∙ go (ℕ_discrete (m % 2) 1) (parts-sum k (m / 2) (half-below k l) g) (parts-sum k (m / 2) (half-below k l) (λ s. g (suc s)))
  where
    part : ℕ → ℕ
    part x = only (within x m) (g (size x))

    even-part : (x : ℕ) → part (2 * x) ≡ only (within x (m / 2)) (g (size x))
    even-part x = ap₂ only (within_even x m) (ap g (size-even x))

    go : Dec (m % 2 ≡ 1) → sum_below (λ x. only (within x (m / 2)) (g (size x))) (2 ^ k) ≡ choices (size (m / 2)) g
        → sum_below (λ x. only (within x (m / 2)) (g (suc (size x)))) (2 ^ k) ≡ choices (size (m / 2)) (λ s. g (suc s))
        → sum_below (λ x. part (2 * x)) (2 ^ k) + sum_below (λ x. part (suc (2 * x))) (2 ^ k) ≡ choices (size m) g
    go (yes e) p q =
        ap₂ ◌+◌ (sum_below_same (λ x. part (2 * x)) (λ x. only (within x (m / 2)) (g (size x))) (2 ^ k) even-part ∙ p)
        (sum_below_same (λ x. part (suc (2 * x))) (λ x. only (within x (m / 2)) (g (suc (size x)))) (2 ^ k)
        (λ x. ap₂ only (within-odd x m e) (ap g (size-odd x))) ∙ q)
        ∙ sym (ap (λ n. choices n g) (half-size-odd m e))
    go (no f) p q =
        let e : m % 2 ≡ 0 = omega (arith, f) in
        let none = sum_below-rest (λ x. part (suc (2 * x))) 0 (2 ^ k) (λ x h. ap (λ b. only b (g (size (suc (2 * x))))) (within-odd-even x m e)) (omega arith) in
        let some = sum_below_same (λ x. part (2 * x)) (λ x. only (within x (m / 2)) (g (size x))) (2 ^ k) even-part ∙ p in
        let sizes = ap (λ n. choices n g) (half-size-even m e) in
        omega arith

-- ---- and so does a sum over its low parts

module _ (a : ℕ) (l : 1 ≤ a) (below : a < 2 ^ 32) where
  lowest_in : Has a (lowest a)
  lowest_in = lowest-has l below

  lowest-alone_in : Within (single (lowest a)) a
  lowest-alone_in = lowest-alone-within l below

  -- a part of a holds its lowest species, or is a part of the rest
  with_or_without : (x v : ℕ) → only (within x a) v ≡ only (is_low a x) v + only (within x (a - single (lowest a))) v
  with_or_without x v = go (within_dec x a) (has_dec x (lowest a))
    where
      rest : ℕ
      rest = a - single (lowest a)

      go : Dec (Within x a) → Dec (Has x (lowest a)) → only (within x a) v ≡ only (is_low a x) v + only (within x rest) v
      go (yes w) (yes h) =
          rw (
            true-within x a w,
            true-is_low a x w h,
            false-within x rest (λ r. (has_minus a (single (lowest a)) (lowest a) lowest-alone_in (has_of_within x rest (lowest a) r h)).1 (single-has (lowest a))),
          )
          (omega arith)
      go (yes w) (no f) =
          rw (true-within x a w, no_test (is_low a x) (λ e. f (is_low-true a x e).1), true-within x rest (within_of_has x rest (λ i h. outside w f i h)))
          (omega arith)
        where
          outside : Within x a → (Has x (lowest a) → ⊥) → (i : ℕ) → Has x i → Has rest i
          outside w f i h =
              minus_has a (single (lowest a)) i lowest-alone_in (has_of_within x a i w h)
              (λ k. f (subst (λ j. Has x j) (sym (has-single (lowest a) i k)) h))
      go (no f) d =
          rw (
            false-within x a f,
            no_test (is_low a x) (λ e. f (is_low-true a x e).0),
            false-within x rest (λ r. f (within_trans x rest a r (minus_within a (single (lowest a)) lowest-alone_in))),
          )
          (omega arith)

  lows_and_all : (k : ℕ) → a < 2 ^ k → (g : ℕ → ℕ)
      → sum_below (λ x. only (is_low a x) (g (size x))) (2 ^ k) ≡ choices (size a - 1) (λ s. g (suc s))
  unfolding parted
  lows_and_all k h g =
      let rest : ℕ = a - single (lowest a) in
      let smaller : size a ≡ suc (size rest) = omega (arith, size_minus a (single (lowest a)) lowest-alone_in, size-single (lowest a)) in
      let all = parts-sum k a h g in
      let without = parts-sum k rest (minus_below (single (lowest a)) k h) g in
      let parted = sum_below_same (λ x. only (within x a) (g (size x))) (λ x. only (is_low a x) (g (size x)) + only (within x rest) (g (size x))) (2 ^ k)
      (λ x. with_or_without x (g (size x))) in
      let summed = sum_below_plus (λ x. only (is_low a x) (g (size x))) (λ x. only (within x rest) (g (size x))) (2 ^ k) in
      let fewer : size rest ≡ size a - 1 = omega arith in
      let split = ap (λ n. choices n g) smaller in
      let named = ap (λ n. choices n (λ s. g (suc s))) fewer in
      omega arith

  -- low parts but a itself
  total_of_lows : (g : ℕ → ℕ) → g (size a) ≡ 0 → total (map (λ x. g (size x)) (lows a)) ≡ choices (size a - 1) (λ s. g (suc s))
  total_of_lows g z = up_to-power 32 below
    where
      beyond : (x : ℕ) → a ≤ x → Dec (x ≡ a) → only (is_low a x) (g (size x)) ≡ 0
      beyond x h (yes e) = rw (e, z) (nothing (is_low a a))
        where
          nothing : (b : Bool) → only b 0 ≡ 0
          nothing true = refl
          nothing false = refl
      beyond x h (no f) = rw (no_test (is_low a x) (λ e. omega (arith, f, within-le (is_low-true a x e).0)))

      up_to-power : (k : ℕ) → a < 2 ^ k → total (map (λ x. g (size x)) (lows a)) ≡ choices (size a - 1) (λ s. g (suc s))
      up_to-power k h =
          total-lows (λ x. g (size x)) a
          ∙ sym (sum_below-rest (λ x. only (is_low a x) (g (size x))) a (2 ^ k) (λ x m. beyond x m (ℕ_discrete x a)) (omega arith))
          ∙ lows_and_all k h g

-- ---- how many trees there are

tree_count-zero : tree_count 0 ≡ 0
unfolding tree_count
tree_count-zero = refl

tree_count_one : tree_count 1 ≡ 1
unfolding tree_count
tree_count_one = refl

tree_count_next : (n : ℕ) → tree_count n ≤ tree_count (suc n)
unfolding tree_count
tree_count_next zero = omega arith
tree_count_next (suc n) = omega arith

-- the sum over the low parts of a cluster, of the products of the counts for both parts
pub total_of_counts : (a : ℕ) → a < 2 ^ 32 → 2 ≤ size a → total (map (λ low. tree_count (size low) * tree_count (size (a - low))) (lows a)) ≡ tree_count (size a)
total_of_counts a h two =
    total_same (λ low. tree_count (size low) * tree_count (size (a - low))) (λ low. tree_count (size low) * tree_count (size a - size low)) (lows a)
    (λ low m. ap (λ n. tree_count (size low) * tree_count n) (rest-size (among-lows a m)))
    ∙ total_of_lows a (some_of_size (omega arith)) h (λ s. tree_count s * tree_count (size a - s)) nothing_left ∙ by_size (size a) two
  where
    rest-size : {low : ℕ} → LowPart a low → size (a - low) ≡ size a - size low
    rest-size p = omega (arith, low_and_rest p)

    nothing_left : tree_count (size a) * tree_count (size a - size a) ≡ 0
    nothing_left =
        ap (λ n. tree_count (size a) * tree_count n) {x = size a - size a} {y = 0} (omega arith)
        ∙ ap (λ n. tree_count (size a) * n) tree_count-zero
        ∙ mul-zero (tree_count (size a))

    by_size : (s : ℕ) → 2 ≤ s → choices (s - 1) (λ i. tree_count (suc i) * tree_count (s - suc i)) ≡ tree_count s
    by_size zero l = absurd (omega arith)
    by_size (suc zero) l = absurd (omega arith)
    by_size (suc (suc n)) l =
        ap (λ k. choices k (λ i. tree_count (suc i) * tree_count (suc (suc n) - suc i))) {x = suc (suc n) - 1} {y = suc n} (omega arith)
        ∙ parted_same (suc n) (λ i j. tree_count (suc i) * tree_count (suc (suc n) - suc i)) (λ i j. tree_count (suc i) * tree_count j)
        (λ i j e. ap (λ k. tree_count (suc i) * tree_count k) {x = suc (suc n) - suc i} {y = j} (omega arith))
        ∙ tree_count-parted n

counted_to : (k a : ℕ) → size a < k → a < 2 ^ 32 → length (trees_on a) ≡ tree_count (size a)
counted_to zero a l h = absurd (omega arith)
counted_to (suc k) a l h = go (ℕ_discrete (size a) 0) (ℕ_discrete (size a) 1) (λ b m. counted_to k b (omega arith))
  where
    over : (low : ℕ) → LowPart a low → ((b : ℕ) → size b < size a → b < 2 ^ 32 → length (trees_on b) ≡ tree_count (size b))
        → length (forks a (trees_on low) (trees_on (a - low))) ≡ tree_count (size low) * tree_count (size (a - low))
    over low p ih =
        let less = p.less in
        length-forks a (trees_on low) (trees_on (a - low))
        ∙ ap₂ ◌*◌ (ih low (low-smaller p) (omega arith)) (ih (a - low) (rest-smaller p) (omega arith))

    go : Dec (size a ≡ 0) → Dec (size a ≡ 1) → ((b : ℕ) → size b < size a → b < 2 ^ 32 → length (trees_on b) ≡ tree_count (size b))
        → length (trees_on a) ≡ tree_count (size a)
    go (yes e) d ih = ap (λ b. length (trees_on b)) (empty_of_size a (omega arith)) ∙ ap length trees_on-zero ∙ sym (ap tree_count e ∙ tree_count-zero)
    go (no f) (yes e) ih = ap length (trees_on-single a e) ∙ sym (ap tree_count e ∙ tree_count_one)
    go (no f) (no g) ih =
        ap length (trees_on-splits a g) ∙ length-each (λ low. forks a (trees_on low) (trees_on (a - low))) (lows a)
        ∙ total_same (λ low. length (forks a (trees_on low) (trees_on (a - low)))) (λ low. tree_count (size low) * tree_count (size (a - low))) (lows a)
        (λ low m. over low (among-lows a m) ih)
        ∙ total_of_counts a h (omega (arith, f, g))

-- "The number of binary trees on n species is 1 for n = 1 and 2 and then the product of the odd numbers up to 2n - 3" (#108)
pub trees-counted : (a : ℕ) → a < 2 ^ 32 → length (trees_on a) ≡ tree_count (size a)
trees-counted a h = counted_to (suc (size a)) a (omega arith) h

-- clusters of one size have equally many trees
pub same_count : (a b : ℕ) → a < 2 ^ 32 → b < 2 ^ 32 → size a ≡ size b → length (trees_on a) ≡ length (trees_on b)
same_count a b h k e = trees-counted a h ∙ ap tree_count e ∙ sym (trees-counted b k)

-- 1, 1, 3, 15, 105, 945 on 1 to 6 species
pub tree_count_few : (tree_count 1 ≡ 1) × (tree_count 2 ≡ 1) × (tree_count 3 ≡ 3) × (tree_count 4 ≡ 15) × (tree_count 5 ≡ 105) × (tree_count 6 ≡ 945)
unfolding tree_count
tree_count_few = (refl, refl, refl, refl, refl, refl)

-- "ending in 6,190,283,353,629,375" (#108)
pub tree_count-sixteen : tree_count 16 ≡ 6190283353629375
unfolding tree_count
tree_count-sixteen = refl

-- more species have no fewer trees
pub tree_count-mono : (m n : ℕ) → m ≤ n → tree_count m ≤ tree_count n
tree_count-mono m zero l = rw (zero-only l) (omega arith)
  where
    zero-only : m ≤ 0 → m ≡ 0
    zero-only l = omega arith
tree_count-mono m (suc n) l = go (dec_lt m (suc n)) (λ k. tree_count-mono m n k)
  where
    go : Dec (m < suc n) → (m ≤ n → tree_count m ≤ tree_count n) → tree_count m ≤ tree_count (suc n)
    go (yes k) ih = omega (arith, ih (omega arith), tree_count_next n)
    go (no f) ih = let e : m ≡ suc n = omega arith in omega (arith, ap tree_count e)
