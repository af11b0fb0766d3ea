-- The product of the odd numbers follows the recurrence of binary trees: over all ways to part the other species of a cluster between its two children.
use Prim.Native.Nat.{ℕ, zero, suc, ◌+◌, ◌*◌}
use mathlib.Core.Path.{◌≡◌, refl, sym, ap, ap₂}
use native.Mathlib.Omega.{arith}
use Rattle.splits.specs.Ties.{tree_count}

-- over all ways to part n things in two, the sum of what is made of the sizes of both parts
unfoldable pub parted : ℕ → (ℕ → ℕ → ℕ) → ℕ
parted zero h = h 0 0
parted (suc n) h = parted n (λ i j. h i (suc j)) + parted n (λ i j. h (suc i) j)

-- both sizes add up to n
pub parted_same : (n : ℕ) (h k : ℕ → ℕ → ℕ) → ((i j : ℕ) → i + j ≡ n → h i j ≡ k i j) → parted n h ≡ parted n k
unfolding parted
parted_same zero h k e = e 0 0 refl
parted_same (suc n) h k e =
    ap₂ ◌+◌ (parted_same n (λ i j. h i (suc j)) (λ i j. k i (suc j)) (λ i j s. e i (suc j) (omega arith)))
    (parted_same n (λ i j. h (suc i) j) (λ i j. k (suc i) j) (λ i j s. e (suc i) j (omega arith)))

parted_plus : (n : ℕ) (h k : ℕ → ℕ → ℕ) → parted n (λ i j. h i j + k i j) ≡ parted n h + parted n k
unfolding parted
parted_plus zero h k = refl
parted_plus (suc n) h k =
    omega (arith, parted_plus n (λ i j. h i (suc j)) (λ i j. k i (suc j)), parted_plus n (λ i j. h (suc i) j) (λ i j. k (suc i) j))

parted-times : (n c : ℕ) (h : ℕ → ℕ → ℕ) → parted n (λ i j. c * h i j) ≡ c * parted n h
unfolding parted
parted-times zero c h = refl
parted-times (suc n) c h = omega (arith, parted-times n c (λ i j. h i (suc j)), parted-times n c (λ i j. h (suc i) j))

parted-swap : (n : ℕ) (h : ℕ → ℕ → ℕ) → parted n h ≡ parted n (λ i j. h j i)
unfolding parted
parted-swap zero h = refl
parted-swap (suc n) h = omega (arith, parted-swap n (λ i j. h i (suc j)), parted-swap n (λ i j. h (suc i) j))

-- 1 for nothing, and 0 for something
abbrev if_none : ℕ → ℕ
if_none zero = 1
if_none (suc i) = 0

-- the one way with an empty first part
parted_one : (n : ℕ) (g : ℕ → ℕ) → parted n (λ i j. if_none i * g j) ≡ g n
unfolding parted
parted_one zero g = omega arith
parted_one (suc n) g = omega (arith, parted_one n (λ j. g (suc j)), parted-times n 0 (λ i j. g j))

-- ---- the products of odd numbers

next_odd : (i : ℕ) → tree_count (suc i) + tree_count i ≡ 2 * (i * tree_count i) + if_none i
unfolding tree_count
next_odd zero = refl
next_odd (suc i) = omega arith

products : ℕ → ℕ
products n = parted n (λ i j. tree_count i * tree_count j)

shifted : ℕ → ℕ
shifted n = parted n (λ i j. tree_count (suc i) * tree_count j)

-- each way twice, once for each order of the parts
products-suc : (n : ℕ) → products (suc n) ≡ 2 * shifted n
unfolding products shifted parted
products-suc n =
    let swapped = parted-swap n (λ i j. tree_count i * tree_count (suc j)) in
    let turned = parted_same n (λ i j. tree_count j * tree_count (suc i)) (λ i j. tree_count (suc i) * tree_count j) (λ i j s. omega arith) in
    omega arith

-- each way as often as there are things: once for each of the first part, and once for each of the second
products_weighted : (n : ℕ) → n * products n ≡ 2 * parted n (λ i j. i * (tree_count i * tree_count j))
unfolding products
products_weighted n =
    let c : ℕ → ℕ → ℕ = λ i j. tree_count i * tree_count j in
    let all = sym (parted-times n n c) in
    let both = parted_same n (λ i j. n * c i j) (λ i j. i * c i j + j * c i j) (λ i j s. rw (sym s) (omega arith)) in
    let apart = parted_plus n (λ i j. i * c i j) (λ i j. j * c i j) in
    let swapped = parted-swap n (λ i j. j * c i j) in
    let turned = parted_same n (λ i j. i * c j i) (λ i j. i * c i j) (λ i j s. omega arith) in
    omega arith

products_next : (n : ℕ) → shifted n + products n ≡ n * products n + tree_count n
unfolding shifted products
products_next n =
    let c : ℕ → ℕ → ℕ = λ i j. tree_count i * tree_count j in
    let d : ℕ → ℕ → ℕ = λ i j. tree_count (suc i) * tree_count j in
    let e : ℕ → ℕ → ℕ = λ i j. 2 * (i * c i j) in
    let f : ℕ → ℕ → ℕ = λ i j. if_none i * tree_count j in
    let summed = sym (parted_plus n d c) in
    let odd = parted_same n (λ i j. d i j + c i j) (λ i j. e i j + f i j)
    (λ i j s. over (tree_count (suc i)) (tree_count i) i (if_none i) (tree_count j) (next_odd i)) in
    let apart = parted_plus n e f in
    let twice = parted-times n 2 (λ i j. i * c i j) in
    let one = parted_one n tree_count in
    omega (arith, products_weighted n)
  where
    over : (x y z m k : ℕ) → x + y ≡ 2 * (z * y) + m → x * k + y * k ≡ 2 * (z * (y * k)) + m * k
    over x y z m k h = omega (arith, ap (λ v. v * k) h)

shifted-count : (n : ℕ) → shifted (suc n) ≡ tree_count (suc (suc n))
unfolding shifted parted tree_count
shifted-count zero = refl
shifted-count (suc n) =
    let twice = products-suc (suc n) in
    let is = shifted-count n in
    omega (arith, products_next (suc (suc n)), ap (λ x. suc (suc n) * x) twice, ap (λ x. n * x) is)

-- over all ways to part some species, the first part having one species more, the products of both counts add up to the count for one species more
pub tree_count-parted : (n : ℕ) → parted (suc n) (λ i j. tree_count (suc i) * tree_count j) ≡ tree_count (suc (suc n))
unfolding shifted
tree_count-parted n = shifted-count n
