-- Sums over a list.
use Prim.Native.Nat.{ℕ, ◌+◌, ◌≤◌, min, max}
use mathlib.Core.Path.{◌≡◌, refl, sym, ap, ap₂, ◌∙◌}
use mathlib.Core.Logic.{◌⊎◌, inl, inr}
use mathlib.Core.List.Memᴰ
use mathlib.Core.List.Memᴰ.{head as here}
use mathlib.Core.List.Memᴰ.{tail as there}
use mathlib.Core.List.{List, [], ◌∷◌, ◌++◌, map, Memᴰ}
use native.Mathlib.Decide.{dec_le}
use native.Mathlib.Omega.{arith}
use Rattle.trees.specs.Lists.{insert, sorted, total}

pub total_append : {A : Type 0} (w : A → ℕ) (l k : List A) → total (map w (l ++ k)) ≡ total (map w l) + total (map w k)
unfolding total
total_append w [] k = omega arith
total_append w (x ∷ l) k = omega (arith, total_append w l k)

pub total_same : {A : Type 0} (f g : A → ℕ) (l : List A) → ((x : A) → Memᴰ x l → f x ≡ g x) → total (map f l) ≡ total (map g l)
unfolding total
total_same f g [] h = refl
total_same f g (x ∷ l) h = ap₂ ◌+◌ (h x (here refl)) (total_same f g l (λ y m. h y (there m)))

-- none is more than all together
pub one_le_total : {A : Type 0} (f : A → ℕ) (l : List A) (x : A) → Memᴰ x l → f x ≤ total (map f l)
unfolding total
one_le_total f [] x m = absurd (Memᴰ.not-nil m)
one_le_total f (y ∷ l) x m = go (Memᴰ.cases_cons m) (one_le_total f l x)
  where
    go : (x ≡ y) ⊎ Memᴰ x l → (Memᴰ x l → f x ≤ total (map f l)) → f x ≤ f y + total (map f l)
    go (inl e) later = omega (arith, ap f e)
    go (inr k) later = omega (arith, later k)

-- ---- in any order

total-insert : (w : ℕ → ℕ) (x : ℕ) (l : List ℕ) → total (map w (insert x l)) ≡ w x + total (map w l)
unfolding total insert
total-insert w x [] = refl
total-insert w x (y ∷ l) = go (dec_le x y) (total-insert w (max x y) l)
  where
    go : Dec (x ≤ y) → total (map w (insert (max x y) l)) ≡ w (max x y) + total (map w l)
        → w (min x y) + total (map w (insert (max x y) l)) ≡ w x + (w y + total (map w l))
    go (yes h) ih = omega (arith, ap w {x = min x y} {y = x} (omega arith), ap w {x = max x y} {y = y} (omega arith))
    go (no h) ih = omega (arith, ap w {x = min x y} {y = y} (omega (arith, h)), ap w {x = max x y} {y = x} (omega (arith, h)))

pub total-sorted : (w : ℕ → ℕ) (l : List ℕ) → total (map w (sorted l)) ≡ total (map w l)
unfolding total sorted
total-sorted w [] = refl
total-sorted w (x ∷ l) = total-insert w x (sorted l) ∙ ap (λ n. w x + n) (total-sorted w l)

-- ---- sums that are compared part by part

module _ {A : Type 0} (f g : A → ℕ) where
  pub total-le : (l : List A) → ((x : A) → Memᴰ x l → f x ≤ g x) → total (map f l) ≤ total (map g l)
  unfolding total
  total-le [] h = omega arith
  total-le (x ∷ l) h = omega (arith, h x (here refl), total-le l (λ y m. h y (there m)))

  -- where the sums are equal, so are all parts
  pub total_tight :
      (l : List A) → ((x : A) → Memᴰ x l → f x ≤ g x) → total (map f l) ≡ total (map g l) → (x : A) → Memᴰ x l → f x ≡ g x
  unfolding total
  total_tight [] h e x m = absurd (Memᴰ.not-nil m)
  total_tight (y ∷ l) h e x m = go (Memᴰ.cases_cons m) (λ k. total_tight l (λ z n. h z (there n)) (omega (arith, h y (here refl), total-le l (λ z n. h z (there n)))) x k)
    where
      go : (x ≡ y) ⊎ Memᴰ x l → (Memᴰ x l → f x ≡ g x) → f x ≡ g x
      go (inl k) later =
          let here-equal : f y ≡ g y = omega (arith, h y (here refl), total-le l (λ z n. h z (there n))) in
          ap f k ∙ here-equal ∙ ap g (sym k)
      go (inr k) later = later k
