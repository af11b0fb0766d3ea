-- The list in rising order: it has the members of the list, and a rising list is determined by its members.
use Prim.Native.Nat.{ℕ, suc, ◌≤◌, ◌<◌, min, max}
use mathlib.Core.Path.{◌≡◌, refl, sym, ap, ap₂, ◌∙◌}
use mathlib.Core.Logic.{◌⊎◌, inl, inr}
use mathlib.Core.List.Memᴰ
use mathlib.Core.List.Memᴰ.{head as here}
use mathlib.Core.List.Memᴰ.{tail as there}
use mathlib.Core.List.{List, [], ◌∷◌}
use native.Mathlib.Decide.{dec_le}
use native.Mathlib.Omega.{arith}
use lib.ListN.{length}
use Rattle.trees.specs.Lists.{Among, NoneTwice, Below, Rising, insert, sorted}

-- ---- the rising order

below-mono : {a b : ℕ} (l : List ℕ) → a ≤ b → Below b l → Below a l
unfolding Below
below-mono [] h p = tt
below-mono (y ∷ l) h p = omega arith

pub rising-below : {x y : ℕ} (l : List ℕ) → Rising (x ∷ l) → Among y l → x < y
unfolding Rising Below
rising-below [] p h = absurd (Memᴰ.not-nil h)
rising-below {x} {y} (z ∷ l) p h = go (Memᴰ.cases_cons h) (λ k. rising-below l p.1 k)
  where
    go : (y ≡ z) ⊎ Among y l → (Among y l → z < y) → x < y
    go (inl e) ih = let k : x < z = p.0 in omega arith
    go (inr h) ih = let k : x < z = p.0 in let m = ih h in omega arith

pub rising_none_twice : (l : List ℕ) → Rising l → NoneTwice l
unfolding Rising NoneTwice
rising_none_twice [] p = tt
rising_none_twice (x ∷ l) p = (λ h. let k = rising-below l p h in omega arith, rising_none_twice l p.1)

-- a rising list is determined by its members
pub rising_same : (l k : List ℕ) → Rising l → Rising k → ((x : ℕ) → Among x l → Among x k) → ((x : ℕ) → Among x k → Among x l) → l ≡ k
unfolding Rising
rising_same [] [] p q f g = refl
rising_same [] (y ∷ k) p q f g = absurd (Memᴰ.not-nil (g y (here refl)))
rising_same (x ∷ l) [] p q f g = absurd (Memᴰ.not-nil (f x (here refl)))
rising_same (x ∷ l) (y ∷ k) p q f g =
    ap₂ ◌∷◌ same (rising_same l k p.1 q.1 (λ z h. onwards z h (Memᴰ.cases_cons (f z (there h)))) (λ z h. back z h (Memᴰ.cases_cons (g z (there h)))))
  where
    heads : (x ≡ y) ⊎ Among x k → (y ≡ x) ⊎ Among y l → x ≡ y
    heads (inl e) h = e
    heads (inr m) (inl e) = sym e
    heads (inr m) (inr h) = let a = rising-below k q m in let b = rising-below l p h in omega arith

    same : x ≡ y
    same = heads (Memᴰ.cases_cons (f x (here refl))) (Memᴰ.cases_cons (g y (here refl)))

    onwards : (z : ℕ) → Among z l → (z ≡ y) ⊎ Among z k → Among z k
    onwards z h (inl e) = let a = rising-below l p h in absurd (omega (arith, same))
    onwards z h (inr m) = m

    back : (z : ℕ) → Among z k → (z ≡ x) ⊎ Among z l → Among z l
    back z h (inl e) = let a = rising-below k q h in absurd (omega (arith, same))
    back z h (inr m) = m

-- ---- insertion

-- the two numbers that meet in a step of the insertion are the two that leave it
pub min-max : (x y : ℕ) → ((min x y ≡ x) × (max x y ≡ y)) ⊎ ((min x y ≡ y) × (max x y ≡ x))
min-max x y = go (dec_le x y)
  where
    go : Dec (x ≤ y) → ((min x y ≡ x) × (max x y ≡ y)) ⊎ ((min x y ≡ y) × (max x y ≡ x))
    go (yes h) = inl (omega arith, omega arith)
    go (no h) = inr (omega arith, omega arith)

pub among-insert : {z : ℕ} (x : ℕ) (l : List ℕ) → Among z (insert x l) → (z ≡ x) ⊎ Among z l
unfolding insert
among-insert x [] h = Memᴰ.cases_cons h
among-insert {z} x (y ∷ l) h = go (min-max x y) (Memᴰ.cases_cons h) (λ k. among-insert (max x y) l k)
  where
    last : (max x y ≡ x) ⊎ (max x y ≡ y) → (z ≡ max x y) ⊎ Among z l → (z ≡ x) ⊎ Among z (y ∷ l)
    last (inl e) (inl p) = inl (p ∙ e)
    last (inr e) (inl p) = inr (here (p ∙ e))
    last s (inr k) = inr (there k)

    go :
        ((min x y ≡ x) × (max x y ≡ y)) ⊎ ((min x y ≡ y) × (max x y ≡ x)) → (z ≡ min x y) ⊎ Among z (insert (max x y) l)
        → (Among z (insert (max x y) l) → (z ≡ max x y) ⊎ Among z l) → (z ≡ x) ⊎ Among z (y ∷ l)
    go (inl e) (inl p) ih = inl (p ∙ e.0)
    go (inl e) (inr k) ih = last (inr e.1) (ih k)
    go (inr e) (inl p) ih = inr (here (p ∙ e.0))
    go (inr e) (inr k) ih = last (inl e.1) (ih k)

pub insert-among : {z : ℕ} (x : ℕ) (l : List ℕ) → (z ≡ x) ⊎ Among z l → Among z (insert x l)
unfolding insert
insert-among x [] (inl e) = here e
insert-among x [] (inr h) = absurd (Memᴰ.not-nil h)
insert-among {z} x (y ∷ l) h = go (min-max x y) (split h) (λ k. insert-among (max x y) l k)
  where
    split : (z ≡ x) ⊎ Among z (y ∷ l) → (z ≡ x) ⊎ ((z ≡ y) ⊎ Among z l)
    split (inl e) = inl e
    split (inr k) = inr (Memᴰ.cases_cons k)

    go :
        ((min x y ≡ x) × (max x y ≡ y)) ⊎ ((min x y ≡ y) × (max x y ≡ x)) → (z ≡ x) ⊎ ((z ≡ y) ⊎ Among z l)
        → ((z ≡ max x y) ⊎ Among z l → Among z (insert (max x y) l)) → Among z (min x y ∷ insert (max x y) l)
    go (inl e) (inl p) ih = here (p ∙ sym e.0)
    go (inl e) (inr (inl p)) ih = there (ih (inl (p ∙ sym e.1)))
    go (inl e) (inr (inr k)) ih = there (ih (inr k))
    go (inr e) (inl p) ih = there (ih (inl (p ∙ sym e.1)))
    go (inr e) (inr (inl p)) ih = here (p ∙ sym e.0)
    go (inr e) (inr (inr k)) ih = there (ih (inr k))

pub length-insert : (x : ℕ) (l : List ℕ) → length (insert x l) ≡ suc (length l)
unfolding insert
length-insert x [] = refl
length-insert x (y ∷ l) = ap suc (length-insert (max x y) l)

below-insert : {b : ℕ} (x : ℕ) (l : List ℕ) → b < x → Below b l → Below b (insert x l)
unfolding insert Below
below-insert x [] h p = h
below-insert x (y ∷ l) h p = omega arith

pub rising-insert : (x : ℕ) (l : List ℕ) → Rising l → (Among x l → ⊥) → Rising (insert x l)
unfolding insert Rising Below
rising-insert x [] p n = (tt, tt)
rising-insert x (y ∷ l) p n =
    let differ : x ≡ y → ⊥ = λ e. n (here e) in
    (below-insert (max x y) l (omega (arith, differ)) (below-mono l (omega arith) p.0), rising-insert (max x y) l p.1 (λ h. off (min-max x y) h))
  where
    off : ((min x y ≡ x) × (max x y ≡ y)) ⊎ ((min x y ≡ y) × (max x y ≡ x)) → Among (max x y) l → ⊥
    off (inl e) h = let k = rising-below l p (Memᴰ.cast (sym e.1) h) in omega arith
    off (inr e) h = n (there (Memᴰ.cast (sym e.1) h))

-- ---- the list in rising order

pub among-sorted : {x : ℕ} (l : List ℕ) → Among x (sorted l) → Among x l
unfolding sorted
among-sorted [] h = h
among-sorted {x} (y ∷ l) h = go (among-insert y (sorted l) h) (λ k. among-sorted l k)
  where
    go : (x ≡ y) ⊎ Among x (sorted l) → (Among x (sorted l) → Among x l) → Among x (y ∷ l)
    go (inl e) ih = here e
    go (inr k) ih = there (ih k)

pub sorted-among : {x : ℕ} (l : List ℕ) → Among x l → Among x (sorted l)
unfolding sorted
sorted-among [] h = h
sorted-among {x} (y ∷ l) h = insert-among y (sorted l) (go (Memᴰ.cases_cons h) (λ k. sorted-among l k))
  where
    go : (x ≡ y) ⊎ Among x l → (Among x l → Among x (sorted l)) → (x ≡ y) ⊎ Among x (sorted l)
    go (inl e) ih = inl e
    go (inr k) ih = inr (ih k)

pub length-sorted : (l : List ℕ) → length (sorted l) ≡ length l
unfolding sorted
length-sorted [] = refl
length-sorted (x ∷ l) = length-insert x (sorted l) ∙ ap suc (length-sorted l)

pub rising-sorted : (l : List ℕ) → NoneTwice l → Rising (sorted l)
unfolding sorted NoneTwice Rising
rising-sorted [] p = tt
rising-sorted (x ∷ l) p = rising-insert x (sorted l) (rising-sorted l p.1) (λ h. p.0 (among-sorted l h))

-- a rising list with the members of l is l in rising order
pub sorted_same : (l k : List ℕ) → NoneTwice l → Rising k → ((x : ℕ) → Among x l → Among x k) → ((x : ℕ) → Among x k → Among x l) → sorted l ≡ k
sorted_same l k p q f g = rising_same (sorted l) k (rising-sorted l p) q (λ x h. f x (among-sorted l h)) (λ x h. sorted-among l (g x h))
