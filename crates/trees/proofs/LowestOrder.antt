-- Clusters in rising order of their lowest species: the order keeps the members, and the lowest species rise where no two are equal.
use Prim.Native.Nat.{ℕ, ◌≤◌, ◌<◌}
use mathlib.Core.Path.{◌≡◌, refl}
use mathlib.Core.Logic.{◌⊎◌, inl, inr}
use mathlib.Core.Bool.{Bool, true, false}
use mathlib.Core.List.Memᴰ
use mathlib.Core.List.Memᴰ.{head as here}
use mathlib.Core.List.Memᴰ.{tail as there}
use mathlib.Core.List.{List, [], ◌∷◌, map}
use native.Mathlib.Omega.{arith}
use borrow.Author.Tests.{leb-true, leb-false}
use Rattle.clusters.specs.Sets.{lowest}
use Rattle.trees.specs.Lists.{Among, NoneTwice, Below, Rising}
use Rattle.trees.specs.Drawn.{before, lower, placed, by_lowest}
use Rattle.trees.proofs.Order.{rising-below}

-- ---- one cluster placed

pub among-placed : {z : ℕ} (x : ℕ) (l : List ℕ) → Among z (placed x l) → (z ≡ x) ⊎ Among z l
unfolding placed
among-placed x [] h = Memᴰ.cases_cons h
among-placed {z} x (y ∷ l) h = go (lower x y) h (λ k. among-placed x l k)
  where
    later : (z ≡ x) ⊎ Among z l → (z ≡ x) ⊎ Among z (y ∷ l)
    later (inl e) = inl e
    later (inr k) = inr (there k)

    behind : (z ≡ y) ⊎ Among z (placed x l) → (Among z (placed x l) → (z ≡ x) ⊎ Among z l) → (z ≡ x) ⊎ Among z (y ∷ l)
    behind (inl e) ih = inr (here e)
    behind (inr k) ih = later (ih k)

    go : (b : Bool) → Among z (before b x y l (placed x l)) → (Among z (placed x l) → (z ≡ x) ⊎ Among z l) → (z ≡ x) ⊎ Among z (y ∷ l)
    go true h ih = Memᴰ.cases_cons h
    go false h ih = behind (Memᴰ.cases_cons h) ih

pub placed-among : {z : ℕ} (x : ℕ) (l : List ℕ) → (z ≡ x) ⊎ Among z l → Among z (placed x l)
unfolding placed
placed-among x [] (inl e) = here e
placed-among x [] (inr h) = absurd (Memᴰ.not-nil h)
placed-among {z} x (y ∷ l) h = go (lower x y) h (λ k. placed-among x l k)
  where
    behind : (z ≡ y) ⊎ Among z l → ((z ≡ x) ⊎ Among z l → Among z (placed x l)) → Among z (y ∷ placed x l)
    behind (inl e) ih = here e
    behind (inr k) ih = there (ih (inr k))

    go : (b : Bool) → (z ≡ x) ⊎ Among z (y ∷ l) → ((z ≡ x) ⊎ Among z l → Among z (placed x l)) → Among z (before b x y l (placed x l))
    go true (inl e) ih = here e
    go true (inr k) ih = there k
    go false (inl e) ih = there (ih (inl e))
    go false (inr k) ih = behind (Memᴰ.cases_cons k) ih

below-placed : {b : ℕ} (x : ℕ) (l : List ℕ) → b < lowest x → Below b (map lowest l) → Below b (map lowest (placed x l))
unfolding placed Below
below-placed x [] h p = h
below-placed {b} x (y ∷ l) h p = go (lower x y)
  where
    go : (t : Bool) → Below b (map lowest (before t x y l (placed x l)))
    go true = h
    go false = p

rising-placed : (x : ℕ) (l : List ℕ) → Rising (map lowest l) → ((y : ℕ) → Among y l → lowest x ≡ lowest y → ⊥) → Rising (map lowest (placed x l))
unfolding placed Rising
rising-placed x [] p d = (tt, tt)
rising-placed x (y ∷ l) p d =
    go (lower x y) (λ e. let no-higher : lowest x ≤ lowest y = leb-true _ _ e in omega (arith, d y (here refl))) (λ e. leb-false _ _ e)
    (rising-placed x l p.1 (λ z h. d z (there h)))
  where
    go :
        (t : Bool) → (t ≡ true → lowest x < lowest y) → (t ≡ false → lowest y < lowest x) → Rising (map lowest (placed x l))
        → Rising (map lowest (before t x y l (placed x l)))
    go true first second ih = (first refl, p)
    go false first second ih = (below-placed x l (second refl) p.0, ih)

-- ---- the whole list

pub among-by_lowest : {x : ℕ} (l : List ℕ) → Among x (by_lowest l) → Among x l
unfolding by_lowest
among-by_lowest [] h = h
among-by_lowest {x} (y ∷ l) h = go (among-placed y (by_lowest l) h) (λ k. among-by_lowest l k)
  where
    go : (x ≡ y) ⊎ Among x (by_lowest l) → (Among x (by_lowest l) → Among x l) → Among x (y ∷ l)
    go (inl e) ih = here e
    go (inr k) ih = there (ih k)

pub by_lowest-among : {x : ℕ} (l : List ℕ) → Among x l → Among x (by_lowest l)
unfolding by_lowest
by_lowest-among [] h = h
by_lowest-among {x} (y ∷ l) h = placed-among y (by_lowest l) (go (Memᴰ.cases_cons h) (λ k. by_lowest-among l k))
  where
    go : (x ≡ y) ⊎ Among x l → (Among x l → Among x (by_lowest l)) → (x ≡ y) ⊎ Among x (by_lowest l)
    go (inl e) ih = inl e
    go (inr k) ih = inr (ih k)

pub rising-by_lowest : (l : List ℕ) → NoneTwice l → ((x y : ℕ) → Among x l → Among y l → lowest x ≡ lowest y → x ≡ y) → Rising (map lowest (by_lowest l))
unfolding by_lowest NoneTwice Rising
rising-by_lowest [] p d = tt
rising-by_lowest (x ∷ l) p d =
    rising-placed x (by_lowest l) (rising-by_lowest l p.1 (λ y z h k. d y z (there h) (there k)))
    (λ y h e. let k = among-by_lowest l h in p.0 (Memᴰ.cast (d x y (here refl) (there k) e) k))

-- clusters whose lowest species rise are all different
pub lowest-rising-once : (l : List ℕ) → Rising (map lowest l) → NoneTwice l
unfolding Rising NoneTwice
lowest-rising-once [] p = tt
lowest-rising-once (x ∷ l) p =
    (λ h. let k = rising-below (map lowest l) p (Memᴰ.map lowest h) in omega arith, lowest-rising-once l p.1)
