-- The list of the numbers below n, and what a function makes of each of them.
use Prim.Native.Nat.{ℕ, zero, suc, ◌<◌}
use mathlib.Core.Path.{◌≡◌, refl, sym, ap, ◌∙◌}
use mathlib.Core.Logic.{◌⊎◌, inl, inr}
use mathlib.Core.List.Memᴰ
use mathlib.Core.List.Memᴰ.{head as here}
use mathlib.Core.List.{List, [], ◌∷◌, ◌++◌, map, map-append}
use native.Mathlib.Decide.{dec_lt}
use native.Mathlib.Omega.{arith}
use lib.ListN.{length, get_or, length-append, length-map, get_or-append}
use lib.Seq.{get_or_at}
use Rattle.trees.specs.Lists.{Among, up_to}

pub length-up_to : (n : ℕ) → length (up_to n) ≡ n
unfolding up_to
length-up_to zero = refl
length-up_to (suc n) = omega (arith, length-append (up_to n) (n ∷ []), length-up_to n)

pub length-map-up_to : (f : ℕ → ℕ) (n : ℕ) → length (map f (up_to n)) ≡ n
length-map-up_to f n = length-map (up_to n) f ∙ length-up_to n

-- the entry at a is what the function makes of a
pub map-up_to : (f : ℕ → ℕ) (n a : ℕ) → a < n → get_or (map f (up_to n)) a 0 ≡ f a
unfolding up_to
map-up_to f zero a h = absurd (omega arith)
map-up_to f (suc n) a h =
    ap (λ (l : List ℕ). get_or l a 0) (map-append f (up_to n) (n ∷ [])) ∙ go (dec_lt a n) (λ k. map-up_to f n a k)
  where
    go : Dec (a < n) → (a < n → get_or (map f (up_to n)) a 0 ≡ f a) → get_or (map f (up_to n) ++ (f n ∷ [])) a 0 ≡ f a
    go (yes k) ih = get_or-append (map f (up_to n)) (f n ∷ []) 0 a (omega (arith, length-map-up_to f n)) ∙ ih k
    go (no k) ih =
        let last : a ≡ n = omega arith in
        get_or_at (map f (up_to n)) (f n) [] 0 a (length-map-up_to f n ∙ sym last) ∙ ap f (sym last)

-- ---- what stands in the list

pub among-up_to : {x : ℕ} (n : ℕ) → Among x (up_to n) → x < n
unfolding up_to
among-up_to zero h = absurd (Memᴰ.not-nil h)
among-up_to {x} (suc n) h = go (Memᴰ.append_cases (up_to n) h) (λ k. among-up_to n k)
  where
    go : Among x (up_to n) ⊎ Among x (n ∷ []) → (Among x (up_to n) → x < n) → x < suc n
    go (inl k) ih = let l = ih k in omega arith
    go (inr k) ih = let e = Memᴰ.eq_of_singleton k in omega arith

pub up_to-among : {x : ℕ} (n : ℕ) → x < n → Among x (up_to n)
unfolding up_to
up_to-among zero l = absurd (omega arith)
up_to-among {x} (suc n) l = go (dec_lt x n) (λ k. up_to-among n k)
  where
    go : Dec (x < n) → (x < n → Among x (up_to n)) → Among x (up_to n ++ (n ∷ []))
    go (yes k) ih = Memᴰ.append_left (n ∷ []) (ih k)
    go (no f) ih = Memᴰ.append_right (up_to n) (here (omega (arith, f)))
