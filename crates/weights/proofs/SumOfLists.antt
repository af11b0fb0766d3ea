-- How many numbers of a list pass a test: lists put together, mapped and gathered, and sums of such numbers.
use Prim.Native.Nat.{ℕ, ◌+◌}
use mathlib.Core.Path.{◌≡◌, refl, sym, ap, ap₂, ◌∙◌}
use mathlib.Core.Bool.{Bool, true, false, ◌&&◌}
use mathlib.Core.List.Memᴰ
use mathlib.Core.List.Memᴰ.{head as here}
use mathlib.Core.List.Memᴰ.{tail as there}
use mathlib.Core.List.{List, [], ◌∷◌, ◌++◌, map, Memᴰ}
use native.Mathlib.Omega.{arith}
use lib.ListN.{length, length-append}
use Rattle.trees.specs.Lists.{Among, NoneTwice, keep_if, keep, total}
use Rattle.trees.proofs.Listing.{keep_append, keep-among, among-keep, none_twice_keep}
use Rattle.trees.proofs.Redrawing.{either_side}
use Rattle.weights.specs.Lineages.{one_if}
use Rattle.weights.specs.Subsets.{many, gathered}
use Rattle.weights.proofs.Tops.{same_length}
use Rattle.weights.proofs.Joining.{keep_same}

-- ---- one list

-- of no numbers none passes
pub many_nil : (test : ℕ → Bool) → many test [] ≡ 0
unfolding many keep
many_nil test = refl

-- one number more
pub many_cons : (test : ℕ → Bool) (x : ℕ) (l : List ℕ) → many test (x ∷ l) ≡ one_if (test x) + many test l
unfolding many keep
many_cons test x l = go (test x)
  where
    go : (b : Bool) → length (keep_if b x (keep test l)) ≡ one_if b + length (keep test l)
    go true = omega arith
    go false = omega arith

-- those of two lists are those of the first and those of the second
pub many_append : (test : ℕ → Bool) (l k : List ℕ) → many test (l ++ k) ≡ many test l + many test k
unfolding many
many_append test l k = ap length (keep_append test l k) ∙ length-append (keep test l) (keep test k)

-- of what a function makes of a list
pub many_map : {A : Type 0} (test : ℕ → Bool) (f : A → ℕ) (l : List A) → many test (map f l) ≡ total (map (λ x. one_if (test (f x))) l)
unfolding total
many_map test f [] = many_nil test
many_map test f (x ∷ l) = many_cons test (f x) (map f l) ∙ ap (λ (n : ℕ). one_if (test (f x)) + n) (many_map test f l)

-- the number is a sum of ones
pub many_total : (test : ℕ → Bool) (l : List ℕ) → many test l ≡ total (map (λ x. one_if (test x)) l)
unfolding total
many_total test [] = many_nil test
many_total test (x ∷ l) = many_cons test x l ∙ ap (λ (n : ℕ). one_if (test x) + n) (many_total test l)

-- so of what a function makes of a list those pass whose image does
pub many_mapped : (test : ℕ → Bool) (f : ℕ → ℕ) (l : List ℕ) → many test (map f l) ≡ many (λ x. test (f x)) l
many_mapped test f l = many_map test f l ∙ sym (many_total (λ x. test (f x)) l)

-- two tests that agree on the list
pub many_same : (test other : ℕ → Bool) (l : List ℕ) → ((x : ℕ) → Among x l → test x ≡ other x) → many test l ≡ many other l
unfolding many
many_same test other l h = ap length (keep_same test other l h)

-- the numbers of two lists without doubles are the same in number where they are the same
pub many_members :
    (test : ℕ → Bool) (l k : List ℕ) → NoneTwice l → NoneTwice k → ((x : ℕ) → Among x l → Among x k) → ((x : ℕ) → Among x k → Among x l)
    → many test l ≡ many test k
unfolding many
many_members test l k p q f g =
    same_length (keep test l) (keep test k) (none_twice_keep test l p) (none_twice_keep test k q)
    (λ x m. let h = among-keep test l m in keep-among test k (f x h.0) h.1)
    (λ x m. let h = among-keep test k m in keep-among test l (g x h.0) h.1)

-- none passes
pub many_none : (test : ℕ → Bool) (l : List ℕ) → ((x : ℕ) → Among x l → test x ≡ false) → many test l ≡ 0
many_none test [] h = many_nil test
many_none test (x ∷ l) h = many_cons test x l ∙ ap₂ (λ (b : Bool) (n : ℕ). one_if b + n) (h x (here refl)) (many_none test l (λ y m. h y (there m)))

-- those of the kept numbers that pass a test pass both tests
pub many_kept : (test kept : ℕ → Bool) (l : List ℕ) → many test (keep kept l) ≡ many (λ x. kept x && test x) l
unfolding keep
many_kept test kept [] = many_nil test ∙ sym (many_nil (λ x. kept x && test x))
many_kept test kept (x ∷ l) = go (kept x) (many_kept test kept l) ∙ sym (many_cons (λ x. kept x && test x) x l)
  where
    go :
        (b : Bool) → many test (keep kept l) ≡ many (λ x. kept x && test x) l
        → many test (keep_if b x (keep kept l)) ≡ one_if (b && test x) + many (λ x. kept x && test x) l
    go true e = many_cons test x (keep kept l) ∙ ap (λ (n : ℕ). one_if (test x) + n) e
    go false e = omega (arith, e)

-- ---- what is gathered

-- those of what is gathered are those of all that was given
pub many_gathered : {A : Type 0} (test : ℕ → Bool) (give : A → List ℕ) (l : List A) → many test (gathered give l) ≡ total (map (λ x. many test (give x)) l)
unfolding gathered total
many_gathered test give [] = many_nil test
many_gathered test give (x ∷ l) = many_append test (give x) (gathered give l) ∙ ap (λ (n : ℕ). many test (give x) + n) (many_gathered test give l)

-- what is gathered came from some member
pub among-gathered :
    {A : Type 0} {y : ℕ} (give : A → List ℕ) (l : List A) → Among y (gathered give l) → (x : A) × Memᴰ x l × Among y (give x)
unfolding gathered
among-gathered give [] m = absurd (Memᴰ.not-nil m)
among-gathered give (x ∷ l) m =
    either_side (give x) (gathered give l) (λ k. (x, here refl, k)) (λ k. let r = among-gathered give l k in (r.0, there r.1, r.2)) m

-- ---- sums of sums

-- a sum of sums is the sum of both
pub total_add : {A : Type 0} (f g : A → ℕ) (l : List A) → total (map (λ x. f x + g x) l) ≡ total (map f l) + total (map g l)
unfolding total
total_add f g [] = refl
total_add f g (x ∷ l) = omega (arith, total_add f g l)

-- a sum of nothing
pub total_none : {A : Type 0} (f : A → ℕ) (l : List A) → ((x : A) → Memᴰ x l → f x ≡ 0) → total (map f l) ≡ 0
unfolding total
total_none f [] h = refl
total_none f (x ∷ l) h = omega (arith, h x (here refl), total_none f l (λ y m. h y (there m)))
