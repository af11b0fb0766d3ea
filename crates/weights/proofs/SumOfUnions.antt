-- Inclusion and exclusion: of the unions of sets of a list, one more of an odd than of an even number lies within A where some set does, else equally many;
-- and that neither depends on the order of the list.
use Prim.Native.Nat.{ℕ, ◌+◌, ◌≤◌, min, max}
use mathlib.Core.Path.{◌≡◌, refl, sym, ap, ◌∙◌, subst}
use mathlib.Core.Bool.{Bool, true, false, ◌||◌}
use mathlib.Core.Logic.{⊎_elim}
use mathlib.Core.List.Memᴰ
use mathlib.Core.List.Memᴰ.{head as here}
use mathlib.Core.List.Memᴰ.{tail as there}
use mathlib.Core.List.{List, [], ◌∷◌, ◌++◌, map}
use native.Mathlib.Decide.{dec_le}
use native.Mathlib.Omega.{arith}
use Rattle.clusters.specs.Sets.{within, union}
use Rattle.clusters.proofs.Sets.{within-true, true-within, within-false, false-within, union-within, left_within, right_within, union_comm, union_assoc}
use Rattle.trees.specs.Lists.{Among, NoneTwice, some, insert, sorted}
use Rattle.trees.proofs.Order.{rising-sorted, among-sorted, sorted-among, sorted_same}
use Rattle.trees.proofs.Redrawing.{either_side}
use Rattle.weights.specs.Lineages.{one_if}
use Rattle.weights.specs.Subsets.{many, odds, evens}
use Rattle.weights.proofs.SumOfLists.{many_nil, many_cons, many_append, many_mapped, many_same, many_none}

-- the unions with one set more in front: it alone, those without it, and those with it
pub many_odds :
    (test : ℕ → Bool) (c : ℕ) (l : List ℕ)
    → many test (odds (c ∷ l)) ≡ one_if (test c) + (many test (odds l) + many (λ x. test (union c x)) (evens l))
unfolding odds
many_odds test c l =
    omega (
      arith,
      many_cons test c (odds l ++ map (λ x. union c x) (evens l)),
      many_append test (odds l) (map (λ x. union c x) (evens l)),
      many_mapped test (λ x. union c x) (evens l),
    )

-- and those of an even number
pub many_evens : (test : ℕ → Bool) (c : ℕ) (l : List ℕ) → many test (evens (c ∷ l)) ≡ many test (evens l) + many (λ x. test (union c x)) (odds l)
unfolding evens
many_evens test c l = omega (arith, many_append test (evens l) (map (λ x. union c x) (odds l)), many_mapped test (λ x. union c x) (odds l))

-- ---- inclusion and exclusion

-- a union lies within A where both sets do
within-union-held : (c x a : ℕ) → within c a ≡ true → within (union c x) a ≡ within x a
within-union-held c x a e = go (within x a) refl
  where
    go : (b : Bool) → within x a ≡ b → within (union c x) a ≡ b
    go true p = true-within (union c x) a (union-within c x a (within-true c a e) (within-true x a p))
    go false p = false-within (union c x) a (λ w. within-false x a p (right_within c x a w))

within-union-off : (c x a : ℕ) → within c a ≡ false → within (union c x) a ≡ false
within-union-off c x a e = false-within (union c x) a (λ w. within-false c a e (left_within c x a w))

-- [some set of the list lies within A] is the number of the odd unions within A less the number of the even ones
pub odds_less_evens :
    (a : ℕ) (l : List ℕ) → many (λ x. within x a) (odds l) ≡ many (λ x. within x a) (evens l) + one_if (some (λ x. within x a) l)
unfolding odds evens some
odds_less_evens a [] = omega (arith, many_nil (λ x. within x a))
odds_less_evens a (c ∷ l) =
    many_odds (λ x. within x a) c l ∙ go (within c a) refl (odds_less_evens a l)
    ∙ ap (λ (n : ℕ). n + one_if (within c a || some (λ x. within x a) l)) (sym (many_evens (λ x. within x a) c l))
  where
    go :
        (b : Bool) → within c a ≡ b → many (λ x. within x a) (odds l) ≡ many (λ x. within x a) (evens l) + one_if (some (λ x. within x a) l)
        → one_if b + (many (λ x. within x a) (odds l) + many (λ x. within (union c x) a) (evens l))
        ≡ many (λ x. within x a) (evens l) + many (λ x. within (union c x) a) (odds l) + one_if (b || some (λ x. within x a) l)
    go true e ih =
        omega (
          arith,
          many_same (λ x. within (union c x) a) (λ x. within x a) (evens l) (λ x m. within-union-held c x a e),
          many_same (λ x. within (union c x) a) (λ x. within x a) (odds l) (λ x m. within-union-held c x a e),
        )
    go false e ih =
        omega (
          arith,
          many_none (λ x. within (union c x) a) (evens l) (λ x m. within-union-off c x a e),
          many_none (λ x. within (union c x) a) (odds l) (λ x m. within-union-off c x a e),
        )

-- ---- the order of the list

-- two lists whose unions of an odd number, and of an even number, are the same sets as often
pub record SameUnions (l k : List ℕ) : Type 0 where
  pub odd : (test : ℕ → Bool) → many test (odds l) ≡ many test (odds k)
  pub even : (test : ℕ → Bool) → many test (evens l) ≡ many test (evens k)

unions_refl : (l : List ℕ) → SameUnions l l
unions_refl l = record { odd = λ test. refl; even = λ test. refl }

unions_sym : {l k : List ℕ} → SameUnions l k → SameUnions k l
unions_sym u = record { odd = λ test. sym (u.odd test); even = λ test. sym (u.even test) }

unions_trans : {l k j : List ℕ} → SameUnions l k → SameUnions k j → SameUnions l j
unions_trans u v = record { odd = λ test. u.odd test ∙ v.odd test; even = λ test. u.even test ∙ v.even test }

unions_cons : {l k : List ℕ} (c : ℕ) → SameUnions l k → SameUnions (c ∷ l) (c ∷ k)
unions_cons {l} {k} c u = record {
  odd = λ test. omega (arith, many_odds test c l, many_odds test c k, u.odd test, u.even (λ x. test (union c x)));
  even = λ test. omega (arith, many_evens test c l, many_evens test c k, u.even test, u.odd (λ x. test (union c x)));
}

unions_swap : (c d : ℕ) (l : List ℕ) → SameUnions (c ∷ d ∷ l) (d ∷ c ∷ l)
unions_swap c d l = record {
  odd = λ test.
      omega (
        arith,
        many_odds test c (d ∷ l),
        many_odds test d (c ∷ l),
        many_odds test d l,
        many_odds test c l,
        many_evens (λ x. test (union c x)) d l,
        many_evens (λ x. test (union d x)) c l,
        turned test (odds l),
      );
  even = λ test.
      omega (
        arith,
        many_evens test c (d ∷ l),
        many_evens test d (c ∷ l),
        many_evens test d l,
        many_evens test c l,
        many_odds (λ x. test (union c x)) d l,
        many_odds (λ x. test (union d x)) c l,
        ap (λ (x : ℕ). one_if (test x)) (union_comm c d),
        turned test (evens l),
      );
}
  where
    turned : (test : ℕ → Bool) (k : List ℕ) → many (λ x. test (union c (union d x))) k ≡ many (λ x. test (union d (union c x))) k
    turned test k =
        many_same (λ x. test (union c (union d x))) (λ x. test (union d (union c x))) k
        (λ x m. ap test (sym (union_assoc c d x) ∙ ap (λ (y : ℕ). union y x) (union_comm c d) ∙ union_assoc d c x))

unions_insert : (x : ℕ) (l : List ℕ) → SameUnions (x ∷ l) (insert x l)
unfolding insert
unions_insert x [] = unions_refl (x ∷ [])
unions_insert x (y ∷ l) = unions_trans (go (dec_le x y)) (unions_cons (min x y) (unions_insert (max x y) l))
  where
    go : Dec (x ≤ y) → SameUnions (x ∷ y ∷ l) (min x y ∷ max x y ∷ l)
    go (yes h) = let low : min x y ≡ x = omega arith in let high : max x y ≡ y = omega arith in rw (low, high) (unions_refl (x ∷ y ∷ l))
    go (no h) = let low : min x y ≡ y = omega arith in let high : max x y ≡ x = omega arith in rw (low, high) (unions_swap x y l)

unions_sorted : (l : List ℕ) → SameUnions l (sorted l)
unfolding sorted
unions_sorted [] = unions_refl []
unions_sorted (x ∷ l) = unions_trans (unions_cons x (unions_sorted l)) (unions_insert x (sorted l))

-- the order of the sets does not matter
pub unions_reordered :
    (l k : List ℕ) → NoneTwice l → NoneTwice k → ((x : ℕ) → Among x l → Among x k) → ((x : ℕ) → Among x k → Among x l) → SameUnions l k
unions_reordered l k p q f g =
    unions_trans (unions_sorted l)
    (rw (sorted_same l (sorted k) p (rising-sorted k q) (λ x h. sorted-among k (f x h)) (λ x h. g x (among-sorted k h))) (unions_sym (unions_sorted k)))

-- ---- what is seen of the sets

-- where a function takes a union of two to the union of what it makes of both, the unions of what it makes of a list are what it makes of the unions
pub record SeenUnions (see : ℕ → ℕ) (l : List ℕ) : Type 0 where
  pub odd : (test : ℕ → Bool) → many test (odds (map see l)) ≡ many (λ x. test (see x)) (odds l)
  pub even : (test : ℕ → Bool) → many test (evens (map see l)) ≡ many (λ x. test (see x)) (evens l)

pub unions_seen : (see : ℕ → ℕ) → ((x y : ℕ) → see (union x y) ≡ union (see x) (see y)) → (l : List ℕ) → SeenUnions see l
unfolding odds evens
unions_seen see joins [] = record { odd = λ test. many_nil test ∙ sym (many_nil (λ x. test (see x))); even = λ test. many_nil test ∙ sym (many_nil (λ x. test (see x))) }
unions_seen see joins (c ∷ l) = next (unions_seen see joins l)
  where
    with_it : (test : ℕ → Bool) (k : List ℕ) → many (λ x. test (union (see c) (see x))) k ≡ many (λ x. test (see (union c x))) k
    with_it test k =
        many_same (λ x. test (union (see c) (see x))) (λ x. test (see (union c x))) k (λ x m. ap test (sym (joins c x)))

    next : SeenUnions see l → SeenUnions see (c ∷ l)
    next u = record {
      odd = λ test.
          omega (
            arith,
            many_odds test (see c) (map see l),
            many_odds (λ x. test (see x)) c l,
            u.odd test,
            u.even (λ x. test (union (see c) x)),
            with_it test (evens l),
          );
      even = λ test.
          omega (
            arith,
            many_evens test (see c) (map see l),
            many_evens (λ x. test (see x)) c l,
            u.even test,
            u.odd (λ x. test (union (see c) x)),
            with_it test (odds l),
          );
    }

-- ---- where the unions lie

-- what each set of the list is and a union of two is, each union is
module _ (P : ℕ → Type 0) (joined : (x y : ℕ) → P x → P y → P (union x y)) where
  of_map : (c : ℕ) (l : List ℕ) → P c → ((x : ℕ) → Among x l → P x) → {x : ℕ} → Among x (map (λ x. union c x) l) → P x
  of_map c l p f m = let y = Memᴰ.of_map (λ x. union c x) l m in subst P y.2 (joined c y.0 p (f y.0 y.1))

  mutual
    unfolding odds evens

    -- of an odd number
    pub odds-are : (l : List ℕ) → ((x : ℕ) → Among x l → P x) → (x : ℕ) → Among x (odds l) → P x
    odds-are [] f x m = absurd (Memᴰ.not-nil m)
    odds-are (c ∷ l) f x m =
        ⊎_elim (λ e. subst P (sym e) (f c (here refl)))
        (either_side (odds l) (map (λ x. union c x) (evens l)) (λ k. odds-are l (λ z h. f z (there h)) x k)
        (λ k. of_map c (evens l) (f c (here refl)) (λ y k. evens-are l (λ z h. f z (there h)) y k) k)) (Memᴰ.cases_cons m)

    -- of an even number
    pub evens-are : (l : List ℕ) → ((x : ℕ) → Among x l → P x) → (x : ℕ) → Among x (evens l) → P x
    evens-are [] f x m = absurd (Memᴰ.not-nil m)
    evens-are (c ∷ l) f x m =
        either_side (evens l) (map (λ x. union c x) (odds l)) (λ k. evens-are l (λ z h. f z (there h)) x k)
        (λ k. of_map c (odds l) (f c (here refl)) (λ y k. odds-are l (λ z h. f z (there h)) y k) k) m
