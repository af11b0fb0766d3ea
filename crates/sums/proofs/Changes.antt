-- Tables that were changed by one at some sets: one change after another, lists that change as much, and loops over lists of changes.
use Rattle.std.proofs.Common.{◌≡◌, ℕ, ◌+◌, ◌%◌, ◌<◌, ◌≤◌, eqb, List, [], ◌∷◌, ◌++◌, map, length, get_or, set, replicate, sym, refl, ap, ap₂, ◌∙◌, subst, append-nil, arith, length-set, drop_of_length-le, get_or-set_other, get_or-set_same, eq-eqb, ne_eqb}
use native.Mathlib.Decide.{ℕ_discrete}
use Rattle.weights.specs.Lineages.{one_if}
use Rattle.weights.specs.Subsets.{many, often, modulus}
use Rattle.weights.proofs.SumOfLists.{many_nil, many_cons, many_append, many_mapped}
use Rattle.weights.proofs.Shown.{ClearedTo, cleared_end}
use Rattle.sums.specs.Work.{Changed}

-- ---- how often a set stands in a list

-- in none
pub often_none : (x : ℕ) → often x [] ≡ 0
often_none x = many_nil (λ y. eqb x y)

-- in two together
pub often_both : (x : ℕ) (l k : List ℕ) → often x (l ++ k) ≡ often x l + often x k
often_both x l k = many_append (λ y. eqb x y) l k

-- in what a function makes of a list
pub often-map : (x : ℕ) (f : ℕ → ℕ) (l : List ℕ) → often x (map f l) ≡ many (λ y. eqb x (f y)) l
often-map x f l = many_mapped (λ y. eqb x y) f l

-- ---- one change

-- in a list of one set
pub often-own : (x y : ℕ) → y ≡ x → often y (x ∷ []) ≡ 1
often-own x y e = omega (arith, many_cons (λ z. eqb y z) x [], often_none y, ap one_if (eq-eqb y x e))

-- in a list of another
pub often_other : (x y : ℕ) → (y ≡ x → ⊥) → often y (x ∷ []) ≡ 0
often_other x y d = omega (arith, many_cons (λ z. eqb y z) x [], often_none y, ap one_if (ne_eqb y x d))

module _ (x : ℕ) (f : List ℕ) (l : x < length f) where
  -- one more at x
  pub with_more : {r : ℕ} → r ≡ (get_or f x 0 + 1) % modulus → Changed (x ∷ []) [] f (set f x r)
  with_more {r} e = record { same = length-set f x r; entries = λ y k. go y (ℕ_discrete y x) }
    where
      go : (y : ℕ) → Dec (y ≡ x) → (get_or (set f x r) y 0 + often y []) % modulus ≡ (get_or f y 0 + often y (x ∷ [])) % modulus
      go y (yes d) =
          omega (
            arith,
            often_none y,
            often-own x y d,
            ap (λ (i : ℕ). get_or (set f x r) i 0) d,
            get_or-set_same f x r 0 l,
            ap (λ (i : ℕ). get_or f i 0) d,
          )
      go y (no d) = omega (arith, often_none y, often_other x y d, get_or-set_other f x y r 0 d)

  -- one less
  pub one_less : (r : ℕ) → (r + 1) % modulus ≡ get_or f x 0 → Changed [] (x ∷ []) f (set f x r)
  one_less r e = record { same = length-set f x r; entries = λ y k. go y (ℕ_discrete y x) }
    where
      go : (y : ℕ) → Dec (y ≡ x) → (get_or (set f x r) y 0 + often y (x ∷ [])) % modulus ≡ (get_or f y 0 + often y []) % modulus
      go y (yes d) =
          omega (
            arith,
            often_none y,
            often-own x y d,
            ap (λ (i : ℕ). get_or (set f x r) i 0) d,
            get_or-set_same f x r 0 l,
            ap (λ (i : ℕ). get_or f i 0) d,
          )
      go y (no d) = omega (arith, often_none y, often_other x y d, get_or-set_other f x y r 0 d)

-- ---- several changes

-- none
pub changed_none : (f : List ℕ) → Changed [] [] f f
changed_none f = record { same = refl; entries = λ x l. refl }

-- what is the same modulo 2^32 stays so with a number added
pub same_more : (p q z : ℕ) → p % modulus ≡ q % modulus → (p + z) % modulus ≡ (q + z) % modulus
same_more p q z e = omega arith

joined :
    (a b c x y z w : ℕ) → (b + y) % modulus ≡ (a + x) % modulus → (c + w) % modulus ≡ (b + z) % modulus
    → (c + (y + w)) % modulus ≡ (a + (x + z)) % modulus
joined a b c x y z w e d =
    ap (λ (k : ℕ). k % modulus) first ∙ same_more (c + w) (b + z) y d ∙ ap (λ (k : ℕ). k % modulus) second ∙ same_more (b + y) (a + x) z e
    ∙ ap (λ (k : ℕ). k % modulus) third
  where
    first : c + (y + w) ≡ c + w + y
    first = omega arith

    second : b + z + y ≡ b + y + z
    second = omega arith

    third : a + x + z ≡ a + (x + z)
    third = omega arith

-- one after the other
pub changed_both : {p m q r f g h : List ℕ} → Changed p m f g → Changed q r g h → Changed (p ++ q) (m ++ r) f h
changed_both {p} {m} {q} {r} {f} {g} {h} c d = record {
  same = d.same ∙ c.same;
  entries = λ x l.
      rw (often_both x p q, often_both x m r)
      (joined (get_or f x 0) (get_or g x 0) (get_or h x 0) (often x p) (often x m) (often x q) (often x r) (c.entries x l) (d.entries x (omega (arith, c.same))));
}

-- lists that change as much
pub changed_as :
    {p m q r f g : List ℕ} → Changed p m f g → ((x : ℕ) → often x p + often x r ≡ often x q + often x m) → Changed q r f g
changed_as c e = record { same = c.same; entries = λ x l. omega (arith, c.entries x l, e x) }

-- ---- loops

-- the changes that are left give all
pub record ChangedTo (plus minus plus_left minus_left before now : List ℕ) : Type 0 where
  pub same : length now ≡ length before
  pub left : (after : List ℕ) → Changed plus_left minus_left now after → Changed plus minus before after

-- all are left
pub to_start : (plus minus f : List ℕ) → ChangedTo plus minus plus minus f f
to_start plus minus f = record { same = refl; left = λ after c. c }

module _ {plus minus plus_left minus_left before now : List ℕ} (t : ChangedTo plus minus plus_left minus_left before now) where
  -- some of them are made
  pub to_next :
      {p m q r next : List ℕ} → plus_left ≡ p ++ q → minus_left ≡ m ++ r → Changed p m now next → ChangedTo plus minus q r before next
  to_next {p} {m} {q} {r} {next} e d c = record {
    same = c.same ∙ t.same;
    left = λ after k.
        t.left after
        (subst (λ (a : List ℕ). Changed a minus_left now after) (sym e) (subst (λ (b : List ℕ). Changed (p ++ q) b now after) (sym d) (changed_both c k)));
  }

  -- none is left
  pub to_end : plus_left ≡ [] → minus_left ≡ [] → Changed plus minus before now
  to_end e d =
      t.left now
      (subst (λ (a : List ℕ). Changed a minus_left now now) (sym e) (subst (λ (b : List ℕ). Changed [] b now now) (sym d) (changed_none now)))

-- ---- cleared tables

-- where all entries are cleared there is nothing else
pub cleared_all :
    {before now : List ℕ} {entries a : ℕ} → ClearedTo before entries now a → entries ≡ length before → entries ≤ a → now ≡ replicate (length before) 0
cleared_all {before} {now} {entries} {a} t e l =
    cleared_end t (omega arith) l
    ∙ ap₂ (λ (n : ℕ) (k : List ℕ). replicate n 0 ++ k) e (drop_of_length-le before {i = entries} (omega arith))
    ∙ append-nil (replicate (length before) 0)
