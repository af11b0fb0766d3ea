-- Sets of individuals as lists and as numbers: what is in the set of a list, and the sets of lists that part the individuals.
use Prim.Native.Nat.{ℕ, zero, suc, ◌≤◌, ◌<◌}
use native.Mathlib.Nat.{not-suc-le-zero, le_of_suc-le-suc}
use native.Mathlib.Decide.{dec_lt}
use native.Mathlib.Omega.{arith}
use mathlib.Core.Path.{◌≡◌, refl, sym, ap, subst, ◌∙◌}
use mathlib.Core.Logic.{◌⊎◌, inl, inr}
use mathlib.Core.Bool.{Bool, true, false}
use mathlib.Core.List.Memᴰ
use mathlib.Core.List.{List, [], ◌∷◌, ◌++◌, map, flatten, Memᴰ}
use mathlib.Core.List.Memᴰ.{head as here}
use mathlib.Core.List.Memᴰ.{tail as there}
use lib.ListN.{length, get_or, length-map, get_or-map}
use Rattle.clusters.specs.Sets.{Has, Apart, whole, single, union, apart}
use Rattle.clusters.proofs.Members.{has-union, union-has_left, union-has_right, has-zero, single-has, has-single, has_whole, whole_has, same_members, apart_of_has}
use Rattle.clusters.proofs.Sets.{union-zero, union_assoc, zero-union, single-apart, apart-single, apart-true, apart-false, apart-sym, single_some, union_some_left}
use Rattle.trees.specs.Lists.{Among, NoneTwice}
use Rattle.trees.specs.Valid.{among}
use Rattle.trees.proofs.Booleans.{unless, never_both}
use Rattle.trees.proofs.Listing.{none_twice_right, none_twice_parts}
use Rattle.trees.proofs.ValidTest.{tells_among}
use Rattle.mapping.specs.Groups.{union_of, set_of, Parted}

-- ---- the set of a list

pub set_none : set_of [] ≡ 0
unfolding set_of union_of
set_none = refl

set_front : (j : ℕ) (l : List ℕ) → set_of (j ∷ l) ≡ union (single j) (set_of l)
unfolding set_of union_of
set_front j l = refl

-- it has what stands in the list, and nothing else
pub has-set : (l : List ℕ) (j : ℕ) → Has (set_of l) j → Among j l
has-set [] j h = absurd (has-zero j (subst (λ (x : ℕ). Has x j) set_none h))
has-set (i ∷ l) j h = by (has-union (single i) (set_of l) j (subst (λ (x : ℕ). Has x j) (set_front i l) h)) (λ k. has-set l j k)
  where
    by : Has (single i) j ⊎ Has (set_of l) j → (Has (set_of l) j → Among j l) → Among j (i ∷ l)
    by (inl k) later = here (sym (has-single i j k))
    by (inr k) later = there (later k)

pub set-has : (l : List ℕ) (j : ℕ) → Among j l → Has (set_of l) j
set-has [] j h = absurd (Memᴰ.not-nil h)
set-has (i ∷ l) j h = subst (λ (x : ℕ). Has x j) (sym (set_front i l)) (by (Memᴰ.cases_cons h) (λ k. set-has l j k))
  where
    by : (j ≡ i) ⊎ Among j l → (Among j l → Has (set_of l) j) → Has (union (single i) (set_of l)) j
    by (inl e) later = union-has_left (single i) (set_of l) j (subst (Has (single i)) (sym e) (single-has i))
    by (inr k) later = union-has_right (single i) (set_of l) j (later k)

-- lists one behind the other
set_append : (l k : List ℕ) → set_of (l ++ k) ≡ union (set_of l) (set_of k)
set_append [] k = sym (zero-union (set_of k)) ∙ ap (λ (x : ℕ). union x (set_of k)) (sym set_none)
set_append (i ∷ l) k =
    set_front i (l ++ k) ∙ ap (union (single i)) (set_append l k) ∙ sym (union_assoc (single i) (set_of l) (set_of k)) ∙ ap (λ (x : ℕ). union x (set_of k)) (sym (set_front i l))

set_one : (j : ℕ) → set_of (j ∷ []) ≡ single j
set_one j = set_front j [] ∙ ap (union (single j)) set_none ∙ union-zero (single j)

pub set_more : (l : List ℕ) (j : ℕ) → set_of (l ++ (j ∷ [])) ≡ union (set_of l) (single j)
set_more l j = set_append l (j ∷ []) ∙ ap (union (set_of l)) (set_one j)

-- the test of a number for whether it stands in the list, and the test of its set
pub apart-new : (l : List ℕ) (j : ℕ) → apart (single j) (set_of l) ≡ true → among j l ≡ false
apart-new l j e = unless (among j l) (λ f. apart-single (set_of l) j (apart-true (single j) (set_of l) e) (set-has l j ((tells_among j l).holds f)))

pub met-again : (l : List ℕ) (j : ℕ) → apart (single j) (set_of l) ≡ false → among j l ≡ true
met-again l j e = by (among j l) refl
  where
    by : (t : Bool) → among j l ≡ t → t ≡ true
    by true f = refl
    by false f =
        absurd (apart-false (single j) (set_of l) e (single-apart (set_of l) j (λ h. never_both (among j l) ((tells_among j l).told (has-set l j h)) f)))

-- it is the whole set exactly where the list has all individuals, and none but them
pub set_whole : (m : ℕ) (l : List ℕ) → ((j : ℕ) → Among j l → j < m) → ((j : ℕ) → j < m → Among j l) → set_of l ≡ whole m
set_whole m l known all =
    same_members (set_of l) (whole m) (λ j h. whole_has m j (known j (has-set l j h))) (λ j h. set-has l j (all j (has_whole m j h)))

pub whole_all : (m : ℕ) (l : List ℕ) → set_of l ≡ whole m → (j : ℕ) → j < m → Among j l
whole_all m l e j h = has-set l j (subst (λ (x : ℕ). Has x j) (sym e) (whole_has m j h))

-- ---- lists that part the individuals

-- the sets of the lists together are the set of all that stands in them
sets-together : (lists : List (List ℕ)) → union_of (map set_of lists) ≡ set_of (flatten lists)
unfolding union_of flatten
sets-together [] = sym set_none
sets-together (l ∷ lists) = ap (union (set_of l)) (sets-together lists) ∙ sym (set_append l (flatten lists))

-- what stands in one of the lists stands in all of them together
in_flatten : (lists : List (List ℕ)) (i x : ℕ) → i < length lists → Among x (get_or lists i []) → Among x (flatten lists)
unfolding flatten
in_flatten [] i x h m = absurd (not-suc-le-zero h)
in_flatten (l ∷ lists) zero x h m = Memᴰ.append_left (flatten lists) m
in_flatten (l ∷ lists) (suc i) x h m = Memᴰ.append_right l (in_flatten lists i x (le_of_suc-le-suc h) m)

-- where nothing stands twice in all together, no two of them share anything
lists-apart : (lists : List (List ℕ)) → NoneTwice (flatten lists) → (i j : ℕ) → i < j → j < length lists → (x : ℕ) → Among x (get_or lists i []) → Among x (get_or lists j []) → ⊥
unfolding flatten
lists-apart [] once i j l h x m k = absurd (not-suc-le-zero h)
lists-apart (f ∷ lists) once i zero l h x m k = absurd (not-suc-le-zero l)
lists-apart (f ∷ lists) once zero (suc j) l h x m k = none_twice_parts f (flatten lists) once x m (in_flatten lists j x (le_of_suc-le-suc h) k)
lists-apart (f ∷ lists) once (suc i) (suc j) l h x m k =
    lists-apart lists (none_twice_right f (flatten lists) once) i j (le_of_suc-le-suc l) (le_of_suc-le-suc h) x m k

-- lists of which none is empty, with each of m individuals in one of them and once, part the individuals
module _ (m : ℕ) (lists : List (List ℕ)) (once : NoneTwice (flatten lists)) (all : (j : ℕ) → j < m → Among j (flatten lists))
    (known : (j : ℕ) → Among j (flatten lists) → j < m) (each : (l : List ℕ) → Memᴰ l lists → 1 ≤ length l) where
  set_some : (l : List ℕ) → 1 ≤ length l → 1 ≤ set_of l
  set_some [] h = absurd (not-suc-le-zero h)
  set_some (j ∷ l) h = rw (set_front j l) (union_some_left (set_of l) (single_some j))

  sets-apart : (i j : ℕ) → i < j → j < length lists → Apart (set_of (get_or lists i [])) (set_of (get_or lists j []))
  sets-apart i j l h =
      apart_of_has (set_of (get_or lists i [])) (set_of (get_or lists j [])) (λ x m k.
      lists-apart lists once i j l h x (has-set (get_or lists i []) x m) (has-set (get_or lists j []) x k))

  entry : (i : ℕ) → get_or (map set_of lists) i 0 ≡ set_of (get_or lists i [])
  entry i = ap (get_or (map set_of lists) i) (sym set_none) ∙ get_or-map set_of lists i []

  pub lists-part : Parted m (map set_of lists)
  lists-part =
      record {
        each_some = λ g h. let k = Memᴰ.of_map set_of lists h in subst (λ (x : ℕ). 1 ≤ x) k.2 (set_some k.0 (each k.0 k.1));
        apart_two = λ i j a b n. rw (entry i, entry j) (by i j (rw length-map at a) (rw length-map at b) n (dec_lt i j));
        together = sets-together lists ∙ set_whole m (flatten lists) known all;
      }
    where
      by : (i j : ℕ) → i < length lists → j < length lists → (i ≡ j → ⊥) → Dec (i < j) → Apart (set_of (get_or lists i [])) (set_of (get_or lists j []))
      by i j a b n (yes l) = sets-apart i j l b
      by i j a b n (no o) = apart-sym (set_of (get_or lists j [])) (set_of (get_or lists i [])) (sets-apart j i (omega (arith, n)) a)
