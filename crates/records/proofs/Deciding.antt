-- What decides a statement, and what a reply that decides one says.
use Prim.Native.Nat.{ℕ}
use mathlib.Core.Path.{◌≡◌, refl, sym, subst}
use mathlib.Core.Bool.{Bool, true, false, not, ◌&&◌, ◌||◌}
use mathlib.Core.List.Memᴰ
use mathlib.Core.List.{List, [], ◌∷◌}
use mathlib.Core.Logic.{⊎_elim}
use native.Mathlib.Numerals.{add-one}
use native.Mathlib.Omega.{arith}
use lib.Dec.{ltb}
use borrow.Author.Tests.{eqb-true, eqb-false, ltb-true, ltb-false}
use Rattle.std.specs.Prelude.{nat_eq}
use Rattle.std.specs.List.{list_any, list_all, IsAllAdjacentAnswer}
use Rattle.trees.specs.Decides.{Decides}
use Rattle.trees.specs.Lists.{Among, Rising}
use Rattle.trees.proofs.Form.{rising_of_steps, steps_of_rising}

-- true decides a statement that holds
pub decides_yes : {P : Type 0} (b : Bool) → b ≡ true → P → Decides b P
decides_yes {P} b e p = subst (λ (x : Bool). Decides x P) (sym e) p

-- false decides one that does not
pub decides_no : {P : Type 0} (b : Bool) → b ≡ false → (P → ⊥) → Decides b P
decides_no {P} b e p = subst (λ (x : Bool). Decides x P) (sym e) p

-- a test that is true and false as the statement decides it
pub decides_by : {P : Type 0} (b : Bool) → (b ≡ true → P) → (b ≡ false → P → ⊥) → Decides b P
decides_by true f g = f refl
decides_by false f g = g refl

-- what decides a statement decides another that holds exactly when it does
pub decides_also : {P Q : Type 0} (b : Bool) → (P → Q) → (Q → P) → Decides b P → Decides b Q
decides_also true f g d = f d
decides_also false f g d = λ q. d (g q)

-- the contrary of what decides a statement decides another that holds exactly when it does not
pub decides_unless : {P Q : Type 0} (b : Bool) → ((P → ⊥) → Q) → (Q → P → ⊥) → Decides b P → Decides (not b) Q
decides_unless true f g p = λ q. g q p
decides_unless false f g n = f n

-- two tests one after the other decide whether both statements hold
pub decides_both : (P Q : Type 0) (a b : Bool) → Decides a P → Decides b Q → Decides (a && b) (P × Q)
decides_both P Q true b p d = decides_also {P = Q} {Q = P × Q} b (λ q. (p, q)) (λ both. both.1) d
decides_both P Q false b n d = λ both. n both.0

-- ---- tests of the numbers of a list

-- looking for a number among them decides whether it stands there
pub decides_contains : (a : ℕ) (l : List ℕ) → Decides (list_any (λ y. nat_eq y a) l) (Among a l)
decides_contains a [] = λ m. Memᴰ.not-nil m
decides_contains a (x ∷ l) = here (nat_eq x a) refl (decides_contains a l)
  where
    here : (t : Bool) → nat_eq x a ≡ t → Decides (list_any (λ y. nat_eq y a) l) (Among a l) → Decides (t || list_any (λ y. nat_eq y a) l) (Among a (x ∷ l))
    here true e d = Memᴰ.head (sym (eqb-true x a e))
    here false e d =
        decides_also (list_any (λ y. nat_eq y a) l) (λ m. Memᴰ.tail m) (λ m. ⊎_elim (λ same. absurd (eqb-false x a e (sym same))) (λ k. k) (Memᴰ.cases_cons m)) d

-- a test of all of them decides whether what it decides of one holds of each
pub decides_all : (P : ℕ → Type 0) (test : ℕ → Bool) → ((x : ℕ) → Decides (test x) (P x)) → (l : List ℕ) → Decides (list_all test l) ((x : ℕ) → Among x l → P x)
decides_all P test each [] = λ x m. absurd (Memᴰ.not-nil m)
decides_all P test each (x ∷ l) = here (test x) (each x) (decides_all P test each l)
  where
    here : (t : Bool) → Decides t (P x) → Decides (list_all test l) ((y : ℕ) → Among y l → P y) → Decides (t && list_all test l) ((y : ℕ) → Among y (x ∷ l) → P y)
    here true p d =
        decides_also (list_all test l) (λ f y m. ⊎_elim (λ same. subst P (sym same) p) (λ k. f y k) (Memᴰ.cases_cons m)) (λ f y m. f y (Memᴰ.tail m)) d
    here false n d = λ f. n (f x (Memᴰ.head refl))

-- a test of each of them with the next decides whether they rise
pub decides_rising : (l : List ℕ) (r : Bool) → IsAllAdjacentAnswer (λ x y b. b ≡ ltb x y) l r → Decides r (Rising l)
decides_rising l true less = rising_of_steps l (λ k more. ltb-true _ _ (sym (rw add-one at (less k 0 (omega arith)))))
decides_rising l false met = λ rises.
    let more = met.1 in
    let less = steps_of_rising l rises met.0 (omega arith) in
    let not_less = ltb-false _ _ (sym (rw add-one at (met.2 0))) in
    omega arith
