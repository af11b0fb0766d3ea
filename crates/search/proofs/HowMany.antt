-- How many there are of a kind: by lists that have each of them once.
use Prim.Native.Nat.{ℕ, suc, ◌≤◌}
use mathlib.Core.Path.{◌≡◌, refl, sym, ap, ◌∙◌}
use mathlib.Core.Logic.{◌⊎◌, inl, inr, ◌↔◌}
use mathlib.Core.List.Memᴰ
use mathlib.Core.List.Memᴰ.{head as here}
use mathlib.Core.List.Memᴰ.{tail as there}
use mathlib.Core.List.{List, [], ◌∷◌, map, Memᴰ}
use native.Mathlib.Omega.{arith}
use lib.ListN.{length}
use Rattle.splits.specs.Order.{Ordered}
use Rattle.splits.proofs.Membership.{among-map}
use Rattle.search.specs.LeastAmong.{AllOf, NumberOf}

-- ---- lists without doubles

module _ {A : Type 0} where
  -- a list without one of its members: all others are there
  without_one : {x : A} (k : List A) → Memᴰ x k
      → (rest : List A) × (suc (length rest) ≡ length k) × ((y : A) → (x ≡ y → ⊥) → Memᴰ y k → Memᴰ y rest)
  without_one [] m = absurd (Memᴰ.not-nil m)
  without_one {x} (z ∷ k) m = go (Memᴰ.cases_cons m) (λ n. without_one k n)
    where
      go : (x ≡ z) ⊎ Memᴰ x k
          → (Memᴰ x k → (rest : List A) × (suc (length rest) ≡ length k) × ((y : A) → (x ≡ y → ⊥) → Memᴰ y k → Memᴰ y rest))
          → (rest : List A) × (suc (length rest) ≡ length (z ∷ k)) × ((y : A) → (x ≡ y → ⊥) → Memᴰ y (z ∷ k) → Memᴰ y rest)
      go (inl e) ih = (k, refl, λ y f n. behind y f (Memᴰ.cases_cons n))
        where
          behind : (y : A) → (x ≡ y → ⊥) → (y ≡ z) ⊎ Memᴰ y k → Memᴰ y k
          behind y f (inl d) = absurd (f (e ∙ sym d))
          behind y f (inr n) = n
      go (inr n) ih = (z ∷ (ih n).0, ap suc (ih n).1, λ y f i. kept y f (Memᴰ.cases_cons i))
        where
          kept : (y : A) → (x ≡ y → ⊥) → (y ≡ z) ⊎ Memᴰ y k → Memᴰ y (z ∷ (ih n).0)
          kept y f (inl d) = here d
          kept y f (inr i) = there ((ih n).2 y f i)

  -- a list without doubles is no longer than one that has all of it
  once-le : (l k : List A) → Ordered (λ (x y : A). x ≡ y → ⊥) l → ((x : A) → Memᴰ x l → Memᴰ x k) → length l ≤ length k
  unfolding Ordered
  once-le [] k once h = omega arith
  once-le (x ∷ l) k once h =
      let o = without_one k (h x (here refl)) in
      omega (arith, o.1, once-le l o.0 once.1 (λ y m. o.2 y (once.0 y m) (h y (there m))))

-- a list that has something has a member
pub some_member : {A : Type 0} (l : List A) → 1 ≤ length l → (x : A) × Memᴰ x l
some_member [] h = absurd (omega arith)
some_member (x ∷ l) h = (x, here refl)

-- all members of a list of one are the same
same_member : {A : Type 0} {x y : A} (l : List A) → length l ≡ 1 → Memᴰ x l → Memᴰ y l → y ≡ x
same_member [] e m n = absurd (omega arith)
same_member (z ∷ []) e m n = Memᴰ.eq_of_singleton n ∙ sym (Memᴰ.eq_of_singleton m)
same_member (z ∷ v ∷ l) e m n = absurd (omega arith)

-- no doubles where no two are sent to the same one
pub once-map : {A B : Type 0} (f : A → B) (l : List A) → ((x y : A) → Memᴰ x l → Memᴰ y l → f x ≡ f y → x ≡ y)
    → Ordered (λ (x y : A). x ≡ y → ⊥) l → Ordered (λ (x y : B). x ≡ y → ⊥) (map f l)
unfolding Ordered
once-map f [] same once = tt
once-map f (x ∷ l) same once = (
  λ y m e. let k = among-map f l m in once.0 k.0 k.1 (same x k.0 (here refl) (there k.1) (e ∙ k.2)),
  once-map f l (λ y z m n. same y z (there m) (there n)) once.1,
)

-- ---- numbers of a kind

module _ {A : Type 0} {Kind Other : A → Type 0} where
  -- where each of the one kind is of the other, there are no fewer of the other
  pub number-le : {m k : ℕ} → NumberOf Kind m → NumberOf Other k → ((x : A) → Kind x → Other x) → m ≤ k
  number-le p q h =
      let e = p.is in
      let d = q.is in
      omega (arith, once-le p.list q.list p.all.once (λ x m. q.all.every x (h x (p.all.only x m))))

  -- of kinds that have the same members there are as many
  pub number_same : {m : ℕ} → NumberOf Kind m → ((x : A) → Kind x → Other x) → ((x : A) → Other x → Kind x) → NumberOf Other m
  number_same p h back = record {
    list = p.list;
    all = record { only = λ x m. h x (p.all.only x m); every = λ x o. p.all.every x (back x o); once = p.all.once };
    is = p.is;
  }

module _ {A : Type 0} {Kind : A → Type 0} {m : ℕ} (p : NumberOf Kind m) where
  -- every list of all of a kind is that long
  pub number_is : (l : List A) → AllOf Kind l → length l ≡ m
  number_is l all =
      let other : NumberOf Kind (length l) = record { list = l; all = all; is = refl } in
      omega (arith, number-le other p (λ x k. k), number-le p other (λ x k. k))

  -- there is one of a kind exactly where the number is at least 1
  pub number_some : (1 ≤ m) ↔ ((x : A) × Kind x)
  number_some = (
    λ h. let e = p.is in let x = some_member p.list (omega arith) in (x.0, p.all.only x.0 x.1),
    λ k. let e = p.is in go p.list (p.all.every k.0 k.1) e,
  )
    where
      go : {x : A} (l : List A) → Memᴰ x l → length l ≡ m → 1 ≤ m
      go [] n e = absurd (Memᴰ.not-nil n)
      go (y ∷ l) n e = omega arith

  -- one of a kind is the only one exactly where the number is 1
  pub number_one : {x : A} → Kind x → (m ≡ 1) ↔ ((y : A) → Kind y → y ≡ x)
  unfolding Ordered
  number_one {x} k = (
    λ e y j. same_member p.list (p.is ∙ e) (p.all.every x k) (p.all.every y j),
    λ alone. omega (arith, number-le p just_one alone, number_some.1 (x, k)),
  )
    where
      just_one : NumberOf (λ y. y ≡ x) 1
      just_one = record {
        list = x ∷ [];
        all = record { only = λ y n. Memᴰ.eq_of_singleton n; every = λ y e. here e; once = (λ y n. absurd (Memᴰ.not-nil n), tt) };
        is = refl;
      }
