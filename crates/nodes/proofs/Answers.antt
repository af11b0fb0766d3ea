-- What an answer that came by `and_then`, or from a text where nothing fits, says of the pieces it came from.
use Prim.Native.Nat.{ℕ}
use mathlib.Core.Path.{◌≡◌, refl}
use mathlib.Core.Logic.{◌⊎◌, inl, inr}
use mathlib.Core.List.{List, [], ◌∷◌}
use native.Mathlib.Omega.{arith}
use Rattle.tokens.specs.Answers.{Answer, and_then, unexpected}
use Rattle.tokens.specs.Answers.Answer.{parsed, refused}

-- a refusal is no reading
pub refused-parsed : {A : Type 0} {n q p : ℕ} {x : A} {s : List ℕ} → refused n q ≡ parsed x s p → ⊥
refused-parsed e = let z : ◌≡◌ {A = ℕ} 0 1 = cc in omega arith

pub parsed-refused : {A : Type 0} {n q p : ℕ} {x : A} {s : List ℕ} → parsed x s p ≡ refused n q → ⊥
parsed-refused e = let z : ◌≡◌ {A = ℕ} 0 1 = cc in omega arith

-- two readings are the same only if what was read is
pub parsed_same : {A : Type 0} {x y : A} {s t : List ℕ} {p q : ℕ} → parsed x s p ≡ parsed y t q → x ≡ y
parsed_same e = cc

-- the first piece read something, and the next answered on from there
pub record Reached {A B : Type 0} (a : Answer A) (f : A → List ℕ → ℕ → Answer B) (answer : Answer B) : Type 0 where
  pub value : A
  pub left : List ℕ
  pub place : ℕ
  pub first : a ≡ parsed value left place
  pub after : f value left place ≡ answer

pub and_then-parsed :
    {A B : Type 0} (a : Answer A) (f : A → List ℕ → ℕ → Answer B) {x : B} {s : List ℕ} {p : ℕ}
    → and_then a f ≡ parsed x s p → Reached a f (parsed x s p)
and_then-parsed (parsed y s p) f e = record { value = y; left = s; place = p; first = refl; after = e }
and_then-parsed (refused n q) f e = absurd (refused-parsed e)

pub and_then-refused :
    {A B : Type 0} (a : Answer A) (f : A → List ℕ → ℕ → Answer B) {n q : ℕ}
    → and_then a f ≡ refused n q → (a ≡ refused n q) ⊎ Reached a f (refused n q)
and_then-refused (parsed y s p) f e = inr (record { value = y; left = s; place = p; first = refl; after = e })
and_then-refused (refused m r) f e = inl (cc)

-- where nothing fits, nothing is read
pub unexpected-parsed : {A : Type 0} (s : List ℕ) (p : ℕ) {q : ℕ} {x : A} {rest : List ℕ} → unexpected s p ≡ parsed x rest q → ⊥
unexpected-parsed [] p e = refused-parsed e
unexpected-parsed (b ∷ s) p e = refused-parsed e

-- the refusal where nothing fits: 10 at the end of the text, 3 at a byte
pub record AtEnd (s : List ℕ) (p n q : ℕ) : Type 0 where
  pub ends : s ≡ []
  pub number : n ≡ 10
  pub place : q ≡ p

pub record AtByte (s : List ℕ) (p n q : ℕ) : Type 0 where
  pub byte : ℕ
  pub behind : List ℕ
  pub stands : s ≡ byte ∷ behind
  pub number : n ≡ 3
  pub place : q ≡ p

pub unexpected-refused :
    {A : Type 0} (s : List ℕ) (p : ℕ) {n q : ℕ} → ◌≡◌ {A = Answer A} (unexpected s p) (refused n q) → AtEnd s p n q ⊎ AtByte s p n q
unexpected-refused [] p e = inl (record { ends = refl; number = cc; place = cc })
unexpected-refused (b ∷ s) p e = inr (record { byte = b; behind = s; stands = refl; number = cc; place = cc })

-- pieces behind one another, bracketed either way
pub and_then-assoc :
    {A B C : Type 0} (a : Answer A) (f : A → List ℕ → ℕ → Answer B) (g : B → List ℕ → ℕ → Answer C)
    → and_then (and_then a f) g ≡ and_then a (λ x s p. and_then (f x s p) g)
and_then-assoc (parsed x s p) f g = refl
and_then-assoc (refused n q) f g = refl
