-- Supports and the threshold: what judging changes, and how thresholds compare.
use Prim.Native.Nat.{ℕ, ◌≤◌}
use native.Mathlib.Omega.{arith}
use mathlib.Core.Path.{◌≡◌, refl, ◌∙◌}
use mathlib.Core.Bool.{Bool, true, false}
use mathlib.Core.List.{List, []}
use borrow.Author.Tests.{ltb-true, lt-ltb, le-ltb}
use Rattle.labels.specs.Bytes.{run}
use Rattle.trees.specs.Tree.{Behind}
use Rattle.tokens.specs.Answers.{Answer, and_then}
use Rattle.tokens.specs.Answers.Answer.{parsed, refused}
use Rattle.tokens.specs.Tokens.{numbers}
use Rattle.tokens.specs.Values.{Value, leading, decimals, too_fine}
use Rattle.tokens.specs.Supports.{refuses_fine, unless_fine, supported, below}
use Rattle.std.proofs.Common.{None, Some}

-- "without a threshold nothing changes" (#113)
pub supported_none : (w s : List ℕ) (p : ℕ) → supported false w s p ≡ numbers w s p
unfolding supported
supported_none w s p = by_answer (numbers w s p)
  where
    by_answer : (a : Answer Behind) → and_then a (λ b s p. unless_fine (refuses_fine false b.support) b s p) ≡ a
    by_answer (parsed b s p) = refl
    by_answer (refused n q) = refl

-- no bytes are too fine
pub none_fine : (given : Bool) → refuses_fine given [] ≡ false
unfolding too_fine decimals leading run
none_fine false = refl
none_fine true = refl

-- what is parsed, its support judged
pub record Judged (given : Bool) (w s : List ℕ) (p : ℕ) (b : Behind) (rest : List ℕ) (q : ℕ) : Type 0 where
  pub numbers_are : numbers w s p ≡ parsed b rest q
  pub not_fine : refuses_fine given b.support ≡ false

module _ (given : Bool) (w s : List ℕ) (p : ℕ) {b : Behind} {rest : List ℕ} {q : ℕ} where
  -- what is read with its support judged are numbers whose support is not too fine
  pub supported-parsed : supported given w s p ≡ parsed b rest q → Judged given w s p b rest q
  unfolding supported
  supported-parsed h = by_answer (numbers w s p) refl h
    where
      by_fine :
          (c : Behind) (m : List ℕ) (r : ℕ) (fine : Bool) → refuses_fine given c.support ≡ fine → numbers w s p ≡ parsed c m r
          → unless_fine fine c m r ≡ parsed b rest q → Judged given w s p b rest q
      by_fine c m r true is e k = absurd (let z : ◌≡◌ {A = ℕ} 0 1 = cc in omega arith)
      by_fine c m r false is e k = let same : c ≡ b = cc in record { numbers_are = e ∙ k; not_fine = rw same at is }

      by_answer :
          (a : Answer Behind) → numbers w s p ≡ a → and_then a (λ b s p. unless_fine (refuses_fine given b.support) b s p) ≡ parsed b rest q
          → Judged given w s p b rest q
      by_answer (parsed c m r) e k = by_fine c m r (refuses_fine given c.support) refl e k
      by_answer (refused n r) e k = absurd (let z : ◌≡◌ {A = ℕ} 0 1 = cc in omega arith)

-- a value below one threshold is below every higher one
pub below_higher : (m n : ℕ) (v : Value) → m ≤ n → below (Some m) v ≡ true → below (Some n) v ≡ true
below_higher m n (Some k) h is = let l = ltb-true k m is in lt-ltb k n (omega arith)
below_higher m n None h is = is

-- no value is below 0
pub below-zero : (v : Value) → below (Some 0) v ≡ false
below-zero (Some k) = le-ltb k 0 (omega arith)
below-zero None = refl
