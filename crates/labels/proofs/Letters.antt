-- The letters of a label: the one at the front, where they end, and that they are printable.
use Prim.Native.Nat.{ℕ}
use native.Mathlib.Omega.{arith}
use mathlib.Core.Path.{◌≡◌, refl, sym, ap, ◌∙◌}
use mathlib.Core.Bool.{Bool, true, false}
use mathlib.Core.List.{List, [], ◌∷◌, map, tail}
use lib.Dec.{eqb}
use borrow.Author.Tests.{eqb-true}
use Rattle.labels.specs.Bytes.{is_bare, is_printable, is_plain, next_is}
use Rattle.labels.specs.Spelling.{blank_for, unwritten}
use Rattle.labels.specs.Labels.{bare_letters, letters_from, plain_by, half_by, letters, letters_by}
use Rattle.labels.specs.Writing.{Printable}
use Rattle.labels.proofs.ByteKinds.{bare-printable, plain-printable}
use Rattle.labels.proofs.Bytewise.{All, all_at}
use Rattle.labels.proofs.Bytewise.All.{no_byte, a_byte}
use Rattle.labels.proofs.RunRules.{run-bytes}

-- the front of s is the letter b, and v are the letters behind it
pub data Front (s : List ℕ) (b : ℕ) (v : List ℕ) : Type 0 where
  plainly : (t : List ℕ) → s ≡ b ∷ t → is_plain b ≡ true → letters_from false t ≡ v → Front s b v
  twice : (t : List ℕ) → s ≡ 39 ∷ 39 ∷ t → b ≡ 39 → letters_from false t ≡ v → Front s b v

pub front : (s : List ℕ) (b : ℕ) (v : List ℕ) → letters_from false s ≡ b ∷ v → Front s b v
unfolding letters_from
front [] b v e = let z : ◌≡◌ {A = ℕ} 0 1 = cc in absurd (omega arith)
front (c ∷ s) b v e = by (is_plain c) (eqb c 39) refl refl s e
  where
    by : (plain quote : Bool) → is_plain c ≡ plain → eqb c 39 ≡ quote → (s : List ℕ) → plain_by plain quote c (letters_from false s) (letters_from true s) ≡ b ∷ v
        → Front (c ∷ s) b v
    by true quote p q s e = let same : c ≡ b = cc in plainly s (cc) (ap is_plain (sym same) ∙ p) (cc)
    by false true p q [] e = let z : ◌≡◌ {A = ℕ} 0 1 = cc in absurd (omega arith)
    by false true p q (d ∷ s) e = pair (eqb d 39) refl e
      where
        pair : (t : Bool) → eqb d 39 ≡ t → half_by t (letters_from false s) ≡ b ∷ v → Front (c ∷ d ∷ s) b v
        pair true r e = let first = eqb-true c 39 q in let second = eqb-true d 39 r in twice s (cc) (cc) (cc)
        pair false r e = let z : ◌≡◌ {A = ℕ} 0 1 = cc in absurd (omega arith)
    by false false p q s e = let z : ◌≡◌ {A = ℕ} 0 1 = cc in absurd (omega arith)

-- where the letters are over, no byte that stands for itself follows, nor a quote written twice
pub over_plain : (b : ℕ) (t : List ℕ) → letters_from false (b ∷ t) ≡ [] → is_plain b ≡ false
unfolding letters_from
over_plain b t = by (is_plain b)
  where
    by : (plain : Bool) → plain_by plain (eqb b 39) b (letters_from false t) (letters_from true t) ≡ [] → plain ≡ false
    by true e = let z : ◌≡◌ {A = ℕ} 0 1 = cc in absurd (omega arith)
    by false e = refl

pub over_single : (t : List ℕ) → letters_from false (39 ∷ t) ≡ [] → next_is 39 t ≡ false
unfolding letters_from next_is
over_single [] e = refl
over_single (c ∷ t) e = by (eqb c 39) e
  where
    by : (quote : Bool) → half_by quote (letters_from false t) ≡ [] → quote ≡ false
    by true e = let z : ◌≡◌ {A = ℕ} 0 1 = cc in absurd (omega arith)
    by false e = refl

-- ---- letters are printable

pub letters_from_printable : (half : Bool) (s : List ℕ) → All is_printable (letters_from half s)
unfolding letters_from
letters_from_printable half [] = no_byte
letters_from_printable false (b ∷ s) = by (is_plain b) (eqb b 39) refl (letters_from_printable false s) (letters_from_printable true s)
  where
    by : (plain quote : Bool) → is_plain b ≡ plain → All is_printable (letters_from false s) → All is_printable (letters_from true s)
        → All is_printable (plain_by plain quote b (letters_from false s) (letters_from true s))
    by true quote e more half = a_byte (plain-printable b e) more
    by false true e more half = half
    by false false e more half = no_byte
letters_from_printable true (b ∷ s) = by (eqb b 39) (letters_from_printable false s)
  where
    by : (quote : Bool) → All is_printable (letters_from false s) → All is_printable (half_by quote (letters_from false s))
    by true more = a_byte refl more
    by false more = no_byte

-- what a byte of a bare label stands for is printable
unwritten-printable : (b : ℕ) → is_bare b ≡ true → is_printable (unwritten b) ≡ true
unwritten-printable b e = by (eqb b 95)
  where
    by : (t : Bool) → is_printable (blank_for t b) ≡ true
    by true = refl
    by false = bare-printable b e

pub all_unwritten : {v : List ℕ} → All is_bare v → All is_printable (map unwritten v)
all_unwritten no_byte = no_byte
all_unwritten (a_byte {b = b} is all) = a_byte (unwritten-printable b is) (all_unwritten all)

letters_all_printable : (s : List ℕ) → All is_printable (letters s)
unfolding letters bare_letters
letters_all_printable s = by (next_is 39 s)
  where
    by : (t : Bool) → All is_printable (letters_by t s)
    by true = letters_from_printable false (tail s)
    by false = all_unwritten (run-bytes is_bare s)

pub letters-printable : (s : List ℕ) → Printable (letters s)
letters-printable s = all_at (letters_all_printable s)
