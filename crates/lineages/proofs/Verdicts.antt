-- What the tests of the calls say: the first fault decides, and a call that passes the first tests is judged by the rest.
use Prim.Native.Nat.{ℕ, suc, ◌*◌, ◌≤◌, ◌<◌}
use mathlib.Core.Path.{◌≡◌, refl, sym, ap, ◌∙◌}
use mathlib.Core.Bool.{Bool, true, false}
use mathlib.Core.List.{List, [], ◌∷◌, ◌++◌}
use mathlib.Core.Logic.{◌⊎◌, inl, inr}
use native.Mathlib.Decide.{dec_lt}
use native.Mathlib.Omega.{arith}
use lib.ListN.{length}
use borrow.Author.Tests.{lt-ltb, le-ltb, le-leb, lt-leb}
use Rattle.faults.specs.Faults.{number as fault_number}
use Rattle.faults.specs.declared.Fault.{Fault}
use Rattle.faults.specs.declared.Refusal.{Refusal}
use Rattle.roster.specs.Verdict.{Test, Verdict, verdict_by, verdict, length_test}
use Rattle.roster.proofs.Refusals.{number-some}
use Rattle.lineages.specs.Checks.{species_test, count_test}
use Rattle.lineages.specs.InOrder.{Shaped}
use Rattle.lineages.specs.Work.{shape_tests, said}

-- ---- the first fault

-- what the first tests refuse, all of them refuse
pub verdict_first : (l k : List Test) {number place : ℕ} → verdict l ≡ said number place → (number ≡ 0 → ⊥) → verdict (l ++ k) ≡ said number place
unfolding verdict
verdict_first [] k e f = absurd (f (sym (ap (λ (v : Verdict). v.number) e)))
verdict_first (t ∷ l) k {number} {place} e f = go t.fault e (λ h. verdict_first l k h f)
  where
    go :
        (b : Bool) → verdict_by b t (verdict l) ≡ said number place → (verdict l ≡ said number place → verdict (l ++ k) ≡ said number place)
        → verdict_by b t (verdict (l ++ k)) ≡ said number place
    go true h ih = h
    go false h ih = ih h

-- ---- a list of tests passes when each does

pub verdict-passed : (t : Test) (l : List Test) → (t.number ≡ 0 → ⊥) → (verdict (t ∷ l)).number ≡ 0 → (t.fault ≡ false) × ((verdict l).number ≡ 0)
unfolding verdict
verdict-passed t l f e = go t.fault e
  where
    go : (b : Bool) → (verdict_by b t (verdict l)).number ≡ 0 → (b ≡ false) × ((verdict l).number ≡ 0)
    go true e = absurd (f e)
    go false e = (refl, e)

-- a number that no test has is never given
unfoldable pub NoneGives : ℕ → List Test → Type 0
NoneGives m [] = Unit {0}
NoneGives m (t ∷ l) = (t.number ≡ m → ⊥) × NoneGives m l

pub verdict-never : (m : ℕ) (l : List Test) → (0 ≡ m → ⊥) → NoneGives m l → (verdict l).number ≡ m → ⊥
unfolding verdict NoneGives
verdict-never m [] z n e = z e
verdict-never m (t ∷ l) z n e = go t.fault e (λ k. verdict-never m l z n.1 k)
  where
    go : (b : Bool) → (verdict_by b t (verdict l)).number ≡ m → ((verdict l).number ≡ m → ⊥) → ⊥
    go true e ih = n.0 e
    go false e ih = ih e

-- where the first tests find nothing, the others decide
pub verdict-rest : (l k : List Test) → NoneGives 0 l → (verdict l).number ≡ 0 → verdict (l ++ k) ≡ verdict k
unfolding verdict NoneGives
verdict-rest [] k n e = refl
verdict-rest (t ∷ l) k n e = go t.fault e (λ h. verdict-rest l k n.1 h)
  where
    go : (b : Bool) → (verdict_by b t (verdict l)).number ≡ 0 → ((verdict l).number ≡ 0 → verdict (l ++ k) ≡ verdict k) → verdict_by b t (verdict (l ++ k)) ≡ verdict k
    go true e ih = absurd (n.0 e)
    go false e ih = ih e

-- ---- what a part of a call says by its result

-- no fault has the number 0
pub numbered : (f : Fault) → fault_number f ≡ 0 → ⊥
numbered f e = let some = number-some f in omega arith

-- what a part refuses by the first tests, the call refuses
pub refused_first : (l k : List Test) (e : Refusal) → said (fault_number e.fault) e.place ≡ verdict l → verdict (l ++ k) ≡ said (fault_number e.fault) e.place
refused_first l k e told = verdict_first l k (sym told) (numbered e.fault)

-- and where it refuses nothing, the others decide
pub passed_first : (l k : List Test) → NoneGives 0 l → said 0 0 ≡ verdict l → verdict (l ++ k) ≡ verdict k
passed_first l k none told = verdict-rest l k none (ap (λ (v : Verdict). v.number) (sym told))

-- two lists of tests pass together where each does
pub verdict_both : (l k : List Test) → NoneGives 0 l → (verdict (l ++ k)).number ≡ 0 → ((verdict l).number ≡ 0) × ((verdict k).number ≡ 0)
unfolding verdict NoneGives
verdict_both [] k n e = (refl, e)
verdict_both (t ∷ l) k n e = go t.fault e (λ h. verdict_both l k n.1 h)
  where
    go :
        (b : Bool) → (verdict_by b t (verdict (l ++ k))).number ≡ 0 → ((verdict (l ++ k)).number ≡ 0 → ((verdict l).number ≡ 0) × ((verdict k).number ≡ 0))
        → ((verdict_by b t (verdict l)).number ≡ 0) × ((verdict k).number ≡ 0)
    go true e ih = absurd (n.0 e)
    go false e ih = ih e

-- ---- 1, 11 and 12

module _ (n : ℕ) (genes : List ℕ) (count : ℕ) where
  pub no_species : n < 1 → verdict (shape_tests n genes count) ≡ said 1 0
  unfolding verdict shape_tests species_test
  no_species h = rw (lt-leb 1 n h)

  pub many_species : 16 < n → verdict (shape_tests n genes count) ≡ said 1 0
  unfolding verdict shape_tests species_test
  many_species h = rw (le-leb 1 n (omega arith), lt-leb n 16 h)

  pub wrong_species : (n < 1) ⊎ ((1 ≤ n) × (16 < n)) → verdict (shape_tests n genes count) ≡ said 1 0
  wrong_species (inl h) = no_species h
  wrong_species (inr h) = many_species h.1

  pub no_genes : 1 ≤ n → n ≤ 16 → count < 1 → verdict (shape_tests n genes count) ≡ said 11 0
  unfolding verdict shape_tests species_test count_test
  no_genes p q h = rw (le-leb 1 n p, le-leb n 16 q, lt-leb 1 count h)

  pub many_genes : 1 ≤ n → n ≤ 16 → 4096 < count → verdict (shape_tests n genes count) ≡ said 11 0
  unfolding verdict shape_tests species_test count_test
  many_genes p q h = rw (le-leb 1 n p, le-leb n 16 q, le-leb 1 count (omega arith), lt-leb count 4096 h)

  pub wrong_genes : 1 ≤ n → n ≤ 16 → (count < 1) ⊎ ((1 ≤ count) × (4096 < count)) → verdict (shape_tests n genes count) ≡ said 11 0
  wrong_genes p q (inl h) = no_genes p q h
  wrong_genes p q (inr h) = many_genes p q h.1

  pub too_short : 1 ≤ n → n ≤ 16 → 1 ≤ count → count ≤ 4096 → length genes < 32 * count → verdict (shape_tests n genes count) ≡ said 12 0
  unfolding verdict shape_tests species_test count_test length_test
  too_short p q u v h = rw (le-leb 1 n p, le-leb n 16 q, le-leb 1 count u, le-leb count 4096 v, lt-ltb (length genes) (32 * count) h)

  -- without those faults the rest decides
  pub shape-passed : (rest : List Test) → Shaped n genes count → verdict (shape_tests n genes count ++ rest) ≡ verdict rest
  unfolding verdict shape_tests species_test count_test length_test
  shape-passed rest s =
      rw (
        le-leb 1 n s.some_species,
        le-leb n 16 s.few_species,
        le-leb 1 count s.some_genes,
        le-leb count 4096 s.few_genes,
        le-ltb (length genes) (32 * count) s.fits,
      )

  pub well_shaped : Shaped n genes count → verdict (shape_tests n genes count) ≡ said 0 0
  unfolding verdict shape_tests
  well_shaped s = shape-passed [] s

  -- and where the tests find none, there is none
  pub shaped : verdict (shape_tests n genes count) ≡ said 0 0 → Shaped n genes count
  shaped e = go (dec_lt n 1) (dec_lt 16 n) (dec_lt count 1) (dec_lt 4096 count) (dec_lt (length genes) (32 * count))
    where
      off : (k : ℕ) → verdict (shape_tests n genes count) ≡ said (suc k) 0 → ⊥
      off k h = let z : suc k ≡ 0 = ap (λ (v : Verdict). v.number) (sym h ∙ e) in omega arith

      go : Dec (n < 1) → Dec (16 < n) → Dec (count < 1) → Dec (4096 < count) → Dec (length genes < 32 * count) → Shaped n genes count
      go (yes h) b c d f = absurd (off 0 (no_species h))
      go (no a) (yes h) c d f = absurd (off 0 (many_species h))
      go (no a) (no b) (yes h) d f = absurd (off 10 (no_genes (omega arith) (omega arith) h))
      go (no a) (no b) (no c) (yes h) f = absurd (off 10 (many_genes (omega arith) (omega arith) h))
      go (no a) (no b) (no c) (no d) (yes h) = absurd (off 11 (too_short (omega arith) (omega arith) (omega arith) (omega arith) h))
      go (no a) (no b) (no c) (no d) (no f) = record {
        some_species = omega arith;
        few_species = omega arith;
        some_genes = omega arith;
        few_genes = omega arith;
        fits = omega arith;
      }

  -- all three are at place 0
  pub shape_at_0 : verdict (shape_tests n genes count) ≡ said (verdict (shape_tests n genes count)).number 0
  unfolding verdict shape_tests species_test count_test length_test
  shape_at_0 = go (species_test n).fault (count_test count).fault (length_test (length genes) (32 * count)).fault
    where
      go :
          (a b c : Bool) → let v = verdict_by a (species_test n) (verdict_by b (count_test count) (verdict_by c (length_test (length genes) (32 * count)) (said 0 0))) in
          v ≡ said v.number 0
      go true b c = refl
      go false true c = refl
      go false false true = refl
      go false false false = refl

  pub shaped_at : {number : ℕ} → verdict (shape_tests n genes count) ≡ said number 0 → number ≡ 0 → Shaped n genes count
  shaped_at e z = shaped (e ∙ ap (λ (k : ℕ). said k 0) z)
