-- 11, 12, 16 and 15: one law for each way through `judge`, and what it means that none of them is found.
use Prim.Native.Nat.{ℕ, ◌*◌, ◌^◌, ◌≤◌, ◌<◌}
use native.Mathlib.Omega.{arith}
use mathlib.Core.Path.{◌≡◌, refl, sym, ◌∙◌}
use mathlib.Core.Bool.{Bool, true, false}
use mathlib.Core.Logic.{◌⊎◌, inl, inr}
use mathlib.Core.List.{List, [], ◌∷◌, ◌++◌}
use lib.ListN.{length}
use lib.Dec.{leb}
use borrow.Author.Tests.{le-leb, leb-true, lt-ltb, le-ltb, ltb-false, not-false}
use Rattle.std.proofs.Common.{Result, Err}
use Rattle.clusters.specs.Sets.{whole}
use Rattle.faults.specs.Faults.{number as fault_number}
use Rattle.faults.specs.declared.Fault.TheVariants.{ShortSlice, BadSpeciesRecord}
use Rattle.faults.specs.declared.Refusal.{Refusal}
use Rattle.trees.specs.Records.{records_in}
use Rattle.trees.specs.Valid.{binary}
use Rattle.trees.proofs.Booleans.{both}
use Rattle.roster.specs.Verdict.{Test, verdict_by, verdict, length_test}
use Rattle.weights.specs.declared.Rooting.TheVariants.{Rooted}
use Rattle.lineages.specs.Checks.{species_test, count_test, first_bad, records_test, rooting_test}
use Rattle.lineages.specs.InOrder.{Shaped, GenesInOrder}
use Rattle.lineages.specs.Work.{shape_tests, genes_tests, said, GenesJudged}
use Rattle.lineages.proofs.FirstBad.{none_bad, all_valid_none_bad, none_unresolved}
use Rattle.lineages.proofs.Verdicts.{refused_first, verdict-passed, shape-passed}
use Rattle.counts.specs.Promise.{tree_test}
use Rattle.counts.specs.Work.{call_tests, CallJudged}

-- what is judged after the shape
call_rest : ℕ → List ℕ → ℕ → ℕ → List ℕ → List ℕ → Bool → List Test
call_rest n genes count entries scores splits two =
    length_test (length scores) entries ∷ length_test (length splits) entries ∷ tree_test two ∷ records_test n (records_in count genes) ∷ []

-- ---- the ways

module _ (n : ℕ) (genes : List ℕ) (count entries : ℕ) (scores splits : List ℕ) (two : Bool) (one : 1 ≤ n) (few : n ≤ 16) where
  -- n species are 1 to 16, so the tests of shape begin them
  shape_first : verdict (call_tests n genes count entries scores splits two) ≡ verdict (shape_tests n genes count ++ call_rest n genes count entries scores splits two)
  unfolding call_tests shape_tests call_rest species_test verdict
  shape_first = rw (le-leb 1 n one, le-leb n 16 few)

  pub call_shape : (e : Refusal) → said (fault_number e.fault) e.place ≡ verdict (shape_tests n genes count) → CallJudged n genes count entries scores splits two (Err e)
  unfolding CallJudged
  call_shape e told = sym (shape_first ∙ refused_first (shape_tests n genes count) (call_rest n genes count entries scores splits two) e told)

  module _ (shaped : Shaped n genes count) where
    -- behind the shape the rest decides
    shape-told : verdict (call_tests n genes count entries scores splits two) ≡ verdict (call_rest n genes count entries scores splits two)
    shape-told = shape_first ∙ shape-passed n genes count (call_rest n genes count entries scores splits two) shaped

    pub call-short :
        (e : Refusal) → (length scores < entries) ⊎ ((entries ≤ length scores) × (length splits < entries)) → e ≡ record { fault = ShortSlice; place = 0 }
        → CallJudged n genes count entries scores splits two (Err e)
    unfolding CallJudged call_rest verdict length_test
    call-short e (inl short) is = rw (is, shape-told, lt-ltb (length scores) entries short)
    call-short e (inr both) is = rw (is, shape-told, le-ltb (length scores) entries both.0, lt-ltb (length splits) entries both.1)

    module _ (long : entries ≤ length scores) (also : entries ≤ length splits) where
      pub call_not_binary : (e : Refusal) → two ≡ false → e ≡ record { fault = BadSpeciesRecord; place = 0 } → CallJudged n genes count entries scores splits two (Err e)
      unfolding CallJudged call_rest verdict length_test
      call_not_binary e wide is = rw (is, shape-told, le-ltb (length scores) entries long, le-ltb (length splits) entries also, wide)

      pub call-genes : (r : Result (Unit {0}) Refusal) → two ≡ true → GenesJudged Rooted n genes count r → CallJudged n genes count entries scores splits two r
      unfolding CallJudged call_rest verdict length_test genes_tests rooting_test
      call-genes r tree told = told ∙ sym (shape-told ∙ rw (le-ltb (length scores) entries long, le-ltb (length splits) entries also, tree))

-- ---- no refusal

-- where all tests give no number, the first ones give none
pub front_none : (l k : List Test) → (verdict (l ++ k)).number ≡ 0 → (verdict l).number ≡ 0
unfolding verdict
front_none [] k e = refl
front_none (t ∷ l) k e = go t.fault e (front_none l k)
  where
    go : (b : Bool) → (verdict_by b t (verdict (l ++ k))).number ≡ 0 → ((verdict (l ++ k)).number ≡ 0 → (verdict l).number ≡ 0) → (verdict_by b t (verdict l)).number ≡ 0
    go true e ih = e
    go false e ih = ih e

-- what all these tests pass: gene trees in order, tables that are long enough, and a binary tree
pub record Passed (n : ℕ) (genes : List ℕ) (count entries : ℕ) (scores splits : List ℕ) (two : Bool) : Type 0 where
  pub in_order : GenesInOrder Rooted n genes count
  pub scores_fit : entries ≤ length scores
  pub splits_fit : entries ≤ length splits
  pub is_binary : two ≡ true

module _ (n : ℕ) (genes : List ℕ) (count entries : ℕ) (scores splits : List ℕ) (two : Bool) where
  pub tests-passed : 1 ≤ n → n ≤ 16 → (verdict (call_tests n genes count entries scores splits two)).number ≡ 0 → Passed n genes count entries scores splits two
  unfolding call_tests count_test length_test records_test
  tests-passed one few e =
      let a = verdict-passed _ _ (λ z. omega arith) e in
      let b = verdict-passed _ _ (λ z. omega arith) a.1 in
      let c = verdict-passed _ _ (λ z. omega arith) b.1 in
      let d = verdict-passed _ _ (λ z. omega arith) c.1 in
      let f = verdict-passed _ _ (λ z. omega arith) d.1 in
      let g = verdict-passed _ _ (λ z. omega arith) f.1 in
      let trees = both (leb 1 count) (leb count 4096) (not-false _ a.0) in
      record {
        in_order = record {
          shaped = record {
            some_species = one;
            few_species = few;
            some_genes = leb-true 1 count trees.0;
            few_genes = leb-true count 4096 trees.1;
            fits = ltb-false (length genes) (32 * count) b.0;
          };
          valid = none_bad n (records_in count genes) few (ltb-false (first_bad n (records_in count genes)) (length (records_in count genes)) g.0);
          enter = none_unresolved Rooted n (records_in count genes) refl;
        };
        scores_fit = ltb-false (length scores) entries c.0;
        splits_fit = ltb-false (length splits) entries d.0;
        is_binary = not-false two f.0;
      }

  pub tests-behind : Passed n genes count entries scores splits two → (rest : List Test) → verdict (call_tests n genes count entries scores splits two ++ rest) ≡ verdict rest
  unfolding call_tests count_test length_test records_test verdict
  tests-behind p rest =
      let s = p.in_order.shaped in
      let none = all_valid_none_bad n (records_in count genes) s.few_species p.in_order.valid in
      rw (
        le-leb 1 count s.some_genes,
        le-leb count 4096 s.few_genes,
        le-ltb (length genes) (32 * count) s.fits,
        le-ltb (length scores) entries p.scores_fit,
        le-ltb (length splits) entries p.splits_fit,
        p.is_binary,
        le-ltb (first_bad n (records_in count genes)) (length (records_in count genes)) (omega arith),
      )

-- ---- a tree that is drawn, by its record: 2^n entries for each table

abbrev pub drawn_tests : ℕ → List ℕ → ℕ → List ℕ → List ℕ → List ℕ → List Test
drawn_tests n genes count numbers scores splits = call_tests n genes count (2 ^ n) scores splits (binary (whole n) numbers)

abbrev pub DrawnPassed : ℕ → List ℕ → ℕ → List ℕ → List ℕ → List ℕ → Type 0
DrawnPassed n genes count numbers scores splits = Passed n genes count (2 ^ n) scores splits (binary (whole n) numbers)

module _ (n : ℕ) (genes : List ℕ) (count : ℕ) (numbers scores splits : List ℕ) where
  pub passed_of : 1 ≤ n → n ≤ 16 → (verdict (drawn_tests n genes count numbers scores splits)).number ≡ 0 → DrawnPassed n genes count numbers scores splits
  passed_of one few e = tests-passed n genes count (2 ^ n) scores splits (binary (whole n) numbers) one few e

  pub passed_on : DrawnPassed n genes count numbers scores splits → (rest : List Test) → verdict (drawn_tests n genes count numbers scores splits ++ rest) ≡ verdict rest
  passed_on p rest = tests-behind n genes count (2 ^ n) scores splits (binary (whole n) numbers) p rest
