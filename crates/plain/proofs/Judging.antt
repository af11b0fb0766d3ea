-- The promise of the plain engine, one law for each way through its checks.
use Prim.Native.Nat.{ℕ, ◌^◌, ◌≤◌, ◌<◌}
use mathlib.Core.Path.{◌≡◌, refl, sym, ◌∙◌}
use mathlib.Core.List.{List, [], ◌∷◌, ◌++◌}
use native.Mathlib.Omega.{arith}
use lib.ListN.{length}
use borrow.Author.Tests.{lt-ltb, le-ltb, le-leb, lt-leb}
use Rattle.clusters.specs.Sets.{whole}
use Rattle.trees.specs.Records.{records_in}
use Rattle.std.specs.Prelude.{Err}
use Rattle.faults.specs.Faults.{number as fault_number}
use Rattle.faults.specs.declared.Refusal.{Refusal}
use Rattle.roster.specs.Verdict.{Test, verdict, length_test}
use Rattle.weights.specs.declared.Rooting.{Rooting}
use Rattle.lineages.specs.Checks.{species_test}
use Rattle.lineages.specs.InOrder.{Shaped}
use Rattle.lineages.specs.Work.{shape_tests, genes_tests, said}
use Rattle.lineages.proofs.Verdicts.{numbered, verdict_first, refused_first, shape-passed}
use Rattle.lineages.proofs.Calls.{genes_then, genes-refused, genes-passed}
use Rattle.terms.specs.Allowed.{allowed_test}
use Rattle.terms.specs.Answers.{without, found_to}
use Rattle.terms.specs.declared.Found.{Found}
use Rattle.terms.proofs.Refusing.{refused-told}
use Rattle.splits.specs.Best.{best_for, found_by}
use Rattle.plain.specs.Promise.{plain_most, plain_test, plain_tests, FindsPlainly}
use Rattle.plain.specs.Work.{PlainShaped, ShapeJudged}

-- ---- 1, 17, 11 and 12

-- what is judged after the shape
plain_rest : Rooting → ℕ → List ℕ → ℕ → List ℕ → List Test
plain_rest rooting n genes count allowed =
    length_test (length allowed) (2 ^ n) ∷ genes_then rooting n genes count (allowed_test n allowed ∷ [])

-- for at most seven species the other tests decide
seven-passed :
    (rooting : Rooting) (n : ℕ) (genes : List ℕ) (count : ℕ) (allowed : List ℕ) → n ≤ plain_most
    → verdict (plain_tests rooting n genes count allowed) ≡ verdict (shape_tests n genes count ++ plain_rest rooting n genes count allowed)
unfolding plain_tests plain_test shape_tests plain_rest verdict
seven-passed rooting n genes count allowed few = rw (le-ltb plain_most n few)

module _ (n : ℕ) (genes : List ℕ) (count : ℕ) (allowed : List ℕ) where
  shape-refused :
      {number : ℕ} → (number ≡ 0 → ⊥) → ((rooting : Rooting) → verdict (plain_tests rooting n genes count allowed) ≡ said number 0)
      → ShapeJudged n genes count allowed (said number 0)
  shape-refused f e = record { refused = λ g. e; passed = λ z. absurd (f z) }

  pub many_species : 16 < n → ShapeJudged n genes count allowed (said 1 0)
  unfolding plain_tests species_test verdict
  many_species l = shape-refused (λ z. omega arith) (λ rooting. rw (le-leb 1 n (omega arith), lt-leb n 16 l))

  pub over_seven : n ≤ 16 → plain_most < n → ShapeJudged n genes count allowed (said 17 0)
  unfolding plain_tests species_test plain_test verdict
  over_seven few l = shape-refused (λ z. omega arith) (λ rooting. rw (le-leb 1 n (omega arith), le-leb n 16 few, lt-ltb plain_most n l))

  module _ (few : n ≤ plain_most) where
    pub no_shape : {number : ℕ} → verdict (shape_tests n genes count) ≡ said number 0 → (number ≡ 0 → ⊥) → ShapeJudged n genes count allowed (said number 0)
    no_shape e f =
        shape-refused f
        (λ rooting. seven-passed rooting n genes count allowed few ∙ verdict_first (shape_tests n genes count) (plain_rest rooting n genes count allowed) e f)

    -- what the checks of the gene trees refuse, the call refuses
    pub shape-told-by : (e : Refusal) → said (fault_number e.fault) e.place ≡ verdict (shape_tests n genes count)
        → ShapeJudged n genes count allowed (said (fault_number e.fault) e.place)
    shape-told-by e told =
        record {
          refused = λ f rooting. seven-passed rooting n genes count allowed few ∙ refused_first (shape_tests n genes count) (plain_rest rooting n genes count allowed) e told;
          passed = λ z. absurd (numbered e.fault z);
        }

    module _ (shaped : Shaped n genes count) where
      -- behind the shape the rest decides
      shape-told : (rooting : Rooting) → verdict (plain_tests rooting n genes count allowed) ≡ verdict (plain_rest rooting n genes count allowed)
      shape-told rooting =
          seven-passed rooting n genes count allowed few ∙ shape-passed n genes count (plain_rest rooting n genes count allowed) shaped

      pub short : length allowed < 2 ^ n → ShapeJudged n genes count allowed (said 12 0)
      unfolding plain_rest length_test verdict
      short l = shape-refused (λ z. omega arith) (λ rooting. shape-told rooting ∙ rw (lt-ltb (length allowed) (2 ^ n) l))

      pub well_shaped : 2 ^ n ≤ length allowed → ShapeJudged n genes count allowed (said 0 0)
      well_shaped l = record { refused = λ f. absurd (f (omega arith)); passed = λ z. record { shaped = shaped; few = few; long = l } }

-- ---- the ways

module _ (rooting : Rooting) (n : ℕ) (genes : List ℕ) (count : ℕ) (allowed : List ℕ) where
  -- a refusal: no tree
  plain-refused :
      {r : Found} {number place : ℕ} → verdict (plain_tests rooting n genes count allowed) ≡ said number place → (number ≡ 0 → ⊥) → r ≡ without number place
      → FindsPlainly rooting n genes count allowed r
  plain-refused {number = number} {place = place} e f p = record {
    reply = p ∙ rw e (refused-told number place f (found_by rooting (best_for rooting n (records_in count genes) allowed (whole n)) (records_in count genes)));
  }

  pub plain-shape :
      {r : Found} {number place : ℕ} → ShapeJudged n genes count allowed (said number place) → (number ≡ 0 → ⊥) → r ≡ without number place
      → FindsPlainly rooting n genes count allowed r
  plain-shape judged f p = plain-refused (judged.refused f rooting) f p

  module _ (shaped : PlainShaped n genes count allowed) where
    -- behind the lengths the records and the allowed bytes decide
    pub long-told : verdict (plain_tests rooting n genes count allowed)
        ≡ verdict (genes_then rooting n genes count (allowed_test n allowed ∷ []))
    unfolding plain_rest length_test verdict
    long-told = shape-told n genes count allowed shaped.few shaped.shaped rooting ∙ rw (le-ltb (length allowed) (2 ^ n) shaped.long)

    pub plain_bad : (e : Refusal) → said (fault_number e.fault) e.place ≡ verdict (genes_tests rooting n (records_in count genes))
        → FindsPlainly rooting n genes count allowed (found_to (Err e))
    plain_bad e told = plain-refused (long-told ∙ genes-refused rooting n genes count (allowed_test n allowed ∷ []) e told) (numbered e.fault) refl

    module _ (none : said 0 0 ≡ verdict (genes_tests rooting n (records_in count genes))) where
      -- behind the records the allowed bytes do
      genes-told : verdict (plain_tests rooting n genes count allowed) ≡ verdict (allowed_test n allowed ∷ [])
      genes-told = long-told ∙ genes-passed rooting n genes count (allowed_test n allowed ∷ []) none

      pub plain_strange : (e : Refusal) → said (fault_number e.fault) e.place ≡ verdict (allowed_test n allowed ∷ []) → FindsPlainly rooting n genes count allowed (found_to (Err e))
      plain_strange e told = plain-refused (genes-told ∙ sym told) (numbered e.fault) refl

      pub plain-found :
          {r : Found} → said 0 0 ≡ verdict (allowed_test n allowed ∷ []) → r ≡ found_by rooting (best_for rooting n (records_in count genes) allowed (whole n)) (records_in count genes)
          → FindsPlainly rooting n genes count allowed r
      plain-found told p = record { reply = p ∙ rw (genes-told ∙ sym told) }
