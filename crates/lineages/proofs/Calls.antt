-- The replies of the calls, one law for each way through their checks.
use Prim.Native.Nat.{ℕ, zero, suc, ◌^◌, ◌≤◌, ◌<◌}
use mathlib.Core.Path.{◌≡◌, refl, ap, ◌∙◌}
use mathlib.Core.Bool.{true, false, ◌&&◌}
use mathlib.Core.List.{List, [], ◌∷◌, ◌++◌}
use native.Mathlib.Omega.{arith}
use lib.ListN.{length, drop}
use lib.Dec.{leb, ltb}
use borrow.Author.Tests.{lt-ltb, le-ltb}
use Rattle.clusters.specs.Sets.{whole}
use Rattle.trees.specs.Valid.{valid, binary}
use Rattle.trees.specs.Records.{records_in}
use Rattle.weights.specs.Count.{weight, score}
use Rattle.faults.specs.Faults.{number as fault_number}
use Rattle.faults.specs.declared.Refusal.{Refusal}
use Rattle.roster.specs.Judged.{refusal, done, refused_by}
use Rattle.roster.specs.Verdict.{Test, Verdict, verdict, length_test, reply_of}
use Rattle.lineages.specs.Checks.{species_record_test, records_test, rooting_test, cluster_test, weight_tests, score_tests, mark_tests}
use Rattle.lineages.specs.Promise.{marks, marked_by, Weighs, Scores, Marks}
use Rattle.lineages.specs.InOrder.{Shaped}
use Rattle.lineages.specs.Work.{shape_tests, genes_tests, said}
use Rattle.weights.specs.Work.{marks_below}
use Rattle.lineages.proofs.FirstBad.{faultless}
use Rattle.lineages.proofs.Verdicts.{numbered, refused_first, shape-passed}
use Rattle.weights.specs.declared.Rooting.{Rooting}

-- the tests of the gene records, 15 and 19, with others behind them
abbrev pub genes_then : Rooting → ℕ → List ℕ → ℕ → List Test → List Test
genes_then rooting n genes count rest = records_test n (records_in count genes) ∷ rooting_test rooting n (records_in count genes) ∷ rest

-- ---- replies

pub refused-reply : {v : Verdict} (w number : ℕ) {place : ℕ} → v ≡ said number place → (number ≡ 0 → ⊥) → refusal number place ≡ reply_of v w
refused-reply w number {place} e f = rw e (go number f)
  where
    go : (k : ℕ) → (k ≡ 0 → ⊥) → refusal k place ≡ reply_of (said k place) w
    go zero f = absurd (f refl)
    go (suc k) f = refl

pub done_reply : {v : Verdict} (w : ℕ) → v ≡ said 0 0 → done w ≡ reply_of v w
done_reply w e = rw e

-- ---- 15 and 19

module _ (rooting : Rooting) (n : ℕ) (genes : List ℕ) (count : ℕ) (rest : List Test) where
  pub genes-refused :
      (e : Refusal) → said (fault_number e.fault) e.place ≡ verdict (genes_tests rooting n (records_in count genes))
      → verdict (genes_then rooting n genes count rest) ≡ said (fault_number e.fault) e.place
  unfolding genes_tests
  genes-refused e told = refused_first (genes_tests rooting n (records_in count genes)) rest e told

  pub genes-passed : said 0 0 ≡ verdict (genes_tests rooting n (records_in count genes)) → verdict (genes_then rooting n genes count rest) ≡ verdict rest
  unfolding verdict
  genes-passed none = let both = faultless rooting n (records_in count genes) none in rw (both.0, both.1)

-- ---- weight

-- what is judged after the shape
weight_rest : Rooting → ℕ → List ℕ → ℕ → ℕ → List Test
weight_rest rooting n genes count a = genes_then rooting n genes count (cluster_test n a ∷ [])

module _ (rooting : Rooting) (n : ℕ) (genes : List ℕ) (count a : ℕ) where
  weighs_refused :
      (number place : ℕ) → verdict (weight_tests rooting n genes count a) ≡ said number place → (number ≡ 0 → ⊥) → Weighs rooting n genes count a (refusal number place)
  unfolding Weighs
  weighs_refused number place is f = refused-reply (weight rooting (records_in count genes) a) number is f

  pub weighs_shape : (e : Refusal) → said (fault_number e.fault) e.place ≡ verdict (shape_tests n genes count) → Weighs rooting n genes count a (refused_by e)
  unfolding weight_tests shape_tests weight_rest
  weighs_shape e told =
      weighs_refused (fault_number e.fault) e.place (refused_first (shape_tests n genes count) (weight_rest rooting n genes count a) e told) (numbered e.fault)

  module _ (shaped : Shaped n genes count) where
    pub weighs_bad :
        (e : Refusal) → said (fault_number e.fault) e.place ≡ verdict (genes_tests rooting n (records_in count genes)) → Weighs rooting n genes count a (refused_by e)
    unfolding weight_tests shape_tests weight_rest
    weighs_bad e told =
        weighs_refused (fault_number e.fault) e.place
        (shape-passed n genes count (weight_rest rooting n genes count a) shaped ∙ genes-refused rooting n genes count (cluster_test n a ∷ []) e told)
        (numbered e.fault)

    module _ (none : said 0 0 ≡ verdict (genes_tests rooting n (records_in count genes))) where
      pub weighs_no_cluster :
          (leb 1 a && ltb a (2 ^ n)) ≡ false → Weighs rooting n genes count a (refusal 13 a)
      unfolding weight_tests shape_tests weight_rest verdict cluster_test
      weighs_no_cluster out =
          weighs_refused 13 a
          (shape-passed n genes count (weight_rest rooting n genes count a) shaped ∙ genes-passed rooting n genes count (cluster_test n a ∷ []) none ∙ rw out)
          (λ z. omega arith)

      pub weighs_done : {v : ℕ} → (leb 1 a && ltb a (2 ^ n)) ≡ true → v ≡ weight rooting (records_in count genes) a → Weighs rooting n genes count a (done v)
      unfolding Weighs weight_tests shape_tests weight_rest verdict cluster_test
      weighs_done cluster is =
          ap (λ (w : ℕ). done w) is
          ∙ done_reply (weight rooting (records_in count genes) a)
          (shape-passed n genes count (weight_rest rooting n genes count a) shaped ∙ genes-passed rooting n genes count (cluster_test n a ∷ []) none ∙ rw cluster)

-- ---- score

score_rest : Rooting → ℕ → List ℕ → ℕ → List ℕ → List Test
score_rest rooting n genes count species = species_record_test n species ∷ genes_then rooting n genes count []

tree-passed :
    (rooting : Rooting) (n : ℕ) (genes : List ℕ) (count : ℕ) (species : List ℕ) → (valid (whole n) species && binary (whole n) species) ≡ true
    → verdict (score_rest rooting n genes count species) ≡ verdict (genes_then rooting n genes count [])
unfolding score_rest verdict species_record_test
tree-passed rooting n genes count species tree = rw tree

module _ (rooting : Rooting) (n : ℕ) (genes : List ℕ) (count : ℕ) (species : List ℕ) where
  scores-refused :
      (number place : ℕ) → verdict (score_tests rooting n genes count species) ≡ said number place → (number ≡ 0 → ⊥)
      → Scores rooting n genes count species (refusal number place)
  unfolding Scores
  scores-refused number place is f = refused-reply (score rooting (records_in count genes) species) number is f

  pub scores-shape : (e : Refusal) → said (fault_number e.fault) e.place ≡ verdict (shape_tests n genes count) → Scores rooting n genes count species (refused_by e)
  unfolding score_tests shape_tests score_rest
  scores-shape e told =
      scores-refused (fault_number e.fault) e.place (refused_first (shape_tests n genes count) (score_rest rooting n genes count species) e told) (numbered e.fault)

  module _ (shaped : Shaped n genes count) where
    pub scores_no_tree :
        (valid (whole n) species && binary (whole n) species) ≡ false → Scores rooting n genes count species (refusal 16 0)
    unfolding score_tests shape_tests score_rest verdict species_record_test
    scores_no_tree no_tree = scores-refused 16 0 (shape-passed n genes count (score_rest rooting n genes count species) shaped ∙ rw no_tree) (λ z. omega arith)

    module _ (tree : (valid (whole n) species && binary (whole n) species) ≡ true) where
      pub scores_bad :
          (e : Refusal) → said (fault_number e.fault) e.place ≡ verdict (genes_tests rooting n (records_in count genes))
          → Scores rooting n genes count species (refused_by e)
      unfolding score_tests shape_tests score_rest
      scores_bad e told =
          scores-refused (fault_number e.fault) e.place
          (shape-passed n genes count (score_rest rooting n genes count species) shaped ∙ tree-passed rooting n genes count species tree
          ∙ genes-refused rooting n genes count [] e told)
          (numbered e.fault)

      pub scores_done :
          {v : ℕ} → said 0 0 ≡ verdict (genes_tests rooting n (records_in count genes)) → v ≡ score rooting (records_in count genes) species
          → Scores rooting n genes count species (done v)
      unfolding Scores score_tests shape_tests score_rest verdict
      scores_done none is =
          ap (λ (w : ℕ). done w) is
          ∙ done_reply (score rooting (records_in count genes) species)
          (shape-passed n genes count (score_rest rooting n genes count species) shaped ∙ tree-passed rooting n genes count species tree
          ∙ genes-passed rooting n genes count [] none)

-- ---- mark

-- 2^n bytes of marks are those of the promise
pub marks-below : (rooting : Rooting) (n : ℕ) (genes : List (List ℕ)) → marks_below rooting (2 ^ n) genes ≡ marks rooting n genes
unfolding marks marks_below
marks-below rooting n genes = refl

mark_rest : Rooting → ℕ → List ℕ → ℕ → List ℕ → List Test
mark_rest rooting n genes count out = length_test (length out) (2 ^ n) ∷ genes_then rooting n genes count []

long-passed :
    (rooting : Rooting) (n : ℕ) (genes : List ℕ) (count : ℕ) (out : List ℕ) → 2 ^ n ≤ length out
    → verdict (mark_rest rooting n genes count out) ≡ verdict (genes_then rooting n genes count [])
unfolding mark_rest verdict length_test
long-passed rooting n genes count out long = rw (le-ltb (length out) (2 ^ n) long)

module _ (rooting : Rooting) (n : ℕ) (genes : List ℕ) (count : ℕ) (out : List ℕ) {after : List ℕ} where
  marks-refused :
      (number place : ℕ) → verdict (mark_tests rooting n genes count out) ≡ said number place → (number ≡ 0 → ⊥) → after ≡ out
      → Marks rooting n genes count out (refusal number place) after
  marks-refused number place is f same = record {
    reply = refused-reply 0 number is f;
    bytes = same ∙ rw is (kept number f);
  }
    where
      kept : (k : ℕ) → (k ≡ 0 → ⊥) → out ≡ marked_by rooting k n (records_in count genes) out
      kept zero f = absurd (f refl)
      kept (suc k) f = refl

  pub marks-shape :
      (e : Refusal) → said (fault_number e.fault) e.place ≡ verdict (shape_tests n genes count) → after ≡ out → Marks rooting n genes count out (refused_by e) after
  unfolding mark_tests shape_tests mark_rest
  marks-shape e told same =
      marks-refused (fault_number e.fault) e.place (refused_first (shape_tests n genes count) (mark_rest rooting n genes count out) e told) (numbered e.fault) same

  module _ (shaped : Shaped n genes count) where
    pub marks-short :
        length out < 2 ^ n → after ≡ out → Marks rooting n genes count out (refusal 12 0) after
    unfolding mark_tests shape_tests mark_rest verdict length_test
    marks-short l same =
        marks-refused 12 0 (shape-passed n genes count (mark_rest rooting n genes count out) shaped ∙ rw (lt-ltb (length out) (2 ^ n) l)) (λ z. omega arith) same

    module _ (long : 2 ^ n ≤ length out) where
      pub marks_bad :
          (e : Refusal) → said (fault_number e.fault) e.place ≡ verdict (genes_tests rooting n (records_in count genes)) → after ≡ out
          → Marks rooting n genes count out (refused_by e) after
      unfolding mark_tests shape_tests mark_rest
      marks_bad e told same =
          marks-refused (fault_number e.fault) e.place
          (shape-passed n genes count (mark_rest rooting n genes count out) shaped ∙ long-passed rooting n genes count out long
          ∙ genes-refused rooting n genes count [] e told)
          (numbered e.fault) same

      pub marks_done :
          said 0 0 ≡ verdict (genes_tests rooting n (records_in count genes))
          → after ≡ marks_below rooting (2 ^ n) (records_in count genes) ++ drop (2 ^ n) out → Marks rooting n genes count out (done 0) after
      unfolding mark_tests shape_tests mark_rest verdict
      marks_done none marked =
          let e = shape-passed n genes count (mark_rest rooting n genes count out) shaped ∙ long-passed rooting n genes count out long
          ∙ genes-passed rooting n genes count [] none in
          record {
            reply = done_reply 0 e;
            bytes = marked ∙ ap (λ (k : List ℕ). k ++ drop (2 ^ n) out) (marks-below rooting n (records_in count genes)) ∙ rw e;
          }
