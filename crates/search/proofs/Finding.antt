-- The promise of the search, one law for each way through its checks.
use Prim.Native.Nat.{ℕ, zero, suc, ◌^◌, ◌≤◌}
use mathlib.Core.Path.{◌≡◌, refl, sym, ap, ◌∙◌}
use mathlib.Core.List.{List, [], ◌∷◌}
use native.Mathlib.Decide.{dec_le}
use native.Mathlib.Omega.{arith}
use lib.ListN.{length}
use borrow.Author.Tests.{lt-ltb, le-ltb}
use Rattle.std.specs.Prelude.{Some, Err}
use Rattle.clusters.specs.Sets.{whole}
use Rattle.faults.specs.Faults.{number as fault_number}
use Rattle.faults.specs.declared.Refusal.{Refusal}
use Rattle.roster.specs.Verdict.{Test, Verdict, verdict, length_test}
use Rattle.trees.specs.Records.{records_in}
use Rattle.lineages.specs.InOrder.{Shaped}
use Rattle.lineages.specs.Work.{shape_tests, genes_tests, said}
use Rattle.lineages.proofs.Verdicts.{numbered, verdict_first, refused_first, shape-passed}
use Rattle.lineages.proofs.FirstBad.{checked_in_order}
use Rattle.terms.specs.Allowed.{allowed_in, allowed_test}
use Rattle.terms.proofs.Refusing.{refused-told}
use Rattle.search.specs.Promise.{search_tests, filled_by, Finds}
use Rattle.search.specs.Work.{LongEnough, long_tests}
use Rattle.splits.specs.Best.{best_for, found_by}
use Rattle.terms.specs.Answers.{without, found_to}
use Rattle.solver.specs.Work.{Checked, Solves}
use Rattle.terms.specs.declared.Found.{Found}
use Rattle.lineages.proofs.Calls.{genes_then, genes-refused, genes-passed}
use Rattle.weights.specs.declared.Rooting.{Rooting}

-- 12 for the allowed set and both tables, with other tests behind
abbrev pub long_then : ℕ → List ℕ → List ℕ → List ℕ → List Test → List Test
long_then n allowed scores splits rest =
    length_test (length allowed) (2 ^ n) ∷ length_test (length scores) (2 ^ n) ∷ length_test (length splits) (2 ^ n) ∷ rest

-- what is judged after the shape
search_rest : Rooting → ℕ → List ℕ → ℕ → List ℕ → List ℕ → List ℕ → List Test
search_rest rooting n genes count allowed scores splits = long_then n allowed scores splits (genes_then rooting n genes count (allowed_test n allowed ∷ []))

-- ---- 12

module _ (n : ℕ) (allowed scores splits : List ℕ) (rest : List Test) where
  pub long-passed : LongEnough (2 ^ n) allowed scores splits → verdict (long_then n allowed scores splits rest) ≡ verdict rest
  unfolding verdict length_test
  long-passed l =
      rw (
        le-ltb (length allowed) (2 ^ n) l.allowed_long,
        le-ltb (length scores) (2 ^ n) l.scores_long,
        le-ltb (length splits) (2 ^ n) l.splits_long,
      )

  pub short-refused : (LongEnough (2 ^ n) allowed scores splits → ⊥) → verdict (long_then n allowed scores splits rest) ≡ said 12 0
  unfolding verdict length_test
  short-refused f = go (dec_le (2 ^ n) (length allowed)) (dec_le (2 ^ n) (length scores)) (dec_le (2 ^ n) (length splits))
    where
      go :
          Dec (2 ^ n ≤ length allowed) → Dec (2 ^ n ≤ length scores) → Dec (2 ^ n ≤ length splits)
          → verdict (long_then n allowed scores splits rest) ≡ said 12 0
      go (no a) b c = rw (lt-ltb (length allowed) (2 ^ n) (omega arith))
      go (yes a) (no b) c = rw (le-ltb (length allowed) (2 ^ n) a, lt-ltb (length scores) (2 ^ n) (omega arith))
      go (yes a) (yes b) (no c) = rw (le-ltb (length allowed) (2 ^ n) a, le-ltb (length scores) (2 ^ n) b, lt-ltb (length splits) (2 ^ n) (omega arith))
      go (yes a) (yes b) (yes c) = absurd (f (record { allowed_long = a; scores_long = b; splits_long = c }))

  -- what the tests say of the lengths alone
  pub long-refused : (e : Refusal) → said (fault_number e.fault) e.place ≡ verdict (long_tests (2 ^ n) allowed scores splits)
      → verdict (long_then n allowed scores splits rest) ≡ said (fault_number e.fault) e.place
  long-refused e told = refused_first (long_tests (2 ^ n) allowed scores splits) rest e told

-- where they find no fault, all is long enough
pub long_passed : (n : ℕ) (allowed scores splits : List ℕ) → said 0 0 ≡ verdict (long_tests (2 ^ n) allowed scores splits) → LongEnough (2 ^ n) allowed scores splits
long_passed n allowed scores splits told = go (dec_le (2 ^ n) (length allowed)) (dec_le (2 ^ n) (length scores)) (dec_le (2 ^ n) (length splits))
  where
    twelve : (k : ℕ) → k ≡ 0 → k ≡ 12 → ⊥
    twelve k z e = omega arith

    off : (LongEnough (2 ^ n) allowed scores splits → ⊥) → ⊥
    off f = let z = ap (λ (v : Verdict). v.number) (told ∙ short-refused n allowed scores splits [] f) in twelve _ refl z

    go : Dec (2 ^ n ≤ length allowed) → Dec (2 ^ n ≤ length scores) → Dec (2 ^ n ≤ length splits) → LongEnough (2 ^ n) allowed scores splits
    go (yes a) (yes b) (yes c) = record { allowed_long = a; scores_long = b; splits_long = c }
    go (no a) b c = absurd (off (λ long. let l = long.allowed_long in a (omega arith)))
    go (yes a) (no b) c = absurd (off (λ long. let l = long.scores_long in b (omega arith)))
    go (yes a) (yes b) (no c) = absurd (off (λ long. let l = long.splits_long in c (omega arith)))

-- ---- the checks that were passed

module _ (rooting : Rooting) (n : ℕ) (genes : List ℕ) (count : ℕ) (allowed scores splits : List ℕ) (shaped : Shaped n genes count) where
  -- behind the shape the rest decides
  shape-told : verdict (search_tests rooting n genes count allowed scores splits) ≡ verdict (search_rest rooting n genes count allowed scores splits)
  unfolding search_tests shape_tests search_rest
  shape-told = shape-passed n genes count (search_rest rooting n genes count allowed scores splits) shaped

  module _ (long : LongEnough (2 ^ n) allowed scores splits) where
    -- behind the lengths the records and the allowed bytes do
    long-told : verdict (search_tests rooting n genes count allowed scores splits)
        ≡ verdict (genes_then rooting n genes count (allowed_test n allowed ∷ []))
    unfolding search_rest
    long-told = shape-told ∙ long-passed n allowed scores splits (genes_then rooting n genes count (allowed_test n allowed ∷ [])) long

    pub checked :
        said 0 0 ≡ verdict (genes_tests rooting n (records_in count genes)) → Checked rooting n genes count (Some allowed) scores splits
    checked none =
        let ordered = checked_in_order rooting n genes count none shaped in
        record {
          some_species = shaped.some_species;
          weighable = record {
            few_species = shaped.few_species;
            few_genes = shaped.few_genes;
            genes_long = shaped.fits;
            valid = ordered.valid;
            enter = ordered.enter;
          };
          allowed_long = long.allowed_long;
          scores_long = long.scores_long;
          splits_long = long.splits_long;
        }

    -- behind the records the allowed bytes decide
    genes-told : said 0 0 ≡ verdict (genes_tests rooting n (records_in count genes))
        → verdict (search_tests rooting n genes count allowed scores splits) ≡ verdict (allowed_test n allowed ∷ [])
    genes-told none = long-told ∙ genes-passed rooting n genes count (allowed_test n allowed ∷ []) none

-- ---- the ways

-- a refusal keeps a lent table
pub refused-kept : (k n : ℕ) → (k ≡ 0 → ⊥) → (entry : ℕ → ℕ) (lent : List ℕ) → lent ≡ filled_by k n entry lent
refused-kept zero n f entry lent = absurd (f refl)
refused-kept (suc k) n f entry lent = refl

module _ (rooting : Rooting) (n : ℕ) (genes : List ℕ) (count : ℕ) (allowed scores splits : List ℕ) {r : Found} {scores_after splits_after : List ℕ} where
  -- a refusal: no tree, and both tables as they were lent
  finds-refused : {number place : ℕ} → verdict (search_tests rooting n genes count allowed scores splits) ≡ said number place → (number ≡ 0 → ⊥)
      → r ≡ without number place → scores_after ≡ scores → splits_after ≡ splits
      → Finds rooting n genes count allowed scores splits r scores_after splits_after
  finds-refused {number} {place} e f p q s =
      record {
        reply = p ∙ rw e (refused-told number place f (found_by rooting (best_for rooting n (records_in count genes) allowed (whole n)) (records_in count genes)));
        score_table = q ∙ rw e (refused-kept number n f _ scores);
        split_table = s ∙ rw e (refused-kept number n f _ splits);
      }

  pub finds-shape :
      {number : ℕ} → verdict (shape_tests n genes count) ≡ said number 0 → (number ≡ 0 → ⊥)
      → r ≡ without number 0 → scores_after ≡ scores → splits_after ≡ splits
      → Finds rooting n genes count allowed scores splits r scores_after splits_after
  unfolding search_tests shape_tests search_rest
  finds-shape e f p q s = finds-refused (verdict_first (shape_tests n genes count) (search_rest rooting n genes count allowed scores splits) e f) f p q s

  pub finds-shape-by : (e : Refusal) → said (fault_number e.fault) e.place ≡ verdict (shape_tests n genes count)
      → r ≡ found_to (Err e) → scores_after ≡ scores → splits_after ≡ splits
      → Finds rooting n genes count allowed scores splits r scores_after splits_after
  unfolding search_tests shape_tests search_rest
  finds-shape-by e told p q s =
      finds-refused (refused_first (shape_tests n genes count) (search_rest rooting n genes count allowed scores splits) e told) (numbered e.fault) p q s

  module _ (shaped : Shaped n genes count) where
    pub finds-short : (LongEnough (2 ^ n) allowed scores splits → ⊥) → r ≡ without 12 0 → scores_after ≡ scores → splits_after ≡ splits
        → Finds rooting n genes count allowed scores splits r scores_after splits_after
    unfolding search_rest
    finds-short f p q s =
        finds-refused
        (shape-told rooting n genes count allowed scores splits shaped
        ∙ short-refused n allowed scores splits (genes_then rooting n genes count (allowed_test n allowed ∷ [])) f)
        (λ z. omega arith) p q s

    pub finds-short-by : (e : Refusal) → said (fault_number e.fault) e.place ≡ verdict (long_tests (2 ^ n) allowed scores splits)
        → r ≡ found_to (Err e) → scores_after ≡ scores → splits_after ≡ splits
        → Finds rooting n genes count allowed scores splits r scores_after splits_after
    unfolding search_rest
    finds-short-by e told p q s =
        finds-refused
        (shape-told rooting n genes count allowed scores splits shaped
        ∙ long-refused n allowed scores splits (genes_then rooting n genes count (allowed_test n allowed ∷ [])) e told)
        (numbered e.fault) p q s

    module _ (long : LongEnough (2 ^ n) allowed scores splits) where
      pub finds_bad : (e : Refusal) → said (fault_number e.fault) e.place ≡ verdict (genes_tests rooting n (records_in count genes))
          → r ≡ found_to (Err e) → scores_after ≡ scores → splits_after ≡ splits
          → Finds rooting n genes count allowed scores splits r scores_after splits_after
      finds_bad e told p q s =
          finds-refused
          (long-told rooting n genes count allowed scores splits shaped long ∙ genes-refused rooting n genes count (allowed_test n allowed ∷ []) e told)
          (numbered e.fault) p q s

      module _ (none : said 0 0 ≡ verdict (genes_tests rooting n (records_in count genes))) where
        pub finds_strange : (e : Refusal) → said (fault_number e.fault) e.place ≡ verdict (allowed_test n allowed ∷ [])
            → r ≡ found_to (Err e) → scores_after ≡ scores → splits_after ≡ splits
            → Finds rooting n genes count allowed scores splits r scores_after splits_after
        finds_strange e told p q s = finds-refused (genes-told rooting n genes count allowed scores splits shaped long none ∙ sym told) (numbered e.fault) p q s

        pub finds-solved : said 0 0 ≡ verdict (allowed_test n allowed ∷ [])
            → Solves rooting n (records_in count genes) (allowed_in n allowed) scores splits r scores_after splits_after
            → Finds rooting n genes count allowed scores splits r scores_after splits_after
        unfolding best_for
        finds-solved told s =
            let passed = genes-told rooting n genes count allowed scores splits shaped long none ∙ sym told in
            record { reply = s.reply ∙ rw passed; score_table = s.score_table ∙ rw passed; split_table = s.split_table ∙ rw passed }
