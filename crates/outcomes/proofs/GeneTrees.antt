-- What the search is asked: the gene trees that were gathered, where there is one, and each may be counted by the rooting.
use Prim.Native.Nat.{ℕ, zero, suc, ◌≤◌, ◌<◌}
use mathlib.Core.Path.{◌≡◌, refl, sym, ap, subst, ◌∙◌}
use mathlib.Core.Bool.{Bool, true, false, true≢false}
use mathlib.Core.List.{List, [], ◌∷◌}
use native.Mathlib.Omega.{arith}
use lib.ListN.{length}
use lib.Dec.{ltb}
use borrow.Author.Tests.{ltb-true, le-ltb}
use Rattle.trees.specs.Lists.{pieces}
use Rattle.trees.specs.Records.{records_in}
use Rattle.trees.proofs.Booleans.{both}
use Rattle.trees.proofs.Lent.{length-records_in}
use Rattle.faults.specs.Faults.{number}
use Rattle.faults.specs.declared.Refusal.{Refusal}
use Rattle.roster.specs.Verdict.{Test, Verdict, verdict_by, verdict}
use Rattle.reader.specs.Promise.{text_most}
use Rattle.writer.proofs.RosterNames.{good-names}
use Rattle.weights.specs.declared.Rooting.{Rooting}
use Rattle.weights.specs.declared.Rooting.TheVariants.{Rooted}
use Rattle.lineages.specs.Checks.{first_bad, first_unresolved, is_unrooted, records_test, rooting_test}
use Rattle.lineages.specs.Work.{genes_tests, said}
use Rattle.lineages.proofs.Verdicts.{numbered}
use Rattle.lineages.proofs.FirstBad.{all_valid_none_bad, faultless}
use Rattle.gather.specs.GeneTrees.{begins_at, gather}
use Rattle.gather.specs.GeneTrees.Gathered.{gathered}
use Rattle.gather.proofs.GeneTrees.{gathered_few, gathered-valid}
use Rattle.gather.proofs.Beginnings.{gathered_begins}
use Rattle.outcomes.specs.Outcome.{on_rooting, with_genes, searched, allowed_by}
use Rattle.outcomes.specs.Outcome.Outcome.{refused}
use Rattle.outcomes.specs.Work.{Roster, Genes, Countable}
use Rattle.outcomes.proofs.Allowed.{genes_in_order}

-- the records in the lent numbers, where there is one
pub gathered-genes :
    (trees : List ℕ) {line genes : List ℕ} {n count : ℕ} → Roster line n → length trees ≤ text_most → length genes ≡ 16384
    → gathered (records_in count genes) ≡ gather line trees → (count ≡ 0 → ⊥) → Genes Rooted n count genes
gathered-genes trees {line} {genes} {n} {count} roster short e is number =
    let few : count ≤ 512 = omega (arith, length-records_in count genes, gathered_few line trees roster.good short is) in
    record {
      some_species = omega (arith, roster.named, (good-names line roster.good).some);
      few_species = roster.few;
      some = omega arith;
      few = few;
      lent = omega arith;
      valid = rw roster.named (gathered-valid line trees roster.good short is);
      enter = λ e. absurd (true≢false (sym (ap is_unrooted e)));
    }

-- ---- 19

module _ (rooting : Rooting) {n count : ℕ} {genes : List ℕ} (g : Genes Rooted n count genes) where
  -- no record is refused as such
  records_passed : ltb (first_bad n (records_in count genes)) (length (records_in count genes)) ≡ false
  records_passed =
      le-ltb (first_bad n (records_in count genes)) (length (records_in count genes))
      (let e = all_valid_none_bad n (records_in count genes) (genes_in_order g).shaped.few_species g.valid in omega arith)

  module _ (judged : Refusal) (told : said (number judged.fault) judged.place ≡ verdict (genes_tests rooting n (records_in count genes))) where
    -- valid records are refused for their rooting alone, at the index of the first
    pub judged_unresolved :
        ((rooting_test rooting n (records_in count genes)).fault ≡ true)
        × (number judged.fault ≡ 19)
        × (judged.place ≡ (rooting_test rooting n (records_in count genes)).place)
    unfolding genes_tests records_test rooting_test verdict
    judged_unresolved = go (rooting_test rooting n (records_in count genes)) refl (rw records_passed at told)
      where
        go :
            (t : Test) → t.number ≡ 19 → said (number judged.fault) judged.place ≡ verdict (t ∷ [])
            → (t.fault ≡ true) × (number judged.fault ≡ 19) × (judged.place ≡ t.place)
        go t nineteen e = by t.fault refl e
          where
            by :
                (b : Bool) → t.fault ≡ b → said (number judged.fault) judged.place ≡ verdict_by b t (said 0 0)
                → (t.fault ≡ true) × (number judged.fault ≡ 19) × (judged.place ≡ t.place)
            by true f e = (f, ap (λ (v : Verdict). v.number) e ∙ nineteen, ap (λ (v : Verdict). v.place) e)
            by false f e = absurd (numbered judged.fault (ap (λ (v : Verdict). v.number) e))

    -- that tree begins inside the text
    pub unresolved_inside :
        (line trees : List ℕ) → gathered (records_in count genes) ≡ gather line trees → begins_at judged.place line trees 0 < length trees
    unfolding rooting_test
    unresolved_inside line trees is =
        let j = judged_unresolved in (gathered_begins line trees is judged.place
        (subst (λ (i : ℕ). i < length (records_in count genes)) (sym j.2) (inside j.0))).inside
      where
        inside : (rooting_test rooting n (records_in count genes)).fault ≡ true → (rooting_test rooting n (records_in count genes)).place < length (records_in count genes)
        inside f =
            ltb-true (first_unresolved n (records_in count genes)) (length (records_in count genes))
            (both (is_unrooted rooting) (ltb (first_unresolved n (records_in count genes)) (length (records_in count genes))) f).1

  -- and where none is refused, all may be counted
  pub none_unresolved : said 0 0 ≡ verdict (genes_tests rooting n (records_in count genes)) → Countable rooting n count genes
  none_unresolved none = record {
    some_species = g.some_species;
    few_species = g.few_species;
    some = g.some;
    few = g.few;
    lent = g.lent;
    unrefused = none;
  }

-- ---- the outcome

module _ (genes : List ℕ) (at : ℕ → ℕ) (all : Bool) (rooting : Rooting) (n : ℕ) where
  pub without-genes : {count : ℕ} → count ≡ 0 → refused 11 0 ≡ with_genes (records_in count genes) at all rooting n
  unfolding pieces
  without-genes e = rw e

  with_some_genes :
      (count : ℕ) → 1 ≤ count
      → on_rooting (rooting_test rooting n (records_in count genes)).fault (at (rooting_test rooting n (records_in count genes)).place)
      (searched rooting n (records_in count genes) (allowed_by all rooting n (records_in count genes)))
      ≡ with_genes (records_in count genes) at all rooting n
  unfolding pieces
  with_some_genes zero f = absurd (omega arith)
  with_some_genes (suc count) f = refl

  module _ {count : ℕ} (g : Genes Rooted n count genes) where
    -- 19 where the records are refused, at the tree of the index
    pub refused-genes :
        (judged : Refusal) → said (number judged.fault) judged.place ≡ verdict (genes_tests rooting n (records_in count genes))
        → refused (number judged.fault) (at judged.place) ≡ with_genes (records_in count genes) at all rooting n
    refused-genes judged told =
        let j = judged_unresolved rooting g judged told in
        rw (j.1, j.2, ← with_some_genes count g.some, j.0)

    -- and else what the search finds
    pub searched-genes :
        said 0 0 ≡ verdict (genes_tests rooting n (records_in count genes))
        → searched rooting n (records_in count genes) (allowed_by all rooting n (records_in count genes)) ≡ with_genes (records_in count genes) at all rooting n
    searched-genes none = rw (← with_some_genes count g.some, (faultless rooting n (records_in count genes) none).1)
