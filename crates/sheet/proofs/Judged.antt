-- What refuses the whole call, and what is known of its gene trees where nothing does.
use Prim.Native.Nat.{ℕ}
use mathlib.Core.Path.{◌≡◌, refl, sym, ap, ◌∙◌}
use mathlib.Core.Bool.{Bool, true, false}
use mathlib.Core.List.{List, [], ◌∷◌, ◌++◌}
use native.Mathlib.Omega.{arith}
use Rattle.faults.specs.Faults.{number as fault_number}
use Rattle.faults.specs.declared.Refusal.{Refusal}
use Rattle.trees.specs.Records.{records_in}
use Rattle.roster.specs.Verdict.{Test, Verdict, verdict_by, verdict, length_test}
use Rattle.weights.specs.declared.Rooting.{Rooting}
use Rattle.lineages.specs.Checks.{species_test, count_test, records_test, rooting_test}
use Rattle.lineages.specs.InOrder.{Shaped}
use Rattle.lineages.specs.Work.{shape_tests, genes_tests, said}
use Rattle.lineages.proofs.Verdicts.{NoneGives, verdict_both, refused_first, shape-passed, shaped}
use Rattle.sheet.specs.Promise.{sheet_tests}
use Rattle.sheet.specs.Work.{Passed}

-- where no test refuses, the place is 0 too
none_said : (l : List Test) → NoneGives 0 l → (verdict l).number ≡ 0 → verdict l ≡ said 0 0
unfolding verdict NoneGives
none_said [] numbered e = refl
none_said (t ∷ l) numbered e = go t.fault e (none_said l numbered.1)
  where
    go : (b : Bool) → (verdict_by b t (verdict l)).number ≡ 0 → ((verdict l).number ≡ 0 → verdict l ≡ said 0 0) → verdict_by b t (verdict l) ≡ said 0 0
    go true h later = absurd (numbered.0 h)
    go false h later = later h

module _ (rooting : Rooting) (n : ℕ) (genes : List ℕ) (count : ℕ) where
  -- 1, 11 and 12 are judged first
  in_two : sheet_tests rooting n genes count ≡ shape_tests n genes count ++ genes_tests rooting n (records_in count genes)
  unfolding sheet_tests shape_tests genes_tests
  in_two = refl

  pub refused-shape :
      (e : Refusal) → said (fault_number e.fault) e.place ≡ verdict (shape_tests n genes count) → said (fault_number e.fault) e.place ≡ verdict (sheet_tests rooting n genes count)
  refused-shape e told = rw in_two (sym (refused_first (shape_tests n genes count) (genes_tests rooting n (records_in count genes)) e told))

  -- then the gene records
  genes-decide : Shaped n genes count → verdict (sheet_tests rooting n genes count) ≡ verdict (genes_tests rooting n (records_in count genes))
  genes-decide s = rw in_two (shape-passed n genes count (genes_tests rooting n (records_in count genes)) s)

  pub judged-genes : {v : Verdict} → Shaped n genes count → v ≡ verdict (genes_tests rooting n (records_in count genes)) → v ≡ verdict (sheet_tests rooting n genes count)
  judged-genes s told = told ∙ sym (genes-decide s)

  -- where nothing refuses, neither part does
  module _ (passed : Passed rooting n genes count) where
    shape_numbered : NoneGives 0 (shape_tests n genes count)
    unfolding NoneGives shape_tests species_test count_test length_test
    shape_numbered = ((λ z. omega arith), ((λ z. omega arith), ((λ z. omega arith), tt)))

    genes_numbered : NoneGives 0 (genes_tests rooting n (records_in count genes))
    unfolding NoneGives genes_tests records_test rooting_test
    genes_numbered = ((λ z. omega arith), ((λ z. omega arith), tt))

    both_passed : ((verdict (shape_tests n genes count)).number ≡ 0) × ((verdict (genes_tests rooting n (records_in count genes))).number ≡ 0)
    both_passed = verdict_both (shape_tests n genes count) (genes_tests rooting n (records_in count genes)) shape_numbered (rw in_two at passed)

    pub passed-shape : Shaped n genes count
    passed-shape = shaped n genes count (none_said (shape_tests n genes count) shape_numbered both_passed.0)

    pub passed-genes : said 0 0 ≡ verdict (genes_tests rooting n (records_in count genes))
    passed-genes = sym (none_said (genes_tests rooting n (records_in count genes)) genes_numbered both_passed.1)

-- nothing refuses where the call says so
pub passed-said : (rooting : Rooting) (n : ℕ) (genes : List ℕ) (count : ℕ) → said 0 0 ≡ verdict (sheet_tests rooting n genes count) → Passed rooting n genes count
passed-said rooting n genes count told = ap (λ (v : Verdict). v.number) (sym told)
