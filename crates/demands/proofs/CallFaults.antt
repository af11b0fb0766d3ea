-- "Faulty input is turned away with a number and a place, both fixed in advance": for judging a roster, for writing, and for every call on gene records.
use Prim.Native.Nat.{ℕ, zero, suc, ◌*◌, ◌^◌, ◌≤◌}
use mathlib.Core.Path.{◌≡◌, refl, sym, ap, ◌∙◌}
use mathlib.Core.Logic.{◌↔◌}
use mathlib.Core.Bool.{Bool, true, false, ◌&&◌, true≢false}
use mathlib.Core.Option.{Option, some, none}
use mathlib.Core.List.{List, [], ◌∷◌, ◌++◌}
use native.Mathlib.Omega.{arith}
use lib.ListN.{length}
use lib.Dec.{leb}
use borrow.Author.Tests.{leb-true, not-false}
use Rattle.clusters.specs.Sets.{whole}
use Rattle.trees.specs.Records.{records_in}
use Rattle.trees.proofs.Booleans.{both}
use Rattle.roster.specs.Roster.{names, faulty, first_fault}
use Rattle.roster.specs.Judged.{species_most, Judged, judged_by}
use Rattle.roster.specs.Verdict.{Test, Verdict, verdict, length_test}
use Rattle.roster.specs.declared.Reply.{Reply}
use Rattle.texts.specs.Writing.{written}
use Rattle.writer.specs.Promise.{roster_test, write_tests, Writes}
use Rattle.writer.proofs.RosterNames.{good-names}
use Rattle.weights.specs.declared.Rooting.{Rooting}
use Rattle.lineages.specs.Checks.{species_test, count_test, records_test, rooting_test, weight_tests, score_tests, mark_tests}
use Rattle.lineages.specs.Promise.{Weighs, Scores, Marks}
use Rattle.lineages.specs.Work.{said}
use Rattle.lineages.proofs.Verdicts.{NoneGives, verdict_first}
use Rattle.sheet.specs.Promise.{sheet_tests, Sheets}
use Rattle.sheet.specs.declared.Entry.{Entry}
use Rattle.splits.specs.BinaryTrees.{Binary}
use Rattle.splits.specs.Best.{best_for, found_by}
use Rattle.terms.specs.declared.Found.{Found}
use Rattle.terms.specs.Allowed.{allowed_test}
use Rattle.plain.specs.Promise.{plain_test, plain_tests, FindsPlainly}
use Rattle.search.specs.Promise.{search_tests, Finds}
use Rattle.terms.specs.Answers.{found_or}
use Rattle.search.specs.Candidates.{Candidate}
use Rattle.search.specs.TiesPromise.{ties_tests, without_ties, FindsTies}
use Rattle.search.specs.declared.tied.Tied.{Tied}
use Rattle.search.proofs.Accepted.{none_gives}
use Rattle.search.proofs.Tying.{none_gives_ties}
use Rattle.search.proofs.Demand.{found-answers, none_competes}
use Rattle.counts.specs.Promise.{counts_text, write_counts_tests, WritesCounts}
use Rattle.demands.specs.CallFaults.{RosterFault, RootingFault, NoTreeFault}
use Rattle.demands.specs.CallFaults.{WriteFault, WriteCountsFault, WeightFault, ScoreFault, MarkFault, BehindLengths, SearchRest, SearchFault, TiesFault, PlainFault, SheetFault}
use Rattle.demands.specs.CallFaults.NoTreeFault.{without_tree}
use Rattle.demands.proofs.FirstFaults.{Exact, Meets, exact_last, exact_next, refused_at_lem, one_fault, behind-passed}
use Rattle.demands.proofs.TestFaults.{roster-met, species-met, over_seven_met, count-met, length-met, species_record_met}
use Rattle.demands.proofs.TestFaults.{records-met, records-passed, rooting-met, record_met, cluster-met, allowed-met}

-- ---- judging a roster

-- "1 | roster faulty | first byte at fault": refused with a number at a place exactly where that fault stands
pub judge-refused_at :
    (line : List ℕ) (r : Reply) → Judged line r → (number place : ℕ)
    → ((r.number ≡ number) × (r.place ≡ place) × (number ≡ 0 → ⊥)) ↔ RosterFault line number place
unfolding Judged roster_test verdict
judge-refused_at line r j =
    let e = ap (λ (r : Reply). said r.number r.place) j ∙ told (faulty species_most line) in
    refused_at_lem (exact_last (roster-met line)) (ap (λ (v : Verdict). v.number) e) (ap (λ (v : Verdict). v.place) e)
  where
    told :
        (b : Bool)
        → said (judged_by b species_most line).number (judged_by b species_most line).place
        ≡ verdict (record { fault = b; number = 1; place = first_fault species_most line } ∷ [])
    told true = refl
    told false = refl

-- ---- writing

good_few : (line : List ℕ) → (roster_test line).fault ≡ false → length (names line) ≤ 16
unfolding roster_test
good_few line e = (good-names line e).few

module _ (line tree out : List ℕ) where
  pub write_exact : Exact (verdict (write_tests line tree out)) (WriteFault line tree out)
  unfolding write_tests
  write_exact =
      exact_next _ (roster-met line) (λ good.
      exact_next _ (record_met line tree (good_few line good)) (λ valid.
      exact_last (length-met out (length (written (names line) tree)))))

  -- "The writer: 1, 15, 12": refused with a number at a place exactly where that fault stands
  pub write_refused_at :
      (r : Reply) (after : List ℕ) → Writes line tree out r after → (number place : ℕ)
      → ((r.number ≡ number) × (r.place ≡ place) × (number ≡ 0 → ⊥)) ↔ WriteFault line tree out number place
  write_refused_at r after w = refused_at_lem write_exact (ap (λ (r : Reply). r.number) w.answer) (ap (λ (r : Reply). r.place) w.answer)

  -- "both fixed in advance": one number and place at the most
  pub one_write_fault : {k p k' p' : ℕ} → WriteFault line tree out k p → WriteFault line tree out k' p' → (k ≡ k') × (p ≡ p')
  one_write_fault = one_fault write_exact

-- ---- writing a tree with branch counts

module _ (line genes : List ℕ) (count : ℕ) (species out : List ℕ) where
  pub write_counts_exact : Exact (verdict (write_counts_tests line genes count species out)) (WriteCountsFault line genes count species out)
  unfolding write_counts_tests
  write_counts_exact =
      exact_next _ (roster-met line) (λ good.
      exact_next _ (count-met count) (λ c.
      exact_next _ (length-met genes (32 * count)) (λ l.
      exact_next _ (species_record_met (length (names line)) species (good_few line good)) (λ t.
      exact_next _ (records-met (length (names line)) (good_few line good) (records_in count genes)) (λ v.
      exact_last (length-met out (length (counts_text (names line) genes count species))))))))

  -- "1, 11, 12 (genes), 16, 15, 12 (the text)" (#114): refused with a number at a place exactly where that fault stands
  pub write_counts_refused_at :
      (r : Reply) (after : List ℕ) → WritesCounts line genes count species out r after → (number place : ℕ)
      → ((r.number ≡ number) × (r.place ≡ place) × (number ≡ 0 → ⊥)) ↔ WriteCountsFault line genes count species out number place
  write_counts_refused_at r after w = refused_at_lem write_counts_exact (ap (λ (r : Reply). r.number) w.answer) (ap (λ (r : Reply). r.place) w.answer)

  pub one_write_counts_fault :
      {k p k' p' : ℕ} → WriteCountsFault line genes count species out k p → WriteCountsFault line genes count species out k' p' → (k ≡ k') × (p ≡ p')
  one_write_counts_fault = one_fault write_counts_exact

-- ---- the calls that take gene records and do not search

-- where 1 does not stand there are at most sixteen species
pub few_species : (n : ℕ) → (species_test n).fault ≡ false → n ≤ 16
unfolding species_test
few_species n e = leb-true n 16 (both (leb 1 n) (leb n 16) (not-false (leb 1 n && leb n 16) e)).1

module _ (rooting : Rooting) (n : ℕ) (genes : List ℕ) (count : ℕ) where
  -- 19, behind 15
  rooted-met :
      n ≤ 16 → (records_test n (records_in count genes)).fault ≡ false
      → Meets (rooting_test rooting n (records_in count genes)) (RootingFault rooting n (records_in count genes))
  rooted-met few v = rooting-met n few rooting (records_in count genes) (records-passed n few (records_in count genes) v)

  -- ---- a sheet of candidate trees

  pub sheet_exact : Exact (verdict (sheet_tests rooting n genes count)) (SheetFault rooting n genes count)
  unfolding sheet_tests
  sheet_exact =
      exact_next _ (species-met n) (λ s.
      exact_next _ (count-met count) (λ c.
      exact_next _ (length-met genes (32 * count)) (λ l.
      exact_next _ (records-met n (few_species n s) (records_in count genes)) (λ v.
      exact_last (rooted-met (few_species n s) v)))))

  -- "First 1, 11, 12 and 15 refuse the whole call" (#107): neither the records nor the entries are asked
  pub sheet_refused_at :
      (records : List ℕ) (entries : List Entry) (r : Reply) (after : List Entry) → Sheets rooting n genes count records entries r after → (number place : ℕ)
      → ((r.number ≡ number) × (r.place ≡ place) × (number ≡ 0 → ⊥)) ↔ SheetFault rooting n genes count number place
  sheet_refused_at records entries r after w = refused_at_lem sheet_exact (ap (λ (r : Reply). r.number) w.reply) (ap (λ (r : Reply). r.place) w.reply)

  pub one_sheet_fault : {k p k' p' : ℕ} → SheetFault rooting n genes count k p → SheetFault rooting n genes count k' p' → (k ≡ k') × (p ≡ p')
  one_sheet_fault = one_fault sheet_exact

  -- ---- weighing, scoring and marking

  module _ (a : ℕ) where
    pub weight-exact : Exact (verdict (weight_tests rooting n genes count a)) (WeightFault rooting n genes count a)
    unfolding weight_tests
    weight-exact =
        exact_next _ (species-met n) (λ s.
        exact_next _ (count-met count) (λ c.
        exact_next _ (length-met genes (32 * count)) (λ l.
        exact_next _ (records-met n (few_species n s) (records_in count genes)) (λ v.
        exact_next _ (rooted-met (few_species n s) v) (λ u.
        exact_last (cluster-met n a))))))

    -- "All others: 1, 11, 12, 16, 15, 13, 14, each where it applies": weighing
    pub weigh_refused_at :
        (r : Reply) → Weighs rooting n genes count a r → (number place : ℕ)
        → ((r.number ≡ number) × (r.place ≡ place) × (number ≡ 0 → ⊥)) ↔ WeightFault rooting n genes count a number place
    unfolding Weighs
    weigh_refused_at r w = refused_at_lem weight-exact (ap (λ (r : Reply). r.number) w) (ap (λ (r : Reply). r.place) w)

    pub one_weight_fault : {k p k' p' : ℕ} → WeightFault rooting n genes count a k p → WeightFault rooting n genes count a k' p' → (k ≡ k') × (p ≡ p')
    one_weight_fault = one_fault weight-exact

  module _ (species : List ℕ) where
    pub score-exact : Exact (verdict (score_tests rooting n genes count species)) (ScoreFault rooting n genes count species)
    unfolding score_tests
    score-exact =
        exact_next _ (species-met n) (λ s.
        exact_next _ (count-met count) (λ c.
        exact_next _ (length-met genes (32 * count)) (λ l.
        exact_next _ (species_record_met n species (few_species n s)) (λ t.
        exact_next _ (records-met n (few_species n s) (records_in count genes)) (λ v.
        exact_last (rooted-met (few_species n s) v))))))

    -- the same: scoring
    pub score-refused_at :
        (r : Reply) → Scores rooting n genes count species r → (number place : ℕ)
        → ((r.number ≡ number) × (r.place ≡ place) × (number ≡ 0 → ⊥)) ↔ ScoreFault rooting n genes count species number place
    unfolding Scores
    score-refused_at r w = refused_at_lem score-exact (ap (λ (r : Reply). r.number) w) (ap (λ (r : Reply). r.place) w)

    pub one_score_fault : {k p k' p' : ℕ} → ScoreFault rooting n genes count species k p → ScoreFault rooting n genes count species k' p' → (k ≡ k') × (p ≡ p')
    one_score_fault = one_fault score-exact

  module _ (out : List ℕ) where
    pub mark_exact : Exact (verdict (mark_tests rooting n genes count out)) (MarkFault rooting n genes count out)
    unfolding mark_tests
    mark_exact =
        exact_next _ (species-met n) (λ s.
        exact_next _ (count-met count) (λ c.
        exact_next _ (length-met genes (32 * count)) (λ l.
        exact_next _ (length-met out (2 ^ n)) (λ o.
        exact_next _ (records-met n (few_species n s) (records_in count genes)) (λ v.
        exact_last (rooted-met (few_species n s) v))))))

    -- the same: marking
    pub mark_refused_at :
        (r : Reply) (after : List ℕ) → Marks rooting n genes count out r after → (number place : ℕ)
        → ((r.number ≡ number) × (r.place ≡ place) × (number ≡ 0 → ⊥)) ↔ MarkFault rooting n genes count out number place
    mark_refused_at r after w = refused_at_lem mark_exact (ap (λ (r : Reply). r.number) w.reply) (ap (λ (r : Reply). r.place) w.reply)

    pub one_mark_fault : {k p k' p' : ℕ} → MarkFault rooting n genes count out k p → MarkFault rooting n genes count out k' p' → (k ≡ k') × (p ≡ p')
    one_mark_fault = one_fault mark_exact

-- ---- searching

-- 14 as a test behind the others: there is no best tree
abbrev missing : Option Binary → Bool
missing none = true
missing (some t) = false

abbrev tree_test : Option Binary → Test
tree_test best = record { fault = missing best; number = 14; place = 0 }

-- the number and the place of a reply
abbrev replied : Found → Verdict
replied r = said r.number r.place

-- "14 | no binary tree over the allowed clusters | 0"
tree-met :
    (rooting : Rooting) (n : ℕ) (genes : List (List ℕ)) (allowed : List ℕ) → n ≤ 16
    → Meets (tree_test (best_for rooting n genes allowed (whole n))) (NoTreeFault n allowed)
tree-met rooting n genes allowed few =
    record { numbered = λ z. omega arith; found = λ e. without_tree (found (best_for rooting n genes allowed (whole n)) refl e); only = only }
  where
    found : (best : Option Binary) → best_for rooting n genes allowed (whole n) ≡ best → missing best ≡ true → (c : List ℕ) → Candidate n allowed c → ⊥
    found none b e = none_competes rooting n genes allowed few b
    found (some t) b e = absurd (true≢false (sym e))

    is_missing : (best : Option Binary) → best_for rooting n genes allowed (whole n) ≡ best → ((c : List ℕ) → Candidate n allowed c → ⊥) → missing best ≡ true
    is_missing none b f = refl
    is_missing (some t) b f = absurd (f _ (found-answers rooting n genes allowed few t b).competes)

    only : {k p : ℕ} → NoTreeFault n allowed k p → (missing (best_for rooting n genes allowed (whole n)) ≡ true) × (k ≡ 14) × (p ≡ 0)
    only (without_tree f) = (is_missing (best_for rooting n genes allowed (whole n)) refl f, refl, refl)

-- a reply has the number and the place that the tests say, 14 behind them
reply-said :
    (l : List Test) → NoneGives 0 l → (rooting : Rooting) (best : Option Binary) (genes : List (List ℕ))
    → replied (found_or (verdict l).number (verdict l).place (found_by rooting best genes)) ≡ verdict (l ++ (tree_test best ∷ []))
unfolding verdict
reply-said l numbered rooting best genes = go (verdict l).number (verdict l).place refl
  where
    told : (o : Option Binary) → replied (found_by rooting o genes) ≡ verdict (tree_test o ∷ [])
    told none = refl
    told (some t) = refl

    go : (k q : ℕ) → verdict l ≡ said k q → replied (found_or k q (found_by rooting best genes)) ≡ verdict (l ++ (tree_test best ∷ []))
    go zero q e = told best ∙ sym (behind-passed l (tree_test best ∷ []) numbered (ap (λ (v : Verdict). v.number) e))
    go (suc k) q e = sym (verdict_first l (tree_test best ∷ []) e (λ z. omega arith))

module _ (rooting : Rooting) (n : ℕ) (genes : List ℕ) (count : ℕ) (allowed : List ℕ) where
  abbrev best : Option Binary
  best = best_for rooting n (records_in count genes) allowed (whole n)

  -- the tests behind the lengths, 14 among them
  abbrev last_tests : List Test
  last_tests =
      records_test n (records_in count genes) ∷ rooting_test rooting n (records_in count genes) ∷ allowed_test n allowed ∷ tree_test best ∷ []

  last_exact : n ≤ 16 → Exact (verdict last_tests) (BehindLengths rooting n genes count allowed)
  last_exact few =
      exact_next _ (records-met n few (records_in count genes)) (λ v.
      exact_next _ (rooted-met rooting n genes count few v) (λ u.
      exact_next _ (allowed-met n allowed) (λ b.
      exact_last (tree-met rooting n (records_in count genes) allowed few))))

  -- ---- the engine that goes through all trees

  abbrev all_plain_tests : List Test
  all_plain_tests = plain_tests rooting n genes count allowed ++ (tree_test best ∷ [])

  pub plain-exact : Exact (verdict all_plain_tests) (PlainFault rooting n genes count allowed)
  unfolding plain_tests
  plain-exact =
      exact_next _ (species-met n) (λ s.
      exact_next _ (over_seven_met n) (λ m.
      exact_next _ (count-met count) (λ c.
      exact_next _ (length-met genes (32 * count)) (λ l.
      exact_next _ (length-met allowed (2 ^ n)) (λ o.
      last_exact (few_species n s))))))

  -- no test of it has number 0
  plain-numbered : NoneGives 0 (plain_tests rooting n genes count allowed)
  unfolding plain_tests plain_test species_test count_test length_test records_test rooting_test allowed_test NoneGives
  plain-numbered = (
    λ z. omega arith,
    (λ z. omega arith, (λ z. omega arith, (λ z. omega arith, (λ z. omega arith, (λ z. omega arith, (λ z. omega arith, (λ z. omega arith, tt))))))),
  )

  -- the same, with 17 "straight after 1" (#108): going through all trees
  pub plain-refused_at :
      (r : Found) → FindsPlainly rooting n genes count allowed r → (number place : ℕ)
      → ((r.number ≡ number) × (r.place ≡ place) × (number ≡ 0 → ⊥)) ↔ PlainFault rooting n genes count allowed number place
  plain-refused_at r f =
      let e = ap replied f.reply ∙ reply-said (plain_tests rooting n genes count allowed) plain-numbered rooting best (records_in count genes) in
      refused_at_lem plain-exact (ap (λ (v : Verdict). v.number) e) (ap (λ (v : Verdict). v.place) e)

  pub one_plain_fault : {k p k' p' : ℕ} → PlainFault rooting n genes count allowed k p → PlainFault rooting n genes count allowed k' p' → (k ≡ k') × (p ≡ p')
  one_plain_fault = one_fault plain-exact

  module _ (scores splits : List ℕ) where
    -- the tests behind those of shape
    abbrev rest_tests : List Test
    rest_tests =
        length_test (length allowed) (2 ^ n) ∷ length_test (length scores) (2 ^ n) ∷ length_test (length splits) (2 ^ n) ∷ last_tests

    rest-exact : n ≤ 16 → Exact (verdict rest_tests) (SearchRest rooting n genes count allowed scores splits)
    rest-exact few =
        exact_next _ (length-met allowed (2 ^ n)) (λ o.
        exact_next _ (length-met scores (2 ^ n)) (λ p.
        exact_next _ (length-met splits (2 ^ n)) (λ q.
        last_exact few)))

    -- ---- the search

    abbrev all_tests : List Test
    all_tests = search_tests rooting n genes count allowed scores splits ++ (tree_test best ∷ [])

    pub search_exact : Exact (verdict all_tests) (SearchFault rooting n genes count allowed scores splits)
    unfolding search_tests
    search_exact =
        exact_next _ (species-met n) (λ s.
        exact_next _ (count-met count) (λ c.
        exact_next _ (length-met genes (32 * count)) (λ l.
        rest-exact (few_species n s))))

    -- the same: searching
    pub find_refused_at :
        (r : Found) (s p : List ℕ) → Finds rooting n genes count allowed scores splits r s p → (number place : ℕ)
        → ((r.number ≡ number) × (r.place ≡ place) × (number ≡ 0 → ⊥)) ↔ SearchFault rooting n genes count allowed scores splits number place
    find_refused_at r s p f =
        let never = none_gives rooting n genes count allowed scores splits 0 refl in
        let e = ap replied f.reply ∙ reply-said (search_tests rooting n genes count allowed scores splits) never rooting best (records_in count genes) in
        refused_at_lem search_exact (ap (λ (v : Verdict). v.number) e) (ap (λ (v : Verdict). v.place) e)

    pub one_search_fault :
        {k p k' p' : ℕ} → SearchFault rooting n genes count allowed scores splits k p → SearchFault rooting n genes count allowed scores splits k' p'
        → (k ≡ k') × (p ≡ p')
    one_search_fault = one_fault search_exact

    -- ---- the search with ties

    module _ (ties : List ℕ) where
      abbrev all_ties_tests : List Test
      all_ties_tests = ties_tests rooting n genes count allowed scores splits ties ++ (tree_test best ∷ [])

      pub ties-exact : Exact (verdict all_ties_tests) (TiesFault rooting n genes count allowed scores splits ties)
      unfolding ties_tests
      ties-exact =
          exact_next _ (species-met n) (λ s.
          exact_next _ (count-met count) (λ c.
          exact_next _ (length-met genes (32 * count)) (λ l.
          exact_next _ (length-met ties (2 ^ n)) (λ t.
          rest-exact (few_species n s)))))

      -- the same: searching with ties
      pub ties-refused_at :
          (r : Tied) (s p t : List ℕ) → FindsTies rooting n genes count allowed scores splits ties r s p t → (number place : ℕ)
          → ((r.number ≡ number) × (r.place ≡ place) × (number ≡ 0 → ⊥)) ↔ TiesFault rooting n genes count allowed scores splits ties number place
      ties-refused_at r s p t f =
          let never = none_gives_ties rooting n genes count allowed scores splits ties 0 (none_gives rooting n genes count allowed scores splits 0 refl) in
          let e = ap (λ (r : Tied). replied (without_ties r)) f.reply
          ∙ reply-said (ties_tests rooting n genes count allowed scores splits ties) never rooting best (records_in count genes) in
          refused_at_lem ties-exact (ap (λ (v : Verdict). v.number) e) (ap (λ (v : Verdict). v.place) e)

      pub one_ties_fault :
          {k p k' p' : ℕ} → TiesFault rooting n genes count allowed scores splits ties k p → TiesFault rooting n genes count allowed scores splits ties k' p'
          → (k ≡ k') × (p ≡ p')
      one_ties_fault = one_fault ties-exact
