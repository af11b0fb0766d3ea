-- The promise of the search with ties, one law for each way through it.
use Prim.Native.Nat.{ℕ, zero, suc, ◌^◌, ◌≤◌, ◌<◌}
use mathlib.Core.Path.{◌≡◌, refl, sym, ap, ap₂, ◌∙◌}
use mathlib.Core.Logic.{◌⊎◌, inl, inr}
use mathlib.Core.List.{List, [], ◌∷◌, ◌++◌}
use native.Mathlib.Decide.{ℕ_discrete}
use native.Mathlib.Omega.{arith}
use lib.ListN.{length, get_or, take, drop}
use borrow.Author.Tests.{ltb-false, lt-ltb, le-ltb}
use Rattle.clusters.specs.Sets.{whole}
use Rattle.clusters.proofs.Sets.{whole_below}
use Rattle.trees.specs.Records.{records_in}
use Rattle.roster.specs.Verdict.{Test, Verdict, verdict, length_test, value_by}
use Rattle.weights.specs.Count.{weight}
use Rattle.weights.specs.declared.Rooting.{Rooting}
use Rattle.weights.proofs.Sums.{valid-countable}
use Rattle.weights.proofs.RunningSums.{weight-small}
use Rattle.lineages.specs.Checks.{species_test, count_test}
use Rattle.lineages.specs.InOrder.{Shaped}
use Rattle.lineages.specs.Work.{shape_tests, said}
use Rattle.lineages.proofs.Verdicts.{NoneGives, verdict_first, verdict-passed, verdict-never, shape-passed}
use Rattle.lineages.proofs.Calls.{genes_then}
use mathlib.Core.Option.{Option, some, none}
use Rattle.splits.specs.BinaryTrees.{Binary}
use Rattle.splits.specs.Least.{best}
use Rattle.splits.specs.Ties.{tie_entry}
use Rattle.splits.proofs.Ties.{tie_none}
use Rattle.terms.specs.Allowed.{allowed_in}
use Rattle.tables.specs.Work.{Tabled, Tieable, FillsTies}
use Rattle.tables.proofs.TieTable.{filled_at, filled-tabled}
use Rattle.splits.specs.Best.{best_for, found_by}
use Rattle.terms.specs.Answers.{without, found_or}
use Rattle.terms.specs.declared.Found.{Found}
use Rattle.terms.specs.Allowed.{allowed_test}
use Rattle.search.specs.Promise.{search_tests, filled_by, Finds}
use Rattle.search.specs.TiesPromise.{ties_for, ties_tests, with_ties, without_ties, FindsTies}
use Rattle.search.specs.Candidates.{Accepted}
use Rattle.search.specs.declared.tied.Tied.{Tied}
use Rattle.search.proofs.Accepted.{none_gives, accepted, accepts}
use Rattle.search.proofs.Demand.{accepted-says, accepted_of}
use Rattle.terms.proofs.Refusing.{refused-told}
use Rattle.search.proofs.Finding.{refused-kept}

-- a number that is neither of two
pub neither : {m a b : ℕ} → (m ≡ a → ⊥) → (m ≡ b → ⊥) → (m ≡ a) ⊎ (m ≡ b) → ⊥
neither f g (inl e) = f e
neither f g (inr e) = g e

-- ---- the first tests

-- those of shape, and the third table's
abbrev ties_shape : ℕ → List ℕ → ℕ → List ℕ → List Test
ties_shape n genes count ties = shape_tests n genes count ++ (length_test (length ties) (2 ^ n) ∷ [])

module _ (n : ℕ) (genes : List ℕ) (count : ℕ) (ties : List ℕ) where
  -- 12 where the third table is too short
  pub ties-short : Shaped n genes count → length ties < 2 ^ n → verdict (ties_shape n genes count ties) ≡ said 12 0
  unfolding verdict length_test
  ties-short s l = shape-passed n genes count (length_test (length ties) (2 ^ n) ∷ []) s ∙ rw (lt-ltb (length ties) (2 ^ n) l)

  -- and no fault where it is long enough
  pub ties-passed : Shaped n genes count → 2 ^ n ≤ length ties → verdict (ties_shape n genes count ties) ≡ said 0 0
  unfolding verdict length_test
  ties-passed s l = shape-passed n genes count (length_test (length ties) (2 ^ n) ∷ []) s ∙ rw (le-ltb (length ties) (2 ^ n) l)

  -- where they find no fault, the third table is long enough
  pub ties-fit : {number place : ℕ} → verdict (ties_shape n genes count ties) ≡ said number place → number ≡ 0 → 2 ^ n ≤ length ties
  unfolding shape_tests species_test count_test length_test
  ties-fit e z =
      let a = verdict-passed _ _ (λ k. omega arith) (ap (λ (v : Verdict). v.number) e ∙ z) in
      let b = verdict-passed _ _ (λ k. omega arith) a.1 in
      let c = verdict-passed _ _ (λ k. omega arith) b.1 in
      ltb-false (length ties) (2 ^ n) (verdict-passed _ _ (λ k. omega arith) c.1).0

-- ---- a search that has filled both tables

module _ {rooting : Rooting} {n : ℕ} {genes : List ℕ} {count : ℕ} {allowed scores splits : List ℕ} {found : Found} {scores_after splits_after : List ℕ}
    (f : Finds rooting n genes count allowed scores splits found scores_after splits_after) (filled : (found.number ≡ 0) ⊎ (found.number ≡ 14)) where
  passed : Accepted rooting n genes count allowed scores splits
  passed = accepted_of f filled

  pub few_species : n ≤ 16
  few_species = passed.in_order.shaped.few_species

  -- each entry is that of the best tree of its cluster
  pub tables-filled : Tabled (2 ^ n) (weight rooting (records_in count genes)) (allowed_in n allowed) scores_after splits_after
  unfolding best_for
  tables-filled =
      let z = accepts rooting n genes count allowed scores splits passed in
      let order = passed.in_order in
      filled-tabled n (weight rooting (records_in count genes)) (allowed_in n allowed) scores splits
      (λ b. omega (arith, weight-small rooting genes b order.shaped.few_genes (valid-countable few_species order.valid)))
      (rw z at f.score_table)
      (rw z at f.split_table)

-- ---- the ways

-- a refusal answers no ties
refused_none : (k : ℕ) → (k ≡ 0 → ⊥) → (m : ℕ) → 0 ≡ value_by k m
refused_none zero f m = absurd (f refl)
refused_none (suc k) f m = refl

-- the tests of the search, with one more behind those of shape
abbrev pub third_table : Test → List Test → List Test
third_table t l = take 3 l ++ (t ∷ drop 3 l)

module _ (rooting : Rooting) (n : ℕ) (genes : List ℕ) (count : ℕ) (allowed scores splits ties : List ℕ) where
  pub ties-tests : ties_tests rooting n genes count allowed scores splits ties
      ≡ third_table (length_test (length ties) (2 ^ n)) (search_tests rooting n genes count allowed scores splits)
  unfolding ties_tests search_tests
  ties-tests = refl

  -- with a third table that is long enough, the tests say what those of the search say
  pub ties-verdict : 2 ^ n ≤ length ties
      → verdict (ties_tests rooting n genes count allowed scores splits ties) ≡ verdict (search_tests rooting n genes count allowed scores splits)
  unfolding ties_tests search_tests verdict length_test
  ties-verdict l = rw (le-ltb (length ties) (2 ^ n) l)

  -- the third table's test gives no other number than the test of the gene entries
  pub none_gives_ties : (m : ℕ) → NoneGives m (search_tests rooting n genes count allowed scores splits)
      → NoneGives m (ties_tests rooting n genes count allowed scores splits ties)
  unfolding search_tests ties_tests length_test NoneGives
  none_gives_ties m h = (h.0, (h.1.0, (h.1.1.0, (h.1.1.0, h.1.1.1))))

  -- a fault that the first tests find decides
  first_refused : {number place : ℕ} → verdict (ties_shape n genes count ties) ≡ said number place → (number ≡ 0 → ⊥)
      → verdict (ties_tests rooting n genes count allowed scores splits ties) ≡ said number place
  unfolding ties_tests shape_tests
  first_refused e f =
      verdict_first (ties_shape n genes count ties)
      (length_test (length allowed) (2 ^ n) ∷ length_test (length scores) (2 ^ n) ∷ length_test (length splits) (2 ^ n)
      ∷ genes_then rooting n genes count (allowed_test n allowed ∷ []))
      e f

  -- where no test finds one, the third table is long enough
  pub tests-fit : (verdict (ties_tests rooting n genes count allowed scores splits ties)).number ≡ 0 → 2 ^ n ≤ length ties
  tests-fit e = go (ℕ_discrete (verdict (ties_shape n genes count ties)).number 0)
    where
      go : Dec ((verdict (ties_shape n genes count ties)).number ≡ 0) → 2 ^ n ≤ length ties
      go (yes z) = ties-fit n genes count ties refl z
      go (no f) = absurd (f (ap (λ (v : Verdict). v.number) (sym (first_refused refl f)) ∙ e))

  module _ {r : Tied} {scores_after splits_after ties_after : List ℕ} where
    -- a refusal before the search: no tree, and all tables as they were lent
    pub ties-refused : {number place : ℕ} → verdict (ties_shape n genes count ties) ≡ said number place → (number ≡ 0 → ⊥) → r ≡ with_ties (without number place) 0
        → scores_after ≡ scores → splits_after ≡ splits → ties_after ≡ ties
        → FindsTies rooting n genes count allowed scores splits ties r scores_after splits_after ties_after
    ties-refused {number} {place} e f p q s t =
        let v = first_refused e f in
        record {
          reply = p ∙ rw v (ap₂ with_ties
              (refused-told number place f (found_by rooting (best_for rooting n (records_in count genes) allowed (whole n)) (records_in count genes)))
              (refused_none number f (ties_for rooting n (records_in count genes) allowed (whole n))));
          score_table = q ∙ rw v (refused-kept number n f _ scores);
          split_table = s ∙ rw v (refused-kept number n f _ splits);
          tie_table = t ∙ rw v (refused-kept number n f _ ties);
        }

    -- what the search said, where the third table is long enough
    ties_of_found : {found : Found} {m : ℕ} → 2 ^ n ≤ length ties → Finds rooting n genes count allowed scores splits found scores_after splits_after
        → r ≡ with_ties found m
        → m ≡ value_by (verdict (search_tests rooting n genes count allowed scores splits)).number (ties_for rooting n (records_in count genes) allowed (whole n))
        → ties_after ≡ filled_by (verdict (search_tests rooting n genes count allowed scores splits)).number n
        (λ a. ties_for rooting n (records_in count genes) allowed a) ties
        → FindsTies rooting n genes count allowed scores splits ties r scores_after splits_after ties_after
    ties_of_found l f p k t =
        let v = ties-verdict l in
        record {
          reply = p ∙ rw v (ap₂ with_ties f.reply k);
          score_table = f.score_table ∙ rw v;
          split_table = f.split_table ∙ rw v;
          tie_table = t ∙ rw v;
        }

    -- a refusal of the search
    pub ties-kept : {found : Found} → 2 ^ n ≤ length ties → Finds rooting n genes count allowed scores splits found scores_after splits_after
        → ((found.number ≡ 0) ⊎ (found.number ≡ 14) → ⊥) → r ≡ with_ties found 0 → ties_after ≡ ties
        → FindsTies rooting n genes count allowed scores splits ties r scores_after splits_after ties_after
    ties-kept l f never p t =
        let refused : (verdict (search_tests rooting n genes count allowed scores splits)).number ≡ 0 → ⊥ =
        λ z. never (accepted-says f (accepted rooting n genes count allowed scores splits z))
        in
        ties_of_found l f p (refused_none _ refused (ties_for rooting n (records_in count genes) allowed (whole n)))
        (t ∙ refused-kept _ n refused _ ties)

  -- ---- the search has filled both tables

  module _ {found : Found} {scores_after splits_after : List ℕ} (f : Finds rooting n genes count allowed scores splits found scores_after splits_after)
      (filled : (found.number ≡ 0) ⊎ (found.number ≡ 14)) where
    -- the ties can be counted
    pub ties-countable : 2 ^ n ≤ length ties → length scores_after ≡ length scores → length splits_after ≡ length splits → Tieable n scores_after splits_after ties
    ties-countable l p q =
        let a = (passed f filled).scores_fit in
        let b = (passed f filled).splits_fit in
        record {
          few = few_species f filled;
          scores_long = omega arith;
          splits_long = omega arith;
          ties_long = l;
          weights = weight rooting (records_in count genes);
          allowed = allowed_in n allowed;
          tabled = tables-filled f filled;
        }

    -- and are
    pub ties-counted : {r : Tied} {ties_after : List ℕ} {all : ℕ} → 2 ^ n ≤ length ties → FillsTies n scores_after splits_after ties ties_after → all ≡ whole n
        → r ≡ with_ties found (get_or ties_after all 0) → FindsTies rooting n genes count allowed scores splits ties r scores_after splits_after ties_after
    unfolding ties_for
    ties-counted {ties_after = ties_after} {all = all} l fills is p =
        let z = accepts rooting n genes count allowed scores splits (passed f filled) in
        let entry : ℕ → ℕ = λ a. tie_entry (weight rooting (records_in count genes)) (allowed_in n allowed) a in
        let t = fills (weight rooting (records_in count genes)) (allowed_in n allowed) (tables-filled f filled) in
        let of_whole : get_or ties_after all 0 ≡ entry (whole n) = ap₂ (λ k b. get_or k b 0) t is ∙ filled_at entry n ties (whole n) (whole_below n) in
        ties_of_found l f p (of_whole ∙ rw z) (t ∙ rw z)

    -- and there are none where there is no tree
    pub ties-none : {r : Tied} {ties_after : List ℕ} → (found.number ≡ 0 → ⊥) → 2 ^ n ≤ length ties → FillsTies n scores_after splits_after ties ties_after
        → r ≡ with_ties found 0 → FindsTies rooting n genes count allowed scores splits ties r scores_after splits_after ties_after
    unfolding ties_for best_for
    ties-none {ties_after = ties_after} no_tree l fills p =
        let z = accepts rooting n genes count allowed scores splits (passed f filled) in
        let w = weight rooting (records_in count genes) in
        let t = fills w (allowed_in n allowed) (tables-filled f filled) in
        let none_there = go (best w (allowed_in n allowed) (whole n)) refl (rw z at f.reply) in
        ties_of_found l f p (sym (tie_none w (allowed_in n allowed) (whole n) none_there) ∙ rw z) (t ∙ rw z)
      where
        go : (o : Option Binary) → best (weight rooting (records_in count genes)) (allowed_in n allowed) (whole n) ≡ o
            → found ≡ found_by rooting (best (weight rooting (records_in count genes)) (allowed_in n allowed) (whole n)) (records_in count genes)
            → best (weight rooting (records_in count genes)) (allowed_in n allowed) (whole n) ≡ none
        go none e reply = e
        go (some u) e reply = absurd (no_tree (ap (λ x. x.number) reply ∙ ap (λ o. (found_by rooting o (records_in count genes)).number) e))

  -- ---- what it says of the search

  -- with a third table that is long enough, reply and both tables are those of `search`
  pub ties_find : {r : Tied} {scores_after splits_after ties_after : List ℕ}
      → FindsTies rooting n genes count allowed scores splits ties r scores_after splits_after ties_after
      → 2 ^ n ≤ length ties → Finds rooting n genes count allowed scores splits (without_ties r) scores_after splits_after
  ties_find f l =
      let v = ties-verdict l in
      record { reply = ap without_ties f.reply ∙ rw v; score_table = f.score_table ∙ rw v; split_table = f.split_table ∙ rw v }

  -- 0 and 14 come from the search alone: no test finds a fault
  pub tests-passed : {r : Tied} {scores_after splits_after ties_after : List ℕ}
      → FindsTies rooting n genes count allowed scores splits ties r scores_after splits_after ties_after
      → (r.number ≡ 0) ⊎ (r.number ≡ 14) → (verdict (ties_tests rooting n genes count allowed scores splits ties)).number ≡ 0
  tests-passed {r} f d = go (verdict (ties_tests rooting n genes count allowed scores splits ties)).number refl d
    where
      told : (k : ℕ) → (verdict (ties_tests rooting n genes count allowed scores splits ties)).number ≡ suc k → r.number ≡ suc k
      told k e =
          let place = (verdict (ties_tests rooting n genes count allowed scores splits ties)).place in
          let found = found_by rooting (best_for rooting n (records_in count genes) allowed (whole n)) (records_in count genes) in
          ap (λ x. x.number) f.reply ∙ ap (λ m. (found_or m place found).number) e

      go : (k : ℕ) → (verdict (ties_tests rooting n genes count allowed scores splits ties)).number ≡ k → (r.number ≡ 0) ⊎ (r.number ≡ 14) → k ≡ 0
      go zero e d = refl
      go (suc k) e (inl z) = absurd (omega (arith, told k e))
      go (suc k) e (inr z) =
          absurd (verdict-never 14 (ties_tests rooting n genes count allowed scores splits ties) (λ z. omega arith)
          (none_gives_ties 14 (none_gives rooting n genes count allowed scores splits 14 refl))
          (omega (arith, told k e)))
