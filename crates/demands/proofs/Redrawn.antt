-- "two texts that differ only in where the root was drawn get equal weights for every cluster" (#106): over the calls, and over the program.
use Prim.Native.Nat.{ℕ, zero, suc, ◌*◌, ◌^◌, ◌≤◌}
use mathlib.Core.Path.{◌≡◌, refl, sym, ap, ap₂, ◌∙◌, fun_ext}
use mathlib.Core.Bool.{Bool, true, false, ◌||◌}
use mathlib.Core.Option.{Option, some, none}
use mathlib.Core.List.Memᴰ.{head as here}
use mathlib.Core.List.Memᴰ.{tail as there}
use mathlib.Core.List.{List, ◌∷◌, ◌++◌, map, Memᴰ}
use native.Mathlib.Omega.{arith}
use lib.ListN.{length, drop}
use Rattle.clusters.specs.Sets.{whole}
use Rattle.labels.specs.Bytes.{one_more}
use Rattle.trees.specs.Lists.{total, up_to}
use Rattle.trees.specs.Tree.{Tree, clusters}
use Rattle.trees.specs.Records.{listed, record_of, records_in, AllValid}
use Rattle.trees.proofs.ValidTest.{Tells}
use Rattle.trees.specs.Unrooted.{may_unroot, Redrawn}
use Rattle.trees.specs.Valid.{among}
use Rattle.trees.proofs.Redrawing.{redrawn-sym, redrawn_on, redrawn-rooted}
use Rattle.roster.specs.Roster.{names}
use Rattle.roster.specs.Verdict.{Test, Verdict, verdict, verdict_by, length_test, reply_of, value_by}
use Rattle.roster.specs.declared.Reply.{Reply}
use Rattle.weights.specs.declared.Rooting.TheVariants.{Unrooted}
use Rattle.weights.specs.Count.{weight, score}
use Rattle.weights.specs.Marks.{shown, flag}
use Rattle.weights.proofs.Joining.{tells_same}
use Rattle.weights.proofs.Sums.{weight_cons}
use Rattle.weights.proofs.UnrootedClusters.{redrawn-clusters, redrawn-extra}
use Rattle.lineages.specs.Checks.{first_failing, first_unresolved, species_test, records_test, rooting_test, weight_tests, score_tests, mark_tests}
use Rattle.lineages.specs.Promise.{Weighs, Scores, Marks, marks, marked_by}
use Rattle.lineages.proofs.FirstBad.{all_valid_none_bad}
use Rattle.lineages.proofs.Verdicts.{verdict-passed}
use Rattle.splits.specs.BinaryTrees.{Binary, clusters_in}
use Rattle.splits.specs.Least.{best, score_of, score_entry, split_entry}
use Rattle.terms.specs.Allowed.{allowed_in}
use Rattle.splits.specs.Best.{best_for, found_by}
use Rattle.splits.specs.Ties.{tie_entry}
use Rattle.terms.specs.declared.Found.{Found}
use Rattle.plain.specs.Promise.{plain_tests, FindsPlainly}
use Rattle.search.specs.Promise.{search_tests, filled_by, Finds}
use Rattle.search.specs.TiesPromise.{ties_for, ties_tests, with_ties, FindsTies}
use Rattle.search.specs.declared.tied.Tied.{Tied}
use Rattle.terms.specs.Answers.{found_or}
use Rattle.search.proofs.Unread.{both_fit}
use Rattle.search.proofs.Dropped.{valid-fit}
use Rattle.outcomes.specs.Outcome.{Outcome, outcome_of, found_with_ties, searched, allowed_by, printed}
use Rattle.report.specs.Program.{program}
use Rattle.report.specs.Promise.{output}
use Rattle.demands.specs.GeneTrees.{OnSome, Enters}
use Rattle.demands.specs.Input.{Holds}
use Rattle.demands.specs.Redrawn.{AllRedrawn, DrawnTwice}
use Rattle.demands.specs.Redrawn.AllRedrawn.{no_trees, beside}
use Rattle.demands.proofs.GeneTrees.{on_own, cluster-small, all_drawn_valid, enters_exactly}
use Rattle.demands.proofs.CallFaults.{few_species}
use Rattle.demands.proofs.Gathering.{records_of, standing_records}
use Rattle.demands.proofs.Taken.{first, searches}

-- ---- tree by tree

same_length : {trees others : List Tree} → AllRedrawn trees others → length (records_of trees) ≡ length (records_of others)
same_length no_trees = refl
same_length (beside r later) = ap suc (same_length later)

module _ {n : ℕ} (few : n ≤ 16) where
  tells_enters : {t : Tree} → OnSome n t → Tells (may_unroot n (record_of (clusters t))) (Enters n t)
  tells_enters o = record { holds = (enters_exactly few o).0; told = (enters_exactly few o).1 }

  enters_too : {t u : Tree} → Redrawn t u → Enters n t → Enters n u
  enters_too r e = record { complete = redrawn_on r e.complete; resolved = redrawn-rooted r e.resolved }

  -- both may enter, or neither
  same_entrance : {t u : Tree} → OnSome n t → OnSome n u → Redrawn t u → may_unroot n (record_of (clusters t)) ≡ may_unroot n (record_of (clusters u))
  same_entrance o o' r = tells_same (tells_enters o) (tells_enters o') (enters_too r) (enters_too (redrawn-sym r))

  -- of each tree and the one at its place: what is asked of the records, what they weigh and what they show is the same
  abbrev AllSome : List Tree → Type 0
  AllSome trees = (t : Tree) → Memᴰ t trees → OnSome n t

  same_unresolved :
      {trees others : List Tree} → AllSome trees → AllSome others → AllRedrawn trees others → first_unresolved n (records_of trees)
      ≡ first_unresolved n (records_of others)
  unfolding first_failing
  same_unresolved on on' no_trees = refl
  same_unresolved on on' (beside {t} {u} r later) =
      ap₂ one_more (same_entrance (on t (here refl)) (on' u (here refl)) r) (same_unresolved (λ v m. on v (there m)) (λ v m. on' v (there m)) later)

  same_weight :
      {trees others : List Tree} → AllSome trees → AllRedrawn trees others → (a : ℕ) → weight Unrooted (records_of trees) a
      ≡ weight Unrooted (records_of others) a
  same_weight on no_trees a = refl
  same_weight on (beside {t} {u} {trees} {others} r later) a =
      let o = on t (here refl) in
      omega (
        arith,
        weight_cons Unrooted (record_of (clusters t)) (records_of trees) a,
        weight_cons Unrooted (record_of (clusters u)) (records_of others) a,
        redrawn-extra (cluster-small few o.species) (on_own o) r a,
        same_weight (λ v m. on v (there m)) later a,
      )

  same_shown :
      {trees others : List Tree} → AllSome trees → AllRedrawn trees others → (a : ℕ) → shown Unrooted (records_of trees) a ≡ shown Unrooted (records_of others) a
  unfolding shown
  same_shown on no_trees a = refl
  same_shown on (beside {t} {u} r later) a =
      let o = on t (here refl) in
      ap₂ ◌||◌ (ap (λ (cs : List ℕ). among a cs) (redrawn-clusters (cluster-small few o.species) (on_own o) r)) (same_shown (λ v m. on v (there m)) later a)

-- ---- two lists of gene records

-- a tree that was found, by the weights that score it
abbrev found_with : Binary → (ℕ → ℕ) → Found
found_with t w = record { number = 0; place = 0; score = score_of w t; numbers = record_of (clusters_in t) }

module _ {n : ℕ} {gs gs' : List (List ℕ)} (twice : DrawnTwice n gs gs') where
  many : length gs ≡ length gs'
  many = ap length twice.first.records ∙ same_length twice.redrawn ∙ ap length (sym twice.second.records)

  module _ (few : n ≤ 16) where
    first_valid : AllValid n gs
    first_valid = all_drawn_valid few twice.first

    second-valid : AllValid n gs'
    second-valid = all_drawn_valid few twice.second

    same_records : records_test n gs ≡ records_test n gs'
    unfolding records_test
    same_records = rw (all_valid_none_bad n gs few first_valid, all_valid_none_bad n gs' few second-valid, many) refl

    same_rooting : rooting_test Unrooted n gs ≡ rooting_test Unrooted n gs'
    unfolding rooting_test
    same_rooting =
        let e : first_unresolved n gs ≡ first_unresolved n gs' =
        ap (first_unresolved n) twice.first.records ∙ same_unresolved few twice.first.on twice.second.on twice.redrawn
        ∙ ap (first_unresolved n) (sym twice.second.records)
        in
        rw (e, many) refl

    -- "get equal weights for every cluster" (#106)
    pub redrawn-weights : (a : ℕ) → weight Unrooted gs a ≡ weight Unrooted gs' a
    redrawn-weights a =
        ap (λ (l : List (List ℕ)). weight Unrooted l a) twice.first.records ∙ same_weight few twice.first.on twice.redrawn a
        ∙ ap (λ (l : List (List ℕ)). weight Unrooted l a) (sym twice.second.records)

    showings : (a : ℕ) → shown Unrooted gs a ≡ shown Unrooted gs' a
    showings a =
        ap (λ (l : List (List ℕ)). shown Unrooted l a) twice.first.records ∙ same_shown few twice.first.on twice.redrawn a
        ∙ ap (λ (l : List (List ℕ)). shown Unrooted l a) (sym twice.second.records)

    same_marks : marks Unrooted n gs ≡ marks Unrooted n gs'
    unfolding marks
    same_marks = ap (λ (f : ℕ → Bool). map (λ a. flag (f a)) (up_to (2 ^ n))) (fun_ext showings)

    same_best : (allowed : List ℕ) (a : ℕ) → best_for Unrooted n gs allowed a ≡ best_for Unrooted n gs' allowed a
    unfolding best_for
    same_best allowed a = ap (λ (w : ℕ → ℕ). best w (allowed_in n allowed) a) (fun_ext redrawn-weights)

    -- what both tables have of it
    same_score_entry :
        (allowed : List ℕ) (a : ℕ)
        → score_entry (weight Unrooted gs) (best_for Unrooted n gs allowed a) ≡ score_entry (weight Unrooted gs') (best_for Unrooted n gs' allowed a)
    same_score_entry allowed a = ap₂ (λ (w : ℕ → ℕ) (o : Option Binary). score_entry w o) (fun_ext redrawn-weights) (same_best allowed a)

    same_split_entry : (allowed : List ℕ) (a : ℕ) → split_entry (best_for Unrooted n gs allowed a) ≡ split_entry (best_for Unrooted n gs' allowed a)
    same_split_entry allowed a = ap split_entry (same_best allowed a)

    same_found :
        (allowed : List ℕ) → found_by Unrooted (best_for Unrooted n gs allowed (whole n)) gs ≡ found_by Unrooted (best_for Unrooted n gs' allowed (whole n)) gs'
    same_found allowed = ap (λ (o : Option Binary). found_by Unrooted o gs) (same_best allowed (whole n)) ∙ go (best_for Unrooted n gs' allowed (whole n))
      where
        go : (o : Option Binary) → found_by Unrooted o gs ≡ found_by Unrooted o gs'
        go none = refl
        go (some t) =
            ap (λ (w : ℕ → ℕ). found_with t w) (fun_ext redrawn-weights)

    -- as many trees are as good (#111)
    same_ties : (allowed : List ℕ) (a : ℕ) → ties_for Unrooted n gs allowed a ≡ ties_for Unrooted n gs' allowed a
    unfolding ties_for
    same_ties allowed a = ap (λ (w : ℕ → ℕ). tie_entry w (allowed_in n allowed) a) (fun_ext redrawn-weights)

    same_found_with_ties : (allowed : List ℕ) → found_with_ties Unrooted n gs allowed ≡ found_with_ties Unrooted n gs' allowed
    same_found_with_ties allowed = ap₂ with_ties (same_found allowed) (same_ties allowed (whole n))

-- ---- two calls

-- a first test, and what is behind it where it passes
verdict-alike : (t : Test) (l k : List Test) → (t.fault ≡ false → verdict l ≡ verdict k) → verdict (t ∷ l) ≡ verdict (t ∷ k)
unfolding verdict
verdict-alike t l k same = go t.fault refl
  where
    go : (b : Bool) → t.fault ≡ b → verdict_by b t (verdict l) ≡ verdict_by b t (verdict k)
    go true e = refl
    go false e = same e

-- the value is asked for where no test refuses
reply-alike : (v : Verdict) {w w' : ℕ} → (v.number ≡ 0 → w ≡ w') → reply_of v w ≡ reply_of v w'
reply-alike v same = go v.number v.place same
  where
    go : (k p : ℕ) {w w' : ℕ} → (k ≡ 0 → w ≡ w') → reply_of (record { number = k; place = p }) w ≡ reply_of (record { number = k; place = p }) w'
    go zero p same = ap (λ (w : ℕ). reply_of (record { number = 0; place = p }) w) (same refl)
    go (suc k) p same = refl

-- a table is kept, or filled with the same entries
filled-alike :
    (k n : ℕ) {entry entry' : ℕ → ℕ} (lent : List ℕ) → (k ≡ 0 → (a : ℕ) → entry a ≡ entry' a) → filled_by k n entry lent ≡ filled_by k n entry' lent
filled-alike zero n lent same = ap (λ (entry : ℕ → ℕ). filled_by 0 n entry lent) (fun_ext (same refl))
filled-alike (suc k) n lent same = refl

passed_few : (n : ℕ) (l : List Test) → (verdict (species_test n ∷ l)).number ≡ 0 → n ≤ 16
unfolding species_test
passed_few n l z = few_species n (verdict-passed (species_test n) l (λ e. omega arith) z).0

module _ (n count : ℕ) (genes genes' : List ℕ) (twice : DrawnTwice n (records_in count genes) (records_in count genes')) where
  abbrev gs : List (List ℕ)
  gs = records_in count genes

  abbrev gs' : List (List ℕ)
  gs' = records_in count genes'

  same_lent : n ≤ 16 → length_test (length genes) (32 * count) ≡ length_test (length genes') (32 * count)
  same_lent few =
      both_fit (32 * count) genes genes' (λ h. valid-fit count genes' (second-valid twice few), λ h. valid-fit count genes (first_valid twice few))

  -- "two texts that differ only in where the root was drawn get equal weights for every cluster" (#106): two calls that weigh a cluster by such gene
  -- trees reply alike
  pub redrawn_weigh_alike : (a : ℕ) (r r' : Reply) → Weighs Unrooted n genes count a r → Weighs Unrooted n genes' count a r' → r ≡ r'
  unfolding Weighs weight_tests
  redrawn_weigh_alike a r r' p p' =
      let tests : verdict (weight_tests Unrooted n genes count a) ≡ verdict (weight_tests Unrooted n genes' count a) =
      verdict-alike (species_test n) _ _ (λ s. let few = few_species n s in rw (same_lent few, same_records twice few, same_rooting twice few) refl)
      in
      p ∙ ap (λ (v : Verdict). reply_of v (weight Unrooted gs a)) tests
      ∙ reply-alike (verdict (weight_tests Unrooted n genes' count a)) (λ z. redrawn-weights twice (passed_few n _ z) a)
      ∙ sym p'

  -- so do two that score a species tree
  pub redrawn-score-alike : (species : List ℕ) (r r' : Reply) → Scores Unrooted n genes count species r → Scores Unrooted n genes' count species r' → r ≡ r'
  unfolding Scores score_tests score
  redrawn-score-alike species r r' p p' =
      let tests : verdict (score_tests Unrooted n genes count species) ≡ verdict (score_tests Unrooted n genes' count species) =
      verdict-alike (species_test n) _ _ (λ s. let few = few_species n s in rw (same_lent few, same_records twice few, same_rooting twice few) refl)
      in
      p ∙ ap (λ (v : Verdict). reply_of v (score Unrooted gs species)) tests
      ∙ reply-alike (verdict (score_tests Unrooted n genes' count species)) (λ z.
      ap (λ (w : ℕ → ℕ). total (map (λ a. w a) (listed species))) (fun_ext (redrawn-weights twice (passed_few n _ z))))
      ∙ sym p'

  -- two that mark clusters leave the same bytes
  pub redrawn_mark_alike :
      (out : List ℕ) (r r' : Reply) (after after' : List ℕ) → Marks Unrooted n genes count out r after → Marks Unrooted n genes' count out r' after'
      → (r ≡ r') × (after ≡ after')
  unfolding mark_tests
  redrawn_mark_alike out r r' after after' p p' =
      let tests : verdict (mark_tests Unrooted n genes count out) ≡ verdict (mark_tests Unrooted n genes' count out) =
      verdict-alike (species_test n) _ _ (λ s. let few = few_species n s in rw (same_lent few, same_records twice few, same_rooting twice few) refl)
      in (
        p.reply ∙ ap (λ (v : Verdict). reply_of v 0) tests ∙ sym p'.reply,
        p.bytes ∙ ap (λ (v : Verdict). marked_by Unrooted v.number n gs out) tests
            ∙ kept (verdict (mark_tests Unrooted n genes' count out)).number (λ z. passed_few n _ z)
            ∙ sym p'.bytes,
      )
    where
      kept : (k : ℕ) → (k ≡ 0 → n ≤ 16) → marked_by Unrooted k n gs out ≡ marked_by Unrooted k n gs' out
      kept zero small = ap (λ (l : List ℕ). l ++ drop (2 ^ n) out) (same_marks twice (small refl))
      kept (suc k) small = refl

  -- what is found, where no test refuses
  found_alike :
      (allowed : List ℕ) (k q : ℕ) → (k ≡ 0 → n ≤ 16)
      → found_or k q (found_by Unrooted (best_for Unrooted n gs allowed (whole n)) gs) ≡ found_or k q (found_by Unrooted (best_for Unrooted n gs' allowed (whole n)) gs')
  found_alike allowed zero q small = same_found twice (small refl) allowed
  found_alike allowed (suc k) q small = refl

  -- and two searches over the same clusters reply alike and leave the same tables
  pub redrawn_find_alike :
      (allowed scores splits : List ℕ) (r r' : Found) (s p s' p' : List ℕ)
      → Finds Unrooted n genes count allowed scores splits r s p → Finds Unrooted n genes' count allowed scores splits r' s' p' → (r ≡ r') × (s ≡ s') × (p ≡ p')
  unfolding search_tests
  redrawn_find_alike allowed scores splits r r' s p s' p' f f' =
      let tests : verdict (search_tests Unrooted n genes count allowed scores splits) ≡ verdict (search_tests Unrooted n genes' count allowed scores splits) =
      verdict-alike (species_test n) _ _ (λ e. let few = few_species n e in rw (same_lent few, same_records twice few, same_rooting twice few) refl)
      in
      let small = passed_few n _ in (
        f.reply
            ∙ ap (λ (v : Verdict). found_or v.number v.place (found_by Unrooted (best_for Unrooted n gs allowed (whole n)) gs)) tests
            ∙ found_alike allowed (verdict (search_tests Unrooted n genes' count allowed scores splits)).number _ (λ z. small z)
            ∙ sym f'.reply,
        f.score_table
            ∙ ap (λ (v : Verdict). filled_by v.number n (λ a. score_entry (weight Unrooted gs) (best_for Unrooted n gs allowed a)) scores) tests
            ∙ filled-alike (verdict (search_tests Unrooted n genes' count allowed scores splits)).number n scores (λ z. same_score_entry twice (small z) allowed)
            ∙ sym f'.score_table,
        f.split_table
            ∙ ap (λ (v : Verdict). filled_by v.number n (λ a. split_entry (best_for Unrooted n gs allowed a)) splits) tests
            ∙ filled-alike (verdict (search_tests Unrooted n genes' count allowed scores splits)).number n splits (λ z. same_split_entry twice (small z) allowed)
            ∙ sym f'.split_table,
      )

  -- so do two calls that go through all trees (#108)
  pub redrawn-plain-alike :
      (allowed : List ℕ) (r r' : Found) → FindsPlainly Unrooted n genes count allowed r → FindsPlainly Unrooted n genes' count allowed r' → r ≡ r'
  unfolding plain_tests
  redrawn-plain-alike allowed r r' f f' =
      let tests : verdict (plain_tests Unrooted n genes count allowed) ≡ verdict (plain_tests Unrooted n genes' count allowed) =
      verdict-alike (species_test n) _ _ (λ e. let few = few_species n e in rw (same_lent few, same_records twice few, same_rooting twice few) refl)
      in
      f.reply ∙ ap (λ (v : Verdict). found_or v.number v.place (found_by Unrooted (best_for Unrooted n gs allowed (whole n)) gs)) tests
      ∙ found_alike allowed (verdict (plain_tests Unrooted n genes' count allowed)).number _ (λ z. passed_few n _ z)
      ∙ sym f'.reply

  -- so do two searches with ties, and leave the same three tables (#111)
  pub redrawn_tie_alike :
      (allowed scores splits ties : List ℕ) (r r' : Tied) (s p t s' p' t' : List ℕ)
      → FindsTies Unrooted n genes count allowed scores splits ties r s p t → FindsTies Unrooted n genes' count allowed scores splits ties r' s' p' t'
      → (r ≡ r') × (s ≡ s') × (p ≡ p') × (t ≡ t')
  unfolding ties_tests
  redrawn_tie_alike allowed scores splits ties r r' s p t s' p' t' f f' =
      let tests : verdict (ties_tests Unrooted n genes count allowed scores splits ties) ≡ verdict (ties_tests Unrooted n genes' count allowed scores splits ties) =
      verdict-alike (species_test n) _ _ (λ e. let few = few_species n e in rw (same_lent few, same_records twice few, same_rooting twice few) refl)
      in
      let small = passed_few n _ in (
        f.reply
            ∙ ap (λ (v : Verdict). with_ties (found_or v.number v.place (found_by Unrooted (best_for Unrooted n gs allowed (whole n)) gs))
            (value_by v.number (ties_for Unrooted n gs allowed (whole n)))) tests
            ∙ replied (verdict (ties_tests Unrooted n genes' count allowed scores splits ties)).number _ (λ z. small z)
            ∙ sym f'.reply,
        f.score_table
            ∙ ap (λ (v : Verdict). filled_by v.number n (λ a. score_entry (weight Unrooted gs) (best_for Unrooted n gs allowed a)) scores) tests
            ∙ filled-alike (verdict (ties_tests Unrooted n genes' count allowed scores splits ties)).number n scores (λ z. same_score_entry twice (small z) allowed)
            ∙ sym f'.score_table,
        f.split_table
            ∙ ap (λ (v : Verdict). filled_by v.number n (λ a. split_entry (best_for Unrooted n gs allowed a)) splits) tests
            ∙ filled-alike (verdict (ties_tests Unrooted n genes' count allowed scores splits ties)).number n splits (λ z. same_split_entry twice (small z) allowed)
            ∙ sym f'.split_table,
        f.tie_table
            ∙ ap (λ (v : Verdict). filled_by v.number n (λ a. ties_for Unrooted n gs allowed a) ties) tests
            ∙ filled-alike (verdict (ties_tests Unrooted n genes' count allowed scores splits ties)).number n ties (λ z. same_ties twice (small z) allowed)
            ∙ sym f'.tie_table,
      )
    where
      replied :
          (k q : ℕ) → (k ≡ 0 → n ≤ 16)
          → with_ties (found_or k q (found_by Unrooted (best_for Unrooted n gs allowed (whole n)) gs)) (value_by k (ties_for Unrooted n gs allowed (whole n)))
          ≡ with_ties (found_or k q (found_by Unrooted (best_for Unrooted n gs' allowed (whole n)) gs')) (value_by k (ties_for Unrooted n gs' allowed (whole n)))
      replied zero q small = same_found_with_ties twice (small refl) allowed
      replied (suc k) q small = refl

-- ---- two inputs of the program

module _ {input input' line : List ℕ} {all : Bool} {trees others : List Tree}
    (h : Holds input line all Unrooted trees) (h' : Holds input' line all Unrooted others) (redrawn : AllRedrawn trees others) where
  standing_twice : DrawnTwice (length (names line)) (records_of trees) (records_of others)
  standing_twice =
      record { trees = trees; others = others; first = standing_records h.stand; second = standing_records h'.stand; redrawn = redrawn }

  few_enough : length (names line) ≤ 16
  few_enough = let k = h.few_species in omega arith

  same_allowed : (all : Bool) → allowed_by all Unrooted (length (names line)) (records_of trees) ≡ allowed_by all Unrooted (length (names line)) (records_of others)
  same_allowed true = refl
  same_allowed false = same_marks standing_twice few_enough

  same_search :
      (allowed : List ℕ)
      → searched Unrooted (length (names line)) (records_of trees) allowed ≡ searched Unrooted (length (names line)) (records_of others) allowed
  unfolding searched
  same_search allowed =
      ap₂ (λ (found : Tied) (m : ℕ). outcome_of found.number (length (names line)) m found)
      (same_found_with_ties standing_twice few_enough allowed)
      (many standing_twice)

  -- two inputs that hold what they should, with the same roster line and mode line, without a root, whose gene trees differ only in where their roots were drawn, print the same
  pub redrawn_inputs_print_alike : output input ≡ output input'
  unfolding output
  redrawn_inputs_print_alike =
      let same : program input ≡ program input' =
      searches h
      ∙ ap (searched Unrooted (length (names line)) (records_of trees)) (same_allowed all)
      ∙ same_search (allowed_by all Unrooted (length (names line)) (records_of others))
      ∙ sym (searches h')
      in
      ap₂ (λ (l : List ℕ) (o : Outcome). printed (names l) o) (first h ∙ sym (first h')) same
