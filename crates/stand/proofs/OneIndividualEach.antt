-- "With one individual each and faultless input, score and tree are those of the existing mode under the species' names" (#110): and so are weights, tables and the refusals that are left.
use Prim.Native.Nat.{ℕ, ◌≤◌}
use mathlib.Core.Path.{◌≡◌, sym, ap, ap₂, ◌∙◌, subst}
use mathlib.Core.List.{List, [], ◌∷◌}
use native.Mathlib.Omega.{arith}
use lib.ListN.{length}
use borrow.Author.Tests.{le-ltb}
use Rattle.clusters.specs.Sets.{whole}
use Rattle.trees.specs.Records.{records_in, wide_records_in, AllValid, AllValidFor}
use Rattle.roster.specs.Roster.{names}
use Rattle.roster.specs.Verdict.{Test, Verdict, verdict_by, verdict, reply_of}
use Rattle.roster.specs.declared.Reply.{Reply}
use Rattle.lineages.specs.Checks.{first_bad, records_test, rooting_test, cluster_test, species_record_test, weight_tests, score_tests}
use Rattle.lineages.specs.Promise.{Weighs, Scores}
use Rattle.lineages.specs.Work.{shape_tests}
use Rattle.lineages.proofs.Calls.{genes_then}
use Rattle.lineages.proofs.FirstBad.{all_valid_none_bad}
use Rattle.lineages.proofs.Verdicts.{shape-passed}
use Rattle.mapping.proofs.Judging.{groups-length}
use Rattle.terms.specs.Allowed.{allowed_in, allowed_test}
use Rattle.terms.specs.Answers.{found_or}
use Rattle.terms.specs.declared.Found.{Found}
use Rattle.splits.specs.Best.{best_for}
use Rattle.search.specs.Promise.{search_tests, Finds}
use Rattle.search.proofs.Finding.{long_then}
use Rattle.weights.specs.Count.{weight, score}
use Rattle.weights.specs.Stand.{Parted, stand_weight, stand_score}
use Rattle.weights.specs.declared.Rooting.TheVariants.{Rooted}
use Rattle.weights.proofs.Renamed.{weight-renamed, score-renamed, all_renamed_valid}
use Rattle.stand.specs.Checks.{wide_records_test, weight_tests as stand_weight_tests, score_tests as stand_score_tests, search_tests as stand_search_tests}
use Rattle.stand.specs.OneEach.{SameTrees}
use Rattle.stand.specs.Promise.{groups_of, weight_on, best_on, StandWeighs, StandScores, StandFinds}
use Rattle.stand.proofs.Accepting.{valid-records}
use Rattle.stand.proofs.Opening.{openable-told, individuals-count}
use Rattle.stand.proofs.Parting.{mapped-parted}
use Rattle.stand.proofs.SameWeights.{filled_same, found_same, entry_same, split_same}

-- one test before two lists of tests that say the same
behind : (t : Test) (l k : List Test) → verdict l ≡ verdict k → verdict (t ∷ l) ≡ verdict (t ∷ k)
unfolding verdict
behind t l k e = ap (λ (v : Verdict). verdict_by t.fault t v) e

module _ (line individuals mapping genes wide : List ℕ) (count : ℕ) (both : SameTrees line individuals mapping genes wide count) where
  parted : Parted (length (names individuals)) (groups_of line individuals mapping)
  parted = mapped-parted line individuals mapping both.open_to.first_good both.open_to.second_good both.open_to.mapped

  few : length (names individuals) ≤ 32
  few = (individuals-count line individuals mapping wide count both.open_to).1

  on_species_lem : AllValid (length (groups_of line individuals mapping)) (records_in count genes)
  on_species_lem =
      subst (λ (n : ℕ). AllValid n (records_in count genes)) (sym (groups-length (names line) (names individuals) mapping)) both.in_order.valid

  on_individuals_lem : AllValidFor 32 (length (names individuals)) (wide_records_in count wide)
  on_individuals_lem =
      subst (λ (l : List (List ℕ)). AllValidFor 32 (length (names individuals)) l) (sym both.renamed)
      (all_renamed_valid parted both.one_each (records_in count genes) on_species_lem)

  -- ---- weights and scores

  same_weight : (a : ℕ) → weight Rooted (records_in count genes) a ≡ weight_on line individuals mapping wide count a
  same_weight a =
      sym
      (ap (λ (l : List (List ℕ)). stand_weight (groups_of line individuals mapping) l a) both.renamed ∙ weight-renamed parted (records_in count genes) on_species_lem a)

  same_score : (species : List ℕ) → score Rooted (records_in count genes) species ≡ stand_score (groups_of line individuals mapping) (wide_records_in count wide) species
  same_score species =
      sym
      (ap (λ (l : List (List ℕ)). stand_score (groups_of line individuals mapping) l species) both.renamed ∙ score-renamed parted (records_in count genes) on_species_lem species)

  -- ---- the tests that are left

  genes_left : (rest : List Test) → verdict (genes_then Rooted (length (names line)) genes count rest) ≡ verdict rest
  unfolding verdict records_test rooting_test
  genes_left rest =
      let n = length (names line) in
      let e = all_valid_none_bad n (records_in count genes) both.in_order.shaped.few_species both.in_order.valid in
      rw (le-ltb (first_bad n (records_in count genes)) (length (records_in count genes)) (omega arith))

  wide_left : (rest : List Test) → verdict (wide_records_test (length (names individuals)) (wide_records_in count wide) ∷ rest) ≡ verdict rest
  unfolding verdict
  wide_left rest = rw (valid-records (length (names individuals)) (wide_records_in count wide) few on_individuals_lem)

  same_weight_tests : (a : ℕ) → verdict (weight_tests Rooted (length (names line)) genes count a) ≡ verdict (stand_weight_tests line individuals mapping wide count a)
  unfolding weight_tests shape_tests stand_weight_tests
  same_weight_tests a =
      let left = cluster_test (length (names line)) a ∷ [] in
      shape-passed (length (names line)) genes count (genes_then Rooted (length (names line)) genes count left) both.in_order.shaped
      ∙ genes_left left
      ∙ sym
      (openable-told line individuals mapping wide count both.open_to (wide_records_test (length (names individuals)) (wide_records_in count wide) ∷ left)
      ∙ wide_left left)

  same_score_tests : (species : List ℕ) → verdict (score_tests Rooted (length (names line)) genes count species) ≡ verdict (stand_score_tests line individuals mapping wide count species)
  unfolding score_tests shape_tests stand_score_tests
  same_score_tests species =
      let tree = species_record_test (length (names line)) species in
      shape-passed (length (names line)) genes count (tree ∷ genes_then Rooted (length (names line)) genes count []) both.in_order.shaped
      ∙ behind tree _ _ (genes_left [] ∙ sym (wide_left []))
      ∙ sym
      (openable-told line individuals mapping wide count both.open_to (tree ∷ wide_records_test (length (names individuals)) (wide_records_in count wide) ∷ []))

  same_search_tests : (allowed scores splits : List ℕ)
      → verdict (search_tests Rooted (length (names line)) genes count allowed scores splits) ≡ verdict (stand_search_tests line individuals mapping wide count allowed scores splits)
  unfolding search_tests shape_tests stand_search_tests
  same_search_tests allowed scores splits =
      let left = allowed_test (length (names line)) allowed ∷ [] in
      shape-passed (length (names line)) genes count
      (long_then (length (names line)) allowed scores splits (genes_then Rooted (length (names line)) genes count left)) both.in_order.shaped
      ∙ behind _ _ _ (behind _ _ _ (behind _ _ _ (genes_left left ∙ sym (wide_left left))))
      ∙ sym
      (openable-told line individuals mapping wide count both.open_to
      (long_then (length (names line)) allowed scores splits (wide_records_test (length (names individuals)) (wide_records_in count wide) ∷ left)))

  -- ---- the calls

  pub same_weight_reply :
      (a : ℕ) (r q : Reply) → Weighs Rooted (length (names line)) genes count a r → StandWeighs line individuals mapping wide count a q → r ≡ q
  unfolding Weighs StandWeighs
  same_weight_reply a r q p s = p ∙ ap₂ reply_of (same_weight_tests a) (same_weight a) ∙ sym s

  pub same_score_reply :
      (species : List ℕ) (r q : Reply) → Scores Rooted (length (names line)) genes count species r → StandScores line individuals mapping wide count species q → r ≡ q
  unfolding Scores StandScores
  same_score_reply species r q p s = p ∙ ap₂ reply_of (same_score_tests species) (same_score species) ∙ sym s

  -- reply and both tables
  pub same_search : {allowed scores splits : List ℕ} {r q : Found} {s p s' p' : List ℕ} → Finds Rooted (length (names line)) genes count allowed scores splits r s p
      → StandFinds line individuals mapping wide count allowed scores splits q s' p' → (r ≡ q) × (s ≡ s') × (p ≡ p')
  unfolding best_for best_on
  same_search {allowed} {scores} {splits} f g =
      let n = length (names line) in
      let v = weight Rooted (records_in count genes) in
      let w = weight_on line individuals mapping wide count in
      let ok = allowed_in n allowed in
      let told = same_search_tests allowed scores splits in
      let number = (verdict (stand_search_tests line individuals mapping wide count allowed scores splits)).number in
      let place = (verdict (stand_search_tests line individuals mapping wide count allowed scores splits)).place in (
        rw told at f.reply ∙ ap (found_or number place) (found_same v w same_weight ok (whole n)) ∙ sym g.reply,
        rw told at f.score_table ∙ filled_same number n _ _ scores (λ a. entry_same v w same_weight ok a) ∙ sym g.score_table,
        rw told at f.split_table ∙ filled_same number n _ _ splits (λ a. split_same v w same_weight ok a) ∙ sym g.split_table,
      )
