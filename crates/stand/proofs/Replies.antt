-- The replies of the calls that answer a number, one law for each way through their checks.
use Prim.Native.Nat.{ℕ, ◌*◌, ◌^◌, ◌≤◌}
use mathlib.Core.Path.{◌≡◌, sym, ap, ◌∙◌}
use mathlib.Core.Bool.{Bool, true, false, ◌&&◌}
use mathlib.Core.List.{List, [], ◌∷◌}
use native.Mathlib.Omega.{arith}
use lib.ListN.{length, take}
use lib.Dec.{leb, ltb}
use borrow.Author.Tests.{lt-ltb, le-ltb, ltb-false}
use Rattle.std.specs.Prelude.{position, not, Result, Ok, Err, Some, None}
use Rattle.std.specs.Result.{result_map_both}
use Rattle.clusters.specs.Sets.{whole}
use Rattle.faults.specs.Faults.{number as fault_number}
use Rattle.faults.specs.declared.Refusal.{Refusal}
use Rattle.trees.specs.Records.{wide_records_in, AllValidFor, GeneValidFor}
use Rattle.trees.specs.Decides.{Decides}
use Rattle.trees.specs.Valid.{valid, binary, valid_gene_for}
use Rattle.roster.specs.Roster.{names}
use Rattle.roster.specs.Judged.{refusal, done, refused_by, reply_to}
use Rattle.roster.specs.Verdict.{Test, Verdict, verdict}
use Rattle.roster.proofs.Refusals.{reply-said}
use Rattle.lineages.specs.Checks.{cluster_test, species_record_test}
use Rattle.lineages.specs.Work.{said}
use Rattle.lineages.proofs.Calls.{refused-reply, done_reply}
use Rattle.lineages.proofs.FirstBad.{none_bad, found_first, found_none}
use Rattle.lineages.proofs.Told.{gene-told}
use Rattle.lineages.proofs.Verdicts.{NoneGives, numbered, refused_first, passed_first, verdict-passed}
use Rattle.mapping.specs.Promise.{stand_tests, StandParsed}
use Rattle.mapping.specs.declared.Stand.{Stand}
use Rattle.weights.specs.Stand.{stand_weight, stand_score}
use Rattle.weights.specs.Work.{StandCountable}
use Rattle.weights.proofs.Sums.{valid-countable}
use Rattle.stand.specs.Checks.{first_bad_wide, wide_records_test, weight_tests, score_tests}
use Rattle.stand.specs.Promise.{groups_of, weight_on, StandJudged, StandWeighs, StandScores}
use Rattle.stand.specs.Work.{StandOpened}
use Rattle.stand.proofs.Opening.{Opened, is_opened, closed-told, open_told, species-count, individuals-count}

-- ---- 15

-- whether a record is at fault
pub wide-told : (b : Bool) (m : ℕ) (g : List ℕ) → m ≤ 32 → Decides b (GeneValidFor 32 m g) → not b ≡ not (valid_gene_for 32 m g)
wide-told b m g few d = ap not (gene-told b g few d)

module _ (m : ℕ) (genes : List ℕ) (count : ℕ) where
  pub bad_told :
      {bad : ℕ} → Some bad ≡ position (λ g. not (valid_gene_for 32 m g)) (wide_records_in count genes)
      → said 15 bad ≡ verdict (wide_records_test m (wide_records_in count genes) ∷ [])
  unfolding verdict wide_records_test
  bad_told found =
      let first = found_first (λ g. valid_gene_for 32 m g) (wide_records_in count genes) found in
      rw (lt-ltb (first_bad_wide m (wide_records_in count genes)) (length (wide_records_in count genes)) (omega arith)) (ap (λ (i : ℕ). said 15 i) first.0)

  pub good_told :
      None ≡ position (λ g. not (valid_gene_for 32 m g)) (wide_records_in count genes)
      → said 0 0 ≡ verdict (wide_records_test m (wide_records_in count genes) ∷ [])
  unfolding verdict wide_records_test
  good_told none =
      rw
      (le-ltb (first_bad_wide m (wide_records_in count genes)) (length (wide_records_in count genes))
      (found_none (λ g. valid_gene_for 32 m g) (wide_records_in count genes) none))

  -- it has a number
  record-numbered : NoneGives 0 (wide_records_test m (wide_records_in count genes) ∷ [])
  unfolding NoneGives wide_records_test
  record-numbered = (λ z. omega arith, tt)

  module _ (none : said 0 0 ≡ verdict (wide_records_test m (wide_records_in count genes) ∷ [])) where
    pub records-told : (rest : List Test) → verdict (wide_records_test m (wide_records_in count genes) ∷ rest) ≡ verdict rest
    records-told rest = passed_first (wide_records_test m (wide_records_in count genes) ∷ []) rest record-numbered none

    pub all_valid : m ≤ 32 → AllValidFor 32 m (wide_records_in count genes)
    unfolding wide_records_test
    all_valid few =
        none_bad m (wide_records_in count genes) few
        (ltb-false (first_bad_wide m (wide_records_in count genes)) (length (wide_records_in count genes))
        (verdict-passed (wide_records_test m (wide_records_in count genes)) [] (λ z. omega arith) (ap (λ (v : Verdict). v.number) (sym none))).0)

-- ---- a stand in hand

module _ (line individuals mapping genes : List ℕ) (count : ℕ) (stand : Stand) (opened : StandOpened line individuals mapping genes count (Ok stand)) where
  hand : Opened line individuals mapping genes count stand
  hand = is_opened line individuals mapping genes count stand opened

  -- what the checks behind it ask for
  pub few_named : stand.species ≤ 16
  few_named = omega (arith, hand.species_are, (species-count line individuals mapping genes count hand.openable).1)

  pub few_members : stand.individuals ≤ 32
  few_members = omega (arith, hand.individuals_are, (individuals-count line individuals mapping genes count hand.openable).1)

  pub enough-lent : 64 * count ≤ length genes
  enough-lent = hand.openable.fits

  -- the verdict on the records, by the number of individuals that the roster has
  pub records-named :
      {v : Verdict} → v ≡ verdict (wide_records_test stand.individuals (wide_records_in count genes) ∷ [])
      → v ≡ verdict (wide_records_test (length (names individuals)) (wide_records_in count genes) ∷ [])
  records-named told = told ∙ ap (λ (m : ℕ). verdict (wide_records_test m (wide_records_in count genes) ∷ [])) hand.individuals_are

  -- what is counted can be
  pub stand-countable :
      said 0 0 ≡ verdict (wide_records_test stand.individuals (wide_records_in count genes) ∷ []) → StandCountable stand.groups stand.species genes count
  stand-countable none =
      record {
        few_species = few_named;
        groups_long = hand.groups_long;
        few_genes = hand.openable.few_genes;
        genes_long = enough-lent;
        countable = valid-countable few_members (all_valid stand.individuals genes count none few_members);
      }

-- ---- judge

-- how many individuals a good stand has
pub judged_members :
    (line individuals mapping : List ℕ) (r : Result Stand Refusal) → StandParsed line individuals mapping r
    → StandJudged line individuals mapping (reply_to (result_map_both (λ s. s.individuals) (λ e. e) r))
unfolding StandParsed StandJudged
judged_members line individuals mapping (Ok s) parsed =
    reply-said (Ok s.individuals) (verdict (stand_tests line individuals mapping)) (length (names individuals)) parsed.0 (ap (λ (s : Stand). s.individuals) parsed.1)
judged_members line individuals mapping (Err e) parsed =
    reply-said (Err e) (verdict (stand_tests line individuals mapping)) (length (names individuals)) parsed.0 tt

-- ---- weight

-- what is judged behind the stand
abbrev weight_left : List ℕ → List ℕ → List ℕ → ℕ → ℕ → List Test
weight_left line individuals genes count a = wide_records_test (length (names individuals)) (wide_records_in count genes) ∷ cluster_test (length (names line)) a ∷ []

module _ (line individuals mapping genes : List ℕ) (count a : ℕ) where
  weighs_refused :
      (number place : ℕ) → verdict (weight_tests line individuals mapping genes count a) ≡ said number place → (number ≡ 0 → ⊥)
      → StandWeighs line individuals mapping genes count a (refusal number place)
  unfolding StandWeighs
  weighs_refused number place e f = refused-reply (weight_on line individuals mapping genes count a) number e f

  pub weighs_closed : (e : Refusal) → StandOpened line individuals mapping genes count (Err e) → StandWeighs line individuals mapping genes count a (refused_by e)
  unfolding weight_tests
  weighs_closed e opened =
      weighs_refused (fault_number e.fault) e.place (closed-told line individuals mapping genes count (weight_left line individuals genes count a) e opened) (numbered e.fault)

  module _ (stand : Stand) (opened : StandOpened line individuals mapping genes count (Ok stand)) where
    to_records : verdict (weight_tests line individuals mapping genes count a) ≡ verdict (weight_left line individuals genes count a)
    unfolding weight_tests
    to_records = open_told line individuals mapping genes count stand opened (weight_left line individuals genes count a)

    pub weighs_bad :
        (e : Refusal) → said (fault_number e.fault) e.place ≡ verdict (wide_records_test stand.individuals (wide_records_in count genes) ∷ [])
        → StandWeighs line individuals mapping genes count a (refused_by e)
    weighs_bad e told =
        weighs_refused (fault_number e.fault) e.place
        (to_records
        ∙ refused_first (wide_records_test (length (names individuals)) (wide_records_in count genes) ∷ []) (cluster_test (length (names line)) a ∷ []) e
        (records-named line individuals mapping genes count stand opened told))
        (numbered e.fault)

    module _ (none : said 0 0 ≡ verdict (wide_records_test stand.individuals (wide_records_in count genes) ∷ [])) where
      to_cluster : verdict (weight_tests line individuals mapping genes count a) ≡ verdict (cluster_test (length (names line)) a ∷ [])
      to_cluster =
          to_records
          ∙ records-told (length (names individuals)) genes count (records-named line individuals mapping genes count stand opened none)
          (cluster_test (length (names line)) a ∷ [])

      abbrev species_are : stand.species ≡ length (names line)
      species_are = (is_opened line individuals mapping genes count stand opened).species_are

      pub weighs_no_cluster : (leb 1 a && ltb a (2 ^ stand.species)) ≡ false → StandWeighs line individuals mapping genes count a (refusal 13 a)
      unfolding verdict cluster_test
      weighs_no_cluster e = weighs_refused 13 a (to_cluster ∙ rw (rw species_are at e)) (λ z. omega arith)

      pub weighs_done :
          {v : ℕ} → (leb 1 a && ltb a (2 ^ stand.species)) ≡ true → v ≡ stand_weight (take stand.species stand.groups) (wide_records_in count genes) a
          → StandWeighs line individuals mapping genes count a (done v)
      unfolding StandWeighs verdict cluster_test
      weighs_done e q =
          ap (λ (w : ℕ). done w)
          (q ∙ ap (λ (g : List ℕ). stand_weight g (wide_records_in count genes) a) (is_opened line individuals mapping genes count stand opened).groups_are)
          ∙ done_reply (weight_on line individuals mapping genes count a) (to_cluster ∙ rw (rw species_are at e))

-- ---- score

abbrev records_left : List ℕ → List ℕ → ℕ → List Test
records_left individuals genes count = wide_records_test (length (names individuals)) (wide_records_in count genes) ∷ []

module _ (line individuals mapping genes : List ℕ) (count : ℕ) (species : List ℕ) where
  scores-refused :
      (number place : ℕ) → verdict (score_tests line individuals mapping genes count species) ≡ said number place → (number ≡ 0 → ⊥)
      → StandScores line individuals mapping genes count species (refusal number place)
  unfolding StandScores
  scores-refused number place e f = refused-reply (stand_score (groups_of line individuals mapping) (wide_records_in count genes) species) number e f

  pub scores-closed : (e : Refusal) → StandOpened line individuals mapping genes count (Err e) → StandScores line individuals mapping genes count species (refused_by e)
  unfolding score_tests
  scores-closed e opened =
      scores-refused (fault_number e.fault) e.place
      (closed-told line individuals mapping genes count (species_record_test (length (names line)) species ∷ records_left individuals genes count) e opened)
      (numbered e.fault)

  module _ (stand : Stand) (opened : StandOpened line individuals mapping genes count (Ok stand)) where
    to_tree : verdict (score_tests line individuals mapping genes count species) ≡ verdict (species_record_test (length (names line)) species ∷ records_left individuals genes count)
    unfolding score_tests
    to_tree = open_told line individuals mapping genes count stand opened (species_record_test (length (names line)) species ∷ records_left individuals genes count)

    abbrev whole_named : whole stand.species ≡ whole (length (names line))
    whole_named = ap whole (is_opened line individuals mapping genes count stand opened).species_are

    pub scores_no_tree :
        (valid (whole stand.species) species && binary (whole stand.species) species) ≡ false → StandScores line individuals mapping genes count species (refusal 16 0)
    unfolding verdict species_record_test
    scores_no_tree e = scores-refused 16 0 (to_tree ∙ rw (rw whole_named at e)) (λ z. omega arith)

    module _ (tree : (valid (whole stand.species) species && binary (whole stand.species) species) ≡ true) where
      to_records_left : verdict (score_tests line individuals mapping genes count species) ≡ verdict (records_left individuals genes count)
      unfolding verdict species_record_test
      to_records_left = to_tree ∙ rw (rw whole_named at tree)

      pub scores_bad :
          (e : Refusal) → said (fault_number e.fault) e.place ≡ verdict (wide_records_test stand.individuals (wide_records_in count genes) ∷ [])
          → StandScores line individuals mapping genes count species (refused_by e)
      scores_bad e told =
          scores-refused (fault_number e.fault) e.place (to_records_left ∙ sym (records-named line individuals mapping genes count stand opened told)) (numbered e.fault)

      pub scores_done :
          {v : ℕ} → said 0 0 ≡ verdict (wide_records_test stand.individuals (wide_records_in count genes) ∷ [])
          → v ≡ stand_score (take stand.species stand.groups) (wide_records_in count genes) species → StandScores line individuals mapping genes count species (done v)
      unfolding StandScores
      scores_done none q =
          ap (λ (w : ℕ). done w)
          (q ∙ ap (λ (g : List ℕ). stand_score g (wide_records_in count genes) species) (is_opened line individuals mapping genes count stand opened).groups_are)
          ∙ done_reply (stand_score (groups_of line individuals mapping) (wide_records_in count genes) species)
          (to_records_left ∙ sym (records-named line individuals mapping genes count stand opened none))
