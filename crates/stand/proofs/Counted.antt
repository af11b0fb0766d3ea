-- What the calls that answer a number accept, exactly, and what they count: sums of weights, inside the limits.
use Prim.Native.Nat.{ℕ, ◌*◌, ◌^◌, ◌≤◌}
use mathlib.Core.Path.{◌≡◌, sym, ap, ◌∙◌}
use mathlib.Core.Bool.{true, ◌&&◌}
use mathlib.Core.List.{List, map}
use native.Mathlib.Omega.{arith}
use lib.ListN.{length}
use lib.Dec.{leb, ltb}
use borrow.Author.Tests.{not-false}
use Rattle.clusters.specs.Sets.{whole}
use Rattle.trees.specs.Lists.{total}
use Rattle.trees.specs.Records.{listed, wide_records_in}
use Rattle.trees.specs.Valid.{valid, binary}
use Rattle.trees.proofs.EqualPieces.{pieces-length}
use Rattle.roster.specs.Roster.{names}
use Rattle.roster.specs.Verdict.{Verdict, verdict, value_by}
use Rattle.roster.specs.declared.Reply.{Reply}
use Rattle.lineages.specs.Checks.{cluster_test, species_record_test}
use Rattle.lineages.proofs.Told.{species-form}
use Rattle.lineages.proofs.Verdicts.{verdict-passed}
use Rattle.weights.specs.Stand.{stand_weight, stand_score}
use Rattle.weights.proofs.StandWeights.{all_species_weigh_nothing, stand-weight_most, stand-score_most}
use Rattle.weights.proofs.Sums.{valid-countable}
use Rattle.mapping.proofs.Judging.{groups-length}
use Rattle.stand.specs.Checks.{wide_records_test, weight_tests, score_tests}
use Rattle.stand.specs.InOrder.{StandInOrder}
use Rattle.stand.specs.Promise.{groups_of, weight_on, StandWeighs, StandScores}
use Rattle.stand.proofs.Accepting.{numbered, records-valid, valid-records}
use Rattle.stand.proofs.Opening.{open_passed, openable-told, species-count, individuals-count}
use Rattle.stand.proofs.Parting.{mapped-parted}

-- ---- weight

module _ (line individuals mapping genes : List ℕ) (count a : ℕ) where
  -- the stand and the gene records are in order, and the number is a cluster
  pub weight-accepted : (verdict (weight_tests line individuals mapping genes count a)).number ≡ 0
      → StandInOrder line individuals mapping genes count × ((leb 1 a && ltb a (2 ^ length (names line))) ≡ true)
  unfolding weight_tests cluster_test
  weight-accepted e =
      let o = open_passed line individuals mapping genes count _ e in
      let d = verdict-passed (wide_records_test (length (names individuals)) (wide_records_in count genes)) _ (numbered (length (names individuals)) (wide_records_in count genes)) o.1 in
      let f = verdict-passed _ _ (λ z. omega arith) d.1 in (
        record {
          open_to = o.0;
          valid = records-valid (length (names individuals)) (wide_records_in count genes) (individuals-count line individuals mapping genes count o.0).1 d.0;
        },
        not-false (leb 1 a && ltb a (2 ^ length (names line))) f.0,
      )

  pub weight-accepts : StandInOrder line individuals mapping genes count → (leb 1 a && ltb a (2 ^ length (names line))) ≡ true
      → (verdict (weight_tests line individuals mapping genes count a)).number ≡ 0
  unfolding weight_tests cluster_test verdict
  weight-accepts s e =
      ap (λ (v : Verdict). v.number) (openable-told line individuals mapping genes count s.open_to _)
      ∙ rw (
        valid-records (length (names individuals)) (wide_records_in count genes) (individuals-count line individuals mapping genes count s.open_to).1 s.valid,
        e,
      )

  module _ (r : Reply) (promise : StandWeighs line individuals mapping genes count a r) (done : r.number ≡ 0) where
    passed : (verdict (weight_tests line individuals mapping genes count a)).number ≡ 0
    unfolding StandWeighs
    passed = sym (ap (λ (q : Reply). q.number) promise) ∙ done

    -- "A's weight is #104's count taken on the set of all individuals of A's species" (#110)
    pub weight_is : r.value ≡ stand_weight (groups_of line individuals mapping) (wide_records_in count genes) a
    unfolding StandWeighs
    weight_is = ap (λ (q : Reply). q.value) promise ∙ ap (λ (k : ℕ). value_by k (weight_on line individuals mapping genes count a)) passed

    -- inside the limits it is at most 126,976: 31 extra lineages in each of 4,096 gene trees
    pub weight_at_most : r.value ≤ 126976
    weight_at_most =
        let s = (weight-accepted passed).0 in
        let few : length (wide_records_in count genes) ≤ 4096 = omega (arith, pieces-length 64 count genes, s.open_to.few_genes) in
        omega (
          arith,
          weight_is,
          stand-weight_most (groups_of line individuals mapping) (wide_records_in count genes) few
              (valid-countable (individuals-count line individuals mapping genes count s.open_to).1 s.valid) a,
        )

    -- all species together weigh nothing
    pub all_weigh_nothing : a ≡ whole (length (names line)) → r.value ≡ 0
    all_weigh_nothing all =
        let s = (weight-accepted passed).0 in
        let o = s.open_to in
        weight_is
        ∙ ap (stand_weight (groups_of line individuals mapping) (wide_records_in count genes)) (all ∙ ap whole (sym (groups-length (names line) (names individuals) mapping)))
        ∙ all_species_weigh_nothing (mapped-parted line individuals mapping o.first_good o.second_good o.mapped) (wide_records_in count genes)
        (individuals-count line individuals mapping genes count o).1 s.valid

-- ---- score

module _ (line individuals mapping genes : List ℕ) (count : ℕ) (species : List ℕ) where
  -- the stand and the gene records are in order, and the species record is valid and binary
  pub score-accepted : (verdict (score_tests line individuals mapping genes count species)).number ≡ 0
      → StandInOrder line individuals mapping genes count × ((valid (whole (length (names line))) species && binary (whole (length (names line))) species) ≡ true)
  unfolding score_tests species_record_test
  score-accepted e =
      let o = open_passed line individuals mapping genes count _ e in
      let d = verdict-passed (species_record_test (length (names line)) species) _ (λ z. omega arith) o.1 in
      let f = verdict-passed (wide_records_test (length (names individuals)) (wide_records_in count genes)) _ (numbered (length (names individuals)) (wide_records_in count genes)) d.1 in (
        record {
          open_to = o.0;
          valid = records-valid (length (names individuals)) (wide_records_in count genes) (individuals-count line individuals mapping genes count o.0).1 f.0;
        },
        not-false (valid (whole (length (names line))) species && binary (whole (length (names line))) species) d.0,
      )

  pub score-accepts :
      StandInOrder line individuals mapping genes count → (valid (whole (length (names line))) species && binary (whole (length (names line))) species) ≡ true
      → (verdict (score_tests line individuals mapping genes count species)).number ≡ 0
  unfolding score_tests species_record_test verdict
  score-accepts s e =
      ap (λ (v : Verdict). v.number) (openable-told line individuals mapping genes count s.open_to _)
      ∙ rw (
        e,
        valid-records (length (names individuals)) (wide_records_in count genes) (individuals-count line individuals mapping genes count s.open_to).1 s.valid,
      )

  module _ (r : Reply) (promise : StandScores line individuals mapping genes count species r) (done : r.number ≡ 0) where
    score-passed : (verdict (score_tests line individuals mapping genes count species)).number ≡ 0
    unfolding StandScores
    score-passed = sym (ap (λ (q : Reply). q.number) promise) ∙ done

    score-told : r.value ≡ stand_score (groups_of line individuals mapping) (wide_records_in count genes) species
    unfolding StandScores
    score-told =
        ap (λ (q : Reply). q.value) promise
        ∙ ap (λ (k : ℕ). value_by k (stand_score (groups_of line individuals mapping) (wide_records_in count genes) species)) score-passed

    -- the sum of the weights of all clusters of the species record, of single species too
    pub score_is : r.value ≡ total (map (weight_on line individuals mapping genes count) (listed species))
    unfolding stand_score
    score_is = score-told

    -- inside the limits it is at most 31 times 126,976
    pub score_at_most : r.value ≤ 126976 * 31
    score_at_most =
        let p = score-accepted score-passed in
        let s = p.0 in
        let few : length (wide_records_in count genes) ≤ 4096 = omega (arith, pieces-length 64 count genes, s.open_to.few_genes) in
        omega (
          arith,
          score-told,
          stand-score_most (groups_of line individuals mapping) (wide_records_in count genes) few
              (valid-countable (individuals-count line individuals mapping genes count s.open_to).1 s.valid)
              (species-form (length (names line)) species (species-count line individuals mapping genes count s.open_to).1 p.1),
        )
