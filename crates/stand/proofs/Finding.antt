-- The promise of the search, one law for each way through its checks.
use Prim.Native.Nat.{ℕ, ◌^◌, ◌≤◌}
use mathlib.Core.Path.{◌≡◌, sym, ap, ◌∙◌, subst}
use mathlib.Core.List.{List, [], ◌∷◌}
use native.Mathlib.Omega.{arith}
use lib.ListN.{length, take}
use Rattle.std.proofs.Common.{Ok, Err, Some}
use Rattle.clusters.specs.Sets.{whole}
use Rattle.faults.specs.Faults.{number as fault_number}
use Rattle.faults.specs.declared.Refusal.{Refusal}
use Rattle.trees.specs.Records.{wide_records_in}
use Rattle.trees.proofs.EqualPieces.{pieces-length}
use Rattle.roster.specs.Roster.{names}
use Rattle.roster.specs.Verdict.{Test, Verdict, verdict}
use Rattle.lineages.specs.Work.{said}
use Rattle.lineages.proofs.Verdicts.{numbered, refused_first}
use Rattle.terms.specs.Allowed.{allowed_in, allowed_test}
use Rattle.terms.specs.Answers.{without, found_to}
use Rattle.terms.specs.declared.Found.{Found}
use Rattle.terms.proofs.Refusing.{refused-told}
use Rattle.splits.specs.Best.{found_of}
use Rattle.solver.specs.Work.{SolvesFor}
use Rattle.solver.proofs.Solving.{Lent}
use Rattle.search.specs.Work.{LongEnough, long_tests}
use Rattle.search.proofs.Finding.{long_then, long-passed, long-refused, refused-kept}
use Rattle.mapping.specs.declared.Stand.{Stand}
use Rattle.weights.specs.Stand.{stand_weight, Parted}
use Rattle.weights.proofs.StandWeights.{stand-weight_most}
use Rattle.weights.proofs.Sums.{valid-countable}
use Rattle.stand.specs.Checks.{wide_records_test, search_tests}
use Rattle.stand.specs.Promise.{weight_on, best_on, StandFinds}
use Rattle.stand.specs.Work.{StandOpened, Solvable}
use Rattle.stand.proofs.Opening.{is_opened, closed-told, open_told}
use Rattle.stand.proofs.Parting.{mapped-parted}
use Rattle.stand.proofs.Replies.{records-told, all_valid, few_named, few_members, records-named}

-- weights on a stand are light, and the slices have an entry for each set
pub solvable-lent : {n : ℕ} {groups genes : List ℕ} {count : ℕ} {allowed scores splits : List ℕ} → Solvable n groups genes count allowed scores splits
    → Lent (λ a. stand_weight (take n groups) (wide_records_in count genes) a) n (Some allowed) scores splits
solvable-lent {n} {groups} {genes} {count} h =
    let w = h.weighable in
    let few : length (wide_records_in count genes) ≤ 4096 = omega (arith, pieces-length 64 count genes, w.few_genes) in
    record {
      light = λ b. omega (arith, stand-weight_most (take n groups) (wide_records_in count genes) few (valid-countable w.few_individuals w.valid) b);
      few = w.few_species;
      allowed_long = h.allowed_long;
      scores_long = h.scores_long;
      splits_long = h.splits_long;
    }

-- what is judged behind the lengths
abbrev records_then_bytes : List ℕ → List ℕ → List ℕ → ℕ → List ℕ → List Test
records_then_bytes line individuals genes count allowed =
    wide_records_test (length (names individuals)) (wide_records_in count genes) ∷ allowed_test (length (names line)) allowed ∷ []

-- ---- the checks that were passed

module _ (line individuals mapping genes : List ℕ) (count : ℕ) (allowed scores splits : List ℕ) (stand : Stand)
    (opened : StandOpened line individuals mapping genes count (Ok stand)) where
  named : stand.species ≡ length (names line)
  named = (is_opened line individuals mapping genes count stand opened).species_are

  -- behind the stand the lengths decide
  to_lengths : verdict (search_tests line individuals mapping genes count allowed scores splits)
      ≡ verdict (long_then (length (names line)) allowed scores splits (records_then_bytes line individuals genes count allowed))
  unfolding search_tests
  to_lengths =
      open_told line individuals mapping genes count stand opened
      (long_then (length (names line)) allowed scores splits (records_then_bytes line individuals genes count allowed))

  module _ (long : LongEnough (2 ^ stand.species) allowed scores splits) where
    -- then the records
    to_records : verdict (search_tests line individuals mapping genes count allowed scores splits) ≡ verdict (records_then_bytes line individuals genes count allowed)
    to_records =
        to_lengths
        ∙ long-passed (length (names line)) allowed scores splits (records_then_bytes line individuals genes count allowed)
        (subst (λ (k : ℕ). LongEnough (2 ^ k) allowed scores splits) named long)

    module _ (none : said 0 0 ≡ verdict (wide_records_test stand.individuals (wide_records_in count genes) ∷ [])) where
      -- then the bytes of the allowed set
      to_bytes : verdict (search_tests line individuals mapping genes count allowed scores splits) ≡ verdict (allowed_test (length (names line)) allowed ∷ [])
      to_bytes =
          to_records
          ∙ records-told (length (names individuals)) genes count (records-named line individuals mapping genes count stand opened none)
          (allowed_test (length (names line)) allowed ∷ [])

      bytes-told : {v : Verdict} → v ≡ verdict (allowed_test stand.species allowed ∷ []) → verdict (search_tests line individuals mapping genes count allowed scores splits) ≡ v
      bytes-told told = to_bytes ∙ sym (told ∙ ap (λ (k : ℕ). verdict (allowed_test k allowed ∷ [])) named)

      -- and what the search asks for is there
      pub solvable : Solvable stand.species stand.groups genes count allowed scores splits
      solvable =
          let o = is_opened line individuals mapping genes count stand opened in
          let parted = mapped-parted line individuals mapping o.openable.first_good o.openable.second_good o.openable.mapped in
          let few = few_members line individuals mapping genes count stand opened in
          record {
            weighable = record {
              individuals = stand.individuals;
              few_species = few_named line individuals mapping genes count stand opened;
              few_individuals = few;
              groups_long = o.groups_long;
              parted =
                  subst (λ (m : ℕ). Parted m (take stand.species stand.groups)) (sym o.individuals_are)
                  (subst (λ (g : List ℕ). Parted (length (names individuals)) g) (sym o.groups_are) parted);
              few_genes = o.openable.few_genes;
              genes_long = o.openable.fits;
              valid = all_valid stand.individuals genes count none few;
            };
            allowed_long = long.allowed_long;
            scores_long = long.scores_long;
            splits_long = long.splits_long;
          }

-- ---- the ways

module _ (line individuals mapping genes : List ℕ) (count : ℕ) (allowed scores splits : List ℕ) {r : Found} {scores_after splits_after : List ℕ} where
  -- a refusal: no tree, and both tables as they were lent
  finds-refused : {number place : ℕ} → verdict (search_tests line individuals mapping genes count allowed scores splits) ≡ said number place → (number ≡ 0 → ⊥)
      → r ≡ without number place → scores_after ≡ scores → splits_after ≡ splits
      → StandFinds line individuals mapping genes count allowed scores splits r scores_after splits_after
  finds-refused {number} {place} e f p q s =
      record {
        reply =
            p
            ∙ rw e
            (refused-told number place f
            (found_of (weight_on line individuals mapping genes count) (best_on line individuals mapping genes count allowed (whole (length (names line))))));
        score_table = q ∙ rw e (refused-kept number (length (names line)) f _ scores);
        split_table = s ∙ rw e (refused-kept number (length (names line)) f _ splits);
      }

  pub finds-closed : (e : Refusal) → StandOpened line individuals mapping genes count (Err e) → r ≡ found_to (Err e) → scores_after ≡ scores → splits_after ≡ splits
      → StandFinds line individuals mapping genes count allowed scores splits r scores_after splits_after
  unfolding search_tests
  finds-closed e opened p q s =
      finds-refused
      (closed-told line individuals mapping genes count
      (long_then (length (names line)) allowed scores splits (records_then_bytes line individuals genes count allowed)) e opened)
      (numbered e.fault) p q s

  module _ (stand : Stand) (opened : StandOpened line individuals mapping genes count (Ok stand)) where
    pub finds-short :
        (e : Refusal) → said (fault_number e.fault) e.place ≡ verdict (long_tests (2 ^ stand.species) allowed scores splits)
        → r ≡ found_to (Err e) → scores_after ≡ scores → splits_after ≡ splits
        → StandFinds line individuals mapping genes count allowed scores splits r scores_after splits_after
    finds-short e told p q s =
        finds-refused
        (to_lengths line individuals mapping genes count allowed scores splits stand opened
        ∙ long-refused (length (names line)) allowed scores splits (records_then_bytes line individuals genes count allowed) e
        (told ∙ ap (λ (k : ℕ). verdict (long_tests (2 ^ k) allowed scores splits)) (named line individuals mapping genes count allowed scores splits stand opened)))
        (numbered e.fault) p q s

    module _ (long : LongEnough (2 ^ stand.species) allowed scores splits) where
      pub finds_bad :
          (e : Refusal) → said (fault_number e.fault) e.place ≡ verdict (wide_records_test stand.individuals (wide_records_in count genes) ∷ [])
          → r ≡ found_to (Err e) → scores_after ≡ scores → splits_after ≡ splits
          → StandFinds line individuals mapping genes count allowed scores splits r scores_after splits_after
      finds_bad e told p q s =
          finds-refused
          (to_records line individuals mapping genes count allowed scores splits stand opened long
          ∙ refused_first (wide_records_test (length (names individuals)) (wide_records_in count genes) ∷ []) (allowed_test (length (names line)) allowed ∷ []) e
          (records-named line individuals mapping genes count stand opened told))
          (numbered e.fault) p q s

      module _ (none : said 0 0 ≡ verdict (wide_records_test stand.individuals (wide_records_in count genes) ∷ [])) where
        pub finds_strange :
            (e : Refusal) → said (fault_number e.fault) e.place ≡ verdict (allowed_test stand.species allowed ∷ [])
            → r ≡ found_to (Err e) → scores_after ≡ scores → splits_after ≡ splits
            → StandFinds line individuals mapping genes count allowed scores splits r scores_after splits_after
        finds_strange e told p q s =
            finds-refused (bytes-told line individuals mapping genes count allowed scores splits stand opened long none told) (numbered e.fault) p q s

        pub finds-solved :
            said 0 0 ≡ verdict (allowed_test stand.species allowed ∷ [])
            → SolvesFor (λ a. stand_weight (take stand.species stand.groups) (wide_records_in count genes) a) stand.species (allowed_in stand.species allowed)
            scores splits r scores_after splits_after
            → StandFinds line individuals mapping genes count allowed scores splits r scores_after splits_after
        unfolding best_on
        finds-solved told solves =
            let passed = bytes-told line individuals mapping genes count allowed scores splits stand opened long none told in
            let s =
            subst (λ (k : ℕ). SolvesFor (weight_on line individuals mapping genes count) k (allowed_in k allowed) scores splits r scores_after splits_after)
            (named line individuals mapping genes count allowed scores splits stand opened)
            (subst
            (λ (g : List ℕ). SolvesFor (λ a. stand_weight g (wide_records_in count genes) a) stand.species (allowed_in stand.species allowed) scores splits r scores_after splits_after)
            (is_opened line individuals mapping genes count stand opened).groups_are solves)
            in
            record { reply = s.reply ∙ rw passed; score_table = s.score_table ∙ rw passed; split_table = s.split_table ∙ rw passed }
