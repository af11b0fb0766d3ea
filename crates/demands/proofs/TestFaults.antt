-- Each test of the calls finds its fault, where it stands, with its number and place.
use Prim.Native.Nat.{ℕ, suc, ◌^◌, ◌≤◌, ◌<◌}
use mathlib.Core.Path.{◌≡◌, refl, sym, ap}
use mathlib.Core.Logic.{◌⊎◌, inl, inr, ⊎_elim}
use mathlib.Core.Bool.{Bool, true, false, not, ◌&&◌, true≢false}
use mathlib.Core.List.{List, []}
use native.Mathlib.Omega.{arith}
use lib.ListN.{length, get_or}
use lib.Dec.{leb, ltb}
use borrow.Author.Tests.{leb-true, leb-false, le-leb, lt-leb, ltb-true, ltb-false, lt-ltb, le-ltb, not-true, not-false}
use Rattle.clusters.specs.Sets.{whole}
use Rattle.trees.specs.Records.{SpeciesValid, GeneValid, AllValid, BinaryOn}
use Rattle.trees.specs.Unrooted.{may_unroot}
use Rattle.trees.specs.Valid.{valid, valid_gene, binary}
use Rattle.trees.proofs.Booleans.{unless, both, never_both}
use Rattle.trees.proofs.Places.{at_among}
use Rattle.trees.proofs.Bounds.{whole_below_sixteen}
use Rattle.trees.proofs.ValidTest.{Tells, denied, valid_decides, binary_decides}
use Rattle.trees.proofs.GeneRecords.{gene_decides}
use Rattle.roster.specs.Roster.{names, faulty, first_fault, fault_at, least}
use Rattle.roster.specs.Judged.{species_most}
use Rattle.roster.specs.Verdict.{length_test}
use Rattle.roster.proofs.Least.{least_is, least_first}
use Rattle.roster.proofs.Faults.{first_fault_lem, fault-within}
use Rattle.writer.specs.Promise.{roster_test, record_test}
use Rattle.weights.specs.declared.Rooting.{Rooting}
use Rattle.weights.specs.declared.Rooting.TheVariants.{Rooted, Unrooted}
use Rattle.lineages.specs.Checks.{species_test, count_test, species_record_test, first_bad, records_test, first_unresolved, is_unrooted, rooting_test, cluster_test}
use Rattle.lineages.proofs.FirstBad.{failing_means, failing_is, none_bad}
use Rattle.terms.specs.Allowed.{first_strange, allowed_test}
use Rattle.plain.specs.Promise.{plain_test}
use Rattle.demands.specs.CallFaults.{RosterFaultOf}
use Rattle.demands.specs.CallFaults.{RosterFault, SpeciesFault, OverSevenFault, CountFault, LengthFault, SpeciesRecordFault, RecordsFault, RootingFault, RecordFault, ClusterFault, AllowedFault}
use Rattle.demands.specs.CallFaults.RosterFaultOf.{faulty_roster}
use Rattle.demands.specs.CallFaults.SpeciesFault.{not_1_to_16}
use Rattle.demands.specs.CallFaults.OverSevenFault.{over_seven}
use Rattle.demands.specs.CallFaults.CountFault.{none_or_many}
use Rattle.demands.specs.CallFaults.LengthFault.{too_short}
use Rattle.demands.specs.CallFaults.SpeciesRecordFault.{not_valid_or_binary}
use Rattle.demands.specs.CallFaults.RecordsFault.{first_not_valid}
use Rattle.demands.specs.CallFaults.RootingFault.{first_unresolved_or_incomplete}
use Rattle.demands.specs.CallFaults.RecordFault.{not_valid}
use Rattle.demands.specs.CallFaults.ClusterFault.{no_cluster}
use Rattle.demands.specs.CallFaults.AllowedFault.{first_not_0_or_1}
use Rattle.demands.proofs.FirstFaults.{Meets}
use Rattle.demands.proofs.GeneTrees.{may_enter_exactly}

-- ---- two tests of which one fails

not_both : (a b : Bool) → not (a && b) ≡ true → (a ≡ false) ⊎ (b ≡ false)
not_both true true e = absurd (true≢false (sym e))
not_both true false e = inr refl
not_both false b e = inl refl

one_off : (a b : Bool) → (a ≡ false) ⊎ (b ≡ false) → not (a && b) ≡ true
one_off true b (inl e) = absurd (true≢false e)
one_off true b (inr e) = rw e refl
one_off false b e = refl

-- ---- 1, 11, 12 and 13: numbers outside their range

outside : (x most : ℕ) → not (leb 1 x && leb x most) ≡ true → (x ≡ 0) ⊎ (most < x)
outside x most e =
    ⊎_elim (λ h. inl (omega (arith, leb-false 1 x h))) (λ h. inr (leb-false x most h)) (not_both (leb 1 x) (leb x most) e)

told-outside : (x most : ℕ) → (x ≡ 0) ⊎ (most < x) → not (leb 1 x && leb x most) ≡ true
told-outside x most d = one_off (leb 1 x) (leb x most) (⊎_elim (λ z. inl (lt-leb 1 x (omega arith))) (λ h. inr (lt-leb x most h)) d)

-- "1 | .. n not 1 to 16 | .. 0 for n"
pub species-met : (n : ℕ) → Meets (species_test n) (SpeciesFault n)
unfolding species_test
species-met n = record { numbered = λ z. omega arith; found = λ e. not_1_to_16 (outside n 16 e); only = only }
  where
    only : {k p : ℕ} → SpeciesFault n k p → (not (leb 1 n && leb n 16) ≡ true) × (k ≡ 1) × (p ≡ 0)
    only (not_1_to_16 h) = (told-outside n 16 h, refl, refl)

-- "11 | gene trees 0 or over 4,096 | 0"
pub count-met : (count : ℕ) → Meets (count_test count) (CountFault count)
unfolding count_test
count-met count = record { numbered = λ z. omega arith; found = λ e. none_or_many (outside count 4096 e); only = only }
  where
    only : {k p : ℕ} → CountFault count k p → (not (leb 1 count && leb count 4096) ≡ true) × (k ≡ 11) × (p ≡ 0)
    only (none_or_many h) = (told-outside count 4096 h, refl, refl)

-- "12 | a lent slice too short | 0"
pub length-met : (lent : List ℕ) (need : ℕ) → Meets (length_test (length lent) need) (LengthFault lent need)
unfolding length_test
length-met lent need = record { numbered = λ z. omega arith; found = λ e. too_short (ltb-true (length lent) need e); only = only }
  where
    only : {k p : ℕ} → LengthFault lent need k p → (ltb (length lent) need ≡ true) × (k ≡ 12) × (p ≡ 0)
    only (too_short h) = (lt-ltb (length lent) need h, refl, refl)

-- "17 at 0 for n over 7" (#108)
pub over_seven_met : (n : ℕ) → Meets (plain_test n) (OverSevenFault n)
unfolding plain_test
over_seven_met n = record { numbered = λ z. omega arith; found = λ e. over_seven (ltb-true 7 n e); only = only }
  where
    only : {k p : ℕ} → OverSevenFault n k p → (ltb 7 n ≡ true) × (k ≡ 17) × (p ≡ 0)
    only (over_seven h) = (lt-ltb 7 n h, refl, refl)

-- "13 | number is no cluster .. | that number"
pub cluster-met : (n a : ℕ) → Meets (cluster_test n a) (ClusterFault n a)
unfolding cluster_test
cluster-met n a = record {
  numbered = λ z. omega arith;
  found = λ e.
      no_cluster
      (⊎_elim (λ h. inl (omega (arith, leb-false 1 a h))) (λ h. inr (ltb-false a (2 ^ n) h)) (not_both (leb 1 a) (ltb a (2 ^ n)) e));
  only = only;
}
  where
    only : {k p : ℕ} → ClusterFault n a k p → (not (leb 1 a && ltb a (2 ^ n)) ≡ true) × (k ≡ 13) × (p ≡ a)
    only (no_cluster d) =
        (one_off (leb 1 a) (ltb a (2 ^ n)) (⊎_elim (λ z. inl (lt-leb 1 a (omega arith))) (λ h. inr (le-ltb a (2 ^ n) h)) d), refl, refl)

-- ---- 16, 15 and 19: records

-- "16 | species record not valid or not binary | 0"
pub species_record_met : (n : ℕ) (species : List ℕ) → n ≤ 16 → Meets (species_record_test n species) (SpeciesRecordFault n species)
unfolding species_record_test
species_record_met n species few =
    record {
      numbered = λ z. omega arith;
      found = λ e. not_valid_or_binary (λ h.
          ⊎_elim (λ f. never_both (valid (whole n) species) (is_valid.told h.0) f) (λ f. never_both (binary (whole n) species) (is_binary.told h.1) f)
          (not_both (valid (whole n) species) (binary (whole n) species) e));
      only = only;
    }
  where
    is_valid : Tells (valid (whole n) species) (SpeciesValid n species)
    is_valid = valid_decides species (whole_below_sixteen n few)

    is_binary : Tells (binary (whole n) species) (BinaryOn (whole n) species)
    is_binary = binary_decides (whole n) species

    one : (a b : Bool) → valid (whole n) species ≡ a → binary (whole n) species ≡ b → (SpeciesValid n species × BinaryOn (whole n) species → ⊥)
        → not (a && b) ≡ true
    one true true v w f = absurd (f (is_valid.holds v, is_binary.holds w))
    one true false v w f = refl
    one false b v w f = refl

    only :
        {k p : ℕ} → SpeciesRecordFault n species k p
        → (not (valid (whole n) species && binary (whole n) species) ≡ true) × (k ≡ 16) × (p ≡ 0)
    only (not_valid_or_binary f) = (one (valid (whole n) species) (binary (whole n) species) refl refl f, refl, refl)

-- "15 | a record not valid": the one that the writer has
pub record_met : (line tree : List ℕ) → length (names line) ≤ 16 → Meets (record_test line tree) (RecordFault line tree)
unfolding record_test
record_met line tree few =
    record {
      numbered = λ z. omega arith;
      found = λ e. not_valid (denied is_valid (not-true (valid_gene (length (names line)) tree) e));
      only = only;
    }
  where
    is_valid : Tells (valid_gene (length (names line)) tree) (GeneValid (length (names line)) tree)
    is_valid = gene_decides tree few

    only : {k p : ℕ} → RecordFault line tree k p → (not (valid_gene (length (names line)) tree) ≡ true) × (k ≡ 15) × (p ≡ 0)
    only (not_valid f) = (ap not (unless (valid_gene (length (names line)) tree) (λ v. f (is_valid.holds v))), refl, refl)

-- the test of the rooting tells which it is
pub is_unrooted_lem : (rooting : Rooting) → is_unrooted rooting ≡ true → rooting ≡ Unrooted
is_unrooted_lem Rooted e = absurd (true≢false (sym e))
is_unrooted_lem Unrooted e = refl

module _ (n : ℕ) (few : n ≤ 16) where
  is_valid : (g : List ℕ) → Tells (valid_gene n g) (GeneValid n g)
  is_valid g = gene_decides g few

  -- "15 | a record not valid | index of the first"
  pub records-met : (genes : List (List ℕ)) → Meets (records_test n genes) (RecordsFault n genes)
  unfolding records_test
  records-met genes = record {
    numbered = λ z. omega arith;
    found = λ e.
        let l = ltb-true (first_bad n genes) (length genes) e in
        let h = failing_means (λ g. valid_gene n g) genes in
        first_not_valid l (denied (is_valid (get_or genes (first_bad n genes) [])) (h.0 l)) (λ j m. (is_valid (get_or genes j [])).holds (h.1 j m));
    only = only;
  }
    where
      only : {k p : ℕ} → RecordsFault n genes k p → (ltb (first_bad n genes) (length genes) ≡ true) × (k ≡ 15) × (p ≡ first_bad n genes)
      only (first_not_valid {i} l bad good) =
          let e =
          failing_is (λ g. valid_gene n g) genes i (omega arith) (λ m. unless (valid_gene n (get_or genes i [])) (λ v. bad ((is_valid (get_or genes i [])).holds v)))
          (λ j m. (is_valid (get_or genes j [])).told (good j m))
          in
          (lt-ltb (first_bad n genes) (length genes) (omega arith), refl, sym e)

  -- where that fault does not stand, all records are valid
  pub records-passed : (genes : List (List ℕ)) → (records_test n genes).fault ≡ false → AllValid n genes
  unfolding records_test
  records-passed genes e = none_bad n genes few (ltb-false (first_bad n genes) (length genes) e)

  -- "19 for an unresolved or incomplete tree, place the first one's index" (#106)
  pub rooting-met : (rooting : Rooting) (genes : List (List ℕ)) → AllValid n genes → Meets (rooting_test rooting n genes) (RootingFault rooting n genes)
  unfolding rooting_test
  rooting-met rooting genes all = record {
    numbered = λ z. omega arith;
    found = λ e.
        let two = both (is_unrooted rooting) (ltb (first_unresolved n genes) (length genes)) e in
        let l = ltb-true (first_unresolved n genes) (length genes) two.1 in
        let h = failing_means (λ g. may_unroot n g) genes in
        first_unresolved_or_incomplete (is_unrooted_lem rooting two.0) l
        (λ k. never_both (may_unroot n (get_or genes (first_unresolved n genes) [])) ((may_enter_exactly few).1 k).1 (h.0 l))
        (λ j m. (may_enter_exactly few).0 (valid_at j (omega arith), h.1 j m));
    only = only;
  }
    where
      valid_at : (j : ℕ) → j < length genes → GeneValid n (get_or genes j [])
      valid_at j l = all (get_or genes j []) (at_among genes [] j l)

      only :
          {k p : ℕ} → RootingFault rooting n genes k p
          → ((is_unrooted rooting && ltb (first_unresolved n genes) (length genes)) ≡ true) × (k ≡ 19) × (p ≡ first_unresolved n genes)
      only (first_unresolved_or_incomplete {i} is l bad good) =
          let e =
          failing_is (λ g. may_unroot n g) genes i (omega arith)
          (λ m. unless (may_unroot n (get_or genes i [])) (λ v. bad ((may_enter_exactly few).0 (valid_at i l, v))))
          (λ j m. ((may_enter_exactly few).1 (good j m)).1)
          in
          (rw (is, lt-ltb (first_unresolved n genes) (length genes) (omega arith)) refl, refl, sym e)

-- ---- 13: the allowed bytes

-- a byte that is not 0 or 1
abbrev strange_in : List ℕ → ℕ → Bool
strange_in allowed a = not (leb (get_or allowed a 0) 1)

-- "13 | .. allowed byte not 0 or 1 | .. first such index"
pub allowed-met : (n : ℕ) (allowed : List ℕ) → Meets (allowed_test n allowed) (AllowedFault n allowed)
unfolding allowed_test first_strange
allowed-met n allowed = record { numbered = λ z. omega arith; found = found; only = only }
  where
    found : ltb (least (strange_in allowed) 0 (2 ^ n)) (2 ^ n) ≡ true → AllowedFault n allowed 13 (least (strange_in allowed) 0 (2 ^ n))
    found e =
        let l = ltb-true (least (strange_in allowed) 0 (2 ^ n)) (2 ^ n) e in
        let h = least_first (strange_in allowed) (2 ^ n) 0 in
        first_not_0_or_1 l (leb-false (get_or allowed (least (strange_in allowed) 0 (2 ^ n)) 0) 1 (not-true (leb (get_or allowed (least (strange_in allowed) 0 (2 ^ n)) 0) 1) (h.0 (omega arith))))
        (λ b m. leb-true (get_or allowed b 0) 1 (not-false (leb (get_or allowed b 0) 1) (h.1 b (omega arith) m)))

    only : {k p : ℕ} → AllowedFault n allowed k p → (ltb (least (strange_in allowed) 0 (2 ^ n)) (2 ^ n) ≡ true) × (k ≡ 13) × (p ≡ least (strange_in allowed) 0 (2 ^ n))
    only (first_not_0_or_1 {a} l over low) =
        let e = least_is (strange_in allowed) (2 ^ n) 0 a (omega arith) (omega arith) (ap not (lt-leb (get_or allowed a 0) 1 over)) (λ b p m. ap not (le-leb (get_or allowed b 0) 1 (low b m))) in
        (lt-ltb (least (strange_in allowed) 0 (2 ^ n)) (2 ^ n) (omega arith), refl, sym e)

-- ---- 1: the roster

-- a roster that is faulty has the fault, whatever the most names are
pub roster-found : (most : ℕ) (line : List ℕ) → faulty most line ≡ true → RosterFaultOf most line 1 (first_fault most line)
roster-found most line e = let h = first_fault_lem most line e in faulty_roster (fault-within most line e) h.0 h.1

-- and one that has it is faulty
pub roster-only :
    (most : ℕ) (line : List ℕ) {k p : ℕ} → RosterFaultOf most line k p → (faulty most line ≡ true) × (k ≡ 1) × (p ≡ first_fault most line)
unfolding faulty first_fault
roster-only most line (faulty_roster {place} inside stands earlier) =
    let e = least_is (fault_at most line) (suc (length line)) 0 place (omega arith) (omega arith) stands (λ q z. earlier q) in
    (le-leb (least (fault_at most line) 0 (suc (length line))) (length line) (omega arith), refl, sym e)

-- "1 | roster faulty | first byte at fault"
pub roster-met : (line : List ℕ) → Meets (roster_test line) (RosterFault line)
unfolding roster_test
roster-met line = record { numbered = λ z. omega arith; found = roster-found species_most line; only = λ f. roster-only species_most line f }
