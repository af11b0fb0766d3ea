-- A stand that was opened: what its first tests say of all tests of a call, and what holds where they find nothing.
use Prim.Native.Nat.{ℕ, ◌-◌, ◌*◌, ◌≤◌, ◌<◌}
use mathlib.Core.Path.{◌≡◌, sym, ap, ◌∙◌}
use mathlib.Core.Bool.{◌&&◌}
use mathlib.Core.Logic.{◌⊎◌, inl, inr}
use mathlib.Core.List.{List, [], ◌∷◌, ◌++◌}
use native.Mathlib.Omega.{arith}
use lib.ListN.{length, take, replicate, length-append}
use lib.Seq.{take-append_seam}
use lib.Dec.{leb}
use borrow.Author.Tests.{lt-ltb, le-ltb, le-leb, lt-leb, leb-true, ltb-false, not-false}
use Rattle.std.proofs.Common.{Ok, Err}
use Rattle.faults.specs.Faults.{number as fault_number}
use Rattle.faults.specs.declared.Refusal.{Refusal}
use Rattle.roster.specs.Roster.{names}
use Rattle.roster.specs.Verdict.{Test, Verdict, verdict, length_test}
use Rattle.roster.proofs.Names.{names-count}
use Rattle.trees.proofs.Booleans.{both}
use Rattle.lineages.specs.Checks.{count_test}
use Rattle.lineages.specs.Work.{said}
use Rattle.lineages.proofs.Verdicts.{NoneGives, refused_first, verdict-passed, verdict-rest, verdict_both}
use Rattle.mapping.specs.Groups.{groups}
use Rattle.mapping.specs.Promise.{roster_test, mapping_test, stand_tests, StandParsed}
use Rattle.mapping.specs.declared.Stand.{Stand}
use Rattle.mapping.proofs.Judging.{groups-length}
use Rattle.stand.specs.Checks.{open_tests}
use Rattle.stand.specs.InOrder.{Openable}
use Rattle.stand.specs.Work.{StandOpened}

-- 11 and 12
abbrev pub genes_lent : List ℕ → ℕ → List Test
genes_lent genes count = count_test count ∷ length_test (length genes) (64 * count) ∷ []

module _ (genes : List ℕ) (count : ℕ) where
  pub wrong_count : (count < 1) ⊎ ((1 ≤ count) × (4096 < count)) → verdict (genes_lent genes count) ≡ said 11 0
  unfolding verdict count_test
  wrong_count (inl h) = rw (lt-leb 1 count h)
  wrong_count (inr h) = rw (le-leb 1 count h.0, lt-leb count 4096 h.1)

  module _ (some : 1 ≤ count) (few : count ≤ 4096) where
    pub short-lent : length genes < 64 * count → verdict (genes_lent genes count) ≡ said 12 0
    unfolding verdict count_test length_test
    short-lent h = rw (le-leb 1 count some, le-leb count 4096 few, lt-ltb (length genes) (64 * count) h)

    pub all_lent : 64 * count ≤ length genes → verdict (genes_lent genes count) ≡ said 0 0
    unfolding verdict count_test length_test
    all_lent h = rw (le-leb 1 count some, le-leb count 4096 few, le-ltb (length genes) (64 * count) h)

-- ---- the promise of `opened`, one law for each way

-- each test has a number
stand-numbered : (line individuals mapping : List ℕ) → NoneGives 0 (stand_tests line individuals mapping)
unfolding NoneGives stand_tests roster_test mapping_test
stand-numbered line individuals mapping = (λ z. omega arith, (λ z. omega arith, (λ z. omega arith, tt)))

pub open_numbered : (line individuals mapping genes : List ℕ) (count : ℕ) → NoneGives 0 (open_tests line individuals mapping genes count)
unfolding NoneGives open_tests stand_tests roster_test mapping_test count_test length_test
open_numbered line individuals mapping genes count =
    (λ z. omega arith, (λ z. omega arith, (λ z. omega arith, (λ z. omega arith, (λ z. omega arith, tt)))))

module _ (line individuals mapping genes : List ℕ) (count : ℕ) where
  pub opened-refused : (e : Refusal) → StandParsed line individuals mapping (Err e) → StandOpened line individuals mapping genes count (Err e)
  unfolding StandParsed StandOpened open_tests
  opened-refused e parsed = (sym (refused_first (stand_tests line individuals mapping) (genes_lent genes count) e parsed.0), tt)

  module _ (stand : Stand) (parsed : StandParsed line individuals mapping (Ok stand)) where
    -- behind a stand without a fault the others decide
    stand-told : (rest : List Test) → verdict (stand_tests line individuals mapping ++ rest) ≡ verdict rest
    unfolding StandParsed
    stand-told rest =
        verdict-rest (stand_tests line individuals mapping) rest (stand-numbered line individuals mapping) (ap (λ (v : Verdict). v.number) (sym parsed.0))

    pub opened-shut : (e : Refusal) → said (fault_number e.fault) e.place ≡ verdict (genes_lent genes count) → StandOpened line individuals mapping genes count (Err e)
    unfolding StandOpened open_tests
    opened-shut e told = (told ∙ sym (stand-told (genes_lent genes count)), tt)

    pub opened-good : said 0 0 ≡ verdict (genes_lent genes count) → StandOpened line individuals mapping genes count (Ok stand)
    unfolding StandParsed StandOpened open_tests
    opened-good told = (told ∙ sym (stand-told (genes_lent genes count)), parsed.1)

-- ---- what an opened stand says of all tests of a call

module _ (line individuals mapping genes : List ℕ) (count : ℕ) where
  pub closed-told :
      (rest : List Test) (e : Refusal) → StandOpened line individuals mapping genes count (Err e)
      → verdict (open_tests line individuals mapping genes count ++ rest) ≡ said (fault_number e.fault) e.place
  unfolding StandOpened
  closed-told rest e opened = refused_first (open_tests line individuals mapping genes count) rest e opened.0

  module _ (stand : Stand) (opened : StandOpened line individuals mapping genes count (Ok stand)) where
    tests-pass : (verdict (open_tests line individuals mapping genes count)).number ≡ 0
    unfolding StandOpened
    tests-pass = ap (λ (v : Verdict). v.number) (sym opened.0)

    pub open_told : (rest : List Test) → verdict (open_tests line individuals mapping genes count ++ rest) ≡ verdict rest
    open_told rest = verdict-rest (open_tests line individuals mapping genes count) rest (open_numbered line individuals mapping genes count) tests-pass

-- ---- accepted exactly

module _ (line individuals mapping genes : List ℕ) (count : ℕ) where
  pub tests-openable : (verdict (open_tests line individuals mapping genes count)).number ≡ 0 → Openable line individuals mapping genes count
  unfolding open_tests stand_tests roster_test mapping_test count_test length_test
  tests-openable e =
      let a = verdict-passed _ _ (λ z. omega arith) e in
      let b = verdict-passed _ _ (λ z. omega arith) a.1 in
      let c = verdict-passed _ _ (λ z. omega arith) b.1 in
      let d = verdict-passed _ _ (λ z. omega arith) c.1 in
      let f = verdict-passed _ _ (λ z. omega arith) d.1 in
      let trees = both (leb 1 count) (leb count 4096) (not-false (leb 1 count && leb count 4096) d.0) in
      record {
        first_good = a.0;
        second_good = b.0;
        mapped = c.0;
        some_genes = leb-true 1 count trees.0;
        few_genes = leb-true count 4096 trees.1;
        fits = ltb-false (length genes) (64 * count) f.0;
      }

  -- behind them the others decide
  pub openable-told : Openable line individuals mapping genes count → (rest : List Test) → verdict (open_tests line individuals mapping genes count ++ rest) ≡ verdict rest
  unfolding open_tests stand_tests roster_test mapping_test count_test length_test verdict
  openable-told o rest =
      rw (
        o.first_good,
        o.second_good,
        o.mapped,
        le-leb 1 count o.some_genes,
        le-leb count 4096 o.few_genes,
        le-ltb (length genes) (64 * count) o.fits,
      )

  -- a call passes all its tests exactly where it passes these and the others
  pub open_passed : (rest : List Test) → (verdict (open_tests line individuals mapping genes count ++ rest)).number ≡ 0
      → Openable line individuals mapping genes count × ((verdict rest).number ≡ 0)
  open_passed rest e =
      let p = verdict_both (open_tests line individuals mapping genes count) rest (open_numbered line individuals mapping genes count) e in (tests-openable p.0, p.1)

  -- what the rosters give
  pub species-count : Openable line individuals mapping genes count → (1 ≤ length (names line)) × (length (names line) ≤ 16)
  species-count o = names-count 16 line o.first_good

  pub individuals-count : Openable line individuals mapping genes count → (1 ≤ length (names individuals)) × (length (names individuals) ≤ 32)
  individuals-count o = names-count 32 individuals o.second_good

-- the stand that the code has in hand then
pub record Opened (line individuals mapping genes : List ℕ) (count : ℕ) (stand : Stand) : Type 0 where
  pub openable : Openable line individuals mapping genes count
  pub species_are : stand.species ≡ length (names line)
  pub individuals_are : stand.individuals ≡ length (names individuals)
  pub groups_are : take stand.species stand.groups ≡ groups (names line) (names individuals) mapping
  pub groups_long : stand.species ≤ length stand.groups

pub is_opened :
    (line individuals mapping genes : List ℕ) (count : ℕ) (stand : Stand) → StandOpened line individuals mapping genes count (Ok stand)
    → Opened line individuals mapping genes count stand
unfolding StandOpened
is_opened line individuals mapping genes count stand opened =
    let sets = groups (names line) (names individuals) mapping in
    let sized = groups-length (names line) (names individuals) mapping in
    let species : stand.species ≡ length (names line) = ap (λ (s : Stand). s.species) opened.1 in
    let held : stand.groups ≡ sets ++ replicate (16 - length sets) 0 = ap (λ (s : Stand). s.groups) opened.1 in
    record {
      openable = tests-openable line individuals mapping genes count (tests-pass line individuals mapping genes count stand opened);
      species_are = species;
      individuals_are = ap (λ (s : Stand). s.individuals) opened.1;
      groups_are = rw (held, species, ← sized) (take-append_seam sets (replicate (16 - length sets) 0));
      groups_long = omega (arith, ap length held, length-append sets (replicate (16 - length sets) 0), species, sized);
    }
