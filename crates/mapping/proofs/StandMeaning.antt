-- What an answer of `judge` says: what is at fault and that nothing is before it, or what is known of a stand that is not refused.
use Prim.Native.Nat.{ℕ, ◌-◌, ◌≤◌}
use native.Mathlib.Omega.{arith}
use mathlib.Core.Path.{◌≡◌, refl, sym, ap, subst, ◌∙◌}
use Rattle.std.proofs.Common.{Result, Ok}
use Rattle.faults.specs.declared.Fault.TheVariants.{FaultyRoster, FaultyMapping}
use Rattle.faults.specs.declared.Refusal.{Refusal}
use Rattle.labels.proofs.Exits.{same_Ok, ok-err}
use mathlib.Core.Bool.{Bool, true, false}
use mathlib.Core.List.{List, ◌++◌}
use lib.ListN.{length, replicate}
use Rattle.roster.specs.Roster.{names, faulty as roster_faulty, first_fault as roster_fault}
use Rattle.roster.specs.Verdict.{verdict, said_by}
use Rattle.roster.proofs.Names.{names-count}
use Rattle.mapping.specs.Mapping.{faulty, first_fault}
use Rattle.mapping.specs.Groups.{groups, Parted}
use Rattle.mapping.specs.Promise.{stand_tests, StandParsed}
use Rattle.mapping.specs.Work.{FirstAt}
use Rattle.mapping.specs.declared.Stand.{Stand}
use Rattle.mapping.proofs.FaultKinds.{first_fault_lem}
use Rattle.mapping.proofs.Judging.{parsed-once, refused_with, first_refuses, second-refuses, mapping_refuses, all_pass}
use Rattle.mapping.proofs.Accepts.{good-parted}

-- 20: both rosters are good, a fault of the mapping stands at its place, and none before it
pub record MappingFault (line individuals mapping : List ℕ) (place : ℕ) : Type 0 where
  pub first : roster_faulty 16 line ≡ false
  pub second : roster_faulty 32 individuals ≡ false
  pub fault : FirstAt (names line) (names individuals) mapping place

-- a stand that is answered: all is good, the counts are those of the rosters, and the sets are the mapping's
pub record StandGood (line individuals mapping : List ℕ) (r : Stand) : Type 0 where
  pub first : roster_faulty 16 line ≡ false
  pub second : roster_faulty 32 individuals ≡ false
  pub good : faulty (names line) (names individuals) mapping ≡ false
  pub species_counted : r.species ≡ length (names line)
  pub individuals_counted : r.individuals ≡ length (names individuals)
  pub sets : r.groups ≡ groups (names line) (names individuals) mapping ++ replicate (16 - length (names line)) 0

module _ (line individuals mapping : List ℕ) (r : Result Stand Refusal) (p : StandParsed line individuals mapping r) where
  -- number and place are what the tests say
  pub says-verdict : said_by r ≡ verdict (stand_tests line individuals mapping)
  unfolding StandParsed
  says-verdict = p.0

  -- by whether each of the three is at fault
  by_faults :
      (Says : Result Stand Refusal → Type 0)
      → (roster_faulty 16 line ≡ true → Says (refused_with FaultyRoster (roster_fault 16 line)))
      → (roster_faulty 16 line ≡ false → roster_faulty 32 individuals ≡ true → Says (refused_with FaultyRoster (roster_fault 32 individuals)))
      → (roster_faulty 16 line ≡ false → roster_faulty 32 individuals ≡ false → faulty (names line) (names individuals) mapping ≡ true
      → Says (refused_with FaultyMapping (first_fault (names line) (names individuals) mapping)))
      → (roster_faulty 16 line ≡ false → roster_faulty 32 individuals ≡ false → faulty (names line) (names individuals) mapping ≡ false → Says r)
      → Says r
  by_faults Says one two three none = by (roster_faulty 16 line) (roster_faulty 32 individuals) (faulty (names line) (names individuals) mapping) refl refl refl
    where
      is : (s : Result Stand Refusal) → StandParsed line individuals mapping s → Says s → Says r
      is s q = subst Says (parsed-once line individuals mapping s r q p)

      by : (a b c : Bool) → roster_faulty 16 line ≡ a → roster_faulty 32 individuals ≡ b → faulty (names line) (names individuals) mapping ≡ c → Says r
      by true b c e f g = is (refused_with FaultyRoster (roster_fault 16 line)) (first_refuses line individuals mapping e) (one e)
      by false true c e f g = is (refused_with FaultyRoster (roster_fault 32 individuals)) (second-refuses line individuals mapping e f) (two e f)
      by false false true e f g =
          is (refused_with FaultyMapping (first_fault (names line) (names individuals) mapping)) (mapping_refuses line individuals mapping e f g) (three e f g)
      by false false false e f g = none e f g

  pub twenty_means : (said_by r).number ≡ 20 → MappingFault line individuals mapping (said_by r).place
  twenty_means =
      by_faults (λ s. (said_by s).number ≡ 20 → MappingFault line individuals mapping (said_by s).place) (λ e n. absurd (omega arith)) (λ e f n. absurd (omega arith))
      (λ e f g n. record { first = e; second = f; fault = first_fault_lem (names line) (names individuals) mapping g })
      (λ e f g n.
      let z = ap (λ (s : Result Stand Refusal). (said_by s).number) (parsed-once line individuals mapping r _ p (all_pass line individuals mapping e f g)) in
      absurd (omega arith))

  pub zero-means : (s : Stand) → r ≡ Ok s → StandGood line individuals mapping s
  zero-means s =
      by_faults (λ r. r ≡ Ok s → StandGood line individuals mapping s) (λ e ok. absurd (ok-err (sym ok))) (λ e f ok. absurd (ok-err (sym ok))) (λ e f g ok. absurd (ok-err (sym ok)))
      (λ e f g ok.
      let is = same_Ok (sym ok ∙ parsed-once line individuals mapping r _ p (all_pass line individuals mapping e f g)) in
      record {
        first = e;
        second = f;
        good = g;
        species_counted = ap (λ (s : Stand). s.species) is;
        individuals_counted = ap (λ (s : Stand). s.individuals) is;
        sets = ap (λ (s : Stand). s.groups) is;
      })

  -- so there are 1 to 16 species and 1 to 32 individuals, and the sets part these
  pub zero_bounds : (s : Stand) → r ≡ Ok s → ((1 ≤ s.species) × (s.species ≤ 16)) × ((1 ≤ s.individuals) × (s.individuals ≤ 32))
  zero_bounds s ok =
      let g = zero-means s ok in
      (rw g.species_counted (names-count 16 line g.first), rw g.individuals_counted (names-count 32 individuals g.second))

  pub zero-parted : (s : Stand) → r ≡ Ok s → Parted s.individuals (groups (names line) (names individuals) mapping)
  zero-parted s ok = let g = zero-means s ok in rw g.individuals_counted (good-parted line individuals mapping g.first g.second g.good).1
