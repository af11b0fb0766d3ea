-- The rosters and the mapping judged in their order: what `judge` answers, and that there is only one such answer.
use Prim.Native.Nat.{ℕ, ◌-◌, ◌≤◌}
use mathlib.Core.Path.{◌≡◌, refl, sym, ap, ap₂, subst, ◌∙◌}
use mathlib.Core.Bool.{true, false}
use mathlib.Core.List.{List, ◌++◌}
use lib.ListN.{length, replicate}
use Rattle.std.proofs.Common.{Result, Ok, Err}
use Rattle.faults.specs.declared.Fault.{Fault}
use Rattle.faults.specs.declared.Fault.TheVariants.{FaultyRoster, FaultyMapping}
use Rattle.faults.specs.declared.Refusal.{Refusal}
use Rattle.trees.proofs.UpTo.{length-map-up_to}
use Rattle.roster.specs.Roster.{names, faulty as roster_faulty, first_fault as roster_fault}
use Rattle.roster.specs.Judged.{roster_of}
use Rattle.roster.specs.Verdict.{verdict}
use Rattle.roster.specs.declared.Roster.{Roster}
use Rattle.roster.proofs.Judging.{read-good, read-faulty, read-room}
use Rattle.roster.proofs.Refusals.{said-refusal}
use Rattle.mapping.specs.Mapping.{named_in, faulty, first_fault}
use Rattle.mapping.specs.Groups.{set_of, groups}
use Rattle.mapping.specs.Promise.{roster_test, mapping_test, stand_tests, StandParsed}
use Rattle.mapping.specs.Work.{OfRoster, Refused, Reads, Good, GroupsRead}
use Rattle.mapping.specs.declared.Stand.{Stand}
use Rattle.mapping.proofs.FaultKinds.{first_at}

-- a refusal
abbrev pub refused_with : Fault → ℕ → Result Stand Refusal
refused_with fault place = Err (record { fault = fault; place = place })

-- "promises .. a single outcome": two answers that both meet the promise are equal
pub parsed-once : (line individuals mapping : List ℕ) (r r' : Result Stand Refusal) → StandParsed line individuals mapping r → StandParsed line individuals mapping r' → r ≡ r'
unfolding StandParsed
parsed-once line individuals mapping (Ok s) (Ok s') p q = ap Ok (p.1 ∙ sym q.1)
parsed-once line individuals mapping r (Err e) p q = said-refusal r e (p.0 ∙ sym q.0)
parsed-once line individuals mapping (Err e) (Ok s) p q = sym (said-refusal (Ok s) e (q.0 ∙ sym p.0))

-- as many sets as species
pub groups-length : (species individuals : List (List ℕ)) (text : List ℕ) → length (groups species individuals text) ≡ length species
unfolding groups
groups-length species individuals text = length-map-up_to (λ i. set_of (named_in individuals text i (length text))) (length species)

-- ---- the promise, by what each test says

module _ (line individuals mapping : List ℕ) where
  pub first_refuses : roster_faulty 16 line ≡ true → StandParsed line individuals mapping (refused_with FaultyRoster (roster_fault 16 line))
  unfolding StandParsed stand_tests roster_test verdict
  first_refuses e = (rw e refl, tt)

  module _ (first : roster_faulty 16 line ≡ false) where
    pub second-refuses : roster_faulty 32 individuals ≡ true → StandParsed line individuals mapping (refused_with FaultyRoster (roster_fault 32 individuals))
    unfolding StandParsed stand_tests roster_test verdict
    second-refuses e = (rw (first, e) refl, tt)

    module _ (second : roster_faulty 32 individuals ≡ false) where
      pub mapping_refuses : faulty (names line) (names individuals) mapping ≡ true
          → StandParsed line individuals mapping (refused_with FaultyMapping (first_fault (names line) (names individuals) mapping))
      unfolding StandParsed stand_tests roster_test mapping_test verdict
      mapping_refuses e = (rw (first, second, e) refl, tt)

      pub all_pass : faulty (names line) (names individuals) mapping ≡ false
          → StandParsed line individuals mapping (Ok (record {
            species = length (names line);
            individuals = length (names individuals);
            groups = groups (names line) (names individuals) mapping ++ replicate (16 - length (names line)) 0;
          }))
      unfolding StandParsed stand_tests roster_test mapping_test verdict
      all_pass e = (rw (first, second, e) refl, rw (groups-length (names line) (names individuals) mapping) refl)

-- ---- the ways through `judge`

-- a roster that was read is good, and its table has room
pub roster-held : (most : ℕ) (line : List ℕ) (r : Result Roster Refusal) → r ≡ roster_of most line → (roster : Roster) → r ≡ Ok roster → OfRoster most line roster.count roster.table
roster-held most line r is roster ok = let g = read-good most line r is roster ok in record { good = g.0; counted = g.1; tabled = g.2 }

pub roster-room : (most : ℕ) (line : List ℕ) (r : Result Roster Refusal) → r ≡ roster_of most line → most ≤ 32 → (roster : Roster) → r ≡ Ok roster → roster.count ≤ most
roster-room most line r is room roster ok = (read-room most line r is room roster ok).1

-- a refusal by its fault and place
refused_as : (line individuals mapping : List ℕ) (e : Refusal) (fault : Fault) (place : ℕ) → e.fault ≡ fault → e.place ≡ place
    → StandParsed line individuals mapping (refused_with fault place) → StandParsed line individuals mapping (Err e)
refused_as line individuals mapping e fault place f p = subst (StandParsed line individuals mapping) (ap₂ refused_with (sym f) (sym p))

module _ (line individuals mapping : List ℕ) (r : Result Roster Refusal) (is-first : r ≡ roster_of 16 line) where
  pub judged_first : (e : Refusal) → r ≡ Err e → StandParsed line individuals mapping (Err e)
  judged_first e err =
      let f = read-faulty 16 line r is-first e err in
      refused_as line individuals mapping e FaultyRoster (roster_fault 16 line) f.1 f.2 (first_refuses line individuals mapping f.0)

  module _ (first : Roster) (ok-first : r ≡ Ok first) (r' : Result Roster Refusal) (is-second : r' ≡ roster_of 32 individuals) where
    abbrev of : OfRoster 16 line first.count first.table
    of = roster-held 16 line r is-first first ok-first

    pub judged-second : (e : Refusal) → r' ≡ Err e → StandParsed line individuals mapping (Err e)
    judged-second e err =
        let f = read-faulty 32 individuals r' is-second e err in
        refused_as line individuals mapping e FaultyRoster (roster_fault 32 individuals) f.1 f.2 (second-refuses line individuals mapping of.good f.0)

    module _
        (second : Roster) (ok-second : r' ≡ Ok second) (read : Result (List ℕ) Refusal)
        (reads : GroupsRead first.table first.count second.table second.count mapping read)
      where
        abbrev ofs : OfRoster 32 individuals second.count second.table
        ofs = roster-held 32 individuals r' is-second second ok-second

        told : Reads (names line) (names individuals) mapping (λ found. Good (names line) (names individuals) mapping found) read
        unfolding GroupsRead
        told = reads line individuals of ofs

        pub judged-faulty : (e : Refusal) → read ≡ Err e → StandParsed line individuals mapping (Err e)
        judged-faulty e err =
            let f : Refused (names line) (names individuals) mapping e =
            subst (Reads (names line) (names individuals) mapping (λ found. Good (names line) (names individuals) mapping found)) err told in
            let g = first_at (names line) (names individuals) mapping e.place f.first in
            refused_as line individuals mapping e FaultyMapping (first_fault (names line) (names individuals) mapping) f.faulty (sym g.1)
            (mapping_refuses line individuals mapping of.good ofs.good g.0)

        pub judged-good : (found : List ℕ) → read ≡ Ok found
            → StandParsed line individuals mapping (Ok (record { species = first.count; individuals = second.count; groups = found }))
        judged-good found ok =
            let g : Good (names line) (names individuals) mapping found =
            subst (Reads (names line) (names individuals) mapping (λ found. Good (names line) (names individuals) mapping found)) ok told in
            rw (of.counted, ofs.counted, g.are) (all_pass line individuals mapping of.good ofs.good g.clean)
