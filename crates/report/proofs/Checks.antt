-- The program's first checks, in their order: 2, 1, 17, then the mode.
use Prim.Native.Nat.{ℕ, ◌≤◌, ◌<◌}
use mathlib.Core.Path.{◌≡◌, refl}
use mathlib.Core.Bool.{true}
use mathlib.Core.List.{List}
use native.Mathlib.Omega.{arith}
use lib.ListN.{length}
use Rattle.std.proofs.Common.{Ok, Err}
use Rattle.faults.specs.Faults.{number}
use Rattle.faults.specs.declared.Refusal.{Refusal}
use borrow.Author.Tests.{le-leb, lt-leb}
use Rattle.roster.specs.Roster.{names}
use Rattle.roster.specs.Judged.{species_most, roster_of}
use Rattle.roster.specs.declared.Roster.{Roster}
use Rattle.roster.proofs.Judging.{read-good, read-faulty}
use Rattle.printing.specs.Texts.{report_of}
use Rattle.printing.specs.declared.Report.{Report}
use Rattle.report.specs.Input.{first_line}
use Rattle.report.specs.Program.{on_species, program}
use Rattle.outcomes.specs.Outcome.{Outcome}
use Rattle.outcomes.specs.Outcome.Outcome.{refused}
use Rattle.report.specs.Promise.{output, Reports}
use Rattle.outcomes.proofs.Telling.{retold}
use Rattle.outcomes.specs.Work.{told, Roster as GoodRoster}

-- the report of what the program finds is what is promised
pub reports : (input : List ℕ) {r : Report} {outcome : Outcome} → r ≡ told (names (first_line input)) outcome → outcome ≡ program input → Reports input r
unfolding Reports output report_of
reports input e is = retold (names (first_line input)) is e

pub too_long : (input : List ℕ) → 65536 < length input → refused 2 65536 ≡ program input
unfolding program
too_long input h = rw (lt-leb (length input) 65536 h)

-- ---- a roster line that was read

module _ (input : List ℕ) (short : length input ≤ 65536) where
  pub faulty_roster : (e : Refusal) → Err e ≡ roster_of species_most (first_line input) → refused (number e.fault) e.place ≡ program input
  unfolding program
  faulty_roster e read =
      let f = read-faulty species_most (first_line input) (Err e) read e refl in
      rw (le-leb (length input) 65536 short, f.0, f.1, f.2) refl

  module _ (roster : Roster) (read : Ok roster ≡ roster_of species_most (first_line input)) where
    pub many_species : 12 < roster.count → refused 17 0 ≡ program input
    unfolding program
    many_species h =
        let g = read-good species_most (first_line input) (Ok roster) read roster refl in
        let l : 12 < length (names (first_line input)) = omega (arith, g.1) in
        rw (le-leb (length input) 65536 short, g.0, lt-leb (length (names (first_line input))) 12 l)

    module _ (few : roster.count ≤ 12) where
      pub mode_next : on_species true input ≡ program input
      unfolding program
      mode_next =
          let g = read-good species_most (first_line input) (Ok roster) read roster refl in
          let l : length (names (first_line input)) ≤ 12 = omega (arith, g.1) in
          rw (le-leb (length input) 65536 short, g.0, le-leb (length (names (first_line input))) 12 l)

      pub roster_good : GoodRoster (first_line input) roster.count
      roster_good =
          let g = read-good species_most (first_line input) (Ok roster) read roster refl in
          record { good = g.0; named = g.1; few = few }
