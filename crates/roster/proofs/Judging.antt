-- The roster as it was read: the reply of `judge`, that there is only one, and what the layers above know of it.
use Prim.Native.Nat.{ℕ, ◌≤◌}
use native.Mathlib.Omega.{arith}
use mathlib.Core.Path.{◌≡◌, refl, sym, ap, ◌∙◌}
use mathlib.Core.Bool.{Bool, true, false}
use mathlib.Core.List.{List}
use lib.ListN.{length}
use Rattle.roster.specs.Roster.{names, first_fault, faulty}
use Rattle.roster.specs.Table.{table}
use Rattle.roster.specs.Judged.{Judged, judged_by, roster_by, roster_of, reply_to, species_most}
use Rattle.faults.specs.declared.Fault.TheVariants.{FaultyRoster}
use Rattle.faults.specs.declared.Refusal.{Refusal}
use Rattle.std.specs.Prelude.{Result, Ok, Err}
use Rattle.std.specs.Result.{result_map_both}
use Rattle.roster.specs.declared.Reply.{Reply}
use Rattle.roster.specs.declared.Roster.{Roster}
use Rattle.roster.proofs.Each.{each_still}
use Rattle.roster.proofs.Names.{names-count, names-fit}
use Rattle.roster.proofs.Padding.{Fitting}
use Rattle.roster.proofs.Tables.{Short, table-length}

-- "promises .. a single outcome": two replies that both meet the promise are equal
pub judged-once : (line : List ℕ) (r r' : Reply) → Judged line r → Judged line r' → r ≡ r'
unfolding Judged
judged-once line r r' p q = p ∙ sym q

-- the reply of a roster that was read
pub roster-judged : (line : List ℕ) (r : Result Roster Refusal) → r ≡ roster_of species_most line → Judged line (reply_to (result_map_both (λ s. s.count) (λ e. e) r))
unfolding Judged roster_of
roster-judged line r = by (faulty species_most line)
  where
    by : (t : Bool) → r ≡ roster_by t species_most line → reply_to (result_map_both (λ s. s.count) (λ e. e) r) ≡ judged_by t species_most line
    by true e = rw e
    by false e = rw e

-- the refusal of a label makes a faulty roster, at its place
abbrev pub at_place : Refusal → Refusal
at_place e = record { fault = FaultyRoster; place = e.place }

pub mapped-ok : {A : Type 0} (r : Result A Refusal) (s : A) → result_map_both (λ s. s) at_place r ≡ Ok s → r ≡ Ok s
mapped-ok (Ok v) s is = is
mapped-ok (Err e) s is = absurd (cc)

pub mapped-err : {A : Type 0} (r : Result A Refusal) (f : Refusal) → result_map_both (λ s. s) at_place r ≡ Err f → (e : Refusal) × (r ≡ Err e) × (f ≡ at_place e)
mapped-err (Ok v) f is = absurd (cc)
mapped-err (Err e) f is = (e, refl, (cc))

-- what the layers above know of a roster that was read
module _ (most : ℕ) (line : List ℕ) (r : Result Roster Refusal) (read : r ≡ roster_of most line) where
  -- one that was read is good: it has the names of the line
  pub read-good : (roster : Roster) → r ≡ Ok roster → (faulty most line ≡ false) × (roster.count ≡ length (names line)) × (roster.table ≡ table (names line))
  unfolding roster_of
  read-good roster ok = by (faulty most line) refl (sym ok ∙ read)
    where
      by : (t : Bool) → faulty most line ≡ t → Ok roster ≡ roster_by t most line → (faulty most line ≡ false) × (roster.count ≡ length (names line)) × (roster.table ≡ table (names line))
      by true e is = absurd (cc)
      by false e is = let same : roster ≡ record { count = length (names line); table = table (names line) } = cc in (e, ap (λ (s : Roster). s.count) same, ap (λ (s : Roster). s.table) same)

  -- any other is faulty, and says where
  pub read-faulty : (e : Refusal) → r ≡ Err e → (faulty most line ≡ true) × (e.fault ≡ FaultyRoster) × (e.place ≡ first_fault most line)
  unfolding roster_of
  read-faulty e err = by (faulty most line) refl (sym err ∙ read)
    where
      by : (t : Bool) → faulty most line ≡ t → Err e ≡ roster_by t most line → (faulty most line ≡ true) × (e.fault ≡ FaultyRoster) × (e.place ≡ first_fault most line)
      by true f is = let same : e ≡ record { fault = FaultyRoster; place = first_fault most line } = cc in (f, ap (λ (s : Refusal). s.fault) same, ap (λ (s : Refusal). s.place) same)
      by false f is = absurd (cc)

  -- its table has 512 bytes, and room for its names
  pub read-room : most ≤ 32 → (roster : Roster) → r ≡ Ok roster → (length roster.table ≡ 512) × (roster.count ≤ most)
  read-room room roster ok =
      let good = read-good roster ok in
      let few = (names-count most line good.0).1 in (
        ap length good.2 ∙ table-length (names line) (omega arith) (each_still Fitting Short (λ w f. f.short) (names line) (names-fit most line good.0)),
        omega arith,
      )
