-- A gene tree on individuals (#110): its text is refused by a number at a place exactly where it has that fault, and by 8 only where the thirty-second parenthesis opens.
use Prim.Native.Nat.{ℕ}
use mathlib.Core.Path.{◌≡◌, refl, sym, ap, ◌∙◌, subst}
use mathlib.Core.Logic.{◌↔◌}
use mathlib.Core.Bool.{false}
use mathlib.Core.List.{List}
use native.Mathlib.Omega.{arith}
use lib.ListN.{drop}
use Rattle.roster.specs.Roster.{names}
use Rattle.std.proofs.Common.{None}
use Rattle.meanings.specs.Meaning.{Means}
use Rattle.meanings.proofs.Refusals.{says_8}
use Rattle.reader.specs.WidePromise.{wide_reading_of, ReadsWide}
use Rattle.reader.specs.declared.Kind.TheVariants.{Gene}
use Rattle.reader.specs.declared.wide.WideReading.{WideReading}
use Rattle.reader.proofs.WideReplies.{stand-refused}
use Rattle.demands.specs.StandTexts.{ThirtySecondOpens}
use Rattle.demands.specs.TextFaults.{StandTextFault}
use Rattle.demands.specs.TextFaults.TextFaultWithin.{of_roster, too_long, beyond, as_met}
use Rattle.demands.proofs.TextFaults.{fault_of_refusal, refusal_of_fault, plain-fault-numbers, roster-number}

module _ (individuals text : List ℕ) (start : ℕ) (q : WideReading) (reads : ReadsWide individuals text start q) where
  -- what is refused has the fault that its number and place name
  pub stand-text-fault : (q.number ≡ 0 → ⊥) → StandTextFault individuals text start q.number q.place
  stand-text-fault some = fault_of_refusal Gene None individuals text start q.number q.place (stand-refused individuals text start q reads some).answered

  -- and a text that has a fault is refused by it
  pub stand-refused_exactly :
      (number place : ℕ)
      → ((q.number ≡ number) × (q.place ≡ place) × (number ≡ 0 → ⊥)) ↔ StandTextFault individuals text start number place
  unfolding ReadsWide
  stand-refused_exactly number place = (
    λ h. rw (← h.0, ← h.1) (stand-text-fault (λ z. h.2 (sym h.0 ∙ z))),
    λ f.
        let e = reads ∙ ap (wide_reading_of start) (refusal_of_fault f) in
        (ap (λ (q : WideReading). q.number) e, ap (λ (q : WideReading). q.place) e, λ z. omega (arith, plain-fault-numbers f)),
  )

  -- "8 is for the thirty-second parenthesis" (#110)
  pub stand-eight : q.number ≡ 8 → ThirtySecondOpens text start q.place
  stand-eight eight = by (subst (λ (n : ℕ). StandTextFault individuals text start n q.place) eight (stand-text-fault (λ z. omega arith))) refl
    where
      by : {n p : ℕ} → StandTextFault individuals text start n p → n ≡ 8 → ThirtySecondOpens text start p
      by (of_roster f) is = absurd (omega (arith, roster-number f))
      by (too_long good long) is = absurd (omega arith)
      by (beyond good short out) is = absurd (omega arith)
      by (as_met good short inside r) is =
          let deep = says_8 false (subst (λ (n : ℕ). Means false (names individuals) 31 0 (drop start text) r.byte n) is r.means) in
          record { byte = r.byte; place = r.place; opening = deep.opening; allowed = deep.allowed; full = deep.full }
