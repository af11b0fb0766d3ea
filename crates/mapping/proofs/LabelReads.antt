-- What reading the label at a place comes to, way by way.
use Prim.Native.Nat.{ℕ, ◌≤◌, ◌<◌}
use native.Mathlib.Decide.{dec_lt}
use native.Mathlib.Omega.{arith}
use mathlib.Core.Path.{◌≡◌, refl, sym, ◌∙◌}
use mathlib.Core.Bool.{Bool, true, false, cond, true≢false}
use mathlib.Core.List.{List}
use lib.ListN.{length, drop, length-drop}
use Rattle.std.proofs.Common.{Result, Ok, Err}
use Rattle.std.specs.Result.{result_map_both}
use Rattle.faults.specs.declared.Fault.TheVariants.{FaultyMapping}
use Rattle.faults.specs.declared.Refusal.{Refusal}
use Rattle.labels.specs.Bytes.{is_label, next_label}
use Rattle.labels.specs.Labels.{scanned_at}
use Rattle.labels.specs.declared.Scanned.{Scanned}
use Rattle.labels.proofs.FirstBytes.{label_here, label_end}
use Rattle.labels.proofs.Scans.{Ends, Fails, scanned_ends, scanned_fails}
use Rattle.labels.proofs.Spelled.{told_sound}
use Rattle.roster.specs.Roster.{byte_at, name_at}
use Rattle.mapping.specs.Mapping.{is_long, place_by}
use Rattle.mapping.specs.Work.{FirstAt, Begun, refusal_of, LabelRead}
use Rattle.mapping.proofs.Outcomes.{ends_early, no_label, broken-label}

module _ (text : List ℕ) (at : ℕ) where
  -- the first fault at a place, whatever the rosters are
  abbrev FaultyAt : ℕ → Type 0
  FaultyAt place =
      (species individuals : List (List ℕ)) (line : ℕ) → Begun species individuals text line at → line < length species → FirstAt species individuals text place

  unread : (place : ℕ) → FaultyAt place → LabelRead text at (Err (record { fault = FaultyMapping; place = place }))
  unfolding LabelRead
  unread place first = (tt, λ species individuals line b few. record { faulty = refl; first = first species individuals line b few })

  pub no_label_read : at ≤ length text → next_label (drop at text) ≡ false → LabelRead text at (Err (record { fault = FaultyMapping; place = at }))
  no_label_read within none = unread at (λ species individuals line b few. by species individuals line b few (dec_lt at (length text)))
    where
      by : (species individuals : List (List ℕ)) (line : ℕ) → Begun species individuals text line at → line < length species → Dec (at < length text) → FirstAt species individuals text at
      by species individuals line b few (yes here) = no_label species individuals text line at b few here (sym (label_here text at here) ∙ none)
      by species individuals line b few (no n) = ends_early species individuals text line at b few (omega arith)

  module _ (within : at ≤ length text) (first : next_label (drop at text) ≡ true) where
    here : at < length text
    here = by (dec_lt at (length text))
      where
        by : Dec (at < length text) → at < length text
        by (yes h) = h
        by (no n) = absurd (true≢false (sym first ∙ label_end text at (omega arith)))

    label : is_label (byte_at text at) ≡ true
    label = sym (label_here text at here) ∙ first

    -- a label of over fifteen bytes, and any other fault of its own
    broken : (e : Refusal) → Fails text at e.fault e.place → LabelRead text at (Err (refusal_of at e))
    broken e f = by (is_long e.fault) refl
      where
        broken_at : (t : Bool) → is_long e.fault ≡ t → FaultyAt (place_by t at f.d)
        broken_at t is species individuals line b few = rw is at (broken-label species individuals text line at b few label e.fault f.d f.says)

        by : (t : Bool) → is_long e.fault ≡ t
            → LabelRead text at (Err (record { fault = FaultyMapping; place = cond t at e.place }))
        by true is = unread at (broken_at true is)
        by false is = unread e.place (rw f.there (broken_at false is))

    -- a label that ends
    pub ended-says : (s : Scanned) → Ends text at s.next s.name → LabelRead text at (Ok s)
    unfolding LabelRead name_at
    ended-says s e =
        let so = told_sound (drop at text) e.n first e.says in
        let some = so.some in
        let within = so.within in
        let left = length-drop at text in
        let place = e.place in
        let h = here in (
          (omega arith, omega arith),
          λ species individuals line b few. record { label = label; n = e.n; says = e.says; place = e.place; called = e.named },
        )

    pub scanned_read : (r : Result Scanned Refusal) → r ≡ scanned_at text at → LabelRead text at (result_map_both (λ s. s) (refusal_of at) r)
    scanned_read (Ok s) is = ended-says s (scanned_ends text at (Ok s) is s refl)
    scanned_read (Err e) is = broken e (scanned_fails text at (Err e) is e refl)
