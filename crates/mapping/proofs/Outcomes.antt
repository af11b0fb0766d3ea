-- What each way through one label gives: the first fault, or the place where the next label has to begin.
use Prim.Native.Nat.{ℕ, suc, ◌+◌, ◌≤◌, ◌<◌}
use native.Mathlib.Decide.{dec_lt}
use native.Mathlib.Omega.{arith}
use mathlib.Core.Path.{◌≡◌, refl, sym, ap, ◌∙◌}
use mathlib.Core.Bool.{Bool, true, false, not, ◌&&◌, ◌||◌, and-true, or-true}
use mathlib.Core.List.{List}
use lib.ListN.{length, drop, length-drop}
use lib.Dec.{eqb}
use borrow.Author.Tests.{eq-eqb, ne_eqb}
use Rattle.faults.specs.declared.Fault.{Fault}
use Rattle.labels.specs.Bytes.{is_label}
use Rattle.labels.specs.Labels.{Told, told}
use Rattle.labels.specs.Labels.Told.{ended, faulty as at_fault}
use Rattle.trees.proofs.Booleans.{never_both, or_left, or_right}
use Rattle.roster.specs.Roster.{byte_at, quoted_at}
use Rattle.mapping.specs.Mapping.{feed_at, parts_at, line_begins, item_begins, fresh_at, species_at, member_at, begins, line_at, ends_at, behind, no_colon_at, no_comma_at, stray_at, is_long, place_by, own_by, fault_at}
use Rattle.mapping.specs.Work.{Clean, FirstAt, EndsBefore, Begun}
use Rattle.mapping.proofs.Marks.{Unmarked, unmarked-fresh, begins_fresh, feed_here, colon-parts, comma-parts, line_more, line_same, parts_no_feed}
use Rattle.mapping.proofs.Naming.{NoMember}
use Rattle.mapping.proofs.FaultKinds.{stray-label, stray-colon, stray-comma, not_compared, no_other_label, no_unknown_label, no_again_label, open_here, fault-stray, fault-own, fault_open}
use Rattle.mapping.proofs.LabelSteps.{Starts, starts-within, ended-unmarked, ended-within, ended-even, broken-unmarked, stops, Past, KindOf, species_here, member_here, no_member_here}
use Rattle.mapping.proofs.LabelSteps.{no_species_here, species-kind, member_kind, none_begins, behind_is, own_is, first_clean, line_is, inner-clean, within-clean}

-- a clean place behind a clean text
pub clean_more : (species individuals : List (List ℕ)) (text : List ℕ) (p : ℕ) → Clean species individuals text p → fault_at species individuals text p ≡ false → Clean species individuals text (suc p)
clean_more species individuals text p clean here q h = by (dec_lt q p)
  where
    by : Dec (q < p) → fault_at species individuals text q ≡ false
    by (yes l) = clean q l
    by (no n) = let e : q ≡ p = omega arith in rw e here

-- up to a place behind `at`
clean_until : (species individuals : List (List ℕ)) (text : List ℕ) (at p : ℕ) → Clean species individuals text at → fault_at species individuals text at ≡ false
    → ((q : ℕ) → at < q → q < p → fault_at species individuals text q ≡ false) → Clean species individuals text p
clean_until species individuals text at p clean here more q h = by (dec_lt q at) (dec_lt at q)
  where
    by : Dec (q < at) → Dec (at < q) → fault_at species individuals text q ≡ false
    by (yes l) d = clean q l
    by (no n) (yes l) = more q l h
    by (no n) (no m) = let e : q ≡ at = omega arith in rw e here

module _ (species individuals : List (List ℕ)) (text : List ℕ) (line at : ℕ) (b : Begun species individuals text line at) (few : line < length species) where
  -- a fault at `at` is the first
  pub first_here : fault_at species individuals text at ≡ true → FirstAt species individuals text at
  first_here e = record { within = b.within; here = e; clean = b.clean }

  -- no byte of a label stands there: the text has ended, or another byte does
  pub ends_early : at ≡ length text → FirstAt species individuals text at
  ends_early e = first_here (fault_open text at species individuals (open_here text at species e (rw b.counted few)))

  pub no_label : at < length text → is_label (byte_at text at) ≡ false → FirstAt species individuals text at
  no_label h e = first_here (fault-stray text at species individuals (stray-label text at h b.fresh e))

  few_here : line_at text at < length species
  few_here = rw b.counted few

  module _ (label : is_label (byte_at text at) ≡ true) where
    starts : Starts text at
    starts = record { fresh = b.fresh; label = label }

    -- a label with a fault of its own
    pub broken-label : (fault : Fault) (d : ℕ) → told (drop at text) ≡ at_fault fault d → FirstAt species individuals text (place_by (is_long fault) at d)
    broken-label fault d says = by (is_long fault) refl
      where
        own_by_lem : (p : ℕ) (t : Bool) → is_long fault ≡ t → own_by (told (drop at text)) at p ≡ eqb p (place_by t at d)
        own_by_lem p t e = ap (λ (s : Told). own_by s at p) says ∙ ap (λ (u : Bool). eqb p (place_by u at d)) e

        none : Unmarked text at d
        none = broken-unmarked text at starts fault d says

        first_byte : is_long fault ≡ false → fault_at species individuals text at ≡ false
        first_byte e =
            let s = stops text at starts fault d says in
            let some = s.some in
            first_clean text at starts b.past species individuals few_here (own_by_lem at false e ∙ ne_eqb at (at + d) (λ f. absurd (omega arith)))
            (no_other_label text at species (not_compared text at (species_at text) fault d says))
            (no_unknown_label text at individuals (not_compared text at (member_at text) fault d says))
            (no_again_label text at individuals (not_compared text at (member_at text) fault d says))

        by : (t : Bool) → is_long fault ≡ t → FirstAt species individuals text (place_by t at d)
        by true e = first_here (fault-own text at species individuals (own_is text at starts b.past d none at (omega arith) (omega arith) ∙ own_by_lem at true e ∙ eq-eqb at at refl))
        by false e =
            let s = stops text at starts fault d says in
            let within = s.within in
            let left = length-drop at text in
            let h = starts-within text at starts in
            record {
              within = omega arith;
              here = fault-own text (at + d) species individuals (own_is text at starts b.past d none (at + d) (omega arith) (omega arith)
                  ∙ own_by_lem (at + d) false e ∙ eq-eqb (at + d) (at + d) refl);
              clean = clean_until species individuals text at (at + d) b.clean (first_byte e) (λ q l m.
                  within-clean text at starts b.past species individuals few_here d none q l (omega arith) (omega arith)
                  (own_by_lem q false e ∙ ne_eqb q (at + d) (λ f. absurd (omega arith))) (ap (λ (t : Told). ends_at t at q) says));
            }

    -- a label that ends, and whose first byte is not at fault
    module _ (n : ℕ) (says : told (drop at text) ≡ ended n) (fine : fault_at species individuals text at ≡ false) where
      none : Unmarked text at n
      none = ended-unmarked text at starts n says

      size : (0 < n) × (at + n ≤ length text)
      size = ended-within text at starts n says

      not_own : (p : ℕ) → own_by (told (drop at text)) at p ≡ false
      not_own p = ap (λ (t : Told). own_by t at p) says

      clean_next : Clean species individuals text (at + n)
      clean_next =
          let k = size in
          clean_until species individuals text at (at + n) b.clean fine (λ q l m.
          within-clean text at starts b.past species individuals few_here n none q l (omega arith) (omega arith) (not_own q)
          (ap (λ (t : Told). ends_at t at q) says ∙ ne_eqb q (at + n) (λ f. absurd (omega arith))))

      line_next : line_at text (at + n) ≡ line
      line_next = line_is text at starts b.past species individuals few_here n none (at + n) (omega arith) (omega arith) ∙ b.counted

      -- the text ends behind it
      pub open_next : at + n ≡ length text → FirstAt species individuals text (at + n)
      open_next e = record { within = size.1; here = fault_open text (at + n) species individuals (open_here text (at + n) species e (rw line_next few)); clean = clean_next }

      -- a label of its kind ends just before the byte behind it
      behind-label : (kind : ℕ → Bool) → KindOf text kind → behind kind text (at + n) ≡ kind at
      behind-label kind is =
          let k = size in
          behind_is text at starts b.past n none (at + n) (omega arith) kind is (omega arith)
          ∙ ap (λ (t : Told). kind at && ends_at t at (at + n)) says ∙ ap (λ (t : Bool). kind at && t) (eq-eqb (at + n) (at + n) refl) ∙ and-true (kind at)

      -- another byte stands behind it than may
      stray_next : at + n < length text → stray_at text (at + n) ≡ true → FirstAt species individuals text (at + n)
      stray_next h e = record { within = size.1; here = fault-stray text (at + n) species individuals e; clean = clean_next }

      -- the labels that begin before the place behind that byte end before it
      past_next : Past text (suc (at + n))
      past_next q h e = by (dec_lt q at) (dec_lt at q)
        where
          by : Dec (q < at) → Dec (at < q) → EndsBefore text q (suc (at + n))
          by (yes l) d = let f = b.past q l e in let g = f.before in record { n = f.n; says = f.says; before = omega arith }
          by (no m) (yes l) = absurd (never_both (begins text q) e (none_begins text q (unmarked-fresh text at n none q l (omega arith))))
          by (no m) (no o) =
              let same : at ≡ q = omega arith in
              record { n = n; says = ap (λ (p : ℕ). told (drop p text)) (sym same) ∙ says; before = omega arith }

      -- one that may: the next label has to begin behind it
      begun_next : at + n < length text → no_colon_at text (at + n) ≡ false → no_comma_at text (at + n) ≡ false → fresh_at text (suc (at + n)) ≡ true
          → (next : ℕ) → line_at text (suc (at + n)) ≡ next → Begun species individuals text next (suc (at + n))
      begun_next h colon comma fresh next counted =
          let k = size in
          record {
            within = h;
            fresh = fresh;
            clean = clean_more species individuals text (at + n) clean_next
                (inner-clean text at starts b.past species individuals few_here n none (at + n) (omega arith) (omega arith) h (not_own (at + n)) colon comma);
            past = past_next;
            counted = counted;
          }

      even_next : quoted_at text (at + n) ≡ false
      even_next = ended-even text at starts n says

      -- the label of a species
      module _ (head : line_begins text at ≡ true) where
        colon_by : (t : Bool) → eqb (byte_at text (at + n)) 58 ≡ t → no_colon_at text (at + n) ≡ not t
        unfolding no_colon_at
        colon_by t e = rw (behind-label (species_at text) (species-kind text), species_here text at label head, e)

        comma_none : no_comma_at text (at + n) ≡ false
        unfolding no_comma_at
        comma_none = rw (behind-label (member_at text) (member_kind text), no_member_here text at head)

        pub no_colon : at + n < length text → (byte_at text (at + n) ≡ 58 → ⊥) → FirstAt species individuals text (at + n)
        no_colon h e = stray_next h (stray-colon text (at + n) h (colon_by false (ne_eqb (byte_at text (at + n)) 58 e)))

        pub colon_next : at + n < length text → byte_at text (at + n) ≡ 58 → Begun species individuals text line (suc (at + n)) × (item_begins text (suc (at + n)) ≡ true)
        colon_next h e =
            let parts = colon-parts text (at + n) e even_next in (
              begun_next h (colon_by true (eq-eqb (byte_at text (at + n)) 58 e)) comma_none (or_right (feed_at text (at + n)) (parts_at text (at + n)) parts) line
                  (line_same text (at + n) (parts_no_feed text (at + n) parts) ∙ line_next),
              parts,
            )

      -- the label of an individual
      module _ (item : item_begins text at ≡ true) where
        comma_by : (t u : Bool) → eqb (byte_at text (at + n)) 44 ≡ t → eqb (byte_at text (at + n)) 10 ≡ u → no_comma_at text (at + n) ≡ not (t || u)
        unfolding no_comma_at
        comma_by t u e f = rw (behind-label (member_at text) (member_kind text), member_here text at label item, e, f)

        colon_none : no_colon_at text (at + n) ≡ false
        unfolding no_colon_at
        colon_none = rw (behind-label (species_at text) (species-kind text), no_species_here text at item)

        pub no-comma : at + n < length text → (byte_at text (at + n) ≡ 10 → ⊥) → (byte_at text (at + n) ≡ 44 → ⊥) → FirstAt species individuals text (at + n)
        no-comma h e f =
            stray_next h (stray-comma text (at + n) h (comma_by false false (ne_eqb (byte_at text (at + n)) 44 f) (ne_eqb (byte_at text (at + n)) 10 e)))

        pub comma_next : at + n < length text → byte_at text (at + n) ≡ 44 → Begun species individuals text line (suc (at + n)) × (item_begins text (suc (at + n)) ≡ true)
        comma_next h e =
            let parts = comma-parts text (at + n) e even_next in (
              begun_next h colon_none (comma_by true (eqb (byte_at text (at + n)) 10) (eq-eqb (byte_at text (at + n)) 44 e) refl)
                  (or_right (feed_at text (at + n)) (parts_at text (at + n)) parts) line (line_same text (at + n) (parts_no_feed text (at + n) parts) ∙ line_next),
              parts,
            )

        pub feed_next : at + n < length text → byte_at text (at + n) ≡ 10 → Begun species individuals text (suc line) (suc (at + n)) × (line_begins text (suc (at + n)) ≡ true)
        feed_next h e =
            let feed = feed_here text (at + n) e even_next in (
              begun_next h colon_none (comma_by (eqb (byte_at text (at + n)) 44) true refl (eq-eqb (byte_at text (at + n)) 10 e) ∙ ap not (or-true (eqb (byte_at text (at + n)) 44)))
                  (or_left (feed_at text (at + n)) (parts_at text (at + n)) feed) (suc line) (line_more text (at + n) feed ∙ ap suc line_next),
              feed,
            )

      -- no other individual's label begins up to the byte behind it
      pub none_until : NoMember text (suc at) n
      none_until q l h = (begins_fresh text q (unmarked-fresh text at n none q l (omega arith))).1
