-- The bytes of one label: which faults stand at them, where nothing is at fault before it.
use Prim.Native.Nat.{ℕ, suc, ◌+◌, ◌-◌, ◌≤◌, ◌<◌}
use native.Mathlib.Nat.{add-zero}
use native.Mathlib.Decide.{dec_lt}
use native.Mathlib.Omega.{arith}
use mathlib.Core.Path.{◌≡◌, refl, sym, ap, ◌∙◌}
use mathlib.Core.Bool.{Bool, true, false, ◌&&◌, ◌||◌, true≢false, and-false}
use mathlib.Core.List.{List}
use lib.ListN.{length, drop, length-drop, get_or-eq_default}
use lib.Seq.{get_or-drop}
use borrow.Author.Tests.{ne_eqb}
use Rattle.faults.specs.declared.Fault.{Fault}
use Rattle.labels.specs.Bytes.{is_label}
use Rattle.labels.specs.Labels.{Told, told}
use Rattle.labels.specs.Labels.Told.{ended, faulty as at_fault}
use Rattle.trees.specs.Lists.{some, up_to}
use Rattle.trees.proofs.Booleans.{both, unless, never_both, or_left, or_right}
use Rattle.trees.proofs.Listing.{some_of, of_some}
use Rattle.trees.proofs.UpTo.{among-up_to, up_to-among}
use Rattle.roster.specs.Roster.{byte_at, in_quotes, quoted_at}
use Rattle.roster.proofs.Parity.{quotes-beyond}
use Rattle.roster.proofs.Places.{begins_first}
use Rattle.roster.proofs.Spans.{Spans, Stops, Kind, kind, spanned, stopped}
use Rattle.mapping.specs.Mapping.{line_begins, item_begins, fresh_at, species_at, member_at, begins, line_at, ends_at, behind, no_colon_at, no_comma_at, own_by, own_at, other_at, unknown_at, again_at, fault_at}
use Rattle.mapping.specs.Work.{EndsBefore}
use Rattle.mapping.proofs.Marks.{byte-within, fresh-even, item_no_line, line_no_item, Unmarked, unmarked, unmarked-fresh, begins_fresh, line_still}
use Rattle.mapping.proofs.FaultKinds.{no_stray, label_here, label-elsewhere, none_compared, no_other_label, no_unknown_label, no_again_label, no_beyond, no_open, no_left_out, fault_none}

-- a label at a place
pub record Starts (text : List ℕ) (at : ℕ) : Type 0 where
  pub fresh : fresh_at text at ≡ true
  pub label : is_label (byte_at text at) ≡ true

module _ (text : List ℕ) (at : ℕ) (st : Starts text at) where
  abbrev s : List ℕ
  s = drop at text

  even : quoted_at text at ≡ false
  even = fresh-even text at st.fresh

  pub starts-within : at < length text
  starts-within = byte-within text at (λ z. true≢false (sym st.label ∙ ap is_label z))

  -- it begins there
  pub starts_begins : begins text at ≡ true
  unfolding species_at member_at
  starts_begins = rw st.label (by (line_begins text at) (item_begins text at) st.fresh)
    where
      by : (a b : Bool) → (a || b) ≡ true → ((a && true) || (b && true)) ≡ true
      by true b e = refl
      by false true e = refl
      by false false e = e

  label-kind : Kind s
  unfolding in_quotes
  label-kind = kind s (begins_first s 0 (ap is_label (get_or-drop at text 0 0 ∙ ap (byte_at text) (add-zero at)) ∙ st.label) refl refl)

  left : length s ≡ length text - at
  left = length-drop at text

  -- up to where it ends, or where its fault stands, no other label has to begin
  spans : (n : ℕ) → told s ≡ ended n → Spans s n
  spans n e = spanned s n e label-kind

  pub stops : (fault : Fault) (d : ℕ) → told s ≡ at_fault fault d → Stops s d
  stops fault d e = stopped s fault d e label-kind

  pub ended-unmarked : (n : ℕ) → told s ≡ ended n → Unmarked text at n
  ended-unmarked n e = let sp = spans n e in unmarked text at n even st.label sp.within sp.fine

  pub broken-unmarked : (fault : Fault) (d : ℕ) → told s ≡ at_fault fault d → Unmarked text at d
  broken-unmarked fault d e = let sp = stops fault d e in unmarked text at d even st.label sp.within sp.fine

  -- a label that ends takes some bytes of the text, and leaves no quote open
  pub ended-within : (n : ℕ) → told s ≡ ended n → (0 < n) × (at + n ≤ length text)
  ended-within n e = let sp = spans n e in let w = sp.within in let l = left in let h = starts-within in (sp.some, omega arith)

  pub ended-even : (n : ℕ) → told s ≡ ended n → quoted_at text (at + n) ≡ false
  ended-even n e = quotes-beyond text at n even ∙ (spans n e).even

-- the labels that begin before `at` end before it
abbrev pub Past : List ℕ → ℕ → Type 0
Past text at = (q : ℕ) → q < at → begins text q ≡ true → EndsBefore text q at

-- a kind of labels
abbrev pub KindOf : List ℕ → (ℕ → Bool) → Type 0
KindOf text kind = (q : ℕ) → kind q ≡ true → begins text q ≡ true

pub species-kind : (text : List ℕ) → KindOf text (species_at text)
species-kind text q e = or_left (species_at text q) (member_at text q) e

pub member_kind : (text : List ℕ) → KindOf text (member_at text)
member_kind text q e = or_right (species_at text q) (member_at text q) e

-- which label begins, where one has to
module _ (text : List ℕ) (at : ℕ) (label : is_label (byte_at text at) ≡ true) where
  pub species_here : line_begins text at ≡ true → species_at text at ≡ true
  unfolding species_at
  species_here e = rw (e, label)

  pub member_here : item_begins text at ≡ true → member_at text at ≡ true
  unfolding member_at
  member_here e = rw (e, label)

pub no_member_here : (text : List ℕ) (at : ℕ) → line_begins text at ≡ true → member_at text at ≡ false
unfolding member_at
no_member_here text at e = rw (line_no_item text at e)

pub no_species_here : (text : List ℕ) (at : ℕ) → item_begins text at ≡ true → species_at text at ≡ false
unfolding species_at
no_species_here text at e = rw (item_no_line text at e)

pub none_begins : (text : List ℕ) (q : ℕ) → fresh_at text q ≡ false → begins text q ≡ false
none_begins text q e = let n = begins_fresh text q e in rw (n.0, n.1)

-- what is said of a label by what is told of it, where it begins and a place
abbrev Said : Type 0
Said = Told → ℕ → ℕ → Bool

-- one of a kind that begins before m is said to have it at p
abbrev some_before : (ℕ → Bool) → Said → List ℕ → ℕ → ℕ → Bool
some_before kind say text p m = some (λ q. kind q && say (told (drop q text)) q p) (up_to m)

module _ (text : List ℕ) (at : ℕ) (past : Past text at) (kind : ℕ → Bool) (is : KindOf text kind) (say : Said) (p : ℕ) (over : (q n : ℕ) → q + n < at → say (ended n) q p ≡ false) where
  before_none : (q : ℕ) → q < at → kind q ≡ true → say (told (drop q text)) q p ≡ false
  before_none q h e =
      let before = past q h (is q e) in
      ap (λ (t : Told). say t q p) before.says ∙ over q before.n before.before

  -- where none begins from `at` on, none
  pub none_here : (m : ℕ) → ((q : ℕ) → at ≤ q → q < m → begins text q ≡ false) → some_before kind say text p m ≡ false
  none_here m later =
      unless (some_before kind say text p m) (λ e.
      let r = of_some (λ q. kind q && say (told (drop q text)) q p) (up_to m) e in
      by r.0 (among-up_to m r.1) (both (kind r.0) (say (told (drop r.0 text)) r.0 p) r.2) (dec_lt r.0 at))
    where
      by : (q : ℕ) → q < m → (kind q ≡ true) × (say (told (drop q text)) q p ≡ true) → Dec (q < at) → ⊥
      by q h k (yes l) = never_both (say (told (drop q text)) q p) k.1 (before_none q l k.0)
      by q h k (no n) = never_both (begins text q) (is q k.0) (later q (omega arith) h)

  -- where no other label begins behind it, only the one at `at`
  only_here : (m : ℕ) → at < m → ((q : ℕ) → at < q → q < m → begins text q ≡ false) → some_before kind say text p m ≡ (kind at && say (told (drop at text)) at p)
  only_here m after later = by (kind at && say (told (drop at text)) at p) refl
    where
      elsewhere : (q : ℕ) → q < m → (kind q && say (told (drop q text)) q p) ≡ true → Dec (q < at) → Dec (at < q) → q ≡ at
      elsewhere q h f (yes l) d =
          let k = both (kind q) (say (told (drop q text)) q p) f in absurd (never_both (say (told (drop q text)) q p) k.1 (before_none q l k.0))
      elsewhere q h f (no n) (yes l) =
          let k = both (kind q) (say (told (drop q text)) q p) f in absurd (never_both (begins text q) (is q k.0) (later q l h))
      elsewhere q h f (no n) (no o) = omega arith

      by : (t : Bool) → (kind at && say (told (drop at text)) at p) ≡ t → some_before kind say text p m ≡ t
      by true e = some_of (λ q. kind q && say (told (drop q text)) q p) (up_to m) (up_to-among m after) e
      by false e =
          unless (some_before kind say text p m) (λ f.
          let r = of_some (λ q. kind q && say (told (drop q text)) q p) (up_to m) f in
          let same = elsewhere r.0 (among-up_to m r.1) r.2 (dec_lt r.0 at) (dec_lt at r.0) in
          never_both (kind at && say (told (drop at text)) at p) (ap (λ (q : ℕ). kind q && say (told (drop q text)) q p) (sym same) ∙ r.2) e)

module _ (text : List ℕ) (at : ℕ) (st : Starts text at) (past : Past text at) where
  abbrev here : Told
  here = told (drop at text)

  -- no label ends just before its first byte
  behind_first : (kind : ℕ → Bool) → KindOf text kind → behind kind text at ≡ false
  behind_first kind is = none_here text at past kind is ends_at at (λ q n l. ne_eqb at (q + n) (λ e. absurd (omega arith))) at (λ q l h. absurd (omega arith))

  -- k bytes of it, or all
  module _ (k : ℕ) (none : Unmarked text at k) (p : ℕ) (within : p ≤ at + k) where
    later : (q : ℕ) → at < q → q ≤ p → begins text q ≡ false
    later q l h = none_begins text q (unmarked-fresh text at k none q l (omega arith))

    -- the label that ends just before a place behind its first byte can only be this one
    pub behind_is : (kind : ℕ → Bool) → KindOf text kind → at < p → behind kind text p ≡ (kind at && ends_at here at p)
    behind_is kind is after =
        only_here text at past kind is ends_at p (λ q n l. ne_eqb p (q + n) (λ e. absurd (omega arith))) p after (λ q l h. later q l (omega arith))

    -- and a fault of a label's own can only be its own
    pub own_is : at ≤ p → own_at text p ≡ own_by here at p
    unfolding own_at
    own_is after =
        only_here text at past (begins text) (λ q e. e) own_by p (λ q n l. refl) (suc p) (omega arith) (λ q l h. later q l (omega arith))
        ∙ ap (λ (t : Bool). t && own_by here at p) (starts_begins text at st)

  module _ (species individuals : List (List ℕ)) (few : line_at text at < length species) where
    -- its first byte
    pub first_clean : own_by here at at ≡ false → other_at species text at ≡ false → unknown_at individuals text at ≡ false → again_at individuals text at ≡ false
        → fault_at species individuals text at ≡ false
    unfolding no_colon_at no_comma_at
    first_clean own other unknown again =
        let h = starts-within text at st in
        let none : Unmarked text at 0 = record { no_feed = λ q l m. absurd (omega arith); no_parts = λ q l m. absurd (omega arith) } in
        fault_none text at species individuals (record {
          stray = no_stray text at (label_here text at st.label) (rw (behind_first (species_at text) (species-kind text)) refl) (rw (behind_first (member_at text) (member_kind text)) refl);
          own = own_is 0 none at (omega arith) (omega arith) ∙ own;
          other = other;
          unknown = unknown;
          again = again;
          beyond = no_beyond text at species few;
          ending = no_open text at species h;
          left_out = no_left_out text at individuals h;
        })

    module _ (k : ℕ) (none : Unmarked text at k) where
      -- the bytes behind it, up to where it ends
      pub line_is : (p : ℕ) → at ≤ p → p ≤ at + k → line_at text p ≡ line_at text at
      line_is p after within =
          let e : at + (p - at) ≡ p = omega arith in
          ap (line_at text) (sym e) ∙ line_still text (p - at) at (record { no_feed = λ q l h. none.no_feed q l (omega arith); no_parts = λ q l h. none.no_parts q l (omega arith) })

      -- a byte behind its first, where the text has not ended, by what is told of it
      pub inner-clean : (p : ℕ) → at < p → p ≤ at + k → p < length text → own_by here at p ≡ false → no_colon_at text p ≡ false → no_comma_at text p ≡ false
          → fault_at species individuals text p ≡ false
      inner-clean p after within h own colon comma =
          let fresh = unmarked-fresh text at k none p after within in
          let begin = begins_fresh text p fresh in
          fault_none text p species individuals (record {
            stray = no_stray text p (label-elsewhere text p fresh) colon comma;
            own = own_is k none p within (omega arith) ∙ own;
            other = no_other_label text p species (none_compared text p (species_at text) begin.0);
            unknown = no_unknown_label text p individuals (none_compared text p (member_at text) begin.1);
            again = no_again_label text p individuals (none_compared text p (member_at text) begin.1);
            beyond = no_beyond text p species (rw (line_is p (omega arith) within) few);
            ending = no_open text p species h;
            left_out = no_left_out text p individuals h;
          })

      -- which has no fault where the label does not end just before it
      pub within-clean : (p : ℕ) → at < p → p ≤ at + k → p < length text → own_by here at p ≡ false → ends_at here at p ≡ false → fault_at species individuals text p ≡ false
      unfolding no_colon_at no_comma_at
      within-clean p after within h own ends =
          inner-clean p after within h own
          (rw (behind_is k none p within (species_at text) (species-kind text) after, ends, and-false) refl)
          (rw (behind_is k none p within (member_at text) (member_kind text) after, ends, and-false) refl)

-- where the text ends and a label has to begin, none does, and none has a fault of its own
module _ (text : List ℕ) (at : ℕ) (past : Past text at) (ended_here : at ≡ length text) where
  pub end_begins : (species_at text at ≡ false) × (member_at text at ≡ false)
  unfolding species_at member_at
  end_begins =
      let none : is_label (byte_at text at) ≡ false = ap is_label (get_or-eq_default text 0 (omega arith)) in
      (rw none (and-false (line_begins text at)), rw none (and-false (item_begins text at)))

  pub end_own : own_at text at ≡ false
  unfolding own_at
  end_own = none_here text at past (begins text) (λ q e. e) own_by at (λ q n l. refl) (suc at) (λ q l h. let same : q ≡ at = omega arith in rw (same, end_begins.0, end_begins.1) refl)
