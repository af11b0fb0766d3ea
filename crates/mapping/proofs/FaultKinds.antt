-- Which faults stand at a place, by what stands there, and the first of them.
use Prim.Native.Nat.{ℕ, suc, ◌≤◌, ◌<◌, zero-le}
use native.Mathlib.Omega.{arith}
use mathlib.Core.Path.{◌≡◌, sym, ap, ◌∙◌}
use mathlib.Core.Bool.{Bool, true, false, not, ◌&&◌, and-false, or-true}
use mathlib.Core.List.{List}
use lib.ListN.{length, drop}
use lib.Dec.{eqb, leb, ltb}
use borrow.Author.Tests.{eq-eqb, ne_eqb, lt-ltb, le-ltb, le-leb, lt-leb, leb-true, leb-false}
use Rattle.trees.specs.Lists.{some, up_to}
use Rattle.trees.specs.Valid.{among}
use Rattle.trees.proofs.Booleans.{unless, never_both}
use Rattle.faults.specs.declared.Fault.{Fault}
use Rattle.labels.specs.Bytes.{is_label}
use Rattle.labels.specs.Labels.{told}
use Rattle.labels.specs.Labels.Told.{ended, faulty as at_fault}
use Rattle.roster.specs.Roster.{byte_at, position, name_at}
use Rattle.roster.proofs.Least.{least_is, least_none, least_first}
use Rattle.mapping.specs.Mapping.{fresh_at, species_at, member_at, line_at, who_at, named, compared_at, no_label_at, no_colon_at, no_comma_at, stray_at, own_at, other_at, unknown_at, again_at, beyond_at, open_at}
use Rattle.mapping.specs.Mapping.{left_out_at, fault_at, first_fault, faulty}
use Rattle.mapping.specs.Work.{Clean, FirstAt}

module _ (text : List ℕ) (p : ℕ) where
  -- strays, by their three kinds
  pub stray-label : p < length text → fresh_at text p ≡ true → is_label (byte_at text p) ≡ false → stray_at text p ≡ true
  unfolding stray_at no_label_at
  stray-label h f e = rw (lt-ltb p (length text) h, f, e)

  pub stray-colon : p < length text → no_colon_at text p ≡ true → stray_at text p ≡ true
  unfolding stray_at
  stray-colon h e = rw (lt-ltb p (length text) h, e, or-true)

  pub stray-comma : p < length text → no_comma_at text p ≡ true → stray_at text p ≡ true
  unfolding stray_at
  stray-comma h e = rw (lt-ltb p (length text) h, e, or-true)

  pub no_stray : no_label_at text p ≡ false → no_colon_at text p ≡ false → no_comma_at text p ≡ false → stray_at text p ≡ false
  unfolding stray_at
  no_stray e f g = rw (e, f, g) (and-false (ltb p (length text)))

  pub no_stray_end : length text ≤ p → stray_at text p ≡ false
  unfolding stray_at
  no_stray_end h = rw (le-ltb p (length text) h)

  -- a label is where one has to begin, or none has to
  pub label_here : is_label (byte_at text p) ≡ true → no_label_at text p ≡ false
  unfolding no_label_at
  label_here e = rw e (and-false (fresh_at text p))

  pub label-elsewhere : fresh_at text p ≡ false → no_label_at text p ≡ false
  unfolding no_label_at
  label-elsewhere e = rw e

  -- names are compared where a label of their kind begins, and has no fault of its own
  pub compared : (kind : ℕ → Bool) (n : ℕ) → kind p ≡ true → told (drop p text) ≡ ended n → compared_at kind text p ≡ true
  compared kind n k e = rw (k, e)

  pub none_compared : (kind : ℕ → Bool) → kind p ≡ false → compared_at kind text p ≡ false
  none_compared kind k = rw k

  pub not_compared : (kind : ℕ → Bool) (fault : Fault) (d : ℕ) → told (drop p text) ≡ at_fault fault d → compared_at kind text p ≡ false
  not_compared kind fault d e = rw e (and-false (kind p))

  module _ (species : List (List ℕ)) where
    pub other_here : compared_at (species_at text) text p ≡ true → (position (name_at text p) species ≡ line_at text p → ⊥) → other_at species text p ≡ true
    unfolding other_at
    other_here c f = rw (c, ne_eqb (position (name_at text p) species) (line_at text p) f)

    pub no_other : position (name_at text p) species ≡ line_at text p → other_at species text p ≡ false
    unfolding other_at
    no_other e = rw (eq-eqb (position (name_at text p) species) (line_at text p) e) (and-false (compared_at (species_at text) text p))

    pub no_other_label : compared_at (species_at text) text p ≡ false → other_at species text p ≡ false
    unfolding other_at
    no_other_label c = rw c

  module _ (individuals : List (List ℕ)) where
    pub unknown_here : compared_at (member_at text) text p ≡ true → length individuals ≤ who_at individuals text p → unknown_at individuals text p ≡ true
    unfolding unknown_at
    unknown_here c f = rw (c, le-leb (length individuals) (who_at individuals text p) f)

    pub no_unknown : who_at individuals text p < length individuals → unknown_at individuals text p ≡ false
    unfolding unknown_at
    no_unknown h = rw (lt-leb (length individuals) (who_at individuals text p) h) (and-false (compared_at (member_at text) text p))

    -- a name that is compared and not at fault is known
    pub unknown-known : compared_at (member_at text) text p ≡ true → unknown_at individuals text p ≡ false → who_at individuals text p < length individuals
    unfolding unknown_at
    unknown-known c e = leb-false (length individuals) (who_at individuals text p) (sym (ap (λ (t : Bool). t && leb (length individuals) (who_at individuals text p)) c) ∙ e)

    pub no_unknown_label : compared_at (member_at text) text p ≡ false → unknown_at individuals text p ≡ false
    unfolding unknown_at
    no_unknown_label c = rw c

    pub again_here : compared_at (member_at text) text p ≡ true → among (who_at individuals text p) (named individuals text p) ≡ true → again_at individuals text p ≡ true
    unfolding again_at
    again_here c e = rw (c, e)

    pub no_again : among (who_at individuals text p) (named individuals text p) ≡ false → again_at individuals text p ≡ false
    unfolding again_at
    no_again e = rw e (and-false (compared_at (member_at text) text p))

    pub no_again_label : compared_at (member_at text) text p ≡ false → again_at individuals text p ≡ false
    unfolding again_at
    no_again_label c = rw c

  -- the lines, and the end
  module _ (species : List (List ℕ)) where
    pub beyond_here : p < length text → length species ≤ line_at text p → beyond_at species text p ≡ true
    unfolding beyond_at
    beyond_here h l = rw (lt-ltb p (length text) h, le-leb (length species) (line_at text p) l)

    pub no_beyond : line_at text p < length species → beyond_at species text p ≡ false
    unfolding beyond_at
    no_beyond h = rw (lt-leb (length species) (line_at text p) h) (and-false (ltb p (length text)))

    pub no_beyond_end : length text ≤ p → beyond_at species text p ≡ false
    unfolding beyond_at
    no_beyond_end h = rw (le-ltb p (length text) h)

    pub open_here : p ≡ length text → line_at text p < length species → open_at species text p ≡ true
    unfolding open_at
    open_here e h = rw (eq-eqb p (length text) e, lt-ltb (line_at text p) (length species) h)

    pub no_open : p < length text → open_at species text p ≡ false
    unfolding open_at
    no_open h = rw (ne_eqb p (length text) (omega arith))

    pub no_open_line : length species ≤ line_at text p → open_at species text p ≡ false
    unfolding open_at
    no_open_line h = rw (le-ltb (line_at text p) (length species) h) (and-false (eqb p (length text)))

  -- an individual that is left out
  abbrev pub missing : List (List ℕ) → Bool
  missing individuals = some (λ j. not (among j (named individuals text p))) (up_to (length individuals))

  pub left_out_here : (individuals : List (List ℕ)) → p ≡ length text → missing individuals ≡ true → left_out_at individuals text p ≡ true
  unfolding left_out_at
  left_out_here individuals e m = rw (eq-eqb p (length text) e, m)

  pub no_left_out : (individuals : List (List ℕ)) → p < length text → left_out_at individuals text p ≡ false
  unfolding left_out_at
  no_left_out individuals h = rw (ne_eqb p (length text) (omega arith))

  pub none_left_out : (individuals : List (List ℕ)) → missing individuals ≡ false → left_out_at individuals text p ≡ false
  unfolding left_out_at
  none_left_out individuals m = rw m (and-false (eqb p (length text)))

  -- a fault of one kind is a fault, and where there is none of any kind there is none
  module _ (species individuals : List (List ℕ)) where
    pub fault-stray : stray_at text p ≡ true → fault_at species individuals text p ≡ true
    unfolding fault_at
    fault-stray e = rw e

    pub fault-own : own_at text p ≡ true → fault_at species individuals text p ≡ true
    unfolding fault_at
    fault-own e = rw (e, or-true)

    pub fault_other : other_at species text p ≡ true → fault_at species individuals text p ≡ true
    unfolding fault_at
    fault_other e = rw (e, or-true)

    pub fault-unknown : unknown_at individuals text p ≡ true → fault_at species individuals text p ≡ true
    unfolding fault_at
    fault-unknown e = rw (e, or-true)

    pub fault-again : again_at individuals text p ≡ true → fault_at species individuals text p ≡ true
    unfolding fault_at
    fault-again e = rw (e, or-true)

    pub fault-beyond : beyond_at species text p ≡ true → fault_at species individuals text p ≡ true
    unfolding fault_at
    fault-beyond e = rw (e, or-true)

    pub fault_open : open_at species text p ≡ true → fault_at species individuals text p ≡ true
    unfolding fault_at
    fault_open e = rw (e, or-true)

    pub fault_left_out : left_out_at individuals text p ≡ true → fault_at species individuals text p ≡ true
    unfolding fault_at
    fault_left_out e = rw (e, or-true)

    -- where there is no fault there is none of each kind
    pub clean-unknown : fault_at species individuals text p ≡ false → unknown_at individuals text p ≡ false
    clean-unknown e = unless (unknown_at individuals text p) (λ f. never_both (fault_at species individuals text p) (fault-unknown f) e)

    pub clean_left_out : fault_at species individuals text p ≡ false → p ≡ length text → missing individuals ≡ false
    clean_left_out e over = unless (missing individuals) (λ f. never_both (fault_at species individuals text p) (fault_left_out (left_out_here individuals over f)) e)

    -- the eight kinds at a place
    pub record NoFault : Type 0 where
      pub stray : stray_at text p ≡ false
      pub own : own_at text p ≡ false
      pub other : other_at species text p ≡ false
      pub unknown : unknown_at individuals text p ≡ false
      pub again : again_at individuals text p ≡ false
      pub beyond : beyond_at species text p ≡ false
      pub ending : open_at species text p ≡ false
      pub left_out : left_out_at individuals text p ≡ false

    pub fault_none : NoFault → fault_at species individuals text p ≡ false
    unfolding fault_at
    fault_none n = rw (n.stray, n.own, n.other, n.unknown, n.again, n.beyond, n.ending, n.left_out)

-- ---- the first fault

module _ (species individuals : List (List ℕ)) (text : List ℕ) where
  -- what the number means: a fault stands there, and none before it
  pub first_fault_lem : faulty species individuals text ≡ true → FirstAt species individuals text (first_fault species individuals text)
  unfolding faulty first_fault
  first_fault_lem e =
      let found = least_first (fault_at species individuals text) (suc (length text)) 0 in
      let near = leb-true (first_fault species individuals text) (length text) e in
      record { within = near; here = found.0 (omega arith); clean = λ q l. found.1 q zero-le l }

  -- a good mapping has none
  pub no_fault_lem : faulty species individuals text ≡ false → (q : ℕ) → q ≤ length text → fault_at species individuals text q ≡ false
  unfolding faulty first_fault
  no_fault_lem e q l =
      let found = least_first (fault_at species individuals text) (suc (length text)) 0 in
      let far = leb-false (first_fault species individuals text) (length text) e in
      found.1 q zero-le (omega arith)

  -- how it is found
  pub first_at : (p : ℕ) → FirstAt species individuals text p → (faulty species individuals text ≡ true) × (first_fault species individuals text ≡ p)
  unfolding faulty first_fault
  first_at p f =
      let within = f.within in
      let at = least_is (fault_at species individuals text) (suc (length text)) 0 p zero-le (omega arith) f.here (λ q z. f.clean q) in
      (le-leb (first_fault species individuals text) (length text) (rw at within), at)

  pub clean-good : Clean species individuals text (suc (length text)) → faulty species individuals text ≡ false
  unfolding faulty first_fault
  clean-good clean =
      let none = least_none (fault_at species individuals text) (suc (length text)) 0 (λ q z l. clean q (omega arith)) in
      lt-leb (first_fault species individuals text) (length text) (omega arith)
