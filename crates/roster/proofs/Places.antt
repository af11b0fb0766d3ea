-- Which faults stand where, by what the bytes around a place are.
use Prim.Native.Nat.{ℕ, zero, suc, ◌≤◌, ◌<◌}
use native.Mathlib.Omega.{arith}
use mathlib.Core.Path.{◌≡◌, refl, sym, ap, ◌∙◌}
use mathlib.Core.Bool.{Bool, true, false, not, ◌&&◌, ◌||◌, and-false, or-true, true≢false, false≢true}
use mathlib.Core.List.{List, map}
use lib.ListN.{length, drop}
use lib.Dec.{eqb, ltb}
use borrow.Author.Tests.{eq-eqb, ne_eqb, lt-ltb, le-ltb, not-true, eqb-true}
use Rattle.labels.specs.Bytes.{is_bare, is_printable, is_label}
use Rattle.faults.specs.declared.Fault.{Fault}
use Rattle.labels.specs.Labels.{Told, told}
use Rattle.labels.specs.Labels.Told.{ended, faulty as at_fault}
use Rattle.labels.proofs.ByteKinds.{bare-printable, bare_no_quote, passes_other}
use Rattle.trees.proofs.Booleans.{both, unless}
use Rattle.roster.specs.Roster.{byte_at, byte_before, in_quotes, quoted_at, fresh_at, begins, beginnings, name_at, position, closes_nothing, may_stand_by, stray_at, long_at, many_at, ends_by, again_at, open_at, fault_at}
use Rattle.roster.proofs.Beginnings.{names_to}

-- what may stand outside quotes, by the byte and the one before it
abbrev outside : ℕ → ℕ → Bool → Bool
outside b a fresh = (is_bare b && (fresh || is_bare a)) || (eqb b 39 && (fresh || eqb a 39)) || (eqb b 32 && (is_bare a || eqb a 39))

-- a label's first byte where one may begin
outside_first : (b a : ℕ) → is_label b ≡ true → outside b a true ≡ true
outside_first b a = by (is_bare b) (eqb b 39) (eqb b 32 && (is_bare a || eqb a 39))
  where
    by : (bare quote space : Bool) → (bare || quote) ≡ true → ((bare && true) || (quote && true) || space) ≡ true
    by true quote space e = refl
    by false true space e = refl
    by false false space e = absurd (false≢true e)

-- one bare byte behind another, and one quote behind another
outside-bare : (b a : ℕ) (fresh : Bool) → is_bare b ≡ true → is_bare a ≡ true → outside b a fresh ≡ true
outside-bare b a fresh e f = rw (e, f, or-true fresh)

outside-pair : (fresh : Bool) → outside 39 39 fresh ≡ true
outside-pair fresh = rw (or-true fresh)

-- a space behind a label
outside-space : (a : ℕ) (fresh : Bool) → (is_bare a || eqb a 39) ≡ true → outside 32 a fresh ≡ true
outside-space a fresh e = rw e

-- and nothing else may stand: where a label may begin, behind a bare one, and behind a quoted one
not_outside_first : (b a : ℕ) (fresh : Bool) → is_label b ≡ false → is_bare a ≡ false → eqb a 39 ≡ false → outside b a fresh ≡ false
not_outside_first b a fresh e f g = rw (f, g) (by (is_bare b) (eqb b 39) (eqb b 32) e)
  where
    by : (bare quote space : Bool) → (bare || quote) ≡ false → ((bare && (fresh || false)) || (quote && (fresh || false)) || (space && false)) ≡ false
    by true quote space e = absurd (true≢false e)
    by false true space e = absurd (true≢false e)
    by false false space e = and-false space

not_outside_bare : (b a : ℕ) → is_bare b ≡ false → eqb b 32 ≡ false → eqb a 39 ≡ false → outside b a false ≡ false
not_outside_bare b a e f g = rw (e, f, g) (ap (λ (t : Bool). t || false) (and-false (eqb b 39)))

not_outside_quoted : (b : ℕ) → eqb b 39 ≡ false → eqb b 32 ≡ false → outside b 39 false ≡ false
not_outside_quoted b e f = rw (e, f) (ap (λ (t : Bool). t || false || false) (and-false (is_bare b)))

-- a byte that is neither a label's nor a space may stand nowhere, so one that is not printable may not
not_outside_other : (b a : ℕ) (fresh : Bool) → is_bare b ≡ false → eqb b 39 ≡ false → eqb b 32 ≡ false → outside b a fresh ≡ false
not_outside_other b a fresh bare quote space = rw (bare, quote, space)

not_outside_unprintable : (b a : ℕ) (fresh : Bool) → is_printable b ≡ false → outside b a fresh ≡ false
not_outside_unprintable b a fresh e =
    not_outside_other b a fresh (unless (is_bare b) (λ f. true≢false (sym (bare-printable b f) ∙ e))) (ne_eqb b 39 (λ f. true≢false (ap is_printable (sym f) ∙ e)))
    (ne_eqb b 32 (λ f. true≢false (ap is_printable (sym f) ∙ e)))

-- a byte of a bare label is no space
pub bare_no_space : (b : ℕ) → is_bare b ≡ true → eqb b 32 ≡ false
bare_no_space b e = passes_other is_bare b 32 e refl

module _ (line : List ℕ) (p : ℕ) where
  -- strays, by whether the place stands within quotes
  pub stray_by : (q : Bool) → quoted_at line p ≡ q → stray_at line p ≡ ltb p (length line) && not (may_stand_by q line p)
  unfolding stray_at
  stray_by q e = rw e

  may_no_stray : (q : Bool) → quoted_at line p ≡ q → may_stand_by q line p ≡ true → stray_at line p ≡ false
  may_no_stray q e m = stray_by q e ∙ ap (λ (t : Bool). ltb p (length line) && not t) m ∙ and-false (ltb p (length line))

  may_not_stray : (q : Bool) → p < length line → quoted_at line p ≡ q → may_stand_by q line p ≡ false → stray_at line p ≡ true
  may_not_stray q h e m = stray_by q e ∙ ap (λ (t : Bool). ltb p (length line) && not t) m ∙ rw (lt-ltb p (length line) h)

  -- within quotes
  pub no_stray_within : quoted_at line p ≡ true → is_printable (byte_at line p) ≡ true → closes_nothing line p ≡ false → stray_at line p ≡ false
  no_stray_within q e c = may_no_stray true q (ap (λ (t : Bool). t && not (closes_nothing line p)) e ∙ ap not c)

  pub stray-within : p < length line → quoted_at line p ≡ true → is_printable (byte_at line p) ≡ false → stray_at line p ≡ true
  stray-within h q e = may_not_stray true h q (ap (λ (t : Bool). t && not (closes_nothing line p)) e)

  pub stray-closing : p < length line → quoted_at line p ≡ true → closes_nothing line p ≡ true → stray_at line p ≡ true
  stray-closing h q c = may_not_stray true h q (ap (λ (t : Bool). is_printable (byte_at line p) && not t) c ∙ and-false (is_printable (byte_at line p)))

  -- outside: a label's first byte, a byte behind it, and a space behind a label are no strays
  pub no_stray_first : quoted_at line p ≡ false → fresh_at line p ≡ true → is_label (byte_at line p) ≡ true → stray_at line p ≡ false
  no_stray_first q f e =
      may_no_stray false q (ap (outside (byte_at line p) (byte_before line p)) f ∙ outside_first (byte_at line p) (byte_before line p) e)

  pub no_stray_bare : quoted_at line p ≡ false → is_bare (byte_at line p) ≡ true → is_bare (byte_before line p) ≡ true → stray_at line p ≡ false
  no_stray_bare q e f = may_no_stray false q (outside-bare (byte_at line p) (byte_before line p) (fresh_at line p) e f)

  pub no_stray_pair : quoted_at line p ≡ false → byte_at line p ≡ 39 → byte_before line p ≡ 39 → stray_at line p ≡ false
  no_stray_pair q e f =
      may_no_stray false q (ap (λ (b : ℕ). outside b (byte_before line p) (fresh_at line p)) e ∙ ap (λ (a : ℕ). outside 39 a (fresh_at line p)) f
      ∙ outside-pair (fresh_at line p))

  pub no_stray_space : quoted_at line p ≡ false → byte_at line p ≡ 32 → (is_bare (byte_before line p) || eqb (byte_before line p) 39) ≡ true → stray_at line p ≡ false
  no_stray_space q e f =
      may_no_stray false q (ap (λ (b : ℕ). outside b (byte_before line p) (fresh_at line p)) e ∙ outside-space (byte_before line p) (fresh_at line p) f)

  pub no_stray_end : length line ≤ p → stray_at line p ≡ false
  unfolding stray_at
  no_stray_end h = rw (le-ltb p (length line) h)

  -- any other byte is one
  pub stray-fresh : p < length line → quoted_at line p ≡ false → is_label (byte_at line p) ≡ false → is_bare (byte_before line p) ≡ false
      → eqb (byte_before line p) 39 ≡ false → stray_at line p ≡ true
  stray-fresh h q e f g = may_not_stray false h q (not_outside_first (byte_at line p) (byte_before line p) (fresh_at line p) e f g)

  pub stray-behind-bare : p < length line → quoted_at line p ≡ false → fresh_at line p ≡ false → is_bare (byte_before line p) ≡ true
      → is_bare (byte_at line p) ≡ false → (byte_at line p ≡ 32 → ⊥) → stray_at line p ≡ true
  stray-behind-bare h q f a e n =
      may_not_stray false h q (ap (outside (byte_at line p) (byte_before line p)) f
      ∙ not_outside_bare (byte_at line p) (byte_before line p) e (ne_eqb (byte_at line p) 32 n) (bare_no_quote (byte_before line p) a))

  pub stray-behind-quote : p < length line → quoted_at line p ≡ false → fresh_at line p ≡ false → byte_before line p ≡ 39
      → eqb (byte_at line p) 39 ≡ false → (byte_at line p ≡ 32 → ⊥) → stray_at line p ≡ true
  stray-behind-quote h q f a e n =
      may_not_stray false h q (ap (outside (byte_at line p) (byte_before line p)) f ∙ ap (λ (b : ℕ). outside (byte_at line p) b false) a
      ∙ not_outside_quoted (byte_at line p) e (ne_eqb (byte_at line p) 32 n))

  pub stray_other : p < length line → quoted_at line p ≡ false → is_bare (byte_at line p) ≡ false → eqb (byte_at line p) 39 ≡ false
      → eqb (byte_at line p) 32 ≡ false → stray_at line p ≡ true
  stray_other h q bare quote space =
      may_not_stray false h q (not_outside_other (byte_at line p) (byte_before line p) (fresh_at line p) bare quote space)

  -- a byte that is not printable is one wherever it stands
  pub stray-unprintable : p < length line → is_printable (byte_at line p) ≡ false → stray_at line p ≡ true
  stray-unprintable h e = by (quoted_at line p) refl
    where
      by : (q : Bool) → quoted_at line p ≡ q → stray_at line p ≡ true
      by true q = stray-within h q e
      by false q = may_not_stray false h q (not_outside_unprintable (byte_at line p) (byte_before line p) (fresh_at line p) e)

  -- a label begins where one may, and nowhere else
  pub begins_first : is_label (byte_at line p) ≡ true → fresh_at line p ≡ true → quoted_at line p ≡ false → begins line p ≡ true
  unfolding begins
  begins_first e f q = rw (e, f, q)

  pub begins_label : begins line p ≡ true → (is_label (byte_at line p) ≡ true) × (fresh_at line p ≡ true) × (quoted_at line p ≡ false)
  unfolding begins
  begins_label e =
      let outer = both (is_label (byte_at line p) && fresh_at line p) (not (quoted_at line p)) e in
      let inner = both (is_label (byte_at line p)) (fresh_at line p) outer.0 in
      (inner.0, inner.1, not-true (quoted_at line p) outer.1)

  pub begins_not_within : quoted_at line p ≡ true → begins line p ≡ false
  unfolding begins
  begins_not_within q = rw q (and-false (is_label (byte_at line p) && fresh_at line p))

  pub begins_not_apart : fresh_at line p ≡ false → begins line p ≡ false
  begins_not_apart f = unless (begins line p) (λ e. true≢false (sym (begins_label e).1 ∙ f))

  -- the faults of a label as a whole stand where one begins
  pub no_many : (most : ℕ) → begins line p ≡ false → many_at most line p ≡ false
  unfolding many_at
  no_many most e = rw e

  pub no_again : begins line p ≡ false → again_at line p ≡ false
  unfolding again_at
  no_again e = rw e

  pub many_here : (most : ℕ) → begins line p ≡ true → length (beginnings line p) ≡ most → many_at most line p ≡ true
  unfolding many_at
  many_here most e n = rw (e, n) (eq-eqb most most refl)

  pub few_here : (most : ℕ) → (length (beginnings line p) ≡ most → ⊥) → many_at most line p ≡ false
  unfolding many_at
  few_here most n = rw (ne_eqb (length (beginnings line p)) most n) (and-false (begins line p))

  -- a name that stands before, of a label without a fault of its own
  pub again_here : (n : ℕ) → begins line p ≡ true → told (drop p line) ≡ ended n → position (name_at line p) (names_to line p) < length (beginnings line p)
      → again_at line p ≡ true
  unfolding again_at names_to
  again_here n e f h = rw (e, f, lt-ltb (position (name_at line p) (names_to line p)) (length (beginnings line p)) h)

  pub new_here : length (beginnings line p) ≤ position (name_at line p) (names_to line p) → again_at line p ≡ false
  unfolding again_at names_to
  new_here h = rw (le-ltb (position (name_at line p) (names_to line p)) (length (beginnings line p)) h) (and-false (begins line p && ends_by (told (drop p line))))

  pub faulty_no_again : (fault : Fault) (d : ℕ) → told (drop p line) ≡ at_fault fault d → again_at line p ≡ false
  unfolding again_at
  faulty_no_again fault d e =
      let known = ltb (position (name_at line p) (map (name_at line) (beginnings line p))) (length (beginnings line p)) in
      ap (λ (t : Told). begins line p && ends_by t && known) e ∙ ap (λ (t : Bool). t && known) (and-false (begins line p))

  -- the line is open at its end alone: where it is empty, a space stands before, or a quote was never closed
  pub no_open : p < length line → open_at line p ≡ false
  unfolding open_at
  no_open h = rw (ne_eqb p (length line) (omega arith))

  pub no_open_after : 0 < p → eqb (byte_before line p) 32 ≡ false → in_quotes line ≡ false → open_at line p ≡ false
  unfolding open_at
  no_open_after h b q = rw (ne_eqb p 0 (omega arith), b, q) (and-false (eqb p (length line)))

  pub open_quoted : p ≡ length line → in_quotes line ≡ true → open_at line p ≡ true
  unfolding open_at
  open_quoted e q = rw (eq-eqb p (length line) e, q, or-true)

  -- a fault of one kind is a fault, and where there is none of any kind there is none
  module _ (most : ℕ) where
    pub fault-stray : stray_at line p ≡ true → fault_at most line p ≡ true
    unfolding fault_at
    fault-stray e = rw e

    pub fault-long : long_at line p ≡ true → fault_at most line p ≡ true
    unfolding fault_at
    fault-long e = rw (e, or-true)

    pub fault_many : many_at most line p ≡ true → fault_at most line p ≡ true
    unfolding fault_at
    fault_many e = rw (e, or-true)

    pub fault-again : again_at line p ≡ true → fault_at most line p ≡ true
    unfolding fault_at
    fault-again e = rw (e, or-true)

    pub fault_open : open_at line p ≡ true → fault_at most line p ≡ true
    unfolding fault_at
    fault_open e = rw (e, or-true)

    pub fault_none :
        stray_at line p ≡ false → long_at line p ≡ false → many_at most line p ≡ false → again_at line p ≡ false → open_at line p ≡ false
        → fault_at most line p ≡ false
    unfolding fault_at
    fault_none s l m a o = rw (s, l, m, a, o)

-- behind another byte a label may begin where that is a space
fresh-space : (line : List ℕ) (p : ℕ) → fresh_at line (suc p) ≡ true → byte_at line p ≡ 32
fresh-space line p f = eqb-true (byte_at line p) 32 f

-- a line is open at its end where a label may begin there
pub open_fresh : (line : List ℕ) (p : ℕ) → p ≡ length line → fresh_at line p ≡ true → open_at line p ≡ true
unfolding open_at
open_fresh line zero e f = rw (eq-eqb 0 (length line) e)
open_fresh line (suc p) e f = rw (eq-eqb (suc p) (length line) e, fresh-space line p f, or-true)

-- where a label may begin, the byte before is neither of a bare label nor a quote
pub fresh-apart : (line : List ℕ) (p : ℕ) → fresh_at line p ≡ true → (is_bare (byte_before line p) ≡ false) × (eqb (byte_before line p) 39 ≡ false)
fresh-apart line zero f = (refl, refl)
fresh-apart line (suc p) f = let space = fresh-space line p f in (ap is_bare space, ap (λ (b : ℕ). eqb b 39) space)

-- what closes nothing is a quote, no quote follows it, and a label begins just before it
pub closes_other : (line : List ℕ) (p : ℕ) → eqb (byte_at line p) 39 ≡ false → closes_nothing line p ≡ false
closes_other line zero e = refl
closes_other line (suc p) e = rw e

pub closes-twice : (line : List ℕ) (p : ℕ) → eqb (byte_at line (suc p)) 39 ≡ true → closes_nothing line p ≡ false
closes-twice line zero e = refl
closes-twice line (suc p) e = rw e (and-false (eqb (byte_at line (suc p)) 39 && begins line p && eqb (byte_at line p) 39))

pub closes_some : (line : List ℕ) (p : ℕ) → begins line p ≡ false → closes_nothing line (suc p) ≡ false
closes_some line p e = rw (e, and-false)
