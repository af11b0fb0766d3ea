-- The names of a roster line: printable; and of a good one: 1 to 15 bytes, few enough, and no two equal.
use Prim.Native.Nat.{ℕ, zero, suc, ◌+◌, ◌≤◌, ◌<◌, zero-le}
use native.Mathlib.Nat.{not-suc-le-zero, le_refl}
use native.Mathlib.Decide.{dec_le, dec_lt}
use native.Mathlib.Omega.{arith}
use mathlib.Core.Path.{◌≡◌, refl, sym, ap, ◌∙◌}
use mathlib.Core.Bool.{Bool, true, false}
use mathlib.Core.List.{List, []}
use lib.ListN.{length, get_or, drop, length-append, length-drop, get_or-eq_default}
use Rattle.labels.specs.Bytes.{is_printable, is_label}
use Rattle.labels.specs.Labels.{letters, told, padded}
use Rattle.labels.specs.Labels.Told.{ended}
use Rattle.labels.specs.Writing.{Printable}
use Rattle.labels.proofs.Letters.{letters-printable}
use Rattle.trees.proofs.Booleans.{never_both}
use Rattle.roster.specs.Roster.{byte_at, begins, name_at, names, position, many_at, fault_at, first_fault, faulty, in_quotes}
use Rattle.roster.specs.Table.{table, slots}
use Rattle.roster.proofs.Beginnings.{names_to, names_to_end, as_many, none_yet, with_more, no_more, each-begun}
use Rattle.roster.proofs.Each.{Each, each_at, each_still}
use Rattle.roster.proofs.Faults.{first_fault_lem, fault-within, no_fault_lem}
use Rattle.roster.proofs.Padding.{Fitting, letters-fit, position-padded}
use Rattle.roster.proofs.Places.{fault-stray, fault_many, fault-again, fault_open, many_here, few_here, again_here, open_fresh, stray-fresh, begins_label}
use Rattle.roster.proofs.Positions.{position-within, Distinct, distinct_more, distinct-differ}
use Rattle.roster.proofs.Spans.{Kind}
use Rattle.roster.proofs.Spans.Kind.{whole, broken}
use Rattle.roster.proofs.Tables.{Short, slots-table}
use Rattle.roster.proofs.Turns.{Starts, begins_here, label-kind, own-fault}

module _ (line : List ℕ) where
  begins_starts : (p : ℕ) → begins line p ≡ true → Starts line p
  begins_starts p e =
      let parts = begins_label line p e in
      record { here = by (dec_le (length line) p) parts.0; label = parts.0; fresh = parts.1; even = parts.2 }
    where
      by : Dec (length line ≤ p) → is_label (byte_at line p) ≡ true → p < length line
      by (yes h) first = absurd (never_both (is_label (byte_at line p)) first (ap is_label (get_or-eq_default line 0 h)))
      by (no n) first = omega arith

  -- each byte of each name is printable
  pub names-printable : (i k : ℕ) → i < length (names line) → k < length (get_or (names line) i []) → is_printable (get_or (get_or (names line) i []) k 0) ≡ true
  unfolding name_at
  names-printable i k h =
      each_at Printable (names line) i (rw (names_to_end line) (each-begun line Printable (length line) (λ p l e. letters-printable (drop p line)))) h k

-- a good roster
module _ (most : ℕ) (line : List ℕ) (good : faulty most line ≡ false) where
  -- a label that begins in it ends, with 1 to 15 letters
  pub label_ends : (p : ℕ) → begins line p ≡ true → (n : ℕ) × (told (drop p line) ≡ ended n) × (0 < length (name_at line p)) × (length (name_at line p) ≤ 15)
  unfolding name_at
  label_ends p e = let st = begins_starts line p e in by st (label-kind line p st)
    where
      by : Starts line p → Kind (drop p line) → (n : ℕ) × (told (drop p line) ≡ ended n) × (0 < length (letters (drop p line))) × (length (letters (drop p line)) ≤ 15)
      by st (whole n says some short spans) = (n, says, some, short)
      by st (broken fault d says stops) =
          let w = stops.within in
          let here = st.here in
          let left = length-drop p line in
          absurd (never_both (fault_at most line (p + d)) (own-fault line p st most d stops.own stops.some) (no_fault_lem most line good (p + d) (omega arith)))

  each-short : Each (λ w. length w ≤ 15) (names line)
  each-short = rw (names_to_end line) (each-begun line (λ w. length w ≤ 15) (length line) (λ p h e. (label_ends p e).3))

  pub names-short : (i : ℕ) → i < length (names line) → length (get_or (names line) i []) ≤ 15
  names-short i = each_at (λ w. length w ≤ 15) (names line) i each-short

  -- no name is empty
  pub names_some : (i : ℕ) → i < length (names line) → 0 < length (get_or (names line) i [])
  names_some i =
      each_at (λ w. 0 < length w) (names line) i (rw (names_to_end line) (each-begun line (λ w. 0 < length w) (length line) (λ p h e. (label_ends p e).2)))

  -- the names fit the table
  pub names-fit : Each Fitting (names line)
  unfolding name_at
  names-fit = rw (names_to_end line) (each-begun line Fitting (length line) (λ p h e. letters-fit (drop p line) (label_ends p e).3))

  -- no name is one too many
  few_to : (m : ℕ) → m ≤ length line → length (names_to line m) ≤ most
  few_to zero h = rw (none_yet line) zero-le
  few_to (suc m) h = by (begins line m) refl (few_to m (omega arith))
    where
      by : (t : Bool) → begins line m ≡ t → length (names_to line m) ≤ most → length (names_to line (suc m)) ≤ most
      by false e before = rw (no_more line m e) before
      by true e before =
          let n : length (names_to line m) ≡ most → ⊥ =
          λ full. never_both (fault_at most line m) (fault_many line m most (many_here line m most e (sym (as_many line m) ∙ full)))
          (no_fault_lem most line good m (omega arith)) in
          rw (with_more line m e, length-append) (omega arith)

  -- so where more names may stand, no name is one too many either
  none_too_many : (more : ℕ) → most ≤ more → (p : ℕ) → many_at more line p ≡ false
  unfolding many_at
  none_too_many more l p = by (begins line p) refl
    where
      by : (t : Bool) → begins line p ≡ t → many_at more line p ≡ false
      by true e =
          let here = (begins_starts line p e).here in
          let few : length (names_to line p) + 1 ≤ most = rw (with_more line p e, length-append) at (few_to (suc p) here) in
          few_here line p more (λ full. omega (arith, as_many line p))
      by false e = rw e

  faults_alike : (more : ℕ) → most ≤ more → (p : ℕ) → fault_at more line p ≡ fault_at most line p
  unfolding fault_at
  faults_alike more l p = rw (none_too_many most (le_refl most) p, none_too_many more l p)

  -- a good roster is one where more names may stand, too
  pub good-wider : (more : ℕ) → most ≤ more → faulty more line ≡ false
  good-wider more l = by (faulty more line) refl
    where
      by : (t : Bool) → faulty more line ≡ t → t ≡ false
      by true e =
          let p = first_fault more line in
          absurd (never_both (fault_at most line p) (sym (faults_alike more l p) ∙ (first_fault_lem more line e).0) (no_fault_lem most line good p (fault-within more line e)))
      by false e = refl

  -- a good line begins with a label
  first_starts : Starts line 0
  unfolding in_quotes
  first_starts =
      let some : 0 < length line = by (dec_lt 0 (length line)) in
      record { here = some; label = named (is_label (byte_at line 0)) refl some; fresh = refl; even = refl }
    where
      by : Dec (0 < length line) → 0 < length line
      by (yes h) = h
      by (no n) =
          absurd (never_both (fault_at most line 0) (fault_open line 0 most (open_fresh line 0 (omega arith) refl)) (no_fault_lem most line good 0 zero-le))

      named : (t : Bool) → is_label (byte_at line 0) ≡ t → 0 < length line → t ≡ true
      named true e h = refl
      named false e h =
          absurd (never_both (fault_at most line 0) (fault-stray line 0 most (stray-fresh line 0 h refl e refl refl)) (no_fault_lem most line good 0 zero-le))

  some_to : (m : ℕ) → 1 ≤ length (names_to line (suc m))
  some_to zero = rw (with_more line 0 (begins_here line 0 first_starts), length-append) (omega arith)
  some_to (suc m) = by (begins line (suc m)) refl (some_to m)
    where
      by : (t : Bool) → begins line (suc m) ≡ t → 1 ≤ length (names_to line (suc m)) → 1 ≤ length (names_to line (suc (suc m)))
      by false e before = rw (no_more line (suc m) e) before
      by true e before = rw (with_more line (suc m) e, length-append) (omega arith)

  -- at least one name and at most the most
  pub names-count : (1 ≤ length (names line)) × (length (names line) ≤ most)
  names-count = rw (names_to_end line) (from (length line) first_starts.here, few_to (length line) (le_refl (length line)))
    where
      from : (m : ℕ) → 0 < m → 1 ≤ length (names_to line m)
      from zero h = absurd (not-suc-le-zero h)
      from (suc m) h = some_to m

  distinct_to : (m : ℕ) → m ≤ length line → Distinct (names_to line m)
  distinct_to zero h = λ i l. absurd (not-suc-le-zero (rw (none_yet line) at l))
  distinct_to (suc m) h = by (begins line m) refl (distinct_to m (omega arith))
    where
      by : (t : Bool) → begins line m ≡ t → Distinct (names_to line m) → Distinct (names_to line (suc m))
      by false e before = rw (no_more line m e) before
      by true e before =
          rw (with_more line m e) (distinct_more (names_to line m) (name_at line m) before
          (new (dec_lt (position (name_at line m) (names_to line m)) (length (names_to line m)))))
        where
          new : Dec (position (name_at line m) (names_to line m) < length (names_to line m)) → position (name_at line m) (names_to line m) ≡ length (names_to line m)
          new (yes known) =
              let ends = label_ends m e in
              absurd (never_both (fault_at most line m) (fault-again line m most (again_here line m ends.0 e ends.1 (rw (← as_many line m) known)))
              (no_fault_lem most line good m (omega arith)))
          new (no n) = let w = position-within (name_at line m) (names_to line m) in omega arith

  -- no two are equal: each stands where it is in the list, so the i-th is species i
  pub names-distinct : (i : ℕ) → i < length (names line) → position (get_or (names line) i []) (names line) ≡ i
  names-distinct = rw (names_to_end line) (distinct_to (length line) (le_refl (length line)))

  pub names-differ : (i j : ℕ) → i < length (names line) → j < length (names line) → get_or (names line) i [] ≡ get_or (names line) j [] → i ≡ j
  names-differ = distinct-differ (names line) names-distinct

  -- looking a padded name up in the roster's table tells its species
  pub table_tells : (w : List ℕ) → Fitting w → position (padded w) (slots (length (names line)) (table (names line))) ≡ position w (names line)
  table_tells w f =
      rw (slots-table (names line) (each_still Fitting Short (λ v g. g.short) (names line) names-fit)) (position-padded w (names line) f names-fit)

  -- so does the name that was scanned off a text
  pub table-finds : (s : List ℕ) → length (letters s) ≤ 15 → position (padded (letters s)) (slots (length (names line)) (table (names line))) ≡ position (letters s) (names line)
  table-finds s h = table_tells (letters s) (letters-fit s h)
