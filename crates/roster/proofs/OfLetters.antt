-- A line without quotes and underscores is judged exactly as by 01: the same first fault, or the same names.
use Prim.Native.Nat.{ℕ, zero, suc, ◌+◌, ◌-◌, ◌≤◌, ◌<◌, zero-le}
use native.Mathlib.Nat.{le_refl, not-suc-le-zero}
use native.Mathlib.Decide.{dec_lt, dec_le}
use native.Mathlib.Omega.{arith}
use mathlib.Core.Path.{◌≡◌, refl, sym, ap, ap₂, ◌∙◌}
use mathlib.Core.Bool.{Bool, true, false, not, ◌&&◌, ◌||◌, and-true, or-false, true≢false}
use mathlib.Core.List.{List, [], ◌∷◌, ◌++◌, map}
use lib.ListN.{length, get_or, drop, get_or-eq_default}
use lib.Seq.{take_all, take-length, drop-cons, get_or-drop}
use lib.Dec.{eqb, leb, ltb}
use borrow.Author.Tests.{ne_eqb, eq-eqb, lt-ltb, le-ltb, le-leb, leb-true, ltb-true, eqb-true, lt-leb}
use Rattle.labels.specs.Bytes.{is_name, is_bare, is_label, run}
use Rattle.labels.specs.Base.{Unmarked}
use Rattle.faults.specs.declared.Fault.TheVariants.{LongWord}
use Rattle.labels.specs.Labels.{raw_to, told}
use Rattle.labels.specs.Labels.Told.{ended, faulty as at_fault}
use Rattle.labels.proofs.Runs.{run-byte}
use Rattle.labels.proofs.Telling.{raw-bare}
use Rattle.trees.specs.Lists.{keep, keep_if, up_to}
use Rattle.trees.proofs.Booleans.{both, unless}
use Rattle.trees.proofs.Listing.{keep_append, some_of, of_some}
use Rattle.trees.proofs.UpTo.{among-up_to, up_to-among}
use Rattle.roster.specs.Roster.{byte_at, byte_before, in_quotes, quoted_at, fresh_at, begins, beginnings, name_at, names, same, position, stray_at, sixteenth_of, long_at, many_at, again_at, open_at, fault_at, first_fault, faulty}
use Rattle.roster.specs.Letters.{base_begins, base_beginnings, base_name_at, base_names, base_stray_at, base_long_at, base_many_at, base_again_at, base_open_at, base_fault_at, base_first_fault, base_faulty}
use Rattle.roster.proofs.Beginnings.{names_to, as_many, each-begun}
use Rattle.roster.proofs.Faults.{no_fault_lem}
use Rattle.roster.proofs.Least.{least_same}
use Rattle.roster.proofs.Parity.{quotes_more}
use Rattle.roster.proofs.Places.{stray_by, stray_other, bare_no_space, begins_label, faulty_no_again, fault-stray, fault-long}
use Rattle.roster.proofs.Positions.{same_is, position-unknown}
use Rattle.labels.proofs.Bytewise.{all_drop}
use Rattle.labels.proofs.Unquoted.{Unquoted, unquoted_of, bare_is_name, unquoted_no_quote, unquoted_letters, unquoted_length, unquoted_told}

-- no byte is a quote or an underscore, nor is the 0 that stands for no byte
pub record Bytes (line : List ℕ) : Type 0 where
  pub all : Unquoted line
  pub quote : (k : ℕ) → eqb (get_or line k 0) 39 ≡ false
  pub score : (k : ℕ) → eqb (get_or line k 0) 95 ≡ false

bytes : (line : List ℕ) → Unmarked line → Bytes line
bytes line none = record { all = unquoted_of line none; quote = λ k. by 39 refl k (λ h. (none k h).0); score = λ k. by 95 refl k (λ h. (none k h).1) }
  where
    by : (c : ℕ) → eqb 0 c ≡ false → (k : ℕ) → (k < length line → get_or line k 0 ≡ c → ⊥) → eqb (get_or line k 0) c ≡ false
    by c z k other = decide (dec_lt k (length line))
      where
        decide : Dec (k < length line) → eqb (get_or line k 0) c ≡ false
        decide (yes h) = ne_eqb (get_or line k 0) c (other h)
        decide (no n) = ap (λ (b : ℕ). eqb b c) (get_or-eq_default line 0 (omega arith)) ∙ z

-- tests that follow from each other are the same
same_tests : (s t : Bool) → (s ≡ true → t ≡ true) → (t ≡ true → s ≡ true) → s ≡ t
same_tests true t f g = sym (f refl)
same_tests false true f g = g refl
same_tests false false f g = refl

-- the byte before p is the one at p - 1
before_is : (line : List ℕ) (p : ℕ) → 0 < p → byte_before line p ≡ get_or line (p - 1) 0
before_is line zero h = absurd (not-suc-le-zero h)
before_is line (suc p) h = let e : p ≡ suc p - 1 = omega arith in ap (byte_at line) e

outside_same : (b a : ℕ) (fresh : Bool) → eqb b 39 ≡ false → eqb b 95 ≡ false → eqb a 39 ≡ false → eqb a 95 ≡ false → fresh ≡ not (is_name a)
    → ((is_bare b && (fresh || is_bare a)) || (eqb b 39 && (fresh || eqb a 39)) || (eqb b 32 && (is_bare a || eqb a 39))) ≡ (is_name b || (eqb b 32 && is_name a))
outside_same b a fresh bq bs aq us f = rw (bare_is_name b bs, bare_is_name a us, bq, aq, f) (by (is_name b) (eqb b 32) (is_name a))
  where
    by : (name space before : Bool) → ((name && (not before || before)) || false || (space && (before || false))) ≡ (name || (space && before))
    by true space true = refl
    by true space false = refl
    by false space true = refl
    by false space false = refl

module _ (line : List ℕ) (a : Bytes line) where
  left : (q : ℕ) → Unquoted (drop q line)
  left q = all_drop q a.all

  name_same : (q : ℕ) → name_at line q ≡ base_name_at line q
  unfolding name_at base_name_at
  name_same q = unquoted_letters (drop q line) (left q)

  no_quotes : (p : ℕ) → quoted_at line p ≡ false
  unfolding in_quotes
  no_quotes zero = refl
  no_quotes (suc p) = by (dec_lt p (length line)) (no_quotes p)
    where
      by : Dec (p < length line) → quoted_at line p ≡ false → quoted_at line (suc p) ≡ false
      by (yes h) before = quotes_more line p (get_or line p 0) (drop (suc p) line) (drop-cons line p 0 h) ∙ rw (before, a.quote p)
      by (no n) before = ap in_quotes (take_all (suc p) line (omega arith) ∙ sym (take_all p line (omega arith))) ∙ before

  label_is_name : (p : ℕ) → is_label (byte_at line p) ≡ is_name (byte_at line p)
  label_is_name p =
      ap (λ (t : Bool). is_bare (byte_at line p) || t) (a.quote p) ∙ or-false (is_bare (byte_at line p)) ∙ bare_is_name (byte_at line p) (a.score p)

  before-bytes : (p : ℕ) → (eqb (byte_before line p) 39 ≡ false) × (eqb (byte_before line p) 95 ≡ false)
  before-bytes zero = (refl, refl)
  before-bytes (suc p) = (a.quote p, a.score p)

  open_same : (p : ℕ) → open_at line p ≡ base_open_at line p
  unfolding open_at base_open_at
  open_same p =
      let none : in_quotes line ≡ false = ap in_quotes (sym (take-length line)) ∙ no_quotes (length line) in
      rw (none, or-false)

  raw_fifteen : (q : ℕ) → raw_to 15 (drop q line) ≡ 15
  raw_fifteen q = raw-bare 15 (drop q line) (unquoted_no_quote (left q))

  length_same : (q : ℕ) → length (name_at line q) ≡ run is_name (drop q line)
  unfolding name_at
  length_same q = unquoted_length (drop q line) (left q)

  -- a short name ends its label, a long one is its fault
  ends_short : (q : ℕ) → length (name_at line q) ≤ 15 → told (drop q line) ≡ ended (run is_name (drop q line))
  ends_short q h = unquoted_told (drop q line) (left q) ∙ rw (le-leb (run is_name (drop q line)) 15 (rw (length_same q) at h)) refl

  fails_long : (q : ℕ) → 15 < length (name_at line q) → told (drop q line) ≡ at_fault LongWord 15
  fails_long q h = unquoted_told (drop q line) (left q) ∙ rw (lt-leb (run is_name (drop q line)) 15 (rw (length_same q) at h)) refl

  long_at_lem : (q : ℕ) → begins line q ≡ true → 15 < length (name_at line q) → long_at line (q + 15) ≡ true
  unfolding long_at
  long_at_lem q e h =
      some_of (sixteenth_of line (q + 15)) {x = q} (up_to (q + 15)) (up_to-among (q + 15) (omega arith))
      (rw (e, lt-ltb 15 (length (name_at line q)) h, raw_fifteen q) (eq-eqb (q + 15) (q + 15) refl))

  names_same_in : (l : List ℕ) → map (name_at line) l ≡ map (base_name_at line) l
  names_same_in [] = refl
  names_same_in (q ∷ l) = ap₂ (λ (w : List ℕ) (ws : List (List ℕ)). w ∷ ws) (name_same q) (names_same_in l)

  -- where no fault stands before p
  module _ (most p : ℕ) (within : p ≤ length line) (clean : (q : ℕ) → q < p → fault_at most line q ≡ false) where
    no_stray : (q : ℕ) → q < p → stray_at line q ≡ false
    no_stray q h = unless (stray_at line q) (λ e. true≢false (sym (fault-stray line q most e) ∙ clean q h))

    -- each byte is a name's or a space
    name_or_space : (q : ℕ) → q < p → eqb (byte_at line q) 32 ≡ not (is_name (byte_at line q))
    name_or_space q h = by (is_name (byte_at line q)) refl (eqb (byte_at line q) 32) refl
      where
        by : (name : Bool) → is_name (byte_at line q) ≡ name → (space : Bool) → eqb (byte_at line q) 32 ≡ space → space ≡ not name
        by true e space f = sym f ∙ bare_no_space (byte_at line q) (bare_is_name (byte_at line q) (a.score q) ∙ e)
        by false e true f = refl
        by false e false f =
            let bare = bare_is_name (byte_at line q) (a.score q) ∙ e in
            absurd (true≢false (sym (stray_other line q (omega arith) (no_quotes q) bare (a.quote q) f) ∙ no_stray q h))

    parted : (q : ℕ) → q ≤ p → fresh_at line q ≡ not (is_name (byte_before line q))
    parted zero h = refl
    parted (suc q) h = name_or_space q h

    begins_same : (q : ℕ) → q ≤ p → begins line q ≡ base_begins line q
    unfolding begins base_begins
    begins_same q h = rw (label_is_name q, parted q h, no_quotes q) (and-true (is_name (byte_at line q) && not (is_name (byte_before line q))))

    stray_same : stray_at line p ≡ base_stray_at line p
    unfolding base_stray_at
    stray_same =
        stray_by line p false (no_quotes p) ∙ ap (λ (t : Bool). ltb p (length line) && not t)
        (outside_same (byte_at line p) (byte_before line p) (fresh_at line p) (a.quote p) (a.score p) (before-bytes p).0 (before-bytes p).1 (parted p (le_refl p)))

    beginnings_same : (m : ℕ) → m ≤ p → beginnings line m ≡ base_beginnings line m
    unfolding beginnings base_beginnings up_to keep
    beginnings_same zero h = refl
    beginnings_same (suc m) h =
        keep_append (begins line) (up_to m) (m ∷ []) ∙ ap₂ (λ (l : List ℕ) (t : Bool). l ++ keep_if t m []) (beginnings_same m (omega arith)) (begins_same m (omega arith))
        ∙ sym (keep_append (base_begins line) (up_to m) (m ∷ []))

    many_same : many_at most line p ≡ base_many_at most line p
    unfolding many_at base_many_at
    many_same = rw (begins_same p (le_refl p), beginnings_same p (le_refl p))

    -- a sixteenth letter stands fifteen behind the first
    long_there : long_at line p ≡ true → base_long_at line p ≡ true
    unfolding long_at base_long_at
    long_there e = let r = of_some (sixteenth_of line p) (up_to p) e in by r.0 (among-up_to p r.1) r.2
      where
        by : (q : ℕ) → q < p → sixteenth_of line p q ≡ true → (leb 15 p && base_begins line (p - 15) && ltb 15 (run is_name (drop (p - 15) line))) ≡ true
        by q h e =
            let outer = both (begins line q && ltb 15 (length (name_at line q))) (eqb p (q + raw_to 15 (drop q line))) e in
            let inner = both (begins line q) (ltb 15 (length (name_at line q))) outer.0 in
            let place = eqb-true p (q + raw_to 15 (drop q line)) outer.1 in
            let raw = raw_fifteen q in
            let long = ltb-true 15 (length (name_at line q)) inner.1 in
            let size = length_same q in
            let back : p - 15 ≡ q = omega arith in
            rw (
              back,
              le-leb 15 p (omega arith),
              sym (begins_same q (omega arith)) ∙ inner.0,
              lt-ltb 15 (run is_name (drop q line)) (omega arith),
            )

    long_back : base_long_at line p ≡ true → long_at line p ≡ true
    unfolding long_at base_long_at
    long_back e =
        let q = p - 15 in
        let outer = both (leb 15 p && base_begins line q) (ltb 15 (run is_name (drop q line))) e in
        let inner = both (leb 15 p) (base_begins line q) outer.0 in
        let far = leb-true 15 p inner.0 in
        let long = ltb-true 15 (run is_name (drop q line)) outer.1 in
        let size = length_same q in
        some_of (sixteenth_of line p) {x = q} (up_to p) (up_to-among p (omega arith))
        (rw (begins_same q (omega arith) ∙ inner.1, lt-ltb 15 (length (name_at line q)) (omega arith), raw_fifteen q) (eq-eqb p (q + 15) (omega arith)))

    long_same : long_at line p ≡ base_long_at line p
    long_same = same_tests (long_at line p) (base_long_at line p) long_there long_back

    -- a name that begins before another is short: its sixteenth letter would be a fault before that
    before-short : begins line p ≡ true → (q : ℕ) → q < p → begins line q ≡ true → length (name_at line q) ≤ 15
    before-short here q h e = by (dec_le (length (name_at line q)) 15) (dec_lt (q + 15) p)
      where
        by : Dec (length (name_at line q) ≤ 15) → Dec (q + 15 < p) → length (name_at line q) ≤ 15
        by (yes short) d = short
        by (no n) (yes far) = absurd (true≢false (sym (fault-long line (q + 15) most (long_at_lem q e (omega arith))) ∙ clean (q + 15) far))
        by (no n) (no near) =
            let size = length_same q in
            let r = p - 1 - q in
            let same : q + r ≡ p - 1 = omega arith in
            let name : is_name (byte_before line p) ≡ true =
            ap is_name (before_is line p (omega arith) ∙ ap (byte_at line) (sym same) ∙ sym (get_or-drop q line r 0)) ∙ run-byte is_name (drop q line) r (omega arith) in
            absurd (true≢false (sym (begins_label line p here).1 ∙ parted p (le_refl p) ∙ ap not name))

    -- 01's test of a repeated name, in the names of today
    base_again : base_again_at line p ≡ (begins line p && ltb (position (name_at line p) (names_to line p)) (length (beginnings line p)))
    unfolding base_again_at names_to
    base_again = rw (begins_same p (le_refl p), name_same p, beginnings_same p (le_refl p), names_same_in (base_beginnings line p))

    -- a long name differs from the short ones before it
    long-new : 15 < length (name_at line p) → begins line p ≡ true → length (beginnings line p) ≤ position (name_at line p) (names_to line p)
    long-new long here =
        let differ = each-begun line (λ w. same (name_at line p) w ≡ false) p (λ q h e.
        let short = before-short here q h e in
        unless (same (name_at line p) (name_at line q)) (λ s. let lengths = ap (length {A = ℕ}) (same_is (name_at line p) (name_at line q) s) in omega arith)) in
        let unknown = position-unknown (name_at line p) (names_to line p) differ in
        let many = as_many line p in
        omega arith

    again_same : again_at line p ≡ base_again_at line p
    unfolding again_at names_to
    again_same = by (dec_le (length (name_at line p)) 15)
      where
        none : (t : Bool) → begins line p ≡ t → 15 < length (name_at line p)
            → (t && ltb (position (name_at line p) (names_to line p)) (length (beginnings line p))) ≡ false
        none false e long = refl
        none true e long = le-ltb (position (name_at line p) (names_to line p)) (length (beginnings line p)) (long-new long e)

        by : Dec (length (name_at line p) ≤ 15) → again_at line p ≡ base_again_at line p
        by (yes short) = rw (ends_short p short, and-true) (sym base_again)
        by (no n) = faulty_no_again line p LongWord 15 (fails_long p (omega arith)) ∙ sym (base_again ∙ none (begins line p) refl (omega arith))

    fault_same : fault_at most line p ≡ base_fault_at most line p
    unfolding fault_at base_fault_at
    fault_same = rw (stray_same, long_same, many_same, again_same, open_same p)

-- ---- the theorem

-- every line without quotes and underscores, whatever other bytes it has
module _ (most : ℕ) (line : List ℕ) (unmarked : Unmarked line) where
  pub first_fault_same : first_fault most line ≡ base_first_fault most line
  unfolding first_fault base_first_fault
  first_fault_same =
      least_same (fault_at most line) (base_fault_at most line) (suc (length line)) 0
      (λ p h l none. fault_same line (bytes line unmarked) most p (omega arith) (λ q. none q zero-le))

  pub faulty_same : faulty most line ≡ base_faulty most line
  unfolding faulty base_faulty
  faulty_same = rw first_fault_same

  -- a good one has the same names
  pub names_same : faulty most line ≡ false → names line ≡ base_names line
  unfolding names base_names
  names_same good =
      let a = bytes line unmarked in
      ap (map (name_at line)) (beginnings_same line a most (length line) (le_refl (length line)) (λ q h. no_fault_lem most line good q (omega arith)) (length line) (le_refl (length line)))
      ∙ names_same_in line a (base_beginnings line (length line))
