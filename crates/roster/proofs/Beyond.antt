-- A line seen from a place where a label may begin: its faults are those of what stands from there on.
use Prim.Native.Nat.{ℕ, zero, suc, ◌+◌, ◌-◌, ◌≤◌, ◌<◌}
use native.Mathlib.Nat.{add-zero, add-suc, not-suc-le-zero}
use native.Mathlib.Decide.{dec_lt}
use native.Mathlib.Omega.{arith}
use mathlib.Core.Path.{◌≡◌, refl, sym, ap, ap₂, ◌∙◌}
use mathlib.Core.Bool.{Bool, true, false, not, ◌&&◌, true≢false}
use mathlib.Core.List.{List}
use lib.ListN.{length, take, drop, take-append-drop, length-drop}
use lib.Seq.{get_or-drop, drop-drop}
use lib.Dec.{eqb, ltb}
use borrow.Author.Tests.{eq-eqb, ne_eqb, eqb-true, eqb-false, lt-ltb, le-ltb, ltb-true}
use Rattle.labels.specs.Bytes.{is_printable}
use Rattle.labels.specs.Labels.{raw_to}
use Rattle.trees.specs.Lists.{up_to}
use Rattle.trees.proofs.Booleans.{both, unless}
use Rattle.trees.proofs.Listing.{some_of, of_some}
use Rattle.trees.proofs.UpTo.{among-up_to, up_to-among}
use Rattle.roster.specs.Roster.{byte_at, byte_before, in_quotes, quoted_at, fresh_at, begins, name_at, closes_nothing, may_stand_by, stray_at, sixteenth_of, long_at, open_at}
use Rattle.roster.proofs.Parity.{quotes_append, quotes-beyond}

-- equal and below stay so when both sides grow
eqb-beyond : (at a b : ℕ) → eqb (at + a) (at + b) ≡ eqb a b
eqb-beyond at a b = by (eqb a b) refl
  where
    by : (t : Bool) → eqb a b ≡ t → eqb (at + a) (at + b) ≡ t
    by true e = eq-eqb (at + a) (at + b) (ap (λ (k : ℕ). at + k) (eqb-true a b e))
    by false e = ne_eqb (at + a) (at + b) (λ f. eqb-false a b e (omega arith))

ltb-beyond : (line : List ℕ) (at m : ℕ) → ltb (at + m) (length line) ≡ ltb m (length (drop at line))
ltb-beyond line at m = by (dec_lt (at + m) (length line))
  where
    by : Dec (at + m < length line) → ltb (at + m) (length line) ≡ ltb m (length (drop at line))
    by (yes h) = let l = length-drop at line in lt-ltb (at + m) (length line) h ∙ sym (lt-ltb m (length (drop at line)) (omega arith))
    by (no n) = let l = length-drop at line in le-ltb (at + m) (length line) (omega arith) ∙ sym (le-ltb m (length (drop at line)) (omega arith))

module _ (line : List ℕ) (at : ℕ) (fresh : fresh_at line at ≡ true) (even : quoted_at line at ≡ false) where
  abbrev s : List ℕ
  s = drop at line

  byte-beyond : (k : ℕ) → byte_at line (at + k) ≡ byte_at s k
  byte-beyond k = sym (get_or-drop at line k 0)

  byte-after : (k : ℕ) → byte_at line (suc (at + k)) ≡ byte_at s (suc k)
  byte-after k = ap (byte_at line) (sym (add-suc at k)) ∙ byte-beyond (suc k)

  pub before-beyond : (k : ℕ) → 0 < k → byte_before line (at + k) ≡ byte_before s k
  before-beyond zero some = absurd (not-suc-le-zero some)
  before-beyond (suc k) some = rw (add-suc at k) (byte-beyond k)

  fresh-beyond : (k : ℕ) → fresh_at line (at + k) ≡ fresh_at s k
  fresh-beyond zero = rw (add-zero at) fresh
  fresh-beyond (suc k) = rw (add-suc at k, byte-beyond k)

  -- the labels that begin are the same
  pub begins_beyond : (k : ℕ) → begins line (at + k) ≡ begins s k
  unfolding begins
  begins_beyond k = rw (byte-beyond k, fresh-beyond k, quotes-beyond line at k even)

  closes-beyond : (k : ℕ) → closes_nothing line (suc (at + k)) ≡ closes_nothing s (suc k)
  closes-beyond k =
      let third : byte_at line (suc (suc (at + k))) ≡ byte_at s (suc (suc k)) = ap (λ (p : ℕ). byte_at line (suc p)) (sym (add-suc at k)) ∙ byte-after (suc k) in
      rw (byte-after k, begins_beyond k, byte-beyond k, third)

  may_beyond : (q : Bool) (k : ℕ) → may_stand_by q line (suc (at + k)) ≡ may_stand_by q s (suc k)
  may_beyond true k = ap₂ (λ (b : ℕ) (c : Bool). is_printable b && not c) (byte-after k) (closes-beyond k)
  may_beyond false k = rw (byte-after k, byte-beyond k)

  -- so are the strays behind the first byte
  pub stray-beyond : (k : ℕ) → 0 < k → stray_at line (at + k) ≡ stray_at s k
  unfolding stray_at
  stray-beyond zero some = absurd (not-suc-le-zero some)
  stray-beyond (suc k) some = rw (ltb-beyond line at (suc k), quotes-beyond line at (suc k) even, add-suc at k, may_beyond (in_quotes (take (suc k) s)) k)

  quotes_all : in_quotes line ≡ in_quotes s
  quotes_all = ap in_quotes (sym (take-append-drop at line)) ∙ quotes_append (take at line) s ∙ rw even

  -- and the open end
  pub open_beyond : (k : ℕ) → 0 < k → at ≤ length line → open_at line (at + k) ≡ open_at s k
  unfolding open_at
  open_beyond zero some h = absurd (not-suc-le-zero some)
  open_beyond (suc k) some h =
      let end : length line ≡ at + length s = let l = length-drop at line in omega arith in
      rw (end, eqb-beyond at (suc k) (length s), quotes_all, add-suc at k, byte-beyond k, ne_eqb (suc (at + k)) 0 (omega arith), ne_eqb (suc k) 0 (omega arith))

  -- and the sixteenth letters of the labels that begin from there on
  name-beyond : (q : ℕ) → name_at line (at + q) ≡ name_at s q
  unfolding name_at
  name-beyond q = rw (← drop-drop q at line)

  sixteenth-beyond : (k q : ℕ) → sixteenth_of line (at + k) (at + q) ≡ sixteenth_of s k q
  sixteenth-beyond k q =
      rw (begins_beyond q, name-beyond q, ← drop-drop q at line) (ap (λ (t : Bool). begins s q && ltb 15 (length (name_at s q)) && t)
      (ap (eqb (at + k)) (sums (raw_to 15 (drop q s))) ∙ eqb-beyond at k (q + raw_to 15 (drop q s))))
    where
      sums : (m : ℕ) → at + q + m ≡ at + (q + m)
      sums m = omega arith

  pub long-beyond : (k : ℕ) → long_at s k ≡ true → long_at line (at + k) ≡ true
  unfolding long_at
  long-beyond k e =
      let r = of_some (sixteenth_of s k) (up_to k) e in
      let below = among-up_to k r.1 in
      some_of (sixteenth_of line (at + k)) (up_to (at + k)) (up_to-among (at + k) (omega arith)) (sixteenth-beyond k r.0 ∙ r.2)

  -- where no name before is too long, no others stand there
  pub no_long_beyond : (k : ℕ) → ((q : ℕ) → q < at → begins line q ≡ true → length (name_at line q) ≤ 15) → long_at s k ≡ false → long_at line (at + k) ≡ false
  unfolding long_at
  no_long_beyond k short none =
      unless (long_at line (at + k)) (λ e.
      let r = of_some (sixteenth_of line (at + k)) (up_to (at + k)) e in
      by r.0 (among-up_to (at + k) r.1) r.2 (dec_lt r.0 at))
    where
      by : (q : ℕ) → q < at + k → sixteenth_of line (at + k) q ≡ true → Dec (q < at) → ⊥
      by q h e (yes before) =
          let outer = both (begins line q && ltb 15 (length (name_at line q))) (eqb (at + k) (q + raw_to 15 (drop q line))) e in
          let inner = both (begins line q) (ltb 15 (length (name_at line q))) outer.0 in
          let long = ltb-true 15 (length (name_at line q)) inner.1 in
          let few = short q before inner.0 in
          omega arith
      by q h e (no n) =
          let same : at + (q - at) ≡ q = omega arith in
          let there : sixteenth_of s k (q - at) ≡ true = sym (sixteenth-beyond k (q - at)) ∙ ap (sixteenth_of line (at + k)) same ∙ e in
          true≢false (sym (some_of (sixteenth_of s k) (up_to k) (up_to-among k (omega arith)) there) ∙ none)
