-- Where labels have to begin: behind line feeds, colons and commas outside quotes, of which none stands within a label.
use Prim.Native.Nat.{ℕ, zero, suc, ◌+◌, ◌-◌, ◌≤◌, ◌<◌}
use native.Mathlib.Nat.{not-suc-le-zero, le_of_suc-le-suc, add-zero}
use native.Mathlib.Decide.{dec_lt}
use native.Mathlib.Omega.{arith}
use mathlib.Core.Path.{◌≡◌, refl, sym, ap, ◌∙◌}
use mathlib.Core.Logic.{◌⊎◌, inl, inr}
use mathlib.Core.Bool.{Bool, true, false, not, ◌&&◌, ◌||◌, true≢false}
use mathlib.Core.List.{List}
use lib.ListN.{length, get_or, drop, get_or-eq_default}
use lib.Seq.{get_or-drop, drop-cons}
use lib.Dec.{eqb}
use borrow.Author.Tests.{eqb-true, not-true}
use Rattle.labels.specs.Bytes.{is_bare, is_label}
use Rattle.trees.proofs.Booleans.{both, either, unless}
use Rattle.roster.specs.Roster.{byte_at, in_quotes, quoted_at}
use Rattle.roster.proofs.Parity.{quotes_more, quotes-beyond}
use Rattle.roster.proofs.Places.{stray_other}
use Rattle.roster.proofs.Spans.{Fine}
use Rattle.mapping.specs.Mapping.{feed_at, parts_at, line_begins, item_begins, fresh_at, species_at, member_at, line_at}

-- a byte stands at p, outside quotes
abbrev pub outside_at : ℕ → List ℕ → ℕ → Bool
outside_at c text p = eqb (byte_at text p) c && not (quoted_at text p)

-- where a byte stands, the text has not ended
pub byte-within : (text : List ℕ) (p : ℕ) → (byte_at text p ≡ 0 → ⊥) → p < length text
byte-within text p some = by (dec_lt p (length text))
  where
    by : Dec (p < length text) → p < length text
    by (yes h) = h
    by (no n) = absurd (some (get_or-eq_default text 0 (omega arith)))

module _ (text : List ℕ) (p : ℕ) where
  pub feed_byte : feed_at text p ≡ true → (byte_at text p ≡ 10) × (quoted_at text p ≡ false)
  unfolding feed_at
  feed_byte e = let b = both (eqb (byte_at text p) 10) (not (quoted_at text p)) e in (eqb-true (byte_at text p) 10 b.0, not-true (quoted_at text p) b.1)

  pub feed_here : byte_at text p ≡ 10 → quoted_at text p ≡ false → feed_at text p ≡ true
  unfolding feed_at
  feed_here b q = rw (b, q)

  parts-byte : parts_at text p ≡ true → ((byte_at text p ≡ 58) ⊎ (byte_at text p ≡ 44)) × (quoted_at text p ≡ false)
  unfolding parts_at
  parts-byte e =
      let b = both (eqb (byte_at text p) 58 || eqb (byte_at text p) 44) (not (quoted_at text p)) e in
      (by (either (eqb (byte_at text p) 58) (eqb (byte_at text p) 44) b.0), not-true (quoted_at text p) b.1)
    where
      by : (eqb (byte_at text p) 58 ≡ true) ⊎ (eqb (byte_at text p) 44 ≡ true) → (byte_at text p ≡ 58) ⊎ (byte_at text p ≡ 44)
      by (inl e) = inl (eqb-true (byte_at text p) 58 e)
      by (inr e) = inr (eqb-true (byte_at text p) 44 e)

  pub colon-parts : byte_at text p ≡ 58 → quoted_at text p ≡ false → parts_at text p ≡ true
  unfolding parts_at
  colon-parts b q = rw (b, q)

  pub comma-parts : byte_at text p ≡ 44 → quoted_at text p ≡ false → parts_at text p ≡ true
  unfolding parts_at
  comma-parts b q = rw (b, q)

  -- a colon or a comma is no line feed
  pub parts_no_feed : parts_at text p ≡ true → feed_at text p ≡ false
  unfolding feed_at
  parts_no_feed e = by (parts-byte e).0
    where
      by : (byte_at text p ≡ 58) ⊎ (byte_at text p ≡ 44) → (eqb (byte_at text p) 10 && not (quoted_at text p)) ≡ false
      by (inl b) = rw b
      by (inr b) = rw b

  feed_no_parts : feed_at text p ≡ true → parts_at text p ≡ false
  feed_no_parts e = unless (parts_at text p) (λ f. true≢false (sym e ∙ parts_no_feed f))

  -- a byte other than a quote leaves what stands behind it outside quotes
  even-behind : quoted_at text p ≡ false → (byte_at text p ≡ 0 → ⊥) → eqb (byte_at text p) 39 ≡ false → quoted_at text (suc p) ≡ false
  even-behind even some other =
      quotes_more text p (get_or text p 0) (drop (suc p) text) (drop-cons text p 0 (byte-within text p some)) ∙ rw (even, other)

  feed_even : feed_at text p ≡ true → quoted_at text (suc p) ≡ false
  feed_even e =
      let b = feed_byte e in
      even-behind b.1 (λ z. absurd (omega (arith, b.0))) (ap (λ (c : ℕ). eqb c 39) b.0)

  parts-even : parts_at text p ≡ true → quoted_at text (suc p) ≡ false
  parts-even e = let b = parts-byte e in by b.0 b.1
    where
      by : (byte_at text p ≡ 58) ⊎ (byte_at text p ≡ 44) → quoted_at text p ≡ false → quoted_at text (suc p) ≡ false
      by (inl b) q = even-behind q (λ z. absurd (omega (arith, b))) (ap (λ (c : ℕ). eqb c 39) b)
      by (inr b) q = even-behind q (λ z. absurd (omega (arith, b))) (ap (λ (c : ℕ). eqb c 39) b)

-- where a label has to begin, no quote is open
pub fresh-even : (text : List ℕ) (p : ℕ) → fresh_at text p ≡ true → quoted_at text p ≡ false
unfolding in_quotes
fresh-even text zero e = refl
fresh-even text (suc p) e = by (either (feed_at text p) (parts_at text p) e)
  where
    by : (feed_at text p ≡ true) ⊎ (parts_at text p ≡ true) → quoted_at text (suc p) ≡ false
    by (inl f) = feed_even text p f
    by (inr f) = parts-even text p f

-- where an individual's label has to begin, no line does, and the other way round
pub item_no_line : (text : List ℕ) (p : ℕ) → item_begins text p ≡ true → line_begins text p ≡ false
item_no_line text zero e = sym e
item_no_line text (suc p) e = parts_no_feed text p e

pub line_no_item : (text : List ℕ) (p : ℕ) → line_begins text p ≡ true → item_begins text p ≡ false
line_no_item text zero e = refl
line_no_item text (suc p) e = feed_no_parts text p e

-- ---- within a label

-- a byte that is no stray outside quotes, in a roster's sense, is of a label or a space
outside_none : (s : List ℕ) (j c : ℕ) → j < length s → Fine s j → is_bare c ≡ false → eqb c 39 ≡ false → eqb c 32 ≡ false → outside_at c s j ≡ false
outside_none s j c h fine bare quote space =
    unless (outside_at c s j) (λ e.
    let b = both (eqb (byte_at s j) c) (not (quoted_at s j)) e in
    let is = eqb-true (byte_at s j) c b.0 in
    true≢false (sym (stray_other s j h (not-true (quoted_at s j) b.1) (ap is_bare is ∙ bare) (ap (λ (x : ℕ). eqb x 39) is ∙ quote) (ap (λ (x : ℕ). eqb x 32) is ∙ space))
    ∙ fine.stray))

-- no line feed, colon or comma outside quotes stands in the k bytes from `at` on
pub record Unmarked (text : List ℕ) (at k : ℕ) : Type 0 where
  pub no_feed : (q : ℕ) → at ≤ q → q < at + k → feed_at text q ≡ false
  pub no_parts : (q : ℕ) → at ≤ q → q < at + k → parts_at text q ≡ false

module _ (text : List ℕ) (at k : ℕ) (even : quoted_at text at ≡ false) (label : is_label (byte_at text at) ≡ true)
    (within : k ≤ length (drop at text)) (fine : (j : ℕ) → 0 < j → j < k → Fine (drop at text) j) where
  unmarked_by : (c : ℕ) → is_bare c ≡ false → eqb c 39 ≡ false → eqb c 32 ≡ false → (j : ℕ) → j < k → outside_at c text (at + j) ≡ false
  unmarked_by c bare quote space zero h =
      unless (outside_at c text (at + 0)) (λ e.
      let is = eqb-true (byte_at text (at + 0)) c (both (eqb (byte_at text (at + 0)) c) (not (quoted_at text (at + 0))) e).0 in
      let same : byte_at text at ≡ c = ap (byte_at text) (sym (add-zero at)) ∙ is in
      true≢false (sym label ∙ ap is_label same ∙ rw (bare, quote) refl))
  unmarked_by c bare quote space (suc j) h =
      ap (λ (b : ℕ). eqb b c && not (quoted_at text (at + suc j))) (sym (get_or-drop at text (suc j) 0))
      ∙ ap (λ (t : Bool). eqb (byte_at (drop at text) (suc j)) c && not t) (quotes-beyond text at (suc j) even)
      ∙ outside_none (drop at text) (suc j) c (omega arith) (fine (suc j) (omega arith) h) bare quote space

  unmarked_at : (c : ℕ) → is_bare c ≡ false → eqb c 39 ≡ false → eqb c 32 ≡ false → (q : ℕ) → at ≤ q → q < at + k → outside_at c text q ≡ false
  unmarked_at c bare quote space q l h =
      let e : at + (q - at) ≡ q = omega arith in
      ap (outside_at c text) (sym e) ∙ unmarked_by c bare quote space (q - at) (omega arith)

  pub unmarked : Unmarked text at k
  unfolding feed_at parts_at
  unmarked = record {
    no_feed = unmarked_at 10 refl refl refl;
    no_parts = λ q l h. neither (eqb (byte_at text q) 58) (eqb (byte_at text q) 44) (not (quoted_at text q)) (unmarked_at 58 refl refl refl q l h) (unmarked_at 44 refl refl refl q l h);
  }
    where
      neither : (a b c : Bool) → (a && c) ≡ false → (b && c) ≡ false → ((a || b) && c) ≡ false
      neither true b c e f = e
      neither false b c e f = f

-- behind such bytes no label begins
module _ (text : List ℕ) (at k : ℕ) (none : Unmarked text at k) where
  pub unmarked-fresh : (q : ℕ) → at < q → q ≤ at + k → fresh_at text q ≡ false
  unmarked-fresh zero l h = absurd (not-suc-le-zero l)
  unmarked-fresh (suc q) l h = rw (none.no_feed q (le_of_suc-le-suc l) h, none.no_parts q (le_of_suc-le-suc l) h)

-- labels begin where they may
pub begins_fresh : (text : List ℕ) (q : ℕ) → fresh_at text q ≡ false → (species_at text q ≡ false) × (member_at text q ≡ false)
unfolding species_at member_at
begins_fresh text q e = by (line_begins text q) (item_begins text q) e
  where
    by : (a b : Bool) → (a || b) ≡ false → ((a && is_label (byte_at text q)) ≡ false) × ((b && is_label (byte_at text q)) ≡ false)
    by true b e = absurd (true≢false e)
    by false true e = absurd (true≢false e)
    by false false e = (refl, refl)

-- ---- lines

module _ (text : List ℕ) where
  pub line_more : (p : ℕ) → feed_at text p ≡ true → line_at text (suc p) ≡ suc (line_at text p)
  unfolding line_at
  line_more p e = rw e

  pub line_same : (p : ℕ) → feed_at text p ≡ false → line_at text (suc p) ≡ line_at text p
  unfolding line_at
  line_same p e = rw e

  pub line_still : (k p : ℕ) → Unmarked text p k → line_at text (p + k) ≡ line_at text p
  line_still zero p none = rw (add-zero p)
  line_still (suc k) p none =
      let e : p + suc k ≡ suc (p + k) = omega arith in
      ap (line_at text) e ∙ line_same (p + k) (none.no_feed (p + k) (omega arith) (omega arith))
      ∙ line_still k p (record { no_feed = λ q l h. none.no_feed q l (omega arith); no_parts = λ q l h. none.no_parts q l (omega arith) })

  -- a later place stands in the same line or in a later one
  line_grows_by : (k p : ℕ) → line_at text p ≤ line_at text (p + k)
  line_grows_by zero p = rw (add-zero p) (omega arith)
  line_grows_by (suc k) p = let e : p + suc k ≡ suc (p + k) = omega arith in rw e (by (feed_at text (p + k)) refl (line_grows_by k p))
    where
      by : (t : Bool) → feed_at text (p + k) ≡ t → line_at text p ≤ line_at text (p + k) → line_at text p ≤ line_at text (suc (p + k))
      by true e h = rw (line_more (p + k) e) (omega arith)
      by false e h = rw (line_same (p + k) e) h

  pub line_grows : (p q : ℕ) → p ≤ q → line_at text p ≤ line_at text q
  line_grows p q h = let e : p + (q - p) ≡ q = omega arith in let g = line_grows_by (q - p) p in rw e at g
