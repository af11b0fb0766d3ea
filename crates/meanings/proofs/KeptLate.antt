-- Where nothing is at fault before a place, the bytes that decide a refusal go beyond it; so something is at fault before the border of a refusal.
use Prim.Native.Nat.{ℕ, zero, suc, ◌+◌, ◌≤◌, ◌<◌}
use native.Mathlib.Omega.{arith}
use native.Mathlib.Decide.{ℕ_discrete, dec_lt}
use mathlib.Core.Path.{◌≡◌, refl, sym, ap, ◌∙◌}
use mathlib.Core.Bool.{Bool, true, false, ◌&&◌, ◌||◌, false≢true}
use mathlib.Core.List.{List, ◌++◌}
use lib.ListN.{length, take, drop, length-append}
use lib.Seq.{drop-drop, get_or-drop, take-take, length-take-le, take-append-le, drop-append_seam}
use lib.Dec.{eqb}
use Rattle.labels.specs.Bytes.{next_is, next_label}
use Rattle.labels.specs.Labels.{told}
use Rattle.labels.specs.Labels.Told.{ended}
use Rattle.labels.proofs.FirstBytes.{next_is_first, agree_less}
use Rattle.labels.proofs.Spelled.{told_sound}
use Rattle.roster.specs.Roster.{byte_before}
use Rattle.tokens.specs.Answers.Answer.{refused}
use Rattle.nodes.specs.Reading.{read_tree}
use Rattle.nodes.specs.Deciding.{number_length, border, GoesOnAlike}
use Rattle.nodes.proofs.Spans.{Decimal, decimal-length}
use Rattle.nodes.proofs.Locality.{deciding_by, deciding, border-deciding, deciding_some, agree-behind, further-alike, label-again, decimal-again, alike-asked, locality}
use Rattle.meanings.specs.Meaning.{Kept, LeafAt, Means}
use Rattle.meanings.specs.Meaning.Means.{stray, long_name, long_number, unknown_name, repeated_name}
use Rattle.meanings.specs.Meaning.Means.{single_child, too_deep, missing, ends_first, fine_support}
use Rattle.meanings.proofs.KeptReads.{judged_decides, kept-read-late}
use Rattle.meanings.proofs.NumberSpans.{fine-decimal}
use Rattle.meanings.proofs.Meaning.{refusal-said}

-- ---- what is used of the meaning of a refusal by n at x

-- a label begins the text, without a fault of its own
abbrev LabelEnds : List ℕ → Type 0
LabelEnds t = (next_label t ≡ true) × ((k : ℕ) × (told t ≡ ended k))

record Decided (n : ℕ) (s : List ℕ) (x : ℕ) : Type 0 where
  low : 3 ≤ n
  at_end : n ≡ 10 → x ≡ length s
  label : (eqb n 5 || eqb n 6) ≡ true → LabelEnds (drop x s)
  support : eqb n 18 ≡ true → Decimal (drop x s)

module _ {x : ℕ} {s : List ℕ} where
  -- by a byte or two
  by_bytes : {n : ℕ} → 3 ≤ n → n ≤ 9 → (eqb n 5 || eqb n 6) ≡ false → eqb n 18 ≡ false → Decided n s x
  by_bytes low high other figure =
      record {
        low = low;
        at_end = λ ten. absurd (omega arith);
        label = λ judged. absurd (false≢true (sym other ∙ judged));
        support = λ judged. absurd (false≢true (sym figure ∙ judged));
      }

  -- by a label
  by_label : {n : ℕ} → 3 ≤ n → n ≤ 9 → eqb n 18 ≡ false → LeafAt s x → Decided n s x
  by_label low high figure leaf =
      record {
        low = low;
        at_end = λ ten. absurd (omega arith);
        label = λ judged. (leaf.begins, (leaf.bytes, leaf.ends));
        support = λ judged. absurd (false≢true (sym figure ∙ judged));
      }

  means-decided : {given : Bool} {names : List (List ℕ)} {most needed n : ℕ} → Means given names most needed s x n → Decided n s x
  means-decided (stray h) = by_bytes (omega arith) (omega arith) refl refl
  means-decided (long_name h) = by_bytes (omega arith) (omega arith) refl refl
  means-decided (long_number h) = by_bytes (omega arith) (omega arith) refl refl
  means-decided (unknown_name h) = by_label (omega arith) (omega arith) refl h.leaf
  means-decided (repeated_name h) = by_label (omega arith) (omega arith) refl h.leaf
  means-decided (single_child h) = by_bytes (omega arith) (omega arith) refl refl
  means-decided (too_deep h) = by_bytes (omega arith) (omega arith) refl refl
  means-decided (missing h) = by_bytes (omega arith) (omega arith) refl refl
  means-decided (ends_first h) =
      record { low = omega arith; at_end = λ ten. h.end; label = λ judged. absurd (false≢true judged); support = λ judged. absurd (false≢true judged) }
  means-decided (fine_support is h) =
      record {
        low = omega arith;
        at_end = λ ten. absurd (omega arith);
        label = λ judged. absurd (false≢true judged);
        support = λ judged. fine-decimal h.number h.fine;
      }

-- ---- a refusal in two texts that agree in the bytes that decide it, and go on alike behind them

-- where the number is neither 5, 6 nor 18, as many bytes decide as the byte at fault says
same_first : (q : Bool) (t t' : List ℕ) → deciding_by false false q t ≡ deciding_by false false q t'
same_first true t t' = refl
same_first false t t' = refl

byte-behind : (x k : ℕ) (s : List ℕ) → 1 ≤ k → byte_before (drop x s) k ≡ byte_before s (x + k)
byte-behind x zero s some = absurd (omega arith)
byte-behind x (suc j) s some = let at : x + suc j ≡ suc (x + j) = omega arith in rw at (get_or-drop x s j 0)

module _ {n x : ℕ} {s : List ℕ} (decided : Decided n s x) (s' : List ℕ) (agree : take (border n s x) s' ≡ take (border n s x) s)
    (alike : GoesOnAlike (byte_before s (border n s x)) (drop (border n s x) s') (drop (border n s x) s)) where
  byte-again : (eqb n 5 || eqb n 6) ≡ false → eqb n 18 ≡ false → deciding n (drop x s') ≡ deciding n (drop x s)
  byte-again other figure =
      let some = deciding_some n (drop x s) other figure in
      let first = agree-behind x 1 s' s (agree_less (x + 1) (border n s x) s' s (omega (arith, border-deciding n s x)) agree) in
      rw (other, figure, next_is_first 39 (drop x s') (drop x s) first) (same_first (eqb n 4 && next_is 39 (drop x s)) (drop x s') (drop x s))

  -- the k bytes from the one at fault on decide: they are the same, and go on alike
  module _ (k : ℕ) (some : 1 ≤ k) (many : deciding n (drop x s) ≡ k) where
    at_border : border n s x ≡ x + k
    at_border = border-deciding n s x ∙ ap (λ (c : ℕ). x + c) many

    agree_there : take k (drop x s') ≡ take k (drop x s)
    agree_there = agree-behind x k s' s (rw at_border at agree)

    alike_there : GoesOnAlike (byte_before (drop x s) k) (drop k (drop x s')) (drop k (drop x s))
    alike_there = rw (byte-behind x k s some, drop-drop k x s', drop-drop k x s) (rw at_border at alike)

  label_decides : (eqb n 5 || eqb n 6) ≡ true → deciding n (drop x s') ≡ deciding n (drop x s)
  label_decides judged =
      let begins = (decided.label judged).0 in
      let k = (decided.label judged).1.0 in
      let ends = (decided.label judged).1.1 in
      let many = judged_decides n (drop x s) k judged ends in
      let some = (told_sound (drop x s) k begins ends).some in
      let again = label-again k (drop x s) (drop x s') begins ends (agree_there k some many) (alike_there k some many).label in
      judged_decides n (drop x s') k judged again.0 ∙ sym many

  support_decides : (eqb n 5 || eqb n 6) ≡ false → eqb n 18 ≡ true → deciding n (drop x s') ≡ deciding n (drop x s)
  support_decides other figure =
      let k = number_length (drop x s) in
      let decimal = decided.support figure in
      let many : deciding n (drop x s) ≡ k = rw (other, figure) refl in
      let some : 1 ≤ k = omega (arith, decimal-length decimal) in
      let again = decimal-again k (drop x s) (drop x s') decimal refl (agree_there k some many) (alike_there k some many).digits in
      rw (other, figure) again.1

  border-again : border n s' x ≡ border n s x
  border-again = border-deciding n s' x ∙ (ap (λ (k : ℕ). x + k) (by (eqb n 5 || eqb n 6) (eqb n 18) refl refl) ∙ sym (border-deciding n s x))
    where
      by : (t u : Bool) → (eqb n 5 || eqb n 6) ≡ t → eqb n 18 ≡ u → deciding n (drop x s') ≡ deciding n (drop x s)
      by true u judged figure = label_decides judged
      by false true other figure = support_decides other figure
      by false false other figure = byte-again other figure

-- ---- a refusal of the text, and what is kept of it

module _ (given : Bool) (names : List (List ℕ)) (most needed : ℕ) (s : List ℕ) (p n x : ℕ) (h : read_tree given names most needed s p ≡ refused n (p + x)) where
  decided : Decided n s x
  decided =
      let r = refusal-said given names most needed s p h in
      let same : r.byte ≡ x = omega (arith, r.place) in
      rw same at (means-decided r.means)

  module _ (d : ℕ) (kept : Kept given names most s d) where
    -- the text that shows it
    abbrev shown : List ℕ
    shown = take d s ++ kept.more

    front-size : length (take d s) ≡ d
    front-size = length-take-le d s kept.inside

    shown_agrees : (b : ℕ) → b ≤ d → take b shown ≡ take b s
    shown_agrees b l = take-append-le b (take d s) kept.more (omega (arith, front-size)) ∙ take-take b d s l

    shown-alike : (b : ℕ) → b ≤ d → GoesOnAlike (byte_before s b) (drop b shown) (drop b s)
    shown-alike b l = by (dec_lt b d)
      where
        by : Dec (b < d) → GoesOnAlike (byte_before s b) (drop b shown) (drop b s)
        by (yes less) = further-alike (byte_before s b) b s shown (shown_agrees (suc b) less)
        by (no more) =
            let same : b ≡ d = omega arith in
            let behind : drop d shown ≡ kept.more = ap (λ (k : ℕ). drop k shown) (sym front-size) ∙ drop-append_seam (take d s) kept.more in
            rw (same, behind) kept.alike

    -- the border is not up to the place: else the text that shows it would be refused there too
    too_early : (n ≡ 10 → ⊥) → border n s x ≤ d → ⊥
    too_early high l =
        let b = border n s x in
        let agree = shown_agrees b l in
        let alike = shown-alike b l in
        let again = locality given names most needed s shown p x n h decided.low high agree (alike-asked alike) in
        let late = kept-read-late given names most needed (length kept.more) shown p n x kept.text kept.once (omega (arith, kept.unended)) again in
        omega (arith, border-again decided shown agree alike, front-size, length-append (take d s) kept.more)

    -- nothing is at fault before d: so of the bytes that decide the refusal some stand from d on
    pub kept-late : d < border n s x
    kept-late = by (dec_lt d (border n s x)) (ℕ_discrete n 10)
      where
        by : Dec (d < border n s x) → Dec (n ≡ 10) → d < border n s x
        by (yes l) any = l
        by (no l) (no other) = absurd (too_early other (omega arith))
        by (no l) (yes is) =
            omega (arith, deciding_some n (drop x s) (rw is refl) (rw is refl), border-deciding n s x, decided.at_end is, kept.inside)

  -- so something is at fault before the border
  pub lost : Kept given names most s (border n s x) → ⊥
  lost kept = omega (arith, kept-late (border n s x) kept)
