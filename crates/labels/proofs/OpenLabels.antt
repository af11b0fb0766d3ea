-- Labels that are still open: with some end behind them they are labels by the rules.
use Prim.Native.Nat.{ℕ, zero, suc, ◌+◌, ◌-◌, ◌≤◌, ◌<◌}
use native.Mathlib.Omega.{arith}
use mathlib.Core.Path.{◌≡◌, refl, sym, ap, ◌∙◌}
use mathlib.Core.Bool.{Bool, true, false, false≢true}
use mathlib.Core.List.{List, [], ◌∷◌, ◌++◌, map, append_assoc, append-nil}
use lib.ListN.{length, get_or, take, drop, length-append, length-take, length-drop, take-append-drop}
use lib.Seq.{length-take-le, take-append_seam, drop-append_seam}
use lib.Dec.{eqb}
use borrow.Author.Tests.{eqb-true, le-leb}
use Rattle.labels.specs.Bytes.{is_digit, is_bare, is_printable, one_more, run, next_is, next_bare, next_label}
use Rattle.labels.specs.Spelling.{Run, unwritten, Quoted, Spells}
use Rattle.labels.specs.Spelling.Run.{one, next}
use Rattle.labels.specs.Spelling.Spells.{bare, quoted}
use Rattle.labels.specs.Labels.{label_bytes, letters_from, twice_by, doubled, letters, raw_to, told}
use Rattle.labels.specs.Labels.Told.{ended}
use Rattle.labels.proofs.Runs.{run-within}
use Rattle.labels.proofs.Bytewise.{All, all_take, all_append}
use Rattle.labels.proofs.Bytewise.All.{no_byte, a_byte}
use Rattle.labels.proofs.QuotedLetters.{letters-doubled, behind_letters, letters-front, doubled-joins, quoted_of, quoted-splits, quoted-printable}
use Rattle.labels.proofs.Spelled.{bare_no_quote_next, bare-run, told_sound}
use Rattle.faults.specs.declared.Fault.{Fault}
use Rattle.labels.proofs.FaultyLabels.{AtFault}
use Rattle.labels.proofs.FaultyLabels.AtFault.{long, stray, empty, unclosed}
use Rattle.labels.proofs.Letters.{letters_from_printable}
use Rattle.labels.proofs.Telling.{letters-quoted, bare-length, raw-quoted, raw-bare, told-bare, ended-short}

-- the first j bytes of s are an open label: with an end behind them, which begins with no digit, they are one by the rules, and the end goes on with a label only where s does
pub record Open (s : List ℕ) (j : ℕ) : Type 0 where
  pub within : j ≤ length s
  pub short : length (letters (take j s)) ≤ label_bytes
  pub name : List ℕ
  pub end : List ℕ
  pub some : 1 ≤ length end
  pub no_digit : is_digit (get_or end 0 0) ≡ false
  pub bare_on : (rest : List ℕ) → next_bare (end ++ rest) ≡ true → next_bare (drop j s) ≡ true
  pub quote_on : (rest : List ℕ) → next_is 39 (end ++ rest) ≡ true → next_is 39 (drop j s) ≡ true
  pub spells : (rest : List ℕ) → Spells name (take j s ++ (end ++ rest)) rest

-- x stands at the front of a text, with r behind it, and has a short name; with b and what closes behind it, it is a label
record Opened (x r : List ℕ) : Type 0 where
  short : length (letters x) ≤ label_bytes
  name : List ℕ
  b : ℕ
  no_digit : is_digit b ≡ false
  closing : List ℕ
  bare_on : is_bare b ≡ true → next_bare r ≡ true
  quote_on : eqb b 39 ≡ true → next_is 39 r ≡ true
  spells : (rest : List ℕ) → Spells name (x ++ b ∷ (closing ++ rest)) rest

opened_open : (x r : List ℕ) → Opened x r → Open (x ++ r) (length x)
unfolding next_bare next_is
opened_open x r o =
    let front = take-append_seam x r in
    let back = drop-append_seam x r in
    record {
      within = simp length-append (omega arith);
      short = rw front o.short;
      name = o.name;
      end = o.b ∷ o.closing;
      some = omega arith;
      no_digit = o.no_digit;
      bare_on = λ rest e. rw back (o.bare_on e);
      quote_on = λ rest e. rw back (o.quote_on e);
      spells = λ rest. rw front (o.spells rest);
    }

-- the same of a text and how many bytes stand at its front
open_at : (s : List ℕ) (j : ℕ) (x r : List ℕ) → s ≡ x ++ r → j ≡ length x → Opened x r → Open s j
open_at s j x r split count o = rw (split, count) (opened_open x r o)

-- ---- quoted ones

one_letter_more : (w : List ℕ) (b : ℕ) {t rest : List ℕ} → Quoted (w ++ b ∷ []) t rest → Spells (w ++ b ∷ []) (39 ∷ t) rest
one_letter_more [] b q = quoted q
one_letter_more (c ∷ w) b q = quoted q

-- a quote, letters, one letter more and the quote that closes
spells_more : (w : List ℕ) (b : ℕ) → All is_printable w → is_printable b ≡ true → (rest : List ℕ)
    → Spells (w ++ b ∷ []) (39 ∷ (doubled w ++ (doubled (b ∷ []) ++ 39 ∷ rest))) rest
spells_more w b all is rest =
    let raw : doubled (w ++ b ∷ []) ++ 39 ∷ rest ≡ doubled w ++ (doubled (b ∷ []) ++ 39 ∷ rest) =
    ap (λ (l : List ℕ). l ++ 39 ∷ rest) (doubled-joins w (b ∷ [])) ∙ append_assoc (doubled w) (doubled (b ∷ [])) (39 ∷ rest)
    in
    one_letter_more w b (rw raw at (quoted_of (all_append all (a_byte {b = b} is no_byte)) rest))

module _ (w r : List ℕ) (all : All is_printable w) (short : length w ≤ label_bytes) where
  -- a quote and letters: a blank and a quote may follow
  letters-opened : Opened (39 ∷ doubled w) r
  unfolding doubled letters_from
  letters-opened =
      let read : letters (39 ∷ doubled w) ≡ w =
      letters-quoted (doubled w) ∙ (ap (letters_from false) (sym (append-nil (doubled w))) ∙ (letters-doubled all [] ∙ append-nil w))
      in
      record {
        short = rw read short;
        name = w ++ 32 ∷ [];
        b = 32;
        no_digit = refl;
        closing = 39 ∷ [];
        bare_on = λ e. absurd (false≢true e);
        quote_on = λ e. absurd (false≢true e);
        spells = λ rest. spells_more w 32 all refl rest;
      }

  -- and the first of two quotes: the second may follow, and a quote
  half-opened : Opened (39 ∷ (doubled w ++ 39 ∷ [])) (39 ∷ r)
  unfolding doubled letters_from next_is
  half-opened =
      let read : letters (39 ∷ (doubled w ++ 39 ∷ [])) ≡ w = letters-quoted (doubled w ++ 39 ∷ []) ∙ (letters-doubled all (39 ∷ []) ∙ append-nil w) in
      record {
        short = rw read short;
        name = w ++ 39 ∷ [];
        b = 39;
        no_digit = refl;
        closing = 39 ∷ [];
        bare_on = λ e. absurd (false≢true e);
        quote_on = λ e. refl;
        spells = λ rest. rw append_assoc (spells_more w 39 all refl rest);
      }

-- a quote and letters at the front of a text
open_quoted : (s w r : List ℕ) → s ≡ 39 ∷ doubled w ++ r → All is_printable w → length w ≤ label_bytes → Open s (suc (length (doubled w)))
open_quoted s w r split all short = open_at s (suc (length (doubled w))) (39 ∷ doubled w) r split refl (letters-opened w r all short)

-- ---- bare ones

-- some bytes of a run, and one more that passes
pub run-cut : (test : ℕ → Bool) (b : ℕ) → test b ≡ true → (j : ℕ) (s : List ℕ) → j ≤ run test s → (rest : List ℕ)
    → Run test (take j s ++ b ∷ []) (take j s ++ b ∷ rest) rest
unfolding run
run-cut test b is zero s l rest = one is
run-cut test b is (suc j) [] l rest = absurd (omega arith)
run-cut test b is (suc j) (c ∷ s) l rest = by (test c) refl l (λ m. run-cut test b is j s m rest)
  where
    by : (t : Bool) → test c ≡ t → suc j ≤ one_more t (run test s) → (j ≤ run test s → Run test (take j s ++ b ∷ []) (take j s ++ b ∷ rest) rest)
        → Run test (c ∷ (take j s ++ b ∷ [])) (c ∷ (take j s ++ b ∷ rest)) rest
    by true ok l h = next ok (h (omega arith))
    by false ok l h = absurd (omega arith)

-- behind them a byte of a bare label follows
bare_follows : (j : ℕ) (s : List ℕ) → j < run is_bare s → next_bare (drop j s) ≡ true
unfolding run next_bare
bare_follows j [] l = absurd (omega arith)
bare_follows zero (c ∷ s) l = by (is_bare c) l
  where
    by : (t : Bool) → 0 < one_more t (run is_bare s) → t ≡ true
    by true l = refl
    by false l = absurd (omega arith)
bare_follows (suc j) (c ∷ s) l = by (is_bare c) l (bare_follows j s)
  where
    by : (t : Bool) → suc j < one_more t (run is_bare s) → (j < run is_bare s → next_bare (drop j s) ≡ true) → next_bare (drop j s) ≡ true
    by true l h = h (omega arith)
    by false l h = absurd (omega arith)

front_no_quote : (j : ℕ) (s : List ℕ) → next_is 39 s ≡ false → next_is 39 (take j s) ≡ false
unfolding next_is
front_no_quote zero s e = refl
front_no_quote (suc j) [] e = refl
front_no_quote (suc j) (b ∷ s) e = e

-- fewer bytes than stand at the front: another may follow
bare-opened : (s : List ℕ) (j : ℕ) → j ≤ label_bytes → j < run is_bare s → Opened (take j s) (drop j s)
bare-opened s j short l =
    let other = front_no_quote j s (bare_no_quote_next s (bare_follows 0 s (omega arith))) in
    record {
      short = rw (bare-length (take j s) other) (omega (arith, run-within is_bare (take j s), length-take j s));
      name = map unwritten (take j s ++ 97 ∷ []);
      b = 97;
      no_digit = refl;
      closing = [];
      bare_on = λ e. bare_follows j s l;
      quote_on = λ e. absurd (false≢true e);
      spells = λ rest. bare (run-cut is_bare 97 refl j s (omega arith) rest);
    }

open_bare : (s : List ℕ) (j : ℕ) → j ≤ label_bytes → j < run is_bare s → Open s j
open_bare s j short l =
    open_at s j (take j s) (drop j s) (sym (take-append-drop j s)) (sym (length-take-le j s (omega (arith, run-within is_bare s)))) (bare-opened s j short l)

-- ---- letters of a quoted label that have been read

-- the first letters of a list with each quote twice, and the others
doubled-cut : (k : ℕ) (w : List ℕ) → doubled w ≡ doubled (take k w) ++ doubled (drop k w)
doubled-cut k w = ap doubled (sym (take-append-drop k w)) ∙ doubled-joins (take k w) (drop k w)

-- what begins with a quote, where each is twice, begins with two
two_quotes : (v r : List ℕ) → 1 ≤ length v → next_is 39 (doubled v ++ r) ≡ true → (x : List ℕ) × (doubled v ++ r ≡ 39 ∷ 39 ∷ x)
unfolding doubled next_is
two_quotes [] r some e = absurd (omega arith)
two_quotes (b ∷ v) r some e = by (eqb b 39) refl e
  where
    by : (q : Bool) → eqb b 39 ≡ q → next_is 39 (twice_by q b (doubled v) ++ r) ≡ true → (x : List ℕ) × (twice_by q b (doubled v) ++ r ≡ 39 ∷ 39 ∷ x)
    by true is e = (doubled v ++ r, rw (eqb-true b 39 is))
    by false is e = absurd (false≢true (sym is ∙ e))

-- a quote and the first k letters
module _ (t : List ℕ) (k : ℕ) (short : k ≤ label_bytes) where
  abbrev first : List ℕ
  first = take k (letters_from false t)

  abbrev others : List ℕ
  others = drop k (letters_from false t)

  first_split : t ≡ doubled first ++ (doubled others ++ behind_letters t)
  first_split =
      letters-front t
      ∙ (ap (λ (l : List ℕ). l ++ behind_letters t) (doubled-cut k (letters_from false t)) ∙ append_assoc (doubled first) (doubled others) (behind_letters t))

  first_short : length first ≤ label_bytes
  first_short = simp length-take (omega arith)

  first_printable : All is_printable first
  first_printable = all_take k (letters_from_printable false t)

  open_letters : Open (39 ∷ t) (suc (length (doubled first)))
  open_letters =
      open_quoted (39 ∷ t) first (doubled others ++ behind_letters t) (ap (λ (l : List ℕ). 39 ∷ l) first_split) first_printable first_short

  -- where the next letter is a quote, behind the first of its two bytes too
  open_half : k < length (letters_from false t) → next_is 39 (drop (suc (length (doubled first))) (39 ∷ t)) ≡ true → Open (39 ∷ t) (suc (suc (length (doubled first))))
  open_half more quote =
      let there : drop (length (doubled first)) t ≡ doubled others ++ behind_letters t =
      ap (drop (length (doubled first))) first_split ∙ drop-append_seam (doubled first) (doubled others ++ behind_letters t)
      in
      let two = two_quotes others (behind_letters t) (simp length-drop (omega arith)) (rw there at quote) in
      let x = two.0 in
      let y = doubled first ++ 39 ∷ [] in
      let split : t ≡ y ++ 39 ∷ x =
      first_split ∙ (ap (λ (l : List ℕ). doubled first ++ l) two.1 ∙ sym (append_assoc (doubled first) (39 ∷ []) (39 ∷ x)))
      in
      open_at (39 ∷ t) (suc (suc (length (doubled first)))) (39 ∷ y) (39 ∷ x) (ap (λ (l : List ℕ). 39 ∷ l) split) (ap suc (simp length-append (omega arith)))
      (half-opened first x first_printable first_short)

-- ---- a label that is at fault, or ends

-- quoted or bare
by_kind : (P : List ℕ → Type 0) → ((t : List ℕ) → P (39 ∷ t)) → ((s : List ℕ) → next_is 39 s ≡ false → P s) → (s : List ℕ) → P s
unfolding next_is
by_kind P at-quote at_bare [] = at_bare [] refl
by_kind P at-quote at_bare (b ∷ s) = by (eqb b 39) refl
  where
    by : (q : Bool) → eqb b 39 ≡ q → P (b ∷ s)
    by true q = rw (eqb-true b 39 q) (at-quote s)
    by false q = at_bare (b ∷ s) q

-- before its sixteenth letter
long_open : (s : List ℕ) → label_bytes < length (letters s) → Open s (raw_to label_bytes s)
long_open =
    by_kind (λ s. label_bytes < length (letters s) → Open s (raw_to label_bytes s))
    (λ t l. rw (raw-quoted label_bytes t) (open_letters t label_bytes (omega arith)))
    (λ s other l. rw (raw-bare label_bytes s other) (open_bare s label_bytes (omega arith) (rw (bare-length s other) at l)))

-- where that is a quote, written twice, behind the first of the two
pub sixteenth_open : (s : List ℕ) → label_bytes < length (letters s) → next_is 39 (drop (raw_to label_bytes s) s) ≡ true → Open s (suc (raw_to label_bytes s))
sixteenth_open =
    by_kind (λ s. label_bytes < length (letters s) → next_is 39 (drop (raw_to label_bytes s) s) ≡ true → Open s (suc (raw_to label_bytes s)))
    (λ t l quote. rw (raw-quoted label_bytes t) (open_half t label_bytes (omega arith) (rw (letters-quoted t) at l) (rw (raw-quoted label_bytes t) at quote)))
    (λ s other l quote.
    let follows = bare_follows label_bytes s (rw (bare-length s other) at l) in
    absurd (false≢true (sym (bare_no_quote_next (drop label_bytes s) follows) ∙ rw (raw-bare label_bytes s other) at quote)))

-- before the byte at fault
pub fault_open : {s : List ℕ} {fault : Fault} {f : ℕ} → AtFault s fault f → Open s f
unfolding doubled
fault_open {s} (long l) = long_open s l
fault_open {s} (stray w b rest split all short other) = open_quoted s w (b ∷ rest) split all short
fault_open {s} (empty rest split over) = open_quoted s [] (39 ∷ rest) split no_byte (omega arith)
fault_open {s} (unclosed w split all short) = open_quoted s w [] (split ∙ ap (λ (l : List ℕ). 39 ∷ l) (sym (append-nil (doubled w)))) all short

run_first : {v s rest : List ℕ} → Run is_bare v s rest → next_bare s ≡ true
unfolding next_bare
run_first (one is) = is
run_first (next is r) = is

-- before its last byte
ends_open : {w s rest : List ℕ} (n : ℕ) → Spells w s rest → told s ≡ ended n → length w ≤ label_bytes → n + length rest ≡ length s → Open s (n - 1)
ends_open {s = s} n (bare {v = v} {rest = rest} r) e short all =
    let is = run_first r in
    let other = bare_no_quote_next s is in
    let few = rw (bare-length s other) at (ended-short s n e) in
    let told-so : told s ≡ ended (run is_bare s) = told-bare s other ∙ rw (le-leb (run is_bare s) label_bytes few) refl in
    let count : run is_bare s ≡ n = cc in
    open_bare s (n - 1) (omega arith) (omega (arith, bare-run s is))
ends_open {s = s} n (quoted {b = b} {w = w} {rest = rest} q) e short all =
    let v = b ∷ w in
    let split = quoted-splits q in
    let size = ap length split ∙ length-append (doubled v) (39 ∷ rest) in
    let last : n - 1 ≡ suc (length (doubled v)) = omega arith in
    rw last (open_quoted s v (39 ∷ rest) (ap (λ (l : List ℕ). 39 ∷ l) split) (quoted-printable q) short)

pub ended_open : (s : List ℕ) (n : ℕ) → next_label s ≡ true → told s ≡ ended n → Open s (n - 1)
ended_open s n is e =
    let h = told_sound s n is e in
    ends_open n h.whole.spelled e h.short (simp length-drop (omega (arith, h.within)))
