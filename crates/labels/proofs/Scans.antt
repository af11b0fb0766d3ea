-- A label as it is scanned: what the code's answer is, and what it says of the bytes.
use Prim.Native.Nat.{ℕ, zero, suc, ◌+◌, ◌≤◌, ◌<◌}
use native.Mathlib.Omega.{arith}
use native.Mathlib.Numerals.{add-one}
use mathlib.Core.Path.{◌≡◌, refl, sym, ap, ◌∙◌}
use mathlib.Core.Bool.{true, false}
use mathlib.Core.List.{List, [], ◌∷◌, ◌++◌, append_assoc, append-nil}
use lib.ListN.{length, get_or, set, drop, replicate, length-append, length-drop, drop_of_length-le}
use lib.Seq.{drop-cons, drop-drop}
use borrow.Author.Tests.{ne_eqb, eqb-true}
use Rattle.labels.specs.Bytes.{is_bare, run, next_is, is_printable}
use Rattle.labels.specs.Labels.{bare_letters, letters_from, doubled, letters, Told, closing, closed_by, told, padded, scanned_by, scanned_at}
use Rattle.labels.specs.Work.{width_of, closed_at}
use Rattle.labels.specs.Labels.Told.{ended, faulty}
use Rattle.labels.specs.declared.Scanned.{Scanned}
use Rattle.faults.specs.declared.Fault.{Fault}
use Rattle.faults.specs.declared.Fault.TheVariants.{StrayByte, LongWord, TextEnds}
use Rattle.faults.specs.declared.Refusal.{Refusal}
use Rattle.std.proofs.Common.{None, Some, Result, Ok, Err}
use Rattle.labels.proofs.Exits.{same_Ok, same_Err, ok-err}
use Rattle.labels.proofs.Quotes.{Letter, letter_at, no_letter}
use Rattle.labels.proofs.Words.{nothing_written, written_more}
use Rattle.labels.proofs.QuotedLetters.{doubled-joins, letters-doubled}
use Rattle.labels.proofs.Telling.{told-fits, told-long, letters-bare, bare-length, raw-bare, letters-then, told-ending, told-sixteenth}
use Rattle.labels.proofs.Bytewise.{All, all_append}
use Rattle.labels.proofs.Bytewise.All.{no_byte, a_byte}
use Rattle.labels.proofs.FirstBytes.{next_here, next_within}

-- the answer at a place, by what is told of the bytes from there on
module _ (text : List ℕ) (at : ℕ) where
  at_fault_lem : (fault : Fault) (d place : ℕ) → told (drop at text) ≡ faulty fault d → place ≡ at + d
      → Err (record { fault = fault; place = place }) ≡ scanned_at text at
  unfolding scanned_at
  at_fault_lem fault d place e f = rw (e, f)

  at_end : (n next : ℕ) (name : List ℕ) → told (drop at text) ≡ ended n → next ≡ at + n → name ≡ padded (letters (drop at text))
      → Ok (record { next = next; name = name }) ≡ scanned_at text at
  unfolding scanned_at
  at_end n next name e f g = rw (e, f, g)

-- a bare label
module _ (text : List ℕ) (at n : ℕ) (bare : next_is 39 (drop at text) ≡ false) (counted : n ≡ run is_bare (drop at text)) where
  many : length (letters (drop at text)) ≡ n
  many = bare-length (drop at text) bare ∙ sym counted

  pub bare-ended : (name : List ℕ) → n ≤ 15 → name ≡ padded (bare_letters (drop at text)) → Ok (record { next = at + n; name = name }) ≡ scanned_at text at
  unfolding bare_letters
  bare-ended name h e =
      at_end text at n (at + n) name (told-fits (drop at text) (rw many h) ∙ rw (bare, ← counted) refl) refl
      (rw (letters-bare (drop at text) bare) e)

  pub bare-long : 15 < n → Err (record { fault = LongWord; place = at + 15 }) ≡ scanned_at text at
  bare-long h = at_fault_lem text at LongWord 15 (at + 15) (told-long (drop at text) (rw many h) ∙ ap (faulty LongWord) (raw-bare 15 (drop at text) bare)) refl

-- a quoted label as far as it has been read: n letters w, up to i, and the name filled so far
pub record Scanning (text : List ℕ) (at n i : ℕ) (name : List ℕ) : Type 0 where
  pub w : List ℕ
  pub split : drop at text ≡ 39 ∷ doubled w ++ drop i text
  pub printable : All is_printable w
  pub counted : length w ≡ n
  pub short : n ≤ 15
  pub place : i ≡ at + suc (length (doubled w))
  pub within : i ≤ length text
  pub kept : name ≡ padded w

pub scanning_begun : (text : List ℕ) (at : ℕ) → next_is 39 (drop at text) ≡ true → Scanning text at 0 (at + 1) (replicate 16 0)
unfolding doubled
scanning_begun text at quote =
    let h = next_within 39 text at quote in
    let first : get_or text at 0 ≡ 39 = eqb-true (get_or text at 0) 39 (sym (next_here 39 text at h) ∙ quote) in
    record {
      w = [];
      split = rw (add-one, drop-cons text at 0, first);
      printable = no_byte;
      counted = refl;
      short = omega arith;
      place = refl;
      within = omega arith;
      kept = nothing_written;
    }

module _ (text : List ℕ) (at n i : ℕ) (name : List ℕ) (so : Scanning text at n i name) where
  abbrev gone : ℕ
  gone = suc (length (doubled so.w))

  -- a letter more
  pub scanning_more : i < length text → (b k : ℕ) → b ≡ get_or text i 0 → width_of (drop i text) ≡ Some k → (n ≡ 15 → ⊥)
      → Scanning text at (n + 1) (i + k) (set name n b)
  scanning_more h b k byte width room =
      let l : Letter (drop i text) b k = rw byte (letter_at text i h k width) in
      let joined = doubled-joins so.w (b ∷ []) in
      let raw = ap length joined ∙ length-append (doubled so.w) (doubled (b ∷ [])) in
      let more : doubled so.w ++ drop i text ≡ doubled (so.w ++ (b ∷ [])) ++ drop (i + k) text =
      ap (λ (v : List ℕ). doubled so.w ++ v) (l.split ∙ ap (λ (v : List ℕ). doubled (b ∷ []) ++ v) (drop-drop k i text))
      ∙ (sym (append_assoc (doubled so.w) (doubled (b ∷ [])) (drop (i + k) text)) ∙ ap (λ (v : List ℕ). v ++ drop (i + k) text) (sym joined)) in
      let left = length-drop i text in
      let place = so.place in
      record {
        w = so.w ++ (b ∷ []);
        split = so.split ∙ ap (λ (v : List ℕ). 39 ∷ v) more;
        printable = all_append so.printable (a_byte {b = b} l.printable no_byte);
        counted = length-append so.w (b ∷ []) ∙ ap (λ (m : ℕ). m + 1) so.counted;
        short = omega (arith, so.short);
        place = omega (arith, l.raw);
        within = omega (arith, l.within);
        kept = ap (λ (m : List ℕ). set m n b) so.kept ∙ written_more so.w b n so.counted (omega (arith, so.short));
      }

  -- no letter stands at i
  told-stopped : width_of (drop i text) ≡ None → told (drop at text) ≡ closing n (drop i text) gone
  told-stopped e =
      rw (so.split, ← so.counted)
      (told-ending so.w (drop i text) so.printable (rw so.counted so.short) (no_letter (drop i text) e))

  letters-stopped : width_of (drop i text) ≡ None → letters (drop at text) ≡ so.w
  letters-stopped e =
      ap letters so.split ∙ letters-then so.printable (drop i text) ∙ ap (λ (v : List ℕ). so.w ++ v) (no_letter (drop i text) e) ∙ append-nil so.w

  pub scan_closed : i < length text → get_or text i 0 ≡ 39 → width_of (drop i text) ≡ None → closed_at n name i ≡ scanned_at text at
  scan_closed h byte width = by n (told-stopped width ∙ rw (drop-cons text i 0, byte))
    where
      by : (m : ℕ) → told (drop at text) ≡ closed_by true m gone → closed_at m name i ≡ scanned_at text at
      by zero e = at_fault_lem text at StrayByte gone i e so.place
      by (suc m) e =
          at_end text at (suc gone) (i + 1) name e (omega (arith, so.place)) (so.kept ∙ ap padded (sym (letters-stopped width)))

  pub scan_stray : i < length text → (get_or text i 0 ≡ 39 → ⊥) → width_of (drop i text) ≡ None
      → Err (record { fault = StrayByte; place = i }) ≡ scanned_at text at
  scan_stray h byte width =
      at_fault_lem text at StrayByte gone i (told-stopped width ∙ rw (drop-cons text i 0, ne_eqb (get_or text i 0) 39 byte)) so.place

  pub scan_open : length text ≤ i → Err (record { fault = TextEnds; place = i }) ≡ scanned_at text at
  unfolding width_of
  scan_open h =
      let none = drop_of_length-le text h in at_fault_lem text at TextEnds gone i (told-stopped (rw none) ∙ rw none) so.place

  pub scan_long : (k : ℕ) → i < length text → width_of (drop i text) ≡ Some k → n ≡ 15
      → Err (record { fault = LongWord; place = i }) ≡ scanned_at text at
  scan_long k h width full =
      let l = letter_at text i h k width in
      let b = get_or text i 0 in
      let left = drop k (drop i text) in
      let more : letters_from false (drop i text) ≡ b ∷ letters_from false left =
      ap (letters_from false) l.split ∙ letters-doubled (a_byte {b = b} l.printable no_byte) left in
      at_fault_lem text at LongWord gone i
      (ap told so.split ∙ told-sixteenth so.w (drop i text) so.printable (so.counted ∙ full) b (letters_from false left) more) so.place

-- what an answer says of the bytes: the label ends
pub record Ends (text : List ℕ) (at next : ℕ) (name : List ℕ) : Type 0 where
  pub n : ℕ
  pub says : told (drop at text) ≡ ended n
  pub place : next ≡ at + n
  pub named : name ≡ padded (letters (drop at text))

-- or it is at fault
pub record Fails (text : List ℕ) (at : ℕ) (fault : Fault) (place : ℕ) : Type 0 where
  pub d : ℕ
  pub says : told (drop at text) ≡ faulty fault d
  pub there : place ≡ at + d

module _ (text : List ℕ) (at : ℕ) (answer : Result Scanned Refusal) (scanned : answer ≡ scanned_at text at) where
  pub scanned_ends : (s : Scanned) → answer ≡ Ok s → Ends text at s.next s.name
  unfolding scanned_at
  scanned_ends s e = by (told (drop at text)) refl scanned
    where
      by : (t : Told) → told (drop at text) ≡ t → answer ≡ scanned_by t (drop at text) at → Ends text at s.next s.name
      by (ended n) l is =
          let f = same_Ok (sym e ∙ is) in record { n = n; says = l; place = ap (λ (r : Scanned). r.next) f; named = ap (λ (r : Scanned). r.name) f }
      by (faulty fault d) l is = absurd (ok-err (sym e ∙ is))

  pub scanned_fails : (e : Refusal) → answer ≡ Err e → Fails text at e.fault e.place
  unfolding scanned_at
  scanned_fails e at_fault = by (told (drop at text)) refl scanned
    where
      by : (t : Told) → told (drop at text) ≡ t → answer ≡ scanned_by t (drop at text) at → Fails text at e.fault e.place
      by (ended n) l is = absurd (ok-err (sym is ∙ at_fault))
      by (faulty fault d) l is =
          let f = same_Err (sym at_fault ∙ is) in
          record { d = d; says = l ∙ ap (λ (r : Refusal). faulty r.fault d) (sym f); there = ap (λ (r : Refusal). r.place) f }
