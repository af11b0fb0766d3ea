-- Labels by the rules are the labels that are scanned.
use Prim.Native.Nat.{ℕ, zero, suc, ◌+◌, ◌≤◌, ◌<◌}
use native.Mathlib.Omega.{arith}
use native.Mathlib.Numerals.{add-one}
use mathlib.Core.Path.{◌≡◌, refl, sym, ap, ◌∙◌}
use mathlib.Core.Bool.{Bool, true, false, ◌||◌, false≢true}
use mathlib.Core.List.{List, [], ◌∷◌, ◌++◌, map, append-nil}
use lib.ListN.{length, take, drop, length-append, length-map, length-drop}
use lib.Seq.{take-length, drop-cons, take-append_seam, drop-append_seam, drop-append-add}
use lib.Dec.{eqb, leb}
use borrow.Author.Tests.{eqb-true, le-leb, leb-true}
use Rattle.labels.specs.Bytes.{is_bare, is_printable, one_more, run, next_is, next_bare, next_label}
use Rattle.labels.specs.Spelling.{Run, unwritten, Quoted, Spells, goes_on_by, goes_on, Whole}
use Rattle.labels.specs.Spelling.Run.{one, next}
use Rattle.labels.specs.Spelling.Spells.{bare, quoted}
use Rattle.labels.specs.Labels.{label_bytes, letters_from, doubled, letters, raw_to, closed_by, closing, told}
use Rattle.faults.specs.declared.Fault.TheVariants.{LongWord}
use Rattle.labels.specs.Labels.Told.{ended, faulty}
use Rattle.labels.proofs.Bytewise.{All}
use Rattle.labels.proofs.Runs.{run-within, run-byte}
use Rattle.labels.proofs.RunRules.{run_some, run-splits, run_all, run-exact, run-derives}
use Rattle.labels.proofs.QuotedLetters.{letters-doubled, behind_letters, letters-front, no_letter_behind, quote_no_letter}
use Rattle.labels.proofs.QuotedLetters.{quoted-splits, quoted-printable, quoted_of}
use Rattle.labels.proofs.Letters.{over_single, letters_from_printable, all_unwritten}
use Rattle.labels.proofs.ByteKinds.{bare_no_quote}
use Rattle.labels.proofs.Telling.{letters-quoted, raw-quoted, told-quoted, letters-bare, bare-length, told-bare, told-long, ended-limited}

-- ---- bytes

or_left : (a b : Bool) → (a || b) ≡ false → a ≡ false
or_left true b e = e
or_left false b e = refl

or_right : (a b : Bool) → (a || b) ≡ false → b ≡ false
or_right true b e = absurd (false≢true (sym e))
or_right false b e = e

or_none : (a : Bool) → (a || false) ≡ true → a ≡ true
or_none true e = refl
or_none false e = e

pub bare_no_quote_next : (s : List ℕ) → next_bare s ≡ true → next_is 39 s ≡ false
unfolding next_bare next_is
bare_no_quote_next [] is = refl
bare_no_quote_next (b ∷ s) is = bare_no_quote b is

-- no byte of a bare label stands first, so none is counted
pub no_bare_run : (s : List ℕ) → next_bare s ≡ false → run is_bare s ≡ 0
unfolding next_bare run
no_bare_run [] non = refl
no_bare_run (b ∷ s) non = rw non

pub bare-run : (s : List ℕ) → next_bare s ≡ true → 0 < run is_bare s
unfolding next_bare run
bare-run [] is = absurd (false≢true is)
bare-run (b ∷ s) is = rw is (omega arith)

pub run_no_quote : (s : List ℕ) → 0 < run is_bare s → next_is 39 s ≡ false
unfolding next_is run
run_no_quote [] some = refl
run_no_quote (b ∷ s) some = by (is_bare b) refl some
  where
    by : (t : Bool) → is_bare b ≡ t → 0 < one_more t (run is_bare s) → eqb b 39 ≡ false
    by true is some = bare_no_quote b is
    by false is some = absurd (omega arith)

-- behind the bytes that are counted stands no byte of a bare label
pub bare_over : (s : List ℕ) → next_bare (drop (run is_bare s) s) ≡ false
unfolding next_bare run
bare_over [] = refl
bare_over (b ∷ s) = by (is_bare b) refl (bare_over s)
  where
    by : (t : Bool) → is_bare b ≡ t → next_bare (drop (run is_bare s) s) ≡ false → next_bare (drop (one_more t (run is_bare s)) (b ∷ s)) ≡ false
    by true is h = h
    by false is h = is

-- a text that begins with a label begins with a byte of a bare one, or with a quote
pub label-bare : (s : List ℕ) → next_label s ≡ true → next_is 39 s ≡ false → next_bare s ≡ true
unfolding next_label next_is next_bare
label-bare [] is other = is
label-bare (b ∷ s) is other = or_none (is_bare b) (rw other at is)

-- where no label begins, neither a byte of a bare one nor a quote stands
pub no_label_no_bare : (s : List ℕ) → next_label s ≡ false → next_bare s ≡ false
unfolding next_label next_bare
no_label_no_bare [] non = refl
no_label_no_bare (c ∷ s) non = or_left (is_bare c) (eqb c 39) non

pub no_label_no_quote : (s : List ℕ) → next_label s ≡ false → next_is 39 s ≡ false
unfolding next_label next_is
no_label_no_quote [] non = refl
no_label_no_quote (c ∷ s) non = or_right (is_bare c) (eqb c 39) non

-- so no label goes on there
pub no_label_over : (s rest : List ℕ) → next_label rest ≡ false → goes_on s rest ≡ false
no_label_over s rest non = by (next_is 39 s)
  where
    by : (t : Bool) → goes_on_by t rest ≡ false
    by true = no_label_no_quote rest non
    by false = no_label_no_bare rest non

-- ---- a label by the rules is scanned so

-- how many raw bytes the label at the front takes, where it ends
abbrev taken_by : Bool → List ℕ → ℕ
taken_by true s = suc (raw_to (length (letters s)) s)
taken_by false s = run is_bare s

pub record Exact (w s rest : List ℕ) : Type 0 where
  pub name : letters s ≡ w
  pub width : ℕ
  pub counted : width ≡ taken_by (next_is 39 s) s
  pub left : drop width s ≡ rest
  pub all : width + length rest ≡ length s
  pub short : length w ≤ label_bytes → told s ≡ ended width
  pub long : label_bytes < length w → told s ≡ faulty LongWord (raw_to label_bytes s)

long_of : (w s : List ℕ) → letters s ≡ w → label_bytes < length w → told s ≡ faulty LongWord (raw_to label_bytes s)
long_of w s e l = told-long s (rw e l)

run-spelled : {v s rest : List ℕ} → Run is_bare v s rest → next_bare s ≡ true
unfolding next_bare
run-spelled (one is) = is
run-spelled (next is r) = is

bare-exact : {v s rest : List ℕ} → Run is_bare v s rest → goes_on s rest ≡ false → Exact (map unwritten v) s rest
bare-exact {v} {s} {rest} r over =
    let other = bare_no_quote_next s (run-spelled r) in
    let stops : next_bare rest ≡ false = rw other at over in
    let n : run is_bare s ≡ length v = run-exact r (no_bare_run rest stops) in
    let split = run-splits r in
    let name : letters s ≡ map unwritten v =
    letters-bare s other ∙ (ap (λ (k : ℕ). map unwritten (take k s)) n
    ∙ (ap (λ (l : List ℕ). map unwritten (take (length v) l)) split ∙ ap (map unwritten) (take-append_seam v rest)))
    in
    record {
      name = name;
      width = length v;
      counted = rw (other, n) refl;
      left = ap (drop (length v)) split ∙ drop-append_seam v rest;
      all = sym (ap length split ∙ length-append v rest);
      short = λ l. told-bare s other ∙ rw (n, le-leb (length v) label_bytes (rw length-map at l)) refl;
      long = long_of (map unwritten v) s name;
    }

-- the bytes from the first quote up to the one that closes
quoted_left : (w t rest : List ℕ) → t ≡ doubled w ++ 39 ∷ rest → drop (suc (length (doubled w))) t ≡ rest
quoted_left w t rest split =
    ap (λ (n : ℕ). drop n t) (sym (add-one (length (doubled w)))) ∙ (ap (drop (length (doubled w) + 1)) split ∙ drop-append-add (doubled w) (39 ∷ rest) 1)

quoted-exact : {b : ℕ} {w t rest : List ℕ} → Quoted (b ∷ w) t rest → goes_on (39 ∷ t) rest ≡ false → Exact (b ∷ w) (39 ∷ t) rest
unfolding next_is
quoted-exact {b} {w} {t} {rest} q over =
    let v = b ∷ w in
    let split : t ≡ doubled v ++ 39 ∷ rest = quoted-splits q in
    let from : letters_from false t ≡ v =
    ap (letters_from false) split
    ∙ (letters-doubled (quoted-printable q) (39 ∷ rest) ∙ (ap (λ (l : List ℕ). v ++ l) (quote_no_letter rest over) ∙ append-nil v))
    in
    let name = letters-quoted t ∙ from in
    let behind : behind_letters t ≡ 39 ∷ rest =
    ap (λ (l : List ℕ). drop (length (doubled l)) t) from ∙ (ap (drop (length (doubled v))) split ∙ drop-append_seam (doubled v) (39 ∷ rest))
    in
    let raw : raw_to (length (letters (39 ∷ t))) (39 ∷ t) ≡ suc (length (doubled v)) =
    raw-quoted (length (letters (39 ∷ t))) t ∙ rw (name, from, take-length v) refl
    in
    record {
      name = name;
      width = suc (suc (length (doubled v)));
      counted = ap suc (sym raw);
      left = quoted_left v t rest split;
      all = let l = ap length split ∙ length-append (doubled v) (39 ∷ rest) in omega arith;
      short = λ l. told-quoted t ∙ rw (behind, from, le-leb (length v) label_bytes l) refl;
      long = long_of v (39 ∷ t) name;
    }

-- exact: a whole label is scanned as the name that it stands for, up to where it ends
pub whole_exact : {w s rest : List ℕ} → Whole w s rest → Exact w s rest
whole_exact h = by h.spelled h.over
  where
    by : {w s rest : List ℕ} → Spells w s rest → goes_on s rest ≡ false → Exact w s rest
    by (bare r) over = bare-exact r over
    by (quoted q) over = quoted-exact q over

-- unique: two whole labels at the front of a text have the same name and leave the same
pub whole_unique : {w w' s rest rest' : List ℕ} → Whole w s rest → Whole w' s rest' → (w ≡ w') × (rest ≡ rest')
whole_unique {s = s} h h' =
    let e = whole_exact h in
    let e' = whole_exact h' in
    (sym e.name ∙ e'.name, sym e.left ∙ (ap (λ (n : ℕ). drop n s) (e.counted ∙ sym e'.counted) ∙ e'.left))

-- ---- what is scanned is a label by the rules

-- the label at the front takes n raw bytes
pub record Ends (s : List ℕ) (n : ℕ) : Type 0 where
  pub whole : Whole (letters s) s (drop n s)
  pub short : length (letters s) ≤ label_bytes
  pub some : 1 ≤ n
  pub within : n ≤ length s

-- a quote closes m letters
record Closed (m : ℕ) (r : List ℕ) (p n : ℕ) : Type 0 where
  rest : List ℕ
  closes : r ≡ 39 ∷ rest
  some : 1 ≤ m
  place : n ≡ suc p

ended-closed : (m : ℕ) (r : List ℕ) (p n : ℕ) → closing m r p ≡ ended n → Closed m r p n
ended-closed m [] p n e = absurd (let z : ◌≡◌ {A = ℕ} 0 1 = cc in omega arith)
ended-closed m (b ∷ r) p n e = by (eqb b 39) refl m e
  where
    by : (q : Bool) → eqb b 39 ≡ q → (m : ℕ) → closed_by q m p ≡ ended n → Closed m (b ∷ r) p n
    by false is m e = absurd (let z : ◌≡◌ {A = ℕ} 0 1 = cc in omega arith)
    by true is zero e = absurd (let z : ◌≡◌ {A = ℕ} 0 1 = cc in omega arith)
    by true is (suc m) e = record { rest = r; closes = ap (λ (c : ℕ). c ∷ r) (eqb-true b 39 is); some = omega arith; place = cc }

quoted-spells : (w : List ℕ) {t rest : List ℕ} → 1 ≤ length w → Quoted w t rest → Spells w (39 ∷ t) rest
quoted-spells [] l q = absurd (omega arith)
quoted-spells (b ∷ w) l q = quoted q

quoted_at_lem : {w : List ℕ} (t rest : List ℕ) → All is_printable w → t ≡ doubled w ++ 39 ∷ rest → Quoted w t rest
quoted_at_lem t rest all split = rw split (quoted_of all rest)

quoted_sound : (t : List ℕ) (n : ℕ) → told (39 ∷ t) ≡ ended n → Ends (39 ∷ t) n
unfolding next_is
quoted_sound t n e =
    let w = letters_from false t in
    let p = suc (length (doubled w)) in
    let both = ended-limited (leb (length w) label_bytes) (raw_to label_bytes (39 ∷ t)) (closing (length w) (behind_letters t) p) n (sym (told-quoted t) ∙ e) in
    let c = ended-closed (length w) (behind_letters t) p n both.1 in
    let split : t ≡ doubled w ++ 39 ∷ c.rest = letters-front t ∙ ap (λ (l : List ℕ). doubled w ++ l) c.closes in
    let left : drop n (39 ∷ t) ≡ c.rest = ap (λ (k : ℕ). drop k (39 ∷ t)) c.place ∙ quoted_left w t c.rest split in
    let over : next_is 39 c.rest ≡ false = over_single c.rest (ap (letters_from false) (sym c.closes) ∙ no_letter_behind t) in
    let size = ap length split ∙ length-append (doubled w) (39 ∷ c.rest) in
    let place = c.place in
    record {
      whole = rw (left, letters-quoted t)
          (record { spelled = quoted-spells w c.some (quoted_at_lem t c.rest (letters_from_printable false t) split); over = over });
      short = rw (letters-quoted t) (leb-true (length w) label_bytes both.0);
      some = omega arith;
      within = omega arith;
    }

bare_sound : (s : List ℕ) (n : ℕ) → next_is 39 s ≡ false → next_bare s ≡ true → told s ≡ ended n → Ends s n
bare_sound s n other is e =
    let m = run is_bare s in
    let both = ended-limited (leb m label_bytes) label_bytes (ended m) n (sym (told-bare s other) ∙ e) in
    let same : m ≡ n = let f = both.1 in cc in
    let some = bare-run s is in
    let within = run-within is_bare s in
    let short = leb-true m label_bytes both.0 in
    record {
      whole = rw (← same, letters-bare s other) (record { spelled = bare (run-derives is_bare s some); over = rw other (bare_over s) });
      short = rw (bare-length s other) short;
      some = omega arith;
      within = omega arith;
    }

-- sound: a label that ends is a whole one by the rules, within the limit
pub told_sound : (s : List ℕ) (n : ℕ) → next_label s ≡ true → told s ≡ ended n → Ends s n
unfolding next_label next_is
told_sound [] n is e = absurd (false≢true is)
told_sound (b ∷ s) n is e = by (eqb b 39) refl
  where
    by : (q : Bool) → eqb b 39 ≡ q → Ends (b ∷ s) n
    by true q = let h = eqb-true b 39 q in rw h (quoted_sound s n (rw h at e))
    by false q = bare_sound (b ∷ s) n q (label-bare (b ∷ s) is q) e

-- no label is a label of no bytes
pub told_none : (s : List ℕ) → next_label s ≡ false → told s ≡ ended 0
told_none s non = told-bare s (no_label_no_quote s non) ∙ rw (no_bare_run s (no_label_no_bare s non)) refl

pub some_label : (s : List ℕ) (n : ℕ) → 1 ≤ n → told s ≡ ended n → next_label s ≡ true
some_label s n some e = by (next_label s) refl
  where
    by : (t : Bool) → next_label s ≡ t → t ≡ true
    by true is = refl
    by false non = let f = told_none s non in let z : n ≡ 0 = cc in absurd (omega arith)

-- exactly: what is scanned as a label of n raw bytes, and some, is what is a whole label by the rules, within the limit, that takes n bytes
pub record Labelled (s : List ℕ) (n : ℕ) : Type 0 where
  pub w : List ℕ
  pub rest : List ℕ
  pub whole : Whole w s rest
  pub short : length w ≤ label_bytes
  pub all : n + length rest ≡ length s

pub record Exactly (s : List ℕ) (n : ℕ) : Type 0 where
  pub scanned : told s ≡ ended n → Labelled s n
  pub spelled : Labelled s n → told s ≡ ended n

pub told_exactly : (s : List ℕ) (n : ℕ) → 1 ≤ n → Exactly s n
told_exactly s n some = record {
  scanned = λ e.
      let h = told_sound s n (some_label s n some e) e in
      let l = h.within in
      record { w = letters s; rest = drop n s; whole = h.whole; short = h.short; all = simp length-drop (omega arith) };
  spelled = λ h. let e = whole_exact h.whole in let l = e.all in let k = h.all in e.short h.short ∙ ap ended (omega arith);
}

-- ---- labels by the rules

-- first: what begins with a label has its first byte there
pub spells_first : {w s rest : List ℕ} → Spells w s rest → next_label s ≡ true
unfolding next_label
spells_first (bare (one is)) = rw is
spells_first (bare (next is r)) = rw is
spells_first (quoted q) = refl

-- some: a name has a byte
pub spells_some : {w s rest : List ℕ} → Spells w s rest → 1 ≤ length w
spells_some (bare {v = v} r) = rw length-map (run_some r)
spells_some (quoted q) = omega arith

-- shorter: a label uses up bytes
pub spells_shorter : {w s rest : List ℕ} → Spells w s rest → length rest < length s
spells_shorter (bare {v = v} {rest = rest} r) = omega (arith, run_some r, ap length (run-splits r) ∙ length-append v rest)
spells_shorter (quoted {b = b} {w = w} {rest = rest} q) = omega (arith, ap length (quoted-splits q) ∙ length-append (doubled (b ∷ w)) (39 ∷ rest))

-- the bytes of a name are printable
pub spells-printable : {w s rest : List ℕ} → Spells w s rest → All is_printable w
spells-printable (bare r) = all_unwritten (run_all r)
spells-printable (quoted q) = quoted-printable q

-- ---- a label that ends, or none

pub ended-within : (s : List ℕ) (n : ℕ) → told s ≡ ended n → n ≤ length s
ended-within s n e = by (next_label s) refl
  where
    by : (t : Bool) → next_label s ≡ t → n ≤ length s
    by true is = (told_sound s n is e).within
    by false non = let f = told_none s non in let z : n ≡ 0 = cc in omega arith

-- the last byte of a label is one with which it could go on: a byte of a bare one, or the quote that closes
quoted_last : (t : List ℕ) (m : ℕ) → told (39 ∷ t) ≡ ended (suc m) → next_is 39 (drop m (39 ∷ t)) ≡ true
unfolding next_is
quoted_last t m e =
    let w = letters_from false t in
    let p = suc (length (doubled w)) in
    let both = ended-limited (leb (length w) label_bytes) (raw_to label_bytes (39 ∷ t)) (closing (length w) (behind_letters t) p) (suc m) (sym (told-quoted t) ∙ e) in
    let c = ended-closed (length w) (behind_letters t) p (suc m) both.1 in
    let place : m ≡ p = let f = c.place in omega arith in
    rw (place, c.closes) refl

bare_last : (s : List ℕ) (m : ℕ) → next_is 39 s ≡ false → told s ≡ ended (suc m) → next_bare (drop m s) ≡ true
unfolding next_bare
bare_last s m other e =
    let k = run is_bare s in
    let both = ended-limited (leb k label_bytes) label_bytes (ended k) (suc m) (sym (told-bare s other) ∙ e) in
    let same : k ≡ suc m = let f = both.1 in cc in
    let inside : m < length s = omega (arith, run-within is_bare s) in
    rw (drop-cons s m 0) (run-byte is_bare s m (omega arith))

pub label_last : (s : List ℕ) (m : ℕ) → told s ≡ ended (suc m) → goes_on s (drop m s) ≡ true
unfolding next_is
label_last [] m e = bare_last [] m refl e
label_last (b ∷ s) m e = by (eqb b 39) refl
  where
    by : (q : Bool) → eqb b 39 ≡ q → goes_on_by q (drop m (b ∷ s)) ≡ true
    by true is = let h = eqb-true b 39 is in rw h (quoted_last s m (rw h at e))
    by false other = bare_last (b ∷ s) m other e

-- no label has no letters
pub letters_none : (s : List ℕ) → next_label s ≡ false → letters s ≡ []
letters_none s non = letters-bare s (no_label_no_quote s non) ∙ rw (no_bare_run s (no_label_no_bare s non)) refl
