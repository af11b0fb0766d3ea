-- The label at the front of a text: no fault stands within it and no other label begins there, up to its own fault or to its end.
use Prim.Native.Nat.{ℕ, zero, suc, ◌+◌, ◌≤◌, ◌<◌, zero-le}
use native.Mathlib.Nat.{add-zero, le_refl, not-suc-le-zero}
use native.Mathlib.Decide.{dec_lt, dec_le}
use native.Mathlib.Omega.{arith}
use mathlib.Core.Path.{◌≡◌, refl, sym, ap, subst, ◌∙◌}
use mathlib.Core.Bool.{Bool, true, false, not, ◌&&◌, ◌||◌, and-true, or-false, true≢false, false≢true}
use mathlib.Core.List.{List, [], ◌∷◌, ◌++◌, append-nil}
use lib.ListN.{length, get_or, take, drop, length-drop, take-append-drop, get_or-eq_default}
use lib.Seq.{take_all, drop-cons}
use lib.Dec.{eqb, ltb}
use borrow.Author.Tests.{eq-eqb, lt-ltb, eqb-true, ltb-true}
use Rattle.labels.specs.Bytes.{is_bare, is_printable, is_plain, one_more, run, next_is}
use Rattle.labels.specs.Labels.{letters_from, twice_by, doubled, letters, raw_to, closing, closed_by, told}
use Rattle.faults.specs.declared.Fault.{Fault}
use Rattle.faults.specs.declared.Fault.TheVariants.{LongWord, StrayByte, TextEnds}
use Rattle.labels.specs.Labels.Told.{ended, faulty as at_fault}
use Rattle.labels.proofs.Letters.{Front, front, over_plain, over_single}
use Rattle.labels.proofs.Letters.Front.{plainly, twice}
use Rattle.labels.proofs.Runs.{run-byte, run-behind, run-within}
use Rattle.labels.proofs.FirstBytes.{next_here}
use Rattle.labels.proofs.ByteKinds.{plain_no_quote, bare_no_quote}
use Rattle.labels.proofs.Telling.{told-long, told-fits, bare-length, told-quoted-fits}
use Rattle.trees.specs.Lists.{up_to}
use Rattle.trees.proofs.Booleans.{both, unless, or_left, or_right}
use Rattle.trees.proofs.Listing.{some_of, of_some}
use Rattle.trees.proofs.UpTo.{among-up_to, up_to-among}
use Rattle.roster.specs.Roster.{byte_at, byte_before, in_quotes, begins, name_at, closes_nothing, stray_at, sixteenth_of, long_at, open_at}
use Rattle.roster.proofs.Heads.{head-within, head_byte, head-rest}
use Rattle.roster.proofs.Parity.{quotes_more}
use Rattle.roster.proofs.Places.{no_stray_within, no_stray_pair, no_stray_bare, no_stray_space, stray-within, stray-closing, stray-behind-bare, stray-behind-quote, bare_no_space, open_quoted, begins_label, begins_not_within, begins_not_apart, closes_other, closes-twice, closes_some}

-- a byte that is no stray, and at which no label begins
pub record Fine (s : List ℕ) (j : ℕ) : Type 0 where
  pub stray : stray_at s j ≡ false
  pub begin : begins s j ≡ false

-- k bytes of a quoted label have been passed, and the next letter, or the closing quote, has to stand there
pub record Inside (s : List ℕ) (k : ℕ) : Type 0 where
  pub some : 0 < k
  pub within : k ≤ length s
  pub odd : in_quotes (take k s) ≡ true
  pub fine : (j : ℕ) → 0 < j → j < k → Fine s j

pub inside-begun : (r : List ℕ) → Inside (39 ∷ r) 1
unfolding in_quotes
inside-begun r = record { some = le_refl 1; within = omega arith; odd = refl; fine = λ j h l. absurd (omega arith) }

-- what was fine before, and the byte at hand
fine_more : (s : List ℕ) (k : ℕ) → ((j : ℕ) → 0 < j → j < k → Fine s j) → Fine s k → (j : ℕ) → 0 < j → j < suc k → Fine s j
fine_more s k all here j h l = by (dec_lt j k)
  where
    by : Dec (j < k) → Fine s j
    by (yes m) = all j h m
    by (no n) = let e : k ≡ j = omega arith in rw (← e) here

module _ (s : List ℕ) (k : ℕ) (so : Inside s k) where
  -- a byte that stands for itself
  inside-plain : (b : ℕ) (t : List ℕ) → drop k s ≡ b ∷ t → is_plain b ≡ true → Inside s (suc k)
  inside-plain b t head plain =
      let byte = head_byte s k b t head in
      let other = plain_no_quote b plain in
      let printable = (both (is_printable b) (not (eqb b 39)) plain).0 in
      record {
        some = omega arith;
        within = head-within s k b t head;
        odd = quotes_more s k b t head ∙ rw (so.odd, other);
        fine = fine_more s k so.fine (record {
          stray = no_stray_within s k so.odd (ap is_printable byte ∙ printable) (closes_other s k (ap (λ (x : ℕ). eqb x 39) byte ∙ other));
          begin = begins_not_within s k so.odd;
        });
      }

  -- a quote written twice
  inside-twice : (t : List ℕ) → drop k s ≡ 39 ∷ 39 ∷ t → Inside s (suc (suc k))
  inside-twice t head =
      let byte = head_byte s k 39 (39 ∷ t) head in
      let rest = head-rest s k 39 (39 ∷ t) head in
      let second = head_byte s (suc k) 39 t rest in
      let even : in_quotes (take (suc k) s) ≡ false = quotes_more s k 39 (39 ∷ t) head ∙ rw so.odd in
      record {
        some = omega arith;
        within = head-within s (suc k) 39 t rest;
        odd = quotes_more s (suc k) 39 t rest ∙ rw even;
        fine = fine_more s (suc k) (fine_more s k so.fine (record {
          stray = no_stray_within s k so.odd (ap is_printable byte) (closes-twice s k (ap (λ (x : ℕ). eqb x 39) second));
          begin = begins_not_within s k so.odd;
        })) (record {
          stray = no_stray_pair s (suc k) even second byte;
          begin = begins_not_apart s (suc k) (ap (λ (x : ℕ). eqb x 32) byte);
        });
      }

-- the letters u have been passed, up to a place behind k, and v are left
abbrev pub Passed : List ℕ → List ℕ → List ℕ → ℕ → Type 0
Passed s u v k = Inside s (k + length (doubled u)) × (letters_from false (drop (k + length (doubled u)) s) ≡ v)

pub inside-letters : (s u v : List ℕ) (k : ℕ) → letters_from false (drop k s) ≡ u ++ v → Inside s k → Passed s u v k
unfolding doubled
inside-letters s [] v k read so = rw (add-zero k) (so, read)
inside-letters s (b ∷ u) v k read so = by (front (drop k s) b (u ++ v) read) (λ j. inside-letters s u v j)
  where
    by : Front (drop k s) b (u ++ v) → ((j : ℕ) → letters_from false (drop j s) ≡ u ++ v → Inside s j → Passed s u v j) → Passed s (b ∷ u) v k
    by (plainly t head plain more) on =
        let rest = head-rest s k b t head in
        let far = on (suc k) (ap (letters_from false) rest ∙ more) (inside-plain s k so b t head plain) in
        let e : k + suc (length (doubled u)) ≡ suc k + length (doubled u) = omega arith in
        rw (plain_no_quote b plain, e) far
    by (twice t head quote more) on =
        let rest = head-rest s (suc k) 39 t (head-rest s k 39 (39 ∷ t) head) in
        let far = on (suc (suc k)) (ap (letters_from false) rest ∙ more) (inside-twice s k so t head) in
        let e : k + suc (suc (length (doubled u))) ≡ suc (suc k) + length (doubled u) = omega arith in
        rw (eq-eqb b 39 quote, e) far

-- the name of the label at the front is its letters
front-name : (s : List ℕ) → name_at s 0 ≡ letters s
unfolding name_at
front-name s = refl

-- the sixteenth letter of the label at the front stands at one place alone, up to where the next label begins
pub long_there : (s : List ℕ) → begins s 0 ≡ true → 15 < length (letters s) → 0 < raw_to 15 s → long_at s (raw_to 15 s) ≡ true
unfolding long_at
long_there s first long some =
    some_of (sixteenth_of s (raw_to 15 s)) (up_to (raw_to 15 s)) (up_to-among (raw_to 15 s) some)
    (rw (first, front-name s, lt-ltb 15 (length (letters s)) long) (eq-eqb (raw_to 15 s) (0 + raw_to 15 s) (omega arith)))

pub no_long : (s : List ℕ) (m : ℕ) → ((j : ℕ) → 0 < j → j < m → begins s j ≡ false) → (15 < length (letters s) → m ≡ raw_to 15 s → ⊥) → long_at s m ≡ false
unfolding long_at
no_long s m none other = unless (long_at s m) (λ e. let r = of_some (sixteenth_of s m) (up_to m) e in by r.0 (among-up_to m r.1) r.2)
  where
    by : (q : ℕ) → q < m → sixteenth_of s m q ≡ true → ⊥
    by zero h e =
        let outer = both (begins s 0 && ltb 15 (length (name_at s 0))) (eqb m (0 + raw_to 15 s)) e in
        let long = ltb-true 15 (length (name_at s 0)) (both (begins s 0) (ltb 15 (length (name_at s 0))) outer.0).1 in
        let place = eqb-true m (0 + raw_to 15 s) outer.1 in
        other (rw (front-name s) at long) (omega arith)
    by (suc q) h e =
        let outer = both (begins s (suc q) && ltb 15 (length (name_at s (suc q)))) (eqb m (suc q + raw_to 15 (drop (suc q) s))) e in
        let inner = both (begins s (suc q)) (ltb 15 (length (name_at s (suc q)))) outer.0 in
        true≢false (sym inner.0 ∙ none (suc q) (omega arith) h)

-- the label at the front takes n bytes
pub record Spans (s : List ℕ) (n : ℕ) : Type 0 where
  pub some : 0 < n
  pub within : n ≤ length s
  pub fine : (j : ℕ) → 0 < j → j < n → Fine s j
  pub behind : begins s n ≡ false
  pub even : in_quotes (take n s) ≡ false
  pub last : eqb (byte_before s n) 32 ≡ false
  pub space : byte_at s n ≡ 32 → stray_at s n ≡ false
  pub other : n < length s → (byte_at s n ≡ 32 → ⊥) → stray_at s n ≡ true

-- a fault of a label's own
pub data Own (s : List ℕ) (d : ℕ) : Type 0 where
  strays : stray_at s d ≡ true → Own s d
  longs : long_at s d ≡ true → Own s d
  opens : open_at s d ≡ true → Own s d

-- the label at the front is at fault behind d bytes
pub record Stops (s : List ℕ) (d : ℕ) : Type 0 where
  pub some : 0 < d
  pub within : d ≤ length s
  pub fine : (j : ℕ) → 0 < j → j < d → Fine s j
  pub early : (j : ℕ) → j < d → long_at s j ≡ false
  pub own : Own s d

-- what a label is: it ends, or it has a fault
pub data Kind (s : List ℕ) : Type 0 where
  whole : (n : ℕ) → told s ≡ ended n → 0 < length (letters s) → length (letters s) ≤ 15 → Spans s n → Kind s
  broken : (fault : Fault) (d : ℕ) → told s ≡ at_fault fault d → Stops s d → Kind s

-- bytes that are fine begin no label, so no long name but the first has its sixteenth letter there
fine_begins : (s : List ℕ) (d j : ℕ) → ((i : ℕ) → 0 < i → i < d → Fine s i) → j ≤ d → (i : ℕ) → 0 < i → i < j → begins s i ≡ false
fine_begins s d j fine l i h m = (fine i h (omega arith)).begin

-- the byte behind a quote that no quote follows, and the 0 that stands for no byte
behind-single : (s : List ℕ) (k : ℕ) (t : List ℕ) → drop k s ≡ t → next_is 39 t ≡ false → eqb (get_or s k 0) 39 ≡ false
behind-single s k t e f = by (dec_lt k (length s))
  where
    by : Dec (k < length s) → eqb (get_or s k 0) 39 ≡ false
    by (yes h) = sym (next_here 39 s k h) ∙ ap (next_is 39) e ∙ f
    by (no n) = ap (λ (b : ℕ). eqb b 39) (get_or-eq_default s 0 (omega arith))

-- a byte that neither stands for itself nor is a quote is not printable
unprintable : (b : ℕ) → is_plain b ≡ false → eqb b 39 ≡ false → is_printable b ≡ false
unprintable b e f = sym (and-true (is_printable b)) ∙ ap (λ (t : Bool). is_printable b && not t) (sym f) ∙ e

-- each letter takes a byte at least
doubled-long : (w : List ℕ) → length w ≤ length (doubled w)
unfolding doubled
doubled-long [] = zero-le
doubled-long (b ∷ w) = by (eqb b 39) (doubled-long w)
  where
    by : (t : Bool) → length w ≤ length (doubled w) → suc (length w) ≤ length (twice_by t b (doubled w))
    by true h = omega arith
    by false h = omega arith

-- ---- bare labels

module _ (s : List ℕ) (bare : next_is 39 s ≡ false) (some : 0 < run is_bare s) where
  abbrev size : ℕ
  size = run is_bare s

  bare-even : (k : ℕ) → k ≤ size → in_quotes (take k s) ≡ false
  unfolding in_quotes
  bare-even zero h = refl
  bare-even (suc k) h =
      let within = run-within is_bare s in
      quotes_more s k (get_or s k 0) (drop (suc k) s) (drop-cons s k 0 (omega arith))
      ∙ rw (bare-even k (omega arith), bare_no_quote (get_or s k 0) (run-byte is_bare s k h))

  bare-fine : (j : ℕ) → 0 < j → j < size → Fine s j
  bare-fine zero h l = absurd (not-suc-le-zero h)
  bare-fine (suc j) h l =
      let before = run-byte is_bare s j (omega arith) in
      record {
        stray = no_stray_bare s (suc j) (bare-even (suc j) (omega arith)) (run-byte is_bare s (suc j) l) before;
        begin = begins_not_apart s (suc j) (bare_no_space (get_or s j 0) before);
      }

  bare-spans : (n : ℕ) → n ≡ size → Spans s n
  bare-spans zero e = absurd (omega arith)
  bare-spans (suc m) e =
      let before : is_bare (get_or s m 0) ≡ true = run-byte is_bare s m (omega arith) in
      let even = bare-even (suc m) (omega arith) in
      let apart = bare_no_space (get_or s m 0) before in
      record {
        some = omega arith;
        within = let w = run-within is_bare s in omega arith;
        fine = λ j h l. bare-fine j h (omega arith);
        behind = begins_not_apart s (suc m) apart;
        even = even;
        last = apart;
        space = λ space. no_stray_space s (suc m) even space (or_left (is_bare (get_or s m 0)) (eqb (get_or s m 0) 39) before);
        other = λ h n.
            stray-behind-bare s (suc m) h even apart before (ap (λ (k : ℕ). is_bare (get_or s k 0)) e ∙ run-behind is_bare refl s) n;
      }

  bare-raw : raw_to 15 s ≡ 15
  unfolding raw_to
  bare-raw = rw bare

  bare-kind : Dec (size ≤ 15) → begins s 0 ≡ true → Kind s
  bare-kind (yes h) first =
      let many = bare-length s bare in
      whole size (told-fits s (omega arith) ∙ rw bare) (omega arith) (omega arith) (bare-spans size refl)
  bare-kind (no n) first =
      let many = bare-length s bare in
      let within = run-within is_bare s in
      let raw = bare-raw in
      broken LongWord 15 (told-long s (omega arith) ∙ ap (at_fault LongWord) raw) (record {
        some = omega arith;
        within = omega arith;
        fine = λ j h l. bare-fine j h (omega arith);
        early = λ j l. no_long s j (fine_begins s size j bare-fine (omega arith)) (λ long e. absurd (omega arith));
        own = longs (rw raw at (long_there s first (omega arith) (omega arith)));
      })

-- ---- quoted labels

module _ (r : List ℕ) where
  abbrev s : List ℕ
  s = 39 ∷ r

  first_quote : begins s 0 ≡ true
  unfolding begins in_quotes
  first_quote = refl

  quoted-letters : letters s ≡ letters_from false r
  unfolding letters next_is
  quoted-letters = refl

  quoted-raw : raw_to 15 s ≡ suc (length (doubled (take 15 (letters s))))
  unfolding raw_to next_is
  quoted-raw = refl

  -- too long: the first fifteen letters are fine
  quoted-long : 15 < length (letters s) → Kind s
  quoted-long long =
      let passed = inside-letters s (take 15 (letters s)) (drop 15 (letters s)) 1 (sym (take-append-drop 15 (letters s) ∙ quoted-letters)) (inside-begun r) in
      let raw : 1 + length (doubled (take 15 (letters s))) ≡ raw_to 15 s = let e = quoted-raw in omega arith in
      let so : Inside s (raw_to 15 s) = rw raw at passed.0 in
      broken LongWord (raw_to 15 s) (told-long s long) (record {
        some = so.some;
        within = so.within;
        fine = so.fine;
        early = λ j l. no_long s j (fine_begins s (raw_to 15 s) j so.fine (omega arith)) (λ long e. absurd (omega arith));
        own = longs (long_there s first_quote long so.some);
      })

  -- all letters have been passed: k bytes, and what is left of the text says how the label ends
  module _ (k : ℕ) (so : Inside s k) (short : length (letters s) ≤ 15) where
    no_long_here : (j : ℕ) → j ≤ k → long_at s j ≡ false
    no_long_here j h = no_long s j (fine_begins s k j so.fine h) (λ long e. absurd (omega arith))

    -- at fault at k
    stops : (fault : Fault) → told s ≡ at_fault fault k → Own s k → Kind s
    stops fault says own =
        broken fault k says (record { some = so.some; within = so.within; fine = so.fine; early = λ j l. no_long_here j (omega arith); own = own })

    -- a quote stands there, and no other behind it
    closes : (t : List ℕ) → drop k s ≡ 39 ∷ t → next_is 39 t ≡ false → told s ≡ ended (suc k) → 0 < length (letters s) → closes_nothing s k ≡ false → Kind s
    closes t head single says some fresh =
        let byte = head_byte s k 39 t head in
        let even : in_quotes (take (suc k) s) ≡ false = quotes_more s k 39 t head ∙ rw so.odd in
        let apart : eqb (get_or s k 0) 32 ≡ false = ap (λ (x : ℕ). eqb x 32) byte in
        whole (suc k) says some short (record {
          some = omega arith;
          within = head-within s k 39 t head;
          fine = fine_more s k so.fine (record {
            stray = no_stray_within s k so.odd (ap is_printable byte) fresh;
            begin = begins_not_within s k so.odd;
          });
          behind = begins_not_apart s (suc k) apart;
          even = even;
          last = apart;
          space = λ space. no_stray_space s (suc k) even space (or_right (is_bare (get_or s k 0)) (eqb (get_or s k 0) 39) (eq-eqb (get_or s k 0) 39 byte));
          other = λ h n. stray-behind-quote s (suc k) h even apart byte (behind-single s (suc k) t (head-rest s k 39 t head) single) n;
        })

  -- a quote right behind the first, and none behind it, closes nothing
  closes-nothing : (t : List ℕ) → drop 1 s ≡ 39 ∷ t → next_is 39 t ≡ false → closes_nothing s 1 ≡ true
  closes-nothing t head single = rw (head_byte s 1 39 t head, first_quote, behind-single s 2 t (head-rest s 1 39 t head) single)

  -- by its letters w, and what is left of the text behind them
  module _ (w : List ℕ) (are : letters s ≡ w) (short : length w ≤ 15) where
    abbrev gone : ℕ
    gone = suc (length (doubled w))

    few : length (letters s) ≤ 15
    few = rw are short

    by_quote : (t : List ℕ) → Inside s gone → drop gone s ≡ 39 ∷ t → next_is 39 t ≡ false → told s ≡ closed_by true (length w) gone → Kind s
    unfolding doubled
    by_quote t so head single says = by w refl says
      where
        by : (v : List ℕ) → w ≡ v → told s ≡ closed_by true (length v) gone → Kind s
        by [] e says =
            let one : gone ≡ 1 = ap (λ (v : List ℕ). suc (length (doubled v))) e in
            let closing = subst (λ (k : ℕ). closes_nothing s k ≡ true) (sym one) (closes-nothing t (rw one at head) single) in
            stops gone so few StrayByte says (strays (stray-closing s gone (head-within s gone 39 t head) so.odd closing))
        by (b ∷ v) e says =
            let long = ap (length {A = ℕ}) e in
            let raw = doubled-long w in
            let before = so.fine (length (doubled w)) (omega arith) (le_refl (suc (length (doubled w)))) in
            closes gone so few t head single says (rw are (omega arith)) (closes_some s (length (doubled w)) before.begin)

    by_rest : (t : List ℕ) → Inside s gone → drop gone s ≡ t → letters_from false t ≡ [] → told s ≡ closing (length w) t gone → Kind s
    by_rest [] so rest over says =
        let left = length-drop gone s in
        let none = ap (length {A = ℕ}) rest in
        let within = so.within in
        let end : gone ≡ length s = omega arith in
        stops gone so few TextEnds says (opens (open_quoted s gone end (ap in_quotes (sym (take_all gone s (omega arith))) ∙ so.odd)))
    by_rest (b ∷ t) so rest over says = by (eqb b 39) refl says
      where
        by : (quote : Bool) → eqb b 39 ≡ quote → told s ≡ closed_by quote (length w) gone → Kind s
        by true e says =
            let same = eqb-true b 39 e in
            by_quote t so (rw same at rest) (over_single t (rw same at over)) says
        by false e says =
            let byte = head_byte s gone b t rest in
            stops gone so few StrayByte says (strays (stray-within s gone (head-within s gone b t rest) so.odd
            (ap is_printable byte ∙ unprintable b (over_plain b t over) e)))

  quoted-kind : Dec (length (letters s) ≤ 15) → Kind s
  unfolding next_is
  quoted-kind (no n) = quoted-long (omega arith)
  quoted-kind (yes h) =
      let passed = inside-letters s (letters s) [] 1 (sym (append-nil (letters s) ∙ quoted-letters)) (inside-begun r) in
      let raw : 1 + length (doubled (letters s)) ≡ suc (length (doubled (letters s))) = omega arith in
      let so = rw raw at passed.0 in
      let over = rw raw at passed.1 in
      by_rest (letters s) refl h (drop (suc (length (doubled (letters s)))) s) so refl over (rw quoted-letters (told-quoted-fits r (rw quoted-letters at h)))

-- the label at the front, whatever it is
pub kind : (s : List ℕ) → begins s 0 ≡ true → Kind s
unfolding begins in_quotes next_is run
kind [] first = absurd (false≢true first)
kind (b ∷ s) first = by (eqb b 39) refl
  where
    by : (quote : Bool) → eqb b 39 ≡ quote → Kind (b ∷ s)
    by true e = subst (λ (c : ℕ). Kind (c ∷ s)) (sym (eqb-true b 39 e)) (quoted-kind s (dec_le (length (letters (39 ∷ s))) 15))
    by false e =
        let label = (begins_label (b ∷ s) 0 first).0 in
        let bare : is_bare b ≡ true = sym (or-false (is_bare b)) ∙ ap (λ (t : Bool). is_bare b || t) (sym e) ∙ label in
        let some : 0 < one_more (is_bare b) (run is_bare s) = rw bare (omega arith) in
        bare-kind (b ∷ s) e some (dec_le (run is_bare (b ∷ s)) 15) first

-- by what is told of it
pub spanned : (s : List ℕ) (n : ℕ) → told s ≡ ended n → Kind s → Spans s n
spanned s n e (whole m f some short spans) = let same : m ≡ n = cc in rw same at spans
spanned s n e (broken fault d f stops) = absurd (cc)

pub stopped : (s : List ℕ) (fault : Fault) (d : ℕ) → told s ≡ at_fault fault d → Kind s → Stops s d
stopped s fault d e (whole n f some short spans) = absurd (cc)
stopped s fault d e (broken m c f stops) = let same : c ≡ d = cc in rw same at stops
