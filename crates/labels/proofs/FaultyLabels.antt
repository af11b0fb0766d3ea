-- The faults of a label: what each says of the text, and which bytes decide it.
use Prim.Native.Nat.{ℕ, zero, suc, ◌+◌, ◌-◌, ◌≤◌, ◌<◌, min}
use native.Mathlib.Nat.{le_of_suc-le-suc}
use native.Mathlib.Decide.{dec_lt}
use native.Mathlib.Omega.{arith}
use mathlib.Core.Path.{◌≡◌, refl, sym, ap, ◌∙◌}
use mathlib.Core.Bool.{Bool, true, false, ◌&&◌, false≢true}
use mathlib.Core.List.{List, [], ◌∷◌, ◌++◌, append-nil, append_assoc}
use lib.ListN.{length, get_or, take, drop, length-append, length-take, length-drop, take-append-drop}
use lib.Seq.{length-take-le, take-append-le, take-take, take_at}
use lib.Dec.{eqb}
use borrow.Author.Tests.{eqb-true, le-leb, lt-leb}
use Rattle.faults.specs.declared.Fault.{Fault}
use Rattle.faults.specs.declared.Fault.TheVariants.{StrayByte, LongWord, TextEnds}
use Rattle.labels.specs.Bytes.{is_bare, is_printable, is_plain, run, next_is, next_label}
use Rattle.labels.specs.Spelling.{Spells, goes_on}
use Rattle.labels.specs.Labels.{label_bytes, letters_from, twice_by, doubled, letters, raw_to, closed_by, closing, told}
use Rattle.labels.specs.Labels.Told.{ended, faulty}
use Rattle.labels.proofs.Runs.{run-within, run-byte}
use Rattle.labels.proofs.Bytewise.{All, all_take}
use Rattle.labels.proofs.Bytewise.All.{no_byte}
use Rattle.labels.proofs.RunRules.{run_take}
use Rattle.labels.proofs.QuotedLetters.{doubled-joins, letters-doubled, behind_letters, letters-front, no_letter_behind, quote_no_letter}
use Rattle.labels.proofs.Letters.{over_plain, over_single, letters_from_printable}
use Rattle.labels.proofs.FirstBytes.{next_is_first, agree_less, next_here}
use Rattle.labels.proofs.LabelFronts.{front-elsewhere, spells-front}
use Rattle.labels.proofs.Spelled.{whole_exact, told_sound, run_no_quote}
use Rattle.labels.proofs.ByteKinds.{bare_no_quote}
use Rattle.labels.proofs.Telling.{letters-quoted, raw-quoted, told-bare, raw-bare, told-long, bare-length, told-ending, told-quoted-fits}

-- the fault of a label, and how many bytes stand before it: a sixteenth letter; a byte that is not printable behind printable ones;
-- the closing quote of an empty label; the end of the text
pub data AtFault (s : List ℕ) : Fault → ℕ → Type 0 where
  long : label_bytes < length (letters s) → AtFault s LongWord (raw_to label_bytes s)
  stray :
      (w : List ℕ) (b : ℕ) (rest : List ℕ)
      → s ≡ 39 ∷ doubled w ++ b ∷ rest → All is_printable w → length w ≤ label_bytes → is_printable b ≡ false → AtFault s StrayByte (suc (length (doubled w)))
  empty : (rest : List ℕ) → s ≡ 39 ∷ 39 ∷ rest → next_is 39 rest ≡ false → AtFault s StrayByte 1
  unclosed : (w : List ℕ) → s ≡ 39 ∷ doubled w → All is_printable w → length w ≤ label_bytes → AtFault s TextEnds (suc (length (doubled w)))

-- ---- each is told

-- a byte that is not printable is no quote, and no letter
pub stray_no_quote : (b : ℕ) → is_printable b ≡ false → eqb b 39 ≡ false
stray_no_quote b non = by (eqb b 39) refl
  where
    by : (t : Bool) → eqb b 39 ≡ t → t ≡ false
    by true e = absurd (false≢true (sym (rw (eqb-true b 39 e) at non)))
    by false e = refl

stray_no_letter : (b : ℕ) (rest : List ℕ) → is_printable b ≡ false → letters_from false (b ∷ rest) ≡ []
unfolding letters_from
stray_no_letter b rest non = rw (non, stray_no_quote b non)

no_letter_at_end : letters_from false [] ≡ []
unfolding letters_from
no_letter_at_end = refl

empty-told : (rest : List ℕ) → letters_from false (39 ∷ rest) ≡ [] → told (39 ∷ 39 ∷ rest) ≡ faulty StrayByte 1
unfolding doubled
empty-told rest none = told-ending [] (39 ∷ rest) no_byte (omega arith) none

pub fault-told : {s : List ℕ} {fault : Fault} {d : ℕ} → AtFault s fault d → told s ≡ faulty fault d
fault-told {s} (long l) = told-long s l
fault-told (stray w b rest split all short non) =
    rw split (told-ending w (b ∷ rest) all short (stray_no_letter b rest non) ∙ rw (stray_no_quote b non) refl)
fault-told (empty rest split over) = ap told split ∙ empty-told rest (quote_no_letter rest over)
fault-told (unclosed w split all short) = ap told (split ∙ ap (λ (l : List ℕ). 39 ∷ l) (sym (append-nil (doubled w)))) ∙ told-ending w [] all short no_letter_at_end

-- ---- and nothing else is

not_printable : (b : ℕ) → is_plain b ≡ false → eqb b 39 ≡ false → is_printable b ≡ false
not_printable b non other = by (is_printable b) (rw other at non)
  where
    by : (t : Bool) → (t && true) ≡ false → t ≡ false
    by true e = e
    by false e = refl

fault-behind :
    (t w r : List ℕ) (fault : Fault) (d : ℕ) → t ≡ doubled w ++ r → All is_printable w → length w ≤ label_bytes → letters_from false r ≡ []
    → closing (length w) r (suc (length (doubled w))) ≡ faulty fault d → AtFault (39 ∷ t) fault d
unfolding doubled
fault-behind t w [] fault d split all short none e =
    let f : TextEnds ≡ fault = cc in
    let g : suc (length (doubled w)) ≡ d = cc in
    rw (← f, ← g) (unclosed w (ap (λ (l : List ℕ). 39 ∷ l) (split ∙ append-nil (doubled w))) all short)
fault-behind t w (b ∷ rest) fault d split all short none e = by (eqb b 39) refl w split all short e
  where
    by : (q : Bool) → eqb b 39 ≡ q → (w : List ℕ) → t ≡ doubled w ++ b ∷ rest → All is_printable w → length w ≤ label_bytes
        → closed_by q (length w) (suc (length (doubled w))) ≡ faulty fault d → AtFault (39 ∷ t) fault d
    by false other w split all short e =
        let f : StrayByte ≡ fault = cc in
        let g : suc (length (doubled w)) ≡ d = cc in
        rw (← f, ← g)
        (stray w b rest (ap (λ (l : List ℕ). 39 ∷ l) split) all short (not_printable b (over_plain b rest none) other))
    by true is [] split all short e =
        let f : StrayByte ≡ fault = cc in
        let g : 1 ≡ d = cc in
        let h = eqb-true b 39 is in
        rw (← f, ← g)
        (empty rest (ap (λ (l : List ℕ). 39 ∷ l) (split ∙ ap (λ (c : ℕ). c ∷ rest) h)) (over_single rest (ap (λ (c : ℕ). letters_from false (c ∷ rest)) (sym h) ∙ none)))
    by true is (c ∷ w) split all short e = absurd (let z : ◌≡◌ {A = ℕ} 0 1 = cc in omega arith)

quoted-fault : (t : List ℕ) (fault : Fault) (d : ℕ) → length (letters_from false t) ≤ label_bytes → told (39 ∷ t) ≡ faulty fault d → AtFault (39 ∷ t) fault d
quoted-fault t fault d short e =
    let w = letters_from false t in
    fault-behind t w (behind_letters t) fault d (letters-front t) (letters_from_printable false t) short (no_letter_behind t) (sym (told-quoted-fits t short) ∙ e)

bare_no_fault : (s : List ℕ) (fault : Fault) (d : ℕ) → next_is 39 s ≡ false → length (letters s) ≤ label_bytes → told s ≡ faulty fault d → ⊥
bare_no_fault s fault d other short e =
    let told-so : told s ≡ ended (run is_bare s) =
    told-bare s other ∙ rw (le-leb (run is_bare s) label_bytes (rw (bare-length s other) at short)) refl
    in
    let z : ◌≡◌ {A = ℕ} 0 1 = cc in omega arith

short-fault : (s : List ℕ) (fault : Fault) (d : ℕ) → length (letters s) ≤ label_bytes → told s ≡ faulty fault d → AtFault s fault d
unfolding next_is
short-fault [] fault d short e = absurd (bare_no_fault [] fault d refl short e)
short-fault (b ∷ t) fault d short e = by (eqb b 39) refl
  where
    by : (q : Bool) → eqb b 39 ≡ q → AtFault (b ∷ t) fault d
    by false other = absurd (bare_no_fault (b ∷ t) fault d other short e)
    by true is = let h = eqb-true b 39 is in rw h (quoted-fault t fault d (rw (h, letters-quoted t) at short) (rw h at e))

pub told-fault : (s : List ℕ) (fault : Fault) (d : ℕ) → told s ≡ faulty fault d → AtFault s fault d
told-fault s fault d e = go (dec_lt label_bytes (length (letters s)))
  where
    go : Dec (label_bytes < length (letters s)) → AtFault s fault d
    go (yes l) =
        let f = told-long s l in
        let g : LongWord ≡ fault = cc in
        let h : raw_to label_bytes s ≡ d = cc in
        rw (← g, ← h) (long l)
    go (no l) = short-fault s fault d (omega arith) e

-- ---- which bytes decide

-- bytes that begin one text begin another that agrees with it so far
front-again : (u rest s s' : List ℕ) (n : ℕ) → length u ≡ n → s ≡ u ++ rest → take n s' ≡ take n s → s' ≡ u ++ drop n s'
front-again u rest s s' n size split agree =
    sym (take-append-drop n s') ∙ ap (λ (l : List ℕ). l ++ drop n s') (agree ∙ (ap (take n) split ∙ take_at u rest n size))

-- "3": the bytes up to the one at fault, and where that is a closing quote, that no quote follows it
stray-again :
    (w : List ℕ) (b : ℕ) (rest s s' : List ℕ) → s ≡ 39 ∷ doubled w ++ b ∷ rest → All is_printable w → length w ≤ label_bytes → is_printable b ≡ false
    → take (suc (suc (length (doubled w)))) s' ≡ take (suc (suc (length (doubled w)))) s → AtFault s' StrayByte (suc (length (doubled w)))
stray-again w b rest s s' split all short non agree =
    let u = 39 ∷ doubled w ++ b ∷ [] in
    let n = suc (suc (length (doubled w))) in
    let size : length u ≡ n = let l = length-append (doubled w) (b ∷ []) in omega arith in
    let joined : s ≡ u ++ rest = split ∙ ap (λ (l : List ℕ). 39 ∷ l) (sym (append_assoc (doubled w) (b ∷ []) rest)) in
    let again : s' ≡ u ++ drop n s' = front-again u rest s s' n size joined agree in
    stray w b (drop n s') (again ∙ ap (λ (l : List ℕ). 39 ∷ l) (append_assoc (doubled w) (b ∷ []) (drop n s'))) all short non

empty-again :
    (rest s s' : List ℕ) → s ≡ 39 ∷ 39 ∷ rest → take 2 s' ≡ take 2 s → next_is 39 (drop 2 s') ≡ false → AtFault s' StrayByte 1
empty-again rest s s' split agree over = empty (drop 2 s') (front-again (39 ∷ 39 ∷ []) rest s s' 2 refl split agree) over

-- no quote follows, as none follows in the first text
not_on :
    (s s' rest : List ℕ) → s ≡ 39 ∷ 39 ∷ rest → next_is 39 rest ≡ false
    → (next_is 39 (drop 1 s) ≡ true → next_is 39 (drop 2 s') ≡ true → next_is 39 (drop 2 s) ≡ true) → next_is 39 (drop 2 s') ≡ false
unfolding next_is
not_on s s' rest split over on = by (next_is 39 (drop 2 s')) refl
  where
    by : (t : Bool) → next_is 39 (drop 2 s') ≡ t → t ≡ false
    by true e = absurd (false≢true (sym (ap (λ (l : List ℕ). next_is 39 (drop 2 l)) split ∙ over) ∙ on (rw split refl) e))
    by false e = refl

pub three-again :
    (s s' : List ℕ) (d : ℕ) → told s ≡ faulty StrayByte d → take (suc d) s' ≡ take (suc d) s
    → (next_is 39 (drop d s) ≡ true → next_is 39 (drop (suc d) s') ≡ true → next_is 39 (drop (suc d) s) ≡ true) → told s' ≡ faulty StrayByte d
three-again s s' d e agree on = by (told-fault s StrayByte d e) refl agree on
  where
    by : {fault : Fault} {d : ℕ} → AtFault s fault d → fault ≡ StrayByte → take (suc d) s' ≡ take (suc d) s
        → (next_is 39 (drop d s) ≡ true → next_is 39 (drop (suc d) s') ≡ true → next_is 39 (drop (suc d) s) ≡ true) → told s' ≡ faulty StrayByte d
    by (long l) is agree on = absurd (let z : ◌≡◌ {A = ℕ} 0 1 = cc in omega arith)
    by (stray w b rest split all short non) is agree on = fault-told (stray-again w b rest s s' split all short non agree)
    by (empty rest split over) is agree on = fault-told (empty-again rest s s' split agree (not_on s s' rest split over on))
    by (unclosed w split all short) is agree on = absurd (let z : ◌≡◌ {A = ℕ} 0 1 = cc in omega arith)

-- how many bytes from d on a letter takes: a quote takes two
abbrev pub letter_end : Bool → ℕ → ℕ
letter_end true d = suc (suc d)
letter_end false d = suc d

-- the letter behind the first k takes two bytes where a quote stands there
end_next : (t : Bool) (d : ℕ) → letter_end t (suc d) ≡ suc (letter_end t d)
end_next true d = refl
end_next false d = refl

quoted-raw :
    (w : List ℕ) (k : ℕ) (r : List ℕ) → k < length w
    → length (doubled (take (suc k) w)) ≡ letter_end (next_is 39 (drop (length (doubled (take k w))) (doubled w ++ r))) (length (doubled (take k w)))
unfolding doubled next_is
quoted-raw [] k r l = absurd (omega arith)
quoted-raw (b ∷ w) zero r l = by (eqb b 39) refl
  where
    by : (q : Bool) → eqb b 39 ≡ q → length (twice_by q b []) ≡ letter_end (next_is 39 (twice_by q b (doubled w) ++ r)) 0
    by true is = rw is refl
    by false is = rw is refl
quoted-raw (b ∷ w) (suc k) r l = by (eqb b 39) (quoted-raw w k r (le_of_suc-le-suc l))
  where
    by : (q : Bool) → length (doubled (take (suc k) w)) ≡ letter_end (next_is 39 (drop (length (doubled (take k w))) (doubled w ++ r))) (length (doubled (take k w)))
        → length (twice_by q b (doubled (take (suc k) w)))
        ≡ letter_end (next_is 39 (drop (length (twice_by q b (doubled (take k w)))) (twice_by q b (doubled w) ++ r))) (length (twice_by q b (doubled (take k w))))
    by true h = rw (end_next, end_next) (ap (λ (n : ℕ). suc (suc n)) h)
    by false h = rw end_next (ap suc h)

raw_next_quoted :
    (t : List ℕ) (k : ℕ) → k < length (letters_from false t)
    → raw_to (suc k) (39 ∷ t) ≡ letter_end (next_is 39 (drop (raw_to k (39 ∷ t)) (39 ∷ t))) (raw_to k (39 ∷ t))
raw_next_quoted t k l =
    let w = letters_from false t in
    let n = length (doubled (take k w)) in
    raw-quoted (suc k) t
    ∙ rw (raw-quoted k t, end_next)
    (ap suc (quoted-raw w k (behind_letters t) l ∙ ap (λ (x : List ℕ). letter_end (next_is 39 (drop n x)) n) (sym (letters-front t))))

raw_next_bare : (s : List ℕ) (k : ℕ) → next_is 39 s ≡ false → k < run is_bare s → raw_to (suc k) s ≡ letter_end (next_is 39 (drop (raw_to k s) s)) (raw_to k s)
raw_next_bare s k other l =
    let inside : k < length s = omega (arith, run-within is_bare s) in
    let no_quote : next_is 39 (drop k s) ≡ false = next_here 39 s k inside ∙ bare_no_quote (get_or s k 0) (run-byte is_bare s k l) in
    rw (raw-bare (suc k) s other, raw-bare k s other, no_quote) refl

-- a text begins with a quote, or it does not
by_first : (P : List ℕ → Type 0) → ((t : List ℕ) → P (39 ∷ t)) → ((s : List ℕ) → next_is 39 s ≡ false → P s) → (s : List ℕ) → P s
unfolding next_is
by_first P quoted bare [] = bare [] refl
by_first P quoted bare (b ∷ t) = by (eqb b 39) refl
  where
    by : (q : Bool) → eqb b 39 ≡ q → P (b ∷ t)
    by true is = rw (eqb-true b 39 is) (quoted t)
    by false other = bare (b ∷ t) other

pub raw_next : (s : List ℕ) (k : ℕ) → k < length (letters s) → raw_to (suc k) s ≡ letter_end (next_is 39 (drop (raw_to k s) s)) (raw_to k s)
raw_next s k =
    by_first (λ (s : List ℕ). k < length (letters s) → raw_to (suc k) s ≡ letter_end (next_is 39 (drop (raw_to k s) s)) (raw_to k s))
    (λ t l. raw_next_quoted t k (rw (letters-quoted t) at l)) (λ s other l. raw_next_bare s k other (rw (bare-length s other) at l)) s

-- "4": the bytes up to the sixteenth letter, and the whole of it
module _ (t s' : List ℕ) (l : label_bytes < length (letters_from false t)) where
  abbrev sixteen : List ℕ
  sixteen = take 16 (letters_from false t)

  abbrev later : List ℕ
  later = doubled (drop 16 (letters_from false t)) ++ behind_letters t

  long-split : 39 ∷ t ≡ (39 ∷ doubled sixteen) ++ later
  long-split =
      let w = letters_from false t in
      ap (λ (x : List ℕ). 39 ∷ x)
      (letters-front t
      ∙ (ap (λ (x : List ℕ). doubled x ++ behind_letters t) (sym (take-append-drop 16 w))
      ∙ (ap (λ (x : List ℕ). x ++ behind_letters t) (doubled-joins sixteen (drop 16 w)) ∙ append_assoc (doubled sixteen) (doubled (drop 16 w)) (behind_letters t))))

  long-quoted : take (raw_to 16 (39 ∷ t)) s' ≡ take (raw_to 16 (39 ∷ t)) (39 ∷ t) → told s' ≡ faulty LongWord (raw_to label_bytes (39 ∷ t))
  long-quoted agree =
      let w = letters_from false t in
      let n = suc (length (doubled sixteen)) in
      let z = drop n s' in
      let again : s' ≡ 39 ∷ doubled sixteen ++ z = front-again (39 ∷ doubled sixteen) later (39 ∷ t) s' n refl long-split (rw (raw-quoted 16 t) at agree) in
      let from : letters_from false (doubled sixteen ++ z) ≡ sixteen ++ letters_from false z = letters-doubled (all_take 16 (letters_from_printable false t)) z in
      let name : letters s' ≡ sixteen ++ letters_from false z = ap letters again ∙ (letters-quoted (doubled sixteen ++ z) ∙ from) in
      let size : length sixteen ≡ 16 = length-take-le 16 w l in
      let far : label_bytes < length (letters s') = rw (name, length-append sixteen (letters_from false z)) (omega arith) in
      let front : take label_bytes (sixteen ++ letters_from false z) ≡ take label_bytes w =
      take-append-le label_bytes sixteen (letters_from false z) (omega arith) ∙ take-take label_bytes 16 w (omega arith)
      in
      told-long s' far
      ∙ ap (faulty LongWord)
      (ap (raw_to label_bytes) again
      ∙ (raw-quoted label_bytes (doubled sixteen ++ z)
      ∙ (ap (λ (x : List ℕ). suc (length (doubled (take label_bytes x)))) from
      ∙ (ap (λ (x : List ℕ). suc (length (doubled x))) front ∙ sym (raw-quoted label_bytes t)))))

long-bare : (s s' : List ℕ) → label_bytes < run is_bare s → take 16 s' ≡ take 16 s → told s' ≡ faulty LongWord label_bytes
long-bare s s' l agree =
    let runs : run is_bare (take 16 s') ≡ run is_bare (take 16 s) = ap (run is_bare) agree in
    let far : label_bytes < run is_bare s' = omega (arith, run_take is_bare 16 s, run_take is_bare 16 s') in
    told-bare s' (run_no_quote s' (omega arith)) ∙ rw (lt-leb (run is_bare s') label_bytes far) refl

long-again : (s s' : List ℕ) → label_bytes < length (letters s) → take (raw_to 16 s) s' ≡ take (raw_to 16 s) s → told s' ≡ faulty LongWord (raw_to label_bytes s)
long-again s s' =
    by_first (λ (s : List ℕ). label_bytes < length (letters s) → take (raw_to 16 s) s' ≡ take (raw_to 16 s) s → told s' ≡ faulty LongWord (raw_to label_bytes s))
    (λ t l agree. long-quoted t s' (rw (letters-quoted t) at l) agree)
    (λ s other l agree. rw (raw-bare label_bytes s other) (long-bare s s' (rw (bare-length s other) at l) (rw (raw-bare 16 s other) at agree))) s

pub four-again :
    (s s' : List ℕ) (d : ℕ) → told s ≡ faulty LongWord d → take (letter_end (next_is 39 (drop d s)) d) s' ≡ take (letter_end (next_is 39 (drop d s)) d) s
    → told s' ≡ faulty LongWord d
four-again s s' d e agree = by (told-fault s LongWord d e) refl agree
  where
    by : {fault : Fault} {d : ℕ} → AtFault s fault d → fault ≡ LongWord → take (letter_end (next_is 39 (drop d s)) d) s' ≡ take (letter_end (next_is 39 (drop d s)) d) s
        → told s' ≡ faulty LongWord d
    by (long l) is agree = long-again s s' l (rw (raw_next s label_bytes l) agree)
    by (stray w b rest split all short non) is agree = absurd (let z : ◌≡◌ {A = ℕ} 0 1 = cc in omega arith)
    by (empty rest split over) is agree = absurd (let z : ◌≡◌ {A = ℕ} 0 1 = cc in omega arith)
    by (unclosed w split all short) is agree = absurd (let z : ◌≡◌ {A = ℕ} 0 1 = cc in omega arith)

-- a label that ends: its bytes, and that what follows does not go on with it
pub ended-again :
    (s s' : List ℕ) (n : ℕ) → next_label s ≡ true → told s ≡ ended n → take n s' ≡ take n s → goes_on s (drop n s') ≡ false
    → (told s' ≡ ended n) × (letters s' ≡ letters s)
ended-again s s' n begins e agree over =
    let h = told_sound s n begins e in
    let spelled : Spells (letters s) (take n s ++ drop n s') (drop n s') =
    front-elsewhere (Spells (letters s)) (take n s) (drop n s) (drop n s') (rw (take-append-drop n s) (spells-front h.whole.spelled))
    in
    let joined : take n s ++ drop n s' ≡ s' = ap (λ (l : List ℕ). l ++ drop n s') (sym agree) ∙ take-append-drop n s' in
    let first : next_is 39 s' ≡ next_is 39 s = next_is_first 39 s' s (agree_less 1 n s' s h.some agree) in
    let x = whole_exact (record { spelled = rw joined at spelled; over = rw first over }) in
    let all : x.width + (length s' - n) ≡ length s' = rw (← length-drop n s') x.all in
    let same : min n (length s') ≡ min n (length s) = sym (length-take n s') ∙ (ap length agree ∙ length-take n s) in
    let within = h.within in
    (x.short h.short ∙ ap ended (omega arith), x.name)
