-- Names as they are written (#103): what is written spells the name, bare exactly where it may be, and how long it is.
use Prim.Native.Nat.{ℕ, suc, ◌+◌, ◌*◌, ◌≤◌, ◌<◌}
use native.Mathlib.Decide.{dec_le}
use native.Mathlib.Omega.{arith}
use mathlib.Core.Path.{◌≡◌, refl, sym, ap, ap₂, subst, ◌∙◌}
use mathlib.Core.Bool.{Bool, true, false, not, ◌||◌, and-eq-true_iff}
use mathlib.Core.Logic.{◌⊎◌, inl, inr, ⊎_elim}
use mathlib.Core.List.{List, [], ◌∷◌, ◌++◌, map, append_assoc}
use lib.ListN.{length, replicate, length-append, length-map}
use lib.Dec.{eqb, leb}
use borrow.Author.Tests.{eqb-true, leb-true}
use Rattle.labels.specs.Bytes.{is_name, is_bare, is_printable, next_is, next_label}
use Rattle.labels.specs.Spelling.{unwritten, Run, Spells}
use Rattle.labels.specs.Spelling.Run.{one, next}
use Rattle.labels.specs.Spelling.Spells.{bare, quoted}
use Rattle.labels.specs.Labels.{label_bytes, twice_by, doubled, letters, told}
use Rattle.labels.specs.Labels.Told.{ended}
use Rattle.labels.specs.Writing.{Printable, Name, is_free, may_be_bare, score_for, underscored, written_by, label_of}
use Rattle.labels.proofs.Bytewise.{All, all_at, all_of, all_append}
use Rattle.labels.proofs.Bytewise.All.{no_byte, a_byte}
use Rattle.labels.proofs.QuotedLetters.{quoted_of}
use Rattle.labels.proofs.Spelled.{whole_exact, no_label_over, spells_first}
use Rattle.labels.proofs.ByteKinds.{passes_other}

-- ---- a byte

-- a letter, a digit or a blank, with an underscore for the blank, is a byte of a bare label, and stands for what it was
free_written : (b : ℕ) → is_free b ≡ true → (is_bare (underscored b) ≡ true) × (unwritten (underscored b) ≡ b)
free_written b = by (is_name b) refl
  where
    by : (n : Bool) → is_name b ≡ n → (n || eqb b 32) ≡ true → (is_bare (underscored b) ≡ true) × (unwritten (underscored b) ≡ b)
    by true n h = rw (passes_other is_name b 32 n refl, passes_other is_name b 95 n refl, n) (refl, refl)
    by false n h = rw h (refl, sym (eqb-true b 32 h))

-- what a byte of a bare label stands for is a letter, a digit or a blank
unwritten_free : (b : ℕ) → is_bare b ≡ true → is_free (unwritten b) ≡ true
unwritten_free b = by (is_name b) refl
  where
    by : (n : Bool) → is_name b ≡ n → (n || eqb b 95) ≡ true → is_free (unwritten b) ≡ true
    by true n h = rw (passes_other is_name b 95 n refl, n)
    by false n h = rw h

-- a printable byte is no 0
pub printable_some : (b : ℕ) → is_printable b ≡ true → 32 ≤ b
printable_some b h = leb-true 32 b ((and-eq-true_iff (leb 32 b) (leb b 126)).0 h).0

-- ---- printable bytes

all_underscored : {w : List ℕ} → All is_printable w → All is_printable (map underscored w)
all_underscored no_byte = no_byte
all_underscored (a_byte {b = b} is p) = a_byte (by (eqb b 32)) (all_underscored p)
  where
    by : (t : Bool) → is_printable (score_for t b) ≡ true
    by true = refl
    by false = is

all_doubled : {w : List ℕ} → All is_printable w → All is_printable (doubled w)
unfolding doubled
all_doubled no_byte = no_byte
all_doubled (a_byte {b = b} {s = w} is p) = by (eqb b 39) (all_doubled p)
  where
    by : (t : Bool) → All is_printable (doubled w) → All is_printable (twice_by t b (doubled w))
    by true later = a_byte is (a_byte is later)
    by false later = a_byte is later

-- ---- a bare label

bare-run : (b : ℕ) (w rest : List ℕ) → may_be_bare (b ∷ w) ≡ true → Run is_bare (map underscored (b ∷ w)) (map underscored (b ∷ w) ++ rest) rest
unfolding may_be_bare
bare-run b [] rest h = one (free_written b ((and-eq-true_iff (is_free b) true).0 h).0).0
bare-run b (c ∷ w) rest h =
    let parts = (and-eq-true_iff (is_free b) (may_be_bare (c ∷ w))).0 h in
    next (free_written b parts.0).0 (bare-run c w rest parts.1)

bare_back : (w : List ℕ) → may_be_bare w ≡ true → map unwritten (map underscored w) ≡ w
unfolding may_be_bare
bare_back [] h = refl
bare_back (b ∷ w) h =
    let parts = (and-eq-true_iff (is_free b) (may_be_bare w)).0 h in
    ap₂ (λ (c : ℕ) (v : List ℕ). c ∷ v) (free_written b parts.0).1 (bare_back w parts.1)

-- what a bare label spells may be written bare: a name with another byte has no bare spelling
pub bare_spelling : {v s rest : List ℕ} → Run is_bare v s rest → may_be_bare (map unwritten v) ≡ true
unfolding may_be_bare
bare_spelling (one {b} h) = rw (unwritten_free b h)
bare_spelling (next {b} h r) = rw (unwritten_free b h) (bare_spelling r)

-- ---- either

pub label-bare : (w : List ℕ) → may_be_bare w ≡ true → label_of w ≡ map underscored w
unfolding label_of
label-bare w e = rw e

pub label-quoted : (w : List ℕ) → may_be_bare w ≡ false → label_of w ≡ 39 ∷ doubled w ++ 39 ∷ []
unfolding label_of
label-quoted w e = rw e

-- a name of letters and digits is written as it is, as by 01
letters_free : {w : List ℕ} → All is_name w → may_be_bare w ≡ true
unfolding may_be_bare
letters_free no_byte = refl
letters_free (a_byte is all) = rw is (letters_free all)

letters-kept : {w : List ℕ} → All is_name w → map underscored w ≡ w
letters-kept no_byte = refl
letters-kept (a_byte {b = b} is all) = rw (passes_other is_name b 32 is refl) (ap (λ (w : List ℕ). b ∷ w) (letters-kept all))

pub label_as_it_is : {w : List ℕ} → All is_name w → label_of w ≡ w
label_as_it_is {w} all = label-bare w (letters_free all) ∙ letters-kept all

-- every name of printable bytes has a label, and what is written spells the name
pub label-spells : (w rest : List ℕ) → 1 ≤ length w → Printable w → Spells w (label_of w ++ rest) rest
unfolding label_of
label-spells [] rest h p = absurd (omega arith)
label-spells (b ∷ w) rest h p = by (may_be_bare (b ∷ w)) refl
  where
    by : (t : Bool) → may_be_bare (b ∷ w) ≡ t → Spells (b ∷ w) (written_by t (b ∷ w) ++ rest) rest
    by true e = subst (λ (v : List ℕ). Spells v (map underscored (b ∷ w) ++ rest) rest) (bare_back (b ∷ w) e) (bare (bare-run b w rest e))
    by false e = rw append_assoc (quoted (quoted_of (all_of (b ∷ w) p) rest))

-- a label begins it
pub label_begins : (w rest : List ℕ) → 1 ≤ length w → Printable w → next_label (label_of w ++ rest) ≡ true
label_begins w rest h p = spells_first (label-spells w rest h p)

-- and where no label goes on behind it, it is scanned to its end, and decodes to the name
pub label_scans :
    {w : List ℕ} (rest : List ℕ) → Name w → next_label rest ≡ false
    → (told (label_of w ++ rest) ≡ ended (length (label_of w))) × (letters (label_of w ++ rest) ≡ w)
label_scans {w} rest n over =
    let x = whole_exact (record { spelled = label-spells w rest n.some n.printable; over = no_label_over (label_of w ++ rest) rest over }) in
    let l = length-append (label_of w) rest in
    let all = x.all in
    let e : x.width ≡ length (label_of w) = omega arith in
    (x.short n.short ∙ ap ended e, x.name)

-- "leaves names of letters, digits and blanks bare .. and quotes others" (#103): a label begins with a quote exactly where the name may not be bare
pub quoted_exactly : (w : List ℕ) → next_is 39 (label_of w) ≡ not (may_be_bare w)
unfolding label_of next_is may_be_bare
quoted_exactly [] = refl
quoted_exactly (b ∷ w) = by (may_be_bare (b ∷ w)) refl
  where
    by : (t : Bool) → may_be_bare (b ∷ w) ≡ t → next_is 39 (written_by t (b ∷ w)) ≡ not t
    by true e = passes_other is_bare (underscored b) 39 (free_written b ((and-eq-true_iff (is_free b) (may_be_bare w)).0 e).0).0 refl
    by false e = refl

-- a name of printable bytes is written in printable bytes
pub label-printable : (w : List ℕ) → Printable w → Printable (label_of w)
unfolding label_of
label-printable w p = all_at (by (may_be_bare w) (all_of w p))
  where
    by : (t : Bool) → All is_printable w → All is_printable (written_by t w)
    by true all = all_underscored all
    by false all = a_byte refl (all_append (all_doubled all) (a_byte refl no_byte))

-- ---- its length

-- one more where the byte is a quote
abbrev quote_more : Bool → ℕ → ℕ
quote_more true n = suc n
quote_more false n = n

-- how many quotes a name has
unfoldable pub quotes : List ℕ → ℕ
quotes [] = 0
quotes (b ∷ w) = quote_more (eqb b 39) (quotes w)

doubled-length : (w : List ℕ) → length (doubled w) ≡ length w + quotes w
unfolding doubled quotes
doubled-length [] = refl
doubled-length (b ∷ w) = by (eqb b 39) (doubled-length w)
  where
    by : (t : Bool) → length (doubled w) ≡ length w + quotes w → length (twice_by t b (doubled w)) ≡ suc (length w) + quote_more t (quotes w)
    by true e = omega arith
    by false e = omega arith

-- as many bytes as the name has, and two quotes around it and one more for each of its own where it is quoted
abbrev longer_by : Bool → List ℕ → ℕ
longer_by true w = 0
longer_by false w = 2 + quotes w

pub label-length : (w : List ℕ) → length (label_of w) ≡ length w + longer_by (may_be_bare w) w
unfolding label_of
label-length w = by (may_be_bare w)
  where
    by : (t : Bool) → length (written_by t w) ≡ length w + longer_by t w
    by true = length-map w underscored ∙ omega arith
    by false = let e = length-append (doubled w) (39 ∷ []) in let d = doubled-length w in omega arith

pub label_most : (w : List ℕ) → length (label_of w) ≤ length w + 2 + quotes w
label_most w = let e = label-length w in by (may_be_bare w) e
  where
    by : (t : Bool) → length (label_of w) ≡ length w + longer_by t w → length (label_of w) ≤ length w + 2 + quotes w
    by true e = omega arith
    by false e = omega arith

-- all bytes are quotes, or some are not
quotes_all : (w : List ℕ) → (quotes w < length w) ⊎ ((quotes w ≡ length w) × (w ≡ replicate (length w) 39))
unfolding quotes
quotes_all [] = inr (refl, refl)
quotes_all (b ∷ w) = by (eqb b 39) refl (quotes_all w)
  where
    by : (t : Bool) → eqb b 39 ≡ t → (quotes w < length w) ⊎ ((quotes w ≡ length w) × (w ≡ replicate (length w) 39))
        → (quote_more t (quotes w) < suc (length w)) ⊎ ((quote_more t (quotes w) ≡ suc (length w)) × (b ∷ w ≡ 39 ∷ replicate (length w) 39))
    by true e (inl l) = inl (omega arith)
    by true e (inr l) = inr (omega arith, ap₂ (λ (c : ℕ) (v : List ℕ). c ∷ v) (eqb-true b 39 e) l.1)
    by false e (inl l) = inl (omega arith)
    by false e (inr l) = inl (omega arith)

-- twice the name and two quotes around it at most
pub label-twice : (w : List ℕ) → length (label_of w) ≤ 2 * length w + 2
label-twice w = let m = label_most w in ⊎_elim (λ l. omega arith) (λ l. let e = l.0 in omega arith) (quotes_all w)

-- "Its bound becomes 558 bytes" (#103): the label of a name has at most 32 bytes
pub label-short : (w : List ℕ) → length w ≤ label_bytes → length (label_of w) ≤ 32
label-short w h = let m = label-twice w in omega arith

-- that of every name but the one of fifteen quotes has at most 31
pub label-longest : (w : List ℕ) → length w ≤ label_bytes → (w ≡ replicate 15 39 → ⊥) → length (label_of w) ≤ 31
label-longest w h other = let m = label_most w in by m (quotes_all w) (dec_le (length w) 14)
  where
    by : length (label_of w) ≤ length w + 2 + quotes w → (quotes w < length w) ⊎ ((quotes w ≡ length w) × (w ≡ replicate (length w) 39)) → Dec (length w ≤ 14)
        → length (label_of w) ≤ 31
    by m (inl l) d = omega arith
    by m (inr l) (yes d) = let e = l.0 in omega arith
    by m (inr l) (no d) = let e : length w ≡ 15 = omega arith in absurd (other (l.1 ∙ ap (λ (n : ℕ). replicate n 39) e))
