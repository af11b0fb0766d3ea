-- What is told of a label: by its first byte, and by its limit.
use Prim.Native.Nat.{ℕ, suc, ◌≤◌, ◌<◌}
use native.Mathlib.Omega.{arith}
use mathlib.Core.Path.{◌≡◌, refl, ap, ◌∙◌}
use mathlib.Core.Bool.{Bool, true, false}
use mathlib.Core.List.{List, [], ◌∷◌, map, ◌++◌, append-nil}
use lib.ListN.{length, take, length-map, length-append}
use lib.Seq.{take-length, length-take-le, take_at, drop-append_seam}
use lib.Dec.{leb}
use borrow.Author.Tests.{le-leb, lt-leb, leb-true}
use Rattle.faults.specs.declared.Fault.TheVariants.{LongWord}
use Rattle.labels.specs.Bytes.{is_bare, run, next_is, is_printable}
use Rattle.labels.specs.Spelling.{unwritten}
use Rattle.labels.specs.Labels.{label_bytes, bare_letters, letters_from, doubled, letters, raw_to, Told, closing, limited, end_by, told}
use Rattle.labels.specs.Labels.Told.{ended, faulty}
use Rattle.labels.proofs.Runs.{run-within}
use Rattle.labels.proofs.QuotedLetters.{behind_letters, letters-doubled}
use Rattle.labels.proofs.Bytewise.{All}

-- ---- a quoted label, and a bare one

pub letters-quoted : (t : List ℕ) → letters (39 ∷ t) ≡ letters_from false t
unfolding letters next_is
letters-quoted t = refl

pub raw-quoted : (k : ℕ) (t : List ℕ) → raw_to k (39 ∷ t) ≡ suc (length (doubled (take k (letters_from false t))))
unfolding raw_to letters next_is
raw-quoted k t = refl

pub told-quoted :
    (t : List ℕ)
    → told (39 ∷ t) ≡ limited (leb (length (letters_from false t)) label_bytes) (raw_to label_bytes (39 ∷ t))
    (closing (length (letters_from false t)) (behind_letters t) (suc (length (doubled (letters_from false t)))))
unfolding told raw_to letters next_is
told-quoted t = rw take-length

pub told-quoted-fits :
    (t : List ℕ) → length (letters_from false t) ≤ label_bytes
    → told (39 ∷ t) ≡ closing (length (letters_from false t)) (behind_letters t) (suc (length (doubled (letters_from false t))))
told-quoted-fits t h = told-quoted t ∙ rw (le-leb (length (letters_from false t)) label_bytes h) refl

pub letters-bare : (s : List ℕ) → next_is 39 s ≡ false → letters s ≡ map unwritten (take (run is_bare s) s)
unfolding letters bare_letters
letters-bare s other = rw other

pub bare-length : (s : List ℕ) → next_is 39 s ≡ false → length (letters s) ≡ run is_bare s
bare-length s other = rw (letters-bare s other, length-map) (length-take-le (run is_bare s) s (run-within is_bare s))

pub raw-bare : (k : ℕ) (s : List ℕ) → next_is 39 s ≡ false → raw_to k s ≡ k
unfolding raw_to
raw-bare k s other = rw other

pub told-bare : (s : List ℕ) → next_is 39 s ≡ false → told s ≡ limited (leb (run is_bare s) label_bytes) label_bytes (ended (run is_bare s))
unfolding told
told-bare s other = rw (bare-length s other, raw-bare label_bytes s other, other)

-- ---- the limit

-- "4 counts decoded bytes, its place the first raw byte of the sixteenth" (#103), whatever follows
pub told-long : (s : List ℕ) → label_bytes < length (letters s) → told s ≡ faulty LongWord (raw_to label_bytes s)
unfolding told
told-long s l = rw (lt-leb (length (letters s)) label_bytes l)

-- within the limit, its end decides
pub told-fits : (s : List ℕ) → length (letters s) ≤ label_bytes → told s ≡ end_by (next_is 39 s) s
unfolding told
told-fits s h = rw (le-leb (length (letters s)) label_bytes h)

pub ended-limited : (t : Bool) (p : ℕ) (a : Told) (n : ℕ) → limited t p a ≡ ended n → (t ≡ true) × (a ≡ ended n)
ended-limited true p a n e = (refl, e)
ended-limited false p a n e = absurd (let z : ◌≡◌ {A = ℕ} 0 1 = cc in omega arith)

-- a label that ends is within the limit
pub ended-short : (s : List ℕ) (n : ℕ) → told s ≡ ended n → length (letters s) ≤ label_bytes
unfolding told
ended-short s n e =
    leb-true (length (letters s)) label_bytes
    (ended-limited (leb (length (letters s)) label_bytes) (raw_to label_bytes s) (end_by (next_is 39 s) s) n e).0

-- ---- letters behind a quote, and what follows them

pub letters-then : {w : List ℕ} → All is_printable w → (t : List ℕ) → letters (39 ∷ doubled w ++ t) ≡ w ++ letters_from false t
letters-then {w} all t = letters-quoted (doubled w ++ t) ∙ letters-doubled all t

-- no letter: the label is closed there, or at fault
pub told-ending :
    (w t : List ℕ) → All is_printable w → length w ≤ label_bytes → letters_from false t ≡ []
    → told (39 ∷ doubled w ++ t) ≡ closing (length w) t (suc (length (doubled w)))
told-ending w t all short none =
    let from : letters_from false (doubled w ++ t) ≡ w = letters-doubled all t ∙ (ap (λ (l : List ℕ). w ++ l) none ∙ append-nil w) in
    told-quoted-fits (doubled w ++ t) (rw from short) ∙ rw (from, drop-append_seam (doubled w) t) refl

-- one more behind fifteen
pub told-sixteenth :
    (w t : List ℕ) → All is_printable w → length w ≡ label_bytes → (b : ℕ) (v : List ℕ) → letters_from false t ≡ b ∷ v
    → told (39 ∷ doubled w ++ t) ≡ faulty LongWord (suc (length (doubled w)))
told-sixteenth w t all full b v more =
    let from : letters_from false (doubled w ++ t) ≡ w ++ b ∷ v = letters-doubled all t ∙ ap (λ (u : List ℕ). w ++ u) more in
    let far : label_bytes < length (letters (39 ∷ doubled w ++ t)) = rw (letters-quoted (doubled w ++ t), from, length-append w (b ∷ v)) (omega arith) in
    told-long (39 ∷ doubled w ++ t) far
    ∙ ap (faulty LongWord) (raw-quoted label_bytes (doubled w ++ t) ∙ rw (from, take_at w (b ∷ v) label_bytes full) refl)
