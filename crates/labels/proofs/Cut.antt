-- Labels that are cut off: a front of a text has no more letters than the text, and the raw bytes of a label have its own.
use Prim.Native.Nat.{ℕ, zero, suc, ◌-◌, ◌≤◌, zero-le}
use native.Mathlib.Omega.{arith}
use mathlib.Core.Path.{◌≡◌, refl, ap, ◌∙◌}
use mathlib.Core.Bool.{Bool, true, false}
use mathlib.Core.List.{List, [], ◌∷◌, ◌++◌, append-nil}
use lib.ListN.{length, take, length-append}
use lib.Seq.{take-take, take-append_seam}
use lib.Dec.{eqb}
use borrow.Author.Tests.{eqb-true}
use Rattle.labels.specs.Bytes.{is_bare, is_plain, run, next_is, next_bare}
use Rattle.labels.specs.Spelling.{Spells, goes_on_by}
use Rattle.labels.specs.Labels.{bare_letters, plain_by, half_by, letters_from, letters}
use Rattle.labels.proofs.RunRules.{run_take}
use Rattle.labels.proofs.Spelled.{whole_exact}
use Rattle.labels.proofs.LabelFronts.{spells-front, front-elsewhere}
use Rattle.labels.proofs.Telling.{letters-quoted, bare-length}

-- ---- a front of a text has no more letters

quoted-front-fewer : (half : Bool) (j : ℕ) (s : List ℕ) → length (letters_from half (take j s)) ≤ length (letters_from half s)
unfolding letters_from
quoted-front-fewer false zero s = zero-le
quoted-front-fewer true zero s = zero-le
quoted-front-fewer false (suc j) [] = zero-le
quoted-front-fewer true (suc j) [] = zero-le
quoted-front-fewer false (suc j) (b ∷ s) = by (is_plain b) (eqb b 39) (quoted-front-fewer false j s) (quoted-front-fewer true j s)
  where
    by : (t q : Bool) → length (letters_from false (take j s)) ≤ length (letters_from false s)
        → length (letters_from true (take j s)) ≤ length (letters_from true s)
        → length (plain_by t q b (letters_from false (take j s)) (letters_from true (take j s))) ≤ length (plain_by t q b (letters_from false s) (letters_from true s))
    by true q more halved = omega arith
    by false true more halved = halved
    by false false more halved = zero-le
quoted-front-fewer true (suc j) (b ∷ s) = by (eqb b 39) (quoted-front-fewer false j s)
  where
    by : (q : Bool) → length (letters_from false (take j s)) ≤ length (letters_from false s)
        → length (half_by q (letters_from false (take j s))) ≤ length (half_by q (letters_from false s))
    by true more = omega arith
    by false more = zero-le

-- no bytes have no letters
pub no_letters : letters [] ≡ []
unfolding letters bare_letters next_is run
no_letters = refl

pub letters_of_front : (j : ℕ) (s : List ℕ) → length (letters (take j s)) ≤ length (letters s)
unfolding next_is
letters_of_front zero s = rw no_letters zero-le
letters_of_front (suc j) [] = omega arith
letters_of_front (suc j) (b ∷ s) = by (eqb b 39) refl
  where
    by : (q : Bool) → eqb b 39 ≡ q → length (letters (b ∷ take j s)) ≤ length (letters (b ∷ s))
    by true is = rw (eqb-true b 39 is, letters-quoted (take j s), letters-quoted s) (quoted-front-fewer false j s)
    by false is = rw (bare-length (b ∷ take j s) is, bare-length (b ∷ s) is) (omega (arith, run_take is_bare (suc j) (b ∷ s)))

-- the longer of two fronts has as many letters at the least
pub letters_grow : (j k : ℕ) (s : List ℕ) → j ≤ k → length (letters (take j s)) ≤ length (letters (take k s))
letters_grow j k s h = rw (← take-take j k s h) (letters_of_front j (take k s))

-- ---- the raw bytes of a label

over_at_end : (q : Bool) → goes_on_by q [] ≡ false
unfolding next_is next_bare
over_at_end true = refl
over_at_end false = refl

-- the raw bytes of a label, alone, have its letters
raw-letters : (v : List ℕ) {w rest : List ℕ} → Spells w (v ++ rest) rest → letters v ≡ w
raw-letters v {w} {rest} h =
    let alone : Spells w v [] = rw append-nil at (front-elsewhere (Spells w) v rest [] (spells-front h)) in
    (whole_exact (record { spelled = alone; over = over_at_end (next_is 39 v) })).name

pub whole_letters : {w s rest : List ℕ} → Spells w s rest → letters (take (length s - length rest) s) ≡ w
whole_letters {w} {s} {rest} h =
    let f = spells-front h in
    let v = f.bytes in
    let split : s ≡ v ++ rest = f.split in
    let both = ap length split ∙ length-append v rest in
    let size : length s - length rest ≡ length v = omega arith in
    let all : take (length s - length rest) s ≡ v = ap (λ (n : ℕ). take n s) size ∙ (ap (take (length v)) split ∙ take-append_seam v rest) in
    ap letters all ∙ raw-letters v (f.anywhere rest)

-- a part of them has no more
pub part-letters : {w s rest : List ℕ} → Spells w s rest → (j : ℕ) → j ≤ length s - length rest → length (letters (take j s)) ≤ length w
part-letters {w} {s} {rest} h j l =
    let fewer = letters_grow j (length s - length rest) s l in
    let all = ap length (whole_letters h) in
    omega arith
