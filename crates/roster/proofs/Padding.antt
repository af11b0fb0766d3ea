-- Names in sixteen bytes are told apart as the names are.
use Prim.Native.Nat.{ℕ, zero, suc, ◌-◌, ◌≤◌, ◌<◌, zero-le, suc-le-suc}
use native.Mathlib.Nat.{not-suc-le-zero, le_of_suc-le-suc, suc-sub-suc, sub-zero}
use native.Mathlib.Omega.{arith}
use mathlib.Core.Path.{◌≡◌, refl, sym, ap, ◌∙◌}
use mathlib.Core.Bool.{Bool, ◌&&◌, true≢false}
use mathlib.Core.List.{List, [], ◌∷◌, ◌++◌, map}
use lib.ListN.{length, get_or, replicate, length-append, length-replicate}
use lib.Dec.{eqb}
use borrow.Author.Tests.{ne_eqb}
use Rattle.labels.specs.Bytes.{is_printable}
use Rattle.labels.specs.Labels.{letters, padded}
use Rattle.labels.specs.Writing.{Printable}
use Rattle.labels.proofs.Letters.{letters-printable}
use Rattle.roster.specs.Roster.{same, position}
use Rattle.roster.proofs.Each.{Each}
use Rattle.roster.proofs.Positions.{same_self}

-- no byte is 0
abbrev pub Bare : List ℕ → Type 0
Bare w = (k : ℕ) → k < length w → get_or w k 0 ≡ 0 → ⊥

-- a name that fits its sixteen bytes, with no 0 among its own
pub record Fitting (w : List ℕ) : Type 0 where
  pub short : length w ≤ 16
  pub bare : Bare w

-- printable bytes are no 0
pub printable-bare : (w : List ℕ) → Printable w → Bare w
printable-bare w all k h e = true≢false (sym (all k h) ∙ ap is_printable e)

-- the letters of a label that are few enough for a name fit the table
pub letters-fit : (s : List ℕ) → length (letters s) ≤ 15 → Fitting (letters s)
letters-fit s h = record { short = omega arith; bare = printable-bare (letters s) (letters-printable s) }

-- w in n bytes
filled : ℕ → List ℕ → List ℕ
filled n w = w ++ replicate (n - length w) 0

same_filled : (n : ℕ) (w v : List ℕ) → length w ≤ n → length v ≤ n → Bare w → Bare v → same (filled n w) (filled n v) ≡ same w v
unfolding same filled
same_filled n [] [] h k b c = same_self (replicate (n - 0) 0)
same_filled zero [] (y ∷ v) h k b c = absurd (not-suc-le-zero k)
same_filled (suc n) [] (y ∷ v) h k b c = rw (sub-zero (suc n), ne_eqb 0 y (λ e. c 0 (suc-le-suc zero-le) (sym e)))
same_filled zero (x ∷ w) [] h k b c = absurd (not-suc-le-zero h)
same_filled (suc n) (x ∷ w) [] h k b c = rw (sub-zero (suc n), ne_eqb x 0 (b 0 (suc-le-suc zero-le)))
same_filled zero (x ∷ w) (y ∷ v) h k b c = absurd (not-suc-le-zero h)
same_filled (suc n) (x ∷ w) (y ∷ v) h k b c =
    let rest = same_filled n w v (le_of_suc-le-suc h) (le_of_suc-le-suc k) (λ j l. b (suc j) (suc-le-suc l)) (λ j l. c (suc j) (suc-le-suc l)) in
    rw (suc-sub-suc n (length w), suc-sub-suc n (length v)) (ap (λ (t : Bool). eqb x y && t) rest)

pub same_padded : (w v : List ℕ) → Fitting w → Fitting v → same (padded w) (padded v) ≡ same w v
unfolding filled padded
same_padded w v f g = same_filled 16 w v f.short g.short f.bare g.bare

-- a padded name stands among padded names where the name stands among the names
pub position-padded : (w : List ℕ) (ns : List (List ℕ)) → Fitting w → Each Fitting ns → position (padded w) (map padded ns) ≡ position w ns
unfolding position Each
position-padded w [] f all = refl
position-padded w (v ∷ ns) f all = rw (same_padded w v f all.0, position-padded w ns f all.1)

pub padded-length : (w : List ℕ) → length w ≤ 16 → length (padded w) ≡ 16
unfolding padded
padded-length w h = simp (length-append, length-replicate) (omega arith)
