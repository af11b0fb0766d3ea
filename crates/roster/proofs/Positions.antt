-- Names told apart byte by byte, and where a name stands among others.
use Prim.Native.Nat.{ℕ, suc, ◌≤◌, ◌<◌, zero-le}
use native.Mathlib.Nat.{not-suc-le-zero}
use native.Mathlib.Decide.{dec_lt}
use native.Mathlib.Omega.{arith}
use mathlib.Core.Path.{◌≡◌, refl, sym, ap, ap₂, ◌∙◌}
use mathlib.Core.Bool.{Bool, true, false, not, false≢true}
use mathlib.Core.List.{List, [], ◌∷◌, ◌++◌}
use lib.ListN.{length, get_or, length-append, get_or-append}
use lib.Seq.{get_or-append_seam}
use lib.Dec.{eqb}
use borrow.Author.Tests.{eq-eqb, eqb-true}
use Rattle.labels.specs.Bytes.{one_more}
use Rattle.roster.specs.Roster.{same, position}
use Rattle.trees.proofs.Booleans.{both}
use Rattle.roster.proofs.Each.{Each}

pub same_self : (w : List ℕ) → same w w ≡ true
unfolding same
same_self [] = refl
same_self (b ∷ w) = rw (eq-eqb b b refl) (same_self w)

pub same_is : (w v : List ℕ) → same w v ≡ true → w ≡ v
unfolding same
same_is [] [] e = refl
same_is [] (y ∷ v) e = absurd (false≢true e)
same_is (x ∷ w) [] e = absurd (false≢true e)
same_is (x ∷ w) (y ∷ v) e =
    let parts = both (eqb x y) (same w v) e in
    ap₂ (λ (b : ℕ) (l : List ℕ). b ∷ l) (eqb-true x y parts.0) (same_is w v parts.1)

-- a name stands within the list or, where it is unknown, right behind it
pub position-within : (w : List ℕ) (ns : List (List ℕ)) → position w ns ≤ length ns
unfolding position
position-within w [] = zero-le
position-within w (v ∷ ns) = by (same w v) (position-within w ns)
  where
    by : (t : Bool) → position w ns ≤ length ns → one_more (not t) (position w ns) ≤ suc (length ns)
    by true h = zero-le
    by false h = omega arith

-- a name that differs from each is unknown
pub position-unknown : (w : List ℕ) (ns : List (List ℕ)) → Each (λ v. same w v ≡ false) ns → position w ns ≡ length ns
unfolding position Each
position-unknown w [] all = refl
position-unknown w (v ∷ ns) all = rw (all.0, position-unknown w ns all.1)

-- a name that is known stands where it did when more follow
pub position-known : (w : List ℕ) (ns more : List (List ℕ)) → position w ns < length ns → position w (ns ++ more) ≡ position w ns
unfolding position
position-known w [] more h = absurd (not-suc-le-zero h)
position-known w (v ∷ ns) more h = by (same w v) h (position-known w ns more)
  where
    by : (t : Bool) → one_more (not t) (position w ns) < suc (length ns) → (position w ns < length ns → position w (ns ++ more) ≡ position w ns)
        → one_more (not t) (position w (ns ++ more)) ≡ one_more (not t) (position w ns)
    by true h next = refl
    by false h next = rw (next (omega arith))

-- a known name is the one where it stands
pub position-found : (w : List ℕ) (ns : List (List ℕ)) → position w ns < length ns → get_or ns (position w ns) [] ≡ w
unfolding position
position-found w [] h = absurd (omega arith)
position-found w (v ∷ ns) h = by (same w v) refl h (position-found w ns)
  where
    by : (t : Bool) → same w v ≡ t → one_more (not t) (position w ns) < suc (length ns) → (position w ns < length ns → get_or ns (position w ns) [] ≡ w)
        → get_or (v ∷ ns) (one_more (not t) (position w ns)) [] ≡ w
    by true e h later = sym (same_is w v e)
    by false e h later = later (omega arith)

-- an unknown name that is put behind the list stands right there
pub position-new : (w : List ℕ) (ns : List (List ℕ)) → position w ns ≡ length ns → position w (ns ++ (w ∷ [])) ≡ length ns
unfolding position
position-new w [] h = rw (same_self w)
position-new w (v ∷ ns) h = by (same w v) h (position-new w ns)
  where
    by : (t : Bool) → one_more (not t) (position w ns) ≡ suc (length ns) → (position w ns ≡ length ns → position w (ns ++ (w ∷ [])) ≡ length ns)
        → one_more (not t) (position w (ns ++ (w ∷ []))) ≡ suc (length ns)
    by true h next = absurd (omega arith)
    by false h next = rw (next (omega arith))

-- each of the list stands where it is in the list: no two are equal
abbrev pub Distinct : List (List ℕ) → Type 0
Distinct ns = (i : ℕ) → i < length ns → position (get_or ns i []) ns ≡ i

-- a new name leaves no two equal
pub distinct_more : (ns : List (List ℕ)) (w : List ℕ) → Distinct ns → position w ns ≡ length ns → Distinct (ns ++ (w ∷ []))
distinct_more ns w all new i h = by (dec_lt i (length ns))
  where
    by : Dec (i < length ns) → position (get_or (ns ++ (w ∷ [])) i []) (ns ++ (w ∷ [])) ≡ i
    by (yes l) =
        let here = all i l in
        ap (λ (v : List ℕ). position v (ns ++ (w ∷ []))) (get_or-append ns (w ∷ []) [] i l) ∙ position-known (get_or ns i []) ns (w ∷ []) (omega arith) ∙ here
    by (no n) =
        let long = length-append ns (w ∷ []) in
        let last : length ns ≡ i = omega arith in
        rw (← last) (ap (λ (v : List ℕ). position v (ns ++ (w ∷ []))) (get_or-append_seam ns w [] []) ∙ position-new w ns new)

-- two places of such a list hold different names
pub distinct-differ : (ns : List (List ℕ)) → Distinct ns → (i j : ℕ) → i < length ns → j < length ns → get_or ns i [] ≡ get_or ns j [] → i ≡ j
distinct-differ ns all i j h l e = sym (all i h) ∙ ap (λ (v : List ℕ). position v ns) e ∙ all j l
