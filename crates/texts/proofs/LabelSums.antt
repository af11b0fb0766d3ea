-- The bytes of the labels of a set of species: a single species has its own, and two disjoint sets have theirs together.
use Prim.Native.Nat.{ℕ, zero, suc, ◌+◌, ◌≤◌, ◌<◌}
use mathlib.Core.Path.{◌≡◌, refl, sym, ap, ◌∙◌}
use mathlib.Core.Logic.{⊎_elim}
use mathlib.Core.Bool.{Bool, true, false}
use mathlib.Core.List.{List, []}
use native.Mathlib.Decide.{ℕ_discrete}
use native.Mathlib.Omega.{arith}
use lib.ListN.{length, get_or, set}
use lib.Seq.{get_or-set_same, get_or-set_other}
use Rattle.clusters.specs.Sets.{Has, Apart, within, single, union}
use Rattle.clusters.proofs.Members.{has_dec, has-union, union-has_left, union-has_right, has_of_within, has_of_apart, single-has, has-single}
use Rattle.clusters.proofs.Sets.{single-within, true-within, false-within}
use Rattle.texts.specs.Writing.{label}
use Rattle.texts.specs.Work.{bytes_if, labels_in}

in_set : (s i : ℕ) → Has s i → within (single i) s ≡ true
in_set s i h = true-within (single i) s (single-within s i h)

not_in_set : (s i : ℕ) → (Has s i → ⊥) → within (single i) s ≡ false
not_in_set s i h = false-within (single i) s (λ w. h (has_of_within (single i) s i w (single-has i)))

-- ---- two disjoint sets

bytes-union : (a b i n : ℕ) → Apart a b → bytes_if (within (single i) (union a b)) n ≡ bytes_if (within (single i) a) n + bytes_if (within (single i) b) n
bytes-union a b i n apart = go (has_dec a i) (has_dec b i)
  where
    go : Dec (Has a i) → Dec (Has b i) → bytes_if (within (single i) (union a b)) n ≡ bytes_if (within (single i) a) n + bytes_if (within (single i) b) n
    go (yes p) (yes q) = absurd (has_of_apart a b i apart p q)
    go (yes p) (no q) = rw (in_set (union a b) i (union-has_left a b i p), in_set a i p, not_in_set b i q) (omega arith)
    go (no p) (yes q) = rw (in_set (union a b) i (union-has_right a b i q), not_in_set a i p, in_set b i q) (omega arith)
    go (no p) (no q) = rw (not_in_set (union a b) i (λ h. ⊎_elim p q (has-union a b i h)), not_in_set a i p, not_in_set b i q) (omega arith)

pub labels_union : (names : List (List ℕ)) (a b n : ℕ) → Apart a b → labels_in names (union a b) n ≡ labels_in names a n + labels_in names b n
unfolding labels_in
labels_union names a b zero apart = omega arith
labels_union names a b (suc n) apart =
    let h = labels_union names a b n apart in
    let k = bytes-union a b n (length (label (get_or names n []))) apart in
    omega arith

-- ---- a single species

labels_before : (names : List (List ℕ)) (i n : ℕ) → n ≤ i → labels_in names (single i) n ≡ 0
unfolding labels_in
labels_before names i zero h = refl
labels_before names i (suc n) h =
    let k = labels_before names i n (omega arith) in
    rw (not_in_set (single i) n (λ s. let e = has-single i n s in omega arith)) (omega arith)

pub labels_single : (names : List (List ℕ)) (i n : ℕ) → i < n → labels_in names (single i) n ≡ length (label (get_or names i []))
unfolding labels_in
labels_single names i zero h = absurd (omega arith)
labels_single names i (suc n) h = go (ℕ_discrete i n) (λ l. labels_single names i n l)
  where
    go : Dec (i ≡ n) → (i < n → labels_in names (single i) n ≡ length (label (get_or names i [])))
        → labels_in names (single i) n + bytes_if (within (single n) (single i)) (length (label (get_or names n []))) ≡ length (label (get_or names i []))
    go (yes e) ih =
        let k = labels_before names i n (omega arith) in
        let l = ap (λ (j : ℕ). length (label (get_or names j []))) e in
        rw (ap (λ (j : ℕ). within (single j) (single i)) (sym e) ∙ in_set (single i) i (single-has i)) (omega arith)
    go (no e) ih =
        let k = ih (omega (arith, e)) in
        rw (not_in_set (single i) n (λ s. e (has-single i n s))) (omega arith)

-- ---- another name for the m-th

module _ (names : List (List ℕ)) (s m : ℕ) (w : List ℕ) where
  other_label : (i : ℕ) → (i ≡ m → ⊥) → length (label (get_or (set names m w) i [])) ≡ length (label (get_or names i []))
  other_label i n = ap (λ (v : List ℕ). length (label v)) (get_or-set_other names m i w [] n)

  labels_kept : (n : ℕ) → n ≤ m → labels_in (set names m w) s n ≡ labels_in names s n
  unfolding labels_in
  labels_kept zero h = refl
  labels_kept (suc n) h =
      let k = labels_kept n (omega arith) in
      let e = ap (λ (l : ℕ). bytes_if (within (single n) s) l) (other_label n (λ e. omega arith)) in
      omega arith

  -- where its label is by at most one byte shorter, so are all labels together
  module _ (shorter : length (label (get_or names m [])) ≤ suc (length (label w))) where
    bytes_shorter : (b : Bool) → bytes_if b (length (label (get_or names m []))) ≤ suc (bytes_if b (length (label w)))
    bytes_shorter true = shorter
    bytes_shorter false = omega arith

    pub labels_shorter : (n : ℕ) → n ≤ length names → labels_in names s n ≤ suc (labels_in (set names m w) s n)
    unfolding labels_in
    labels_shorter zero h = omega arith
    labels_shorter (suc n) h = go (ℕ_discrete n m) (labels_shorter n (omega arith))
      where
        go : Dec (n ≡ m) → labels_in names s n ≤ suc (labels_in (set names m w) s n)
            → labels_in names s n + bytes_if (within (single n) s) (length (label (get_or names n [])))
            ≤ suc (labels_in (set names m w) s n + bytes_if (within (single n) s) (length (label (get_or (set names m w) n []))))
        go (yes e) ih =
            let k = labels_kept n (omega arith) in
            let b = bytes_shorter (within (single n) s) in
            let l = ap (λ (j : ℕ). bytes_if (within (single n) s) (length (label (get_or names j [])))) e in
            let r =
            ap (λ (v : List ℕ). bytes_if (within (single n) s) (length (label v)))
            (ap (λ (j : ℕ). get_or (set names m w) j []) e ∙ get_or-set_same names m w [] (omega arith))
            in
            omega arith
        go (no e) ih =
            let l = ap (λ (l : ℕ). bytes_if (within (single n) s) l) (other_label n e) in
            omega arith
