-- The individuals that are named before a place, all of them and those of one line.
use Prim.Native.Nat.{ℕ, zero, suc, ◌+◌, ◌-◌, ◌≤◌, ◌<◌}
use native.Mathlib.Nat.{add-zero}
use native.Mathlib.Omega.{arith}
use mathlib.Core.Path.{◌≡◌, refl, sym, ap, ◌∙◌}
use mathlib.Core.Bool.{Bool, true, false}
use mathlib.Core.List.{List, [], ◌∷◌, ◌++◌, map, append-nil, map-append}
use lib.Dec.{eqb}
use borrow.Author.Tests.{eq-eqb, ne_eqb}
use Rattle.trees.specs.Lists.{keep, up_to}
use Rattle.trees.proofs.Listing.{keep_append}
use Rattle.mapping.specs.Mapping.{line_begins, member_at, line_at, members, who_at, named, named_in}
use Rattle.mapping.proofs.Marks.{line_more, line_grows}

-- no individual's label begins in the n bytes from p on
abbrev pub NoMember : List ℕ → ℕ → ℕ → Type 0
NoMember text p n = (q : ℕ) → p ≤ q → q < p + n → member_at text q ≡ false

module _ (text : List ℕ) where
  members_more : (p : ℕ) → member_at text p ≡ true → members text (suc p) ≡ members text p ++ (p ∷ [])
  unfolding members up_to keep
  members_more p e = rw (keep_append (member_at text) (up_to p) (p ∷ []), e)

  members_same : (p : ℕ) → member_at text p ≡ false → members text (suc p) ≡ members text p
  unfolding members up_to keep
  members_same p e = rw (keep_append (member_at text) (up_to p) (p ∷ []), e) (append-nil (keep (member_at text) (up_to p)))

  members_still : (n p : ℕ) → NoMember text p n → members text (p + n) ≡ members text p
  members_still zero p none = rw (add-zero p)
  members_still (suc n) p none =
      let e : p + suc n ≡ suc (p + n) = omega arith in
      ap (members text) e ∙ members_same (p + n) (none (p + n) (omega arith) (omega arith)) ∙ members_still n p (λ q l h. none q l (omega arith))

module _ (individuals : List (List ℕ)) (text : List ℕ) where
  pub named_none : named individuals text 0 ≡ []
  unfolding named members up_to keep
  named_none = refl

  pub named_still : (n p : ℕ) → NoMember text p n → named individuals text (p + n) ≡ named individuals text p
  unfolding named
  named_still n p none = ap (map (who_at individuals text)) (members_still text n p none)

  pub in_still : (line n p : ℕ) → NoMember text p n → named_in individuals text line (p + n) ≡ named_in individuals text line p
  unfolding named_in
  in_still line n p none = ap (λ (l : List ℕ). map (who_at individuals text) (keep (λ q. eqb (line_at text q) line) l)) (members_still text n p none)

  -- one more, where an individual's label begins
  pub named_more : (p : ℕ) → member_at text p ≡ true → named individuals text (suc p) ≡ named individuals text p ++ (who_at individuals text p ∷ [])
  unfolding named
  named_more p e = ap (map (who_at individuals text)) (members_more text p e) ∙ map-append (who_at individuals text) (members text p) (p ∷ [])

  in_by : (t : Bool) (line p : ℕ) → member_at text p ≡ true → eqb (line_at text p) line ≡ t
      → named_in individuals text line (suc p) ≡ named_in individuals text line p ++ map (who_at individuals text) (keep (λ q. eqb (line_at text q) line) (p ∷ []))
  unfolding named_in
  in_by t line p e f =
      ap (λ (l : List ℕ). map (who_at individuals text) (keep (λ q. eqb (line_at text q) line) l)) (members_more text p e)
      ∙ ap (map (who_at individuals text)) (keep_append (λ q. eqb (line_at text q) line) (members text p) (p ∷ []))
      ∙ map-append (who_at individuals text) (keep (λ q. eqb (line_at text q) line) (members text p)) (keep (λ q. eqb (line_at text q) line) (p ∷ []))

  pub in_more : (p : ℕ) → member_at text p ≡ true → named_in individuals text (line_at text p) (suc p) ≡ named_in individuals text (line_at text p) p ++ (who_at individuals text p ∷ [])
  unfolding keep
  in_more p e = in_by true (line_at text p) p e (eq-eqb (line_at text p) (line_at text p) refl) ∙ rw (eq-eqb (line_at text p) (line_at text p) refl)

  in_other : (line p : ℕ) → member_at text p ≡ true → (line_at text p ≡ line → ⊥) → named_in individuals text line (suc p) ≡ named_in individuals text line p
  unfolding keep
  in_other line p e n =
      in_by false line p e (ne_eqb (line_at text p) line n) ∙ rw (ne_eqb (line_at text p) line n) (append-nil (named_in individuals text line p))

  in_same : (line p : ℕ) → member_at text p ≡ false → named_in individuals text line (suc p) ≡ named_in individuals text line p
  unfolding named_in
  in_same line p e = ap (λ (l : List ℕ). map (who_at individuals text) (keep (λ q. eqb (line_at text q) line) l)) (members_same text p e)

  -- a place of another line adds none to this one
  in_elsewhere : (line p : ℕ) → (line_at text p ≡ line → ⊥) → named_in individuals text line (suc p) ≡ named_in individuals text line p
  in_elsewhere line p n = by (member_at text p) refl
    where
      by : (t : Bool) → member_at text p ≡ t → named_in individuals text line (suc p) ≡ named_in individuals text line p
      by true e = in_other line p e n
      by false e = in_same line p e

  -- a line that is over keeps its individuals
  in_over_by : (line k p : ℕ) → line < line_at text p → named_in individuals text line (p + k) ≡ named_in individuals text line p
  in_over_by line zero p h = rw (add-zero p)
  in_over_by line (suc k) p h =
      let e : p + suc k ≡ suc (p + k) = omega arith in
      let g = line_grows text p (p + k) (omega arith) in
      ap (named_in individuals text line) e ∙ in_elsewhere line (p + k) (λ s. absurd (omega arith)) ∙ in_over_by line k p h

  pub in_over : (line p q : ℕ) → p ≤ q → line < line_at text p → named_in individuals text line q ≡ named_in individuals text line p
  in_over line p q l h = let e : p + (q - p) ≡ q = omega arith in ap (named_in individuals text line) (sym e) ∙ in_over_by line (q - p) p h

  -- a line that has not begun has none
  in_later : (line p : ℕ) → ((q : ℕ) → q < p → line_at text q < line) → named_in individuals text line p ≡ []
  unfolding named_in members up_to keep
  in_later line zero before = refl
  in_later line (suc p) before =
      let h = before p (omega arith) in
      in_elsewhere line p (λ s. absurd (omega arith)) ∙ in_later line p (λ q l. before q (omega arith))

  pub in_none : (p : ℕ) → line_begins text p ≡ true → named_in individuals text (line_at text p) p ≡ []
  unfolding named_in members up_to keep
  in_none zero e = refl
  in_none (suc p) e =
      let m = line_more text p e in
      in_later (line_at text (suc p)) (suc p) (λ q l. let g = line_grows text q p (omega arith) in omega arith)
