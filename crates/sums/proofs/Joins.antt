-- The unions of some sets of a list with what is joined already, made one set after the other.
use Rattle.std.proofs.Common.{◌≡◌, ℕ, ◌+◌, ◌<◌, Bool, true, false, not, eqb, List, [], ◌∷◌, ◌++◌, map, length, sym, refl, ap, ◌∙◌, subst, arith}
use Rattle.std.proofs.lemmas.List.{nil_from_length}
use mathlib.Core.List.Memᴰ.{head as here}
use mathlib.Core.List.Memᴰ.{tail as there}
use Rattle.clusters.specs.Sets.{Within, union}
use Rattle.clusters.proofs.Sets.{within-le, union-within, union_comm, union_assoc, union_of_within}
use Rattle.weights.specs.Subsets.{many, often, odds, evens}
use Rattle.weights.proofs.SumOfLists.{many_cons, many_same}
use Rattle.weights.proofs.SumOfUnions.{many_odds, many_evens}
use Rattle.sums.specs.Work.{either, Changed, Parts}
use Rattle.sums.proofs.Changes.{often_none, often_both, often-map, changed_none, changed_both, changed_as}

-- ---- the sets have entries

module _ {entries joined c : ℕ} {l : List ℕ} (p : Parts entries joined (c ∷ l)) where
  within_of : Within (union joined c) p.of
  within_of = union-within joined c p.of p.joined_in (p.each_in c (here refl))

  -- the next set joined
  joined-part : Parts entries (union joined c) l
  joined-part = record {
    of = p.of;
    fits = p.fits;
    joined_in = within_of;
    each_in = λ x m. p.each_in x (there m);
  }

  -- or passed over
  passed-part : Parts entries joined l
  passed-part = record { of = p.of; fits = p.fits; joined_in = p.joined_in; each_in = λ x m. p.each_in x (there m) }

  joined-fits : union joined c < entries
  joined-fits = omega (arith, within-le within_of, p.fits)

-- what is joined has an entry
pub joined-below : {entries joined : ℕ} {l : List ℕ} → Parts entries joined l → joined < entries
joined-below p = omega (arith, within-le p.joined_in, p.fits)

-- ---- what is joined

often-twice : (z j c : ℕ) (l : List ℕ) → often z (map (λ x. union (union j c) x) l) ≡ many (λ x. eqb z (union j (union c x))) l
often-twice z j c l =
    often-map z (λ x. union (union j c) x) l
    ∙ many_same (λ x. eqb z (union (union j c) x)) (λ x. eqb z (union j (union c x))) l (λ x m. ap (λ (y : ℕ). eqb z y) (union_assoc j c x))

module _ (z j c : ℕ) (l : List ℕ) where
  -- with one set more in front: it, those with it of an even number, and those without it
  odd-parted :
      often z (map (λ x. union j x) (odds (c ∷ l)))
      ≡ often z (union j c ∷ []) + often z (map (λ x. union (union j c) x) (evens l)) + often z (map (λ x. union j x) (odds l))
  odd-parted =
      omega (
        arith,
        often-map z (λ x. union j x) (odds (c ∷ l)),
        many_odds (λ x. eqb z (union j x)) c l,
        many_cons (λ y. eqb z y) (union j c) [],
        often_none z,
        often-twice z j c (evens l),
        often-map z (λ x. union j x) (odds l),
      )

  even-parted :
      often z (map (λ x. union j x) (evens (c ∷ l)))
      ≡ often z (map (λ x. union (union j c) x) (odds l)) + often z (map (λ x. union j x) (evens l))
  even-parted =
      omega (
        arith,
        often-map z (λ x. union j x) (evens (c ∷ l)),
        many_evens (λ x. eqb z (union j x)) c l,
        often-twice z j c (odds l),
        often-map z (λ x. union j x) (evens l),
      )

-- ---- the recursion

-- the changes for a list, where those of an odd number count, or those of an even number
abbrev pub Joins : Bool → ℕ → List ℕ → List ℕ → List ℕ → Type 0
Joins odd j l f g = Changed (map (λ x. union j x) (either odd (odds l) (evens l))) (map (λ x. union j x) (either odd (evens l) (odds l))) f g

-- of no sets there is no union
joins_none : (odd : Bool) (j : ℕ) (f : List ℕ) → Joins odd j [] f f
unfolding odds evens
joins_none true j f = changed_none f
joins_none false j f = changed_none f

-- the next set alone, the unions with it, which are of the other kind, and those without it
joins_next :
    (odd : Bool) (j c : ℕ) (l : List ℕ) {f g h k : List ℕ} → Changed (either odd (union j c ∷ []) []) (either odd [] (union j c ∷ [])) f g
    → Joins (not odd) (union j c) l g h → Joins odd j l h k → Joins odd j (c ∷ l) f k
joins_next true j c l one with_it without =
    changed_as (changed_both (changed_both one with_it) without)
    (λ z.
    omega (
      arith,
      often_both z ((union j c ∷ []) ++ map (λ x. union (union j c) x) (evens l)) (map (λ x. union j x) (odds l)),
      often_both z (union j c ∷ []) (map (λ x. union (union j c) x) (evens l)),
      often_both z ([] ++ map (λ x. union (union j c) x) (odds l)) (map (λ x. union j x) (evens l)),
      odd-parted z j c l,
      even-parted z j c l,
    ))
joins_next false j c l one with_it without =
    changed_as (changed_both (changed_both one with_it) without)
    (λ z.
    omega (
      arith,
      often_both z ((union j c ∷ []) ++ map (λ x. union (union j c) x) (evens l)) (map (λ x. union j x) (odds l)),
      often_both z (union j c ∷ []) (map (λ x. union (union j c) x) (evens l)),
      often_both z ([] ++ map (λ x. union (union j c) x) (odds l)) (map (λ x. union j x) (evens l)),
      odd-parted z j c l,
      even-parted z j c l,
    ))

-- a set that lies within what is joined: of the unions with it and those without it all cancel, but for what is joined itself
joins-held :
    (odd : Bool) (j c : ℕ) (l : List ℕ) {f g : List ℕ} → Within c j → Changed (either odd (j ∷ []) []) (either odd [] (j ∷ [])) f g → Joins odd j (c ∷ l) f g
joins-held odd j c l {f} {g} w one = go odd one
  where
    same : union j c ≡ j
    same = union_comm j c ∙ union_of_within c w

    odd-held : (z : ℕ) → often z (map (λ x. union j x) (odds (c ∷ l))) ≡ often z (j ∷ []) + often z (map (λ x. union j x) (evens l)) + often z (map (λ x. union j x) (odds l))
    odd-held z =
        odd-parted z j c l
        ∙ ap (λ (k : ℕ). often z (k ∷ []) + often z (map (λ x. union k x) (evens l)) + often z (map (λ x. union j x) (odds l))) same

    even-held : (z : ℕ) → often z (map (λ x. union j x) (evens (c ∷ l))) ≡ often z (map (λ x. union j x) (odds l)) + often z (map (λ x. union j x) (evens l))
    even-held z = even-parted z j c l ∙ ap (λ (k : ℕ). often z (map (λ x. union k x) (odds l)) + often z (map (λ x. union j x) (evens l))) same

    go : (odd : Bool) → Changed (either odd (j ∷ []) []) (either odd [] (j ∷ [])) f g → Joins odd j (c ∷ l) f g
    go true d = changed_as d (λ z. omega (arith, odd-held z, even-held z, often_none z))
    go false d = changed_as d (λ z. omega (arith, odd-held z, even-held z, often_none z))

-- ---- the sets, the first of them and the rest

-- of no sets there is nothing
pub joins_end : (sets : List ℕ) (odd : Bool) (j : ℕ) (f : List ℕ) → length sets ≡ 0 → Joins odd j sets f f
joins_end sets odd j f none = subst (λ (l : List ℕ). Joins odd j l f f) (sym (nil_from_length sets none)) (joins_none odd j f)

module _ {sets : List ℕ} {c : ℕ} {l : List ℕ} (here_and_on : sets ≡ c ∷ l) where
  parts_here : {entries j : ℕ} → Parts entries j sets → Parts entries j (c ∷ l)
  parts_here {entries} {j} p = subst (λ (k : List ℕ). Parts entries j k) here_and_on p

  -- the first alone, the unions with it and those without it are all
  pub joins_here :
      (odd : Bool) (j : ℕ) {more : ℕ} {f g h k : List ℕ} → more ≡ union j c → Changed (either odd (more ∷ []) []) (either odd [] (more ∷ [])) f g
      → Joins (not odd) more l g h → Joins odd j l h k → Joins odd j sets f k
  joins_here odd j {more} {f} {g} {h} {k} e one with_it without =
      subst (λ (r : List ℕ). Joins odd j r f k) (sym here_and_on)
      (joins_next odd j c l (subst (λ (x : ℕ). Changed (either odd (x ∷ []) []) (either odd [] (x ∷ [])) f g) e one)
      (subst (λ (x : ℕ). Joins (not odd) x l g h) e with_it) without)

  -- where the first lies within what is joined
  pub joins-held_here :
      (odd : Bool) (j : ℕ) {f g : List ℕ} → Within c j → Changed (either odd (j ∷ []) []) (either odd [] (j ∷ [])) f g → Joins odd j sets f g
  joins-held_here odd j {f} {g} w one = subst (λ (r : List ℕ). Joins odd j r f g) (sym here_and_on) (joins-held odd j c l w one)

  -- with what is joined it has an entry
  pub fits_here : {entries j : ℕ} → Parts entries j sets → union j c < entries
  fits_here p = joined-fits (parts_here p)

  -- a table as long as before, with the first joined
  pub joined_here : {entries entries' j more : ℕ} → Parts entries j sets → entries' ≡ entries → more ≡ union j c → Parts entries' more l
  joined_here p e d = rw (e, d) (joined-part (parts_here p))

  -- or passed over
  pub passed_here : {entries entries' j : ℕ} → Parts entries j sets → entries' ≡ entries → Parts entries' j l
  passed_here p e = rw e (passed-part (parts_here p))
