-- The ways to see a set: as it is, or on a stand (#110) at its species; and the sets of a list seen in place.
use Rattle.std.proofs.Common.{◌≡◌, ℕ, ◌+◌, ◌^◌, ◌<◌, ◌≤◌, List, [], ◌∷◌, ◌++◌, map, length, get_or, take, drop, set, sym, refl, ap, ap₂, ◌∙◌, subst, arith, length-set, length-take, get_or-drop, drop-set-lt}
use Rattle.std.proofs.lemmas.List.{map-append}
use Rattle.std.proofs.lemmas.List.{take_more, take_more_set, drop-drop, take_all}
use Rattle.clusters.specs.Sets.{Within, whole}
use Rattle.clusters.proofs.Sets.{within-le, whole_below, within_whole}
use Rattle.trees.specs.Records.{largest}
use Rattle.weights.specs.Stand.{species_in}
use Rattle.weights.proofs.Groups.{species-below, species-union}
use Rattle.sums.specs.Work.{Entered}

-- as many groups as species
pub first_groups : {n : ℕ} (groups : List ℕ) → n ≤ length groups → length (take n groups) ≡ n
first_groups {n} groups long = omega (arith, length-take n groups)

-- ---- ways to see a set

-- as it is
pub entered_itself : {entries : ℕ} {g : List ℕ} → largest g < entries → Entered (λ x. x) entries g
entered_itself {entries} {g} fits = record { joins = λ x y. refl; of = largest g; fits = fits; inside = λ x w. w }

-- at its species, where there is an entry for each set of these
pub entered_species : (groups : List ℕ) {entries : ℕ} {g : List ℕ} → entries ≡ 2 ^ length groups → Entered (λ x. species_in groups x) entries g
entered_species groups e = record {
  joins = species-union groups;
  of = whole (length groups);
  fits = omega (arith, whole_below (length groups));
  inside = λ x w. within_whole (length groups) (species-below groups x);
}

module _ {see : ℕ → ℕ} {entries : ℕ} {g : List ℕ} (e : Entered see entries g) where
  -- where the table is as long
  pub entered_same : {m : ℕ} → m ≡ entries → Entered see m g
  entered_same d = subst (λ (k : ℕ). Entered see k g) (sym d) e

  -- a set within the whole one has an entry
  pub seen-fits : {r : ℕ} (x : ℕ) → Within x (largest g) → r ≡ see x → r < entries
  seen-fits x w d = omega (arith, d, within-le (e.inside x w), e.fits)

-- ---- seen in place

-- the first i sets are seen, the others are as they were
pub record SeenTo (see : ℕ → ℕ) (before now : List ℕ) (i : ℕ) : Type 0 where
  pub same : length now ≡ length before
  pub done : take i now ≡ map see (take i before)
  pub left : drop i now ≡ drop i before

-- none is seen yet
pub seen_start : (see : ℕ → ℕ) (sets : List ℕ) → SeenTo see sets sets 0
seen_start see sets = record { same = refl; done = refl; left = refl }

module _ {see : ℕ → ℕ} {before now : List ℕ} {i : ℕ} (t : SeenTo see before now i) where
  -- the next is seen
  pub seen_next : {r : ℕ} → i < length before → r ≡ see (get_or now i 0) → SeenTo see before (set now i r) (i + 1)
  seen_next {r} less e = record {
    same = length-set now i r ∙ t.same;
    done =
        take_more_set now i r (omega (arith, t.same)) ∙ ap₂ (λ (k : List ℕ) (x : ℕ). k ++ (x ∷ [])) t.done (e ∙ ap see here)
        ∙ sym (map-append see (take i before) (get_or before i 0 ∷ [])) ∙ ap (map see) (sym (take_more before i 0 less));
    left = drop-set-lt (i + 1) now i r (omega arith) ∙ sym (drop-drop 1 i now) ∙ ap (drop 1) t.left ∙ drop-drop 1 i before;
  }
    where
      place : i + 0 ≡ i
      place = omega arith

      at : (l : List ℕ) → get_or (drop i l) 0 0 ≡ get_or l i 0
      at l = get_or-drop i l 0 0 ∙ ap (λ (k : ℕ). get_or l k 0) place

      here : get_or now i 0 ≡ get_or before i 0
      here = sym (at now) ∙ ap (λ (l : List ℕ). get_or l 0 0) t.left ∙ at before

  -- all are seen
  pub seen_end : length before ≤ i → now ≡ map see before
  seen_end past = sym (take_all i now (omega (arith, t.same))) ∙ t.done ∙ ap (map see) (take_all i before past)
