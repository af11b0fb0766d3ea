-- The groups of a stand: the individuals of a set of species and the species of a set of individuals, by their members; a set of individuals lies within those of A exactly when its
-- species lie within A.
use Prim.Native.Nat.{ℕ, zero, suc, ◌+◌, ◌^◌, ◌≤◌, ◌<◌}
use mathlib.Core.Path.{◌≡◌, refl, sym, ap, ◌∙◌, subst}
use mathlib.Core.Bool.{Bool, true, false, not, true≢false}
use mathlib.Core.Logic.{◌⊎◌, inl, inr}
use mathlib.Core.List.{List, [], ◌∷◌, ◌++◌}
use native.Mathlib.Decide.{ℕ_discrete}
use native.Mathlib.Numerals.{add-one}
use native.Mathlib.Omega.{arith}
use lib.ListN.{length, get_or, take, length-take}
use lib.Seq.{take-suc}
use borrow.Author.Tests.{not-true}
use lib.Bits.{bit_and}
use Rattle.clusters.specs.Sets.{Has, Within, Apart, within, apart, has, single, union, whole}
use Rattle.clusters.proofs.Members.{has-union, union-has_left, union-has_right, has-zero, has_and, some_has, has_some, single-has, has-single, whole_has, has-below, same_members, within_of_has, has_of_within, apart_of_has, has_of_apart}
use Rattle.clusters.proofs.Sets.{union-zero, zero-union, union_assoc, apart-false, false-apart, below_of_within, single-within}
use Rattle.trees.proofs.ValidTest.{tells_within, tells_apart, tells_has}
use Rattle.weights.specs.Stand.{union_over, set_if, individuals_of, species_in, Parted}
use Rattle.weights.proofs.Joining.{tells_same}

-- ---- what the places of a list give together

module _ (give : ℕ → ℕ → ℕ) where
  -- a member comes from some place
  pub has_over : (i : ℕ) (l : List ℕ) (j : ℕ) → Has (union_over give i l) j → (k : ℕ) × (k < length l) × Has (give (i + k) (get_or l k 0)) j
  unfolding union_over
  has_over i [] j h = absurd (has-zero j h)
  has_over i (x ∷ l) j h = go (has-union (give i x) (union_over give (suc i) l) j h) (has_over (suc i) l j)
    where
      first : i ≡ i + 0
      first = omega arith

      go :
          Has (give i x) j ⊎ Has (union_over give (suc i) l) j
          → (Has (union_over give (suc i) l) j → (k : ℕ) × (k < length l) × Has (give (suc i + k) (get_or l k 0)) j)
          → (k : ℕ) × (k < length (x ∷ l)) × Has (give (i + k) (get_or (x ∷ l) k 0)) j
      go (inl p) later = (0, omega arith, subst (λ (n : ℕ). Has (give n x) j) first p)
      go (inr p) later =
          let k = later p in
          let place : suc i + k.0 ≡ i + suc k.0 = omega arith in
          (suc k.0, omega (arith, k.1), subst (λ (n : ℕ). Has (give n (get_or l k.0 0)) j) place k.2)

  -- and what a place gives is in it
  pub over_has : (i : ℕ) (l : List ℕ) (k j : ℕ) → k < length l → Has (give (i + k) (get_or l k 0)) j → Has (union_over give i l) j
  unfolding union_over
  over_has i [] k j less h = absurd (omega arith)
  over_has i (x ∷ l) zero j less h =
      let first : i + 0 ≡ i = omega arith in
      union-has_left (give i x) (union_over give (suc i) l) j (subst (λ (n : ℕ). Has (give n x) j) first h)
  over_has i (x ∷ l) (suc k) j less h =
      let place : i + suc k ≡ suc i + k = omega arith in
      union-has_right (give i x) (union_over give (suc i) l) j
      (over_has (suc i) l k j (omega arith) (subst (λ (n : ℕ). Has (give n (get_or l k 0)) j) place h))

  -- one set more at the end
  pub over_more : (i : ℕ) (l : List ℕ) (x : ℕ) → union_over give i (l ++ (x ∷ [])) ≡ union (union_over give i l) (give (i + length l) x)
  unfolding union_over
  over_more i [] x =
      let place : i ≡ i + 0 = omega arith in
      union-zero (give i x) ∙ sym (zero-union (give i x)) ∙ ap (λ (n : ℕ). union 0 (give n x)) place
  over_more i (y ∷ l) x =
      let place : suc i + length l ≡ i + suc (length l) = omega arith in
      ap (union (give i y)) (over_more (suc i) l x) ∙ sym (union_assoc (give i y) (union_over give (suc i) l) (give (suc i + length l) x))
      ∙ ap (λ (n : ℕ). union (union (give i y) (union_over give (suc i) l)) (give n x)) place

  -- the sets up to a place, and the next
  pub over_next : (l : List ℕ) (i : ℕ) → i < length l → union_over give 0 (take (i + 1) l) ≡ union (union_over give 0 (take i l)) (give i (get_or l i 0))
  over_next l i less =
      ap (λ (n : ℕ). union_over give 0 (take n l)) (add-one i) ∙ ap (union_over give 0) (take-suc l i 0 less) ∙ over_more 0 (take i l) (get_or l i 0)
      ∙ ap (λ (n : ℕ). union (union_over give 0 (take i l)) (give n (get_or l i 0))) place
    where
      place : 0 + length (take i l) ≡ i
      place = omega (arith, length-take i l)

-- ---- the individuals of a set of species

set_if_lem : {b : Bool} (x j : ℕ) → Has (set_if b x) j → (b ≡ true) × Has x j
set_if_lem {b = true} x j h = (refl, h)
set_if_lem {b = false} x j h = absurd (has-zero j h)

if_set : {b : Bool} (x j : ℕ) → b ≡ true → Has x j → Has (set_if b x) j
if_set {b = true} x j e h = h
if_set {b = false} x j e h = absurd (true≢false (sym e))

module _ (groups : List ℕ) (a : ℕ) where
  -- an individual of theirs is in the group of one of them
  pub has-individuals : (j : ℕ) → Has (individuals_of groups a) j → (i : ℕ) × (i < length groups) × Has a i × Has (get_or groups i 0) j
  unfolding individuals_of
  has-individuals j h =
      let k = has_over (λ i group. set_if (has a i) group) 0 groups j h in
      let place : 0 + k.0 ≡ k.0 = omega arith in
      let t = set_if_lem {b = has a (0 + k.0)} (get_or groups k.0 0) j k.2 in
      (k.0, k.1, subst (λ (i : ℕ). Has a i) place ((tells_has a (0 + k.0)).holds t.0), t.1)

  -- and all individuals of their groups are theirs
  pub individuals-has : (i j : ℕ) → i < length groups → Has a i → Has (get_or groups i 0) j → Has (individuals_of groups a) j
  unfolding individuals_of
  individuals-has i j less h k =
      let place : i ≡ 0 + i = omega arith in
      over_has (λ i group. set_if (has a i) group) 0 groups i j less
      (if_set {b = has a (0 + i)} (get_or groups i 0) j ((tells_has a (0 + i)).told (subst (λ (i : ℕ). Has a i) place h)) k)

-- the set of no species has none
pub individuals_of_none : (groups : List ℕ) → individuals_of groups 0 ≡ 0
individuals_of_none groups =
    same_members (individuals_of groups 0) 0 (λ j h. let k = has-individuals groups 0 j h in absurd (has-zero k.0 k.2)) (λ j h. absurd (has-zero j h))

-- a species is in A where it lies within A alone
has_within : (a i : ℕ) → has a i ≡ within (single i) a
has_within a i =
    tells_same (tells_has a i) (tells_within (single i) a) (λ h. single-within a i h) (λ w. has_of_within (single i) a i w (single-has i))

-- of no species there is none
pub individuals_none : (a : ℕ) → individuals_of [] a ≡ 0
unfolding individuals_of union_over
individuals_none a = refl

-- one species more: its group where it is in A, else nothing
module _ (groups : List ℕ) (a i : ℕ) (less : i < length groups) where
  individuals_more : individuals_of (take (i + 1) groups) a ≡ union (individuals_of (take i groups) a) (set_if (has a i) (get_or groups i 0))
  unfolding individuals_of
  individuals_more = over_next (λ i group. set_if (has a i) group) groups i less

  pub individuals-joined : within (single i) a ≡ true → individuals_of (take (i + 1) groups) a ≡ union (individuals_of (take i groups) a) (get_or groups i 0)
  individuals-joined e = individuals_more ∙ ap (λ (b : Bool). union (individuals_of (take i groups) a) (set_if b (get_or groups i 0))) (has_within a i ∙ e)

  pub individuals-passed : within (single i) a ≡ false → individuals_of (take (i + 1) groups) a ≡ individuals_of (take i groups) a
  individuals-passed e =
      individuals_more ∙ ap (λ (b : Bool). union (individuals_of (take i groups) a) (set_if b (get_or groups i 0))) (has_within a i ∙ e)
      ∙ union-zero (individuals_of (take i groups) a)

-- ---- the species of a set of individuals

module _ (groups : List ℕ) (x : ℕ) where
  -- a species of theirs has one of them in its group
  pub has-species : (i : ℕ) → Has (species_in groups x) i → (i < length groups) × (Apart (get_or groups i 0) x → ⊥)
  unfolding species_in
  has-species i h =
      let k = has_over (λ i group. set_if (not (apart group x)) (single i)) 0 groups i h in
      let t = set_if_lem {b = not (apart (get_or groups k.0 0) x)} (single (0 + k.0)) i k.2 in
      let same = has-single (0 + k.0) i t.1 in
      let place : k.0 ≡ i = omega (arith, same) in
      (omega (arith, k.1), subst (λ (i : ℕ). Apart (get_or groups i 0) x → ⊥) place (apart-false (get_or groups k.0 0) x (not-true _ t.0)))

  -- and each species with one of them in its group is theirs
  pub species-has : (i j : ℕ) → i < length groups → Has (get_or groups i 0) j → Has x j → Has (species_in groups x) i
  unfolding species_in
  species-has i j less h k =
      let place : i ≡ 0 + i = omega arith in
      over_has (λ i group. set_if (not (apart group x)) (single i)) 0 groups i i less
      (if_set {b = not (apart (get_or groups i 0) x)} (single (0 + i)) i (ap not (false-apart (get_or groups i 0) x (λ d. has_of_apart (get_or groups i 0) x j d h k)))
      (subst (λ (n : ℕ). Has (single n) i) place (single-has i)))

-- one group more: its species where it has one of them, else nothing
module _ (groups : List ℕ) (x i : ℕ) (less : i < length groups) where
  species_more : species_in (take (i + 1) groups) x ≡ union (species_in (take i groups) x) (set_if (not (apart (get_or groups i 0) x)) (single i))
  unfolding species_in
  species_more = over_next (λ i group. set_if (not (apart group x)) (single i)) groups i less

  pub species-joined : apart (get_or groups i 0) x ≡ false → species_in (take (i + 1) groups) x ≡ union (species_in (take i groups) x) (single i)
  species-joined e = species_more ∙ ap (λ (b : Bool). union (species_in (take i groups) x) (set_if (not b) (single i))) e

  pub species-passed : apart (get_or groups i 0) x ≡ true → species_in (take (i + 1) groups) x ≡ species_in (take i groups) x
  species-passed e =
      species_more ∙ ap (λ (b : Bool). union (species_in (take i groups) x) (set_if (not b) (single i))) e ∙ union-zero (species_in (take i groups) x)

pub species_none : (x : ℕ) → species_in [] x ≡ 0
unfolding species_in union_over
species_none x = refl

-- some individual of theirs is in the group of each
pub species-holds : (groups : List ℕ) (x i : ℕ) → Has (species_in groups x) i → (j : ℕ) × Has (get_or groups i 0) j × Has x j
unfolding Apart
species-holds groups x i h =
    let met = (has-species groups x i h).1 in
    let j = some_has (bit_and (get_or groups i 0) x) (omega (arith, met)) in
    let both = has_and (get_or groups i 0) x j.0 j.1 in
    (j.0, both.0, both.1)

-- no individual is of no species
pub species_of_none : (groups : List ℕ) → species_in groups 0 ≡ 0
species_of_none groups =
    same_members (species_in groups 0) 0 (λ i h. let j = species-holds groups 0 i h in absurd (has-zero j.0 j.2)) (λ i h. absurd (has-zero i h))

pub species-below : (groups : List ℕ) (x : ℕ) → species_in groups x < 2 ^ length groups
species-below groups x = below_of_within (length groups)
    (within_of_has (species_in groups x) (whole (length groups)) (λ i h. whole_has (length groups) i (has-species groups x i h).0))

-- the species of two sets together are those of both
pub species-union : (groups : List ℕ) (x y : ℕ) → species_in groups (union x y) ≡ union (species_in groups x) (species_in groups y)
species-union groups x y = same_members (species_in groups (union x y)) (union (species_in groups x) (species_in groups y)) there back
  where
    either : (i j : ℕ) → i < length groups → Has (get_or groups i 0) j → Has x j ⊎ Has y j → Has (union (species_in groups x) (species_in groups y)) i
    either i j less h (inl k) = union-has_left (species_in groups x) (species_in groups y) i (species-has groups x i j less h k)
    either i j less h (inr k) = union-has_right (species_in groups x) (species_in groups y) i (species-has groups y i j less h k)

    there : (i : ℕ) → Has (species_in groups (union x y)) i → Has (union (species_in groups x) (species_in groups y)) i
    there i h =
        let j = species-holds groups (union x y) i h in
        either i j.0 (has-species groups (union x y) i h).0 j.1 (has-union x y j.0 j.2)

    of_either : (i : ℕ) → Has (species_in groups x) i ⊎ Has (species_in groups y) i → Has (species_in groups (union x y)) i
    of_either i (inl h) =
        let j = species-holds groups x i h in
        species-has groups (union x y) i j.0 (has-species groups x i h).0 j.1 (union-has_left x y j.0 j.2)
    of_either i (inr h) =
        let j = species-holds groups y i h in
        species-has groups (union x y) i j.0 (has-species groups y i h).0 j.1 (union-has_right x y j.0 j.2)

    back : (i : ℕ) → Has (union (species_in groups x) (species_in groups y)) i → Has (species_in groups (union x y)) i
    back i h = of_either i (has-union (species_in groups x) (species_in groups y) i h)

-- a part of a set has no other species
pub species-within : (groups : List ℕ) (x y : ℕ) → Within x y → Within (species_in groups x) (species_in groups y)
species-within groups x y w =
    within_of_has (species_in groups x) (species_in groups y) (λ i h.
    let j = species-holds groups x i h in
    species-has groups y i j.0 (has-species groups x i h).0 j.1 (has_of_within x y j.0 w j.2))

-- ---- groups that part the individuals

module _ {m : ℕ} {groups : List ℕ} (parted : Parted m groups) where
  -- each individual has a species
  pub one_of : (j : ℕ) → j < m → (i : ℕ) × (i < length groups) × Has (get_or groups i 0) j
  one_of j less =
      let k = has-individuals groups (whole (length groups)) j (subst (λ (s : ℕ). Has s j) (sym parted.together) (whole_has m j less)) in
      (k.0, k.1, k.3)

  -- and no other
  pub only_one : (i k j : ℕ) → i < length groups → k < length groups → Has (get_or groups i 0) j → Has (get_or groups k 0) j → i ≡ k
  only_one i k j l l' h h' = go (ℕ_discrete i k)
    where
      go : Dec (i ≡ k) → i ≡ k
      go (yes e) = e
      go (no d) = absurd (has_of_apart (get_or groups i 0) (get_or groups k 0) j (parted.apart_two i k l l' d) h h')

  -- the individuals of any species are among the m
  pub individuals-below : (a : ℕ) → individuals_of groups a < 2 ^ m
  individuals-below a =
      below_of_within m (within_of_has (individuals_of groups a) (whole m) (λ j h.
      let k = has-individuals groups a j h in
      subst (λ (s : ℕ). Has s j) parted.together (individuals-has groups (whole (length groups)) k.0 j k.1 (whole_has (length groups) k.0 k.1) k.3)))

  -- the individuals of one species are its group
  pub individuals-single : (i : ℕ) → i < length groups → individuals_of groups (single i) ≡ get_or groups i 0
  individuals-single i less =
      same_members (individuals_of groups (single i)) (get_or groups i 0)
      (λ j h. let k = has-individuals groups (single i) j h in subst (λ (n : ℕ). Has (get_or groups n 0) j) (sym (has-single i k.0 k.2)) k.3)
      (λ j h. individuals-has groups (single i) i j less (single-has i) h)

  -- ---- a set of individuals and its species

  module _ (x : ℕ) (inside : x < 2 ^ m) where
    -- what has an individual has a species
    pub species_some : 1 ≤ x → 1 ≤ species_in groups x
    species_some some =
        let j = some_has x some in
        let i = one_of j.0 (has-below m inside j.1) in
        has_some i.0 (species-has groups x i.0 j.0 i.1 i.2 j.1)

    -- it lies within the individuals of A exactly when its species lie within A
    pub within-species : (a : ℕ) → within x (individuals_of groups a) ≡ within (species_in groups x) a
    within-species a = tells_same (tells_within x (individuals_of groups a)) (tells_within (species_in groups x) a) there back
      where
        there : Within x (individuals_of groups a) → Within (species_in groups x) a
        there w =
            within_of_has (species_in groups x) a (λ i h.
            let j = species-holds groups x i h in
            let k = has-individuals groups a j.0 (has_of_within x (individuals_of groups a) j.0 w j.2) in
            subst (λ (n : ℕ). Has a n) (only_one k.0 i j.0 k.1 (has-species groups x i h).0 k.3 j.1) k.2)

        back : Within (species_in groups x) a → Within x (individuals_of groups a)
        back w =
            within_of_has x (individuals_of groups a) (λ j h.
            let i = one_of j (has-below m inside h) in
            individuals-has groups a i.0 j i.1 (has_of_within (species_in groups x) a i.0 w (species-has groups x i.0 j i.1 i.2 h)) i.2)

    -- and is apart from them exactly when its species are apart from A
    pub apart-species : (a : ℕ) → apart x (individuals_of groups a) ≡ apart (species_in groups x) a
    apart-species a = tells_same (tells_apart x (individuals_of groups a)) (tells_apart (species_in groups x) a) there back
      where
        there : Apart x (individuals_of groups a) → Apart (species_in groups x) a
        there d =
            apart_of_has (species_in groups x) a (λ i h k.
            let j = species-holds groups x i h in
            has_of_apart x (individuals_of groups a) j.0 d j.2 (individuals-has groups a i j.0 (has-species groups x i h).0 k j.1))

        back : Apart (species_in groups x) a → Apart x (individuals_of groups a)
        back d =
            apart_of_has x (individuals_of groups a) (λ j h k.
            let i = has-individuals groups a j k in
            has_of_apart (species_in groups x) a i.0 d (species-has groups x i.0 j i.1 i.3 h) i.2)
