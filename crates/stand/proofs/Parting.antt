-- The groups of a good mapping part the individuals, as the counting asks for it.
use Prim.Native.Nat.{ℕ, suc, ◌+◌, ◌<◌}
use mathlib.Core.Path.{◌≡◌, refl, ap, ◌∙◌, subst}
use mathlib.Core.Bool.{false, true}
use mathlib.Core.List.{List, [], ◌∷◌}
use native.Mathlib.Omega.{arith}
use lib.ListN.{length}
use Rattle.clusters.specs.Sets.{has, union, whole}
use Rattle.clusters.proofs.Members.{whole_has}
use Rattle.trees.proofs.ValidTest.{tells_has}
use Rattle.roster.specs.Roster.{names, faulty as roster_faulty}
use Rattle.mapping.specs.Mapping.{faulty}
use Rattle.mapping.specs.Groups.{union_of, groups, Parted as SetsPart}
use Rattle.mapping.proofs.Accepts.{good-parted}
use Rattle.weights.specs.Stand.{union_over, set_if, individuals_of, Parted}

-- the union of the sets whose places are in a, where all are
all_places : (a i : ℕ) (l : List ℕ) → ((k : ℕ) → k < length l → has a (i + k) ≡ true) → union_over (λ j group. set_if (has a j) group) i l ≡ union_of l
unfolding union_over union_of
all_places a i [] all = refl
all_places a i (x ∷ l) all =
    let here : has a i ≡ true = subst (λ (j : ℕ). has a j ≡ true) first (all 0 (omega arith)) in
    rw here (ap (union x) (all_places a (suc i) l (λ k less. subst (λ (j : ℕ). has a j ≡ true) (next k) (all (suc k) (omega arith)))))
  where
    first : i + 0 ≡ i
    first = omega arith

    next : (k : ℕ) → i + suc k ≡ suc i + k
    next k = omega arith

-- the individuals of all species are those of all sets together
pub all_individuals : (l : List ℕ) → individuals_of l (whole (length l)) ≡ union_of l
unfolding individuals_of
all_individuals l = all_places (whole (length l)) 0 l (λ k less. (tells_has (whole (length l)) (0 + k)).told (whole_has (length l) (0 + k) (omega arith)))

-- "Each individual has exactly one species, each species at least one individual" (#110), of two good rosters and a good mapping
pub mapped-parted : (line individuals mapping : List ℕ) → roster_faulty 16 line ≡ false → roster_faulty 32 individuals ≡ false → faulty (names line) (names individuals) mapping ≡ false
    → Parted (length (names individuals)) (groups (names line) (names individuals) mapping)
mapped-parted line individuals mapping first second good =
    let sets : SetsPart (length (names individuals)) (groups (names line) (names individuals) mapping) = (good-parted line individuals mapping first second good).1 in
    record { each_some = sets.each_some; apart_two = sets.apart_two; together = all_individuals (groups (names line) (names individuals) mapping) ∙ sets.together }
