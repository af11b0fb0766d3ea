-- The weights of all sets of species on a stand by sums over subsets (#110): a set of individuals lies within those of A where its species lie within A, so the sets of individuals that are
-- counted and taken off are taken to their species.
use Prim.Native.Nat.{ℕ, ◌^◌, ◌≤◌, ◌<◌}
use mathlib.Core.Path.{◌≡◌, refl, sym, ap, ◌∙◌, subst}
use mathlib.Core.List.Memᴰ
use mathlib.Core.List.{List, [], ◌∷◌, ◌++◌, map, map-map, map-append}
use native.Mathlib.Omega.{arith}
use lib.ListN.{length, length-map}
use Rattle.clusters.specs.Sets.{within, apart}
use Rattle.trees.specs.Lists.{Among}
use Rattle.trees.specs.Records.{largest, AllValidFor}
use Rattle.trees.proofs.GeneRecords.{gene-small}
use Rattle.weights.specs.Stand.{individuals_of, species_in, Parted, stand_weight}
use Rattle.weights.specs.Subsets.{many, gathered, plus_by, minus_by, plus_all, minus_all, whole_sets, taken}
use Rattle.weights.specs.declared.Rooting.TheVariants.{Rooted}
use Rattle.weights.proofs.Groups.{species-below, within-species, apart-species}
use Rattle.weights.proofs.StandWeights.{stand-weight, no_species_weigh_nothing, stand-weight_most}
use Rattle.weights.proofs.Sums.{valid-countable}
use Rattle.weights.proofs.SumOfLists.{many_mapped, many_same}
use Rattle.weights.proofs.SumOfRooted.{plus_rooted_of, minus_rooted_of}
use Rattle.weights.proofs.SumOfWeights.{Summed, rooted-extra, weight-sum, gathered-below, whole_sets_below}

module _ {m : ℕ} {groups : List ℕ} (parted : Parted m groups) where
  -- of a list of sets of individuals as many lie within those of A as of their species lie within A
  many_within : (a : ℕ) (l : List ℕ) → ((x : ℕ) → Among x l → x < 2 ^ m) → many (λ x. within x (individuals_of groups a)) l ≡ many (λ x. within x a) (taken groups l)
  many_within a l below =
      many_same (λ x. within x (individuals_of groups a)) (λ x. within (species_in groups x) a) l (λ x h. within-species parted x (below x h) a)
      ∙ sym (many_mapped (λ x. within x a) (λ x. species_in groups x) l)

  many_apart : (a : ℕ) (l : List ℕ) → ((x : ℕ) → Among x l → x < 2 ^ m) → many (λ x. apart x (individuals_of groups a)) l ≡ many (λ x. apart x a) (taken groups l)
  many_apart a l below =
      many_same (λ x. apart x (individuals_of groups a)) (λ x. apart (species_in groups x) a) l (λ x h. apart-species parted x (below x h) a)
      ∙ sym (many_mapped (λ x. apart x a) (λ x. species_in groups x) l)

-- sets of species are sets of the stand's species
pub taken-below : (groups l : List ℕ) (x : ℕ) → Among x (taken groups l) → x < 2 ^ length groups
taken-below groups l x h = let y = Memᴰ.of_map (λ x. species_in groups x) l h in subst (λ (z : ℕ). z < 2 ^ length groups) y.2 (species-below groups y.0)

-- what is gathered and then taken to species is gathered so
pub taken-gathered : {A : Type 0} (groups : List ℕ) (give : A → List ℕ) (l : List A) → gathered (λ x. taken groups (give x)) l ≡ taken groups (gathered give l)
unfolding gathered
taken-gathered groups give [] = refl
taken-gathered groups give (x ∷ l) =
    ap (λ (k : List ℕ). taken groups (give x) ++ k) (taken-gathered groups give l) ∙ sym (map-append (λ x. species_in groups x) (give x) (gathered give l))

-- the species of the whole sets are the whole sets taken to their species
pub taken_wholes : (groups : List ℕ) (genes : List (List ℕ)) → map (λ g. species_in groups (largest g)) genes ≡ taken groups (whole_sets genes)
taken_wholes groups genes = sym (map-map (λ x. species_in groups x) largest genes)

-- the sets counted and taken off and the whole sets of the gene trees, taken to their species, tell the weights on the stand
pub stand_summed :
    {m : ℕ} {groups : List ℕ} (genes : List (List ℕ)) → Parted m groups → m ≤ 32 → AllValidFor 32 m genes → length genes ≤ 4096
    → Summed (length groups) (taken groups (plus_all Rooted genes)) (taken groups (minus_all Rooted genes)) (taken groups (whole_sets genes)) (λ a. stand_weight groups genes a)
stand_summed {m} {groups} genes parted few valid limit = record {
  plus_below = taken-below groups (plus_all Rooted genes);
  minus_below = taken-below groups (minus_all Rooted genes);
  wholes_below = taken-below groups (whole_sets genes);
  none = no_species_weigh_nothing parted genes few valid;
  small = λ a. omega (arith, stand-weight_most groups genes limit (valid-countable few valid) a);
  sum = λ a some below.
      omega (
        arith,
        stand-weight groups genes a,
        length-map (whole_sets genes) (λ x. species_in groups x),
        length-map genes largest,
        weight-sum Rooted genes (individuals_of groups a) (λ g h. rooted-extra few (valid g h) (individuals_of groups a)),
        many_within parted a (minus_all Rooted genes) (gathered-below (λ g. minus_by Rooted g) genes valid (λ g h. minus_rooted_of (valid g h).valid (gene-small few (valid g h)))),
        many_within parted a (plus_all Rooted genes) (gathered-below (λ g. plus_by Rooted g) genes valid (λ g h. plus_rooted_of (valid g h).valid (gene-small few (valid g h)))),
        many_apart parted a (whole_sets genes) (whole_sets_below genes valid),
      );
}
