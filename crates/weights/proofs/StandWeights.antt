-- Weights and scores on a stand (#110): they add up over lists of gene trees, in any order; what weighs nothing, that a single species may weigh more, and how large they are.
use Prim.Native.Nat.{ℕ, ◌+◌, ◌*◌, ◌≤◌, ◌<◌}
use mathlib.Core.Path.{◌≡◌, refl, sym, ap, ◌∙◌}
use mathlib.Core.List.{List, [], ◌∷◌, ◌++◌, map, map-map}
use native.Mathlib.Omega.{arith}
use lib.ListN.{length, get_or, replicate}
use lib.Count.{count_trailing_zeros}
use Rattle.clusters.specs.Sets.{has, single, union, whole, within, lowest}
use Rattle.trees.specs.Lists.{total, InAnyOrder, keep, some}
use Rattle.trees.specs.Records.{listed, Form, AllValidFor}
use Rattle.trees.specs.Valid.{every, among}
use Rattle.trees.specs.Drawn.{properly, maximal, placed, by_lowest, children}
use Rattle.weights.specs.Count.{k_of, extra, weight}
use Rattle.weights.specs.Stand.{union_over, individuals_of, Parted, stand_weight, stand_score}
use Rattle.weights.specs.Work.{AllCountableFor}
use Rattle.weights.specs.declared.Rooting.TheVariants.{Rooted}
use Rattle.weights.proofs.Groups.{individuals_of_none, individuals-single}
use Rattle.weights.proofs.Sums.{weight_append, weight-reordered, weights, weights_append, weights-reordered, weight_most, total_of_record, singles_weigh_nothing, whole_weighs_nothing, none_weigh_nothing}

-- ---- sums

-- it is the weight of the individuals
pub stand-weight : (groups : List ℕ) (genes : List (List ℕ)) (a : ℕ) → stand_weight groups genes a ≡ weight Rooted genes (individuals_of groups a)
unfolding stand_weight
stand-weight groups genes a = refl

-- the weight over two lists of gene trees is the sum of both
pub stand-weight_append :
    (groups : List ℕ) (g h : List (List ℕ)) (a : ℕ) → stand_weight groups (g ++ h) a ≡ stand_weight groups g a + stand_weight groups h a
unfolding stand_weight
stand-weight_append groups g h a = weight_append Rooted g h (individuals_of groups a)

-- and does not depend on their order
pub stand-weight-reordered : (groups : List ℕ) {l k : List (List ℕ)} (a : ℕ) → InAnyOrder l k → stand_weight groups l a ≡ stand_weight groups k a
unfolding stand_weight
stand-weight-reordered groups a o = weight-reordered Rooted (individuals_of groups a) o

-- the score is the sum of the weights of the sets of individuals
pub stand-score : (groups : List ℕ) (genes : List (List ℕ)) (species : List ℕ)
    → stand_score groups genes species ≡ weights Rooted genes (map (λ a. individuals_of groups a) (listed species))
unfolding stand_score stand_weight weights
stand-score groups genes species = ap total (sym (map-map (λ s. weight Rooted genes s) (λ a. individuals_of groups a) (listed species)))

-- over two lists of gene trees it is the sum of both
pub stand-score_append :
    (groups : List ℕ) (g h : List (List ℕ)) (species : List ℕ) → stand_score groups (g ++ h) species ≡ stand_score groups g species + stand_score groups h species
stand-score_append groups g h species =
    omega (
      arith,
      stand-score groups (g ++ h) species,
      stand-score groups g species,
      stand-score groups h species,
      weights_append Rooted g h (map (λ a. individuals_of groups a) (listed species)),
    )

-- and does not depend on their order
pub stand-score-reordered : (groups : List ℕ) {l k : List (List ℕ)} (species : List ℕ) → InAnyOrder l k → stand_score groups l species ≡ stand_score groups k species
stand-score-reordered groups {l} {k} species o =
    stand-score groups l species ∙ weights-reordered Rooted (map (λ a. individuals_of groups a) (listed species)) o ∙ sym (stand-score groups k species)

-- ---- what weighs nothing, and what may weigh more

module _ {m : ℕ} {groups : List ℕ} (parted : Parted m groups) (genes : List (List ℕ)) (few : m ≤ 32) (valid : AllValidFor 32 m genes) where
  -- all species together
  pub all_species_weigh_nothing : stand_weight groups genes (whole (length groups)) ≡ 0
  all_species_weigh_nothing =
      stand-weight groups genes (whole (length groups)) ∙ ap (weight Rooted genes) parted.together ∙ whole_weighs_nothing Rooted m genes valid

  -- no species
  pub no_species_weigh_nothing : stand_weight groups genes 0 ≡ 0
  no_species_weigh_nothing = stand-weight groups genes 0 ∙ ap (weight Rooted genes) (individuals_of_none groups) ∙ none_weigh_nothing Rooted genes few valid

  -- a single species that has one individual
  pub one_individual_weighs_nothing : (i j : ℕ) → i < length groups → get_or groups i 0 ≡ single j → stand_weight groups genes (single i) ≡ 0
  one_individual_weighs_nothing i j less one =
      stand-weight groups genes (single i) ∙ ap (weight Rooted genes) (individuals-single parted i less ∙ one) ∙ singles_weigh_nothing Rooted m j genes few valid

-- two individuals of a first species and one of a second, and the gene tree `((a1,b),a2);`
abbrev pair_and_one : List ℕ
pair_and_one = 3 ∷ 4 ∷ []

abbrev parted-pair : List ℕ
parted-pair = 5 ∷ 1 ∷ 2 ∷ 4 ∷ 5 ∷ 7 ∷ replicate 58 0

-- "A single species may weigh more than 0" (#110): the first species has two lineages
pub a_single_species_weighs_one : stand_weight pair_and_one (parted-pair ∷ []) (single 0) ≡ 1
unfolding stand_weight individuals_of union_over weight extra k_of total count_trailing_zeros has within union single lowest properly maximal placed by_lowest children keep some every among
a_single_species_weighs_one = refl

-- ---- bounds

module _ (groups : List ℕ) (genes : List (List ℕ)) (few : length genes ≤ 4096) (can : AllCountableFor 32 genes) where
  -- a gene tree on 32 individuals adds at most 31 to a weight
  pub stand-weight_most : (a : ℕ) → stand_weight groups genes a ≤ 126976
  stand-weight_most a = omega (arith, stand-weight groups genes a, weight_most Rooted genes (individuals_of groups a) few can)

  -- so inside the limits a score is at most 31 times 126,976
  pub stand-score_most : {species : List ℕ} → Form species → stand_score groups genes species ≤ 126976 * 31
  unfolding stand_score
  stand-score_most form = total_of_record (λ a. stand_weight groups genes a) 126976 stand-weight_most form
