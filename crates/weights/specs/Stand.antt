-- The count on a stand (#110): several individuals of a species, gene trees on individuals, and the weight of a set of species.
use Rattle.std.specs.Prelude.{ℕ, suc, ◌≤◌, ◌<◌, ◌≡◌, Bool, true, false, not, List, [], ◌∷◌, map, length, get_or}
use Rattle.clusters.specs.Sets.{Apart, apart, has, single, union, whole, size}
use Rattle.trees.specs.Lists.{Among, total}
use Rattle.trees.specs.Records.{listed, record_for}
use Rattle.weights.specs.Count.{weight}
use Rattle.weights.specs.declared.Rooting.TheVariants.{Rooted}

-- the union of what each set of a list gives by its place, where the first place is i
unfoldable pub union_over : (ℕ → ℕ → ℕ) → ℕ → List ℕ → ℕ
union_over give i [] = 0
union_over give i (x ∷ l) = union (give i x) (union_over give (suc i) l)

-- a set where a test holds, else the set of none
abbrev pub set_if : Bool → ℕ → ℕ
set_if true x = x
set_if false x = 0

-- "the set of all individuals of A's species" (#110): a stand's groups are the sets of individuals of its species, in roster order
unfoldable pub individuals_of : List ℕ → ℕ → ℕ
unfolding union_over
individuals_of groups a = union_over (λ i group. set_if (has a i) group) 0 groups

-- the other way round: the species that have an individual in x
unfoldable pub species_in : List ℕ → ℕ → ℕ
unfolding union_over
species_in groups x = union_over (λ i group. set_if (not (apart group x)) (single i)) 0 groups

-- the groups of m individuals: "Each individual has exactly one species, each species at least one individual" (#110)
pub record Parted (m : ℕ) (groups : List ℕ) : Type 0 where
  pub each_some : (group : ℕ) → Among group groups → 1 ≤ group
  pub apart_two : (i j : ℕ) → i < length groups → j < length groups → (i ≡ j → ⊥) → Apart (get_or groups i 0) (get_or groups j 0)
  pub together : individuals_of groups (whole (length groups)) ≡ whole m

-- "A's weight is #104's count taken on the set of all individuals of A's species" (#110); "Gene trees are rooted"
unfoldable pub stand_weight : List ℕ → List (List ℕ) → ℕ → ℕ
stand_weight groups genes a = weight Rooted genes (individuals_of groups a)

-- the sum of the weights of all clusters of a species tree, of single species too: "A single species may weigh more than 0, which counts in the score" (#110)
unfoldable pub stand_score : List ℕ → List (List ℕ) → List ℕ → ℕ
unfolding stand_weight total
stand_score groups genes species = total (map (λ a. stand_weight groups genes a) (listed species))

-- "With one individual each" (#110): every group has one member
abbrev pub OneEach : List ℕ → Type 0
OneEach groups = (group : ℕ) → Among group groups → size group ≡ 1

-- a gene record on species as the wide one on individuals: each cluster is the set of its species' individuals
unfoldable pub on_individuals : List ℕ → List ℕ → List ℕ
unfolding individuals_of
on_individuals groups g = record_for 32 (map (λ x. individuals_of groups x) (listed g))
