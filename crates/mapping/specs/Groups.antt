-- The sets of individuals that a good mapping gives (02, #110): species, and the individuals of each, as numbers.
use Rattle.std.specs.Prelude.{ℕ, ◌≤◌, ◌<◌, ◌≡◌, List, [], ◌∷◌, map, length, get_or}
use Rattle.clusters.specs.Sets.{Apart, whole, single, union}
use Rattle.trees.specs.Lists.{Among, up_to}
use Rattle.mapping.specs.Mapping.{named_in}

-- the sets of a list together
unfoldable pub union_of : List ℕ → ℕ
union_of [] = 0
union_of (g ∷ l) = union g (union_of l)

-- the set of the individuals of a list
unfoldable pub set_of : List ℕ → ℕ
set_of l = union_of (map single l)

-- "one line per species in roster order: the species name, a colon, its individuals" (#110): the i-th species has the individuals that are named in the i-th line
unfoldable pub groups : List (List ℕ) → List (List ℕ) → List ℕ → List ℕ
groups species individuals text = map (λ i. set_of (named_in individuals text i (length text))) (up_to (length species))

-- sets of m individuals: "Each individual has exactly one species, each species at least one individual" (#110)
pub record Parted (m : ℕ) (groups : List ℕ) : Type 0 where
  pub each_some : (group : ℕ) → Among group groups → 1 ≤ group
  pub apart_two : (i j : ℕ) → i < length groups → j < length groups → (i ≡ j → ⊥) → Apart (get_or groups i 0) (get_or groups j 0)
  pub together : union_of groups ≡ whole m
