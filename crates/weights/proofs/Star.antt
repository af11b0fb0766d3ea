-- What 01's count and that of #101 charge a star on four species, computed.
use Prim.Native.Nat.{ℕ, ◌-◌}
use mathlib.Core.Path.{◌≡◌, refl}
use mathlib.Core.List.{List, [], ◌∷◌, map}
use lib.Count.{count_trailing_zeros}
use Rattle.clusters.specs.Sets.{within, lowest}
use Rattle.trees.specs.Drawn.{properly, maximal, placed, by_lowest, children}
use Rattle.trees.specs.Lists.{keep, some, total}
use Rattle.trees.specs.Valid.{every, among}
use Rattle.weights.specs.Count.{k_drawn, k_of}

-- the clusters of `(a,b,c,d);`, `((a,b),(c,d));` and `(((a,b),c),d);`
abbrev star : List ℕ
star = 1 ∷ 2 ∷ 4 ∷ 8 ∷ 15 ∷ []

abbrev two_pairs : List ℕ
two_pairs = 1 ∷ 2 ∷ 3 ∷ 4 ∷ 8 ∷ 12 ∷ 15 ∷ []

abbrev comb : List ℕ
comb = 1 ∷ 2 ∷ 3 ∷ 4 ∷ 7 ∷ 8 ∷ 15 ∷ []

-- "yet 01 charges a star on four species 2 or 3" (#101)
pub charged_by_01 : (total (map (λ (a : ℕ). k_drawn star a - 1) two_pairs) ≡ 2) × (total (map (λ (a : ℕ). k_drawn star a - 1) comb) ≡ 3)
unfolding k_drawn total within properly maximal keep some
charged_by_01 = (refl, refl)

-- and #101 nothing
pub charged_nothing : (total (map (λ (a : ℕ). k_of star a - 1) two_pairs) ≡ 0) × (total (map (λ (a : ℕ). k_of star a - 1) comb) ≡ 0)
unfolding k_of total count_trailing_zeros within lowest properly maximal placed by_lowest children keep some every among
charged_nothing = (refl, refl)
