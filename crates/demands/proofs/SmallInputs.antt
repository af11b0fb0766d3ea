-- Small inputs that are computed on, and that a machine can hand them over: a roster, two gene records on three species and two on four, allowed sets, lent tables.
use Prim.Native.Nat.{ℕ, ◌<◌}
use mathlib.Core.Path.{◌≡◌}
use mathlib.Core.Bool.{true}
use mathlib.Core.List.{List, [], ◌∷◌}
use native.Mathlib.Omega.{arith}
use lib.Dec.{ltb}
use lib.ListN.{length, replicate}
use borrow.Author.Tests.{ltb-true}
use Rattle.trees.specs.Records.{record_of}
use Rattle.trees.specs.Valid.{every}
use Rattle.search.proofs.BestTrees.{every-among}
use Rattle.demands.specs.Handed.{Slice}

-- that a slice can be handed over is seen by computing
pub slice-told : (bound : ℕ) (l : List ℕ) → every (λ x. ltb x bound) l ≡ true → length l < 65536 → Slice bound l
slice-told bound l e h = record { below = λ x m. ltb-true x bound (every-among (λ x. ltb x bound) l e x m); long = omega arith }

-- the roster `a b c`
unfoldable pub abc-line : List ℕ
abc-line = 97 ∷ 32 ∷ 98 ∷ 32 ∷ 99 ∷ []

-- the records of `((a,b),c);` and `((a,c),b);`
unfoldable pub ab_c : List ℕ
ab_c = record_of (1 ∷ 2 ∷ 3 ∷ 4 ∷ 7 ∷ [])

unfoldable pub ac_b : List ℕ
ac_b = record_of (1 ∷ 2 ∷ 4 ∷ 5 ∷ 7 ∷ [])

-- all clusters of three species allowed; none but those that always are; b and c together, too
unfoldable pub every-cluster : List ℕ
every-cluster = replicate 8 1

unfoldable pub no_cluster : List ℕ
no_cluster = replicate 8 0

unfoldable pub only_bc : List ℕ
only_bc = 0 ∷ 0 ∷ 0 ∷ 0 ∷ 0 ∷ 0 ∷ 1 ∷ 0 ∷ []

-- a lent table for them
unfoldable pub lent : List ℕ
lent = replicate 8 9

-- the records of `((a,b),(c,d));` and `((a,c),(b,d));`
unfoldable pub ab_cd : List ℕ
ab_cd = record_of (1 ∷ 2 ∷ 3 ∷ 4 ∷ 8 ∷ 12 ∷ 15 ∷ [])

unfoldable pub ac_bd : List ℕ
ac_bd = record_of (1 ∷ 2 ∷ 4 ∷ 5 ∷ 8 ∷ 10 ∷ 15 ∷ [])

-- all clusters of four species allowed, and a lent table for them
unfoldable pub every_of_four : List ℕ
every_of_four = replicate 16 1

unfoldable pub lent_of_four : List ℕ
lent_of_four = replicate 16 9
