-- The table of the numbers of trees: its rule, and that each entry is how many binary trees there are on the clusters of its size.
use Prim.Native.Nat.{ℕ, zero, suc, ◌+◌, ◌-◌, ◌*◌, ◌≤◌, ◌<◌}
use mathlib.Core.Path.{◌≡◌, refl, sym, ap, ◌∙◌}
use mathlib.Core.Bool.{Bool, true}
use mathlib.Core.List.{List, [], ◌∷◌}
use native.Mathlib.Omega.{arith}
use lib.Dec.{eqb}
use lib.ListN.{length, get_or}
use Rattle.clusters.specs.Sets.{size}
use Rattle.clusters.proofs.Sizes.{size-le, size_some}
use Rattle.trees.specs.Lists.{up_to}
use Rattle.trees.specs.Valid.{every}
use Rattle.trees.proofs.UpTo.{up_to-among}
use Rattle.trees.proofs.ValidTest.{tells_eqb, tells_every}
use Rattle.splits.specs.BinaryTrees.{trees_on}
use Rattle.splits.specs.Ties.{tree_count}
use Rattle.splits.proofs.TreeCounts.{trees-counted, tree_count-mono, tree_count-sixteen}
use Rattle.plain.specs.Numbering.{CountTable}

-- the table of the code
abbrev pub counts : List ℕ
counts =
    1 ∷ 1 ∷ 3 ∷ 15 ∷ 105 ∷ 945 ∷ 10395 ∷ 135135 ∷ 2027025 ∷ 34459425 ∷ 654729075 ∷ 13749310575 ∷ 316234143225 ∷ 7905853580625 ∷ 213458046676875
    ∷ 6190283353629375 ∷ []

-- what the entry at k has to be: 1, then the one before times the next odd number
abbrev due : ℕ → ℕ
due zero = 1
due (suc k) = get_or counts k 0 * (2 * k + 1)

abbrev right : ℕ → Bool
right k = eqb (get_or counts k 0) (due k)

-- the rule over the whole table, by one test that is computed
all_right : every right (up_to 16) ≡ true
unfolding every up_to
all_right = refl

right_at : (k : ℕ) → k < 16 → get_or counts k 0 ≡ due k
right_at k l = (tells_every right (up_to 16) (λ i. tells_eqb (get_or counts i 0) (due i))).holds all_right k (up_to-among 16 l)

pub counts-table : CountTable counts
counts-table = record { sixteen = refl; first = right_at 0 (omega arith); next = λ k l. right_at (suc k) l; ending = right_at 15 (omega arith) }

-- one proof for all sizes
pub entry-counts : {l : List ℕ} → CountTable l → (k : ℕ) → k < 16 → get_or l k 0 ≡ tree_count (suc k)
unfolding tree_count
entry-counts t zero h = t.first
entry-counts t (suc k) h = t.next k h ∙ ap (λ n. n * (2 * k + 1)) (entry-counts t k (omega arith))

-- "the number of binary trees on n species" (#108) is the table's entry for n, whatever the cluster
pub trees_in_table : {l : List ℕ} → CountTable l → (a : ℕ) → 1 ≤ a → a < 65536 → get_or l (size a - 1) 0 ≡ length (trees_on a)
trees_in_table t a some few =
    let n : suc (size a - 1) ≡ size a = omega (arith, size_some some) in
    entry-counts t (size a - 1) (omega (arith, size_some some, size-le {a = a} 16 few)) ∙ ap tree_count n ∙ sym (trees-counted a (omega arith))

-- no cluster has more trees than all sixteen species
pub trees_few : (a : ℕ) → a < 65536 → length (trees_on a) ≤ 6190283353629375
trees_few a few = omega (arith, trees-counted a (omega arith), tree_count-mono (size a) 16 (size-le {a = a} 16 few), tree_count-sixteen)
