-- How many trees are as good as the best one, and how many trees there are.
use Rattle.std.specs.Prelude.{ℕ, zero, suc, ◌+◌, ◌*◌, Bool, length}
use Rattle.splits.specs.Least.{trees_over, least_trees}

-- "how many binary trees over the allowed clusters reach the least score", "equal to the length of the list of all such trees, each taken once" (#111)
unfoldable pub tie_entry : (ℕ → ℕ) → (ℕ → Bool) → ℕ → ℕ
tie_entry w ok a = length (least_trees w (trees_over ok a))

-- "The number of binary trees on n species is 1 for n = 1 and 2 and then the product of the odd numbers up to 2n - 3" (#108); none on no species
unfoldable pub tree_count : ℕ → ℕ
tree_count zero = 0
tree_count (suc zero) = 1
tree_count (suc (suc n)) = tree_count (suc n) * (2 * n + 1)
