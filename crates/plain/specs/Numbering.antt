-- The trees on a cluster by their numbers, and the table that says how many they are (#108).
use Rattle.std.specs.Prelude.{ℕ, suc, ◌+◌, ◌*◌, ◌<◌, ◌≡◌, List, map, length, get_or}
use Rattle.trees.specs.Lists.{up_to}
use Rattle.splits.specs.BinaryTrees.{Binary, trees_on}
use Rattle.splits.specs.BinaryTrees.Binary.{tip}
use Rattle.splits.specs.WellFormed.{TreeOn}
use Rattle.splits.specs.Order.{Earlier}

-- the tree of a number on a: "goes through all binary trees in 01's order" (#108), so it stands at that place of the list of all, counted from 0
unfoldable pub tree_of : ℕ → ℕ → Binary
tree_of a i = get_or (trees_on a) i (tip a)

-- of the numbers below n exactly one is that of t on a: "each once" (#108)
pub record NumberOf (a n : ℕ) (t : Binary) : Type 0 where
  pub number : ℕ
  pub below : number < n
  pub drawn : tree_of a number ≡ t
  pub only : (i : ℕ) → i < n → tree_of a i ≡ t → i ≡ number

-- "the trees visited are all binary trees on the roster, each once, as many as the table says" (#108), and in 01's order: a is the roster's set, n the table's entry
pub record Visits (a n : ℕ) : Type 0 where
  pub on : (i : ℕ) → i < n → TreeOn a (tree_of a i)
  pub every : (t : Binary) → TreeOn a t → NumberOf a n t
  pub rising : (i j : ℕ) → i < j → j < n → Earlier (tree_of a i) (tree_of a j)
  pub listed : map (λ i. tree_of a i) (up_to n) ≡ trees_on a

-- "1 for n = 1 and 2 and then the product of the odd numbers up to 2n - 3; the team keeps these as a table for n up to 16, ending in 6,190,283,353,629,375" (#108):
-- the entry for n species stands at n - 1, and each is the one before times the next odd number
pub record CountTable (l : List ℕ) : Type 0 where
  pub sixteen : length l ≡ 16
  pub first : get_or l 0 0 ≡ 1
  pub next : (k : ℕ) → suc k < 16 → get_or l (suc k) 0 ≡ get_or l k 0 * (2 * k + 1)
  pub ending : get_or l 15 0 ≡ 6190283353629375
