-- A slow engine for the sceptical (#108): what it accepts, and where the search answers otherwise.
use Rattle.std.specs.Prelude.{ℕ, ◌^◌, ◌≤◌, ◌<◌, ◌⊎◌, List, length, get_or}
use Rattle.weights.specs.declared.Rooting.{Rooting}
use Rattle.lineages.specs.InOrder.{Shaped, GenesInOrder}

-- "valid input" (#108) of the engine: at most 7 species, and what the search asks for beside its tables
pub record PlainAccepted (rooting : Rooting) (n : ℕ) (genes : List ℕ) (count : ℕ) (allowed : List ℕ) : Type 0 where
  pub few : n ≤ 7
  pub in_order : GenesInOrder rooting n genes count
  pub allowed_fits : 2 ^ n ≤ length allowed
  pub allowed_bytes : (a : ℕ) → a < 2 ^ n → get_or allowed a 0 ≤ 1

-- where the search, which takes sixteen species and is lent two tables, answers otherwise: the engine says 17; or the search says 12
-- for a table, and nothing that both judge before that is at fault
pub data Otherwise (n : ℕ) (genes : List ℕ) (count : ℕ) (allowed scores splits : List ℕ) : Type 0 where
  eight_to_sixteen : 7 < n → n ≤ 16 → Otherwise n genes count allowed scores splits
  table_too_short :
      n ≤ 7 → Shaped n genes count → 2 ^ n ≤ length allowed → (length scores < 2 ^ n) ⊎ (length splits < 2 ^ n)
      → Otherwise n genes count allowed scores splits
