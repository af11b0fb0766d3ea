-- What every call on gene records asks for (01, "The work and its borders", "Numbers returned").
use Rattle.std.specs.Prelude.{ℕ, ◌*◌, ◌≤◌, ◌≡◌, true, length}
use mathlib.Core.List.{List, Memᴰ}
use Rattle.trees.specs.Records.{records_in, AllValid}
use Rattle.trees.specs.Unrooted.{may_unroot}
use Rattle.weights.specs.declared.Rooting.{Rooting}
use Rattle.weights.specs.declared.Rooting.TheVariants.{Unrooted}

-- "species n | 1 to 16", "gene trees | 1 to 4,096", and not "fewer than 32 entries for each record counted"
pub record Shaped (n : ℕ) (genes : List ℕ) (count : ℕ) : Type 0 where
  pub some_species : 1 ≤ n
  pub few_species : n ≤ 16
  pub some_genes : 1 ≤ count
  pub few_genes : count ≤ 4096
  pub fits : 32 * count ≤ length genes

-- and each record is valid; "Only complete trees enter, binary save that the root may have three children" (#106), where they are counted without a root
pub record GenesInOrder (rooting : Rooting) (n : ℕ) (genes : List ℕ) (count : ℕ) : Type 0 where
  pub shaped : Shaped n genes count
  pub valid : AllValid n (records_in count genes)
  pub enter : rooting ≡ Unrooted → (g : List ℕ) → Memᴰ g (records_in count genes) → may_unroot n g ≡ true
