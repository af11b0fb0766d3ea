-- What the call that scores a species tree accepts (01, "Numbers returned": 1, 11, 12, 16, 15, and 19 of #106).
use Rattle.std.specs.Prelude.{ℕ, List}
use Rattle.clusters.specs.Sets.{whole}
use Rattle.trees.specs.Records.{SpeciesValid, BinaryOn}
use Rattle.weights.specs.declared.Rooting.{Rooting}
use Rattle.lineages.specs.InOrder.{GenesInOrder}

-- the gene trees are in order, and the species record is valid and binary
pub record Scorable (rooting : Rooting) (n : ℕ) (genes : List ℕ) (count : ℕ) (species : List ℕ) : Type 0 where
  pub in_order : GenesInOrder rooting n genes count
  pub species_valid : SpeciesValid n species
  pub species_binary : BinaryOn (whole n) species
