-- What the calls that write, weigh and mark accept (01, "Numbers returned").
use Rattle.std.specs.Prelude.{ℕ, ◌^◌, ◌≤◌, ◌≡◌, false, List, length}
use Rattle.trees.specs.Records.{ClusterOf, GeneValid}
use Rattle.roster.specs.Roster.{names, faulty}
use Rattle.roster.specs.Judged.{species_most}
use Rattle.texts.specs.Writing.{written}
use Rattle.weights.specs.declared.Rooting.{Rooting}
use Rattle.lineages.specs.InOrder.{GenesInOrder}

-- what the call that weighs accepts: "A cluster is a number from 1 to 2^n - 1"
pub record Weighable (rooting : Rooting) (n : ℕ) (genes : List ℕ) (count a : ℕ) : Type 0 where
  pub in_order : GenesInOrder rooting n genes count
  pub cluster : ClusterOf n a

-- what the call that marks accepts: it "writes 2^n bytes"
pub record Markable (rooting : Rooting) (n : ℕ) (genes : List ℕ) (count : ℕ) (out : List ℕ) : Type 0 where
  pub in_order : GenesInOrder rooting n genes count
  pub out_fits : 2 ^ n ≤ length out

-- what the writer accepts: a good roster, a valid record of a gene tree, with every species or not (#104), and as many bytes as its text has
pub record Writable (line tree out : List ℕ) : Type 0 where
  pub roster_good : faulty species_most line ≡ false
  pub tree_valid : GeneValid (length (names line)) tree
  pub out_fits : length (written (names line) tree) ≤ length out
