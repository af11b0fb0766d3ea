-- Gene trees that differ only in where their roots were drawn (#106), tree by tree.
use Rattle.std.specs.Prelude.{ℕ, List, [], ◌∷◌}
use Rattle.trees.specs.Tree.{Tree}
use Rattle.trees.specs.Unrooted.{Redrawn}
use Rattle.demands.specs.GeneTrees.{RecordsOf}

-- as many trees, each of which and the one at its place "differ only in where the root was drawn" (#106)
pub data AllRedrawn : List Tree → List Tree → Type 0 where
  no_trees : AllRedrawn [] []
  beside : {t u : Tree} {trees others : List Tree} → Redrawn t u → AllRedrawn trees others → AllRedrawn (t ∷ trees) (u ∷ others)

-- two lists of gene records are those of such drawn gene trees
pub record DrawnTwice (n : ℕ) (genes genes' : List (List ℕ)) : Type 0 where
  pub trees : List Tree
  pub others : List Tree
  pub first : RecordsOf n genes trees
  pub second : RecordsOf n genes' others
  pub redrawn : AllRedrawn trees others
