-- What it says of a text that it was read.
use Rattle.std.specs.Prelude.{ℕ, ◌↔◌, List}
use Rattle.trees.specs.Lists.{Among}
use Rattle.trees.specs.Tree.{Tree}
use Rattle.trees.specs.Records.{listed}
use Rattle.tokens.specs.Supports.{Threshold}
use Rattle.reader.specs.Promise.{clusters_read}
use Rattle.reader.specs.declared.Kind.{Kind}
use Rattle.reader.specs.declared.Reading.{Reading}
use Rattle.reader.specs.Accepted.{Draws, JustBehind}

-- the two lists have the same clusters
abbrev pub SameClusters : List ℕ → List ℕ → Type 0
SameClusters l k = (x : ℕ) → Among x l ↔ Among x k

-- from start on the text draws a tree of the kind, the record has just the clusters that the threshold leaves of it (#113), all of them where there is none,
-- and next is the offset just behind the `;`
pub record ReadAs (kind : Kind) (threshold : Threshold) (line text : List ℕ) (start : ℕ) (r : Reading) : Type 0 where
  pub tree : Tree
  pub rest : List ℕ
  pub draws : Draws kind threshold line text start tree rest
  pub behind : JustBehind text start rest r.next
  pub drawn : SameClusters (listed r.numbers) (clusters_read threshold tree)
