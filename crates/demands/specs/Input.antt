-- Which inputs the program takes, and the clusters that the mode line allows (01, "The program").
use Rattle.std.specs.Prelude.{ℕ, ◌≤◌, ◌≡◌, Bool, true, false, length, drop}
use mathlib.Core.List.{List, [], ◌∷◌, ◌++◌, Memᴰ}
use Rattle.clusters.specs.Sets.{whole, size}
use Rattle.trees.specs.Lists.{Among}
use Rattle.trees.specs.Tree.{Tree}
use Rattle.roster.specs.Roster.{names, faulty}
use Rattle.roster.specs.Judged.{species_most}
use Rattle.std.specs.Prelude.{None}
use Rattle.nodes.specs.Grammar.{Blanks}
use Rattle.reader.specs.Promise.{text_most}
use Rattle.reader.specs.declared.Kind.TheVariants.{Gene}
use Rattle.reader.specs.Accepted.{Draws, JustBehind}
use Rattle.gather.specs.GeneTrees.{genes_most}
use Rattle.weights.specs.declared.Rooting.{Rooting}
use Rattle.weights.specs.declared.Rooting.TheVariants.{Unrooted}
use Rattle.report.specs.Input.{mode_word}
use Rattle.outcomes.specs.Outcome.{program_most}
use Rattle.demands.specs.GeneTrees.{Enters, clusters_shown}

-- "trees": gene trees (#104) stand one after the other, from the text's first byte up to an offset, each drawn from the offset just behind the one before it
pub data TreesTo (line text : List ℕ) : List Tree → ℕ → Type 0 where
  no_tree_yet : TreesTo line text [] 0
  with_more :
      {trees : List Tree} {at next : ℕ} {t : Tree} {rest : List ℕ}
      → TreesTo line text trees at → Draws Gene None line text at t rest → JustBehind text at rest next → TreesTo line text (trees ++ (t ∷ [])) next

-- "then trees until only blanks remain"
pub record TreesStand (line text : List ℕ) (trees : List Tree) : Type 0 where
  pub end : ℕ
  pub trees_reach : TreesTo line text trees end
  pub only_blanks : Blanks (drop end text) []

-- "Standard input holds the roster line, a line that is exactly `all` or `genes`, then trees", inside the program's limits; "The mode line may read `all unrooted` or `genes unrooted`" (#106)
pub record Holds (input line : List ℕ) (all : Bool) (rooting : Rooting) (trees : List Tree) : Type 0 where
  pub text : List ℕ
  -- "Each of the first two lines ends in a line feed", and the second is exactly the mode's word
  pub parts : input ≡ line ++ (10 ∷ (mode_word all rooting ++ (10 ∷ text)))
  pub short : length input ≤ text_most
  -- the roster line is good
  pub roster_good : faulty species_most line ≡ false
  pub few_species : length (names line) ≤ program_most
  -- gene trees stand behind the two lines, each drawn by the grammar with each of its species once, and nothing else
  pub stand : TreesStand line text trees
  pub some_trees : 1 ≤ length trees
  pub few_trees : length trees ≤ genes_most
  -- "Only complete trees enter, binary save that the root may have three children" (#106), where they are counted without a root
  pub enter : rooting ≡ Unrooted → (t : Tree) → Memᴰ t trees → Enters (length (names line)) t

-- what a mode allows: `all` every cluster; `genes` those that a gene tree shows. "Single species and the whole are allowed whether marked or not"
pub data Allows (n : ℕ) (rooting : Rooting) (trees : List Tree) : Bool → ℕ → Type 0 where
  every : {a : ℕ} → Allows n rooting trees true a
  lone : {a : ℕ} → size a ≡ 1 → Allows n rooting trees false a
  entire : {a : ℕ} → a ≡ whole n → Allows n rooting trees false a
  shown : {a : ℕ} {t : Tree} → Memᴰ t trees → Among a (clusters_shown rooting t) → Allows n rooting trees false a
