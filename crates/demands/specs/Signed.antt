-- What the clerk signs: all that stands behind the four lines that the program prints.
use Rattle.std.specs.Prelude.{ℕ, ◌≤◌, ◌≡◌, Bool, List, ◌++◌, length}
use Rattle.clusters.specs.Sets.{whole}
use Rattle.trees.specs.Lists.{Among}
use Rattle.trees.specs.Tree.{Tree}
use Rattle.trees.specs.Records.{listed, SpeciesValid, BinaryOn}
use Rattle.roster.specs.Roster.{names}
use Rattle.std.specs.Prelude.{None}
use Rattle.reader.specs.Promise.{Reads}
use Rattle.reader.specs.declared.Kind.{Kind}
use Rattle.reader.specs.declared.Reading.{Reading}
use Rattle.texts.specs.Writing.{written}
use Rattle.printing.specs.Words.{taxa_text, genes_text, score_text, ties_text, newline, decimal}
use Rattle.weights.specs.declared.Rooting.{Rooting}
use Rattle.search.specs.LeastAmong.{NumberOf}
use Rattle.report.specs.Promise.{output}
use Rattle.demands.specs.GeneTrees.{score_over}
use Rattle.demands.specs.Input.{Holds, Allows}

-- a valid binary tree on n species, all of whose clusters the mode allows
pub record Eligible (n : ℕ) (all : Bool) (rooting : Rooting) (trees : List Tree) (r : List ℕ) : Type 0 where
  pub valid : SpeciesValid n r
  pub binary : BinaryOn (whole n) r
  pub allowed : (a : ℕ) → Among a (listed r) → Allows n rooting trees all a

-- such a tree whose score, counted over the gene trees as drawn, or without a root (#106), is s
pub record Reaches (n : ℕ) (all : Bool) (rooting : Rooting) (trees : List Tree) (s : ℕ) (r : List ℕ) : Type 0 where
  pub eligible : Eligible n all rooting trees r
  pub counted : score_over rooting trees r ≡ s

-- an input that holds what it should, and whose mode allows some binary tree
pub record Solvable (input : List ℕ) : Type 0 where
  pub line : List ℕ
  pub all : Bool
  pub rooting : Rooting
  pub trees : List Tree
  pub holds : Holds input line all rooting trees
  pub tree : List ℕ
  pub eligible : Eligible (length (names line)) all rooting trees tree

-- an input that holds what it should, and whose mode allows no binary tree
pub record Unsolvable (input : List ℕ) : Type 0 where
  pub line : List ℕ
  pub all : Bool
  pub rooting : Rooting
  pub trees : List Tree
  pub holds : Holds input line all rooting trees
  pub none : (c : List ℕ) → Eligible (length (names line)) all rooting trees c → ⊥

-- for n species and m gene trees the input has the least score s, which t trees reach, and the record r is of one of them
pub record Signed (input : List ℕ) (n m s t : ℕ) (r : List ℕ) : Type 0 where
  -- the input is a roster line, a mode line and gene trees, as it should be
  pub line : List ℕ
  pub all : Bool
  pub rooting : Rooting
  pub trees : List Tree
  pub holds : Holds input line all rooting trees
  -- the line names n species, and m gene trees stand there
  pub species : n ≡ length (names line)
  pub count : m ≡ length trees
  -- the tree is binary and uses only allowed clusters, its score is s, and no such tree has less
  pub reaches : Reaches n all rooting trees s r
  pub least : (c : List ℕ) → Eligible n all rooting trees c → s ≤ score_over rooting trees c
  -- "how many binary trees over the allowed clusters reach the least score": t is "the length of the list of all such trees, each taken once" (#111)
  pub ties : NumberOf (Reaches n all rooting trees s) t
  -- the tree's text, read on the roster as either kind, gives that very tree
  pub reads_back :
      (kind : Kind) (q : Reading) → Reads kind None line (written (names line) r) 0 q
      → q ≡ record { number = 0; place = 0; next = length (written (names line) r); numbers = r }
  -- and the output is four lines: species and gene trees, the score, "after the score .. `ties` and the number" (#111), the tree
  pub lines :
      output input ≡ (taxa_text ++ decimal n ++ genes_text ++ decimal m ++ newline) ++ (score_text ++ decimal s ++ newline)
      ++ (ties_text ++ decimal t ++ newline)
      ++ (written (names line) r ++ newline)
