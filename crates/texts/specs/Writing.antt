-- Tree text in the one form (01, "Tree text"): children in rising order of their lowest species, no blanks, inner names or numbers; and with counts (#114).
use Rattle.std.specs.Prelude.{ℕ, List, [], ◌∷◌, ◌++◌, get_or}
use Rattle.labels.specs.Writing.{label_of}
use Rattle.trees.specs.Tree.{Tree, Forest, Behind, cluster}
use Rattle.trees.specs.Tree.Tree.{leaf, node}
use Rattle.trees.specs.Tree.Forest.{last, more}
use Rattle.trees.specs.Records.{listed, largest}
use Rattle.trees.specs.Drawn.{drawn}
use Rattle.printing.specs.Words.{decimal}

-- how a name is written: "names of letters, digits and blanks bare, blanks as underscores, and quotes others" (#103)
abbrev pub label : List ℕ → List ℕ
label name = label_of name

-- what is written behind the node of a cluster: nothing
abbrev pub note : ℕ → List ℕ
note a = []

-- or its count: "Our writer gets a form with these counts", "one whole number after a colon at every node, the root included" (#114)
abbrev pub count_note : (ℕ → ℕ) → ℕ → List ℕ
count_note count a = 58 ∷ decimal (count a)

-- the text of a node, with notes: a leaf's name, or its children in parentheses, parted by commas; behind each node the note of its cluster
unfoldable mutual
  pub node_with : (ℕ → List ℕ) → List (List ℕ) → Tree → List ℕ
  node_with notes names (leaf i b) = label (get_or names i []) ++ notes (cluster (leaf i b))
  node_with notes names (node t f b) = 40 ∷ node_with notes names t ++ others_with notes names f ++ 41 ∷ notes (cluster (node t f b))

  pub others_with : (ℕ → List ℕ) → List (List ℕ) → Forest → List ℕ
  others_with notes names (last t) = 44 ∷ node_with notes names t
  others_with notes names (more t f) = 44 ∷ node_with notes names t ++ others_with notes names f

-- "The text ends in `;`"
unfoldable pub tree_with : (ℕ → List ℕ) → List (List ℕ) → Tree → List ℕ
unfolding node_with
tree_with notes names t = node_with notes names t ++ 59 ∷ []

-- the text of a record: of the tree that it draws on its largest cluster; "Species records still have every species; the writer takes both" (#104)
unfoldable pub written_with : (ℕ → List ℕ) → List (List ℕ) → List ℕ → List ℕ
unfolding tree_with
written_with notes names r = tree_with notes names (drawn (listed r) (largest r))

-- ---- without notes

unfoldable pub node_text : List (List ℕ) → Tree → List ℕ
unfolding node_with
node_text names t = node_with note names t

unfoldable pub tree_text : List (List ℕ) → Tree → List ℕ
unfolding tree_with
tree_text names t = tree_with note names t

unfoldable pub written : List (List ℕ) → List ℕ → List ℕ
unfolding written_with
written names r = written_with note names r

-- ---- the tree that the text with counts draws

-- a tree with other things behind its nodes, by their clusters
unfoldable mutual
  pub bearing : (ℕ → Behind) → Tree → Tree
  bearing behind (leaf i b) = leaf i (behind (cluster (leaf i b)))
  bearing behind (node t f b) = node (bearing behind t) (bearing_all behind f) (behind (cluster (node t f b)))

  pub bearing_all : (ℕ → Behind) → Forest → Forest
  bearing_all behind (last t) = last (bearing behind t)
  bearing_all behind (more t f) = more (bearing behind t) (bearing_all behind f)

-- a count behind a node, and nothing else: "one whole number after a colon" (#114)
abbrev pub count_behind : (ℕ → ℕ) → ℕ → Behind
count_behind count a = record { name = []; distance = decimal (count a); support = [] }

-- the tree with the count of its cluster behind each node
abbrev pub counted : (ℕ → ℕ) → Tree → Tree
counted count t = bearing (count_behind count) t
