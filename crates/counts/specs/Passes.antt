-- What `check` says of a text in the words of #114, over the tree that the grammar draws and the definition of the weight:
-- when it says yes, and which count is at fault first.
use Rattle.std.specs.Prelude.{ℕ, ◌+◌, ◌^◌, ◌≤◌, ◌<◌, ◌≡◌, true, false, length, drop, Some}
use mathlib.Core.List.{List, [], ◌∷◌, ◌++◌, Memᴰ}
use Rattle.clusters.specs.Sets.{whole}
use Rattle.trees.specs.Tree.{Tree, Behind, On, Binary, cluster}
use Rattle.trees.specs.Thinned.{all_nodes}
use Rattle.roster.specs.Roster.{names, faulty}
use Rattle.roster.specs.Judged.{species_most}
use Rattle.nodes.specs.Grammar.{strict, Text}
use Rattle.nodes.specs.Reading.{open_most}
use Rattle.nodes.specs.Worth.{behind_of}
use Rattle.reader.specs.Promise.{text_most}
use Rattle.branches.specs.Ends.{behinds_of, is_count, count_in}
use Rattle.weights.specs.declared.Rooting.TheVariants.{Rooted}
use Rattle.lineages.specs.InOrder.{GenesInOrder}
use Rattle.counts.specs.Promise.{weight_in}

-- what a call asks for beside the text: 1 to 4,096 valid gene records, lent whole, and 2^n entries in both tables
pub record CallInOrder (line genes : List ℕ) (count : ℕ) (scores splits : List ℕ) : Type 0 where
  pub genes_in_order : GenesInOrder Rooted (length (names line)) genes count
  pub scores_fit : 2 ^ length (names line) ≤ length scores
  pub splits_fit : 2 ^ length (names line) ≤ length splits

-- "the text draws a binary tree on the roster" (#114): the roster is good, the limits are kept,
-- and by the grammar the text from start on is that of a binary tree on all its species
pub record DrawsBinary (line text : List ℕ) (start : ℕ) : Type 0 where
  pub good : faulty species_most line ≡ false
  pub short : length text ≤ text_most
  pub inside : start ≤ length text
  pub tree : Tree
  pub rest : List ℕ
  pub derives : Text (strict false (names line)) open_most (drop start text) tree rest
  pub on : On (whole (length (names line))) tree
  pub binary : Binary tree

-- behind the node stands "one whole number after a colon", and it "is the weight of that node's cluster" (#114)
abbrev pub CountRight : List ℕ → ℕ → Tree → Type 0
CountRight genes count u = count_in (behind_of u) ≡ Some (weight_in genes count (cluster u))

-- "Say yes exactly when the text draws a binary tree on the roster and each number is the weight of that node's cluster", "the root included" (#114)
pub record Passes (line text : List ℕ) (start : ℕ) (genes : List ℕ) (count : ℕ) : Type 0 where
  pub draws : DrawsBinary line text start
  pub counts : (u : Tree) → Memᴰ u (all_nodes draws.tree) → CountRight genes count u

-- "a missing, fractional or wrong count or a second number" (#114), behind a node whose cluster has the weight w; no two of them are found behind one node:
-- a second number stands behind a count, and where the first is missing or fractional it is that which is at fault
pub data Fault (w : ℕ) (b : Behind) : Type 0 where
  missing : b.distance ≡ [] → Fault w b
  fractional : (v d : List ℕ) → b.distance ≡ v ++ 46 ∷ d → Fault w b
  second : is_count b.distance ≡ true → 0 < length b.support → Fault w b
  wrong : {other : ℕ} → count_in b ≡ Some other → (other ≡ w → ⊥) → Fault w b

-- "23 .. of the first such node to end, place the byte just after its closing parenthesis or, for a leaf, its name" (#114):
-- of the nodes in the order in which they end, those before it have their counts, and it has not; of the texts behind them, its own begins at the place
pub record FirstFault (line text : List ℕ) (start : ℕ) (genes : List ℕ) (count place : ℕ) : Type 0 where
  pub draws : DrawsBinary line text start
  pub before : List Tree
  pub node : Tree
  pub after : List Tree
  pub nodes : all_nodes draws.tree ≡ before ++ (node ∷ after)
  pub right : (u : Tree) → Memᴰ u before → CountRight genes count u
  pub fault : Fault (weight_in genes count (cluster node)) (behind_of node)
  pub behind_before : List (List ℕ)
  pub behind : List ℕ
  pub behind_after : List (List ℕ)
  pub behinds : behinds_of draws.derives ≡ behind_before ++ (behind ∷ behind_after)
  pub as_many : length behind_before ≡ length before
  pub begins : drop place text ≡ behind
  pub ends : place + length behind ≡ length text
