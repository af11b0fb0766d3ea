-- Reading a tree from the left (01, "Tree text"): the tree that is drawn, or the number and place of the first fault met.
use Rattle.std.specs.Prelude.{ℕ, zero, suc, ◌+◌, ◌*◌, Bool, true, false, length, ltb}
use mathlib.Core.List.{List, [], tail}
use Rattle.clusters.specs.Sets.{single, union, apart, within}
use Rattle.labels.specs.Bytes.{next_is, next_label}
use Rattle.trees.specs.Tree.{Tree, Forest, Behind, cluster}
use Rattle.trees.specs.Tree.Tree.{leaf, node}
use Rattle.trees.specs.Tree.Forest.{last, more}
use Rattle.roster.specs.Roster.{position}
use Rattle.tokens.specs.Answers.{Answer, and_then, unexpected}
use Rattle.tokens.specs.Answers.Answer.{parsed, refused}
use Rattle.tokens.specs.Tokens.{blanks, skip, name, inner_name}
use Rattle.tokens.specs.Supports.{supported}

-- "open parentheses at once | 15"
abbrev pub open_most : ℕ
open_most = 15

-- how the tokens of a node are scanned: where a name begins, what a name answers, what the optional name behind a parenthesis answers, and what stands behind a node
pub record Scanner : Type 0 where
  pub begins : List ℕ → Bool
  pub leaf_name : List ℕ → ℕ → Answer (List ℕ)
  pub inner_name : List ℕ → ℕ → Answer (List ℕ)
  pub behind : List ℕ → List ℕ → ℕ → Answer Behind

-- labels with blanks and quotes (#103), and supports, which are judged where a threshold is given (#113)
abbrev pub labelled : Bool → Scanner
labelled given = record { begins = λ s. next_label s; leaf_name = λ s p. name s p; inner_name = λ s p. inner_name s p; behind = λ w s p. supported given w s p }

-- "6 | leaf's name already used | its first byte"
abbrev pub leaf_new_by : Scanner → Bool → ℕ → ℕ → List ℕ → ℕ → Answer Tree
leaf_new_by S false i begun s p = refused 6 begun
leaf_new_by S true i begun s p = and_then (S.behind [] s p) (λ b s p. parsed (leaf i b) s p)

-- by the labels of #103, `given` says whether a threshold is (#113)
abbrev pub leaf_new : Bool → Bool → ℕ → ℕ → List ℕ → ℕ → Answer Tree
leaf_new given new i begun s p = leaf_new_by (labelled given) new i begun s p

-- "5 | leaf's name not on the roster | its first byte"
abbrev pub leaf_known_by : Scanner → Bool → ℕ → ℕ → ℕ → List ℕ → ℕ → Answer Tree
leaf_known_by S false i seen begun s p = refused 5 begun
leaf_known_by S true i seen begun s p = leaf_new_by S (apart (single i) seen) i begun s p

-- by the labels of #103, `given` says whether a threshold is (#113)
abbrev pub leaf_known : Bool → Bool → ℕ → ℕ → ℕ → List ℕ → ℕ → Answer Tree
leaf_known given known i seen begun s p = leaf_known_by (labelled given) known i seen begun s p

-- "A leaf's name is judged when its run ends: unknown, then repeated"; seen is the set of the species met so far
unfoldable pub leaf_by : Scanner → List (List ℕ) → ℕ → List ℕ → ℕ → Answer Tree
leaf_by S names seen s p =
    and_then (S.leaf_name s p) (λ w rest q. leaf_known_by S (ltb (position w names) (length names)) (position w names) seen p rest q)

-- by the labels of #103, `given` says whether a threshold is (#113)
abbrev pub leaf_at : Bool → List (List ℕ) → ℕ → List ℕ → ℕ → Answer Tree
leaf_at given names seen s p = leaf_by (labelled given) names seen s p

-- behind a closing parenthesis: "then an optional name; after either may follow" numbers
unfoldable pub closing_by : Scanner → Tree → Forest → List ℕ → ℕ → Answer Tree
closing_by S t f s p = and_then (S.inner_name s p) (λ w s p. and_then (S.behind w s p) (λ b s p. parsed (node t f b) s p))

-- by the labels of #103, `given` says whether a threshold is (#113)
abbrev pub closing : Bool → Tree → Forest → List ℕ → ℕ → Answer Tree
closing given t f s p = closing_by (labelled given) t f s p

-- behind a first child: a comma and the other children, or "7 | `)` closes a single child | the `)`"
abbrev pub after_first_by : Scanner → Bool → Bool → (ℕ → List ℕ → ℕ → Answer Forest) → ℕ → Tree → List ℕ → ℕ → Answer Tree
after_first_by S true closes others seen t s p = and_then (others (union seen (cluster t)) (tail s) (p + 1)) (λ f s p. closing_by S t f s p)
after_first_by S false true others seen t s p = refused 7 p
after_first_by S false false others seen t s p = unexpected s p

-- by the labels of #103, `given` says whether a threshold is (#113)
abbrev pub after_first : Bool → Bool → Bool → (ℕ → List ℕ → ℕ → Answer Forest) → ℕ → Tree → List ℕ → ℕ → Answer Tree
after_first given comma closes others seen t s p = after_first_by (labelled given) comma closes others seen t s p

-- behind `(`: a first child, then the others; room says how many parentheses may still open: "8 | sixteenth open parenthesis | the `(`"
abbrev pub opened_by : Scanner → (ℕ → ℕ → List ℕ → ℕ → Answer Tree) → (ℕ → ℕ → List ℕ → ℕ → Answer Forest) → ℕ → ℕ → List ℕ → ℕ → Answer Tree
opened_by S first others zero seen s p = refused 8 p
opened_by S first others (suc room) seen s p =
    and_then (first room seen (tail s) (p + 1))
    (λ t s p. after_first_by S (next_is 44 (skip s)) (next_is 41 (skip s)) (λ e s p. others room e s p) seen t (skip s) (p + blanks s))

-- by the labels of #103, `given` says whether a threshold is (#113)
abbrev pub opened : Bool → (ℕ → ℕ → List ℕ → ℕ → Answer Tree) → (ℕ → ℕ → List ℕ → ℕ → Answer Forest) → ℕ → ℕ → List ℕ → ℕ → Answer Tree
opened given first others room seen s p = opened_by (labelled given) first others room seen s p

-- "A node is a leaf's name, or a parenthesis of two or more nodes parted by commas"
abbrev pub node_of :
    Scanner
    → Bool
    → Bool
    → List (List ℕ)
    → (ℕ → ℕ → List ℕ → ℕ → Answer Tree)
    → (ℕ → ℕ → List ℕ → ℕ → Answer Forest)
    → ℕ
    → ℕ
    → List ℕ
    → ℕ
    → Answer Tree
node_of S true opens names first others room seen s p = leaf_by S names seen s p
node_of S false true names first others room seen s p = opened_by S first others room seen s p
node_of S false false names first others room seen s p = unexpected s p

-- by the labels of #103, `given` says whether a threshold is (#113)
abbrev pub node_by :
    Bool
    → Bool
    → Bool
    → List (List ℕ)
    → (ℕ → ℕ → List ℕ → ℕ → Answer Tree)
    → (ℕ → ℕ → List ℕ → ℕ → Answer Forest)
    → ℕ
    → ℕ
    → List ℕ
    → ℕ
    → Answer Tree
node_by given begins opens names first others room seen s p = node_of (labelled given) begins opens names first others room seen s p

-- behind a later child: a comma and one more at the least, or the closing parenthesis
abbrev pub after_child : Bool → Bool → (ℕ → List ℕ → ℕ → Answer Forest) → ℕ → Tree → List ℕ → ℕ → Answer Forest
after_child true closes others seen t s p = and_then (others (union seen (cluster t)) (tail s) (p + 1)) (λ f s p. parsed (more t f) s p)
after_child false true others seen t s p = parsed (last t) (tail s) (p + 1)
after_child false false others seen t s p = unexpected s p

-- "Nodes stand within nodes, and the reader follows that nesting": the node at the front of s, and the children of one up to its `)`.
-- The first number bounds how deep the calls go; `Fuel` shows that the bound in `read_tree` is never met.
unfoldable mutual
  pub read_node_by : Scanner → ℕ → List (List ℕ) → ℕ → ℕ → List ℕ → ℕ → Answer Tree
  read_node_by S zero names room seen s p = refused 0 0
  read_node_by S (suc k) names room seen s p =
      node_of S (S.begins (skip s)) (next_is 40 (skip s)) names (λ r e s p. read_node_by S k names r e s p) (λ r e s p. read_forest_by S k names r e s p) room
      seen
      (skip s)
      (p + blanks s)

  pub read_forest_by : Scanner → ℕ → List (List ℕ) → ℕ → ℕ → List ℕ → ℕ → Answer Forest
  read_forest_by S zero names room seen s p = refused 0 0
  read_forest_by S (suc k) names room seen s p =
      and_then (read_node_by S k names room seen s p)
      (λ t s p.
      after_child (next_is 44 (skip s)) (next_is 41 (skip s)) (λ e s p. read_forest_by S k names room e s p) seen t (skip s) (p + blanks s))

-- by the labels of #103, `given` says whether a threshold is (#113)
abbrev pub read_node : Bool → ℕ → List (List ℕ) → ℕ → ℕ → List ℕ → ℕ → Answer Tree
read_node given k names room seen s p = read_node_by (labelled given) k names room seen s p

-- by the labels of #103, `given` says whether a threshold is (#113)
abbrev pub read_forest : Bool → ℕ → List (List ℕ) → ℕ → ℕ → List ℕ → ℕ → Answer Forest
read_forest given k names room seen s p = read_forest_by (labelled given) k names room seen s p

-- "9 | `;` with a species missing | the `;`": needed is the set of the species that must be there
abbrev pub complete : Bool → Tree → List ℕ → ℕ → Answer Tree
complete true t s p = parsed t (tail s) (p + 1)
complete false t s p = refused 9 p

-- behind the root: `;`, or nothing that may stand there
abbrev pub ended : Bool → ℕ → Tree → List ℕ → ℕ → Answer Tree
ended true needed t s p = complete (within needed (cluster t)) t s p
ended false needed t s p = unexpected s p

-- "A tree is a node and `;`", read by calls to the depth k; at most so many parentheses may be open at once
unfoldable pub read_tree_to_by : Scanner → ℕ → List (List ℕ) → ℕ → ℕ → List ℕ → ℕ → Answer Tree
read_tree_to_by S k names most needed s p =
    and_then (read_node_by S k names most 0 s p) (λ t s p. ended (next_is 59 (skip s)) needed t (skip s) (p + blanks s))

-- by the labels of #103, `given` says whether a threshold is (#113)
abbrev pub read_tree_to : Bool → ℕ → List (List ℕ) → ℕ → ℕ → List ℕ → ℕ → Answer Tree
read_tree_to given k names most needed s p = read_tree_to_by (labelled given) k names most needed s p

-- the tree at the front of s, which begins at place p
unfoldable pub read_tree_by : Scanner → List (List ℕ) → ℕ → ℕ → List ℕ → ℕ → Answer Tree
read_tree_by S names most needed s p = read_tree_to_by S (2 * length s + 1) names most needed s p

-- by the labels of #103, `given` says whether a threshold is (#113)
abbrev pub read_tree : Bool → List (List ℕ) → ℕ → ℕ → List ℕ → ℕ → Answer Tree
read_tree given names most needed s p = read_tree_by (labelled given) names most needed s p
