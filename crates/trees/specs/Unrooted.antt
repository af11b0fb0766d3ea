-- Trees whose root is not known (#106): which may be counted without it, and which differ only in where it was drawn.
use Rattle.std.specs.Prelude.{ℕ, ◌≡◌, Bool, ◌&&◌, ◌||◌, List, length, eqb}
use Rattle.clusters.specs.Sets.{whole, size}
use Rattle.trees.specs.Tree.{Tree, Forest, Behind, Binary, cluster}
use Rattle.trees.specs.Tree.Tree.{leaf, node}
use Rattle.trees.specs.Tree.Forest.{last, more}
use Rattle.trees.specs.Records.{listed, largest}
use Rattle.trees.specs.Valid.{every}
use Rattle.trees.specs.Drawn.{children, Alike}

-- "binary save that the root may have three children" (#106), of a drawn tree: the children behind the first are one or two, and all are binary
unfoldable pub OneOrTwo : Forest → Type 0
OneOrTwo (last t) = Binary t
OneOrTwo (more t (last u)) = Binary t × Binary u
OneOrTwo (more t (more u f)) = ⊥

-- "each inner node with two children but the root with two or three"
unfoldable pub RootedAnyhow : Tree → Type 0
unfolding OneOrTwo
RootedAnyhow (leaf i b) = Unit {0}
RootedAnyhow (node t f b) = Binary t × OneOrTwo f

-- the same of a record's cluster p, s being the whole set: a single species, or a set with two children; the whole may have three
unfoldable pub resolved : List ℕ → ℕ → ℕ → Bool
resolved cs s p = eqb (size p) 1 || eqb (length (children cs p)) 2 || (eqb p s && eqb (length (children cs p)) 3)

-- "Only complete trees enter, binary save that the root may have three children" (#106): the test of a valid gene record for n species
unfoldable pub may_unroot : ℕ → List ℕ → Bool
unfolding resolved
may_unroot n g = eqb (largest g) (whole n) && every (λ p. resolved (listed g) (whole n) p) (listed g)

-- "two texts that differ only in where the root was drawn" (#106): their trees come from each other by such steps, whatever is written behind the nodes
pub data Redrawn : Tree → Tree → Type 0 where
  -- children in any order
  reordered : {t u : Tree} → Alike t u → Redrawn t u
  -- the root, drawn on the branch between the node of x and y and the rest z, moves over that node onto the branch to x
  moved_over : {x y z : Tree} {b c d e : Behind} → Redrawn (node (node x (last y) b) (last z) c) (node x (last (node y (last z) d)) e)
  -- the root on a branch, drawn at the node at its end
  at_node : {x y z : Tree} {b c d : Behind} → Redrawn (node (node x (last y) b) (last z) c) (node x (more y (last z)) d)
  -- the root at a node, drawn on one of its branches
  on_branch : {x y z : Tree} {b c d : Behind} → Redrawn (node x (more y (last z)) b) (node (node x (last y) c) (last z) d)
  -- one step after another
  and_then : {t u v : Tree} → Redrawn t u → Redrawn u v → Redrawn t v

-- the root of the tree is drawn on the branch above a cluster x: that is one of its two children
pub data RootOn (x : ℕ) : Tree → Type 0 where
  above : {t u : Tree} {b : Behind} → cluster t ≡ x → RootOn x (node t (last u) b)
