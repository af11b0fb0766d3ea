-- What the numbers behind a node of the drawn tree are worth (#113).
use Rattle.std.specs.Prelude.{◌≡◌, false}
use mathlib.Core.List.{Memᴰ}
use Rattle.trees.specs.Tree.{Tree, Behind}
use Rattle.trees.specs.Tree.Tree.{leaf, node}
use Rattle.trees.specs.Thinned.{all_nodes}
use Rattle.tokens.specs.Values.{too_fine, thousandths, Value}
use Rattle.tokens.specs.declared.answer.Figures.{Figures}

-- what is written behind a node
abbrev pub behind_of : Tree → Behind
behind_of (leaf i b) = b
behind_of (node t f b) = b

-- the value of its d
unfoldable pub distance_value : Tree → Value
distance_value t = thousandths (behind_of t).distance

-- "the b after a node, in `:d:b` or `::b`, is its support" (#113)
unfoldable pub support_value : Tree → Value
support_value t = thousandths (behind_of t).support

-- no node of the drawn tree has "a support with more than three decimals" (#113)
abbrev pub NoneFine : Tree → Type 0
NoneFine t = (u : Tree) → Memᴰ u (all_nodes t) → too_fine (behind_of u).support ≡ false

-- what is answered for both behind one node: "yields whole thousandths, .., in everything that reads tree text" (#113)
pub record Worth (e : Figures) (t : Tree) : Type 0 where
  pub distance_is : e.distance.value ≡ distance_value t
  pub support_is : e.support.value ≡ support_value t
