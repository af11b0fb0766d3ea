-- The tree that a valid record draws, and trees that are alike but for the order of children.
use Rattle.std.specs.Prelude.{ℕ, zero, suc, Bool, true, false, not, ◌&&◌, List, [], ◌∷◌, eqb, leb}
use Rattle.clusters.specs.Sets.{within, size, lowest}
use Rattle.trees.specs.Lists.{keep, some}
use Rattle.trees.specs.Tree.{Tree, Forest, Behind}
use Rattle.trees.specs.Tree.Tree.{leaf, node}
use Rattle.trees.specs.Tree.Forest.{last, more}

-- a lies properly within b
unfoldable pub properly : ℕ → ℕ → Bool
properly a b = within a b && not (eqb a b)

-- those of the list that lie properly within no other of it
unfoldable pub maximal : List ℕ → List ℕ
maximal cs = keep (λ x. not (some (λ y. properly x y) cs)) cs

-- a cluster put into a list by lowest species, before those whose lowest is higher
abbrev pub before : Bool → ℕ → ℕ → List ℕ → List ℕ → List ℕ
before true x y l done = x ∷ y ∷ l
before false x y l done = y ∷ done

-- the lowest species of x is no higher than that of y
abbrev pub lower : ℕ → ℕ → Bool
lower x y = leb (lowest x) (lowest y)

-- a cluster put in its place by lowest species
unfoldable pub placed : ℕ → List ℕ → List ℕ
placed x [] = x ∷ []
placed x (y ∷ l) = before (lower x y) x y l (placed x l)

-- "in rising order of their lowest species"
unfoldable pub by_lowest : List ℕ → List ℕ
unfolding placed
by_lowest [] = []
by_lowest (x ∷ l) = placed x (by_lowest l)

-- the children of a: the maximal ones of the clusters properly within a, in rising order of their lowest species
unfoldable pub children : List ℕ → ℕ → List ℕ
children cs a = by_lowest (maximal (keep (λ x. properly x a) cs))

-- nothing written behind a node
abbrev pub bare : Behind
bare = record { name = []; distance = []; support = [] }

-- the trees of a first cluster and of those behind it, in their order
abbrev pub forest_over : (ℕ → Tree) → ℕ → List ℕ → Forest
forest_over draw a [] = last (draw a)
forest_over draw a (b ∷ l) = more (draw a) (forest_over draw b l)

-- the node over two or more children; over fewer there is none, and the child, or a leaf, stands in
abbrev pub node_over : (ℕ → Tree) → List ℕ → Tree
node_over draw [] = leaf 0 bare
node_over draw (a ∷ []) = draw a
node_over draw (a ∷ b ∷ l) = node (draw a) (forest_over draw b l) bare

-- a single species is a leaf; else a node over its children
abbrev pub drawn_by : Bool → (ℕ → Tree) → List ℕ → ℕ → Tree
drawn_by true draw cs a = leaf (lowest a) bare
drawn_by false draw cs a = node_over draw (children cs a)

-- the tree on a that the clusters cs draw, down to a depth
unfoldable pub drawn_to : ℕ → List ℕ → ℕ → Tree
drawn_to zero cs a = leaf (lowest a) bare
drawn_to (suc k) cs a = drawn_by (eqb (size a) 1) (λ b. drawn_to k cs b) cs a

-- the tree on a that the clusters cs draw: no depth passes the size of a
unfoldable pub drawn : List ℕ → ℕ → Tree
unfolding drawn_to
drawn cs a = drawn_to (size a) cs a

-- u is one of the trees of the list, and the others are left
pub data Picked (u : Tree) : List Tree → List Tree → Type 0 where
  here : {l : List Tree} → Picked u (u ∷ l) l
  there : {t : Tree} {l k : List Tree} → Picked u l k → Picked u (t ∷ l) (t ∷ k)

-- the children of a node, as a list
unfoldable pub trees : Forest → List Tree
trees (last t) = t ∷ []
trees (more t f) = t ∷ trees f

-- two trees that differ in the order of children alone, and in what was written behind nodes
mutual
  pub data Alike : Tree → Tree → Type 0 where
    leaves : {i : ℕ} {b c : Behind} → Alike (leaf i b) (leaf i c)
    nodes : {t u : Tree} {f g : Forest} {b c : Behind} → AlikeAll (t ∷ trees f) (u ∷ trees g) → Alike (node t f b) (node u g c)

  pub data AlikeAll : List Tree → List Tree → Type 0 where
    none : AlikeAll [] []
    next : {t u : Tree} {l k m : List Tree} → Alike t u → Picked u k m → AlikeAll l m → AlikeAll (t ∷ l) k
