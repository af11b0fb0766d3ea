-- Second readings of both counts: lineages counted down the drawn tree.
use Rattle.std.specs.Prelude.{ℕ, ◌+◌, Bool, true, false, ◌||◌}
use Rattle.clusters.specs.Sets.{within}
use Rattle.trees.specs.Tree.{Tree, Forest, cluster}
use Rattle.trees.specs.Tree.Tree.{leaf, node}
use Rattle.trees.specs.Tree.Forest.{last, more}
use Rattle.weights.specs.Count.{one_or}

-- one where the test holds, else none
abbrev pub one_if : Bool → ℕ
one_if true = 1
one_if false = 0

-- none where the test holds, else a number
abbrev pub none_or : Bool → ℕ → ℕ
none_or true other = 0
none_or false other = other

-- some child lies within A
unfoldable pub some_within : ℕ → Forest → Bool
some_within a (last t) = within (cluster t) a
some_within a (more t f) = within (cluster t) a || some_within a f

-- k (#101): 1 where the subtree lies within A; else one for all children within A together, and what the other children count
unfoldable mutual
  pub lineages : ℕ → Tree → ℕ
  lineages a (leaf i b) = one_or (within (cluster (leaf i b)) a) 0
  lineages a (node t f b) =
      one_or (within (cluster (node t f b)) a)
      (one_if (within (cluster t) a || some_within a f) + (none_or (within (cluster t) a) (lineages a t) + others_of a f))

  -- what the children that do not lie within A count
  pub others_of : ℕ → Forest → ℕ
  others_of a (last t) = none_or (within (cluster t) a) (lineages a t)
  others_of a (more t f) = none_or (within (cluster t) a) (lineages a t) + others_of a f

-- 01's k: 1 where the subtree lies within A; else the sum over its children; 0 at a leaf outside.
-- By source document 001, Theorem 1, this is the number of lineages on the parent edge of A
unfoldable mutual
  pub lineages_drawn : ℕ → Tree → ℕ
  lineages_drawn a (leaf i b) = one_or (within (cluster (leaf i b)) a) 0
  lineages_drawn a (node t f b) = one_or (within (cluster (node t f b)) a) (lineages_drawn a t + lineages_drawn_of a f)

  -- what the children count together
  pub lineages_drawn_of : ℕ → Forest → ℕ
  lineages_drawn_of a (last t) = lineages_drawn a t
  lineages_drawn_of a (more t f) = lineages_drawn a t + lineages_drawn_of a f
