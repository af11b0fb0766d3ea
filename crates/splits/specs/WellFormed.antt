-- What a binary tree on a cluster is, said without a list.
use Rattle.std.specs.Prelude.{ℕ, ◌-◌, ◌<◌, ◌≡◌}
use Rattle.clusters.specs.Sets.{Has, Within, size, lowest}
use Rattle.splits.specs.BinaryTrees.{Binary, root}
use Rattle.splits.specs.BinaryTrees.Binary.{tip, fork}

-- "The low part of a cluster is the child that holds its lowest species": a part of a with its lowest species, and not all of a
pub record LowPart (a low : ℕ) : Type 0 where
  pub inside : Within low a
  pub holds : Has low (lowest a)
  pub less : low < a

-- a binary tree on a: its one species, or a node over a tree on a low part of a and a tree on the rest of a
pub data TreeOn : ℕ → Binary → Type 0 where
  one : {a : ℕ} → size a ≡ 1 → TreeOn a (tip a)
  two : {a : ℕ} {t u : Binary} → LowPart a (root t) → TreeOn (root t) t → TreeOn (a - root t) u → TreeOn a (fork a t u)
