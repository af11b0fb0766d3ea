-- What counting and marking ask of gene records, and the bytes while they are marked.
use Rattle.std.specs.Prelude.{ℕ, ◌-◌, ◌*◌, ◌^◌, ◌≤◌, ◌<◌, min, length, set, take, drop}
use mathlib.Core.List.{List, [], ◌∷◌, ◌++◌, map, Memᴰ}
use Rattle.clusters.specs.Sets.{Within}
use Rattle.trees.specs.Lists.{Among, up_to}
use Rattle.trees.specs.Records.{count, listed, largest, Form, ValidFor, wide_records_in}
use Rattle.weights.specs.Count.{complement}
use Rattle.weights.specs.Marks.{shown, flag}
use Rattle.weights.specs.declared.Rooting.{Rooting}
use Rattle.weights.specs.declared.Rooting.TheVariants.{Rooted, Unrooted}

-- a gene record of breadth b that can be counted: the valid record of a tree on some set of species, which are no more than the breadth and 32
pub record CountableFor (b : ℕ) (g : List ℕ) : Type 0 where
  pub species : ℕ
  pub valid : ValidFor b species g
  pub small : species < 2 ^ min b 32

-- the same of 01's records
abbrev pub Countable : List ℕ → Type 0
Countable g = CountableFor 16 g

-- every gene record can be counted
abbrev pub AllCountableFor : ℕ → List (List ℕ) → Type 0
AllCountableFor b genes = (g : List ℕ) → Memᴰ g genes → CountableFor b g

-- the same of 01's records
abbrev pub AllCountable : List (List ℕ) → Type 0
AllCountable genes = AllCountableFor 16 genes

-- a gene record that can be counted, 01's or a wide one
pub record Counted (g : List ℕ) : Type 0 where
  pub breadth : ℕ
  pub can : CountableFor breadth g
  pub narrow : breadth ≤ 32

-- a stand on which can be counted: the groups of at most 16 species, and at most 4,096 gene records of breadth 32 that can be counted, lent whole
pub record StandCountable (groups : List ℕ) (n : ℕ) (genes : List ℕ) (count : ℕ) : Type 0 where
  pub few_species : n ≤ 16
  pub groups_long : n ≤ length groups
  pub few_genes : count ≤ 4096
  pub genes_long : 64 * count ≤ length genes
  pub countable : AllCountableFor 32 (wide_records_in count genes)

-- y is the smallest cluster of a gene record that holds all of b
pub record SmallestHolder (g : List ℕ) (b y : ℕ) : Type 0 where
  pub among : Among y (listed g)
  pub holds : Within b y
  pub least : (z : ℕ) → Among z (listed g) → Within b z → y ≤ z

-- a gene record whose clusters are all below a number of bytes
pub record Markable (bytes : ℕ) (g : List ℕ) : Type 0 where
  pub form : Form g
  pub below : (x : ℕ) → Among x (listed g) → x < bytes

-- every gene record can be marked
abbrev pub AllMarkable : ℕ → List (List ℕ) → Type 0
AllMarkable bytes genes = (g : List ℕ) → Memᴰ g genes → Markable bytes g

-- bytes with a one at each cluster of a list
unfoldable pub marked_one : List ℕ → List ℕ → List ℕ
marked_one [] out = out
marked_one (x ∷ l) out = marked_one l (set out x 1)

-- the complement of each cluster of a record before its last, which is the whole
unfoldable pub complements : List ℕ → List ℕ
complements g = map (λ x. complement (largest g) x) (take (count g - 1) (drop 1 g))

-- the clusters to be marked for a gene record, one after the other
abbrev pub to_mark : Rooting → List ℕ → List ℕ
to_mark Rooted g = listed g
to_mark Unrooted g = listed g ++ complements g

-- bytes with a one at each of these of each gene record
unfoldable pub marked_all : Rooting → List (List ℕ) → List ℕ → List ℕ
unfolding marked_one
marked_all rooting [] out = out
marked_all rooting (g ∷ l) out = marked_all rooting l (marked_one (to_mark rooting g) out)

-- a byte for each number below a bound: 1 for each cluster shown by some gene tree, else 0
unfoldable pub marks_below : Rooting → ℕ → List (List ℕ) → List ℕ
marks_below rooting entries genes = map (λ a. flag (shown rooting genes a)) (up_to entries)
