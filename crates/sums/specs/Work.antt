-- What the parts that make the sums ask of one another: what one table has more and less than another, and which gene records have entries for all their sets.
use Rattle.std.specs.Prelude.{◌≡◌, ℕ, ◌+◌, ◌-◌, ◌*◌, ◌%◌, ◌<◌, ◌≤◌, Bool, true, false, not, List, ◌∷◌, length, take, drop, ◌==◌, slice_index, slice_index_or}
use mathlib.Core.List.{Memᴰ}
use Rattle.clusters.specs.Sets.{Within, union, size}
use Rattle.trees.specs.Lists.{Among, NoneTwice, keep}
use Rattle.trees.specs.Records.{count, listed, largest, records_in, wide_records_in, AllValidFor, AllValid}
use Rattle.trees.specs.Valid.{among}
use Rattle.trees.specs.Drawn.{children}
use Rattle.trees.specs.Unrooted.{may_unroot}
use Rattle.weights.specs.Stand.{Parted}
use Rattle.weights.specs.Subsets.{often, modulus, gathered, odds, evens}
use Rattle.weights.specs.Work.{Countable, complements}
use Rattle.weights.specs.declared.Rooting.{Rooting}
use Rattle.weights.specs.declared.Rooting.TheVariants.{Unrooted}

-- the first where the test holds, else the second
abbrev pub either : {A : Type 0} → Bool → A → A → A
either true a b = a
either false a b = b

-- a table after one more at each set of one list and one less at each of another, modulo 2^32
pub record Changed (plus minus before after : List ℕ) : Type 0 where
  pub same : length after ≡ length before
  pub entries : (x : ℕ) → x < length before → (slice_index after x + often x minus) % modulus ≡ (slice_index before x + often x plus) % modulus

-- a table after one more at each set of a list
pub record Tallied (sets before after : List ℕ) : Type 0 where
  pub same : length after ≡ length before
  pub entries : (x : ℕ) → x < length before → slice_index after x ≡ slice_index before x + often x sets

-- a gene record that can be counted and whose sets all have an entry
pub record Summable (entries : ℕ) (g : List ℕ) : Type 0 where
  pub countable : Countable g
  pub fits : largest g < entries

-- every gene record is such a one
abbrev pub AllSummable : ℕ → List (List ℕ) → Type 0
AllSummable entries genes = (g : List ℕ) → Memᴰ g genes → Summable entries g

-- a way to see sets by which unions are seen as unions, and all within the whole set of a gene record lie within one that has an entry
pub record Entered (see : ℕ → ℕ) (entries : ℕ) (g : List ℕ) : Type 0 where
  pub joins : (x y : ℕ) → see (union x y) ≡ union (see x) (see y)
  pub of : ℕ
  pub fits : of < entries
  pub inside : (x : ℕ) → Within x (largest g) → Within (see x) of

-- the children of p, each once, in some order
pub record ChildrenIn (cs : List ℕ) (p : ℕ) (l : List ℕ) : Type 0 where
  pub once : NoneTwice l
  pub are : (x : ℕ) → Among x l → Among x (children cs p)
  pub all : (x : ℕ) → Among x (children cs p) → Among x l

-- sets that all lie within one that has an entry
pub record Parts (entries joined : ℕ) (l : List ℕ) : Type 0 where
  pub of : ℕ
  pub fits : of < entries
  pub joined_in : Within joined of
  pub each_in : (x : ℕ) → Among x l → Within x of

-- what the nodes of some clusters give, those that have more than one species
unfoldable pub of_nodes : (ℕ → List ℕ) → List ℕ → List ℕ
of_nodes give ps = gathered give (keep (λ p. not (size p == 1)) ps)

-- with a root a node adds the unions of an odd number of its children
abbrev pub node_plus : List ℕ → ℕ → List ℕ
node_plus cs p = odds (children cs p)

-- and takes off itself and the unions of an even number
abbrev pub node_minus : List ℕ → ℕ → List ℕ
node_minus cs p = p ∷ evens (children cs p)

-- without a root: what a cluster but the whole adds, itself where it is a single species, else the whole
abbrev pub own_plus : ℕ → ℕ → ℕ
own_plus s x = either (size x == 1) x s

-- and what it takes off
abbrev pub own_minus : ℕ → ℕ → ℕ
own_minus s x = either (size x == 1) s x

-- the clusters of a record before its last, which is the whole
abbrev pub proper_ones : List ℕ → List ℕ
proper_ones g = take (count g - 1) (drop 1 g)

-- the complements of these that the record does not list
unfoldable pub unlisted : List ℕ → List ℕ
unlisted g = keep (λ y. not (among y (listed g))) (complements g)

-- a table after each of the half entries from start + half on has gained the entry half places before it, modulo 2^32; every other entry stays
pub record HalfAdded (start half : ℕ) (before after : List ℕ) : Type 0 where
  pub same : length after ≡ length before
  pub gained : (a : ℕ) → start ≤ a → a < start + half → slice_index after (a + half) ≡ (slice_index before (a + half) + slice_index before a) % modulus
  pub lower : (b : ℕ) → b < start + half → slice_index after b ≡ slice_index before b
  pub upper : (b : ℕ) → start + half + half ≤ b → slice_index after b ≡ slice_index before b

-- entries that are at most a number
abbrev pub AtMost : ℕ → List ℕ → Type 0
AtMost m f = (a : ℕ) → a < length f → slice_index f a ≤ m

-- a table told by a table of sums and another: entry 0 is 0, and the entry of any other set A is the sum of A with the other table's entry of the species outside A,
-- less a number, modulo 2^32
pub record Told (count : ℕ) (sums lost after : List ℕ) : Type 0 where
  pub same : length after ≡ length sums
  pub none : slice_index_or after 0 0 ≡ 0
  pub small : (a : ℕ) → a < length sums → slice_index after a < modulus
  pub entries :
      (a : ℕ) → 1 ≤ a → a < length sums
      → (slice_index after a + count) % modulus ≡ (slice_index sums a + slice_index lost (length sums - 1 - a)) % modulus

-- gene records whose weights can be made by sums: few, lent whole, each valid, and without a root only such as may be counted so (#106)
pub record Weighable (rooting : Rooting) (n : ℕ) (genes : List ℕ) (count : ℕ) : Type 0 where
  pub few_species : n ≤ 16
  pub few_genes : count ≤ 4096
  pub genes_long : 32 * count ≤ length genes
  pub valid : AllValid n (records_in count genes)
  pub enter : rooting ≡ Unrooted → (g : List ℕ) → Memᴰ g (records_in count genes) → may_unroot n g ≡ true

-- a stand whose weights can be made by sums (#110): the groups of its species, which part its individuals, and gene records on these, few, lent whole, each valid
pub record StandWeighable (n : ℕ) (groups : List ℕ) (genes : List ℕ) (count : ℕ) : Type 0 where
  pub individuals : ℕ
  pub few_species : n ≤ 16
  pub few_individuals : individuals ≤ 32
  pub groups_long : n ≤ length groups
  pub parted : Parted individuals (take n groups)
  pub few_genes : count ≤ 4096
  pub genes_long : 64 * count ≤ length genes
  pub valid : AllValidFor 32 individuals (wide_records_in count genes)
