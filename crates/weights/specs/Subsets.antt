-- The weights of all clusters by sums over subsets (#109): two lists of sets whose numbers within A differ by k, and the sums over all parts of A at once.
use Rattle.std.specs.Prelude.{ℕ, zero, suc, ◌+◌, ◌-◌, ◌%◌, ◌^◌, ◌<◌, ◌≡◌, Bool, true, false, not, ◌&&◌, List, [], ◌∷◌, ◌++◌, map, length, get_or, eqb}
use Rattle.clusters.specs.Sets.{within, has, single, union, size}
use Rattle.trees.specs.Lists.{keep, total, up_to}
use Rattle.trees.specs.Records.{listed, largest}
use Rattle.trees.specs.Drawn.{children}
use Rattle.weights.specs.Count.{unrooted_clusters}
use Rattle.weights.specs.Stand.{species_in}
use Rattle.weights.specs.declared.Rooting.{Rooting}
use Rattle.weights.specs.declared.Rooting.TheVariants.{Rooted, Unrooted}

-- ---- the sets that are counted, and those that are taken off

-- how many numbers of a list pass a test
unfoldable pub many : (ℕ → Bool) → List ℕ → ℕ
many test l = length (keep test l)

-- what each member of a list gives, one behind the other
unfoldable pub gathered : {A : Type 0} → (A → List ℕ) → List A → List ℕ
gathered give [] = []
gathered give (x ∷ l) = give x ++ gathered give l

-- inclusion and exclusion: the unions of an odd number of the sets of a list, and of an even number that is not none
unfoldable mutual
  pub odds : List ℕ → List ℕ
  odds [] = []
  odds (c ∷ l) = c ∷ (odds l ++ map (λ x. union c x) (evens l))

  pub evens : List ℕ → List ℕ
  evens [] = []
  evens (c ∷ l) = evens l ++ map (λ x. union c x) (odds l)

-- the clusters of a gene record that have more than one species: its inner nodes
unfoldable pub inner_nodes : List ℕ → List ℕ
inner_nodes g = keep (λ p. not (eqb (size p) 1)) (listed g)

-- its single species
unfoldable pub single_ones : List ℕ → List ℕ
single_ones g = keep (λ p. eqb (size p) 1) (listed g)

-- without a root: the clusters that are neither a single species nor the whole
unfoldable pub larger_ones : List ℕ → List ℕ
larger_ones g = keep (λ x. not (eqb (size x) 1) && not (eqb x (largest g))) (unrooted_clusters g)

-- the sets that are counted: of a record that may enter, k of A is how many of them lie within A, less how many of those taken off.
-- With a root the whole set, and for the nodes that have a child within A the unions of an odd number of children; less the nodes within A themselves
-- these are those "with at least one child whose cluster is maximal within A" (#101).
-- Without one, for A within the whole set but not all of it, "the maximal ones" (#106) are as many as the single species within A less the larger clusters within A;
-- and "for the whole set, one" (#106): the whole for each larger cluster, and once
unfoldable pub plus_by : Rooting → List ℕ → List ℕ
unfolding inner_nodes single_ones larger_ones odds evens gathered
plus_by Rooted g = largest g ∷ gathered (λ p. odds (children (listed g) p)) (inner_nodes g)
plus_by Unrooted g = largest g ∷ (single_ones g ++ map (λ x. largest g) (larger_ones g))

-- the sets that are taken off. With a root each inner node, and the unions of an even number of its children.
-- Without one the larger clusters; and the whole for each single species
unfoldable pub minus_by : Rooting → List ℕ → List ℕ
unfolding inner_nodes single_ones larger_ones odds evens gathered
minus_by Rooted g = gathered (λ p. p ∷ evens (children (listed g) p)) (inner_nodes g)
minus_by Unrooted g = larger_ones g ++ map (λ x. largest g) (single_ones g)

-- the sets that are counted for all gene trees together
abbrev pub plus_all : Rooting → List (List ℕ) → List ℕ
plus_all rooting genes = gathered (λ g. plus_by rooting g) genes

-- and those that are taken off
abbrev pub minus_all : Rooting → List (List ℕ) → List ℕ
minus_all rooting genes = gathered (λ g. minus_by rooting g) genes

-- the whole sets of the gene trees
abbrev pub whole_sets : List (List ℕ) → List ℕ
whole_sets genes = map largest genes

-- on a stand (#110) the sets of individuals of a list, each taken to its species
abbrev pub taken : List ℕ → List ℕ → List ℕ
taken groups l = map (λ x. species_in groups x) l

-- how often a set stands in a list
abbrev pub often : ℕ → List ℕ → ℕ
often x l = many (λ y. eqb x y) l

-- ---- sums over the parts of each set

-- numbers are added modulo 2^32
abbrev pub modulus : ℕ
modulus = 2 ^ 32

-- a table with an entry for each set of n species: how often it stands in one list less how often in another, modulo 2^32
pub record Differences (n : ℕ) (plus minus f : List ℕ) : Type 0 where
  pub sized : length f ≡ 2 ^ n
  pub entries : (x : ℕ) → x < 2 ^ n → (get_or f x 0 + often x minus) % modulus ≡ often x plus % modulus

-- the sum of a table's entries over all parts of A
unfoldable pub sum_over : List ℕ → ℕ → ℕ
sum_over f a = total (map (λ x. get_or f x 0) (keep (λ x. within x a) (up_to (length f))))

-- an entry with another added to it, modulo 2^32, where a test holds
abbrev pub added_if : Bool → ℕ → ℕ → ℕ
added_if true other entry = (entry + other) % modulus
added_if false other entry = entry

-- one step of the zeta transform: to each set that has species i the entry of the set without it is added, modulo 2^32
unfoldable pub stepped : ℕ → List ℕ → List ℕ
stepped i f = map (λ a. added_if (has a i) (get_or f (a - single i) 0) (get_or f a 0)) (up_to (length f))

-- the zeta transform: such a step for each of the first n species
unfoldable pub zeta : ℕ → List ℕ → List ℕ
unfolding stepped
zeta zero f = f
zeta (suc n) f = stepped n (zeta n f)
