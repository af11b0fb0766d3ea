-- A tree's record, and when numbers are a valid one (01, "Species, clusters, records"). A record has a breadth: the number of species that it has room for, 16 in 01 and 32 individuals in #110.
use Rattle.std.specs.Prelude.{ℕ, ◌+◌, ◌-◌, ◌*◌, ◌^◌, ◌≤◌, ◌<◌, ◌≡◌, ◌⊎◌, length, get_or, take, drop, replicate}
use mathlib.Core.List.{List, ◌∷◌, ◌++◌, Memᴰ}
use Rattle.clusters.specs.Sets.{Has, Within, Apart, whole, single, size}
use Rattle.trees.specs.Lists.{Among, Rising, sorted, pieces}

-- "the count m"
abbrev pub count : List ℕ → ℕ
count r = get_or r 0 0

-- "the tree's m clusters"
abbrev pub listed : List ℕ → List ℕ
listed r = take (count r) (drop 1 r)

-- "the count m, then the tree's m clusters in rising order, then zeros": as many numbers as twice the breadth
unfoldable pub record_for : ℕ → List ℕ → List ℕ
record_for b cs = length cs ∷ (sorted cs ++ replicate (2 * b - 1 - length cs) 0)

-- "A tree's record is 32 sixteen-bit numbers"
abbrev pub record_of : List ℕ → List ℕ
record_of cs = record_for 16 cs

-- "it has that form with no cluster twice"
pub record FormFor (b : ℕ) (r : List ℕ) : Type 0 where
  pub sized : length r ≡ 2 * b
  pub counted : count r ≤ 2 * b - 1
  pub rising : Rising (listed r)
  pub zeros : drop (1 + count r) r ≡ replicate (2 * b - 1 - count r) 0

-- the form of 01's records
abbrev pub Form : List ℕ → Type 0
Form r = FormFor 16 r

-- "any two are disjoint or one holds the other"
abbrev pub Nested : ℕ → ℕ → Type 0
Nested a b = Apart a b ⊎ (Within a b ⊎ Within b a)

-- a valid record of breadth b of a tree whose whole set is s: 01's sentence, clause by clause
pub record ValidFor (b s : ℕ) (r : List ℕ) : Type 0 where
  pub form : FormFor b r
  pub singles : (i : ℕ) → Has s i → Among (single i) (listed r)
  pub all : Among s (listed r)
  pub inside : (a : ℕ) → Among a (listed r) → (1 ≤ a) × Within a s
  pub nested : (a b : ℕ) → Among a (listed r) → Among b (listed r) → Nested a b

-- the same of 01's records
abbrev pub ValidOn : ℕ → List ℕ → Type 0
ValidOn s r = ValidFor 16 s r

-- a valid record of a species tree for n species: "Species records still have every species" (#104)
abbrev pub SpeciesValid : ℕ → List ℕ → Type 0
SpeciesValid n r = ValidOn (whole n) r

-- "its largest one" (#104): clusters rise, so it is the last that is listed (`GeneRecords.among-le-largest`)
abbrev pub largest : List ℕ → ℕ
largest r = get_or r (count r) 0

-- "A cluster is a number from 1 to 2^n - 1": some of n species, at least one
abbrev pub ClusterOf : ℕ → ℕ → Type 0
ClusterOf n a = (1 ≤ a) × (a < 2 ^ n)

-- a valid record of a gene tree for n species: "its clusters lie within its largest one, whose species are each there singly" (#104)
pub record GeneValidFor (b n : ℕ) (r : List ℕ) : Type 0 where
  pub of_roster : ClusterOf n (largest r)
  pub valid : ValidFor b (largest r) r

-- the same of 01's records; of breadth 32 for individuals: "with records wide enough for 63 clusters" (#110)
abbrev pub GeneValid : ℕ → List ℕ → Type 0
GeneValid n r = GeneValidFor 16 n r

-- "m = 2n - 1 exactly when the tree is binary"
abbrev pub BinaryOn : ℕ → List ℕ → Type 0
BinaryOn s r = count r + 1 ≡ 2 * size s

-- the gene records that are handed over, one after the other: the first n of 32 numbers each
abbrev pub records_in : ℕ → List ℕ → List (List ℕ)
records_in n numbers = pieces 32 n numbers

-- wide ones: the first n of 64 numbers each (#110)
abbrev pub wide_records_in : ℕ → List ℕ → List (List ℕ)
wide_records_in n numbers = pieces 64 n numbers

-- every gene record is valid for n species
abbrev pub AllValidFor : ℕ → ℕ → List (List ℕ) → Type 0
AllValidFor b n genes = (g : List ℕ) → Memᴰ g genes → GeneValidFor b n g

-- the same of 01's records
abbrev pub AllValid : ℕ → List (List ℕ) → Type 0
AllValid n genes = AllValidFor 16 n genes
