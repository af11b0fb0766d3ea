-- A set of species as a number: species i is in it when bit i is set (01, "Species, clusters, records").
use Rattle.std.specs.Prelude.{ℕ, ◌-◌, ◌/◌, ◌%◌, ◌^◌, ◌≡◌, Bool, eqb}
use Rattle.std.specs.Int.Bits.{bit_and, bit_or}
use Rattle.std.specs.Int.Count.{ones, count_trailing_zeros}

-- "species i is in it when bit i is set"
unfoldable pub Has : ℕ → ℕ → Type 0
Has a i = a / 2 ^ i % 2 ≡ 1

-- the set of all n species
unfoldable pub whole : ℕ → ℕ
whole n = 2 ^ n - 1

-- the set of the one species i
unfoldable pub single : ℕ → ℕ
single i = 2 ^ i

-- the species of a and those of b together
unfoldable pub union : ℕ → ℕ → ℕ
union a b = bit_or a b

-- a lies within b: what is in both is all of a
unfoldable pub Within : ℕ → ℕ → Type 0
Within a b = bit_and a b ≡ a

-- a and b are disjoint: nothing is in both
unfoldable pub Apart : ℕ → ℕ → Type 0
Apart a b = bit_and a b ≡ 0

-- whether species i is in a
unfoldable pub has : ℕ → ℕ → Bool
has a i = eqb (a / 2 ^ i % 2) 1

-- whether a lies within b
unfoldable pub within : ℕ → ℕ → Bool
within a b = eqb (bit_and a b) a

-- whether a and b are disjoint
unfoldable pub apart : ℕ → ℕ → Bool
apart a b = eqb (bit_and a b) 0

-- "The size of a cluster is the count of its ones"
unfoldable pub size : ℕ → ℕ
size a = ones a

-- "and its lowest species the count of its trailing zeros": of the 32 digits that the widest set has
unfoldable pub lowest : ℕ → ℕ
lowest a = count_trailing_zeros 32 a
