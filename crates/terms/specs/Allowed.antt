-- The allowed clusters, every one or given by a byte for each cluster number, and the refusal of a byte that says neither.
use Rattle.std.specs.Prelude.{ℕ, ◌^◌, Bool, true, ◌||◌, not, List, Option, Some, None, get_or, replicate, eqb, leb, ltb}
use Rattle.clusters.specs.Sets.{whole, size}
use Rattle.roster.specs.Roster.{least}
use Rattle.roster.specs.Verdict.{Test}

-- "Single species and the whole are allowed whether marked or not"
unfoldable pub allowed_in : ℕ → List ℕ → ℕ → Bool
allowed_in n bytes a = eqb (size a) 1 || eqb a (whole n) || eqb (get_or bytes a 0) 1

-- "over all clusters" (#114): every cluster is allowed, and no byte is looked at; or those are allowed that the bytes allow
abbrev pub allowed_for : Option (List ℕ) → ℕ → ℕ → Bool
allowed_for None n = λ a. true
allowed_for (Some bytes) n = allowed_in n bytes

-- "over all clusters" (#114), as an allowed set of n species: 2^n bytes of 1
abbrev pub every_cluster : ℕ → List ℕ
every_cluster n = replicate (2 ^ n) 1

-- the first of the 2^n bytes that is not 0 or 1; 2^n where there is none
unfoldable pub first_strange : ℕ → List ℕ → ℕ
first_strange n bytes = least (λ a. not (leb (get_or bytes a 0) 1)) 0 (2 ^ n)

-- "13 | .. allowed byte not 0 or 1 | .. first such index"
unfoldable pub allowed_test : ℕ → List ℕ → Test
allowed_test n bytes = record { fault = ltb (first_strange n bytes) (2 ^ n); number = 13; place = first_strange n bytes }
