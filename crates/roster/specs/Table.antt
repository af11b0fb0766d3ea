-- Names in a table of sixteen bytes each, for at most 32 names.
use Rattle.std.specs.Prelude.{ℕ, ◌-◌, ◌*◌, ◌<◌, ◌≡◌, Bool, not, List, [], ◌∷◌, ◌++◌, length, take, drop, replicate, eqb, Option, None, Some}
use Rattle.labels.specs.Labels.{padded}
use Rattle.trees.specs.Lists.{pieces}

-- the names one after the other, each in sixteen bytes
unfoldable pub packed : List (List ℕ) → List ℕ
packed [] = []
packed (w ∷ l) = padded w ++ packed l

-- the table of names: 512 bytes, zeros behind the last name
unfoldable pub table : List (List ℕ) → List ℕ
unfolding packed
table ns = packed ns ++ replicate (512 - length (packed ns)) 0

-- the first n sixteens of a table
abbrev pub slots : ℕ → List ℕ → List (List ℕ)
slots n bytes = pieces 16 n bytes

-- the i-th of them
abbrev pub slot : List ℕ → ℕ → List ℕ
slot bytes i = take 16 (drop (16 * i) bytes)

-- what looking for a name at p among so many comes to: it is none of them, or its place
abbrev pub Sought : ℕ → ℕ → Option ℕ → Type 0
Sought count p None = p ≡ count
Sought count p (Some i) = (i ≡ p) × (i < count)

-- a byte of a name in the table, and not one of the zeros behind it
abbrev pub non_zero : ℕ → Bool
non_zero b = not (eqb b 0)
