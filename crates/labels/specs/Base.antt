-- Names as 01 has them, without #103, and the texts in which labels are such names still (proofs/Unquoted).
use Rattle.std.specs.Prelude.{ℕ, ◌<◌, ◌≡◌, List, length, get_or, take}
use Rattle.labels.specs.Bytes.{is_name, run}

-- a text or a line without quotes and underscores
abbrev pub Unmarked : List ℕ → Type 0
Unmarked s = (k : ℕ) → k < length s → (get_or s k 0 ≡ 39 → ⊥) × (get_or s k 0 ≡ 95 → ⊥)

-- "A name here is a whole run of letters and digits": the one at the front
unfoldable pub word : List ℕ → List ℕ
word s = take (run is_name s) s
