-- The number that decimal digits say.
use Rattle.std.specs.Prelude.{ℕ, ◌+◌, ◌-◌, ◌*◌, List, [], ◌∷◌}

-- the digits of the list behind those that say v, from the left: each counts ten times what stands behind it
unfoldable pub value_behind : ℕ → List ℕ → ℕ
value_behind v [] = v
value_behind v (d ∷ l) = value_behind (10 * v + (d - 48)) l

-- the number that the digits say
unfoldable pub value_of : List ℕ → ℕ
unfolding value_behind
value_of l = value_behind 0 l
