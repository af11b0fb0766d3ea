-- The clusters that gene trees show (01, "Numbers returned").
use Rattle.std.specs.Prelude.{ℕ, Bool, true, false, ◌||◌, List, [], ◌∷◌}
use Rattle.trees.specs.Valid.{among}
use Rattle.weights.specs.Count.{shown_by}
use Rattle.weights.specs.declared.Rooting.{Rooting}

-- cluster a is shown by some gene tree
unfoldable pub shown : Rooting → List (List ℕ) → ℕ → Bool
shown rooting [] a = false
shown rooting (g ∷ l) a = among a (shown_by rooting g) || shown rooting l a

-- "1 for each cluster shown by some gene tree, else 0"
abbrev pub flag : Bool → ℕ
flag true = 1
flag false = 0
