-- What a reply of true or false says of a statement.
use Rattle.std.specs.Prelude.{Bool, true, false}

-- the reply says whether P holds
abbrev pub Decides : Bool → Type 0 → Type 0
Decides true P = P
Decides false P = P → ⊥
