-- The text of a species record: of the tree that it draws on all species of the roster.
use mathlib.Core.Path.{◌≡◌, ap}
use mathlib.Core.List.{List}
use Prim.Native.Nat.{ℕ}
use lib.ListN.{length}
use Rattle.clusters.specs.Sets.{whole}
use Rattle.trees.specs.Records.{listed, SpeciesValid}
use Rattle.trees.specs.Drawn.{drawn}
use Rattle.trees.proofs.GeneRecords.{largest_of_valid}
use Rattle.texts.specs.Writing.{tree_text, written}

pub species-written :
    (names : List (List ℕ)) {r : List ℕ} → SpeciesValid (length names) r → written names r ≡ tree_text names (drawn (listed r) (whole (length names)))
unfolding written tree_text
species-written names {r} v = ap (λ (s : ℕ). tree_text names (drawn (listed r) s)) (largest_of_valid v)
