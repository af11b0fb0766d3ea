-- What the functions that print, and those of the writer, ask of one another: a text that is put in place.
use Rattle.std.specs.Prelude.{ℕ, ◌+◌, ◌≡◌, List, length}
use Rattle.std.proofs.lemmas.List.Edits.{sets}

-- the text is put into `before` from `at` on, and ends at `end`
pub record Put (before : List ℕ) (at : ℕ) (text : List ℕ) (end : ℕ) (after : List ℕ) : Type 0 where
  pub ended : end ≡ at + length text
  pub stored : after ≡ sets before at text
