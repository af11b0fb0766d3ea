-- What the call answers: the gene trees in the numbers lent for them, and what stands in those numbers then.
use Rattle.std.specs.Prelude.{ℕ, ◌≡◌, List, [], ◌∷◌, ◌++◌, Result, Ok, Err}
use Rattle.std.proofs.lemmas.List.Edits.{sets}
use Rattle.faults.specs.Faults.{number}
use Rattle.faults.specs.declared.Refusal.{Refusal}
use Rattle.trees.specs.Records.{records_in}
use Rattle.gather.specs.GeneTrees.{Gathered, walk, gather}
use Rattle.gather.specs.GeneTrees.Gathered.{gathered, stopped}

-- the gene trees that were read stand in the lent numbers, or the number and place of the refusal
abbrev pub gathered_in : List ℕ → Result ℕ Refusal → Gathered
gathered_in genes (Ok count) = gathered (records_in count genes)
gathered_in genes (Err e) = stopped (number e.fault) e.place

-- records one behind the other
unfoldable pub joined : List (List ℕ) → List ℕ
joined [] = []
joined (r ∷ l) = r ++ joined l

-- the promise of `gather`: what it answers, and the lent numbers, in front the records that were read, behind them what stood there
pub record Gathers (line trees lent : List ℕ) (r : Result ℕ Refusal) (after : List ℕ) : Type 0 where
  pub answer : gathered_in after r ≡ gather line trees
  pub numbers : after ≡ sets lent 0 (joined (walk line trees).read)
