-- What it means that a call replies to whatever it is handed, and that it turns something away.
use Rattle.std.specs.Prelude.{ℕ, ◌≡◌, List, replicate}
use Rattle.trees.specs.Lists.{Among}
use Rattle.roster.specs.declared.Reply.{Reply}
use Rattle.terms.specs.declared.Found.{Found}
use Rattle.search.specs.TiesPromise.{without_ties}
use Rattle.search.specs.declared.tied.Tied.{Tied}

-- "gets a reply": some outcome meets the promise; "a single outcome": no other does
pub record Replies {A : Type 0} (promise : A → Type 0) : Type 0 where
  pub outcome : A
  pub meets : promise outcome
  pub only : (other : A) → promise other → other ≡ outcome

-- "turned away with a number": one of those that 01 has for the call; "0 for any other value"
pub record TurnedAway (numbers : List ℕ) (r : Reply) : Type 0 where
  pub listed : Among r.number numbers
  pub value : r.value ≡ 0

-- the same from the search: "score 0 .. an all-zero record"
pub record NotFound (numbers : List ℕ) (r : Found) : Type 0 where
  pub listed : Among r.number numbers
  pub score : r.score ≡ 0
  pub numbers_zero : r.numbers ≡ replicate 32 0

-- the same from the search with ties (#111): no ties besides
pub record NotTied (numbers : List ℕ) (r : Tied) : Type 0 where
  pub not_found : NotFound numbers (without_ties r)
  pub ties_zero : r.ties ≡ 0
