-- A number that was read, and the piece behind it: a refusal is passed up, and what was read is read on from.
use Prim.Native.Nat.{ℕ}
use mathlib.Core.Path.{◌≡◌}
use mathlib.Core.List.{List}
use lib.ListN.{drop}
use Rattle.std.proofs.Common.{Result, Ok, Err}
use Rattle.faults.specs.declared.Refusal.{Refusal}
use Rattle.tokens.specs.Answers.{Answer, and_then}
use Rattle.tokens.specs.Answers.Answer.{parsed}
use Rattle.tokens.specs.Says.{refusal, between, number_says}
use Rattle.tokens.specs.declared.answer.Figure.{Figure}

module _ (text : List ℕ) (r : Result Figure Refusal) (answer : Answer (List ℕ)) (says : number_says text r ≡ answer) where
  pub number-refused : {B : Type 0} (next : List ℕ → List ℕ → ℕ → Answer B) (e : Refusal) → r ≡ Err e → refusal e ≡ and_then answer next
  number-refused next e told =
      let s : refusal e ≡ answer = rw told at says in
      rw (← s)

  pub number_read :
      {B : Type 0} (next : List ℕ → List ℕ → ℕ → Answer B) (x : Figure) → r ≡ Ok x → next (between text x) (drop x.to text) x.to ≡ and_then answer next
  number_read next x told =
      let s : parsed (between text x) (drop x.to text) x.to ≡ answer = rw told at says in
      rw (← s)
