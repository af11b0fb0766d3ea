-- What it is to be least among those that compete: for any numbers, and for the scores of binary trees over allowed clusters; and how many there are of a kind.
use Rattle.std.specs.Prelude.{ℕ, ◌≤◌, ◌≡◌, length}
use mathlib.Core.List.{List, Memᴰ}
use Rattle.weights.specs.Count.{score}
use Rattle.splits.specs.Order.{Ordered}
use Rattle.search.specs.Candidates.{Candidate}
use Rattle.weights.specs.declared.Rooting.{Rooting}

-- c competes, and none that competes has a smaller number
pub record LeastAmong {A : Type 0} (Competes : A → Type 0) (number : A → ℕ) (c : A) : Type 0 where
  pub competes : Competes c
  pub least : (d : A) → Competes d → number c ≤ number d

-- m is the least number of those that compete: one of them has it
pub record LeastNumber {A : Type 0} (Competes : A → Type 0) (number : A → ℕ) (m : ℕ) : Type 0 where
  pub holder : A
  pub least : LeastAmong Competes number holder
  pub is : number holder ≡ m

-- a tree least for these gene trees: its record competes, and "no binary tree over them scores less"
abbrev pub LeastFor : Rooting → ℕ → List ℕ → List (List ℕ) → List ℕ → Type 0
LeastFor rooting n allowed genes c = LeastAmong (Candidate n allowed) (score rooting genes) c

-- "the list of all such trees, each taken once" (#111), for any kind: it has all that are of the kind, no other, and no two of it are equal
pub record AllOf {A : Type 0} (Kind : A → Type 0) (l : List A) : Type 0 where
  pub only : (x : A) → Memᴰ x l → Kind x
  pub every : (x : A) → Kind x → Memᴰ x l
  pub once : Ordered (λ (x y : A). x ≡ y → ⊥) l

-- so many are of the kind: "the length of the list" (#111) of all of them
pub record NumberOf {A : Type 0} (Kind : A → Type 0) (m : ℕ) : Type 0 where
  pub list : List A
  pub all : AllOf Kind list
  pub is : length list ≡ m
