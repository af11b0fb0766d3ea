-- Words about lists of numbers that the other definitions use.
use Rattle.std.specs.Prelude.{ℕ, zero, suc, ◌+◌, ◌<◌, min, max, Bool, true, false, ◌||◌, take, drop}
use mathlib.Core.List.{List, [], ◌∷◌, ◌++◌, Memᴰ}

-- the numbers below n, rising
unfoldable pub up_to : ℕ → List ℕ
up_to zero = []
up_to (suc n) = up_to n ++ (n ∷ [])

-- x stands in the list
abbrev pub Among : ℕ → List ℕ → Type 0
Among x l = Memᴰ x l

-- x at the front of the list, where it passes the test
abbrev pub keep_if : Bool → ℕ → List ℕ → List ℕ
keep_if true x l = x ∷ l
keep_if false x l = l

-- those of the list that pass a test, in their order
unfoldable pub keep : (ℕ → Bool) → List ℕ → List ℕ
keep test [] = []
keep test (x ∷ l) = keep_if (test x) x (keep test l)

-- some number of the list passes the test
unfoldable pub some : (ℕ → Bool) → List ℕ → Bool
some test [] = false
some test (x ∷ l) = test x || some test l

-- no number stands in the list twice
unfoldable pub NoneTwice : List ℕ → Type 0
NoneTwice [] = Unit {0}
NoneTwice (x ∷ l) = (Among x l → ⊥) × NoneTwice l

-- x is below the first of the list, where there is one
unfoldable pub Below : ℕ → List ℕ → Type 0
Below x [] = Unit {0}
Below x (y ∷ l) = x < y

-- "in rising order", "with no cluster twice": each is below the next
unfoldable pub Rising : List ℕ → Type 0
unfolding Below
Rising [] = Unit {0}
Rising (x ∷ l) = Below x l × Rising l

-- x put into a rising list
unfoldable pub insert : ℕ → List ℕ → List ℕ
insert x [] = x ∷ []
insert x (y ∷ l) = min x y ∷ insert (max x y) l

-- the list in rising order
unfoldable pub sorted : List ℕ → List ℕ
unfolding insert
sorted [] = []
sorted (x ∷ l) = insert x (sorted l)

-- the first n pieces of a list, all of the same size
unfoldable pub pieces : ℕ → ℕ → List ℕ → List (List ℕ)
pieces size zero l = []
pieces size (suc n) l = take size l ∷ pieces size n (drop size l)

-- the sum of a list of numbers
unfoldable pub total : List ℕ → ℕ
total [] = 0
total (x ∷ l) = x + total l

-- the second list is the first with others put in anywhere: what was there keeps its order
pub data Sublist {A : Type 0} : List A → List A → Type 0 where
  ends : Sublist [] []
  kept : {x : A} {l k : List A} → Sublist l k → Sublist (x ∷ l) (x ∷ k)
  added : {x : A} {l k : List A} → Sublist l k → Sublist l (x ∷ k)

-- the second list has what the first has and nothing else, in any order
pub data InAnyOrder {A : Type 0} : List A → List A → Type 0 where
  nothing : InAnyOrder [] []
  put : {x : A} {l : List A} (front behind : List A) → InAnyOrder l (front ++ behind) → InAnyOrder (x ∷ l) (front ++ (x ∷ behind))
