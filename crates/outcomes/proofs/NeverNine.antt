-- No gene tree is refused because it lacks a species (#104): from the gene trees on, no outcome is a refusal by 9.
use Prim.Native.Nat.{ℕ}
use mathlib.Core.Path.{◌≡◌, refl, sym, ◌∙◌}
use mathlib.Core.Bool.{Bool, true, false}
use mathlib.Core.Option.{Option, some, none}
use mathlib.Core.List.{List, [], ◌∷◌}
use native.Mathlib.Omega.{arith}
use lib.ListN.{length}
use Rattle.clusters.specs.Sets.{whole}
use Rattle.splits.specs.BinaryTrees.{Binary}
use Rattle.weights.specs.declared.Rooting.{Rooting}
use Rattle.lineages.specs.Checks.{rooting_test}
use Rattle.splits.specs.Best.{best_for, found_by}
use Rattle.gather.specs.GeneTrees.{Gathered, gather}
use Rattle.gather.specs.GeneTrees.Gathered.{gathered, stopped}
use Rattle.gather.proofs.GeneTrees.{stopped-never-nine}
use Rattle.search.specs.TiesPromise.{ties_for, with_ties}
use Rattle.outcomes.specs.Outcome.{outcome_of, searched, allowed_by, tree_place, on_rooting, on_trees}
use Rattle.outcomes.specs.Outcome.Outcome.{refused}

-- what is refused by another number is not refused by 9
pub other_number : {k p number place : ℕ} → (k ≡ 9 → ⊥) → refused k p ≡ refused number place → number ≡ 9 → ⊥
other_number {k} {p} {number} {place} f e nine = let same : k ≡ number = cc in f (same ∙ nine)

-- the search refuses by 14 alone
searched-never-nine :
    (rooting : Rooting) (n : ℕ) (genes : List (List ℕ)) (allowed : List ℕ) {number place : ℕ} → searched rooting n genes allowed
    ≡ refused number place → number ≡ 9 → ⊥
unfolding searched
searched-never-nine rooting n genes allowed {number} {place} = go (best_for rooting n genes allowed (whole n)) (ties_for rooting n genes allowed (whole n))
  where
    go :
        (o : Option Binary) (k : ℕ)
        → outcome_of (found_by rooting o genes).number n (length genes) (with_ties (found_by rooting o genes) k) ≡ refused number place → number ≡ 9 → ⊥
    go (some t) k e nine = let z : ◌≡◌ {A = ℕ} 0 1 = cc in omega arith
    go none k e nine = other_number (λ k. omega arith) e nine

-- nor does the check of the rooting
rooted-never-nine :
    (b : Bool) (at : ℕ) (rooting : Rooting) (n : ℕ) (genes : List (List ℕ)) (allowed : List ℕ) {number place : ℕ}
    → on_rooting b at (searched rooting n genes allowed) ≡ refused number place → number ≡ 9 → ⊥
rooted-never-nine true at rooting n genes allowed e = other_number (λ k. omega arith) e
rooted-never-nine false at rooting n genes allowed e = searched-never-nine rooting n genes allowed e

-- "9 is shown never to occur for gene trees" (#104): of what the program finds from them
pub trees-never-nine :
    (line trees : List ℕ) (shift : ℕ) (all : Bool) (rooting : Rooting) (n : ℕ) {number place : ℕ}
    → on_trees (gather line trees) line trees shift all rooting n ≡ refused number place → number ≡ 9 → ⊥
trees-never-nine line trees shift all rooting n {number} {place} = go (gather line trees) refl
  where
    go : (g : Gathered) → gather line trees ≡ g → on_trees g line trees shift all rooting n ≡ refused number place → number ≡ 9 → ⊥
    go (stopped k p) is e = other_number (stopped-never-nine line trees (sym is)) e
    go (gathered []) is e = other_number (λ k. omega arith) e
    go (gathered (g ∷ l)) is e =
        rooted-never-nine (rooting_test rooting n (g ∷ l)).fault (tree_place line trees shift (rooting_test rooting n (g ∷ l)).place) rooting n (g ∷ l)
        (allowed_by all rooting n (g ∷ l)) e
