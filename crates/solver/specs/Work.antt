-- What the parts of the search ask of one another.
use Rattle.std.specs.Prelude.{ℕ, ◌^◌, ◌≤◌, ◌≡◌, Bool, List, length, Option, IfSome}
use Rattle.clusters.specs.Sets.{whole}
use Rattle.weights.specs.Count.{weight}
use Rattle.sums.specs.Work.{Weighable}
use Rattle.splits.specs.Least.{best, score_entry, split_entry, filled}
use Rattle.splits.specs.Best.{found_of}
use Rattle.splits.specs.Work.{Light}
use Rattle.tables.specs.Work.{Weights}
use Rattle.terms.specs.declared.Found.{Found}
use Rattle.weights.specs.declared.Rooting.{Rooting}

-- gene trees and slices that were checked, the allowed set where it is looked at
pub record Checked (rooting : Rooting) (n : ℕ) (genes : List ℕ) (count : ℕ) (allowed : Option (List ℕ)) (scores splits : List ℕ) : Type 0 where
  pub some_species : 1 ≤ n
  pub weighable : Weighable rooting n genes count
  pub allowed_long : IfSome allowed (λ bytes. 2 ^ n ≤ length bytes)
  pub scores_long : 2 ^ n ≤ length scores
  pub splits_long : 2 ^ n ≤ length splits

-- the answer for any weights over the clusters that are allowed, and both tables filled
pub record SolvesFor (w : ℕ → ℕ) (n : ℕ) (ok : ℕ → Bool) (scores splits : List ℕ) (r : Found) (scores_after splits_after : List ℕ) : Type 0 where
  pub reply : r ≡ found_of w (best w ok (whole n))
  pub score_table : scores_after ≡ filled n (λ a. score_entry w (best w ok a)) scores
  pub split_table : splits_after ≡ filled n (λ a. split_entry (best w ok a)) splits

-- the same, whatever the weights that the score table holds
abbrev pub SolvesWeighed : ℕ → (ℕ → Bool) → List ℕ → List ℕ → Found → List ℕ → List ℕ → Type 0
SolvesWeighed n ok scores splits r scores_after splits_after =
    (w : ℕ → ℕ) → Light w → Weights n w scores → SolvesFor w n ok scores splits r scores_after splits_after

-- the answer for the weights of gene trees
abbrev pub Solves : Rooting → ℕ → List (List ℕ) → (ℕ → Bool) → List ℕ → List ℕ → Found → List ℕ → List ℕ → Type 0
Solves rooting n genes ok scores splits r scores_after splits_after = SolvesFor (weight rooting genes) n ok scores splits r scores_after splits_after
