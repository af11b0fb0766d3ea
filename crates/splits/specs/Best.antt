-- The best tree for gene trees and an allowed set, and the answer that says it (01, "The count" and "Numbers returned").
use Rattle.std.specs.Prelude.{ℕ, List, replicate}
use Rattle.std.proofs.Math.Option.{Option, some, none}
use Rattle.trees.specs.Records.{record_of}
use Rattle.weights.specs.Count.{weight}
use Rattle.splits.specs.BinaryTrees.{Binary, clusters_in}
use Rattle.splits.specs.Least.{best, score_of}
use Rattle.terms.specs.Allowed.{allowed_in}
use Rattle.terms.specs.declared.Found.{Found}
use Rattle.weights.specs.declared.Rooting.{Rooting}

-- the best tree on a for these gene trees and this allowed set
unfoldable pub best_for : Rooting → ℕ → List (List ℕ) → List ℕ → ℕ → Option Binary
best_for rooting n genes allowed a = best (weight rooting genes) (allowed_in n allowed) a

-- "The search returns the score and the record of its tree"; "14 | no binary tree over the allowed clusters | 0"; for any weights
abbrev pub found_of : (ℕ → ℕ) → Option Binary → Found
found_of w (some t) = record { number = 0; place = 0; score = score_of w t; numbers = record_of (clusters_in t) }
found_of w none = record { number = 14; place = 0; score = 0; numbers = replicate 32 0 }

-- the same for the weights of gene trees
abbrev pub found_by : Rooting → Option Binary → List (List ℕ) → Found
found_by rooting found genes = found_of (weight rooting genes) found
