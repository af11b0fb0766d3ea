-- Weights and scores as the library's sums: over the gene trees one after the other, and over the clusters of a species record.
use Prim.Native.Nat.{ℕ, ◌≤◌}
use mathlib.Core.Path.{◌≡◌, refl}
use mathlib.Core.List.{List, map}
use native.Mathlib.Omega.{arith}
use Rattle.std.specs.List.{sum_by}
use Rattle.std.proofs.lemmas.List.Recursion.{is_sum_by}
use Rattle.trees.specs.Lists.{total}
use Rattle.trees.specs.Records.{records_in}
use Rattle.trees.proofs.Lent.{length-records_in}
use Rattle.weights.specs.Count.{extra, weight}
use Rattle.weights.specs.Work.{AllCountable}
use Rattle.weights.proofs.Sums.{weight_none, weight_cons, weight_most}
use Rattle.weights.specs.declared.Rooting.{Rooting}

-- the weight of a is what the gene trees add, one after the other
pub weight_sum : (rooting : Rooting) (genes : List (List ℕ)) (a : ℕ) → weight rooting genes a ≡ sum_by (λ g. extra rooting g a) genes
weight_sum rooting genes a = is_sum_by (λ l. weight rooting l a) (λ g. extra rooting g a) (weight_none rooting a) (λ g l. weight_cons rooting g l a) genes

-- no weight passes 15 times the gene trees
pub weight-small : (rooting : Rooting) {count : ℕ} (genes : List ℕ) (a : ℕ) → count ≤ 4096 → AllCountable (records_in count genes)
    → weight rooting (records_in count genes) a ≤ 61440
weight-small rooting {count} genes a few can = weight_most rooting (records_in count genes) a (omega (arith, length-records_in count genes)) can

-- a sum over the clusters of a species record
pub total_sum : (weigh : ℕ → ℕ) (cs : List ℕ) → total (map weigh cs) ≡ sum_by weigh cs
unfolding total
total_sum weigh cs = is_sum_by (λ l. total (map weigh l)) weigh refl (λ a l. refl) cs
