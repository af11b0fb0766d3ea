-- The weights of a record's clusters, entry by entry as they are stored: they fit 32 bits, and they give the notes of the text.
use Prim.Native.Nat.{ℕ, ◌+◌, ◌^◌, ◌≤◌, ◌<◌}
use mathlib.Core.Path.{◌≡◌, sym, ap, ◌∙◌}
use mathlib.Core.List.{List, ◌∷◌}
use native.Mathlib.Omega.{arith}
use lib.ListN.{length, get_or, set, length-set}
use lib.Seq.{get_or-set_same, get_or-set_other}
use borrow.Author.Count.{below_more}
use Rattle.std.proofs.Common.{Some}
use Rattle.trees.specs.Records.{records_in, count as cluster_count}
use Rattle.trees.proofs.Lent.{length-records_in}
use Rattle.printing.specs.Words.{decimal}
use Rattle.texts.specs.Writing.{count_note}
use Rattle.texts.specs.Work.{Notes}
use Rattle.weights.specs.Count.{weight}
use Rattle.weights.specs.Work.{AllCountable}
use Rattle.weights.specs.declared.Rooting.{Rooting}
use Rattle.weights.proofs.Sums.{weight-bound}
use Rattle.counts.specs.Promise.{weight_in}
use Rattle.counts.specs.Work.{Weighed}

-- a gene tree adds at most 15, so over 4,096 of them no weight has more than five digits
pub weight-small :
    (rooting : Rooting) (genes : List ℕ) (count a : ℕ) → count ≤ 4096 → AllCountable (records_in count genes)
    → weight rooting (records_in count genes) a ≤ 61440
weight-small rooting genes count a few can =
    let b = weight-bound rooting (records_in count genes) a can in
    let l = length-records_in count genes in
    omega arith

-- so each fits 32 bits
pub weight-fits :
    (rooting : Rooting) (genes : List ℕ) (count a : ℕ) {w : ℕ} → count ≤ 4096 → AllCountable (records_in count genes)
    → w ≡ weight rooting (records_in count genes) a → w < 2 ^ 32
weight-fits rooting genes count a few can is = let s = weight-small rooting genes count a few can in omega arith

-- ---- one after the other

-- the entries before the i-th hold the weights of their clusters
pub record WeighedTo (genes : List ℕ) (count : ℕ) (r counts : List ℕ) (i : ℕ) : Type 0 where
  pub long : length counts ≡ 32
  pub each : (k : ℕ) → k < i → 1 ≤ k → get_or counts k 0 ≡ weight_in genes count (get_or r k 0)

module _ (genes : List ℕ) (count : ℕ) (r : List ℕ) where
  pub weighed_start : (counts : List ℕ) {i : ℕ} → i ≡ 1 → length counts ≡ 32 → WeighedTo genes count r counts i
  weighed_start counts is long = record { long = long; each = λ k below some. absurd (omega arith) }

  pub weighed_next :
      {counts : List ℕ} {i w : ℕ} → WeighedTo genes count r counts i → i < 32 → w ≡ weight_in genes count (get_or r i 0)
      → WeighedTo genes count r (set counts i w) (i + 1)
  weighed_next {counts} {i} {w} now inside is = record {
    long = length-set counts i w ∙ now.long;
    each =
        below_more (λ k. 1 ≤ k → get_or (set counts i w) k 0 ≡ weight_in genes count (get_or r k 0)) i
        (λ k below some. get_or-set_other counts i k w 0 (λ e. omega arith) ∙ now.each k below some)
        (λ some. get_or-set_same counts i w 0 (let l = now.long in omega arith) ∙ is);
  }

  pub weighed_end : {counts : List ℕ} {i : ℕ} → WeighedTo genes count r counts i → cluster_count r < i → Weighed genes count r counts
  weighed_end now past = record { each = λ k some most. now.each k (omega arith) some }

  -- ---- the notes that they give

  pub weighed_notes : {counts : List ℕ} → Weighed genes count r counts → Notes (Some counts) r (count_note (weight_in genes count))
  weighed_notes weighed = record { each = λ i one most. ap (λ (w : ℕ). 58 ∷ decimal w) (sym (weighed.each i one most)) }
