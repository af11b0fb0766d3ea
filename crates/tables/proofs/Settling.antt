-- The two entries of one cluster, for each way that the code takes.
use Prim.Native.Nat.{ℕ, ◌+◌, ◌≤◌, ◌<◌}
use mathlib.Core.Path.{◌≡◌, refl, sym, ap, ◌∙◌}
use mathlib.Core.Logic.{◌⊎◌, inl, inr}
use mathlib.Core.Bool.{Bool, true, false}
use mathlib.Core.List.{List}
use native.Mathlib.Omega.{arith}
use lib.ListN.{get_or, set}
use lib.Seq.{set-get_or}
use Rattle.std.specs.Prelude.{Some, None}
use Rattle.clusters.specs.Sets.{size}
use Rattle.clusters.proofs.Sizes.{size_some}
use Rattle.splits.specs.Least.{no_tree, score_entry}
use Rattle.tables.specs.Work.{Settles}
use Rattle.splits.specs.Work.{BestSplit}
use Rattle.splits.specs.declared.Split.{Split}
use Rattle.splits.proofs.Recurrence.{entry-refused, split-refused, entry-single, split-single}

-- a split that is not the mark can be added to
pub sum_below_lem : {x : ℕ} → (x ≡ no_tree) ⊎ (x < 16777216) → (x ≡ no_tree → ⊥) → x < 16777216
sum_below_lem (inl e) f = absurd (f e)
sum_below_lem (inr l) f = l

module _ (ok : ℕ → Bool) (a : ℕ) (scores splits : List ℕ) where
  -- an allowed cluster without a split
  pub settles_none : BestSplit scores a None → ok a ≡ true → Settles ok a scores splits (set scores a no_tree) (set splits a 0)
  settles_none h allow w light below own =
      let of = h.of_best w ok light allow below in
      (ap (set scores a) (sym (ap (score_entry w) (of.missing refl))), ap (set splits a) of.low)

  -- an allowed cluster with one: its own weight, once, and the scores of both parts
  pub settles_split : {s : Split} {score : ℕ} → BestSplit scores a (Some s) → ok a ≡ true → score ≡ get_or scores a 0 + s.score
      → Settles ok a scores splits (set scores a score) (set splits a s.low)
  settles_split {s} h allow e w light below own =
      let of = h.of_best w ok light allow below in
      let small = h.small.score in
      (ap (set scores a) (e ∙ ap (λ n. n + s.score) own ∙ sym (of.score (λ k. omega arith))), ap (set splits a) of.low)

  -- a cluster that is not allowed
  pub settles_refused : ok a ≡ false → Settles ok a scores splits (set scores a no_tree) (set splits a 0)
  settles_refused refuse w light below own = (ap (set scores a) (sym (entry-refused w ok a refuse)), ap (set splits a) (sym (split-refused w ok a refuse)))

  -- a single species: its weight stays
  pub settles_single : ok a ≡ true → size a ≡ 1 → Settles ok a scores splits scores (set splits a 0)
  settles_single allow one w light below own =
      (sym (set-get_or scores a 0) ∙ ap (set scores a) (own ∙ sym (entry-single w ok a one allow)), ap (set splits a) (sym (split-single w ok a one)))

-- a cluster of some species, but not of one
pub two_of_more : {a : ℕ} → 1 ≤ a → (size a ≡ 1 → ⊥) → 2 ≤ size a
two_of_more {a} some f = omega (arith, size_some some)
