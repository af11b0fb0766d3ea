-- `records::nesting::agree` meets its contract: the three cases, one after the other.
use mathlib.Core.Path.{sym, ◌∙◌}
use mathlib.Core.Bool.{true≢false}
use mathlib.Core.Logic.{inl, inr}
use Rattle.clusters.proofs.Sets.{apart-true, apart-false, within-true, within-false}
use Rattle.records.proofs.Deciding.{decides_yes}
use Rattle.records.proofs.Pairs.{last_test}
use Rattle.records.proofs.nesting.agree.Goals as goal
use Rattle.records.proofs.nesting.agree.Goals.{then-apart, else-apart}

pub returns-then-within : goal.returns-then-within
returns-then-within c =
    elim c.if-apart.branch [
      | then-apart w ↦ decides_yes _ c.if-within.true (inl (apart-true _ _ (sym c.apart.ensures ∙ w.if-apart.true)))
      | else-apart w ↦
          decides_yes _ c.if-within.true (inr (inl (within-true _ _ (sym w.within.ensures ∙ sym w.value-is ∙ c.if-within.true))))
    ]

pub returns-else-within : goal.returns-else-within
returns-else-within c =
    elim c.if-apart.branch [
      | then-apart w ↦ absurd (true≢false (sym w.if-apart.true ∙ sym w.value-is ∙ c.if-within.false))
      | else-apart w ↦
          last_test _ _ c.within-else-within.result (apart-false _ _ (sym c.apart.ensures ∙ w.if-apart.false))
          (within-false _ _ (sym w.within.ensures ∙ sym w.value-is ∙ c.if-within.false)) c.within-else-within.ensures
    ]
