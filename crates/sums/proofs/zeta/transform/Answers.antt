use Rattle.std.proofs.Common.{◌≡◌, ℕ, ◌+◌, List, sym, refl, ap, ◌∙◌, subst, arith}
use Rattle.weights.specs.Subsets.{zeta}
use Rattle.sums.specs.Work.{AtMost}
use Rattle.sums.proofs.Telling.{zeta_none, zeta_more}
use Rattle.sums.proofs.zeta.transform.Goals as goal

pub loop-i-init : goal.loop-i-init
loop-i-init c =
    (zeta_none _, zeta_none _)

pub step-requires-clause-at_most : goal.step-requires-clause-at_most
step-requires-clause-at_most c =
    subst (λ (l : List ℕ). AtMost 4096 l) (sym (zeta_more c.loop-i.i c.args.lost.now c.loop-i.invariant.1 refl))
    (c.requires.by_index (c.loop-i.i + 1) (omega arith))

pub loop-i-preserved : goal.loop-i-preserved
loop-i-preserved c =
    let made = c.step.ensures in (
      zeta_more c.loop-i.i c.args.sums.now c.loop-i.invariant.0 made.sums_after,
      zeta_more c.loop-i.i c.args.lost.now c.loop-i.invariant.1 made.lost_after,
    )

pub returns-clause-sums_after : goal.returns-clause-sums_after
returns-clause-sums_after c =
    let all : c.loop-i.i ≡ c.args.n = omega arith in
    c.loop-i.invariant.0 ∙ ap (λ (k : ℕ). zeta k c.args.sums.now) all

pub returns-clause-lost_after : goal.returns-clause-lost_after
returns-clause-lost_after c =
    let all : c.loop-i.i ≡ c.args.n = omega arith in
    c.loop-i.invariant.1 ∙ ap (λ (k : ℕ). zeta k c.args.lost.now) all
