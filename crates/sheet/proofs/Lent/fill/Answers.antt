use Rattle.std.proofs.Common.{◌≡◌, ◌-◌, length, ap, ◌∙◌, arith}
use Rattle.sheet.specs.Promise.{entry_for}
use Rattle.sheet.proofs.FilledTo.{filled_to, filled_as_counted, filled_all, none_filled}
use Rattle.sheet.proofs.Lent.fill.Goals as goal

pub loop-nth-init : goal.loop-nth-init
loop-nth-init c = none_filled _ _ _ (omega arith)

pub loop-nth-preserved : goal.loop-nth-preserved
loop-nth-preserved c = filled_as_counted _ (c.loop-nth.nth - 1) _ _ c.args.entries.now _ (omega arith) (omega arith) c.loop-nth.invariant c.filled.ensures

pub returns : goal.returns
returns c =
    let s = c.args in
    let all : c.loop-nth.nth - 1 ≡ length s.entries.now = omega arith in
    c.loop-nth.invariant ∙ ap (λ k. filled_to (entry_for s.self.now.rooting s.self.now.n s.self.now.genes.now s.self.now.count s.self.now.records.now) k s.entries.now) all ∙ filled_all _ _
