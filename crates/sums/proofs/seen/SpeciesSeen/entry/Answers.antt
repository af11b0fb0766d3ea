use Rattle.std.proofs.Common.{sym, ap, ◌∙◌, ap₂, arith}
use Rattle.std.proofs.lemmas.List.{take_all}
use Rattle.clusters.specs.Sets.{union}
use Rattle.weights.specs.Stand.{species_in}
use Rattle.weights.proofs.Groups.{species_none, species-joined, species-passed}
use Rattle.sums.proofs.seen.SpeciesSeen.entry.Goals.{then-not-apart, else-not-apart}
use Rattle.sums.proofs.seen.SpeciesSeen.entry.Goals as goal

pub loop-i-init : goal.loop-i-init
loop-i-init c =
    sym (species_none _)

pub loop-i-preserved : goal.loop-i-preserved
loop-i-preserved c =
    let groups = c.args.self.now.groups.now in
    let told = sym c.apart.ensures in
    elim c.if-not-apart.branch [
      | then-not-apart w ↦ w.met-is ∙ w.union-met.ensures ∙ ap₂ union c.loop-i.invariant w.single.ensures
          ∙ sym (species-joined groups c.args.x c.loop-i.i (omega arith) (told ∙ w.if-not-apart.true))
      | else-not-apart w ↦ w.met-is ∙ c.loop-i.invariant ∙ sym (species-passed groups c.args.x c.loop-i.i (omega arith) (told ∙ w.if-not-apart.false))
    ]

pub returns : goal.returns
returns c =
    let groups = c.args.self.now.groups.now in
    c.loop-i.invariant ∙ ap (λ (k : _). species_in k c.args.x) (take_all c.loop-i.i groups c.loop-i-test.false)
