use Rattle.std.proofs.Common.{◌≡◌, ◌<◌, ℕ, get_or, take, sym, ap, ◌∙◌, arith}
use lib.ListN.{length-take}
use lib.Seq.{get_or-take}
use Rattle.clusters.specs.Sets.{within, union}
use Rattle.weights.specs.Stand.{individuals_of}
use Rattle.weights.proofs.Groups.{individuals_none, individuals-joined, individuals-passed}
use Rattle.weights.proofs.wide.individuals_of.Goals.{then-within, else-within}
use Rattle.weights.proofs.wide.individuals_of.Goals as goal

pub loop-i-init : goal.loop-i-init
loop-i-init c = sym (individuals_none _)

pub loop-i-preserved : goal.loop-i-preserved
loop-i-preserved c =
    let groups = c.args.groups.now in
    let less : c.loop-i.i < c.args.n = omega (arith, length-take c.args.n groups, c.loop-i-test.true) in
    let group = get_or-take c.args.n groups c.loop-i.i 0 less in
    let long = c.requires.n_in_bounds in
    let told = sym (c.within.ensures ∙ ap (λ (x : ℕ). within x c.args.a) c.single.ensures) in
    elim c.if-within.branch [
      | then-within w ↦ w.all-is ∙ w.union-all.ensures ∙ rw group (ap (λ (x : ℕ). union x (get_or groups c.loop-i.i 0)) c.loop-i.invariant
          ∙ sym (individuals-joined groups c.args.a c.loop-i.i (omega arith) (told ∙ w.if-within.true)))
      | else-within w ↦ w.all-is ∙ c.loop-i.invariant ∙ sym (individuals-passed groups c.args.a c.loop-i.i (omega arith) (told ∙ w.if-within.false))
    ]

pub returns : goal.returns
returns c =
    let long = c.requires.n_in_bounds in
    let all : c.loop-i.i ≡ c.args.n = omega (arith, length-take c.args.n c.args.groups.now, c.loop-i-test.false, c.loop-i.auto.i-end) in
    c.loop-i.invariant ∙ ap (λ (n : ℕ). individuals_of (take n c.args.groups.now) c.args.a) all
