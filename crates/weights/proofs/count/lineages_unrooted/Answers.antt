-- `weights::count::lineages_unrooted` meets its contract: one law for each way.
use Rattle.std.proofs.Common.{arith}
use lib.Bits.{bit_and}
use Rattle.clusters.proofs.Sets.{minus_within}
use Rattle.clusters.proofs.Parts.{part_and}
use Rattle.trees.specs.Records.{largest}
use Rattle.weights.proofs.Complements.{k_none_outside, k_of_whole, k_of_part}
use Rattle.weights.proofs.Checked.{drawn_few}
use Rattle.weights.proofs.count.lineages_unrooted.Goals as goal

pub returns-then-outside-eq0 : goal.returns-then-outside-eq0
returns-then-outside-eq0 c =
    k_none_outside c.requires.can _ c.if-outside-eq0.true

pub holder-smallest-requires-clause-within : goal.holder-smallest-requires-clause-within
holder-smallest-requires-clause-within c =
    let g = c.args.g.now in minus_within (largest g) (bit_and c.args.a (largest g)) (part_and c.args.a (largest g))

pub overflow_add-result : goal.overflow_add-result
overflow_add-result c =
    let few = drawn_few c.requires.can (bit_and c.args.a c.holder-smallest.result) in
    let narrow = c.requires.narrow in
    omega (arith, c.maximal_within-k.ensures)

pub returns-then-smallest-all : goal.returns-then-smallest-all
returns-then-smallest-all c =
    k_of_whole c.requires.can _ c.if-outside-eq0.false c.holder-smallest.ensures
    c.maximal_within-k.ensures c.if-smallest-all.true

pub returns-else-smallest-all : goal.returns-else-smallest-all
returns-else-smallest-all c =
    k_of_part c.requires.can _ c.if-outside-eq0.false c.holder-smallest.ensures
    c.maximal_within-k.ensures c.if-smallest-all.false
