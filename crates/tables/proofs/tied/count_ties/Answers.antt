use native.Mathlib.Omega.{arith}
use Rattle.tables.proofs.Reached.{entries}
use Rattle.tables.proofs.TieTable.{counting_start, counting_length, counting_cluster, counting_next, counting_end}
use Rattle.tables.proofs.tied.count_ties.Goals as goal

pub loop-a-init : goal.loop-a-init
loop-a-init c =
    let args = c.args in counting_start args.scores.now args.splits.now args.ties.now

pub ties_of-count-requires : goal.ties_of-count-requires
ties_of-count-requires c =
    counting_cluster c.loop-a.invariant c.requires (omega (arith, entries c.args.n))

pub bounds-ties-a : goal.bounds-ties-a
bounds-ties-a c =
    let long = c.requires.ties_long in
    omega (arith, counting_length c.loop-a.invariant c.requires, entries c.args.n)

pub loop-a-preserved : goal.loop-a-preserved
loop-a-preserved c =
    counting_next c.loop-a.invariant c.requires (omega (arith, entries c.args.n)) c.ties_of-count.ensures

pub shape_of-ties : goal.shape_of-ties
shape_of-ties c =
    counting_length c.loop-a.invariant c.requires

pub returns : goal.returns
returns c =
    counting_end c.loop-a.invariant c.requires (omega (arith, entries c.args.n))
