use Rattle.std.proofs.Common.{◌+◌, arith}
use Rattle.sums.proofs.RootedChanges.{listed-fits}
use Rattle.sums.proofs.UnrootedChanges.{proper_at, own_start, own_next, own_end}
use Rattle.sums.proofs.unrooted.add_own.Goals as goal

pub loop-x-init : goal.loop-x-init
loop-x-init c =
    own_start _ _

pub change-requires : goal.change-requires
change-requires c =
    let k = c.loop-x.x-index in
    omega (arith, c.loop-x.invariant.changed.same, listed-fits (k + 1) c.requires (omega arith) (omega arith), proper_at c.args.g.now k (omega arith))

pub loop-x-preserved : goal.loop-x-preserved
loop-x-preserved c =
    own_next c.requires.countable c.loop-x.invariant (proper_at c.args.g.now c.loop-x.x-index (omega arith)) (omega arith) c.size-one.ensures
    c.change.ensures c.change-in-loop-x.ensures

pub returns : goal.returns
returns c =
    own_end c.requires.countable c.loop-x.invariant (omega arith)
