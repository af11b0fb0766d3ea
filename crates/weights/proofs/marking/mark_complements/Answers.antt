use Prim.Native.Nat.{◌≤◌}
use native.Mathlib.Omega.{arith}
use lib.ListN.{get_or}
use Rattle.trees.specs.Lists.{Among}
use Rattle.trees.specs.Records.{count, listed}
use Rattle.trees.proofs.GeneRecords.{largest-among, among-le-largest}
use Rattle.weights.proofs.Checked.{listed_at}
use Rattle.weights.proofs.ToMark.{complements_first, complements_next, complements_end}
use Rattle.weights.proofs.Shown.{marked_start, marked_next, marked_end}
use Rattle.weights.proofs.marking.mark_complements.Goals.{In-loop-i}
use Rattle.weights.proofs.marking.mark_complements.Goals as goal

-- the cluster that is read
read : (c : In-loop-i) → c.loop-i.i ≤ count c.args.g.now
    → Among (get_or c.args.g.now c.loop-i.i 0) (listed c.args.g.now)
read c l = listed_at c.loop-i.i c.requires.form c.loop-i.invariant.first (omega arith)

pub loop-i-init : goal.loop-i-init
loop-i-init c = rw (complements_first c.args.g.now) (marked_start _ _)

pub overflow_sub-out : goal.overflow_sub-out
overflow_sub-out c = (among-le-largest c.requires.form (read (goal.at.overflow_sub-out c).In-loop-i (omega arith))).1

pub bounds-out-all : goal.bounds-out-all
bounds-out-all c =
    let form = c.requires.form in
    let some = (among-le-largest form (read (goal.at.bounds-out-all c).In-loop-i (omega arith))).0 in
    omega (arith, c.loop-i.invariant.same, c.requires.below _ (largest-among form some))

pub loop-i-preserved : goal.loop-i-preserved
loop-i-preserved c = marked_next c.loop-i.invariant (complements_next c.loop-i.i c.requires.form c.loop-i.invariant.first (omega arith))

pub returns : goal.returns
returns c = marked_end c.loop-i.invariant (complements_end c.args.g.now c.loop-i.i c.loop-i.invariant.first (omega arith))
