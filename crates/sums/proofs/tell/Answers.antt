use Rattle.std.proofs.Common.{ℕ, ◌+◌, ◌%◌, get_or, refl, ap, arith, length-set}
use Rattle.weights.specs.Subsets.{modulus}
use Rattle.sums.proofs.Telling.{told_start, told_next, told_end}
use Rattle.sums.proofs.tell.Goals as goal

pub loop-a-init : goal.loop-a-init
loop-a-init c =
    told_start _ _ c.args.sums.now _ c.requires.in_bounds

pub loop-a-preserved : goal.loop-a-preserved
loop-a-preserved c =
    let same = length-set c.args.sums.now 0 0 in
    let few = c.requires.count_bound in
    told_next c.loop-a.invariant _ (omega arith) (omega arith)
    (ap (λ (k : ℕ). (get_or c.loop-a.sums c.loop-a.a 0 + k) % modulus) c.from.ensures) (omega arith)

pub returns : goal.returns
returns c =
    let same = length-set c.args.sums.now 0 0 in
    told_end c.args.sums.now c.loop-a.invariant refl (omega arith)
