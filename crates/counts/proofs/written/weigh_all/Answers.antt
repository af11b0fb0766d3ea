use native.Mathlib.Omega.{arith}
use mathlib.Core.Path.{refl}
use Rattle.counts.proofs.Weighing.{weight-fits, weighed_start, weighed_next, weighed_end}
use Rattle.counts.proofs.Passing.{all_countable}
use Rattle.counts.proofs.written.weigh_all.Goals as goal

pub loop-i-init : goal.loop-i-init
loop-i-init c =
    weighed_start _ _ _ _ refl refl

-- a weight fits 32 bits
pub overflow_cast-counts : goal.overflow_cast-counts
overflow_cast-counts c =
    let trees = c.args.trees.now in
    record { fits = weight-fits _ trees.genes.now trees.count _ trees.shaped.few_genes (all_countable trees) c.weigh.ensures }

pub loop-i-preserved : goal.loop-i-preserved
loop-i-preserved c =
    let most = c.requires.counted in
    weighed_next _ _ _ c.loop-i.invariant (omega arith) c.weigh.ensures

pub returns : goal.returns
returns c =
    weighed_end _ _ _ c.loop-i.invariant (omega arith)
