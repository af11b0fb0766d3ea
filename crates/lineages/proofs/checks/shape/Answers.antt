-- `lineages::checks::shape` meets its contract: each way out is the first fault, or none.
use mathlib.Core.Path.{sym}
use native.Mathlib.Omega.{arith}
use Rattle.lineages.proofs.Verdicts.{wrong_species, wrong_genes, too_short, well_shaped}
use Rattle.lineages.proofs.checks.shape.Goals as goal

pub returns-then-n-lt1 : goal.returns-then-n-lt1
returns-then-n-lt1 c = let s = c.args in rw c.at.ensures (sym (wrong_species s.n s.genes.now s.count c.then-n-lt1.either))

pub returns-then-count-lt1 : goal.returns-then-count-lt1
returns-then-count-lt1 c =
    let s = c.args in rw c.at-then-count-lt1.ensures (sym (wrong_genes s.n s.genes.now s.count (omega arith) (omega arith) c.then-count-lt1.either))

pub returns-then-genes-count : goal.returns-then-genes-count
returns-then-genes-count c =
    let s = c.args in
    rw c.at-then-genes-count.ensures (sym (too_short s.n s.genes.now s.count (omega arith) (omega arith) (omega arith) (omega arith) (omega arith)))

pub returns : goal.returns
returns c =
    let s = c.args in
    sym (well_shaped s.n s.genes.now s.count
    (record {
      some_species = omega arith;
      few_species = omega arith;
      some_genes = omega arith;
      few_genes = omega arith;
      fits = omega arith;
    }))
