-- `solver::tree::solution` meets its contract: the clusters of the chosen tree are stored, and make its record.
use native.Mathlib.Omega.{arith}
use lib.ListN.{replicate}
use Rattle.tables.proofs.Descent.{chooses_more, front_fits, front_few, front_below, front-clusters}
use Rattle.solver.proofs.tree.solution.Goals as goal

pub collect-count-requires : goal.collect-count-requires
collect-count-requires c =
    record {
      a_in_bounds = c.requires.all_in_bounds;
      a_bound = c.requires.all_bound;
      chooses = chooses_more c.requires.chooses (omega arith);
    }

pub record_of-tree-requires : goal.record_of-tree-requires
record_of-tree-requires c =
    let room = chooses_more {room = 32} c.requires.chooses (omega arith) in
    let stored = c.collect-count.ensures in record {
      count_bound = front_few (replicate 32 0) room stored c.requires.chooses;
      count_in_bounds = front_fits (replicate 32 0) room stored;
      by_index = λ k l. omega (arith, front_below (replicate 32 0) room stored k l, c.requires.all_bound);
    }

pub returns : goal.returns
returns c t e h =
    let room = chooses_more {room = 32} c.requires.chooses (omega arith) in
    let clusters = front-clusters (replicate 32 0) room c.collect-count.ensures t e h in
    rw (c.record_of-tree.ensures, clusters)
