use Rattle.std.proofs.Common.{◌∙◌, arith}
use Rattle.clusters.proofs.Sets.{within-refl}
use Rattle.sums.proofs.Grouping.{entered_same, seen-fits}
use Rattle.sums.proofs.RootedChanges.{nodes_start, nodes_next, rooted_done}
use Rattle.sums.proofs.rooted.add_rooted.Goals as goal

pub change-requires : goal.change-requires
change-requires g c =
    seen-fits c.requires.entered _ (within-refl _) c.entry.ensures

pub loop-i-init : goal.loop-i-init
loop-i-init g c =
    nodes_start _ _ _ _

pub add_node-requires : goal.add_node-requires
add_node-requires g c =
    record {
      narrow = c.requires.narrow;
      countable = c.requires.countable;
      entered = entered_same c.requires.entered (c.loop-i.invariant.changed.same ∙ c.change.ensures.same);
      le_i = c.loop-i.invariant.first;
      i_bound = omega arith;
    }

pub loop-i-preserved : goal.loop-i-preserved
loop-i-preserved g c =
    nodes_next c.requires.countable c.loop-i.invariant (omega arith) c.add_node.ensures

pub returns : goal.returns
returns g c =
    rooted_done _ c.requires.countable c.loop-i.invariant (omega arith) c.entry.ensures c.change.ensures

pub returns-2 : goal.returns-2
returns-2 g c =
    rooted_done _ c.requires.countable (nodes_next c.requires.countable c.loop-i.invariant (omega arith) c.add_node.ensures) (omega arith) c.entry.ensures
    c.change.ensures
