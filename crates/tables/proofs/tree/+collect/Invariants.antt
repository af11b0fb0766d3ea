-- `tables::tree::collect` meets its contract. The measure is the cluster itself: both children are smaller numbers.
use Rattle.tables.proofs.tree.+collect.Given as goal

abbrev pub decreases-collect : goal.decreases-collect
decreases-collect l = l.a
