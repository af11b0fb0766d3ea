-- `weights::marking::mark_tree` meets its contract, rooting by rooting: what is marked after the other is one list.
use Rattle.weights.proofs.Shown.{length_marked, marked_append}
use Rattle.weights.proofs.marking.mark_tree.Goals as goal

pub mark_complements-requires : goal.mark_complements-requires
mark_complements-requires c = rw (c.mark_own.ensures, length_marked) c.requires

pub returns-in-Unrooted : goal.returns-in-Unrooted
returns-in-Unrooted c = rw c.in-Unrooted.is (marked_append _ _ _ c.mark_own.ensures c.mark_complements.ensures)
