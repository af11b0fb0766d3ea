-- `sums::unrooted::add_unrooted` meets its contract: the whole set, the clusters before it, and their complements.
use Rattle.std.proofs.Common.{◌∙◌}
use Rattle.sums.proofs.RootedChanges.{summable_same}
use Rattle.sums.proofs.UnrootedChanges.{unrooted_done}
use Rattle.sums.proofs.unrooted.add_unrooted.Goals as goal

pub add_complements-requires : goal.add_complements-requires
add_complements-requires c =
    summable_same (c.add_own.ensures.same ∙ c.change.ensures.same) c.requires

pub returns : goal.returns
returns c =
    unrooted_done c.requires.countable c.change.ensures c.add_own.ensures c.add_complements.ensures
