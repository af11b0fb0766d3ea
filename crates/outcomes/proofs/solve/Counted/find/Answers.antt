-- No check of the search refuses, so its reply is what it finds.
use mathlib.Core.Path.{refl}
use Rattle.outcomes.proofs.Allowed.{counted}
use Rattle.outcomes.proofs.Searching.{found}
use Rattle.outcomes.proofs.solve.Counted.find.Goals as goal

pub returns : goal.returns
returns c =
    found (counted c.args.self.now.countable) c.requires refl refl refl c.searched_with_ties.ensures
