-- `judged::GeneTrees::score` meets its contract: what was passed can be counted.
use Rattle.counts.proofs.Passing.{all_countable}
use Rattle.counts.proofs.judged.GeneTrees.score.Goals as goal

pub weigh_tree-requires-clause-all_countable : goal.weigh_tree-requires-clause-all_countable
weigh_tree-requires-clause-all_countable c = all_countable c.args.self.now
