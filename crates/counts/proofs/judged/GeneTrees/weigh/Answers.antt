-- `judged::GeneTrees::weigh` meets its contract: what was passed can be counted.
use Rattle.counts.proofs.Passing.{all_countable}
use Rattle.counts.proofs.judged.GeneTrees.weigh.Goals as goal

pub weigh-requires-clause-all_countable : goal.weigh-requires-clause-all_countable
weigh-requires-clause-all_countable c = all_countable c.args.self.now
