use Rattle.outcomes.proofs.Allowed.{marked}
use Rattle.outcomes.proofs.solve.Counted.allow.Goals as goal

pub returns : goal.returns
returns c = rw c.if-asked.false (marked c.args.self.now.countable c.requires c.mark.ensures)
