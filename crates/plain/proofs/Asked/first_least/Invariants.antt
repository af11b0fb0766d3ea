-- `plain::Asked::first_least` meets its contract. The invariant: what is kept is the best of the trees visited.
use Rattle.plain.specs.Work.{BestOfFirst}
use Rattle.plain.proofs.Asked.first_least.Given as goal

abbrev pub invariant-loop-number : goal.invariant-loop-number
invariant-loop-number l = BestOfFirst l.self.rooting l.self.n l.self.genes.now l.self.count l.self.allowed.now l.number l.best
