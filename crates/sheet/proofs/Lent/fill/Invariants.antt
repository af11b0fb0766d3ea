-- `sheet::Lent::fill` meets its contract. The invariant: the entries passed are filled, the others are as they were lent.
use Rattle.std.proofs.Common.{◌≡◌, ◌-◌}
use Rattle.sheet.specs.Promise.{entry_for}
use Rattle.sheet.proofs.FilledTo.{filled_to}
use Rattle.sheet.proofs.Lent.fill.Given as goal

abbrev pub invariant-loop-nth : goal.invariant-loop-nth
invariant-loop-nth l = l.entries ≡ filled_to (entry_for l.self.rooting l.self.n l.self.genes.now l.self.count l.self.records.now) (l.nth - 1) l.initial.entries
