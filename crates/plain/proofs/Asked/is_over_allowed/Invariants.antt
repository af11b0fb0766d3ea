-- `plain::Asked::is_over_allowed` meets its contract. The invariant: every cluster passed is allowed.
use Rattle.std.proofs.Common.{◌≡◌, ℕ, ◌<◌, true, get_or}
use Rattle.terms.specs.Allowed.{allowed_in}
use Rattle.plain.proofs.Asked.is_over_allowed.Given as goal

abbrev pub invariant-loop-a : goal.invariant-loop-a
invariant-loop-a l = (k : ℕ) → k < l.a-index → allowed_in l.self.n l.self.allowed.now (get_or l.a-items k 0) ≡ true
