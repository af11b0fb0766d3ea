-- `records::presence::among` meets its contract.
use mathlib.Core.Path.{sym, subst}
use mathlib.Core.Bool.{Bool}
use Rattle.trees.specs.Decides.{Decides}
use Rattle.trees.specs.Lists.{Among}
use Rattle.records.proofs.Deciding.{decides_contains}
use Rattle.records.proofs.presence.among.Goals as goal

pub returns : goal.returns
returns c =
    subst (λ (b : Bool). Decides b (Among c.args.a c.args.clusters.now)) (sym c.contains.ensures.value) (decides_contains c.args.a c.args.clusters.now)
