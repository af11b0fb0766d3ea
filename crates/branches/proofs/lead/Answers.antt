-- `lead` meets its contract: the run of such bytes, which ends within the text.
use native.Mathlib.Omega.{arith}
use mathlib.Core.Path.{◌≡◌}
use lib.ListN.{drop}
use Rattle.labels.specs.Bytes.{run}
use Rattle.labels.proofs.Runs.{run_left}
use Rattle.branches.specs.Ends.{is_lead, lead}
use Rattle.branches.proofs.lead.Goals.{After-run}
use Rattle.branches.proofs.lead.Goals as goal

-- the run is counted
counted : (c : After-run) → c.run.result ≡ run is_lead (drop c.args.at c.args.text.now)
counted c = c.run.ensures is_lead (λ b r h. h)

pub overflow_add-result : goal.overflow_add-result
overflow_add-result c =
    let left = run_left is_lead c.args.text.now c.args.at c.run.result (counted (goal.at.overflow_add-result c).After-run) in omega arith

pub returns : goal.returns
unfolding lead
returns c = rw (counted (goal.at.returns c).After-run)
