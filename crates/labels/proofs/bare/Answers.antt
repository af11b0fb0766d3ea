-- `bare` counts the run and, where it is short enough, decodes it.
use Rattle.std.proofs.Common.{◌≡◌, arith, rules, drop}
use Rattle.labels.specs.Bytes.{is_bare, run}
use Rattle.labels.proofs.Runs.{run_left}
use Rattle.labels.proofs.Scans.{bare-ended, bare-long}
use Rattle.labels.proofs.bare.Goals.{After-run-n}
use Rattle.labels.proofs.bare.Goals as goal

-- the run is counted
counted : (c : After-run-n) → c.run-n.result ≡ run is_bare (drop c.args.at c.args.text.now)
counted c = c.run-n.ensures is_bare (λ b r h. search rules)

pub overflow_add-at : goal.overflow_add-at
overflow_add-at c =
    let left = run_left is_bare c.args.text.now c.args.at c.run-n.result (counted (goal.at.overflow_add-at c).After-run-n) in omega arith

pub returns-then-n-gt15 : goal.returns-then-n-gt15
returns-then-n-gt15 c =
    rw c.at.ensures (bare-long c.args.text.now c.args.at c.run-n.result c.requires (counted (goal.at.returns-then-n-gt15 c).After-run-n) c.if-n-gt15.true)

pub overflow_add-result : goal.overflow_add-result
overflow_add-result c =
    let left = run_left is_bare c.args.text.now c.args.at c.run-n.result (counted (goal.at.overflow_add-result c).After-run-n) in omega arith

pub returns : goal.returns
returns c =
    bare-ended c.args.text.now c.args.at c.run-n.result c.requires (counted (goal.at.returns c).After-run-n) c.padded.result c.if-n-gt15.false
    c.padded.ensures
