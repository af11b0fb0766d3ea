-- `search::long_enough` meets its contract: each way to 12, and none.
use Rattle.std.proofs.Common.{length}
use borrow.Author.Tests.{lt-ltb, le-ltb}
use Rattle.roster.specs.Verdict.{verdict, length_test}
use Rattle.search.proofs.long_enough.Goals.{then-allowed-entries-via-then-allowed-entries, then-allowed-entries-via-else-allowed-entries+then-scores-entries, then-allowed-entries-via-else-allowed-entries+else-scores-entries+then-splits-entries}
use Rattle.search.proofs.long_enough.Goals as goal

pub returns-then-allowed-entries : goal.returns-then-allowed-entries
unfolding verdict length_test
returns-then-allowed-entries c =
    let allowed = length c.args.allowed.now in
    let scores = length c.args.scores.now in
    let splits = length c.args.splits.now in
    let entries = c.args.entries in
    rw c.at.ensures
    (elim c.then-allowed-entries.branch [
      | then-allowed-entries-via-then-allowed-entries w ↦ rw (lt-ltb allowed entries w.if-allowed-entries.true)
      | then-allowed-entries-via-else-allowed-entries+then-scores-entries w ↦ rw (le-ltb allowed entries w.if-allowed-entries.false, lt-ltb scores entries w.if-scores-entries.true)
      | then-allowed-entries-via-else-allowed-entries+else-scores-entries+then-splits-entries w ↦
          rw (le-ltb allowed entries w.if-allowed-entries.false, le-ltb scores entries w.if-scores-entries.false, lt-ltb splits entries w.if-splits-entries.true)
    ])

pub returns : goal.returns
unfolding verdict length_test
returns c =
    let entries = c.args.entries in
    rw (
      le-ltb (length c.args.allowed.now) entries c.if-allowed-entries.false,
      le-ltb (length c.args.scores.now) entries c.if-scores-entries.false,
      le-ltb (length c.args.splits.now) entries c.if-splits-entries.false,
    )
