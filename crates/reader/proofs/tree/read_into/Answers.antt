-- `tree::read_into` meets its contract: a refusal is passed on, and the clusters of a tree, few enough and narrow enough, are sorted into its record.
use mathlib.Core.Path.{refl}
use Rattle.labels.proofs.Exits.{passed_on}
use native.Mathlib.Omega.{arith}
use Rattle.reader.specs.Promise.{narrow}
use Rattle.reader.proofs.Recording.{Stored, answer-refused, stored-front, reading_refused, reading_recorded}
use Rattle.reader.proofs.tree.read_into.Goals.{In_ok-root}
use Rattle.reader.proofs.tree.read_into.Goals as goal

-- the clusters stand at the front of the table
stored :
    (c : In_ok-root)
    → let found = c.answered.new.found in
    Stored narrow c.args.kind c.args.threshold c.args.line.now c.args.text.now c.args.start found c.in_ok-root.root.next
stored c =
    let found = c.answered.new.found in
    stored-front narrow c.args.kind c.args.threshold c.args.line.now c.args.text.now c.args.start c.args.found.now found
    c.answered.result c.answered.ensures _ c.in_ok-root.was c.requires

pub returns-in_err-root : goal.returns-in_err-root
returns-in_err-root c =
    let found = c.answered.new.found in
    let all = reading_refused c.args.kind c.args.threshold c.args.line.now c.args.text.now c.args.start found _ _
    (answer-refused narrow c.args.kind c.args.threshold c.args.line.now c.args.text.now c.args.start c.args.found.now found
    c.answered.result c.answered.ensures _ c.in_err-root.was)
    refl in
    let p = passed_on c.from_residual.result c.from_residual.ensures.1 in
    rw p
    (record { reads = all.0; stores = all.1 })

pub record_of-requires : goal.record_of-requires
record_of-requires c =
    let s = stored (goal.at.record_of-requires c).In_ok-root in record {
      count_bound = omega (arith, s.few);
      count_in_bounds = s.within;
      by_index = s.small;
    }

pub returns : goal.returns
returns c =
    let found = c.answered.new.found in
    let all = reading_recorded c.args.kind c.args.threshold c.args.line.now c.args.text.now c.args.start found _
    (stored (goal.at.returns c).In_ok-root) c.record_of.result.numbers c.record_of.ensures in
    record { reads = all.0; stores = all.1 }
