-- `tree::answered` meets its contract: 1, 2, a start beyond the text, or the tree.
use native.Mathlib.Omega.{arith}
use mathlib.Core.Path.{refl}
use Rattle.labels.proofs.Exits.{passed_on}
use Rattle.roster.proofs.Judging.{read-room}
use Rattle.reader.proofs.Calls.{given-room, roster-refused, long-refused, start_refused, tree-answered}
use Rattle.reader.proofs.tree.answered.Goals as goal

pub returns-in_err-roster : goal.returns-in_err-roster
returns-in_err-roster c =
    let found = c.args.found.now in
    rw (passed_on c.from_residual.result c.from_residual.ensures.1)
    (roster-refused c.args.limits c.args.kind c.args.threshold c.args.line.now c.args.text.now c.args.start c.parse.result
    c.parse.ensures found found _ c.in_err-roster.was)

pub returns-then-text-gt65536 : goal.returns-then-text-gt65536
returns-then-text-gt65536 c =
    let found = c.args.found.now in
    rw c.at.ensures
    (long-refused c.args.limits c.args.kind c.args.threshold c.args.line.now c.args.text.now c.args.start c.parse.result
    c.parse.ensures found found _ c.in_ok-roster.was c.if-text-gt65536.true)

pub returns-then-text-start : goal.returns-then-text-start
returns-then-text-start c =
    let found = c.args.found.now in
    rw c.at-then-text-start.ensures
    (start_refused c.args.limits c.args.kind c.args.threshold c.args.line.now c.args.text.now c.args.start c.parse.result
    c.parse.ensures found found _ c.in_ok-roster.was c.if-text-gt65536.false c.if-text-start.true)

pub needed-requires : goal.needed-requires
needed-requires c =
    let room = read-room c.args.limits.most c.args.line.now c.parse.result c.parse.ensures c.requires.most_bound _ c.in_ok-roster.was in
    omega (arith, room.1, c.requires.most_bound)

pub tree-requires : goal.tree-requires
tree-requires c =
    given-room c.args.limits.most c.args.line.now c.parse.result _ c.args.found.now c.parse.ensures c.in_ok-roster.was c.requires.most_bound c.requires.most_in_bounds

pub returns : goal.returns
returns c =
    tree-answered c.args.limits c.args.kind c.args.threshold c.args.line.now c.args.text.now c.args.start c.parse.result
    c.parse.ensures c.args.found.now c.tree.new.found _ c.in_ok-roster.was c.if-text-gt65536.false c.needed.result c.needed.ensures c.if-text-start.false
    c.tree.result _ refl refl refl refl c.tree.ensures

pub invariant_of-reader : goal.invariant_of-reader
invariant_of-reader c =
    let room = read-room c.args.limits.most c.args.line.now c.parse.result c.parse.ensures c.requires.most_bound _ c.in_ok-roster.was in
    record { few = omega (arith, room.1, c.requires.most_bound); long = omega (arith, room.0, room.1, c.requires.most_bound) }
