-- `tree::tree` meets its contract: one way of `TreeWays` for each return.
use native.Mathlib.Omega.{arith}
use mathlib.Core.Path.{◌≡◌, sym, ◌∙◌}
use mathlib.Core.Bool.{true}
use lib.ListN.{drop}
use Rattle.std.proofs.Common.{None}
use Rattle.labels.specs.Bytes.{next_is}
use Rattle.labels.proofs.Exits.{passed_on}
use Rattle.reader.specs.Work.{ReadsTree}
use Rattle.tokens.proofs.Places.{next_is_inside}
use Rattle.nodes.proofs.NodeWays.{NodeCall, Followed}
use Rattle.reader.proofs.TreeWays.{from_start, root-refused_way, end_missing_way, species-missing_way, tree_way}
use Rattle.reader.proofs.tree.tree.Goals.{After-blanks-end, After-node, Else-not-next_is}
use Rattle.reader.proofs.tree.tree.Goals as goal

abbrev root-call : (c : After-node) → NodeCall None
    (from_start c.args.reader.now c.args.start c.args.room c.args.found.now)
root-call c = record {
  after = c.node.new.found;
  result = c.node.result;
  reads = c.node.ensures;
}

abbrev followed :
    (c : After-blanks-end)
    → Followed c.args.reader.now.text.now
    c.node.result
followed c = record {
  read = c.in_ok-root.root;
  told = c.in_ok-root.was;
  here = c.blanks-end.result;
  passed = c.blanks-end.ensures;
}

at_end :
    (c : Else-not-next_is)
    → next_is 59 (drop c.blanks-end.result c.args.reader.now.text.now) ≡ true
at_end c = sym c.next_is.ensures ∙ c.if-not-next_is.false

pub returns-in_err-root : goal.returns-in_err-root
unfolding ReadsTree
returns-in_err-root c =
    λ names holds k deep.
    rw (passed_on c.from_residual.result c.from_residual.ensures.1)
    (root-refused_way c.args.reader.now names holds c.args.start c.args.needed c.args.room c.args.found.now k deep
    (root-call (goal.at.returns-in_err-root c).After-node) _ c.in_err-root.was)

pub returns-then-not-next_is : goal.returns-then-not-next_is
unfolding ReadsTree
returns-then-not-next_is c =
    λ names holds k deep.
    end_missing_way c.args.reader.now names holds c.args.start c.args.needed
    c.args.room c.args.found.now k deep (root-call (goal.at.returns-then-not-next_is c).After-node) (followed (goal.at.returns-then-not-next_is c).After-blanks-end) c.stray.result
    (sym c.next_is.ensures ∙ c.if-not-next_is.true) c.stray.ensures

pub returns-then-not-within : goal.returns-then-not-within
unfolding ReadsTree
returns-then-not-within c =
    λ names holds k deep.
    rw c.at.ensures
    (species-missing_way c.args.reader.now names holds c.args.start c.args.needed
    c.args.room c.args.found.now k deep (root-call (goal.at.returns-then-not-within c).After-node) (followed (goal.at.returns-then-not-within c).After-blanks-end) (at_end (goal.at.returns-then-not-within c).Else-not-next_is)
    (sym c.within.ensures ∙ c.if-not-within.true))

pub overflow_add-next : goal.overflow_add-next
overflow_add-next c =
    let h = next_is_inside c.args.reader.now.text.now c.blanks-end.result 59 (at_end (goal.at.overflow_add-next c).Else-not-next_is) in omega arith

pub returns : goal.returns
unfolding ReadsTree
returns c =
    λ names holds k deep.
    tree_way c.args.reader.now names holds c.args.start c.args.needed
    c.args.room c.args.found.now k deep (root-call (goal.at.returns c).After-node) (followed (goal.at.returns c).After-blanks-end) (at_end (goal.at.returns c).Else-not-next_is)
    (sym c.within.ensures ∙ c.if-not-within.false)
