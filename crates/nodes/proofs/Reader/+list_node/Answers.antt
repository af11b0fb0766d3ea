-- `Reader::node` and `Reader::list` meet their contracts: one way of `NodeWays` for each return.
use Prim.Native.Nat.{ℕ, ◌+◌, ◌-◌, ◌*◌}
use native.Mathlib.Omega.{arith}
use mathlib.Core.Path.{◌≡◌, refl, sym, ◌∙◌}
use mathlib.Core.Bool.{true}
use mathlib.Core.List.{List}
use lib.ListN.{length, drop}
use Rattle.labels.specs.Bytes.{next_is}
use Rattle.nodes.specs.Core.{ReadsNode, ReadsList}
use Rattle.nodes.specs.declared.Reader.{Reader}
use Rattle.nodes.specs.declared.answer.Cursor.{Cursor}
use Rattle.labels.proofs.Exits.{passed_on}
use Rattle.tokens.proofs.Places.{next_is_inside}
use Rattle.nodes.proofs.NodeWays.{Asked, inside, onwards, NodeCall, ListCall, Followed, Opening, leaf_way, stray_way, full_way, opening-inside, first_falls, first_refused_way, no_comma_way, first_grown, others_fall, others-refused_way, others-grown, node_way, child-refused_way, list-stray_way, last_way, child-grown, rest-falls, rest-refused_way, more_way}
use Rattle.nodes.proofs.Reader.+list_node.Goals.{list-After-node, list-After-blanks-at, list-Then-next_is, list-After-list, node-Else-room-eq0, node-After-node, node-After-blanks-comma, node-Else-not-next_is-2, node-After-list}
use Rattle.nodes.proofs.Reader.+list_node.Goals as goal

-- what a call is asked
abbrev asked : Reader → Cursor → ℕ → List ℕ → Asked
asked reader cursor room found = record { reader = reader; cursor = cursor; room = room; before = found }

-- ---- the list

-- the node that it begins with, and what was read of it
abbrev child : (t : ℕ) (c : list-After-node t) → NodeCall c.args.self.now.threshold (asked c.args.self.now c.args.c c.args.room c.args.found.now)
child t c = record { after = c.node.new.found; result = c.node.result; reads = c.node.ensures }

abbrev behind_child : (t : ℕ) (c : list-After-blanks-at t) → Followed c.args.self.now.text.now c.node.result
behind_child t c = record { read = c.in_ok-mask.field-0; told = c.in_ok-mask.was; here = c.blanks-at.result; passed = c.blanks-at.ensures }

-- a comma, and the nodes behind it
child_comma : (t : ℕ) (c : list-Then-next_is t) → next_is 44 (drop c.blanks-at.result c.args.self.now.text.now) ≡ true
child_comma t c = sym c.next_is.ensures ∙ c.if-next_is.true

abbrev more_nodes :
    (t : ℕ) (c : list-After-list t)
    → ListCall (onwards (asked c.args.self.now c.args.c c.args.room c.args.found.now) c.in_ok-mask.field-0.next c.node.new.found c.blanks-at.result)
more_nodes t c = record { after = c.list.new.found; result = c.list.result; reads = c.list.ensures }

pub list-returns-in_err-mask : goal.list-returns-in_err-mask
unfolding ReadsList
list-returns-in_err-mask t c = λ names holds k deep.
    rw (passed_on c.from_residual.result c.from_residual.ensures.1) (child-refused_way _ names holds k deep (child t (goal.at.list-returns-in_err-mask t c).After-node) _ c.in_err-mask.was)

pub list-overflow_add-onwards : goal.list-overflow_add-onwards
list-overflow_add-onwards t c =
    let h = next_is_inside c.args.self.now.text.now c.blanks-at.result 44 (child_comma t (goal.at.list-overflow_add-onwards t c).Then-next_is) in
    omega arith

pub list-list-requires : goal.list-list-requires
list-list-requires t c =
    let p = goal.at.list-list-requires t c in
    let text = c.args.self.now.text.now in
    let a = asked c.args.self.now c.args.c c.args.room c.args.found.now in
    let first = child t p.After-node in
    let followed = behind_child t p.After-blanks-at in
    let comma = child_comma t p.Then-next_is in
    let falls-to = rest-falls a c.requires.holds.0 c.requires.holds.1 (2 * (length text - c.args.c.at) + 2) (omega arith) first followed comma in
    let more = child-grown a c.requires.holds.0 c.requires.holds.1 (2 * (length text - c.args.c.at) + 2) (omega arith) first followed c.requires in
    let e = c.decreases in
    (omega arith, more.given)

pub list-returns-in_err-others : goal.list-returns-in_err-others
unfolding ReadsList
list-returns-in_err-others t c = λ names holds k deep.
    let q = goal.at.list-returns-in_err-others t c in
    rw (passed_on c.from_residual-in_err-others.result c.from_residual-in_err-others.ensures.1)
    (rest-refused_way _ names holds k deep (child t q.After-node) (behind_child t q.After-blanks-at) (child_comma t q.Then-next_is) (more_nodes t q.After-list) _
    c.in_err-others.was)

pub list-returns-then-next_is : goal.list-returns-then-next_is
unfolding ReadsList
list-returns-then-next_is t c = λ names holds k deep.
    let q = goal.at.list-returns-then-next_is t c in
    more_way _ names holds k deep (child t q.After-node) (behind_child t q.After-blanks-at) (child_comma t q.Then-next_is) (more_nodes t q.After-list) _ _ c.union.result
    c.in_ok-others.was c.union.ensures

pub list-overflow_add-next : goal.list-overflow_add-next
list-overflow_add-next t c =
    let h = next_is_inside c.args.self.now.text.now c.blanks-at.result 41 (sym c.next_is-2.ensures ∙ c.if-next_is-2.true) in
    omega arith

pub list-returns-then-next_is-2 : goal.list-returns-then-next_is-2
unfolding ReadsList
list-returns-then-next_is-2 t c = λ names holds k deep.
    let q = goal.at.list-returns-then-next_is-2 t c in
    last_way _ names holds k deep (child t q.After-node) (behind_child t q.After-blanks-at) (sym c.next_is.ensures ∙ c.if-next_is.false)
    (sym c.next_is-2.ensures ∙ c.if-next_is-2.true)

pub list-returns : goal.list-returns
unfolding ReadsList
list-returns t c = λ names holds k deep.
    let q = goal.at.list-returns t c in
    list-stray_way _ names holds k deep (child t q.After-node) (behind_child t q.After-blanks-at) c.stray.result (sym c.next_is.ensures ∙ c.if-next_is.false)
    (sym c.next_is-2.ensures ∙ c.if-next_is-2.false) c.stray.ensures

-- ---- the node

-- a parenthesis opens, and there is room for it
abbrev opening : (t : ℕ) (c : node-Else-room-eq0 t) → Opening (asked c.args.self.now c.args.c c.args.room c.args.found.now)
opening t c = record {
  here = c.blanks-at.result;
  skipped = c.blanks-at.ensures;
  leafless = sym c.next_label.ensures ∙ c.if-next_label.false;
  opens = sym c.next_is.ensures ∙ c.if-not-next_is.false;
  some = c.if-room-eq0.false;
}

-- the first child, and what was read of it
abbrev first_child :
    (t : ℕ) (c : node-After-node t)
    → NodeCall c.args.self.now.threshold (inside (asked c.args.self.now c.args.c c.args.room c.args.found.now) c.blanks-at.result)
first_child t c = record { after = c.node.new.found; result = c.node.result; reads = c.node.ensures }

abbrev behind_first : (t : ℕ) (c : node-After-blanks-comma t) → Followed c.args.self.now.text.now c.node.result
behind_first t c = record { read = c.in_ok-first.first; told = c.in_ok-first.was; here = c.blanks-comma.result; passed = c.blanks-comma.ensures }

-- a comma, and the other children
first_comma : (t : ℕ) (c : node-Else-not-next_is-2 t) → next_is 44 (drop c.blanks-comma.result c.args.self.now.text.now) ≡ true
first_comma t c = sym c.next_is-2.ensures ∙ c.if-not-next_is-2.false

abbrev other_children :
    (t : ℕ) (c : node-After-list t)
    → ListCall (onwards (inside (asked c.args.self.now c.args.c c.args.room c.args.found.now) c.blanks-at.result) c.in_ok-first.first.next c.node.new.found
    c.blanks-comma.result)
other_children t c = record { after = c.list.new.found; result = c.list.result; reads = c.list.ensures }

pub node-returns-then-next_label : goal.node-returns-then-next_label
unfolding ReadsNode
node-returns-then-next_label t c = λ names holds k deep.
    leaf_way (asked c.args.self.now c.args.c c.args.room c.args.found.now) names holds c.blanks-at.result c.blanks-at.ensures k deep c.args.own _ c.leaf.result
    (sym c.next_label.ensures ∙ c.if-next_label.true) c.leaf.ensures

pub node-returns-then-not-next_is : goal.node-returns-then-not-next_is
unfolding ReadsNode
node-returns-then-not-next_is t c = λ names holds k deep.
    stray_way (asked c.args.self.now c.args.c c.args.room c.args.found.now) names holds c.blanks-at.result c.blanks-at.ensures k deep c.args.own _ c.stray.result
    (sym c.next_label.ensures ∙ c.if-next_label.false) (sym c.next_is.ensures ∙ c.if-not-next_is.true) c.stray.ensures

pub node-returns-then-room-eq0 : goal.node-returns-then-room-eq0
unfolding ReadsNode
node-returns-then-room-eq0 t c = λ names holds k deep.
    rw c.at.ensures
    (full_way (asked c.args.self.now c.args.c c.args.room c.args.found.now) names holds c.blanks-at.result c.blanks-at.ensures k deep c.args.own _
    (sym c.next_label.ensures ∙ c.if-next_label.false) (sym c.next_is.ensures ∙ c.if-not-next_is.false) c.if-room-eq0.true)

pub node-overflow_add-inside : goal.node-overflow_add-inside
node-overflow_add-inside t c =
    let h = opening-inside _ c.requires.holds.0 c.requires.holds.1 (opening t (goal.at.node-overflow_add-inside t c).Else-room-eq0) in
    omega arith

pub node-node-requires : goal.node-node-requires
node-node-requires t c =
    let falls-to = first_falls _ c.requires.holds.0 c.requires.holds.1 (opening t (goal.at.node-node-requires t c).Else-room-eq0) in
    let e = c.decreases in
    (omega arith, c.requires)

pub node-returns-in_err-first : goal.node-returns-in_err-first
unfolding ReadsNode
node-returns-in_err-first t c = λ names holds k deep.
    let q = goal.at.node-returns-in_err-first t c in
    rw (passed_on c.from_residual.result c.from_residual.ensures.1) (first_refused_way _ names holds (opening t q.Else-room-eq0) k deep (first_child t q.After-node) c.args.own _ c.in_err-first.was)

pub node-returns-then-not-next_is-2 : goal.node-returns-then-not-next_is-2
unfolding ReadsNode
node-returns-then-not-next_is-2 t c = λ names holds k deep.
    let q = goal.at.node-returns-then-not-next_is-2 t c in
    no_comma_way _ names holds (opening t q.Else-room-eq0) k deep (first_child t q.After-node) (behind_first t q.After-blanks-comma) c.args.own c.no_comma.result
    (sym c.next_is-2.ensures ∙ c.if-not-next_is-2.true) c.no_comma.ensures

pub node-overflow_add-onwards : goal.node-overflow_add-onwards
node-overflow_add-onwards t c =
    let h = next_is_inside c.args.self.now.text.now c.blanks-comma.result 44 (first_comma t (goal.at.node-overflow_add-onwards t c).Else-not-next_is-2) in
    omega arith

pub node-list-requires : goal.node-list-requires
node-list-requires t c =
    let q = goal.at.node-list-requires t c in
    let text = c.args.self.now.text.now in
    let o = opening t q.Else-room-eq0 in
    let first = first_child t q.After-node in
    let followed = behind_first t q.After-blanks-comma in
    let comma = first_comma t q.Else-not-next_is-2 in
    let falls-to = others_fall _ c.requires.holds.0 c.requires.holds.1 o (2 * (length text - c.args.c.at) + 1) (omega arith) first followed comma in
    let more = first_grown _ c.requires.holds.0 c.requires.holds.1 o (2 * (length text - c.args.c.at) + 1) (omega arith) first followed c.requires in
    let e = c.decreases in
    (omega arith, more.given)

pub node-returns-in_err-others : goal.node-returns-in_err-others
unfolding ReadsNode
node-returns-in_err-others t c = λ names holds k deep.
    let q = goal.at.node-returns-in_err-others t c in
    rw (passed_on c.from_residual-in_err-others.result c.from_residual-in_err-others.ensures.1)
    (others-refused_way _ names holds (opening t q.Else-room-eq0) k deep (first_child t q.After-node) (behind_first t q.After-blanks-comma)
    (first_comma t q.Else-not-next_is-2) (other_children t q.After-list) c.args.own _ c.in_err-others.was)

pub node-returns-in_err-figures : goal.node-returns-in_err-figures
unfolding ReadsNode
node-returns-in_err-figures t c = λ names holds k deep.
    let q = goal.at.node-returns-in_err-figures t c in
    rw (passed_on c.from_residual-in_err-figures.result c.from_residual-in_err-figures.ensures.1)
    (rw c.in_err-figures.was at
    (node_way _ names holds (opening t q.Else-room-eq0) k deep (first_child t q.After-node) (behind_first t q.After-blanks-comma)
    (first_comma t q.Else-not-next_is-2) (other_children t q.After-list) _ _ c.in_ok-others.was c.args.own
    _ c.closing.result refl c.closing.ensures.result_value c.closing.ensures.behind_valued))

pub node-ended-requires : goal.node-ended-requires
node-ended-requires t c =
    let q = goal.at.node-ended-requires t c in
    (others-grown _ c.requires.holds.0 c.requires.holds.1 (opening t q.Else-room-eq0) (2 * (length c.args.self.now.text.now - c.args.c.at) + 1) (omega arith)
    (first_child t q.After-node) (behind_first t q.After-blanks-comma) (first_comma t q.Else-not-next_is-2) (other_children t q.After-list) _ _
    c.in_ok-others.was c.requires).room

pub node-returns : goal.node-returns
unfolding ReadsNode
node-returns t c = λ names holds k deep.
    let q = goal.at.node-returns t c in
    rw (c.ended.ensures.value, c.ended.ensures.found_after)
    (rw c.in_ok-figures.was at
    (node_way _ names holds (opening t q.Else-room-eq0) k deep (first_child t q.After-node) (behind_first t q.After-blanks-comma)
    (first_comma t q.Else-not-next_is-2) (other_children t q.After-list) _ _ c.in_ok-others.was c.args.own
    c.union-mask.result c.closing.result c.union-mask.ensures c.closing.ensures.result_value c.closing.ensures.behind_valued))
