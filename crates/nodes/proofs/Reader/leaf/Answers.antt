-- `Reader::leaf` meets its contract: a label at fault, a name unknown, repeated, or a leaf with what stands behind it.
use mathlib.Core.Path.{refl, sym, ◌∙◌}
use Rattle.labels.proofs.Exits.{passed_on}
use Rattle.nodes.specs.Core.{ReadsLeaf}
use Rattle.nodes.proofs.NodeAnswers.{node-refused}
use Rattle.nodes.proofs.Leaves.{leaf-faulty, leaf-unknown, leaf-again, leaf-read, leaf_room}
use Rattle.nodes.proofs.Reader.leaf.Goals as goal

pub returns-in_err-scanned : goal.returns-in_err-scanned
unfolding ReadsLeaf
returns-in_err-scanned c =
    λ own names holds.
    let reader = c.args.self.now in
    rw (passed_on c.from_residual.result c.from_residual.ensures.1)
    (node-refused own reader.threshold reader.text.now _ _ _ _ _ _
    (leaf-faulty reader.threshold reader.text.now c.args.c.at c.scan.result c.scan.ensures names c.args.c.seen _ c.in_err-scanned.was))

pub returns-in_default : goal.returns-in_default
unfolding ReadsLeaf
returns-in_default c =
    λ own names holds.
    let reader = c.args.self.now in
    rw c.at.ensures
    (node-refused own reader.threshold reader.text.now _ _ _ _ _ _
    (leaf-unknown reader.threshold reader.text.now c.args.c.at c.scan.result c.scan.ensures names c.args.c.seen
    reader.count reader.table.now holds _ c.in_ok-scanned.was c.in_default.ensures))

pub returns-then-not-apart : goal.returns-then-not-apart
unfolding ReadsLeaf
returns-then-not-apart c =
    λ own names holds.
    let reader = c.args.self.now in
    rw c.at-then-not-apart.ensures
    (node-refused own reader.threshold reader.text.now _ _ _ _ _ _
    (leaf-again reader.threshold reader.text.now c.args.c.at c.scan.result c.scan.ensures names c.args.c.seen
    reader.count reader.table.now holds _ c.in_ok-scanned.was _ c.in-Some.ensures.0 c.in-Some.ensures.1
    (rw c.single-mask.ensures at (sym c.apart.ensures ∙ c.if-not-apart.true))))

pub returns-in_err-figures : goal.returns-in_err-figures
unfolding ReadsLeaf
returns-in_err-figures c =
    λ own names holds.
    let reader = c.args.self.now in
    rw (passed_on c.from_residual-in_err-figures.result c.from_residual-in_err-figures.ensures.1)
    (rw c.in_err-figures.was at
    (leaf-read reader.threshold reader.text.now c.args.c.at c.scan.result c.scan.ensures names c.args.c.seen
    reader.count reader.table.now holds _ c.in_ok-scanned.was _ c.in-Some.ensures.0 c.in-Some.ensures.1
    own c.args.c.stored c.args.found.now c.single-mask.result _ c.behind.result
    c.single-mask.ensures (sym c.apart.ensures ∙ c.if-not-apart.false) refl c.behind.ensures.by_index c.behind.ensures.behind_valued))

pub ended-requires : goal.ended-requires
ended-requires c =
    leaf_room c.args.self.now.count c.args.self.now.table.now c.args.found.now c.args.c.seen c.args.c.stored
    c.in-Some.i
    c.requires c.in-Some.ensures.1 (rw c.single-mask.ensures at (sym c.apart.ensures ∙ c.if-not-apart.false))

pub returns : goal.returns
unfolding ReadsLeaf
returns c =
    λ own names holds.
    let reader = c.args.self.now in
    rw (c.ended.ensures.value, c.ended.ensures.found_after)
    (rw c.in_ok-figures.was at
    (leaf-read reader.threshold reader.text.now c.args.c.at c.scan.result c.scan.ensures names c.args.c.seen
    reader.count reader.table.now holds _ c.in_ok-scanned.was _ c.in-Some.ensures.0 c.in-Some.ensures.1
    own c.args.c.stored c.args.found.now c.single-mask.result c.union-seen.result c.behind.result
    c.single-mask.ensures (sym c.apart.ensures ∙ c.if-not-apart.false) c.union-seen.ensures c.behind.ensures.by_index c.behind.ensures.behind_valued))
