use Rattle.std.proofs.Common.{arith, rules}
use Rattle.tables.proofs.Descent.{stored-tip, place_there, low_less, rest_less, low_chooses, rest_chooses, stored-fork}
use Rattle.tables.proofs.tree.+collect.Goals as goal

pub offset_bounds-clusters-stored : goal.offset_bounds-clusters-stored
offset_bounds-clusters-stored t c =
    let there = place_there c.args.splits.now c.args.clusters.now c.args.a c.args.stored c.requires.chooses in
    search rules

pub bounds-clusters-stored : goal.bounds-clusters-stored
bounds-clusters-stored t c = place_there c.args.splits.now c.args.clusters.now c.args.a c.args.stored c.requires.chooses

pub overflow_add-result : goal.overflow_add-result
overflow_add-result t c =
    let there = place_there c.args.splits.now c.args.clusters.now c.args.a c.args.stored c.requires.chooses in
    search rules

pub returns-then-low-eq0 : goal.returns-then-low-eq0
returns-then-low-eq0 t c = stored-tip c.args.splits.now c.args.clusters.now c.args.a c.args.stored c.if-low-eq0.true

pub overflow_add-stored : goal.overflow_add-stored
overflow_add-stored t c =
    let there = place_there c.args.splits.now c.args.clusters.now c.args.a c.args.stored c.requires.chooses in
    search rules

pub collect-next-requires : goal.collect-next-requires
collect-next-requires t c =
    let less = low_less c.args.splits.now c.args.clusters.now c.args.a c.args.stored c.requires.chooses c.if-low-eq0.false in
    let low = low_chooses c.args.splits.now c.args.clusters.now c.args.a c.args.stored c.requires.chooses c.if-low-eq0.false in
    (omega arith, (search rules, (omega arith, low)))

pub overflow_sub-a : goal.overflow_sub-a
overflow_sub-a t c =
    let less = low_less c.args.splits.now c.args.clusters.now c.args.a c.args.stored c.requires.chooses c.if-low-eq0.false in
    omega arith

pub collect-requires : goal.collect-requires
collect-requires t c =
    let less = rest_less c.args.splits.now c.args.clusters.now c.args.a c.args.stored c.requires.chooses c.if-low-eq0.false in
    let rest =
    rest_chooses c.args.splits.now c.args.clusters.now c.args.a c.args.stored c.requires.chooses c.if-low-eq0.false
    c.collect-next.result _ c.collect-next.ensures
    in
    (omega arith, (search rules, (omega arith, rest)))

pub returns : goal.returns
returns t c =
    stored-fork c.args.splits.now c.args.clusters.now c.args.a c.args.stored c.requires.chooses c.if-low-eq0.false
    c.collect-next.result _ c.collect.result _ c.collect-next.ensures c.collect.ensures
