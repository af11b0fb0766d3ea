use Rattle.std.proofs.Common.{map, ap, ◌∙◌, arith}
use Rattle.std.proofs.lemmas.List.{take_rest}
use Rattle.sums.proofs.Grouping.{entered_same, seen-fits, seen_start, seen_next, seen_end}
use Rattle.sums.proofs.RootedChanges.{node-passed, node_done, listed_inside, seen-parts}
use Rattle.sums.proofs.rooted.add_node.Goals as goal

pub returns-then-size-eq1 : goal.returns-then-size-eq1
returns-then-size-eq1 g c =
    node-passed _ _ _ c.args.sums.now (omega (arith, c.size.ensures, c.if-size-eq1.true))

pub change-requires : goal.change-requires
change-requires g c =
    seen-fits c.requires.entered _ (listed_inside c.args.i c.requires.countable c.requires.le_i c.requires.i_bound) c.entry.ensures

pub loop-x-init : goal.loop-x-init
loop-x-init g c =
    seen_start _ _

pub loop-x-preserved : goal.loop-x-preserved
loop-x-preserved g c =
    seen_next c.loop-x.invariant c.loop-x-test.true c.entry-in-loop-x.ensures

pub add_unions-requires : goal.add_unions-requires
add_unions-requires g c =
    let found = c.children_of-first.result in
    seen-parts (entered_same c.requires.entered c.change.ensures.same) (listed_inside c.args.i c.requires.countable c.requires.le_i c.requires.i_bound)
    c.children_of-first.ensures.found
    (seen_end c.loop-x.invariant c.loop-x-test.false ∙ ap (map (g.S.Seen.entry c.args.seen.now)) (take_rest found.sets found.first))

pub returns : goal.returns
returns g c =
    let found = c.children_of-first.result in
    node_done c.requires.countable c.children_of-first.ensures.found _ c.requires.entered.joins
    (λ e. omega (arith, e, c.size.ensures, c.if-size-eq1.false)) c.entry.ensures c.change.ensures
    (seen_end c.loop-x.invariant c.loop-x-test.false ∙ ap (map (g.S.Seen.entry c.args.seen.now)) (take_rest found.sets found.first)) c.add_unions.ensures
