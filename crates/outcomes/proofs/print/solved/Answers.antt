-- The tree's text stands behind the first three lines, and a line feed behind it; there is room for all.
use mathlib.Core.Path.{refl, sym, ◌∙◌}
use native.Mathlib.Omega.{arith}
use Rattle.roster.specs.Roster.{names}
use Rattle.printing.proofs.Printing.{put_then, put-length, put_report, counts-length, answer-length, Room, room_within}
use Rattle.texts.specs.Writing.{written}
use Rattle.outcomes.proofs.TreeText.{tree-length, tree-value, tree-put}
use Rattle.outcomes.proofs.print.solved.Goals.{After-counts-at}
use Rattle.outcomes.proofs.print.solved.Goals as goal

after-counts : (c : After-counts-at) → Room 106 c.counts-at.result c.counts-at.new.out
after-counts c =
    let args = c.args in
    room_within 106 refl (counts-length args.asked.now.n args.count args.score args.ties) c.counts-at.ensures

pub slice_bounds-write-count : goal.slice_bounds-write-count
slice_bounds-write-count c =
    omega (arith, (after-counts (goal.at.slice_bounds-write-count c).After-counts-at).used)

pub slice_bounds-word-end : goal.slice_bounds-word-end
slice_bounds-word-end c =
    let room = after-counts (goal.at.slice_bounds-word-end c).After-counts-at in
    sym (put-length (tree-put c.args.asked.now.roster c.requires room c.write-written.ensures) ∙ room.bytes)

pub overflow_add-at : goal.overflow_add-at
overflow_add-at c =
    let room = after-counts (goal.at.overflow_add-at c).After-counts-at in
    omega (arith, room.used, tree-value c.args.asked.now.roster c.requires room c.write-written.ensures, tree-length c.args.asked.now.roster c.requires)

pub word-len-requires : goal.word-len-requires
word-len-requires c =
    let room = after-counts (goal.at.word-len-requires c).After-counts-at in
    let l = put-length (tree-put c.args.asked.now.roster c.requires room c.write-written.ensures) ∙ room.bytes in
    omega (arith, room.used, tree-value c.args.asked.now.roster c.requires room c.write-written.ensures, tree-length c.args.asked.now.roster c.requires, l)

pub returns : goal.returns
returns c =
    let args = c.args in
    let tree = tree-put c.args.asked.now.roster c.requires (after-counts (goal.at.returns c).After-counts-at) c.write-written.ensures in
    put_report
    (answer-length args.asked.now.n args.count args.score args.ties (written (names args.asked.now.line.now) args.tree.numbers)
    (tree-length c.args.asked.now.roster c.requires))
    (put_then (put_then c.counts-at.ensures tree) c.word-len.ensures)

pub slice_bounds-text-start : goal.slice_bounds-text-start
slice_bounds-text-start c =
    omega (arith, (after-counts (goal.at.slice_bounds-text-start c).After-counts-at).used)
