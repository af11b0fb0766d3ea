use Prim.Native.Nat.{ℕ, ◌+◌, ◌<◌}
use mathlib.Core.Path.{◌≡◌, sym, ap, ◌∙◌}
use mathlib.Core.List.{◌++◌}
use native.Mathlib.Omega.{arith}
use borrow.Author.Rules.{rules}
use lib.ListN.{length, length-append, length-set}
use Rattle.printing.proofs.Printing.{put_then, put-length}
use Rattle.texts.specs.Writing.{label}
use Rattle.texts.specs.Work.{lent, name_in, note_in, cluster_text}
use Rattle.texts.proofs.NodeText.{Onward, lowest-sixteen, leaf-text, two_species}
use Rattle.texts.proofs.NodeText.{begun_all, begun-within, begun-room, begun_next, begun-closed, begun_end}
use Rattle.texts.proofs.node.Source.+node.Goals.{After-lowest, At-loop-left, After-child-next}
use Rattle.texts.proofs.node.Source.+node.Goals as goal

-- a single species: its label is found, and the note behind it
single-text :
    (t : ℕ) (c : After-lowest t)
    → let s = c.args in
    cluster_text (lent s.self.now.counts) s.self.now.table.now s.self.now.numbers.now s.cluster
    ≡ label (name_in s.self.now.table.now c.lowest.result) ++ note_in (lent s.self.now.counts) s.self.now.numbers.now s.cluster
single-text t c =
    let one = sym c.size.ensures ∙ c.if-size-eq1.true in
    rw c.lowest.ensures (leaf-text c.requires.listed (lent c.args.self.now.counts) c.args.self.now.table.now one)

single-length :
    (t : ℕ) (c : After-lowest t)
    → let s = c.args in
    length (cluster_text (lent s.self.now.counts) s.self.now.table.now s.self.now.numbers.now s.cluster)
    ≡ length (label (name_in s.self.now.table.now c.lowest.result)) + length (note_in (lent s.self.now.counts) s.self.now.numbers.now s.cluster)
single-length t c =
    let s = c.args in
    ap length (single-text t c)
    ∙ length-append (label (name_in s.self.now.table.now c.lowest.result)) (note_in (lent s.self.now.counts) s.self.now.numbers.now s.cluster)

-- between two children the node has room for another byte
room :
    (t : ℕ) (c : At-loop-left t)
    → let s = c.args in
    c.loop-left.end < s.at + length (cluster_text (lent s.self.now.counts) s.self.now.table.now s.self.now.numbers.now s.cluster)
room t c =
    begun-room c.requires.listed (lent c.args.self.now.counts) c.args.self.now.table.now c.args.out.now c.args.at c.loop-left.invariant

-- a child is found: it can be written, and the loop goes on behind it
onward :
    (t : ℕ) (c : After-child-next t)
    → let s = c.args in
    Onward (lent s.self.now.counts) s.self.now.table.now s.self.now.numbers.now s.cluster s.out.now s.at c.loop-left.out c.loop-left.end
    c.loop-left.left c.loop-left.mark c.child-next.result
onward t c =
    begun_next c.requires.listed (lent c.args.self.now.counts) c.args.self.now.table.now c.args.out.now c.args.at c.loop-left.invariant (omega arith) c.child-next.ensures

pub label-end-requires : goal.label-end-requires
label-end-requires t c =
    let l = c.lowest.ensures in
    let b = lowest-sixteen c.requires.listed in
    let f = single-length t (goal.at.label-end-requires t c).After-lowest in
    record { i_in_bounds = omega arith; i_in_bounds_2 = omega arith }

pub note-requires : goal.note-requires
note-requires t c =
    let f = single-length t (goal.at.note-requires t c).After-lowest in
    let p = c.label-end.ensures in
    let l = put-length p in
    let e = p.ended in
    record { listed = c.requires.listed; enough = c.requires.enough; cluster_in_bounds = omega arith }

pub returns-then-size-eq1 : goal.returns-then-size-eq1
returns-then-size-eq1 t c =
    rw (single-text t (goal.at.returns-then-size-eq1 t c).After-lowest) (put_then c.label-end.ensures c.note.ensures)

pub loop-left-init : goal.loop-left-init
loop-left-init t c =
    begun_all c.requires.listed (lent c.args.self.now.counts) c.args.self.now.table.now c.args.out.now c.args.at (λ e. c.if-size-eq1.false (c.size.ensures ∙ e))

pub bounds-out-end : goal.bounds-out-end
bounds-out-end t c =
    let k = room t (goal.at.bounds-out-end t c).At-loop-left in
    let l = c.loop-left.invariant.going.long in
    omega arith

pub child-next-requires : goal.child-next-requires
child-next-requires t c =
    let h = c.requires.listed in record {
      listed = h;
      bound = two_species h (λ e. c.if-size-eq1.false (c.size.ensures ∙ e));
      le_left = (omega arith, begun-within h (lent c.args.self.now.counts) c.args.self.now.table.now c.args.out.now c.args.at c.loop-left.invariant);
    }

pub overflow_add-end : goal.overflow_add-end
overflow_add-end t c =
    let o = onward t (goal.at.overflow_add-end t c).After-child-next in
    let r = o.room in
    search rules

pub node-end-requires : goal.node-end-requires
node-end-requires t c =
    let o = onward t (goal.at.node-end-requires t c).After-child-next in
    let l = c.loop-left.invariant.going.long in
    let f = o.smaller in
    let r = o.room in
    (omega arith, (o.listed, (c.requires.table_len, (c.requires.enough, simp length-set (omega arith)))))

pub overflow_sub-left : goal.overflow_sub-left
overflow_sub-left t c = (onward t (goal.at.overflow_sub-left t c).After-child-next).most

pub loop-left-smaller : goal.loop-left-smaller
loop-left-smaller t c =
    let o = onward t (goal.at.loop-left-smaller t c).After-child-next in
    let p = o.some in
    let q = o.most in
    omega arith

pub loop-left-preserved : goal.loop-left-preserved
loop-left-preserved t c =
    (onward t (goal.at.loop-left-preserved t c).After-child-next).then c.node-end.result c.node-end.new.out c.node-end.ensures

pub bounds-out-end-2 : goal.bounds-out-end-2
bounds-out-end-2 t c =
    let k = room t (goal.at.bounds-out-end-2 t c).At-loop-left in
    let l = c.loop-left.invariant.going.long in
    omega arith

pub overflow_add-end-2 : goal.overflow_add-end-2
overflow_add-end-2 t c =
    let k = room t (goal.at.overflow_add-end-2 t c).At-loop-left in
    search rules

pub note-requires-2 : goal.note-requires-2
note-requires-2 t c =
    let h = c.requires.listed in
    let e = (begun-closed h (lent c.args.self.now.counts) c.args.self.now.table.now c.args.out.now c.args.at c.loop-left.invariant (omega arith)).ends in
    let l = c.loop-left.invariant.going.long in
    record { listed = h; enough = c.requires.enough; cluster_in_bounds = simp length-set (omega arith) }

pub returns : goal.returns
returns t c =
    begun_end c.requires.listed (lent c.args.self.now.counts) c.args.self.now.table.now c.args.out.now c.args.at c.loop-left.invariant (omega arith)
    c.note-2.ensures
