use Rattle.std.proofs.Common.{sym, ◌∙◌, arith}
use Rattle.std.proofs.lemmas.List.{length-replicate}
use Rattle.clusters.proofs.Sets.{within-true, within-le}
use Rattle.sums.proofs.DownPass.{down_start, down_passed, down_room, down_taken, down_end}
use Rattle.sums.proofs.rooted.children_of.Goals as goal

pub loop-j-init : goal.loop-j-init
loop-j-init g c =
    down_start c.requires.countable c.requires.le_i c.requires.i_bound _ (length-replicate g.row.N 0)

pub overflow_sub-first : goal.overflow_sub-first
overflow_sub-first g c =
    down_room c.requires.countable c.requires.le_i c.requires.i_bound c.loop-j.invariant (omega arith) (sym c.within.ensures ∙ c.if-within.true)

pub offset_bounds-sets-first : goal.offset_bounds-sets-first
offset_bounds-sets-first g c =
    let few = c.loop-j.invariant.few in let narrow = c.requires.narrow in omega arith

pub bounds-sets-first : goal.bounds-sets-first
bounds-sets-first g c =
    let few = c.loop-j.invariant.few in
    let room = down_room c.requires.countable c.requires.le_i c.requires.i_bound c.loop-j.invariant (omega arith) (sym c.within.ensures ∙ c.if-within.true) in
    omega arith

pub overflow_sub-left : goal.overflow_sub-left
overflow_sub-left g c =
    within-le (within-true _ _ (sym c.within.ensures ∙ c.if-within.true))

pub loop-j-preserved-then-within : goal.loop-j-preserved-then-within
loop-j-preserved-then-within g c =
    down_taken c.requires.countable c.requires.le_i c.requires.i_bound c.loop-j.invariant (omega arith) (sym c.within.ensures ∙ c.if-within.true)

pub loop-j-preserved : goal.loop-j-preserved
loop-j-preserved g c =
    down_passed c.requires.countable c.requires.le_i c.requires.i_bound c.loop-j.invariant (omega arith) (sym c.within.ensures ∙ c.if-within.false)

pub returns : goal.returns
returns g c =
    record {
      room = c.loop-j.invariant.few;
      found = down_end c.requires.countable c.requires.le_i c.requires.i_bound c.loop-j.invariant (omega arith);
    }
