use mathlib.Core.Path.{◌∙◌}
use native.Mathlib.Omega.{arith}
use lib.ListN.{length-set}
use lib.Pow.{pow_pos}
use Rattle.tables.proofs.Reached.{entries, bytes_there, reached_start, reached-lengths, reached_next_cluster, reached_next, reached_end}
use Rattle.tables.proofs.fill.Goals as goal

pub bounds-scores-0 : goal.bounds-scores-0
bounds-scores-0 c =
    let long = c.requires.scores_long in
    omega (arith, pow_pos c.args.n)

pub bounds-splits-0 : goal.bounds-splits-0
bounds-splits-0 c =
    let long = c.requires.splits_long in
    omega (arith, pow_pos c.args.n)

pub loop-a-init : goal.loop-a-init
loop-a-init c =
    reached_start _ c.requires

pub settle-requires : goal.settle-requires
settle-requires c =
    let reached = c.loop-a.invariant in
    record {
      next = reached_next_cluster reached (omega (arith, entries c.args.n));
      n_bound = reached.few;
      a_in_bounds = bytes_there c.args.n c.loop-a.a c.args.allowed c.requires.allowed_long (omega (arith, entries c.args.n));
    }

pub loop-a-preserved : goal.loop-a-preserved
loop-a-preserved c =
    reached_next c.loop-a.invariant (omega (arith, entries c.args.n)) c.settle.ensures

pub shape_of-scores : goal.shape_of-scores
shape_of-scores c =
    (reached-lengths c.loop-a.invariant).0 ∙ simp length-set

pub shape_of-splits : goal.shape_of-splits
shape_of-splits c =
    (reached-lengths c.loop-a.invariant).1 ∙ simp length-set

pub returns : goal.returns
returns c =
    reached_end c.args.scores.now c.args.splits.now c.loop-a.invariant (omega (arith, entries c.args.n))
