-- `tables::tied::ties_of` meets its contract: a cluster without a tree, a single species, and all others.
use Prim.Native.Nat.{◌-◌}
use mathlib.Core.Path.{refl}
use borrow.Author.Rules.{rules}
use native.Mathlib.Omega.{arith}
use lib.ListN.{get_or}
use Rattle.splits.specs.WellFormed.{LowPart}
use Rattle.tables.proofs.TieTable.{tied_two, tied-low, ties_none, ties-single, ties-split, ties-counted}
use Rattle.tables.proofs.tied.ties_of.Goals.{Else-low-eq0}
use Rattle.tables.proofs.tied.ties_of.Goals as goal

-- the split entry is a low part from there on
part_at : (c : Else-low-eq0)
    → let args = c.args in LowPart args.a (get_or args.splits.now args.a 0)
part_at c = tied-low c.requires.tabled c.if-scores-a.false c.if-low-eq0.false

pub returns-then-scores-a : goal.returns-then-scores-a
returns-then-scores-a c =
    ties_none c.args.a c.args.scores.now c.args.splits.now c.args.ties.now c.requires.few c.if-scores-a.true

pub overflow_cast-low : goal.overflow_cast-low
overflow_cast-low c =
    omega (arith, c.type_inv.splits c.args.a)

pub returns-then-low-eq0 : goal.returns-then-low-eq0
returns-then-low-eq0 c =
    ties-single c.args.a c.args.scores.now c.args.splits.now c.args.ties.now c.if-scores-a.false c.if-low-eq0.true

pub offset_bounds-scores-low : goal.offset_bounds-scores-low
offset_bounds-scores-low c =
    let less = (part_at (goal.at.offset_bounds-scores-low c).Else-low-eq0).less in let there = c.requires.score_within in search rules

pub bounds-scores-low : goal.bounds-scores-low
bounds-scores-low c =
    let less = (part_at (goal.at.bounds-scores-low c).Else-low-eq0).less in
    let there = c.requires.score_within in
    omega arith

pub overflow_cast-least : goal.overflow_cast-least
overflow_cast-least c =
    let score = c.type_inv.scores in
    omega (arith, score (get_or c.args.splits.now c.args.a 0))

pub overflow_sub-least : goal.overflow_sub-least
overflow_sub-least c =
    let less = (part_at (goal.at.overflow_sub-least c).Else-low-eq0).less in omega arith

pub overflow_cast-least-2 : goal.overflow_cast-least-2
overflow_cast-least-2 c =
    let score = c.type_inv.scores in
    omega (arith, score (c.args.a - get_or c.args.splits.now c.args.a 0))

pub overflow_add-least : goal.overflow_add-least
overflow_add-least c =
    let score = c.type_inv.scores in
    let low = get_or c.args.splits.now c.args.a 0 in
    omega (arith, score low, score (c.args.a - low))

pub tied_splits-requires : goal.tied_splits-requires
tied_splits-requires c =
    let next = c.requires in
    record {
      a_in_bounds = search rules;
      a_in_bounds_2 = search rules;
      a_bound = next.few;
      bound = tied_two next.tabled c.if-low-eq0.false;
      counted = ties-counted next;
    }

pub returns : goal.returns
returns c =
    ties-split c.args.a c.args.scores.now c.args.splits.now c.args.ties.now
    c.if-scores-a.false c.if-low-eq0.false refl c.tied_splits.ensures
