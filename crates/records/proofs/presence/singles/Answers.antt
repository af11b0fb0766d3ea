use mathlib.Core.Path.{sym, ◌∙◌}
use borrow.Author.Count.{below_more}
use native.Mathlib.Omega.{arith}
use Rattle.clusters.specs.Sets.{Has, single}
use Rattle.clusters.proofs.Members.{has-below}
use Rattle.clusters.proofs.Sets.{within-true, within-false, single-within}
use Rattle.trees.specs.Lists.{Among}
use Rattle.trees.proofs.Present.{has_of_single}
use Rattle.records.proofs.presence.singles.Goals as goal
use Rattle.records.proofs.presence.singles.Goals.{else-within-via-then-within+else-not-among, else-within-via-else-within}

pub returns-then-not-among : goal.returns-then-not-among
returns-then-not-among c all =
    let one = c.single-one.ensures in
    let held = has_of_single _ _ (rw one at (within-true _ _ (sym c.within.ensures ∙ c.if-within.true))) in
    (rw c.if-not-among.true at c.among.ensures) (rw one (all c.loop-i.i held))

pub loop-i-preserved : goal.loop-i-preserved
loop-i-preserved c =
    below_more _ _ c.loop-i.invariant here
  where
    here : Has c.args.s c.loop-i.i → Among (single c.loop-i.i) c.args.clusters.now
    here h =
        elim c.else-within.branch [
          | else-within-via-then-within+else-not-among w ↦ rw c.single-one.ensures at (rw w.if-not-among.false at w.among.ensures)
          | else-within-via-else-within w ↦
              absurd (within-false _ _ (sym c.within.ensures ∙ w.if-within.false) (rw c.single-one.ensures (single-within _ _ h)))
        ]

pub returns : goal.returns
returns c i h =
    c.loop-i.invariant i (omega (arith, has-below {i = i} c.args.breadth c.requires.s_bound h)) h
