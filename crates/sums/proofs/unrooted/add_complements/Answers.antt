use Rattle.std.proofs.Common.{◌≡◌, ℕ, ◌+◌, ◌-◌, get_or, take, drop, subst, arith}
use Rattle.trees.specs.Decides.{Decides}
use Rattle.trees.specs.Lists.{Among}
use Rattle.trees.specs.Records.{count, listed, largest}
use Rattle.trees.proofs.GeneRecords.{places-le}
use Rattle.sums.specs.Work.{proper_ones}
use Rattle.sums.proofs.UnrootedChanges.{proper_at, others_start, others-listed, others_next, others_end}
use Rattle.sums.proofs.unrooted.add_complements.Goals as goal
use Rattle.sums.proofs.unrooted.add_complements.Goals.{After-among, then-not-among, else-not-among}

-- whether the record lists the complement
listed_or_not :
    (c : After-among) → let g = c.args.g.now in Decides c.among.result (Among (largest g - get_or (proper_ones g) c.loop-x.x-index 0) (listed g))
listed_or_not c =
    let g = c.args.g.now in
    let all : count g + 1 - 1 ≡ count g = omega arith in
    subst (λ (k : ℕ). Decides c.among.result (Among (largest g - get_or (proper_ones g) c.loop-x.x-index 0) (take k (drop 1 g)))) all c.among.ensures

pub loop-x-init : goal.loop-x-init
loop-x-init c =
    others_start _ _

pub overflow_sub-other : goal.overflow_sub-other
overflow_sub-other c =
    let form = c.requires.countable.valid.form in
    let k = c.loop-x.x-index in
    omega (arith, proper_at c.args.g.now k (omega arith), places-le (k + 1) (count c.args.g.now) form (omega arith) (omega arith) (omega arith))

pub loop-x-preserved : goal.loop-x-preserved
loop-x-preserved c =
    let told = listed_or_not (goal.at.loop-x-preserved c).After-among in
    let at = proper_at c.args.g.now c.loop-x.x-index (omega arith) in
    elim c.if-not-among.branch [
      | then-not-among w ↦
          rw w.sums-is
          (others_next c.requires.countable c.loop-x.invariant at (omega arith) (rw w.if-not-among.true at told) w.change.ensures
          w.change-then-not-among.ensures)
      | else-not-among w ↦
          rw w.sums-is (others-listed c.requires.countable c.loop-x.invariant at (omega arith) (rw w.if-not-among.false at told))
    ]

pub returns : goal.returns
returns c =
    others_end c.requires.countable c.loop-x.invariant (omega arith)
