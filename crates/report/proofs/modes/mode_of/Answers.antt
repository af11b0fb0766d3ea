-- The line is compared with each word in turn.
use Rattle.std.proofs.Common.{◌≡◌, true, false}
use Rattle.roster.specs.Roster.{same}
use Rattle.weights.specs.declared.Rooting.TheVariants.{Rooted, Unrooted}
use Rattle.report.specs.Input.{mode_word}
use Rattle.report.specs.Program.{mode_of}
use Rattle.report.proofs.Comparing.{compared}
use Rattle.report.proofs.modes.mode_of.Goals.{Else-eq, Else-eq-2, Else-eq-3}
use Rattle.report.proofs.modes.mode_of.Goals as goal

-- it is none of the words before
not_all : (c : Else-eq) → same c.args.word.now (mode_word true Rooted) ≡ false
not_all c = compared c.args.word.now (mode_word true Rooted) c.as_slice.ensures c.eq.ensures c.if-eq.false

not_genes : (c : Else-eq-2) → same c.args.word.now (mode_word false Rooted) ≡ false
not_genes c = compared c.args.word.now (mode_word false Rooted) c.as_slice-2.ensures c.eq-2.ensures c.if-eq-2.false

not_all_unrooted : (c : Else-eq-3) → same c.args.word.now (mode_word true Unrooted) ≡ false
not_all_unrooted c = compared c.args.word.now (mode_word true Unrooted) c.as_slice-3.ensures c.eq-3.ensures c.if-eq-3.false

pub returns-then-eq : goal.returns-then-eq
unfolding mode_of
returns-then-eq c =
    rw (compared c.args.word.now (mode_word true Rooted) c.as_slice.ensures c.eq.ensures c.if-eq.true)

pub returns-then-eq-2 : goal.returns-then-eq-2
unfolding mode_of
returns-then-eq-2 c =
    rw (
      not_all (goal.at.returns-then-eq-2 c).Else-eq,
      compared c.args.word.now (mode_word false Rooted) c.as_slice-2.ensures c.eq-2.ensures c.if-eq-2.true,
    )

pub returns-then-eq-3 : goal.returns-then-eq-3
unfolding mode_of
returns-then-eq-3 c =
    rw (
      not_all (goal.at.returns-then-eq-3 c).Else-eq,
      not_genes (goal.at.returns-then-eq-3 c).Else-eq-2,
      compared c.args.word.now (mode_word true Unrooted) c.as_slice-3.ensures c.eq-3.ensures c.if-eq-3.true,
    )

pub returns-then-eq-4 : goal.returns-then-eq-4
unfolding mode_of
returns-then-eq-4 c =
    rw (
      not_all (goal.at.returns-then-eq-4 c).Else-eq,
      not_genes (goal.at.returns-then-eq-4 c).Else-eq-2,
      not_all_unrooted (goal.at.returns-then-eq-4 c).Else-eq-3,
      compared c.args.word.now (mode_word false Unrooted) c.as_slice-4.ensures c.eq-4.ensures c.if-eq-4.true,
    )

pub returns : goal.returns
unfolding mode_of
returns c =
    rw (
      not_all (goal.at.returns c).Else-eq,
      not_genes (goal.at.returns c).Else-eq-2,
      not_all_unrooted (goal.at.returns c).Else-eq-3,
      compared c.args.word.now (mode_word false Unrooted) c.as_slice-4.ensures c.eq-4.ensures c.if-eq-4.false,
    )
