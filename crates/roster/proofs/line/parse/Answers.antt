use Prim.Native.Nat.{ℕ, ◌+◌, ◌<◌}
use native.Mathlib.Omega.{arith}
use mathlib.Core.Path.{◌≡◌, sym, ap, ◌∙◌}
use mathlib.Core.List.{List}
use lib.ListN.{length}
use borrow.Author.Rules.{rules}
use Rattle.std.specs.Prelude.{Ok, Err}
use Rattle.std.specs.Result.{result_map_both}
use Rattle.labels.proofs.Exits.{passed_on}
use Rattle.labels.proofs.Scans.{scanned_ends, scanned_fails}
use Rattle.roster.proofs.Slots.{known, unknown}
use Rattle.roster.proofs.Judging.{at_place, mapped-ok, mapped-err}
use Rattle.roster.proofs.Turns.{begun_none, Starts, Met, stray_first, open_end, too_many, at_fault_lem, repeated, next_within, well_ended, stray-behind, space-behind}
use Rattle.roster.proofs.line.parse.Goals.{After-species, Else-next-line, Else-count-most, then-not-is_label-via-then-not-is_label, then-not-is_label-via-else-not-is_label+then-count-most}
use Rattle.roster.proofs.line.parse.Goals as goal

-- a label begins where the first test has been passed
starts :
    (c : Else-count-most)
    → Starts c.args.line.now c.loop-at.at
starts c = record {
  here = c.loop-at-test.true;
  fresh = c.loop-at.invariant.fresh;
  even = c.loop-at.invariant.even;
  label = sym c.is_label.ensures ∙ c.if-not-is_label.false;
}

-- what is known once the name has been looked up
met :
    (c : After-species)
    → Starts c.args.line.now c.loop-at.at
    → Met c.args.most c.args.line.now c.loop-at.table c.loop-at.count c.loop-at.at c.in_ok-scanned.scanned.next c.in_ok-scanned.scanned.name
met c begins =
    let mapped : c.map_err.result ≡ result_map_both (λ s. s) at_place c.scan.result = search rules in
    record {
      room = c.requires;
      begun = c.loop-at.invariant;
      starts = begins;
      fewer = c.if-count-most.false;
      ends = scanned_ends c.args.line.now c.loop-at.at c.scan.result c.scan.ensures c.in_ok-scanned.scanned
          (mapped-ok c.scan.result c.in_ok-scanned.scanned (sym mapped ∙ c.in_ok-scanned.was));
    }

-- the line goes on behind the name
more :
    (c : Else-next-line)
    → Met c.args.most c.args.line.now c.loop-at.table c.loop-at.count c.loop-at.at c.in_ok-scanned.scanned.next c.in_ok-scanned.scanned.name
    → c.in_ok-scanned.scanned.next < length c.args.line.now
more c known =
    let w = next_within _ _ _ _ _ _ _ known in
    let n = c.if-next-line.false in
    omega arith

pub loop-at-init : goal.loop-at-init
loop-at-init c =
    begun_none _ _

pub returns-then-not-is_label : goal.returns-then-not-is_label
returns-then-not-is_label c =
    ap Err c.at.ensures ∙ elim c.then-not-is_label.branch [
      | then-not-is_label-via-then-not-is_label w ↦ stray_first _ _ _ _ _ c.loop-at.invariant c.loop-at-test.true (sym c.is_label.ensures ∙ w.if-not-is_label.true)
      | then-not-is_label-via-else-not-is_label+then-count-most w ↦
          too_many _ _ _ _ _ c.loop-at.invariant (record {
            here = c.loop-at-test.true;
            fresh = c.loop-at.invariant.fresh;
            even = c.loop-at.invariant.even;
            label = sym c.is_label.ensures ∙ w.if-not-is_label.false;
          }) w.if-count-most.true
    ]

pub returns-in_err-scanned : goal.returns-in_err-scanned
returns-in_err-scanned c =
    let mapped : c.map_err.result ≡ result_map_both (λ s. s) at_place c.scan.result = search rules in
    let from = mapped-err c.scan.result c.in_err-scanned.field-0.0 (sym mapped ∙ c.in_err-scanned.was) in
    passed_on c.from_residual.result c.from_residual.ensures.1 ∙ ap Err from.2
    ∙ at_fault_lem _ _ _ _ _ c.loop-at.invariant (starts (goal.at.returns-in_err-scanned c).Else-count-most) c.if-count-most.false _ _
    (scanned_fails c.args.line.now c.loop-at.at c.scan.result c.scan.ensures from.0 from.1)

pub returns-then-is_some : goal.returns-then-is_some
returns-then-is_some c =
    ap Err c.at-then-is_some.ensures
    ∙ repeated _ _ _ _ _ _ _ (met (goal.at.returns-then-is_some c).After-species (starts (goal.at.returns-then-is_some c).Else-count-most)) (known _ _ _ c.species.ensures (sym c.is_some.ensures ∙ c.if-is_some.true))

pub returns-then-next-line : goal.returns-then-next-line
returns-then-next-line c =
    ap (λ (t : List ℕ). Ok (record { count = c.loop-at.count + 1; table = t })) c.enter.ensures
    ∙ well_ended _ _ _ _ _ _ _ (met (goal.at.returns-then-next-line c).After-species (starts (goal.at.returns-then-next-line c).Else-count-most))
    (unknown _ _ _ c.species.ensures (sym c.is_some.ensures ∙ c.if-is_some.false)) c.if-next-line.true

pub bounds-line-next : goal.bounds-line-next
bounds-line-next c =
    more (goal.at.bounds-line-next c).Else-next-line (met (goal.at.bounds-line-next c).After-species (starts (goal.at.bounds-line-next c).Else-count-most))

pub returns-then-line-next-ne32 : goal.returns-then-line-next-ne32
returns-then-line-next-ne32 c =
    let known = met (goal.at.returns-then-line-next-ne32 c).After-species (starts (goal.at.returns-then-line-next-ne32 c).Else-count-most) in
    ap Err c.at-then-line-next-ne32.ensures
    ∙ stray-behind _ _ _ _ _ _ _ known (unknown _ _ _ c.species.ensures (sym c.is_some.ensures ∙ c.if-is_some.false)) (more (goal.at.returns-then-line-next-ne32 c).Else-next-line known)
    c.if-line-next-ne32.true

pub overflow_add-at : goal.overflow_add-at
overflow_add-at c =
    let m = more (goal.at.overflow_add-at c).Else-next-line (met (goal.at.overflow_add-at c).After-species (starts (goal.at.overflow_add-at c).Else-count-most)) in
    omega arith

pub loop-at-smaller : goal.loop-at-smaller
loop-at-smaller c =
    let known = met (goal.at.loop-at-smaller c).After-species (starts (goal.at.loop-at-smaller c).Else-count-most) in
    let m = more (goal.at.loop-at-smaller c).Else-next-line known in
    let w = next_within _ _ _ _ _ _ _ known in
    omega arith

pub loop-at-preserved : goal.loop-at-preserved
loop-at-preserved c =
    let known = met (goal.at.loop-at-preserved c).After-species (starts (goal.at.loop-at-preserved c).Else-count-most) in
    rw c.enter.ensures (space-behind _ _ _ _ _ _ _ known (unknown _ _ _ c.species.ensures (sym c.is_some.ensures ∙ c.if-is_some.false))
    (more (goal.at.loop-at-preserved c).Else-next-line known) c.if-line-next-ne32.false)

pub returns : goal.returns
returns c =
    ap Err c.at-2.ensures ∙ open_end _ _ _ _ _ c.loop-at.invariant c.loop-at-test.false
