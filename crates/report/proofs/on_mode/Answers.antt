-- The two lines and the trees stand where the program says, and each way gives its outcome.
use Prim.Native.Nat.{◌+◌, ◌≤◌}
use mathlib.Core.Path.{sym, ap, ◌∙◌}
use Rattle.faults.specs.declared.Refusal.{Refusal}
use Rattle.printing.specs.Texts.{refused}
use native.Mathlib.Omega.{arith}
use lib.ListN.{length, take}
use lib.Seq.{length-take-le}
use Rattle.roster.specs.Roster.{names}
use Rattle.report.specs.Input.{first_line}
use Rattle.outcomes.specs.Work.{Roster}
use Rattle.outcomes.proofs.Telling.{retold}
use Rattle.report.proofs.InputParts.{from, from_length, first_line_lem, first_within, second-within, trees-within, no_first_feed, no_second_feed, trees-mode, other_mode}
use Rattle.report.proofs.on_mode.Goals.{Else-end-input, Else-length-rest}
use Rattle.report.proofs.on_mode.Goals as goal

-- the first line ends within the input, and so does the second
fits : (c : Else-end-input) → c.args.end + 1 ≤ length c.args.input.now
fits c = omega (arith, first_within c.args.input.now c.requires.end_value)

trees-fit :
    (c : Else-length-rest)
    → c.args.end + 1 + c.line_length-length.result + 1
    ≤ length c.args.input.now
trees-fit c =
    trees-within c.args.input.now c.requires.end_value c.if-end-input.false c.line_length-length.ensures c.if-length-rest.false

-- what the trees are asked with
asked :
    (c : Else-length-rest)
    → let place = c.args.end + 1 + c.line_length-length.result + 1 in
    Roster (take c.args.end c.args.input.now) c.args.n
    × (place + length (from place c.args.input.now) ≤ 65536)
asked c =
    let place = c.args.end + 1 + c.line_length-length.result + 1 in (
      rw (first_line_lem c.args.input.now c.requires.end_value) c.requires.roster,
      omega (arith, trees-fit c, from_length place c.args.input.now, c.requires.input_len_bound),
    )

pub returns-then-end-input : goal.returns-then-end-input
returns-then-end-input c =
    let ns = names (first_line c.args.input.now) in
    retold ns (no_first_feed c.args.input.now c.requires.end_value c.if-end-input.true) (ap (λ (e : Refusal). refused e) c.at.ensures)

pub overflow_add-mode : goal.overflow_add-mode
overflow_add-mode c =
    omega (arith, fits (goal.at.overflow_add-mode c).Else-end-input)

pub slice_bounds-rest-count : goal.slice_bounds-rest-count
slice_bounds-rest-count c =
    fits (goal.at.slice_bounds-rest-count c).Else-end-input

pub slice_bounds-rest-start : goal.slice_bounds-rest-start
slice_bounds-rest-start c =
    fits (goal.at.slice_bounds-rest-start c).Else-end-input

pub returns-then-length-rest : goal.returns-then-length-rest
returns-then-length-rest c =
    let ns = names (first_line c.args.input.now) in
    retold ns
    (no_second_feed c.args.input.now c.requires.end_value c.if-end-input.false c.line_length-length.ensures c.if-length-rest.true)
    (ap (λ (e : Refusal). refused e) c.at-then-length-rest.ensures)

pub slice_bounds-line-end : goal.slice_bounds-line-end
slice_bounds-line-end c =
    sym (length-take-le c.args.end c.args.input.now (first_within c.args.input.now c.requires.end_value))

pub overflow_add-trees : goal.overflow_add-trees
overflow_add-trees c =
    omega (arith, trees-fit (goal.at.overflow_add-trees c).Else-length-rest)

pub overflow_add-trees-2 : goal.overflow_add-trees-2
overflow_add-trees-2 c =
    omega (arith, trees-fit (goal.at.overflow_add-trees-2 c).Else-length-rest)

pub slice_bounds-word-end : goal.slice_bounds-word-end
slice_bounds-word-end c =
    let rest = from (c.args.end + 1) c.args.input.now in
    let within = second-within c.args.input.now c.requires.end_value c.if-end-input.false c.line_length-length.ensures in
    sym (length-take-le c.line_length-length.result rest (omega (arith, within, from_length (c.args.end + 1) c.args.input.now)))

pub slice_bounds-on_trees-count : goal.slice_bounds-on_trees-count
slice_bounds-on_trees-count c =
    trees-fit (goal.at.slice_bounds-on_trees-count c).Else-length-rest

pub slice_bounds-on_trees-start : goal.slice_bounds-on_trees-start
slice_bounds-on_trees-start c =
    trees-fit (goal.at.slice_bounds-on_trees-start c).Else-length-rest

pub invariant_of-asked : goal.invariant_of-asked
invariant_of-asked c =
    record { roster = (asked (goal.at.invariant_of-asked c).Else-length-rest).0 }

pub on_trees-requires : goal.on_trees-requires
on_trees-requires c =
    (asked (goal.at.on_trees-requires c).Else-length-rest).1

pub returns-in_default : goal.returns-in_default
returns-in_default c =
    let ns = names (first_line c.args.input.now) in
    retold ns
    (other_mode c.args.input.now c.requires.end_value c.if-end-input.false c.line_length-length.ensures c.if-length-rest.false
    (sym c.in_default.is ∙ c.mode_of.ensures))
    (ap (λ (e : Refusal). refused e) c.at-in_default.ensures)

pub returns : goal.returns
returns c =
    trees-mode c.args.input.now c.requires.end_value c.if-end-input.false c.line_length-length.ensures c.if-length-rest.false
    c.in-Some.all c.in-Some.rooting c.requires.roster.named
    (sym c.in-Some.is ∙ c.mode_of.ensures)
    c.on_trees.ensures
