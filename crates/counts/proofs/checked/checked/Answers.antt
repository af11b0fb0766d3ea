-- `checked::checked` meets its contract: one law for each way through its checks.
use mathlib.Core.Path.{◌≡◌, refl, sym}
use native.Mathlib.Omega.{arith}
use lib.ListN.{length}
use lib.Seq.{length-take-le}
use Rattle.std.proofs.Common.{None, Ok}
use Rattle.labels.proofs.Exits.{passed_on}
use Rattle.roster.specs.Roster.{names}
use Rattle.roster.specs.Judged.{species_most}
use Rattle.roster.proofs.Names.{names-count}
use Rattle.reader.specs.Promise.{reading_by}
use Rattle.reader.specs.declared.Kind.TheVariants.{Species}
use Rattle.reader.proofs.Replies.{WasRead, reads-zero}
use Rattle.counts.proofs.CallFaults.{DrawnPassed}
use Rattle.counts.proofs.Checking.{judged-names, front_is, all_end, unread, call-wrong, call_right, drawn-binary, counts-wrong, counts_right}
use Rattle.counts.proofs.Passing.{none_at_fault}
use Rattle.counts.proofs.checked.checked.Goals.{In_ok-drawn, After-judge-n, In_ok-judge_drawn}
use Rattle.counts.proofs.checked.checked.Goals as goal

-- behind the first check a tree was read
read :
    (c : In_ok-drawn) → let args = c.args in
    WasRead Species None args.line.now args.text.now args.start (reading_by args.start (Ok c.in_ok-drawn.drawn))
read c = reads-zero Species None _ _ _ c.in_ok-drawn.ensures.reads refl

-- on so many species
species :
    (c : After-judge-n) → let args = c.args in
    WasRead Species None args.line.now args.text.now args.start (reading_by args.start (Ok c.in_ok-drawn.drawn))
    → c.judge-n.result.value ≡ length (names args.line.now)
species c w = judged-names _ _ w.good c.judge-n.ensures

-- behind the second check the gene trees, the tables and the tree are in order
passed :
    (c : In_ok-judge_drawn) → let args = c.args in
    WasRead Species None args.line.now args.text.now args.start (reading_by args.start (Ok c.in_ok-drawn.drawn))
    → c.judge-n.result.value ≡ length (names args.line.now)
    → DrawnPassed (length (names args.line.now)) args.genes.now args.count c.in_ok-drawn.drawn.numbers args.scores.now args.splits.now
passed c w is = call_right _ _ _ _ _ _ _ w (rw is at c.in_ok-judge_drawn.ensures)

pub returns-in_err-drawn : goal.returns-in_err-drawn
returns-in_err-drawn c =
    rw (passed_on c.from_residual.result c.from_residual.ensures.1)
    (unread _ _ _ _ _ _ _ c.in_err-drawn.field-0.0 c.in_err-drawn.ensures.reads refl refl)

pub judge_drawn-requires : goal.judge_drawn-requires
judge_drawn-requires c =
    let w = read (goal.at.judge_drawn-requires c).In_ok-drawn in
    let few = names-count species_most c.args.line.now w.good in
    let is = species (goal.at.judge_drawn-requires c).After-judge-n w in
    record {
      le_n = omega arith;
      n_bound = omega arith;
      numbers_len = w.gene.valid.form.sized;
    }

pub returns-in_err-judge_drawn : goal.returns-in_err-judge_drawn
returns-in_err-judge_drawn c =
    let w = read (goal.at.returns-in_err-judge_drawn c).In_ok-drawn in
    let is = species (goal.at.returns-in_err-judge_drawn c).After-judge-n w in
    rw (passed_on c.from_residual-in_err-judge_drawn.result c.from_residual-in_err-judge_drawn.ensures.1)
    (call-wrong _ _ _ _ _ _ _ w c.in_err-judge_drawn.field-0.0 (rw is at c.in_err-judge_drawn.ensures) refl refl)

pub slice_bounds-found-end : goal.slice_bounds-found-end
slice_bounds-found-end c =
    let most = (read (goal.at.slice_bounds-found-end c).In_ok-drawn).gene.valid.form.counted in
    omega (arith, c.read_into.auto.found)

pub slice_bounds-compare-end : goal.slice_bounds-compare-end
slice_bounds-compare-end c =
    let most = (read (goal.at.slice_bounds-compare-end c).In_ok-drawn).gene.valid.form.counted in
    sym (length-take-le _ c.read_into.new.found (omega (arith, c.read_into.auto.found)))

pub invariant_of-trees : goal.invariant_of-trees
invariant_of-trees c =
    let w = read (goal.at.invariant_of-trees c).In_ok-drawn in
    let is = species (goal.at.invariant_of-trees c).After-judge-n w in
    let o = (passed (goal.at.invariant_of-trees c).In_ok-judge_drawn w is).in_order in
    rw is (record { shaped = o.shaped; passed = none_at_fault o })

pub compare-requires : goal.compare-requires
compare-requires c =
    let w = read (goal.at.compare-requires c).In_ok-drawn in
    all_end w (front_is w _ c.in_ok-drawn.ensures.stores)

pub returns-in_err-compare : goal.returns-in_err-compare
returns-in_err-compare c =
    let w = read (goal.at.returns-in_err-compare c).In_ok-drawn in
    let p = passed (goal.at.returns-in_err-compare c).In_ok-judge_drawn w (species (goal.at.returns-in_err-compare c).After-judge-n w) in
    rw (passed_on c.from_residual-in_err-compare.result c.from_residual-in_err-compare.ensures.1)
    (counts-wrong _ _ _ _ _ _ _ w p (front_is w _ c.in_ok-drawn.ensures.stores) c.in_err-compare.field-0.0 c.in_err-compare.ensures refl refl)

pub distance-requires : goal.distance-requires
distance-requires c =
    let w = read (goal.at.distance-requires c).In_ok-drawn in
    let is = species (goal.at.distance-requires c).After-judge-n w in
    let p = passed (goal.at.distance-requires c).In_ok-judge_drawn w is in
    record {
      scores_long = rw is p.scores_fit;
      splits_long = rw is p.splits_fit;
      binary_species = rw is (drawn-binary _ _ _ _ _ _ _ w p c.in_ok-drawn.ensures.reads refl);
    }

pub returns : goal.returns
returns c =
    let w = read (goal.at.returns c).In_ok-drawn in
    let is = species (goal.at.returns c).After-judge-n w in
    let p = passed (goal.at.returns c).In_ok-judge_drawn w is in
    counts_right _ _ _ _ _ _ _ w p (front_is w _ c.in_ok-drawn.ensures.stores) c.in_ok-compare.ensures (rw is at c.distance.ensures)
