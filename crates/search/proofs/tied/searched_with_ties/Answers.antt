-- `search::tied::searched_with_ties` meets its contract: a refusal before the search, one of the search, or both tables filled and the ties counted.
use Rattle.std.proofs.Common.{◌≡◌, ◌⊎◌, ◌^◌, ◌≤◌, length, refl, sym, ap, inl, arith}
use Rattle.std.proofs.lemmas.Result.{err_from_is_err_and}
use Rattle.clusters.proofs.Sets.{whole_below}
use Rattle.lineages.proofs.Verdicts.{numbered}
use Rattle.tables.specs.Work.{FillsTies}
use Rattle.terms.specs.Answers.{found_to}
use Rattle.search.proofs.Demand.{accepted_of}
use Rattle.search.proofs.Tying.{ties-fit, ties-refused, ties-kept, ties-countable, ties-counted, ties-none}
use Rattle.search.proofs.tied.searched_with_ties.Goals.{In_ok-ties_shape, In_ok-solution, then-filled, else-filled}
use Rattle.search.proofs.tied.searched_with_ties.Goals as goal

-- behind the first check the third table is long enough
long : (c : In_ok-ties_shape) → let args = c.args in 2 ^ args.n ≤ length args.ties.now
long c = ties-fit _ _ _ c.args.ties.now (sym c.in_ok-ties_shape.ensures) refl

-- with a tree both other tables are filled
filled : (c : In_ok-solution) → let found = found_to c.searched-found.result in (found.number ≡ 0) ⊎ (found.number ≡ 14)
filled c = inl (ap (λ o. (found_to o).number) c.in_ok-solution.was)

-- and so is the third
counted : (c : In_ok-solution) → FillsTies c.args.n c.searched-found.new.scores c.searched-found.new.splits c.args.ties.now c.if-filled.ties
counted c =
    elim c.if-filled.branch [
      | then-filled w ↦ rw w.ties-is w.count_ties.ensures
      | else-filled w ↦ absurd (rw w.if-filled.false at c.filled.ensures (filled c))
    ]

pub returns-in_err-ties_shape : goal.returns-in_err-ties_shape
returns-in_err-ties_shape c =
    let p = err_from_is_err_and c.from_residual.result c.from_residual.ensures.1 in
    let e = c.in_err-ties_shape.field-0.0 in
    rw (p.1, p.2) (ties-refused _ _ _ _ _ _ _ _ (sym c.in_err-ties_shape.ensures) (numbered e.fault) refl refl refl refl)

pub count_ties-requires : goal.count_ties-requires
count_ties-requires c =
    ties-countable _ _ _ _ _ _ _ _ c.searched-found.ensures (rw c.if-filled.true at c.filled.ensures) (long (goal.at.count_ties-requires c).In_ok-ties_shape)
    c.searched-found.auto.scores
    c.searched-found.auto.splits

pub returns-in_err-solution : goal.returns-in_err-solution
returns-in_err-solution c =
    let p = err_from_is_err_and c.from_residual-in_err-solution.result c.from_residual-in_err-solution.ensures.1 in
    let e = c.in_err-solution.field-0.0 in
    let told = rw c.in_err-solution.was at c.searched-found.ensures in
    let tests = rw c.in_err-solution.was at c.filled.ensures in
    let fits = long (goal.at.returns-in_err-solution c).In_ok-ties_shape in
    rw (p.1, p.2)
    (elim c.if-filled.branch [
      | then-filled w ↦ ties-none _ _ _ _ _ _ _ _ told (rw w.if-filled.true at tests) (numbered e.fault) fits (rw w.ties-is w.count_ties.ensures) refl
      | else-filled w ↦ ties-kept _ _ _ _ _ _ _ _ fits told (rw w.if-filled.false at tests) refl w.ties-is
    ])

pub whole-all-requires : goal.whole-all-requires
whole-all-requires c =
    let few = (accepted_of c.searched-found.ensures (filled (goal.at.whole-all-requires c).In_ok-solution)).in_order.shaped.few_species in
    omega arith

pub bounds-ties-all : goal.bounds-ties-all
bounds-ties-all c =
    let fit = long (goal.at.bounds-ties-all c).In_ok-ties_shape in
    let is = c.whole-all.ensures in
    let same = c.if-filled.auto.ties in
    omega (arith, whole_below c.args.n)

pub returns : goal.returns
returns c =
    ties-counted _ _ _ _ _ _ _ _ c.searched-found.ensures (filled (goal.at.returns c).In_ok-solution) (long (goal.at.returns c).In_ok-ties_shape)
    (counted (goal.at.returns c).In_ok-solution)
    c.whole-all.ensures
    (rw c.in_ok-solution.was refl)
