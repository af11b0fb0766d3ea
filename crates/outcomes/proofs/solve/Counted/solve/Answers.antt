-- The allowed clusters are handed on as they were marked, and the outcome is that of the search.
use Prim.Native.Nat.{ℕ, ◌^◌, ◌≤◌}
use mathlib.Core.Path.{◌≡◌, refl, sym, ap, subst, ◌∙◌}
use mathlib.Core.Bool.{Bool}
use mathlib.Core.List.{List, ◌++◌}
use Rattle.weights.specs.declared.Rooting.{Rooting}
use native.Mathlib.Omega.{arith}
use lib.ListN.{length, take, drop, replicate}
use lib.Seq.{length-take-le, take_at}
use Rattle.std.proofs.lemmas.Result.{err_from_is_err_and}
use Rattle.clusters.specs.Sets.{single}
use Rattle.roster.specs.Roster.{names}
use Rattle.trees.specs.Records.{records_in}
use Rattle.trees.proofs.Lent.{length-records_in}
use Rattle.lineages.proofs.Verdicts.{numbered}
use Rattle.search.specs.TiesPromise.{tied_to}
use Rattle.outcomes.specs.Outcome.{found_with_ties, allowed_by}
use Rattle.outcomes.proofs.Telling.{retold}
use Rattle.outcomes.proofs.Allowed.{allowed-marked, front_fits}
use Rattle.outcomes.proofs.Searching.{entries_most, searched-refused, searched-solved, found-valid}
use Rattle.outcomes.proofs.solve.Counted.solve.Goals.{After-find}
use Rattle.outcomes.proofs.solve.Counted.solve.Goals as goal

entries : (n r : ℕ) → r ≡ single n → r ≡ 2 ^ n
unfolding single
entries n r e = e

entries_fit : (n r : ℕ) → r ≡ single n → n ≤ 12 → r ≤ 4096
entries_fit n r e few = rw (entries n r e) (entries_most few)

-- the allowed clusters, and what is left of the array behind them
abbrev allowed : (all : Bool) (rooting : Rooting) (n count : ℕ) → List ℕ → List ℕ
allowed all rooting n count genes = allowed_by all rooting n (records_in count genes)

abbrev behind : ℕ → List ℕ
behind r = drop r (replicate 4096 0)

allowed-exact : (all : Bool) (rooting : Rooting) (n count r : ℕ) (genes : List ℕ) → r ≡ single n → length (allowed all rooting n count genes) ≡ r
allowed-exact all rooting n count r genes e = (allowed-marked all rooting n (records_in count genes)).exact ∙ sym (entries n r e)

-- what is handed on is those bytes
handed : (r : ℕ) (marked l : List ℕ) → marked ≡ l → length l ≡ r → take r (marked ++ behind r) ≡ l
handed r marked l e long = take_at marked (behind r) r (ap length e ∙ long) ∙ e

-- what the search answers over the clusters that were marked
found : (c : After-find) → tied_to c.find.result ≡ found_with_ties c.args.self.now.asked.rooting c.args.self.now.asked.n (records_in c.args.self.now.count c.args.self.now.genes.now) (allowed c.args.self.now.asked.all c.args.self.now.asked.rooting c.args.self.now.asked.n c.args.self.now.count c.args.self.now.genes.now)
found c =
    let long = allowed-exact c.args.self.now.asked.all c.args.self.now.asked.rooting c.args.self.now.asked.n c.args.self.now.count _ c.args.self.now.genes.now c.single-entries.ensures in
    subst (λ (l : List ℕ). tied_to c.find.result ≡ found_with_ties c.args.self.now.asked.rooting c.args.self.now.asked.n (records_in c.args.self.now.count c.args.self.now.genes.now) l)
    (handed c.single-entries.result c.allow.new.allowed _ c.allow.ensures long) c.find.ensures

pub slice_bounds-allowed-end : goal.slice_bounds-allowed-end
slice_bounds-allowed-end c =
    entries_fit _ _ c.single-entries.ensures c.args.self.now.countable.few_species

pub slice_bounds-allow-end : goal.slice_bounds-allow-end
slice_bounds-allow-end c =
    sym (length-take-le c.single-entries.result (replicate 4096 0) (entries_fit _ _ c.single-entries.ensures c.args.self.now.countable.few_species))

pub allow-requires : goal.allow-requires
allow-requires c =
    length-take-le c.single-entries.result (replicate 4096 0) (entries_fit _ _ c.single-entries.ensures c.args.self.now.countable.few_species) ∙ entries _ _ c.single-entries.ensures

pub slice_bounds-allowed-end-2 : goal.slice_bounds-allowed-end-2
slice_bounds-allowed-end-2 c =
    front_fits c.allow.new.allowed (behind c.single-entries.result) (ap length c.allow.ensures ∙ allowed-exact c.args.self.now.asked.all c.args.self.now.asked.rooting c.args.self.now.asked.n c.args.self.now.count _ c.args.self.now.genes.now c.single-entries.ensures)

pub slice_bounds-find-end : goal.slice_bounds-find-end
slice_bounds-find-end c =
    sym (ap length (handed c.single-entries.result c.allow.new.allowed _ c.allow.ensures (allowed-exact c.args.self.now.asked.all c.args.self.now.asked.rooting c.args.self.now.asked.n c.args.self.now.count _ c.args.self.now.genes.now c.single-entries.ensures)) ∙ allowed-exact c.args.self.now.asked.all c.args.self.now.asked.rooting c.args.self.now.asked.n c.args.self.now.count _ c.args.self.now.genes.now c.single-entries.ensures)

pub find-requires : goal.find-requires
find-requires c =
    let gs = records_in c.args.self.now.count c.args.self.now.genes.now in
    rw (handed c.single-entries.result c.allow.new.allowed _ c.allow.ensures (allowed-exact c.args.self.now.asked.all c.args.self.now.asked.rooting c.args.self.now.asked.n c.args.self.now.count _ c.args.self.now.genes.now c.single-entries.ensures)) (allowed-marked c.args.self.now.asked.all c.args.self.now.asked.rooting c.args.self.now.asked.n gs)

pub returns-in_err-solution : goal.returns-in_err-solution
returns-in_err-solution c =
    let args = c.args in
    let p = err_from_is_err_and c.from_residual.result c.from_residual.ensures.1 in
    let e = c.in_err-solution.field-0.0 in
    rw (p.1, p.2)
    (retold (names args.self.now.asked.line.now)
    (searched-refused args.self.now.asked.rooting args.self.now.asked.n (records_in args.self.now.count args.self.now.genes.now)
    (allowed c.args.self.now.asked.all c.args.self.now.asked.rooting c.args.self.now.asked.n c.args.self.now.count c.args.self.now.genes.now)
    (rw c.in_err-solution.was at (found (goal.at.returns-in_err-solution c).After-find))
    (numbered e.fault))
    refl)

pub solved-requires : goal.solved-requires
solved-requires c =
    let args = c.args in
    found-valid args.self.now.asked.rooting args.self.now.asked.n (records_in args.self.now.count args.self.now.genes.now) (allowed c.args.self.now.asked.all c.args.self.now.asked.rooting c.args.self.now.asked.n c.args.self.now.count c.args.self.now.genes.now)
    (rw c.in_ok-solution.was at (found (goal.at.solved-requires c).After-find))
    (omega (arith, c.args.self.now.asked.roster.few))
    refl

pub returns : goal.returns
returns c =
    let args = c.args in
    retold (names args.self.now.asked.line.now)
    (searched-solved args.self.now.asked.rooting args.self.now.asked.n (records_in args.self.now.count args.self.now.genes.now) (allowed c.args.self.now.asked.all c.args.self.now.asked.rooting c.args.self.now.asked.n c.args.self.now.count c.args.self.now.genes.now)
    (rw c.in_ok-solution.was at (found (goal.at.returns c).After-find))
    (sym (length-records_in args.self.now.count args.self.now.genes.now))
    refl)
    c.solved.ensures
