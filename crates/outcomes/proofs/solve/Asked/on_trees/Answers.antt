-- What was gathered decides: a refusal, no gene tree, or what the search is asked.
use Rattle.std.proofs.Common.{ℕ, ◌≡◌, sym, ap, ◌∙◌, rules, arith, Result, Err}
use Rattle.std.specs.Result.{result_map_both}
use Rattle.std.proofs.lemmas.Result.{err_from_is_err_and}
use Rattle.faults.specs.declared.Refusal.{Refusal}
use Rattle.faults.specs.Faults.{number}
use Rattle.roster.specs.Roster.{names}
use Rattle.printing.specs.Texts.{refused}
use Rattle.trees.specs.Records.{records_in}
use Rattle.gather.specs.GeneTrees.{Gathered, gather as GeneTrees·gather}
use Rattle.gather.specs.GeneTrees.Gathered.{gathered, stopped}
use Rattle.gather.specs.Work.{gathered_in}
use Rattle.gather.proofs.GeneTrees.{stopped-inside}
use Rattle.outcomes.specs.Outcome.{tree_place, on_trees}
use Rattle.outcomes.proofs.Telling.{retold}
use Rattle.outcomes.proofs.GeneTrees.{gathered-genes, without-genes}
use Rattle.outcomes.proofs.Shifting.{shifted, shifted-err, shifted-ok}
use Rattle.outcomes.proofs.solve.Asked.on_trees.Goals.{After-gather, After-map_err, In_ok-count}
use Rattle.outcomes.proofs.solve.Asked.on_trees.Goals as goal

-- what was gathered, case by case
was-stopped : (c : After-gather) {e : Refusal} → c.gather.result ≡ Err e
    → stopped (number e.fault) e.place ≡ GeneTrees·gather c.args.self.now.line.now c.args.trees.now
was-stopped c is = ap (λ (r : Result ℕ Refusal). gathered_in c.gather.new.genes r) (sym is) ∙ c.gather.ensures.answer

-- its refusal moved
mapped : (c : After-map_err) → c.map_err.result ≡ result_map_both (λ s. s) (λ e. shifted c.args.shift e) c.gather.result
mapped c = search rules

was-gathered :
    (c : In_ok-count) → c.map_err.result ≡ result_map_both (λ s. s) (λ e. shifted c.args.shift e) c.gather.result
    → gathered (records_in c.in_ok-count.count c.gather.new.genes) ≡ GeneTrees·gather c.args.self.now.line.now c.args.trees.now
was-gathered c is =
    let ok = shifted-ok c.args.shift c.gather.result is c.in_ok-count.was in
    ap (λ (r : Result ℕ Refusal). gathered_in c.gather.new.genes r) (sym ok) ∙ c.gather.ensures.answer

pub map_err-requires : goal.map_err-requires
map_err-requires c = λ e is a b d f g.
    let inside = stopped-inside c.args.self.now.line.now c.args.trees.now c.args.self.now.roster.good (omega arith) (was-stopped (goal.at.map_err-requires c).After-gather is) in
    omega arith

pub returns-in_err-count : goal.returns-in_err-count
returns-in_err-count c =
    let args = c.args in
    let p = err_from_is_err_and c.from_residual.result c.from_residual.ensures.1 in
    let s = shifted-err args.shift c.gather.result (mapped (goal.at.returns-in_err-count c).After-map_err) c.in_err-count.was in
    rw (p.1, p.2)
    (retold (names args.self.now.line.now)
    (ap (λ (g : Gathered). on_trees g args.self.now.line.now args.trees.now args.shift args.self.now.all args.self.now.rooting args.self.now.n)
    (was-stopped (goal.at.returns-in_err-count c).After-gather s.1))
    (ap (λ (e : Refusal). refused e) s.2))

pub returns-then-count-eq0 : goal.returns-then-count-eq0
returns-then-count-eq0 c =
    let args = c.args in
    retold (names args.self.now.line.now)
    (without-genes c.gather.new.genes (tree_place args.self.now.line.now args.trees.now args.shift) args.self.now.all args.self.now.rooting args.self.now.n c.if-count-eq0.true
    ∙ ap (λ (g : Gathered). on_trees g args.self.now.line.now args.trees.now args.shift args.self.now.all args.self.now.rooting args.self.now.n)
    (was-gathered (goal.at.returns-then-count-eq0 c).In_ok-count (mapped (goal.at.returns-then-count-eq0 c).After-map_err)))
    (ap (λ (e : Refusal). refused e) c.at.ensures)

pub on_genes-requires : goal.on_genes-requires
on_genes-requires c =
    record {
      trees_bound = c.requires;
      genes_value = was-gathered (goal.at.on_genes-requires c).In_ok-count (mapped (goal.at.on_genes-requires c).After-map_err);
      genes = gathered-genes c.args.trees.now c.args.self.now.roster (omega arith) c.gather.auto.genes (was-gathered (goal.at.on_genes-requires c).In_ok-count (mapped (goal.at.on_genes-requires c).After-map_err))
          c.if-count-eq0.false;
    }

pub returns : goal.returns
returns c =
    let args = c.args in
    retold (names args.self.now.line.now)
    (ap (λ (g : Gathered). on_trees g args.self.now.line.now args.trees.now args.shift args.self.now.all args.self.now.rooting args.self.now.n) (was-gathered (goal.at.returns c).In_ok-count (mapped (goal.at.returns c).After-map_err)))
    c.on_genes.ensures
