-- `lineages::checks::judge_genes` meets its contract: one law for each way through both tests.
use mathlib.Core.Path.{◌≡◌}
use Rattle.faults.specs.Faults.{number as fault_number}
use Rattle.faults.specs.declared.Refusal.{Refusal}
use Rattle.trees.specs.Records.{records_in}
use Rattle.trees.specs.Valid.{valid_gene}
use Rattle.roster.specs.Verdict.{Verdict}
use Rattle.lineages.specs.Work.{said}
use Rattle.lineages.proofs.FirstBad.{found_none, none_bad, judged_bad, judged_unresolved, judged-resolved}
use Rattle.lineages.proofs.checks.judge_genes.Goals as goal

-- a refusal, as it is answered
answered : {r s : Refusal} {v : Verdict} → r ≡ s → said (fault_number s.fault) s.place ≡ v → said (fault_number r.fault) r.place ≡ v
answered e told = rw e told

pub returns-in-Some : goal.returns-in-Some
returns-in-Some c = rw c.at.ensures (judged_bad _ _ _ c.in-Some.ensures)

pub first_unresolved-requires-clause-all_valid : goal.first_unresolved-requires-clause-all_valid
first_unresolved-requires-clause-all_valid c =
    let genes = records_in c.args.count c.args.genes.now in
    none_bad c.args.n genes c.requires.n_bound (found_none (λ g. valid_gene c.args.n g) genes c.in_default.ensures)

pub returns-in-Some-first_unresolved : goal.returns-in-Some-first_unresolved
returns-in-Some-first_unresolved c =
    answered c.at-in-Some-first_unresolved.ensures (judged_unresolved _ _ _ c.in_default.ensures c.in-Unrooted.is c.in-Some-first_unresolved.ensures)

pub returns-in_default-first_unresolved : goal.returns-in_default-first_unresolved
returns-in_default-first_unresolved c = judged-resolved _ _ _ c.in_default.ensures (λ e. c.in_default-first_unresolved.ensures)

pub returns-in_default-rooting : goal.returns-in_default-rooting
returns-in_default-rooting c = judged-resolved _ _ _ c.in_default.ensures (λ e. absurd (c.in_default-rooting.not-Unrooted e))
