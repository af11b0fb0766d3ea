-- `stand::searching::searched` meets its contract: one law for each way through its checks.
use Prim.Native.Nat.{◌^◌}
use mathlib.Core.Path.{refl}
use native.Mathlib.Omega.{arith}
use Rattle.std.proofs.lemmas.Result.{err_from_is_err_and}
use Rattle.clusters.specs.Sets.{single}
use Rattle.search.specs.Work.{LongEnough}
use Rattle.search.proofs.Finding.{long_passed}
use Rattle.stand.proofs.Replies.{few_named, few_members, enough-lent}
use Rattle.stand.proofs.Finding.{solvable, finds-closed, finds-short, finds_bad, finds_strange, finds-solved}
use Rattle.stand.proofs.searching.searched.Goals.{In_ok-long_enough}
use Rattle.stand.proofs.searching.searched.Goals as goal

-- behind the second check
long : (c : In_ok-long_enough) → let args = c.args in LongEnough (2 ^ c.in_ok-stand.stand.species) args.allowed.now args.scores.now args.splits.now
unfolding single
long c = long_passed _ _ _ _ (rw c.single.ensures at c.in_ok-long_enough.ensures)

pub returns-in_err-stand : goal.returns-in_err-stand
returns-in_err-stand c =
    let p = err_from_is_err_and c.from_residual.result c.from_residual.ensures.1 in
    rw (p.1, p.2) (finds-closed _ _ _ _ _ _ _ _ c.in_err-stand.field-0.0 c.in_err-stand.ensures refl refl refl)

pub single-requires : goal.single-requires
single-requires c =
    let few = few_named _ _ _ _ _ _ c.in_ok-stand.ensures in omega arith

pub returns-in_err-long_enough : goal.returns-in_err-long_enough
unfolding single
returns-in_err-long_enough c =
    let p = err_from_is_err_and c.from_residual-in_err-long_enough.result c.from_residual-in_err-long_enough.ensures.1 in
    rw (p.1, p.2)
    (finds-short _ _ _ _ _ _ _ _ _ c.in_ok-stand.ensures c.in_err-long_enough.field-0.0 (rw c.single.ensures at c.in_err-long_enough.ensures) refl refl refl)

pub judge_records-requires : goal.judge_records-requires
judge_records-requires c =
    let opened = c.in_ok-stand.ensures in record { m_bound = few_members _ _ _ _ _ _ opened; count_in_bounds = enough-lent _ _ _ _ _ _ opened }

pub returns-in_err-judge_records : goal.returns-in_err-judge_records
returns-in_err-judge_records c =
    let p = err_from_is_err_and c.from_residual-in_err-judge_records.result c.from_residual-in_err-judge_records.ensures.1 in
    rw (p.1, p.2)
    (finds_bad _ _ _ _ _ _ _ _ _ c.in_ok-stand.ensures (long (goal.at.returns-in_err-judge_records c).In_ok-long_enough) c.in_err-judge_records.field-0.0
    c.in_err-judge_records.ensures refl refl refl)

pub judge_allowed-requires : goal.judge_allowed-requires
judge_allowed-requires c = record {
  n_bound = few_named _ _ _ _ _ _ c.in_ok-stand.ensures;
  allowed_long = (long (goal.at.judge_allowed-requires c).In_ok-long_enough).allowed_long;
}

pub returns-in_err-judge_allowed : goal.returns-in_err-judge_allowed
returns-in_err-judge_allowed c =
    let p = err_from_is_err_and c.from_residual-in_err-judge_allowed.result c.from_residual-in_err-judge_allowed.ensures.1 in
    rw (p.1, p.2)
    (finds_strange _ _ _ _ _ _ _ _ _ c.in_ok-stand.ensures (long (goal.at.returns-in_err-judge_allowed c).In_ok-long_enough) c.in_ok-judge_records.ensures
    c.in_err-judge_allowed.field-0.0 c.in_err-judge_allowed.ensures refl refl refl)

pub solve_stand-requires : goal.solve_stand-requires
solve_stand-requires c =
    solvable _ _ _ _ _ _ _ _ _ c.in_ok-stand.ensures (long (goal.at.solve_stand-requires c).In_ok-long_enough) c.in_ok-judge_records.ensures

pub returns : goal.returns
returns c =
    finds-solved _ _ _ _ _ _ _ _ _ c.in_ok-stand.ensures (long (goal.at.returns c).In_ok-long_enough) c.in_ok-judge_records.ensures
    c.in_ok-judge_allowed.ensures c.solve_stand.ensures
