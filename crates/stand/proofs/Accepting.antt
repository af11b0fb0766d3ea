-- Which calls on a stand are accepted, exactly, and that no test gives 14.
use Prim.Native.Nat.{ℕ, ◌^◌, ◌≤◌}
use mathlib.Core.Path.{◌≡◌, ap, ◌∙◌}
use mathlib.Core.Bool.{false}
use mathlib.Core.List.{List}
use native.Mathlib.Omega.{arith}
use lib.ListN.{length}
use borrow.Author.Tests.{ltb-false, le-ltb}
use Rattle.trees.specs.Records.{wide_records_in, AllValidFor}
use Rattle.roster.specs.Roster.{names}
use Rattle.roster.specs.Verdict.{Verdict, verdict, length_test}
use Rattle.lineages.specs.Checks.{count_test}
use Rattle.lineages.proofs.Verdicts.{NoneGives, verdict-passed, verdict-never}
use Rattle.lineages.proofs.FirstBad.{none_bad, all_valid_none_bad}
use Rattle.mapping.specs.Promise.{roster_test, mapping_test, stand_tests}
use Rattle.terms.specs.Allowed.{first_strange, allowed_test}
use Rattle.search.proofs.Accepted.{strange_none, none_strange}
use Rattle.stand.specs.Checks.{first_bad_wide, wide_records_test, open_tests, search_tests}
use Rattle.stand.specs.InOrder.{StandAccepted}
use Rattle.stand.proofs.Opening.{open_passed, openable-told, individuals-count}

-- ---- 15

pub records-valid : (m : ℕ) (genes : List (List ℕ)) → m ≤ 32 → (wide_records_test m genes).fault ≡ false → AllValidFor 32 m genes
unfolding wide_records_test
records-valid m genes few e = none_bad m genes few (ltb-false (first_bad_wide m genes) (length genes) e)

pub valid-records : (m : ℕ) (genes : List (List ℕ)) → m ≤ 32 → AllValidFor 32 m genes → (wide_records_test m genes).fault ≡ false
unfolding wide_records_test
valid-records m genes few all = le-ltb (first_bad_wide m genes) (length genes) (let e = all_valid_none_bad m genes few all in omega arith)

pub numbered : (m : ℕ) (genes : List (List ℕ)) → (wide_records_test m genes).number ≡ 0 → ⊥
unfolding wide_records_test
numbered m genes z = omega arith

-- ---- the search

module _ (line individuals mapping genes : List ℕ) (count : ℕ) (allowed scores splits : List ℕ) where
  pub accepted : (verdict (search_tests line individuals mapping genes count allowed scores splits)).number ≡ 0
      → StandAccepted line individuals mapping genes count allowed scores splits
  unfolding search_tests length_test allowed_test
  accepted e =
      let o = open_passed line individuals mapping genes count _ e in
      let a = verdict-passed _ _ (λ z. omega arith) o.1 in
      let b = verdict-passed _ _ (λ z. omega arith) a.1 in
      let c = verdict-passed _ _ (λ z. omega arith) b.1 in
      let d = verdict-passed (wide_records_test (length (names individuals)) (wide_records_in count genes)) _ (numbered (length (names individuals)) (wide_records_in count genes)) c.1 in
      let f = verdict-passed _ _ (λ z. omega arith) d.1 in
      record {
        in_order = record {
          open_to = o.0;
          valid = records-valid (length (names individuals)) (wide_records_in count genes) (individuals-count line individuals mapping genes count o.0).1 d.0;
        };
        allowed_fits = ltb-false (length allowed) (2 ^ length (names line)) a.0;
        scores_fit = ltb-false (length scores) (2 ^ length (names line)) b.0;
        splits_fit = ltb-false (length splits) (2 ^ length (names line)) c.0;
        allowed_bytes = strange_none (length (names line)) allowed (ltb-false (first_strange (length (names line)) allowed) (2 ^ length (names line)) f.0);
      }

  pub accepts : StandAccepted line individuals mapping genes count allowed scores splits
      → (verdict (search_tests line individuals mapping genes count allowed scores splits)).number ≡ 0
  unfolding search_tests length_test allowed_test verdict
  accepts a =
      let o = a.in_order.open_to in
      ap (λ (v : Verdict). v.number) (openable-told line individuals mapping genes count o _)
      ∙ rw (
        le-ltb (length allowed) (2 ^ length (names line)) a.allowed_fits,
        le-ltb (length scores) (2 ^ length (names line)) a.scores_fit,
        le-ltb (length splits) (2 ^ length (names line)) a.splits_fit,
        valid-records (length (names individuals)) (wide_records_in count genes) (individuals-count line individuals mapping genes count o).1 a.in_order.valid,
        le-ltb (first_strange (length (names line)) allowed) (2 ^ length (names line)) (none_strange (length (names line)) allowed a.allowed_bytes),
      )

  -- 14 comes from the search alone
  pub no_fourteen : (verdict (search_tests line individuals mapping genes count allowed scores splits)).number ≡ 14 → ⊥
  unfolding search_tests open_tests stand_tests roster_test mapping_test count_test length_test wide_records_test allowed_test NoneGives
  no_fourteen =
      verdict-never 14 (search_tests line individuals mapping genes count allowed scores splits) (λ z. omega arith) (
        λ z. omega arith,
        (
          λ z. omega arith,
          (
            λ z. omega arith,
            (λ z. omega arith, (λ z. omega arith, (λ z. omega arith, (λ z. omega arith, (λ z. omega arith, (λ z. omega arith, (λ z. omega arith, tt))))))),
          ),
        ),
      )
