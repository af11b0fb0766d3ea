-- The refusals of the calls on a stand, as tests in their order (#110): "1 (first roster), 1 (second), 20, then 11, 12, 16, 15, 13, 14, each where it applies".
use Rattle.std.specs.Prelude.{ℕ, ◌*◌, ◌^◌, List, [], ◌∷◌, ◌++◌, length, ltb}
use Rattle.trees.specs.Records.{wide_records_in}
use Rattle.trees.specs.Valid.{valid_gene_for}
use Rattle.roster.specs.Roster.{names}
use Rattle.roster.specs.Verdict.{Test, length_test}
use Rattle.mapping.specs.Promise.{individuals_most, stand_tests}
use Rattle.lineages.specs.Checks.{first_failing, count_test, cluster_test, species_record_test}
use Rattle.terms.specs.Allowed.{allowed_test}

-- the index of the first wide record that is not that of a gene tree on the m individuals: "valid for m individuals as in 104"
abbrev pub first_bad_wide : ℕ → List (List ℕ) → ℕ
first_bad_wide m genes = first_failing (λ g. valid_gene_for individuals_most m g) genes

-- "15 | a record not valid | index of the first"
unfoldable pub wide_records_test : ℕ → List (List ℕ) → Test
wide_records_test m genes = record { fault = ltb (first_bad_wide m genes) (length genes); number = 15; place = first_bad_wide m genes }

-- what every call on gene trees begins with: the stand's own tests, then 11, and 12 where there are fewer than 64 entries for each record counted
unfoldable pub open_tests : List ℕ → List ℕ → List ℕ → List ℕ → ℕ → List Test
open_tests line individuals mapping genes count = stand_tests line individuals mapping ++ (count_test count ∷ length_test (length genes) (64 * count) ∷ [])

-- the tests of `weight`
unfoldable pub weight_tests : List ℕ → List ℕ → List ℕ → List ℕ → ℕ → ℕ → List Test
unfolding open_tests
weight_tests line individuals mapping genes count a =
    open_tests line individuals mapping genes count
    ++ (wide_records_test (length (names individuals)) (wide_records_in count genes) ∷ cluster_test (length (names line)) a ∷ [])

-- the tests of `score`
unfoldable pub score_tests : List ℕ → List ℕ → List ℕ → List ℕ → ℕ → List ℕ → List Test
unfolding open_tests
score_tests line individuals mapping genes count species =
    open_tests line individuals mapping genes count
    ++ (species_record_test (length (names line)) species ∷ wide_records_test (length (names individuals)) (wide_records_in count genes) ∷ [])

-- the tests of `search`: 2^n entries in the allowed set and in both tables, n being the number of species
unfoldable pub search_tests : List ℕ → List ℕ → List ℕ → List ℕ → ℕ → List ℕ → List ℕ → List ℕ → List Test
unfolding open_tests
search_tests line individuals mapping genes count allowed scores splits =
    open_tests line individuals mapping genes count
    ++ (length_test (length allowed) (2 ^ length (names line))
    ∷ length_test (length scores) (2 ^ length (names line))
    ∷ length_test (length splits) (2 ^ length (names line))
    ∷ wide_records_test (length (names individuals)) (wide_records_in count genes)
    ∷ allowed_test (length (names line)) allowed
    ∷ [])
