-- What the parts of the calls ask of one another: the checks of shape, and of the gene records.
use Rattle.std.specs.Prelude.{ℕ, ◌*◌, ◌≡◌, List, [], ◌∷◌, length, Result}
use Rattle.faults.specs.declared.Refusal.{Refusal}
use Rattle.roster.specs.Verdict.{Test, Verdict, verdict, length_test, said_by}
use Rattle.trees.specs.Records.{records_in}
use Rattle.lineages.specs.Checks.{species_test, count_test, records_test, rooting_test}
use Rattle.weights.specs.declared.Rooting.{Rooting}

-- the tests that every call on gene records begins with: 1, 11 and 12
unfoldable pub shape_tests : ℕ → List ℕ → ℕ → List Test
shape_tests n genes count = species_test n ∷ count_test count ∷ length_test (length genes) (32 * count) ∷ []

-- the tests of the gene records themselves: 15 and 19
unfoldable pub genes_tests : Rooting → ℕ → List (List ℕ) → List Test
genes_tests rooting n genes = records_test n genes ∷ rooting_test rooting n genes ∷ []

-- what tests say, by number and place
abbrev pub said : ℕ → ℕ → Verdict
said number place = record { number = number; place = place }

-- what is answered of the gene records: 15 or 19, or no refusal
abbrev pub GenesJudged : Rooting → ℕ → List ℕ → ℕ → Result (Unit {0}) Refusal → Type 0
GenesJudged rooting n genes count r = said_by r ≡ verdict (genes_tests rooting n (records_in count genes))
