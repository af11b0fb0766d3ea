-- The refusals of the calls on gene records, as tests in 01's order: "1, 11, 12, 16, 15, 13, 14, each where it applies", with 19 "straight after 15" (#106).
use Rattle.std.specs.Prelude.{ℕ, zero, ◌*◌, ◌^◌, Bool, true, false, not, ◌&&◌, List, [], ◌∷◌, length, leb, ltb}
use Rattle.clusters.specs.Sets.{whole}
use Rattle.labels.specs.Bytes.{one_more}
use Rattle.trees.specs.Valid.{valid, valid_gene, binary}
use Rattle.roster.specs.Verdict.{Test, length_test}
use Rattle.trees.specs.Records.{records_in}
use Rattle.trees.specs.Unrooted.{may_unroot}
use Rattle.weights.specs.declared.Rooting.{Rooting}
use Rattle.weights.specs.declared.Rooting.TheVariants.{Rooted, Unrooted}

-- "1 | .. n not 1 to 16 | 0 for n"
unfoldable pub species_test : ℕ → Test
species_test n = record { fault = not (leb 1 n && leb n 16); number = 1; place = 0 }

-- "11 | gene trees 0 or over 4,096 | 0"
unfoldable pub count_test : ℕ → Test
count_test count = record { fault = not (leb 1 count && leb count 4096); number = 11; place = 0 }

-- "16 | species record not valid or not binary | 0"; "Species records still have every species" (#104)
unfoldable pub species_record_test : ℕ → List ℕ → Test
species_record_test n r = record { fault = not (valid (whole n) r && binary (whole n) r); number = 16; place = 0 }

-- the index of the first record that fails a test; how many there are where none does
unfoldable pub first_failing : (List ℕ → Bool) → List (List ℕ) → ℕ
first_failing test [] = zero
first_failing test (g ∷ l) = one_more (test g) (first_failing test l)

-- the index of the first record that is not that of a gene tree for n species (#104)
abbrev pub first_bad : ℕ → List (List ℕ) → ℕ
first_bad n genes = first_failing (λ g. valid_gene n g) genes

-- "15 | a record not valid | index of the first"
unfoldable pub records_test : ℕ → List (List ℕ) → Test
records_test n genes = record { fault = ltb (first_bad n genes) (length genes); number = 15; place = first_bad n genes }

-- the index of the first "unresolved or incomplete tree" (#106)
abbrev pub first_unresolved : ℕ → List (List ℕ) → ℕ
first_unresolved n genes = first_failing (λ g. may_unroot n g) genes

-- whether gene trees are counted without a root
abbrev pub is_unrooted : Rooting → Bool
is_unrooted Rooted = false
is_unrooted Unrooted = true

-- "19 for an unresolved or incomplete tree, place the first one's index" (#106): asked of gene trees without a root alone
unfoldable pub rooting_test : Rooting → ℕ → List (List ℕ) → Test
rooting_test rooting n genes = record { fault = is_unrooted rooting && ltb (first_unresolved n genes) (length genes); number = 19; place = first_unresolved n genes }

-- "13 | number is no cluster .. | that number"
unfoldable pub cluster_test : ℕ → ℕ → Test
cluster_test n a = record { fault = not (leb 1 a && ltb a (2 ^ n)); number = 13; place = a }

-- the tests of `weight`
unfoldable pub weight_tests : Rooting → ℕ → List ℕ → ℕ → ℕ → List Test
weight_tests rooting n genes count a =
    species_test n ∷ count_test count ∷ length_test (length genes) (32 * count)
    ∷ records_test n (records_in count genes) ∷ rooting_test rooting n (records_in count genes) ∷ cluster_test n a ∷ []

-- the tests of `score`
unfoldable pub score_tests : Rooting → ℕ → List ℕ → ℕ → List ℕ → List Test
score_tests rooting n genes count species =
    species_test n ∷ count_test count ∷ length_test (length genes) (32 * count)
    ∷ species_record_test n species ∷ records_test n (records_in count genes)
    ∷ rooting_test rooting n (records_in count genes) ∷ []

-- the tests of `mark`: genes and the lent bytes are long enough
unfoldable pub mark_tests : Rooting → ℕ → List ℕ → ℕ → List ℕ → List Test
mark_tests rooting n genes count out =
    species_test n ∷ count_test count ∷ length_test (length genes) (32 * count) ∷ length_test (length out) (2 ^ n)
    ∷ records_test n (records_in count genes)
    ∷ rooting_test rooting n (records_in count genes)
    ∷ []
