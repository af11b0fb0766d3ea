-- Gene trees with every species, after #104: they are judged as before. Weights, scores, tables and trees are definitions over the records alone, so they are what they were.
use Prim.Native.Nat.{ℕ, ◌≤◌}
use mathlib.Core.Path.{◌≡◌, refl, ap₂}
use mathlib.Core.List.Memᴰ.{head as here}
use mathlib.Core.List.Memᴰ.{tail as there}
use mathlib.Core.List.{List, [], ◌∷◌, Memᴰ}
use lib.Dec.{ltb}
use lib.ListN.{length}
use Rattle.clusters.specs.Sets.{whole}
use Rattle.labels.specs.Bytes.{one_more}
use Rattle.trees.specs.Records.{largest}
use Rattle.trees.specs.Valid.{valid, valid_gene}
use Rattle.trees.proofs.Bounds.{whole_below_sixteen}
use Rattle.trees.proofs.ValidTest.{valid_decides}
use Rattle.trees.proofs.GeneRecords.{gene_decides, gene_of_species, species_of_gene}
use Rattle.weights.proofs.Joining.{tells_same}
use Rattle.roster.specs.Verdict.{Test}
use Rattle.lineages.specs.Checks.{first_failing, first_bad, records_test}

-- a record whose largest cluster is the roster's whole set is a valid gene record exactly when it was a valid record before
pub complete-judged_as_before : {n : ℕ} (g : List ℕ) → 1 ≤ n → n ≤ 16 → largest g ≡ whole n → valid_gene n g ≡ valid (whole n) g
complete-judged_as_before {n} g some few e =
    tells_same (gene_decides g few) (valid_decides g (whole_below_sixteen n few)) (λ gene. species_of_gene gene e) (λ species. gene_of_species some species)

-- what stood in the place of `first_bad` before: the index of the first record that is not valid with every species
unfoldable pub first_not_valid_on_all : ℕ → List (List ℕ) → ℕ
first_not_valid_on_all n [] = 0
first_not_valid_on_all n (g ∷ l) = one_more (valid (whole n) g) (first_not_valid_on_all n l)

-- where every gene tree has every species, 15 and its place are what they were
pub complete-refused_as_before :
    {n : ℕ} (genes : List (List ℕ)) → 1 ≤ n → n ≤ 16 → ((g : List ℕ) → Memᴰ g genes → largest g ≡ whole n) → first_bad n genes ≡ first_not_valid_on_all n genes
unfolding first_failing first_not_valid_on_all
complete-refused_as_before [] some few all = refl
complete-refused_as_before (g ∷ l) some few all =
    ap₂ one_more (complete-judged_as_before g some few (all g (here refl))) (complete-refused_as_before l some few (λ h m. all h (there m)))

-- the test for 15 with what stood in the place of `first_bad`
unfoldable pub complete_test : ℕ → List (List ℕ) → Test
complete_test n genes = record { fault = ltb (first_not_valid_on_all n genes) (length genes); number = 15; place = first_not_valid_on_all n genes }

-- so the tests of a call that are the only ones to look at the gene trees' species are what they were: `weight_tests`, `score_tests`, `mark_tests` and the search's have no other
pub complete-tested_as_before :
    {n : ℕ} (genes : List (List ℕ)) → 1 ≤ n → n ≤ 16 → ((g : List ℕ) → Memᴰ g genes → largest g ≡ whole n) → records_test n genes ≡ complete_test n genes
unfolding records_test complete_test
complete-tested_as_before genes some few all = rw (complete-refused_as_before genes some few all)
