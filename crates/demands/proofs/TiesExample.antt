-- How many trees are as good (#111), worked on three species: 01's example, whose lots do not reach equality, and lots that do.
use Prim.Native.Nat.{ℕ}
use mathlib.Core.Path.{◌≡◌}
use mathlib.Core.List.{List, [], ◌∷◌, ◌++◌}
use lib.Count.{ones, ones_in, count_trailing_zeros}
use Rattle.clusters.specs.Sets.{whole, single, union, has, within, apart, size, lowest}
use Rattle.trees.specs.Drawn.{properly, maximal, placed, by_lowest, children}
use Rattle.trees.specs.Lists.{keep, some, insert, sorted, pieces, total, up_to}
use Rattle.trees.specs.Records.{record_of, record_for}
use Rattle.trees.specs.Valid.{every, among, rising, singles_from, nested, valid_for, valid_gene_for, binary}
use Rattle.roster.specs.Roster.{least}
use Rattle.roster.specs.Verdict.{verdict, length_test}
use Rattle.weights.specs.Count.{k_of, extra, weight, score}
use Rattle.weights.specs.declared.Rooting.TheVariants.{Rooted}
use Rattle.lineages.specs.Checks.{species_test, count_test, first_failing, records_test, rooting_test}
use Rattle.splits.specs.BinaryTrees.{clusters_in, is_low, lows, each, forks, trees_to, trees_on}
use Rattle.splits.specs.Least.{those, all, score_of, trees_over, least_trees, best}
use Rattle.splits.specs.Best.{best_for}
use Rattle.splits.specs.Ties.{tie_entry}
use Rattle.terms.specs.Allowed.{allowed_in, first_strange, allowed_test}
use Rattle.search.specs.TiesPromise.{ties_for, ties_tests, FindsTies}
use Rattle.search.specs.declared.tied.Tied.{Tied}
use Rattle.demands.proofs.SmallInputs.{ab_c, ac_b, every-cluster, lent}

-- the record of `(a,b,c);`
unfoldable pub a_b_c : List ℕ
a_b_c = record_of (1 ∷ 2 ∷ 4 ∷ 7 ∷ [])

-- a search with ties over these gene trees, every cluster allowed: its score, how many ties, its tree, and what the third table then holds
abbrev Says : List ℕ → ℕ → ℕ → ℕ → List ℕ → List ℕ → Type 0
Says genes count score ties tree table =
    (r : Tied) (s p t : List ℕ) → FindsTies Rooted 3 genes count every-cluster lent lent lent r s p t
    → (r ≡ record { number = 0; place = 0; score = score; ties = ties; numbers = tree }) × (t ≡ table)

-- the third table: no tree on no species, one on each cluster of one or two, and so many on all three
abbrev table_of : ℕ → List ℕ
table_of ties = 0 ∷ 1 ∷ 1 ∷ 1 ∷ 1 ∷ 1 ∷ 1 ∷ ties ∷ []

-- by computing: `((a,b),c);` and `((a,c),b);`, "01's example then has `ties 2`" (#111), though each of them alone has one: their lots do not reach equality;
-- `(a,b,c);` alone, for which all three trees are least; with `((a,b),c);` the lots reach equality, and the one tree that is least for both is left
pub ties_worked :
    Says (ab_c ++ ac_b) 2 1 2 ab_c (table_of 2) × Says ab_c 1 0 1 ab_c (table_of 1) × Says ac_b 1 0 1 ac_b (table_of 1)
    × Says a_b_c 1 0 3 (record_of (1 ∷ 2 ∷ 4 ∷ 6 ∷ 7 ∷ [])) (table_of 3)
    × Says (a_b_c ++ ab_c) 2 0 1 ab_c (table_of 1)
unfolding ab_c ac_b a_b_c every-cluster lent rooting_test first_failing ones ones_in count_trailing_zeros whole single union has within
    apart size lowest keep some insert sorted
    record_for properly maximal placed by_lowest children every among rising singles_from nested valid_for valid_gene_for binary verdict length_test k_of extra total weight score
    pieces species_test count_test records_test up_to least clusters_in is_low lows each forks trees_to trees_on those all score_of trees_over least_trees
    best allowed_in first_strange allowed_test ties_tests best_for tie_entry ties_for
ties_worked = (
  λ r s p t f. (f.reply, f.tie_table),
  λ r s p t f. (f.reply, f.tie_table),
  λ r s p t f. (f.reply, f.tie_table),
  λ r s p t f. (f.reply, f.tie_table),
  λ r s p t f. (f.reply, f.tie_table),
)
