-- The rows of 01's table that are marked P, and rows of #104, #113, #106 and #111, under one claim.
use Prim.Native.Nat.{ℕ}
use mathlib.Core.Path.{◌≡◌, refl}
use mathlib.Core.Bool.{true}
use mathlib.Core.List.{List, [], ◌∷◌, ◌++◌}
use lib.Count.{ones, ones_in, count_trailing_zeros}
use lib.ListN.{replicate}
use Rattle.demands.specs.Examples.{Row}
use Rattle.demands.specs.Examples.Row.{recorded, counted, scored, searched, read_below, valued, tied, printed}
use Rattle.demands.specs.Examples.Allowed.{every, own, only}
use Rattle.clusters.specs.Sets.{whole, single, union, has, within, apart, size, lowest}
use Rattle.demands.specs.Examples.{record_in, found_in, ties_in, reading_below, holds, all_hold}
use Rattle.weights.specs.declared.Rooting.TheVariants.{Rooted, Unrooted}
use Rattle.weights.specs.Count.{unrooted_has, unrooted_clusters, maximal_within, k_drawn, k_of, extra, weight, score}
use Rattle.weights.specs.Marks.{shown}
use Rattle.lineages.specs.Promise.{marks}
use Rattle.tokens.specs.Supports.{supported}
use Rattle.tokens.specs.Values.{leading, decimals, written_behind, written as writes, filled, too_fine, thousandths}
use Rattle.std.proofs.Common.{None, Some}
use Rattle.tokens.specs.Tokens.{blanks, skip, number, number_behind, numbers, name, inner_name}
use Rattle.reader.specs.Promise.{answer_within}
use Rattle.nodes.specs.Reading.{leaf_by, closing_by, read_tree_to_by, read_tree_by, read_node_by}
use Rattle.labels.specs.Bytes.{run, next_is, next_label}
use Rattle.labels.specs.Labels.{bare_letters, letters, letters_from, doubled, raw_to, told, padded}
use Rattle.labels.specs.Writing.{label_of, may_be_bare}
use Rattle.roster.specs.Roster.{same, position, in_quotes, begins, beginnings, name_at, names, stray_at, long_at, many_at, again_at, open_at, fault_at, least, first_fault, faulty}
use Rattle.splits.specs.BinaryTrees.{clusters_in, is_low, lows, each, forks, trees_to, trees_on}
use Rattle.splits.specs.Least.{those, all, score_of, trees_over, least_trees, best}
use Rattle.splits.specs.Ties.{tie_entry}
use Rattle.terms.specs.Allowed.{allowed_in}
use Rattle.splits.specs.Best.{best_for}
use Rattle.trees.specs.Drawn.{properly, maximal, placed, by_lowest, children, drawn_to, drawn}
use Rattle.trees.specs.Lists.{up_to, keep, some, insert, sorted, pieces, total}
use Rattle.trees.specs.Records.{record_for}
use Rattle.trees.specs.Tree.{cluster, clusters}
use Rattle.trees.specs.Thinned.{left_below, clusters_left}
use Rattle.trees.specs.Valid.{every as every-trees, among, rising, singles_from}
use Rattle.texts.specs.Writing.{tree_text, written, node_text}
use Rattle.printing.specs.Words.{taxa_text, genes_text, score_text, ties_text, digits_to, decimal}
use Rattle.lineages.specs.Checks.{rooting_test}
use Rattle.search.specs.TiesPromise.{ties_for}
use Rattle.gather.specs.GeneTrees.{gather_to, walk, gather}
use Rattle.outcomes.specs.Outcome.{searched as outcome}
use Rattle.report.specs.Input.{line_length, first_line, behind_line, ends_in_feed, mode_place, trees_place, all_word}
use Rattle.report.specs.Program.{mode_of, program}
use Rattle.report.specs.Promise.{output}

-- 01's rows marked P, in its order, and behind them rows of #104, #113, #106 and #111
pub examples : List Row
examples =
    -- the rosters, and the texts of the trees
    -- `a b c`
    let abc : List ℕ = 97 ∷ 32 ∷ 98 ∷ 32 ∷ 99 ∷ [] in
    -- `a b c d`
    let abcd : List ℕ = 97 ∷ 32 ∷ 98 ∷ 32 ∷ 99 ∷ 32 ∷ 100 ∷ [] in
    -- `((a,b),c);`
    let ab_c : List ℕ = 40 ∷ 40 ∷ 97 ∷ 44 ∷ 98 ∷ 41 ∷ 44 ∷ 99 ∷ 41 ∷ 59 ∷ [] in
    -- `((a,c),b);`
    let ac_b : List ℕ = 40 ∷ 40 ∷ 97 ∷ 44 ∷ 99 ∷ 41 ∷ 44 ∷ 98 ∷ 41 ∷ 59 ∷ [] in
    -- `((b,c),a);`
    let bc-a : List ℕ = 40 ∷ 40 ∷ 98 ∷ 44 ∷ 99 ∷ 41 ∷ 44 ∷ 97 ∷ 41 ∷ 59 ∷ [] in
    -- `(a,(b,c));`
    let a-bc : List ℕ = 40 ∷ 97 ∷ 44 ∷ 40 ∷ 98 ∷ 44 ∷ 99 ∷ 41 ∷ 41 ∷ 59 ∷ [] in
    -- `((a,b),(c,d));`
    let ab_cd : List ℕ = 40 ∷ 40 ∷ 97 ∷ 44 ∷ 98 ∷ 41 ∷ 44 ∷ 40 ∷ 99 ∷ 44 ∷ 100 ∷ 41 ∷ 41 ∷ 59 ∷ [] in
    -- `((a,c),(b,d));`
    let ac_bd : List ℕ = 40 ∷ 40 ∷ 97 ∷ 44 ∷ 99 ∷ 41 ∷ 44 ∷ 40 ∷ 98 ∷ 44 ∷ 100 ∷ 41 ∷ 41 ∷ 59 ∷ [] in
    -- `(((a,b),c),d);`
    let ab-c-d : List ℕ = 40 ∷ 40 ∷ 40 ∷ 97 ∷ 44 ∷ 98 ∷ 41 ∷ 44 ∷ 99 ∷ 41 ∷ 44 ∷ 100 ∷ 41 ∷ 59 ∷ [] in
    -- `(a,(b,(c,d)));`
    let a-b-cd : List ℕ = 40 ∷ 97 ∷ 44 ∷ 40 ∷ 98 ∷ 44 ∷ 40 ∷ 99 ∷ 44 ∷ 100 ∷ 41 ∷ 41 ∷ 41 ∷ 59 ∷ [] in
    -- `(a,b,c,d);`
    let star : List ℕ = 40 ∷ 97 ∷ 44 ∷ 98 ∷ 44 ∷ 99 ∷ 44 ∷ 100 ∷ 41 ∷ 59 ∷ [] in
    -- `((a,b),c,d);`
    let ab-star : List ℕ = 40 ∷ 40 ∷ 97 ∷ 44 ∷ 98 ∷ 41 ∷ 44 ∷ 99 ∷ 44 ∷ 100 ∷ 41 ∷ 59 ∷ [] in
    -- `(a,b);` and `(b,d);`
    let ab : List ℕ = 40 ∷ 97 ∷ 44 ∷ 98 ∷ 41 ∷ 59 ∷ [] in
    let bd : List ℕ = 40 ∷ 98 ∷ 44 ∷ 100 ∷ 41 ∷ 59 ∷ [] in
    -- `((a,b)::0.5,c);`
    let ab-half-c : List ℕ = 40 ∷ 40 ∷ 97 ∷ 44 ∷ 98 ∷ 41 ∷ 58 ∷ 58 ∷ 48 ∷ 46 ∷ 53 ∷ 44 ∷ 99 ∷ 41 ∷ 59 ∷ [] in
    -- `((a,b)::0.5000,c);`
    let ab-fine-c : List ℕ = 40 ∷ 40 ∷ 97 ∷ 44 ∷ 98 ∷ 41 ∷ 58 ∷ 58 ∷ 48 ∷ 46 ∷ 53 ∷ 48 ∷ 48 ∷ 48 ∷ 44 ∷ 99 ∷ 41 ∷ 59 ∷ [] in
    -- `((a::0.1234,b),c);`
    let fine-a : List ℕ = 40 ∷ 40 ∷ 97 ∷ 58 ∷ 58 ∷ 48 ∷ 46 ∷ 49 ∷ 50 ∷ 51 ∷ 52 ∷ 44 ∷ 98 ∷ 41 ∷ 44 ∷ 99 ∷ 41 ∷ 59 ∷ [] in
    -- `((a::0,b::0)::1,c)::0;`
    let all-weak : List ℕ = 40 ∷ 40 ∷ 97 ∷ 58 ∷ 58 ∷ 48 ∷ 44 ∷ 98 ∷ 58 ∷ 58 ∷ 48 ∷ 41 ∷ 58 ∷ 58 ∷ 49 ∷ 44 ∷ 99 ∷ 41 ∷ 58 ∷ 58 ∷ 48 ∷ 59 ∷ [] in
    -- `((a,b):0.1,c);`
    let distance : List ℕ = 40 ∷ 40 ∷ 97 ∷ 44 ∷ 98 ∷ 41 ∷ 58 ∷ 48 ∷ 46 ∷ 49 ∷ 44 ∷ 99 ∷ 41 ∷ 59 ∷ [] in
    -- `((a,b),c);` | record 5, 1, 2, 3, 4, 7, and 26 zeros
    recorded abc ab_c (5 ∷ 1 ∷ 2 ∷ 3 ∷ 4 ∷ 7 ∷ replicate 26 0)
    -- that tree, cluster 5 | k = 2
    ∷ counted Rooted abc ab_c 5 2
    -- that tree, cluster 7 | k = 1
    ∷ counted Rooted abc ab_c 7 1
    -- `((a,b),(c,d));` scored on `(((a,b),c),d);` | 1
    ∷ scored Rooted abcd ab_cd ab-c-d 1
    -- the same on `((a,c),(b,d));` | 2
    ∷ scored Rooted abcd ab_cd ac_bd 2
    -- `(a,b,c,d);` on `((a,b),(c,d));` | 0 (#101)
    ∷ scored Rooted abcd star ab_cd 0
    -- `(a,b,c,d);` on `(((a,b),c),d);` | 0 (#101)
    ∷ scored Rooted abcd star ab-c-d 0
    -- `((a,b),c);` `((a,b),c);` `((a,c),b);`, all | 1, `((a,b),c);`
    ∷ searched Rooted abc (ab_c ∷ ab_c ∷ ac_b ∷ []) every 0 1 ab_c
    -- one of each three-species binary tree, all | 2, `(a,(b,c));`
    ∷ searched Rooted abc (ab_c ∷ ac_b ∷ bc-a ∷ []) every 0 2 a-bc
    -- `((a,b),c,d);`, its own clusters | 14
    ∷ searched Rooted abcd (ab-star ∷ []) own 14 0 []
    -- `((a,c),(b,d));`, allowed 3 and 12 only | 2, `((a,b),(c,d));`
    ∷ searched Rooted abcd (ac_bd ∷ []) (only (3 ∷ 12 ∷ [])) 0 2 ab_cd
    -- roster `a`, `a;`, all | 0, `a;`
    ∷ searched Rooted (97 ∷ []) ((97 ∷ 59 ∷ []) ∷ []) every 0 0 (97 ∷ 59 ∷ [])
    -- `((a,c),b);` on roster `a b c d`, scored on `(((a,b),c),d);` | 1 (#104)
    ∷ scored Rooted abcd ac_b ab-c-d 1
    -- that tree, cluster 8, of which it has no species | k = 0 (#104)
    ∷ counted Rooted abcd ac_b 8 0
    -- `((a,c),b);` `(b,d);` on roster `a b c d`, all | 0, `((a,c),(b,d));` (#104)
    ∷ searched Rooted abcd (ac_b ∷ bd ∷ []) every 0 0 ac_bd
    -- `(a,b);` on roster `a b c d`, its own clusters as they stand | 14 (#104)
    ∷ searched Rooted abcd (ab ∷ []) own 14 0 []
    -- `7` is 7000 thousandths, `0.5` is 500, `1.250` is 1250, and `0.5000` has no value (#113)
    ∷ valued (55 ∷ []) (Some 7000)
    ∷ valued (48 ∷ 46 ∷ 53 ∷ []) (Some 500)
    ∷ valued (49 ∷ 46 ∷ 50 ∷ 53 ∷ 48 ∷ []) (Some 1250)
    ∷ valued (48 ∷ 46 ∷ 53 ∷ 48 ∷ 48 ∷ 48 ∷ []) None
    -- `((a,b)::0.5,c);`, threshold 500 | keeps cluster 3; 501 | drops it (#113)
    ∷ read_below abc ab-half-c 500 0 0 (5 ∷ 1 ∷ 2 ∷ 3 ∷ 4 ∷ 7 ∷ replicate 26 0)
    ∷ read_below abc ab-half-c 501 0 0 (4 ∷ 1 ∷ 2 ∷ 4 ∷ 7 ∷ replicate 27 0)
    -- `((a::0,b::0)::1,c)::0;`, threshold 1001 | drops cluster 3; the root and leaves keep theirs (#113)
    ∷ read_below abc all-weak 1001 0 0 (4 ∷ 1 ∷ 2 ∷ 4 ∷ 7 ∷ replicate 27 0)
    -- `((a,b):0.1,c);`, threshold 1000000 | keeps cluster 3: no support (#113)
    ∷ read_below abc distance 1000000 0 0 (5 ∷ 1 ∷ 2 ∷ 3 ∷ 4 ∷ 7 ∷ replicate 26 0)
    -- `((a,b)::0.5000,c);`, threshold 1 | 18 at 8; `((a::0.1234,b),c);`, threshold 0 | 18 at 5 (#113)
    ∷ read_below abc ab-fine-c 1 18 8 (replicate 32 0)
    ∷ read_below abc fine-a 0 18 5 (replicate 32 0)
    -- `((a,b)::0.5000,c);` without a threshold | record 5, 1, 2, 3, 4, 7, and 26 zeros (#113)
    ∷ recorded abc ab-fine-c (5 ∷ 1 ∷ 2 ∷ 3 ∷ 4 ∷ 7 ∷ replicate 26 0)
    -- `((a,b),(c,d));` without a root, cluster 7 | k = 1: the complement of d; with one | k = 2 (#106)
    ∷ counted Unrooted abcd ab_cd 7 1
    ∷ counted Rooted abcd ab_cd 7 2
    -- the whole set without a root | k = 1 (#106)
    ∷ counted Unrooted abcd ab_cd 15 1
    -- `((a,b),(c,d));` without a root scored on `(((a,b),c),d);` | 0, on `((a,c),(b,d));` | 2 (#106)
    ∷ scored Unrooted abcd ab_cd ab-c-d 0
    ∷ scored Unrooted abcd ab_cd ac_bd 2
    -- `((a,b),c,d);` without a root, the clusters that it shows | 0, `(a,(b,(c,d)));` (#106)
    ∷ searched Unrooted abcd (ab-star ∷ []) own 0 0 a-b-cd
    -- one of each three-species binary tree, all | 3 trees as good; `((a,b),c,d);`, its own clusters | none; without a root, all | 5, its drawings (#111)
    ∷ tied Rooted abc (ab_c ∷ ac_b ∷ bc-a ∷ []) every 3
    ∷ tied Rooted abcd (ab-star ∷ []) own 0
    ∷ tied Unrooted abcd (ab-star ∷ []) every 5
    -- the program's example: "01's example then has `ties 2`" (#111)
    ∷ printed (abc ++ 10 ∷ all_word ++ 10 ∷ ab_c ++ 10 ∷ ac_b ++ 10 ∷ [])
    (taxa_text ++ 51 ∷ genes_text ++ 50 ∷ 10 ∷ score_text ++ 49 ∷ 10 ∷ ties_text ++ 50 ∷ 10 ∷ ab_c ++ 10 ∷ [])
    ∷ []

-- every one of them holds, by the definitions that the promises cite
pub examples_hold : all_hold examples ≡ true
unfolding examples ones ones_in count_trailing_zeros whole single union has within apart size lowest record_in found_in ties_in reading_below holds all_hold unrooted_has
    unrooted_clusters maximal_within k_drawn k_of extra total weight
    score pieces shown marks answer_within leaf_by closing_by read_tree_to_by read_tree_by read_node_by next_is next_label blanks skip number number_behind numbers supported
    name inner_name run bare_letters letters letters_from doubled raw_to told padded up_to same position in_quotes begins beginnings name_at names stray_at
    long_at many_at again_at open_at fault_at least first_fault faulty clusters_in is_low lows each forks trees_to trees_on those all score_of trees_over
    least_trees best allowed_in best_for properly maximal placed by_lowest children drawn_to drawn keep some insert sorted record_for cluster clusters
    every-trees among rising singles_from tree_text written node_text label_of may_be_bare
    too_fine decimals leading thousandths written_behind writes filled clusters_left left_below tie_entry ties_for
    line_length first_line behind_line ends_in_feed mode_place trees_place mode_of gather_to walk gather rooting_test outcome program digits_to decimal output
examples_hold = refl
