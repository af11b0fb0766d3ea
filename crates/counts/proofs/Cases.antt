-- What `check` answers of some texts on the roster `a b c` with the gene tree `((a,b),c);`, computed (#114).
use Prim.Native.Nat.{ℕ}
use mathlib.Core.Path.{◌≡◌, refl}
use mathlib.Core.List.{List, [], ◌∷◌}
use lib.Count.{ones, ones_in, count_trailing_zeros}
use lib.ListN.{length, replicate}
use Rattle.clusters.specs.Sets.{whole, single, union, has, within, apart, size, lowest}
use Rattle.labels.specs.Bytes.{run, next_is, next_label}
use Rattle.labels.specs.Labels.{bare_letters, letters, letters_from, doubled, raw_to, told, padded}
use Rattle.trees.specs.Drawn.{properly, maximal, placed, by_lowest, children, drawn_to, drawn}
use Rattle.trees.specs.Lists.{up_to, keep, some, insert, sorted, pieces, total}
use Rattle.trees.specs.Records.{record_for, records_in}
use Rattle.trees.specs.Tree.{cluster, clusters}
use Rattle.trees.specs.Valid.{every, among, rising, singles_from, nested, valid_for, valid_gene_for, binary}
use Rattle.roster.specs.Roster.{same, position, in_quotes, begins, beginnings, name_at, names, stray_at, long_at, many_at, again_at, open_at, fault_at, least, first_fault, faulty}
use Rattle.roster.specs.Verdict.{verdict, length_test, reply_of}
use Rattle.roster.specs.declared.Reply.{Reply}
use Rattle.tokens.specs.Tokens.{blanks, skip, number, number_behind, numbers, name, inner_name}
use Rattle.tokens.specs.Supports.{supported}
use Rattle.tokens.specs.Values.{written, written_behind}
use Rattle.nodes.specs.Reading.{leaf_by, closing_by, read_tree_to_by, read_tree_by, read_node_by}
use Rattle.std.proofs.Common.{None}
use Rattle.reader.specs.Promise.{answer_within, answer_to}
use Rattle.reader.specs.declared.Kind.TheVariants.{Species}
use Rattle.branches.specs.Ends.{lead, next_end, ends_from, is_count, count_in}
use Rattle.weights.specs.Count.{k_of, extra, weight, score}
use Rattle.lineages.specs.Checks.{count_test, first_failing, records_test}
use Rattle.splits.specs.BinaryTrees.{clusters_in, is_low, lows, each, forks, trees_to, trees_on}
use Rattle.splits.specs.Least.{those, all, score_of, trees_over, least_trees, best}
use Rattle.splits.specs.Best.{best_for}
use Rattle.terms.specs.Allowed.{allowed_in}
use Rattle.counts.specs.Promise.{least_score, distance, first_wrong, drawn_test, check_tests, check_verdict, distance_of, Checks}

-- `a b c`
abbrev abc : List ℕ
abc = 97 ∷ 32 ∷ 98 ∷ 32 ∷ 99 ∷ []

-- the record of `((a,b),c);`
abbrev gene : List ℕ
gene = 5 ∷ 1 ∷ 2 ∷ 3 ∷ 4 ∷ 7 ∷ replicate 26 0

-- 32 numbers that are no record
abbrev none_of_it : List ℕ
none_of_it = replicate 32 0

-- `((a:0,c:00):1,b:0):0;`
abbrev right : List ℕ
right = 40 ∷ 40 ∷ 97 ∷ 58 ∷ 48 ∷ 44 ∷ 99 ∷ 58 ∷ 48 ∷ 48 ∷ 41 ∷ 58 ∷ 49 ∷ 44 ∷ 98 ∷ 58 ∷ 48 ∷ 41 ∷ 58 ∷ 48 ∷ 59 ∷ []

-- `((a:0,c:0):0,b:0):0;`
abbrev lower : List ℕ
lower = 40 ∷ 40 ∷ 97 ∷ 58 ∷ 48 ∷ 44 ∷ 99 ∷ 58 ∷ 48 ∷ 41 ∷ 58 ∷ 48 ∷ 44 ∷ 98 ∷ 58 ∷ 48 ∷ 41 ∷ 58 ∷ 48 ∷ 59 ∷ []

-- `((a:0,c:0):1,b:0);`
abbrev rootless : List ℕ
rootless = 40 ∷ 40 ∷ 97 ∷ 58 ∷ 48 ∷ 44 ∷ 99 ∷ 58 ∷ 48 ∷ 41 ∷ 58 ∷ 49 ∷ 44 ∷ 98 ∷ 58 ∷ 48 ∷ 41 ∷ 59 ∷ []

-- `((a:0.0,c:0):1,b:0):0;`
abbrev fractional : List ℕ
fractional = 40 ∷ 40 ∷ 97 ∷ 58 ∷ 48 ∷ 46 ∷ 48 ∷ 44 ∷ 99 ∷ 58 ∷ 48 ∷ 41 ∷ 58 ∷ 49 ∷ 44 ∷ 98 ∷ 58 ∷ 48 ∷ 41 ∷ 58 ∷ 48 ∷ 59 ∷ []

-- `((a:0,c:0):1,b:0:0):0;`
abbrev second : List ℕ
second = 40 ∷ 40 ∷ 97 ∷ 58 ∷ 48 ∷ 44 ∷ 99 ∷ 58 ∷ 48 ∷ 41 ∷ 58 ∷ 49 ∷ 44 ∷ 98 ∷ 58 ∷ 48 ∷ 58 ∷ 48 ∷ 41 ∷ 58 ∷ 48 ∷ 59 ∷ []

-- `(a:0,b:0,c:5):0;`
abbrev wide : List ℕ
wide = 40 ∷ 97 ∷ 58 ∷ 48 ∷ 44 ∷ 98 ∷ 58 ∷ 48 ∷ 44 ∷ 99 ∷ 58 ∷ 53 ∷ 41 ∷ 58 ∷ 48 ∷ 59 ∷ []

-- what is promised of a text and a gene record, with tables of 8 entries
unfoldable pub reply_with : List ℕ → List ℕ → Reply
unfolding distance least_score
reply_with genes text =
    reply_of (check_verdict abc text 0 genes 1 (replicate 8 9) (replicate 8 9) (answer_to Species None abc text 0))
    (distance_of (length (names abc)) (records_in 1 genes) (answer_to Species None abc text 0))

-- with the record of the gene tree
abbrev reply_to : List ℕ → Reply
reply_to text = reply_with gene text

-- the tree `((a,c),b)` scores 1, and `((a,b),c)` scores 0; "zeros in front change nothing";
-- a wrong count of the node (a,c), none of the root, a point behind a, a second number behind b; 16 before 23, 15 before 23 and behind 16
pub replies :
    (reply_to right ≡ record { number = 0; place = 0; value = 1 })
    × (reply_to lower ≡ record { number = 23; place = 10; value = 0 })
    × (reply_to rootless ≡ record { number = 23; place = 17; value = 0 })
    × (reply_to fractional ≡ record { number = 23; place = 3; value = 0 })
    × (reply_to second ≡ record { number = 23; place = 14; value = 0 })
    × (reply_to wide ≡ record { number = 16; place = 0; value = 0 })
    × (reply_with none_of_it lower ≡ record { number = 15; place = 0; value = 0 })
    × (reply_with none_of_it wide ≡ record { number = 16; place = 0; value = 0 })
unfolding reply_with check_verdict check_tests drawn_test first_wrong ones ones_in count_trailing_zeros whole single union has within apart size lowest run next_is next_label
    bare_letters letters letters_from doubled raw_to told padded properly maximal placed by_lowest children drawn_to drawn up_to keep some insert sorted pieces total
    record_for cluster clusters every among rising singles_from nested valid_for valid_gene_for binary same position in_quotes begins beginnings name_at names stray_at long_at
    many_at again_at open_at fault_at least first_fault faulty verdict length_test blanks skip number number_behind numbers name inner_name supported written written_behind
    leaf_by closing_by read_tree_to_by read_tree_by read_node_by answer_within lead next_end ends_from is_count count_in k_of extra weight score count_test first_failing records_test
    clusters_in is_low lows each forks trees_to trees_on those all score_of trees_over least_trees best best_for allowed_in
replies = (refl, refl, refl, refl, refl, refl, refl, refl)

-- and so `check` answers
pub replied : (genes text s p : List ℕ) (r : Reply) → Checks abc text 0 genes 1 (replicate 8 9) (replicate 8 9) r s p → r ≡ reply_with genes text
unfolding reply_with
replied genes text s p r c = c.reply
