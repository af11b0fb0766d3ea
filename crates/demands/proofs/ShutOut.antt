-- "What the promises have to shut out": no function that meets a promise on all that a machine can hand over is one of 01's wrong versions there.
use Prim.Native.Nat.{ℕ, ◌+◌, ◌-◌, ◌^◌, ◌≤◌, ◌<◌}
use mathlib.Core.Path.{◌≡◌, refl, sym, ap, ◌∙◌}
use mathlib.Core.List.Memᴰ
use mathlib.Core.List.{List, [], ◌∷◌, ◌++◌, Memᴰ}
use mathlib.Core.Logic.{◌⊎◌, inl, inr}
use native.Mathlib.Omega.{arith}
use lib.Count.{ones, ones_in, count_trailing_zeros}
use lib.ListN.{length, take, drop, get_or, replicate}
use Rattle.clusters.specs.Sets.{whole, single, union, has, within, apart, size, lowest}
use Rattle.labels.specs.Bytes.{run, next_is, next_label}
use Rattle.labels.specs.Labels.{bare_letters, letters, letters_from, doubled, raw_to, told, padded}
use Rattle.labels.specs.Writing.{label_of, may_be_bare}
use Rattle.trees.specs.Drawn.{properly, maximal, placed, by_lowest, children, drawn_to, drawn}
use Rattle.trees.specs.Lists.{keep, some, insert, sorted, pieces, total, up_to}
use Rattle.trees.specs.Records.{record_of, record_for, records_in}
use Rattle.trees.specs.Tree.{cluster, clusters}
use Rattle.trees.specs.Unrooted.{resolved, may_unroot}
use Rattle.trees.specs.Thinned.{left_below, clusters_left}
use Rattle.trees.specs.Valid.{every, among, rising, singles_from, nested, valid_for, valid_gene_for, binary}
use Rattle.roster.specs.Roster.{same, position, in_quotes, begins, beginnings, name_at, names, stray_at, long_at, many_at, again_at, open_at, fault_at, least, first_fault, faulty}
use Rattle.roster.specs.Judged.{Judged}
use Rattle.roster.specs.Verdict.{verdict, length_test}
use Rattle.roster.specs.declared.Reply.{Reply}
use Rattle.tokens.specs.Supports.{Threshold}
use Rattle.std.proofs.Common.{None, Some}
use Rattle.tokens.specs.Supports.{supported}
use Rattle.tokens.specs.Values.{leading, decimals, written_behind, written as writes, filled, too_fine, thousandths}
use Rattle.tokens.specs.Tokens.{blanks, skip, number, number_behind, numbers, name, inner_name}
use Rattle.reader.specs.Promise.{answer_within, Reads}
use Rattle.nodes.specs.Reading.{leaf_by, closing_by, read_tree_to_by, read_tree_by, read_node_by}
use Rattle.reader.specs.declared.Kind.{Kind}
use Rattle.reader.specs.declared.Kind.TheVariants.{Species, Gene}
use Rattle.reader.specs.declared.Reading.{Reading}
use Rattle.texts.specs.Writing.{tree_text, written, node_text}
use Rattle.writer.specs.Promise.{roster_test, record_test, write_tests, Writes}
use Rattle.weights.specs.declared.Rooting.{Rooting}
use Rattle.weights.specs.declared.Rooting.TheVariants.{Rooted, Unrooted}
use Rattle.weights.specs.Count.{unrooted_has, unrooted_clusters, maximal_within, k_drawn, k_of, extra, weight, score}
use Rattle.lineages.specs.Checks.{species_test, count_test, species_record_test, first_failing, records_test, rooting_test, cluster_test, weight_tests, score_tests, mark_tests}
use Rattle.weights.specs.Marks.{shown}
use Rattle.lineages.specs.Promise.{marks, Weighs, Scores, Marks}
use Rattle.sheet.specs.declared.Entry.{Entry}
use Rattle.sheet.specs.Promise.{Sheets}
use Rattle.splits.specs.BinaryTrees.{clusters_in, is_low, lows, each, forks, trees_to, trees_on}
use Rattle.splits.specs.Least.{those, all, score_of, trees_over, least_trees, best, no_tree}
use Rattle.terms.specs.Allowed.{allowed_in}
use Rattle.terms.specs.Allowed.{first_strange, allowed_test}
use Rattle.plain.specs.Promise.{FindsPlainly}
use Rattle.search.specs.Promise.{search_tests, Finds}
use Rattle.splits.specs.Best.{best_for}
use Rattle.splits.specs.Ties.{tie_entry}
use Rattle.search.specs.TiesPromise.{ties_for, without_ties, FindsTies}
use Rattle.search.specs.declared.tied.Tied.{Tied}
use Rattle.search.proofs.Tying.{ties_find}
use Rattle.search.proofs.Ties.{ties-told}
use Rattle.terms.specs.declared.Found.{Found}
use Rattle.printing.specs.Texts.{report_bytes}
use Rattle.printing.specs.Words.{taxa_text, genes_text, score_text, ties_text, refused_text, at_text, digits_to, decimal}
use Rattle.gather.specs.GeneTrees.{gather_to, walk, gather}
use Rattle.report.specs.Input.{line_length, first_line, behind_line, ends_in_feed, mode_place, trees_place}
use Rattle.report.specs.Program.{mode_of, program}
use Rattle.outcomes.specs.Outcome.{searched}
use Rattle.report.specs.Promise.{output, Reports}
use Rattle.demands.specs.Handed.{Bytes, AnyRecord, ToRead, ToWrite, GeneTrees, ToWeigh, ToScore, ToMark, ToSearch, ToTie, ToPlain, AnyEntry, ToSheet}
use Rattle.demands.proofs.SmallInputs.{slice-told, abc-line, ab_cd, ac_bd, every_of_four, lent_of_four}
use Rattle.demands.proofs.FirstDemand.{replies-score, replies_find}
use Rattle.demands.proofs.Scorable.{scored_exactly}
use Rattle.demands.proofs.Sheets.{sheet_exactly, as_single_call, twelve_and_zero}
use Rattle.demands.proofs.Sceptic.{same_reply}
use Rattle.demands.proofs.Ties.{entry_of_no_species}

-- ---- what is computed: small inputs and their replies

-- roster `a`, text `a;`, and the record that it reads to
a_line : List ℕ
a_line = 97 ∷ []

a_text : List ℕ
a_text = 97 ∷ 59 ∷ []

a_record : List ℕ
a_record = record_of (1 ∷ [])

-- two bytes to write into
room : List ℕ
room = 9 ∷ 9 ∷ []

judge_a : (r : Reply) → Judged a_line r → r ≡ record { number = 0; place = 0; value = 1 }
unfolding a_line Judged run bare_letters letters letters_from doubled raw_to told up_to same position in_quotes begins beginnings name_at names stray_at
    long_at many_at again_at open_at fault_at least first_fault faulty keep some next_is
judge_a r p = p

read_a :
    (kind : Kind) (threshold : Threshold) (r : Reading) → Reads kind threshold a_line a_text 0 r
    → r ≡ record { number = 0; place = 0; next = 2; numbers = a_record }
unfolding a_line a_text a_record Reads ones ones_in count_trailing_zeros whole single union has within apart size lowest answer_within leaf_by closing_by
    read_tree_to_by read_tree_by read_node_by next_is next_label blanks skip number number_behind numbers supported name inner_name run bare_letters letters letters_from
    doubled raw_to told padded up_to same position in_quotes begins beginnings name_at names stray_at long_at many_at again_at open_at fault_at least first_fault
    faulty keep some insert sorted record_for cluster clusters clusters_left too_fine decimals leading
read_a Species None r p = p
read_a Species (Some amount) r p = p
read_a Gene None r p = p
read_a Gene (Some amount) r p = p

-- roster `a b`, of which `a;` has one species: a gene tree, but no species tree
ab_line : List ℕ
ab_line = 97 ∷ 32 ∷ 98 ∷ []

read_a_of_two : (r : Reading) → Reads Species None ab_line a_text 0 r → Reads Gene None ab_line a_text 0 r → ⊥
unfolding ab_line a_text Reads ones ones_in count_trailing_zeros whole single union has within apart size lowest answer_within leaf_by closing_by read_tree_to_by
    read_tree_by read_node_by next_is next_label blanks skip number number_behind numbers supported name inner_name run bare_letters letters letters_from doubled raw_to
    told padded up_to same position in_quotes begins beginnings name_at names stray_at long_at many_at again_at open_at fault_at least first_fault faulty keep
    some insert sorted record_for cluster clusters
read_a_of_two r p q = omega (arith, ap (λ (r : Reading). r.number) (sym p ∙ q))

-- `((a,b)::0.5,c);`, which loses a cluster at 501 thousandths and not at 500
half-text : List ℕ
half-text = 40 ∷ 40 ∷ 97 ∷ 44 ∷ 98 ∷ 41 ∷ 58 ∷ 58 ∷ 48 ∷ 46 ∷ 53 ∷ 44 ∷ 99 ∷ 41 ∷ 59 ∷ []

read-half : (kind : Kind) (r : Reading) → Reads kind (Some 500) abc-line half-text 0 r → Reads kind (Some 501) abc-line half-text 0 r → ⊥
unfolding abc-line half-text Reads ones ones_in count_trailing_zeros whole single union has within apart size lowest answer_within leaf_by closing_by read_tree_to_by
    read_tree_by read_node_by next_is next_label blanks skip number number_behind numbers supported name inner_name run bare_letters letters letters_from doubled raw_to
    told padded up_to same position in_quotes begins beginnings name_at names stray_at long_at many_at again_at open_at fault_at least first_fault faulty keep
    some insert sorted record_for cluster clusters clusters_left left_below too_fine decimals leading thousandths written_behind writes filled
read-half Species r p q = omega (arith, ap (λ (r : Reading). get_or r.numbers 0 0) (sym p ∙ q))
read-half Gene r p q = omega (arith, ap (λ (r : Reading). get_or r.numbers 0 0) (sym p ∙ q))

write_a : (r : Reply) (after : List ℕ) → Writes a_line a_record room r after → (r ≡ record { number = 0; place = 0; value = 2 }) × (after ≡ a_text)
unfolding a_line a_text a_record room ones ones_in count_trailing_zeros whole single union has within apart size lowest run bare_letters letters letters_from
    doubled raw_to told up_to same position in_quotes begins beginnings name_at names stray_at long_at many_at again_at open_at fault_at least first_fault faulty
    keep some insert sorted record_for cluster every among rising singles_from nested valid_for valid_gene_for properly maximal placed by_lowest children drawn_to
    drawn tree_text written node_text verdict length_test roster_test record_test write_tests label_of may_be_bare next_is
write_a r after w = (w.answer, w.bytes)

-- cluster 3, `a` with `b`, weighs nothing in two trees that have it, and 1 where the second does not
weigh_alike : (rooting : Rooting) (r : Reply) → Weighs rooting 4 (ab_cd ++ ab_cd) 2 3 r → r ≡ record { number = 0; place = 0; value = 0 }
unfolding ab_cd Weighs weight_tests cluster_test ones ones_in count_trailing_zeros whole single union has within apart size lowest keep some insert sorted
    record_for properly maximal every among rising singles_from nested valid_for valid_gene_for binary verdict length_test unrooted_has unrooted_clusters
    maximal_within k_drawn k_of
    placed by_lowest children extra total weight score pieces up_to species_test count_test first_failing records_test resolved may_unroot rooting_test
weigh_alike Rooted r p = p
weigh_alike Unrooted r p = p

weigh_unlike : (rooting : Rooting) (r : Reply) → Weighs rooting 4 (ab_cd ++ ac_bd) 2 3 r → r ≡ record { number = 0; place = 0; value = 1 }
unfolding ab_cd ac_bd Weighs weight_tests cluster_test ones ones_in count_trailing_zeros whole single union has within apart size lowest keep some insert sorted
    record_for properly maximal every among rising singles_from nested valid_for valid_gene_for binary verdict length_test unrooted_has unrooted_clusters
    maximal_within k_drawn k_of
    placed by_lowest children extra total weight score pieces up_to species_test count_test first_failing records_test resolved may_unroot rooting_test
weigh_unlike Rooted r p = p
weigh_unlike Unrooted r p = p

-- and so for the score of `((a,b),(c,d));`
score-alike : (rooting : Rooting) (r : Reply) → Scores rooting 4 (ab_cd ++ ab_cd) 2 ab_cd r → r ≡ record { number = 0; place = 0; value = 0 }
unfolding ab_cd Scores score_tests species_record_test ones ones_in count_trailing_zeros whole single union has within apart size lowest keep some insert sorted
    record_for properly maximal every among rising singles_from nested valid_for valid_gene_for binary verdict length_test unrooted_has unrooted_clusters
    maximal_within k_drawn k_of
    placed by_lowest children extra total weight score pieces up_to species_test count_test first_failing records_test resolved may_unroot rooting_test
score-alike Rooted r p = p
score-alike Unrooted r p = p

score_unlike : (rooting : Rooting) (r : Reply) → Scores rooting 4 (ab_cd ++ ac_bd) 2 ab_cd r → r ≡ record { number = 0; place = 0; value = 2 }
unfolding ab_cd ac_bd Scores score_tests species_record_test ones ones_in count_trailing_zeros whole single union has within apart size lowest keep some insert
    sorted record_for properly maximal every among rising singles_from nested valid_for valid_gene_for binary verdict length_test unrooted_has unrooted_clusters
    maximal_within k_drawn k_of
    placed by_lowest children extra total weight score pieces up_to species_test count_test first_failing records_test resolved may_unroot rooting_test
score_unlike Rooted r p = p
score_unlike Unrooted r p = p

mark_one :
    (rooting : Rooting) (r : Reply) (after : List ℕ) → Marks rooting 1 a_record 1 room r after
    → (r ≡ record { number = 0; place = 0; value = 0 }) × (after ≡ 0 ∷ 1 ∷ [])
unfolding a_record room mark_tests shown marks up_to ones ones_in count_trailing_zeros whole single union has within apart size lowest keep some insert sorted
    record_for properly maximal every among rising singles_from nested valid_for valid_gene_for binary verdict length_test unrooted_has unrooted_clusters
    placed by_lowest children pieces species_test count_test first_failing records_test resolved may_unroot rooting_test
mark_one Rooted r after p = (p.reply, p.bytes)
mark_one Unrooted r after p = (p.reply, p.bytes)

-- the first least trees over all clusters: for either gene tree alone, where they score nothing, and what the first scores for both
unfoldable first_tree : Rooting → List ℕ
first_tree Rooted = ab_cd
first_tree Unrooted = record_of (1 ∷ 2 ∷ 4 ∷ 8 ∷ 12 ∷ 14 ∷ 15 ∷ [])

unfoldable second-tree : Rooting → List ℕ
second-tree Rooted = ac_bd
second-tree Unrooted = record_of (1 ∷ 2 ∷ 4 ∷ 8 ∷ 10 ∷ 14 ∷ 15 ∷ [])

abbrev score_of_both : Rooting → ℕ
score_of_both Rooted = 2
score_of_both Unrooted = 1

trees-differ : (rooting : Rooting) → first_tree rooting ≡ second-tree rooting → ⊥
unfolding first_tree second-tree ab_cd ac_bd record_for sorted insert
trees-differ Rooted e = omega (arith, ap (λ (l : List ℕ). get_or l 3 0) e)
trees-differ Unrooted e = omega (arith, ap (λ (l : List ℕ). get_or l 5 0) e)

both_score_something : (rooting : Rooting) → 1 ≤ score_of_both rooting
both_score_something Rooted = omega arith
both_score_something Unrooted = omega arith

find_ab_cd :
    (rooting : Rooting) (r : Found) (s p : List ℕ) → Finds rooting 4 ab_cd 1 every_of_four lent_of_four lent_of_four r s p
    → r ≡ record { number = 0; place = 0; score = 0; numbers = first_tree rooting }
unfolding first_tree ab_cd every_of_four lent_of_four ones ones_in count_trailing_zeros whole single union has within apart size lowest keep some insert sorted record_for
    properly maximal every among rising singles_from nested valid_for valid_gene_for binary verdict length_test unrooted_has unrooted_clusters maximal_within k_drawn
    k_of placed by_lowest
    children extra total weight score pieces species_test count_test first_failing records_test resolved may_unroot rooting_test shown marks up_to least
    clusters_in is_low lows
    each forks trees_to trees_on those all score_of trees_over least_trees best allowed_in first_strange allowed_test search_tests best_for
find_ab_cd Rooted r s p f = f.reply
find_ab_cd Unrooted r s p f = f.reply

find_ac_bd :
    (rooting : Rooting) (r : Found) (s p : List ℕ) → Finds rooting 4 ac_bd 1 every_of_four lent_of_four lent_of_four r s p
    → r ≡ record { number = 0; place = 0; score = 0; numbers = second-tree rooting }
unfolding second-tree ac_bd every_of_four lent_of_four ones ones_in count_trailing_zeros whole single union has within apart size lowest keep some insert sorted record_for
    properly maximal every among rising singles_from nested valid_for valid_gene_for binary verdict length_test unrooted_has unrooted_clusters maximal_within k_drawn
    k_of placed by_lowest
    children extra total weight score pieces species_test count_test first_failing records_test resolved may_unroot rooting_test shown marks up_to least
    clusters_in is_low lows
    each forks trees_to trees_on those all score_of trees_over least_trees best allowed_in first_strange allowed_test search_tests best_for
find_ac_bd Rooted r s p f = f.reply
find_ac_bd Unrooted r s p f = f.reply

find_both :
    (rooting : Rooting) (r : Found) (s p : List ℕ) → Finds rooting 4 (ab_cd ++ ac_bd) 2 every_of_four lent_of_four lent_of_four r s p
    → r ≡ record { number = 0; place = 0; score = score_of_both rooting; numbers = first_tree rooting }
unfolding first_tree ab_cd ac_bd every_of_four lent_of_four ones ones_in count_trailing_zeros whole single union has within apart size lowest keep some insert
    sorted record_for
    properly maximal every among rising singles_from nested valid_for valid_gene_for binary verdict length_test unrooted_has unrooted_clusters maximal_within k_drawn
    k_of placed by_lowest
    children extra total weight score pieces species_test count_test first_failing records_test resolved may_unroot rooting_test shown marks up_to least
    clusters_in is_low lows
    each forks trees_to trees_on those all score_of trees_over least_trees best allowed_in first_strange allowed_test search_tests best_for
find_both Rooted r s p f = f.reply
find_both Unrooted r s p f = f.reply

-- the replies of a search for the one gene tree, for the other and for both
record FoundOnFour (rooting : Rooting) (first second both : Found) : Type 0 where
  first_is : first ≡ record { number = 0; place = 0; score = 0; numbers = first_tree rooting }
  second_is : second ≡ record { number = 0; place = 0; score = 0; numbers = second-tree rooting }
  both_is : both ≡ record { number = 0; place = 0; score = score_of_both rooting; numbers = first_tree rooting }

module _ {rooting : Rooting} {first second both : Found} (h : FoundOnFour rooting first second both) where
  first_done : first.number ≡ 0
  first_done = ap (λ (r : Found). r.number) h.first_is

  second_done : second.number ≡ 0
  second_done = ap (λ (r : Found). r.number) h.second_is

  both_done : both.number ≡ 0
  both_done = ap (λ (r : Found). r.number) h.both_is

  two_trees : {tree : List ℕ} → first.numbers ≡ tree → second.numbers ≡ tree → ⊥
  two_trees x y =
      trees-differ rooting (sym (ap (λ (r : Found). r.numbers) h.first_is) ∙ x ∙ sym y ∙ ap (λ (r : Found). r.numbers) h.second_is)

  two_scores : first.score ≡ both.score → ⊥
  two_scores e = omega (arith, both_score_something rooting, ap (λ (r : Found). r.score) h.first_is, ap (λ (r : Found). r.score) h.both_is, e)

-- "entry 0" of both tables, where no tree is
find_tables :
    (rooting : Rooting) (r : Found) (s p : List ℕ) → Finds rooting 4 ab_cd 1 every_of_four lent_of_four lent_of_four r s p
    → (get_or s 0 0 ≡ no_tree) × (get_or p 0 0 ≡ 0)
unfolding ab_cd every_of_four lent_of_four ones ones_in count_trailing_zeros whole single union has within apart size lowest keep some insert sorted record_for
    properly maximal every among rising singles_from nested valid_for valid_gene_for binary verdict length_test unrooted_has unrooted_clusters maximal_within k_drawn
    k_of placed by_lowest
    children extra total weight score pieces species_test count_test first_failing records_test resolved may_unroot rooting_test shown marks up_to least
    clusters_in is_low lows
    each forks trees_to trees_on those all score_of trees_over least_trees best allowed_in first_strange allowed_test search_tests best_for
find_tables Rooted r s p f = (ap (λ (l : List ℕ). get_or l 0 0) f.score_table, ap (λ (l : List ℕ). get_or l 0 0) f.split_table)
find_tables Unrooted r s p f = (ap (λ (l : List ℕ). get_or l 0 0) f.score_table, ap (λ (l : List ℕ). get_or l 0 0) f.split_table)

-- how many trees are as good for the first gene tree, and for both
abbrev ties_of_one : Rooting → ℕ
ties_of_one Rooted = 1
ties_of_one Unrooted = 5

abbrev ties_of_both : Rooting → ℕ
ties_of_both Rooted = 2
ties_of_both Unrooted = 8

count-ties :
    (rooting : Rooting) → (ties_for rooting 4 (records_in 1 ab_cd) every_of_four (whole 4) ≡ ties_of_one rooting)
    × (ties_for rooting 4 (records_in 2 (ab_cd ++ ac_bd)) every_of_four (whole 4) ≡ ties_of_both rooting)
unfolding ab_cd ac_bd every_of_four ones ones_in count_trailing_zeros whole single union has within apart size lowest keep some insert
    sorted record_for
    properly maximal every among rising singles_from nested valid_for valid_gene_for binary unrooted_has unrooted_clusters maximal_within k_drawn
    k_of placed by_lowest
    children extra total weight score pieces up_to least clusters_in is_low lows
    each forks trees_to trees_on those all score_of trees_over least_trees allowed_in tie_entry ties_for
count-ties Rooted = (refl, refl)
count-ties Unrooted = (refl, refl)

ties-differ :
    (rooting : Rooting) → ties_for rooting 4 (records_in 1 ab_cd) every_of_four (whole 4) ≡ ties_for rooting 4 (records_in 2 (ab_cd ++ ac_bd)) every_of_four (whole 4)
    → ⊥
ties-differ Rooted e = omega (arith, sym (count-ties Rooted).0 ∙ e ∙ (count-ties Rooted).1)
ties-differ Unrooted e = omega (arith, sym (count-ties Unrooted).0 ∙ e ∙ (count-ties Unrooted).1)

-- the input `a`, `all`, `a;` prints four lines, the empty one `refused 1 at 0`
a_input : List ℕ
a_input = 97 ∷ 10 ∷ 97 ∷ 108 ∷ 108 ∷ 10 ∷ 97 ∷ 59 ∷ 10 ∷ []

a_output : output a_input ≡ taxa_text ++ 49 ∷ genes_text ++ 49 ∷ 10 ∷ score_text ++ 48 ∷ 10 ∷ ties_text ++ 49 ∷ 10 ∷ 97 ∷ 59 ∷ 10 ∷ []
unfolding a_input line_length first_line behind_line ends_in_feed mode_place trees_place mode_of gather_to walk gather rooting_test searched program digits_to
    decimal output ones ones_in
    count_trailing_zeros whole single union has within apart size lowest keep some insert sorted record_for properly maximal every among rising singles_from
    nested valid_for valid_gene_for binary verdict length_test k_of extra total weight score pieces species_test count_test first_failing records_test shown marks up_to
    least clusters_in is_low lows each forks trees_to trees_on those all score_of trees_over least_trees best allowed_in best_for answer_within leaf_by closing_by
    read_tree_to_by read_tree_by read_node_by next_is next_label blanks skip number number_behind numbers supported name inner_name run bare_letters letters letters_from
    doubled raw_to told padded same position in_quotes begins beginnings name_at names stray_at long_at many_at again_at open_at fault_at first_fault faulty
    cluster clusters placed by_lowest children drawn_to drawn tree_text written node_text label_of may_be_bare tie_entry ties_for
a_output = refl

no_output : output [] ≡ refused_text ++ 49 ∷ at_text ++ 48 ∷ 10 ∷ []
unfolding line_length first_line behind_line ends_in_feed mode_place trees_place mode_of gather_to walk gather rooting_test searched program digits_to decimal
    output answer_within leaf_by
    closing_by read_tree_to_by read_tree_by read_node_by next_is next_label blanks skip number number_behind numbers supported name inner_name run bare_letters letters
    letters_from doubled raw_to told padded same position in_quotes begins beginnings name_at names stray_at long_at many_at again_at open_at fault_at
    first_fault faulty cluster clusters up_to least keep some
no_output = refl

-- ---- these inputs can be handed over

a_line_handed : Bytes a_line
unfolding a_line every
a_line_handed = slice-told (2 ^ 8) a_line refl (omega arith)

a_text_handed : Bytes a_text
unfolding a_text every
a_text_handed = slice-told (2 ^ 8) a_text refl (omega arith)

a_record_handed : AnyRecord a_record
unfolding a_record record_for sorted insert every
a_record_handed = record { numbers = slice-told (2 ^ 16) a_record refl (omega arith); thirty_two = refl }

ab_cd_handed : AnyRecord ab_cd
unfolding ab_cd record_for sorted insert every
ab_cd_handed = record { numbers = slice-told (2 ^ 16) ab_cd refl (omega arith); thirty_two = refl }

to_read_a_of_two : ToRead ab_line a_text 0
unfolding ab_line every
to_read_a_of_two = record { line_bytes = slice-told (2 ^ 8) ab_line refl (omega arith); text_bytes = a_text_handed; start_size = omega arith }

to_read_half : ToRead abc-line half-text 0
unfolding abc-line half-text every
to_read_half = record {
  line_bytes = slice-told (2 ^ 8) abc-line refl (omega arith);
  text_bytes = slice-told (2 ^ 8) half-text refl (omega arith);
  start_size = omega arith;
}

to_read_a : ToRead a_line a_text 0
to_read_a = record { line_bytes = a_line_handed; text_bytes = a_text_handed; start_size = omega arith }

room-handed : Bytes room
unfolding room every
room-handed = slice-told (2 ^ 8) room refl (omega arith)

to_write_a : ToWrite a_line a_record room
to_write_a = record { line_bytes = a_line_handed; tree_record = a_record_handed; out_bytes = room-handed }

alike-handed : GeneTrees 4 (ab_cd ++ ab_cd) 2
unfolding ab_cd record_for sorted insert every
alike-handed = record {
  species_size = omega arith;
  genes_numbers = slice-told (2 ^ 16) (ab_cd ++ ab_cd) refl (omega arith);
  count_size = omega arith;
}

unlike_handed : GeneTrees 4 (ab_cd ++ ac_bd) 2
unfolding ab_cd ac_bd record_for sorted insert every
unlike_handed = record {
  species_size = omega arith;
  genes_numbers = slice-told (2 ^ 16) (ab_cd ++ ac_bd) refl (omega arith);
  count_size = omega arith;
}

to_mark_one : ToMark 1 a_record 1 room
to_mark_one = record {
  gene_trees = record { species_size = omega arith; genes_numbers = a_record_handed.numbers; count_size = omega arith };
  out_bytes = room-handed;
}

-- a search on four species with every cluster allowed
to_search : (genes : List ℕ) (count : ℕ) → GeneTrees 4 genes count → ToSearch 4 genes count every_of_four lent_of_four lent_of_four
unfolding every_of_four lent_of_four every
to_search genes count h = record {
  gene_trees = h;
  allowed_bytes = slice-told (2 ^ 8) every_of_four refl (omega arith);
  scores_numbers = slice-told (2 ^ 32) lent_of_four refl (omega arith);
  splits_numbers = slice-told (2 ^ 16) lent_of_four refl (omega arith);
}

to_search_ab_cd : ToSearch 4 ab_cd 1 every_of_four lent_of_four lent_of_four
to_search_ab_cd = to_search ab_cd 1 (record { species_size = omega arith; genes_numbers = ab_cd_handed.numbers; count_size = omega arith })

to_search_ac_bd : ToSearch 4 ac_bd 1 every_of_four lent_of_four lent_of_four
unfolding ac_bd record_for sorted insert every
to_search_ac_bd =
    to_search ac_bd 1 (record { species_size = omega arith; genes_numbers = slice-told (2 ^ 16) ac_bd refl (omega arith); count_size = omega arith })

to_search_both : ToSearch 4 (ab_cd ++ ac_bd) 2 every_of_four lent_of_four lent_of_four
to_search_both = to_search (ab_cd ++ ac_bd) 2 unlike_handed

a_input_handed : Bytes a_input
unfolding a_input every
a_input_handed = slice-told (2 ^ 8) a_input refl (omega arith)

no_input_handed : Bytes []
unfolding every
no_input_handed = slice-told (2 ^ 8) [] refl (omega arith)

-- ---- the roster

module _ (f : List ℕ → Reply) (meets : (line : List ℕ) → Bytes line → Judged line (f line)) where
  -- "one that turns everything away"
  pub judge_does_not_refuse_all : ((line : List ℕ) → Bytes line → (f line).number ≡ 0 → ⊥) → ⊥
  judge_does_not_refuse_all away = away a_line a_line_handed (ap (λ (r : Reply). r.number) (judge_a (f a_line) (meets a_line a_line_handed)))

-- ---- reading

-- either kind, with every threshold and without one
module _ (kind : Kind) (threshold : Threshold) (f : List ℕ → List ℕ → ℕ → Reading)
    (meets : (line text : List ℕ) (start : ℕ) → ToRead line text start → Reads kind threshold line text start (f line text start)) where
  read_of_a : f a_line a_text 0 ≡ record { number = 0; place = 0; next = 2; numbers = a_record }
  read_of_a = read_a kind threshold (f a_line a_text 0) (meets a_line a_text 0 to_read_a)

  -- "one that turns everything away (demand 2 for reading ..)"
  pub read_does_not_refuse_all : ((line text : List ℕ) (start : ℕ) → ToRead line text start → (f line text start).number ≡ 0 → ⊥) → ⊥
  read_does_not_refuse_all away = away a_line a_text 0 to_read_a (ap (λ (r : Reading). r.number) read_of_a)

  -- "one that does nothing": it reads no byte
  pub read_does_something : ((line text : List ℕ) (start : ℕ) → ToRead line text start → (f line text start).next ≡ start) → ⊥
  read_does_something stays = omega (arith, ap (λ (r : Reading). r.next) read_of_a, stays a_line a_text 0 to_read_a)

-- "so the reading call is told the kind" (#104): without it, no function meets both promises
pub reading_is_told_the_kind :
    (f : List ℕ → List ℕ → ℕ → Reading)
    → ((line text : List ℕ) (start : ℕ) → ToRead line text start → Reads Species None line text start (f line text start))
    → ((line text : List ℕ) (start : ℕ) → ToRead line text start → Reads Gene None line text start (f line text start)) → ⊥
reading_is_told_the_kind f species gene =
    read_a_of_two (f ab_line a_text 0) (species ab_line a_text 0 to_read_a_of_two) (gene ab_line a_text 0 to_read_a_of_two)

-- "Reading may be given a threshold" (#113): nor without being told which
pub reading_is_told_the_threshold :
    (kind : Kind) (f : List ℕ → List ℕ → ℕ → Reading)
    → ((threshold : Threshold) (line text : List ℕ) (start : ℕ) → ToRead line text start → Reads kind threshold line text start (f line text start)) → ⊥
reading_is_told_the_threshold kind f meets =
    read-half kind (f abc-line half-text 0) (meets (Some 500) abc-line half-text 0 to_read_half) (meets (Some 501) abc-line half-text 0 to_read_half)

-- ---- writing

module _ (f : List ℕ → List ℕ → List ℕ → Reply) (after : List ℕ → List ℕ → List ℕ → List ℕ)
    (meets : (line tree out : List ℕ) → ToWrite line tree out → Writes line tree out (f line tree out) (after line tree out)) where
  written_a : (f a_line a_record room ≡ record { number = 0; place = 0; value = 2 }) × (after a_line a_record room ≡ a_text)
  written_a = write_a (f a_line a_record room) (after a_line a_record room) (meets a_line a_record room to_write_a)

  -- "one that turns everything away"
  pub write_does_not_refuse_all : ((line tree out : List ℕ) → ToWrite line tree out → (f line tree out).number ≡ 0 → ⊥) → ⊥
  write_does_not_refuse_all away = away a_line a_record room to_write_a (ap (λ (r : Reply). r.number) written_a.0)

  -- "one that does nothing (1, which fixes every buffer)": it leaves the lent bytes as they were
  pub write_does_something : ((line tree out : List ℕ) → ToWrite line tree out → after line tree out ≡ out) → ⊥
  unfolding a_text room
  write_does_something keeps = omega (arith, ap (λ (l : List ℕ). get_or l 0 0) (sym written_a.1 ∙ keeps a_line a_record room to_write_a))

-- ---- the weight

module _ (rooting : Rooting) (f : ℕ → List ℕ → ℕ → ℕ → Reply)
    (meets : (n : ℕ) (genes : List ℕ) (count a : ℕ) → ToWeigh n genes count a → Weighs rooting n genes count a (f n genes count a)) where
  to_weigh_alike : ToWeigh 4 (ab_cd ++ ab_cd) 2 3
  to_weigh_alike = record { gene_trees = alike-handed; cluster_size = omega arith }

  to_weigh_unlike : ToWeigh 4 (ab_cd ++ ac_bd) 2 3
  to_weigh_unlike = record { gene_trees = unlike_handed; cluster_size = omega arith }

  weighed-alike : f 4 (ab_cd ++ ab_cd) 2 3 ≡ record { number = 0; place = 0; value = 0 }
  weighed-alike = weigh_alike rooting (f 4 (ab_cd ++ ab_cd) 2 3) (meets 4 (ab_cd ++ ab_cd) 2 3 to_weigh_alike)

  weighed_unlike : f 4 (ab_cd ++ ac_bd) 2 3 ≡ record { number = 0; place = 0; value = 1 }
  weighed_unlike = weigh_unlike rooting (f 4 (ab_cd ++ ac_bd) 2 3) (meets 4 (ab_cd ++ ac_bd) 2 3 to_weigh_unlike)

  -- "one that turns everything away"
  pub weight_does_not_refuse_all : ((n : ℕ) (genes : List ℕ) (count a : ℕ) → ToWeigh n genes count a → (f n genes count a).number ≡ 0 → ⊥) → ⊥
  weight_does_not_refuse_all away = away 4 (ab_cd ++ ab_cd) 2 3 to_weigh_alike (ap (λ (r : Reply). r.number) weighed-alike)

  -- "one that counts the first gene tree and passes over the others (2's sum over all)"
  pub weight-counts-every-gene-tree :
      ((n : ℕ) (genes genes' : List ℕ) (count a : ℕ) → ToWeigh n genes count a → ToWeigh n genes' count a → take 32 genes ≡ take 32 genes'
      → (f n genes count a).number ≡ 0 → (f n genes' count a).number ≡ 0 → (f n genes count a).value ≡ (f n genes' count a).value) → ⊥
  unfolding ab_cd ac_bd record_for sorted insert
  weight-counts-every-gene-tree first-only =
      let e = first-only 4 (ab_cd ++ ab_cd) (ab_cd ++ ac_bd) 2 3 to_weigh_alike to_weigh_unlike refl
      (ap (λ (r : Reply). r.number) weighed-alike) (ap (λ (r : Reply). r.number) weighed_unlike) in
      omega (arith, ap (λ (r : Reply). r.value) weighed-alike, ap (λ (r : Reply). r.value) weighed_unlike, e)

  -- "one that reports an invented" number: the same for all
  pub weight_is_not_invented :
      (w : ℕ) → ((n : ℕ) (genes : List ℕ) (count a : ℕ) → ToWeigh n genes count a → (f n genes count a).number ≡ 0 → (f n genes count a).value ≡ w) → ⊥
  weight_is_not_invented w always =
      let e = always 4 (ab_cd ++ ab_cd) 2 3 to_weigh_alike (ap (λ (r : Reply). r.number) weighed-alike) in
      let d = always 4 (ab_cd ++ ac_bd) 2 3 to_weigh_unlike (ap (λ (r : Reply). r.number) weighed_unlike) in
      omega (arith, ap (λ (r : Reply). r.value) weighed-alike, ap (λ (r : Reply). r.value) weighed_unlike, e, d)

-- ---- the score

module _
    (rooting : Rooting)
    (f : ℕ → List ℕ → ℕ → List ℕ → Reply)
    (meets : (n : ℕ) (genes : List ℕ) (count : ℕ) (species : List ℕ) → ToScore n genes count species
    → Scores rooting n genes count species (f n genes count species))
  where
    to_score_alike : ToScore 4 (ab_cd ++ ab_cd) 2 ab_cd
    to_score_alike = record { gene_trees = alike-handed; species_record = ab_cd_handed }

    to_score_unlike : ToScore 4 (ab_cd ++ ac_bd) 2 ab_cd
    to_score_unlike = record { gene_trees = unlike_handed; species_record = ab_cd_handed }

    scored-alike : f 4 (ab_cd ++ ab_cd) 2 ab_cd ≡ record { number = 0; place = 0; value = 0 }
    scored-alike = score-alike rooting (f 4 (ab_cd ++ ab_cd) 2 ab_cd) (meets 4 (ab_cd ++ ab_cd) 2 ab_cd to_score_alike)

    scored_unlike : f 4 (ab_cd ++ ac_bd) 2 ab_cd ≡ record { number = 0; place = 0; value = 2 }
    scored_unlike = score_unlike rooting (f 4 (ab_cd ++ ac_bd) 2 ab_cd) (meets 4 (ab_cd ++ ac_bd) 2 ab_cd to_score_unlike)

    -- "one that turns everything away (demand 2 for .. scoring)"
    pub score_does_not_refuse_all :
        ((n : ℕ) (genes : List ℕ) (count : ℕ) (species : List ℕ) → ToScore n genes count species → (f n genes count species).number ≡ 0 → ⊥) → ⊥
    score_does_not_refuse_all away = away 4 (ab_cd ++ ab_cd) 2 ab_cd to_score_alike (ap (λ (r : Reply). r.number) scored-alike)

    -- "one that counts the first gene tree and passes over the others (2's sum over all)"
    pub score-counts-every-gene-tree :
        ((n : ℕ) (genes genes' : List ℕ) (count : ℕ) (species : List ℕ) → ToScore n genes count species → ToScore n genes' count species
        → take 32 genes ≡ take 32 genes' → (f n genes count species).number ≡ 0 → (f n genes' count species).number ≡ 0
        → (f n genes count species).value ≡ (f n genes' count species).value) → ⊥
    unfolding ab_cd ac_bd record_for sorted insert
    score-counts-every-gene-tree first-only =
        let e = first-only 4 (ab_cd ++ ab_cd) (ab_cd ++ ac_bd) 2 ab_cd to_score_alike to_score_unlike refl
        (ap (λ (r : Reply). r.number) scored-alike) (ap (λ (r : Reply). r.number) scored_unlike) in
        omega (arith, ap (λ (r : Reply). r.value) scored-alike, ap (λ (r : Reply). r.value) scored_unlike, e)

    -- "one that reports an invented score (2)": the same for all trees
    pub score_is_not_invented :
        (c : ℕ)
        → ((n : ℕ) (genes : List ℕ) (count : ℕ) (species : List ℕ) → ToScore n genes count species → (f n genes count species).number ≡ 0
        → (f n genes count species).value ≡ c) → ⊥
    score_is_not_invented c always =
        let e = always 4 (ab_cd ++ ab_cd) 2 ab_cd to_score_alike (ap (λ (r : Reply). r.number) scored-alike) in
        let d = always 4 (ab_cd ++ ac_bd) 2 ab_cd to_score_unlike (ap (λ (r : Reply). r.number) scored_unlike) in
        omega (arith, ap (λ (r : Reply). r.value) scored-alike, ap (λ (r : Reply). r.value) scored_unlike, e, d)

-- ---- marking

module _ (rooting : Rooting) (f : ℕ → List ℕ → ℕ → List ℕ → Reply) (after : ℕ → List ℕ → ℕ → List ℕ → List ℕ)
    (meets : (n : ℕ) (genes : List ℕ) (count : ℕ) (out : List ℕ) → ToMark n genes count out
    → Marks rooting n genes count out (f n genes count out) (after n genes count out)) where
  marked_one_lem : (f 1 a_record 1 room ≡ record { number = 0; place = 0; value = 0 }) × (after 1 a_record 1 room ≡ 0 ∷ 1 ∷ [])
  marked_one_lem = mark_one rooting (f 1 a_record 1 room) (after 1 a_record 1 room) (meets 1 a_record 1 room to_mark_one)

  -- "one that turns everything away"
  pub mark_does_not_refuse_all :
      ((n : ℕ) (genes : List ℕ) (count : ℕ) (out : List ℕ) → ToMark n genes count out → (f n genes count out).number ≡ 0 → ⊥) → ⊥
  mark_does_not_refuse_all away = away 1 a_record 1 room to_mark_one (ap (λ (r : Reply). r.number) marked_one_lem.0)

  -- "one that does nothing (1, which fixes every buffer)": it leaves the lent bytes as they were
  pub mark_does_something : ((n : ℕ) (genes : List ℕ) (count : ℕ) (out : List ℕ) → ToMark n genes count out → after n genes count out ≡ out) → ⊥
  unfolding room
  mark_does_something keeps = omega (arith, ap (λ (l : List ℕ). get_or l 0 0) (sym marked_one_lem.1 ∙ keeps 1 a_record 1 room to_mark_one))

-- ---- the search

module _ (rooting : Rooting) (f : ℕ → List ℕ → ℕ → List ℕ → List ℕ → List ℕ → Found) (s p : ℕ → List ℕ → ℕ → List ℕ → List ℕ → List ℕ → List ℕ)
    (meets : (n : ℕ) (genes : List ℕ) (count : ℕ) (allowed scores splits : List ℕ) → ToSearch n genes count allowed scores splits
    → Finds rooting n genes count allowed scores splits (f n genes count allowed scores splits) (s n genes count allowed scores splits)
    (p n genes count allowed scores splits)) where
  found_on_four :
      FoundOnFour rooting (f 4 ab_cd 1 every_of_four lent_of_four lent_of_four) (f 4 ac_bd 1 every_of_four lent_of_four lent_of_four)
      (f 4 (ab_cd ++ ac_bd) 2 every_of_four lent_of_four lent_of_four)
  found_on_four = record {
    first_is = find_ab_cd rooting _ _ _ (meets 4 ab_cd 1 every_of_four lent_of_four lent_of_four to_search_ab_cd);
    second_is = find_ac_bd rooting _ _ _ (meets 4 ac_bd 1 every_of_four lent_of_four lent_of_four to_search_ac_bd);
    both_is = find_both rooting _ _ _ (meets 4 (ab_cd ++ ac_bd) 2 every_of_four lent_of_four lent_of_four to_search_both);
  }

  -- "one that turns everything away (.. the exactly-when of 3 for searching)": by 14 or by any number
  pub search_does_not_refuse_all :
      ((n : ℕ) (genes : List ℕ) (count : ℕ) (allowed scores splits : List ℕ) → ToSearch n genes count allowed scores splits
      → (f n genes count allowed scores splits).number ≡ 0 → ⊥) → ⊥
  search_does_not_refuse_all away = away 4 ab_cd 1 every_of_four lent_of_four lent_of_four to_search_ab_cd (first_done found_on_four)

  -- "one that returns one fixed tree (3's least score)"
  pub search_has_no_fixed_tree :
      (tree : List ℕ)
      → ((n : ℕ) (genes : List ℕ) (count : ℕ) (allowed scores splits : List ℕ) → ToSearch n genes count allowed scores splits
      → (f n genes count allowed scores splits).number ≡ 0 → (f n genes count allowed scores splits).numbers ≡ tree) → ⊥
  search_has_no_fixed_tree tree fixed =
      two_trees found_on_four (fixed 4 ab_cd 1 every_of_four lent_of_four lent_of_four to_search_ab_cd (first_done found_on_four))
      (fixed 4 ac_bd 1 every_of_four lent_of_four lent_of_four to_search_ac_bd (second_done found_on_four))

  -- "one that does nothing (1, which fixes every buffer ..)": it leaves both tables as they were lent
  pub search_fills_the_score_table :
      ((n : ℕ) (genes : List ℕ) (count : ℕ) (allowed scores splits : List ℕ) → ToSearch n genes count allowed scores splits
      → s n genes count allowed scores splits ≡ scores) → ⊥
  unfolding lent_of_four
  search_fills_the_score_table keeps =
      let e = (find_tables rooting _ _ _ (meets 4 ab_cd 1 every_of_four lent_of_four lent_of_four to_search_ab_cd)).0 in
      omega (arith, e, ap (λ (l : List ℕ). get_or l 0 0) (keeps 4 ab_cd 1 every_of_four lent_of_four lent_of_four to_search_ab_cd))

  pub search_fills_the_split_table :
      ((n : ℕ) (genes : List ℕ) (count : ℕ) (allowed scores splits : List ℕ) → ToSearch n genes count allowed scores splits
      → p n genes count allowed scores splits ≡ splits) → ⊥
  unfolding lent_of_four
  search_fills_the_split_table keeps =
      let e = (find_tables rooting _ _ _ (meets 4 ab_cd 1 every_of_four lent_of_four lent_of_four to_search_ab_cd)).1 in
      omega (arith, e, ap (λ (l : List ℕ). get_or l 0 0) (keeps 4 ab_cd 1 every_of_four lent_of_four lent_of_four to_search_ab_cd))

  -- "one that does nothing (.. 3's least score)", "one that reports an invented score": the same for all
  pub search_has_no_invented_score :
      (c : ℕ)
      → ((n : ℕ) (genes : List ℕ) (count : ℕ) (allowed scores splits : List ℕ) → ToSearch n genes count allowed scores splits
      → (f n genes count allowed scores splits).number ≡ 0 → (f n genes count allowed scores splits).score ≡ c) → ⊥
  search_has_no_invented_score c always =
      two_scores found_on_four
      (always 4 ab_cd 1 every_of_four lent_of_four lent_of_four to_search_ab_cd (first_done found_on_four)
      ∙ sym (always 4 (ab_cd ++ ac_bd) 2 every_of_four lent_of_four lent_of_four to_search_both (both_done found_on_four)))

  -- "one that counts the first gene tree and passes over the others"
  pub search_counts_every_gene_tree :
      ((n : ℕ) (genes genes' : List ℕ) (count count' : ℕ) (allowed scores splits : List ℕ)
      → ToSearch n genes count allowed scores splits → ToSearch n genes' count' allowed scores splits → take 32 genes ≡ take 32 genes'
      → (f n genes count allowed scores splits).number ≡ 0 → (f n genes' count' allowed scores splits).number ≡ 0
      → (f n genes count allowed scores splits).score ≡ (f n genes' count' allowed scores splits).score) → ⊥
  unfolding ab_cd ac_bd record_for sorted insert
  search_counts_every_gene_tree first-only =
      two_scores found_on_four
      (first-only 4 ab_cd (ab_cd ++ ac_bd) 1 2 every_of_four lent_of_four lent_of_four to_search_ab_cd to_search_both refl (first_done found_on_four)
      (both_done found_on_four))

-- ---- going through all trees (#108)

-- what a search on four species is handed, without the tables
to_plain : {genes : List ℕ} {count : ℕ} → ToSearch 4 genes count every_of_four lent_of_four lent_of_four → ToPlain 4 genes count every_of_four
to_plain h = record { gene_trees = h.gene_trees; allowed_bytes = h.allowed_bytes }

lent-long : 2 ^ 4 ≤ length lent_of_four
unfolding lent_of_four
lent-long = omega arith

module _ (rooting : Rooting) (f : ℕ → List ℕ → ℕ → List ℕ → Found)
    (meets : (n : ℕ) (genes : List ℕ) (count : ℕ) (allowed : List ℕ) → ToPlain n genes count allowed
    → FindsPlainly rooting n genes count allowed (f n genes count allowed)) where
  -- on four species it answers what a search does
  plain_as_searched :
      {r : Found} (genes : List ℕ) (count : ℕ) → ToSearch 4 genes count every_of_four lent_of_four lent_of_four
      → ((q : Found) (s p : List ℕ) → Finds rooting 4 genes count every_of_four lent_of_four lent_of_four q s p → q ≡ r)
      → f 4 genes count every_of_four ≡ r
  plain_as_searched genes count h computed =
      let search = replies_find rooting 4 genes count every_of_four lent_of_four lent_of_four in
      same_reply rooting 4 genes count every_of_four lent_of_four lent_of_four search.outcome.0 (f 4 genes count every_of_four) search.outcome.1
      search.outcome.2 search.meets (meets 4 genes count every_of_four (to_plain h)) (omega arith) lent-long lent-long
      ∙ computed _ _ _ search.meets

  visited_on_four : FoundOnFour rooting (f 4 ab_cd 1 every_of_four) (f 4 ac_bd 1 every_of_four) (f 4 (ab_cd ++ ac_bd) 2 every_of_four)
  visited_on_four = record {
    first_is = plain_as_searched ab_cd 1 to_search_ab_cd (find_ab_cd rooting);
    second_is = plain_as_searched ac_bd 1 to_search_ac_bd (find_ac_bd rooting);
    both_is = plain_as_searched (ab_cd ++ ac_bd) 2 to_search_both (find_both rooting);
  }

  -- "one that turns everything away"
  pub plain_does_not_refuse_all :
      ((n : ℕ) (genes : List ℕ) (count : ℕ) (allowed : List ℕ) → ToPlain n genes count allowed → (f n genes count allowed).number ≡ 0 → ⊥) → ⊥
  plain_does_not_refuse_all away = away 4 ab_cd 1 every_of_four (to_plain to_search_ab_cd) (first_done visited_on_four)

  -- "one that returns one fixed tree (3's least score)"
  pub plain-has_no_fixed_tree :
      (tree : List ℕ)
      → ((n : ℕ) (genes : List ℕ) (count : ℕ) (allowed : List ℕ) → ToPlain n genes count allowed → (f n genes count allowed).number ≡ 0
      → (f n genes count allowed).numbers ≡ tree) → ⊥
  plain-has_no_fixed_tree tree fixed =
      two_trees visited_on_four (fixed 4 ab_cd 1 every_of_four (to_plain to_search_ab_cd) (first_done visited_on_four))
      (fixed 4 ac_bd 1 every_of_four (to_plain to_search_ac_bd) (second_done visited_on_four))

  -- "one that reports an invented score": the same for all
  pub plain-has_no_invented_score :
      (c : ℕ)
      → ((n : ℕ) (genes : List ℕ) (count : ℕ) (allowed : List ℕ) → ToPlain n genes count allowed → (f n genes count allowed).number ≡ 0
      → (f n genes count allowed).score ≡ c) → ⊥
  plain-has_no_invented_score c always =
      two_scores visited_on_four
      (always 4 ab_cd 1 every_of_four (to_plain to_search_ab_cd) (first_done visited_on_four)
      ∙ sym (always 4 (ab_cd ++ ac_bd) 2 every_of_four (to_plain to_search_both) (both_done visited_on_four)))

  -- "one that counts the first gene tree and passes over the others"
  pub plain-counts-every-gene-tree :
      ((n : ℕ) (genes genes' : List ℕ) (count count' : ℕ) (allowed : List ℕ)
      → ToPlain n genes count allowed → ToPlain n genes' count' allowed → take 32 genes ≡ take 32 genes'
      → (f n genes count allowed).number ≡ 0 → (f n genes' count' allowed).number ≡ 0 → (f n genes count allowed).score ≡ (f n genes' count' allowed).score) → ⊥
  unfolding ab_cd ac_bd record_for sorted insert
  plain-counts-every-gene-tree first-only =
      two_scores visited_on_four
      (first-only 4 ab_cd (ab_cd ++ ac_bd) 1 2 every_of_four (to_plain to_search_ab_cd) (to_plain to_search_both) refl (first_done visited_on_four)
      (both_done visited_on_four))

-- ---- a sheet of candidate trees (#107)

-- two records of `((a,b),(c,d));`, and a sheet whose second entry alone has a position within them; what stood in number and score is 5 and 6
abbrev two_records : List ℕ
two_records = ab_cd ++ ab_cd

abbrev at_entry : ℕ → Entry
at_entry position = record { position = position; number = 5; score = 6 }

abbrev first_entries : List Entry
first_entries = at_entry 32 ∷ at_entry 0 ∷ []

abbrev three-entries : List Entry
three-entries = at_entry 32 ∷ at_entry 0 ∷ at_entry 32 ∷ []

to_sheet : (genes : List ℕ) → GeneTrees 4 genes 2 → ToSheet 4 genes 2 two_records three-entries
to_sheet genes h = record {
  gene_trees = h;
  records_numbers = alike-handed.genes_numbers;
  each_entry = λ e m. by e (Memᴰ.cases_cons m);
  entries_size = omega arith;
}
  where
    small : (e : Entry) (position : ℕ) → position < 64 → e ≡ at_entry position → AnyEntry e
    small e position l is = rw is (record { position_size = omega arith; number_fits = omega arith; score_size = omega arith })

    last : (e : Entry) → (e ≡ at_entry 0) ⊎ Memᴰ e (at_entry 32 ∷ []) → AnyEntry e
    last e (inl is) = small e 0 (omega arith) is
    last e (inr m) = small e 32 (omega arith) (Memᴰ.eq_of_singleton m)

    by : (e : Entry) → (e ≡ at_entry 32) ⊎ Memᴰ e (at_entry 0 ∷ at_entry 32 ∷ []) → AnyEntry e
    by e (inl is) = small e 32 (omega arith) is
    by e (inr m) = last e (Memᴰ.cases_cons m)

-- what the sheet says for gene trees for which the single call gives that score
pub record SheetSays (v : ℕ) (r : Reply) (after : List Entry) : Type 0 where
  pub fine : r.number ≡ 0
  pub first_number_lem : (get_or after 0 (at_entry 0)).number ≡ 12
  pub second_number_lem : (get_or after 1 (at_entry 0)).number ≡ 0
  pub second_score : (get_or after 1 (at_entry 0)).score ≡ v
  pub third_number : (get_or after 2 (at_entry 0)).number ≡ 12
  pub third_score : (get_or after 2 (at_entry 0)).score ≡ 0

module _ (rooting : Rooting) (f : ℕ → List ℕ → ℕ → List ℕ → List Entry → Reply) (after : ℕ → List ℕ → ℕ → List ℕ → List Entry → List Entry)
    (meets : (n : ℕ) (genes : List ℕ) (count : ℕ) (records : List ℕ) (entries : List Entry) → ToSheet n genes count records entries
    → Sheets rooting n genes count records entries (f n genes count records entries) (after n genes count records entries)) where
  says :
      (genes : List ℕ) (v : ℕ) → GeneTrees 4 genes 2
      → ((r : Reply) → Scores rooting 4 genes 2 ab_cd r → r ≡ record { number = 0; place = 0; value = v })
      → SheetSays v (f 4 genes 2 two_records three-entries) (after 4 genes 2 two_records three-entries)
  unfolding ab_cd record_for sorted insert
  says genes v h scored =
      let single = replies-score rooting 4 genes 2 ab_cd in
      let is = scored single.outcome single.meets in
      let sheets = meets 4 genes 2 two_records three-entries (to_sheet genes h) in
      let zero = ap (λ (r : Reply). r.number) is in
      let fine = (sheet_exactly sheets).1 ((scored_exactly rooting 4 genes 2 ab_cd single.outcome single.meets).0 zero).in_order in
      let second = as_single_call sheets fine 1 (omega arith) (at_entry 0) (omega arith) single.outcome single.meets in
      let third = twelve_and_zero sheets fine 2 (omega arith) (at_entry 0) (λ l. omega arith) in
      record {
        fine = fine;
        first_number_lem = (twelve_and_zero sheets fine 0 (omega arith) (at_entry 0) (λ l. omega arith)).0;
        second_number_lem = second.0 ∙ zero;
        second_score = second.1 ∙ ap (λ (r : Reply). r.value) is;
        third_number = third.0;
        third_score = third.1;
      }

  for_alike : SheetSays 0 (f 4 (ab_cd ++ ab_cd) 2 two_records three-entries) (after 4 (ab_cd ++ ab_cd) 2 two_records three-entries)
  for_alike = says (ab_cd ++ ab_cd) 0 alike-handed (score-alike rooting)

  for_unlike : SheetSays 2 (f 4 (ab_cd ++ ac_bd) 2 two_records three-entries) (after 4 (ab_cd ++ ac_bd) 2 two_records three-entries)
  for_unlike = says (ab_cd ++ ac_bd) 2 unlike_handed (score_unlike rooting)

  -- "one that turns everything away"
  pub sheet_does_not_refuse_all :
      ((n : ℕ) (genes : List ℕ) (count : ℕ) (records : List ℕ) (entries : List Entry) → ToSheet n genes count records entries
      → (f n genes count records entries).number ≡ 0 → ⊥) → ⊥
  sheet_does_not_refuse_all away = away 4 (ab_cd ++ ab_cd) 2 two_records three-entries (to_sheet (ab_cd ++ ab_cd) alike-handed) for_alike.fine

  -- "the last entry left" (#107), as by one that does nothing
  pub sheet_fills_the_last_entry :
      ((n : ℕ) (genes : List ℕ) (count : ℕ) (records : List ℕ) (entries : List Entry) (e d : Entry) → ToSheet n genes count records (entries ++ (e ∷ []))
      → get_or (after n genes count records (entries ++ (e ∷ []))) (length entries) d ≡ e) → ⊥
  sheet_fills_the_last_entry leaves =
      omega (
        arith,
        for_alike.third_number,
        ap (λ (e : Entry). e.number) (leaves 4 (ab_cd ++ ab_cd) 2 two_records first_entries (at_entry 32) (at_entry 0) (to_sheet (ab_cd ++ ab_cd) alike-handed)),
      )

  -- "an entry's 12 that stops the sheet" (#107): those behind it are left
  pub sheet_goes_on_behind_a_twelve :
      ((n : ℕ) (genes : List ℕ) (count : ℕ) (records : List ℕ) (entries : List Entry) → ToSheet n genes count records entries → (i j : ℕ) (d : Entry)
      → (get_or (after n genes count records entries) i d).number ≡ 12 → i < j → get_or (after n genes count records entries) j d ≡ get_or entries j d) → ⊥
  sheet_goes_on_behind_a_twelve stops =
      omega (
        arith,
        for_alike.second_number_lem,
        ap (λ (e : Entry). e.number)
            (stops 4 (ab_cd ++ ab_cd) 2 two_records three-entries (to_sheet (ab_cd ++ ab_cd) alike-handed) 0 1 (at_entry 0) for_alike.first_number_lem (omega arith)),
      )

  -- a score kept from the entry before, where an entry gets 12
  pub sheet_keeps_no_score :
      ((n : ℕ) (genes : List ℕ) (count : ℕ) (records : List ℕ) (entries : List Entry) → ToSheet n genes count records entries
      → (f n genes count records entries).number ≡ 0 → (i : ℕ) (d : Entry) → i + 1 < length entries
      → (get_or (after n genes count records entries) (i + 1) d).number ≡ 12
      → (get_or (after n genes count records entries) (i + 1) d).score ≡ (get_or (after n genes count records entries) i d).score) → ⊥
  sheet_keeps_no_score keeps =
      omega (
        arith,
        for_unlike.third_score,
        for_unlike.second_score,
        keeps 4 (ab_cd ++ ac_bd) 2 two_records three-entries (to_sheet (ab_cd ++ ac_bd) unlike_handed) for_unlike.fine 1 (at_entry 0) (omega arith)
            for_unlike.third_number,
      )

  -- "the position counted in numbers in place of records" (#107)
  pub sheet_does_not_count_numbers :
      ((n : ℕ) (genes : List ℕ) (count : ℕ) (records : List ℕ) (entries : List Entry) → ToSheet n genes count records entries
      → (f n genes count records entries).number ≡ 0 → (i : ℕ) (d : Entry) → i < length entries → (get_or entries i d).position + 32 ≤ length records
      → (s : Reply) → Scores rooting n genes count (take 32 (drop (get_or entries i d).position records)) s
      → (get_or (after n genes count records entries) i d).number ≡ s.number) → ⊥
  unfolding ab_cd record_for sorted insert
  sheet_does_not_count_numbers counts =
      let single = replies-score rooting 4 (ab_cd ++ ab_cd) 2 ab_cd in
      let is = score-alike rooting single.outcome single.meets in
      let e = counts 4 (ab_cd ++ ab_cd) 2 two_records three-entries (to_sheet (ab_cd ++ ab_cd) alike-handed) for_alike.fine 0 (at_entry 0) (omega arith) (omega arith)
      single.outcome single.meets in
      omega (arith, for_alike.first_number_lem, ap (λ (r : Reply). r.number) is, e)

  -- "one that counts the first gene tree and passes over the others"
  pub sheet_counts_every_gene_tree :
      ((n : ℕ) (genes genes' : List ℕ) (count : ℕ) (records : List ℕ) (entries : List Entry) → ToSheet n genes count records entries
      → ToSheet n genes' count records entries → take 32 genes ≡ take 32 genes'
      → (f n genes count records entries).number ≡ 0 → (f n genes' count records entries).number ≡ 0
      → after n genes count records entries ≡ after n genes' count records entries) → ⊥
  unfolding ab_cd ac_bd record_for sorted insert
  sheet_counts_every_gene_tree first-only =
      let e = first-only 4 (ab_cd ++ ab_cd) (ab_cd ++ ac_bd) 2 two_records three-entries (to_sheet (ab_cd ++ ab_cd) alike-handed)
      (to_sheet (ab_cd ++ ac_bd) unlike_handed) refl for_alike.fine for_unlike.fine in
      omega (arith, for_alike.second_score, for_unlike.second_score, ap (λ (l : List Entry). (get_or l 1 (at_entry 0)).score) e)

  -- "one that reports an invented score": the same for all trees
  pub sheet_has_no_invented_score :
      (c : ℕ)
      → ((n : ℕ) (genes : List ℕ) (count : ℕ) (records : List ℕ) (entries : List Entry) → ToSheet n genes count records entries
      → (f n genes count records entries).number ≡ 0 → (i : ℕ) (d : Entry) → i < length entries
      → (get_or (after n genes count records entries) i d).number ≡ 0 → (get_or (after n genes count records entries) i d).score ≡ c) → ⊥
  sheet_has_no_invented_score c always =
      let e = always 4 (ab_cd ++ ab_cd) 2 two_records three-entries (to_sheet (ab_cd ++ ab_cd) alike-handed) for_alike.fine 1 (at_entry 0) (omega arith)
      for_alike.second_number_lem in
      let k = always 4 (ab_cd ++ ac_bd) 2 two_records three-entries (to_sheet (ab_cd ++ ac_bd) unlike_handed) for_unlike.fine 1 (at_entry 0) (omega arith)
      for_unlike.second_number_lem in
      omega (arith, for_alike.second_score, for_unlike.second_score, e, k)

-- ---- the search with ties (#111)

-- with a third table
to_tie : {genes : List ℕ} {count : ℕ} → ToSearch 4 genes count every_of_four lent_of_four lent_of_four
    → ToTie 4 genes count every_of_four lent_of_four lent_of_four lent_of_four
unfolding lent_of_four every
to_tie h = record { to_search = h; ties_numbers = slice-told (2 ^ 64) lent_of_four refl (omega arith) }

module _ (rooting : Rooting) (f : ℕ → List ℕ → ℕ → List ℕ → List ℕ → List ℕ → List ℕ → Tied)
    (s p t : ℕ → List ℕ → ℕ → List ℕ → List ℕ → List ℕ → List ℕ → List ℕ)
    (meets : (n : ℕ) (genes : List ℕ) (count : ℕ) (allowed scores splits ties : List ℕ) → ToTie n genes count allowed scores splits ties
    → FindsTies rooting n genes count allowed scores splits ties (f n genes count allowed scores splits ties) (s n genes count allowed scores splits ties)
    (p n genes count allowed scores splits ties) (t n genes count allowed scores splits ties)) where
  tied_by : (genes : List ℕ) (count : ℕ) → ToSearch 4 genes count every_of_four lent_of_four lent_of_four
      → FindsTies rooting 4 genes count every_of_four lent_of_four lent_of_four lent_of_four (f 4 genes count every_of_four lent_of_four lent_of_four lent_of_four)
      (s 4 genes count every_of_four lent_of_four lent_of_four lent_of_four) (p 4 genes count every_of_four lent_of_four lent_of_four lent_of_four)
      (t 4 genes count every_of_four lent_of_four lent_of_four lent_of_four)
  tied_by genes count h = meets 4 genes count every_of_four lent_of_four lent_of_four lent_of_four (to_tie h)

  -- but for the ties it replies as the search does
  searched_by : (genes : List ℕ) (count : ℕ) → ToSearch 4 genes count every_of_four lent_of_four lent_of_four
      → Finds rooting 4 genes count every_of_four lent_of_four lent_of_four
      (without_ties (f 4 genes count every_of_four lent_of_four lent_of_four lent_of_four))
      (s 4 genes count every_of_four lent_of_four lent_of_four lent_of_four) (p 4 genes count every_of_four lent_of_four lent_of_four lent_of_four)
  unfolding lent_of_four
  searched_by genes count h =
      ties_find rooting 4 genes count every_of_four lent_of_four lent_of_four lent_of_four (tied_by genes count h) (omega arith)

  tied_ab_cd :
      without_ties (f 4 ab_cd 1 every_of_four lent_of_four lent_of_four lent_of_four)
      ≡ record { number = 0; place = 0; score = 0; numbers = first_tree rooting }
  tied_ab_cd = find_ab_cd rooting _ _ _ (searched_by ab_cd 1 to_search_ab_cd)

  tied_both :
      without_ties (f 4 (ab_cd ++ ac_bd) 2 every_of_four lent_of_four lent_of_four lent_of_four)
      ≡ record { number = 0; place = 0; score = score_of_both rooting; numbers = first_tree rooting }
  tied_both = find_both rooting _ _ _ (searched_by (ab_cd ++ ac_bd) 2 to_search_both)

  -- "one that turns everything away"
  pub tie_does_not_refuse_all :
      ((n : ℕ) (genes : List ℕ) (count : ℕ) (allowed scores splits ties : List ℕ) → ToTie n genes count allowed scores splits ties
      → (f n genes count allowed scores splits ties).number ≡ 0 → ⊥) → ⊥
  tie_does_not_refuse_all away =
      away 4 ab_cd 1 every_of_four lent_of_four lent_of_four lent_of_four (to_tie to_search_ab_cd) (ap (λ (r : Found). r.number) tied_ab_cd)

  -- "one that does nothing (1, which fixes every buffer ..)": it leaves the third table as it was lent
  pub tie_fills_the_third_table :
      ((n : ℕ) (genes : List ℕ) (count : ℕ) (allowed scores splits ties : List ℕ) → ToTie n genes count allowed scores splits ties
      → t n genes count allowed scores splits ties ≡ ties) → ⊥
  unfolding lent_of_four
  tie_fills_the_third_table keeps =
      let e = entry_of_no_species (tied_by ab_cd 1 to_search_ab_cd) (inl (ap (λ (r : Found). r.number) tied_ab_cd)) in
      omega (arith, e, ap (λ (l : List ℕ). get_or l 0 0) (keeps 4 ab_cd 1 every_of_four lent_of_four lent_of_four lent_of_four (to_tie to_search_ab_cd)))

  -- "one that reports an invented score": the same for all
  pub tie_has_no_invented_score :
      (c : ℕ)
      → ((n : ℕ) (genes : List ℕ) (count : ℕ) (allowed scores splits ties : List ℕ) → ToTie n genes count allowed scores splits ties
      → (f n genes count allowed scores splits ties).number ≡ 0 → (f n genes count allowed scores splits ties).score ≡ c) → ⊥
  tie_has_no_invented_score c always =
      let e = always 4 ab_cd 1 every_of_four lent_of_four lent_of_four lent_of_four (to_tie to_search_ab_cd) (ap (λ (r : Found). r.number) tied_ab_cd) in
      let d = always 4 (ab_cd ++ ac_bd) 2 every_of_four lent_of_four lent_of_four lent_of_four (to_tie to_search_both)
      (ap (λ (r : Found). r.number) tied_both) in
      omega (arith, both_score_something rooting, ap (λ (r : Found). r.score) tied_ab_cd, ap (λ (r : Found). r.score) tied_both, e, d)

  -- "one that counts the first gene tree and passes over the others": its number of ties is then the same
  pub tie_counts_every_gene_tree :
      ((n : ℕ) (genes genes' : List ℕ) (count count' : ℕ) (allowed scores splits ties : List ℕ)
      → ToTie n genes count allowed scores splits ties → ToTie n genes' count' allowed scores splits ties → take 32 genes ≡ take 32 genes'
      → (f n genes count allowed scores splits ties).number ≡ 0 → (f n genes' count' allowed scores splits ties).number ≡ 0
      → (f n genes count allowed scores splits ties).ties ≡ (f n genes' count' allowed scores splits ties).ties) → ⊥
  unfolding ab_cd ac_bd record_for sorted insert
  tie_counts_every_gene_tree first-only =
      let z = ap (λ (r : Found). r.number) tied_ab_cd in
      let z' = ap (λ (r : Found). r.number) tied_both in
      let e = first-only 4 ab_cd (ab_cd ++ ac_bd) 1 2 every_of_four lent_of_four lent_of_four lent_of_four (to_tie to_search_ab_cd) (to_tie to_search_both)
      refl z z' in
      ties-differ rooting (sym (ties-told (tied_by ab_cd 1 to_search_ab_cd) (inl z)) ∙ e ∙ ties-told (tied_by (ab_cd ++ ac_bd) 2 to_search_both) (inl z'))

  -- so it is not the same for all
  pub tie_has_no_fixed_number :
      (m : ℕ)
      → ((n : ℕ) (genes : List ℕ) (count : ℕ) (allowed scores splits ties : List ℕ) → ToTie n genes count allowed scores splits ties
      → (f n genes count allowed scores splits ties).number ≡ 0 → (f n genes count allowed scores splits ties).ties ≡ m) → ⊥
  tie_has_no_fixed_number m always =
      tie_counts_every_gene_tree (λ n genes genes' count count' allowed scores splits ties h h' same z z'.
      always n genes count allowed scores splits ties h z ∙ sym (always n genes' count' allowed scores splits ties h' z'))

-- ---- the program

module _ (len : List ℕ → ℕ) (text : List ℕ → List ℕ)
    (meets : (input : List ℕ) → Bytes input → Reports input (record { len = len input; text = text input })) where
  printed-text : (input o : List ℕ) → Bytes input → output input ≡ o → text input ≡ o ++ replicate (report_bytes - length o) 0
  unfolding Reports
  printed-text input o h e = ap (λ r. r.text) (meets input h) ∙ ap (λ (o : List ℕ). o ++ replicate (report_bytes - length o) 0) e

  -- "one that turns everything away": it prints `refused ..` whatever the input
  pub report_does_not_refuse_all : ((input : List ℕ) → Bytes input → get_or (text input) 0 0 ≡ 114) → ⊥
  report_does_not_refuse_all away =
      omega (arith, away a_input a_input_handed, ap (λ (l : List ℕ). get_or l 0 0) (printed-text a_input _ a_input_handed a_output))

  -- and one that prints `taxa ..` whatever the input
  pub report_does_not_solve_all : ((input : List ℕ) → Bytes input → get_or (text input) 0 0 ≡ 116) → ⊥
  report_does_not_solve_all solves =
      omega (arith, solves [] no_input_handed, ap (λ (l : List ℕ). get_or l 0 0) (printed-text [] _ no_input_handed no_output))
