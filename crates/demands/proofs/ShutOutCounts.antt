-- "What the promises have to shut out", of the calls with branch counts (#114): no function that meets such a promise on all that a machine can hand over is one of these.
use Prim.Native.Nat.{ℕ, ◌^◌}
use mathlib.Core.Path.{◌≡◌, refl, sym, ap, ◌∙◌}
use mathlib.Core.List.{List, [], ◌∷◌, ◌++◌}
use native.Mathlib.Omega.{arith}
use lib.Count.{ones, ones_in, count_trailing_zeros}
use lib.ListN.{length, take, get_or, replicate}
use Rattle.clusters.specs.Sets.{whole, single, union, has, within, apart, size, lowest}
use Rattle.labels.specs.Bytes.{run, next_is, next_label}
use Rattle.labels.specs.Labels.{bare_letters, letters, letters_from, doubled, raw_to, told, padded}
use Rattle.labels.specs.Writing.{label_of, may_be_bare}
use Rattle.trees.specs.Drawn.{properly, maximal, placed, by_lowest, children, drawn_to, drawn}
use Rattle.trees.specs.Lists.{up_to, keep, some, insert, sorted, pieces, total}
use Rattle.trees.specs.Records.{record_for}
use Rattle.trees.specs.Tree.{cluster, clusters}
use Rattle.trees.specs.Valid.{every, among, rising, singles_from, nested, valid_for, valid_gene_for, binary}
use Rattle.roster.specs.Roster.{same, position, in_quotes, begins, beginnings, name_at, names, stray_at, long_at, many_at, again_at, open_at, fault_at, least, first_fault, faulty}
use Rattle.roster.specs.Verdict.{verdict, length_test}
use Rattle.roster.specs.declared.Reply.{Reply}
use Rattle.tokens.specs.Tokens.{blanks, skip, number, number_behind, numbers, name, inner_name}
use Rattle.tokens.specs.Supports.{supported}
use Rattle.tokens.specs.Values.{written as writes, written_behind}
use Rattle.nodes.specs.Reading.{leaf_by, closing_by, read_tree_to_by, read_tree_by, read_node_by}
use Rattle.reader.specs.Promise.{answer_within}
use Rattle.branches.specs.Ends.{lead, next_end, ends_from, is_count, count_in}
use Rattle.printing.specs.Words.{digits_to, decimal}
use Rattle.texts.specs.Writing.{node_with, tree_with, written_with, written}
use Rattle.writer.specs.Promise.{roster_test}
use Rattle.weights.specs.Count.{k_of, extra, weight, score}
use Rattle.lineages.specs.Checks.{count_test, first_failing, records_test, species_record_test}
use Rattle.splits.specs.BinaryTrees.{clusters_in, is_low, lows, each, forks, trees_to, trees_on}
use Rattle.splits.specs.Least.{those, all, score_of, trees_over, least_trees, best, no_tree}
use Rattle.splits.specs.Best.{best_for}
use Rattle.terms.specs.Allowed.{allowed_in}
use Rattle.counts.specs.Promise.{least_score, distance, first_wrong, drawn_test, check_tests, check_verdict, Checks, counts_text, write_counts_tests, WritesCounts}
use Rattle.demands.specs.Handed.{Bytes, Numbers, ToCheck, ToWriteCounts}
use Rattle.demands.proofs.SmallInputs.{slice-told, abc-line, ab_c, ac_b, lent}

-- ---- what is computed: texts on the roster `a b c` with two gene trees, which are alike or not

-- `((a:0,b:0):0,c:0):0;` and `((a:0,b:0):1,c:0):0;`, the counts of `((a,b),c);` for the gene trees `((a,b),c);` and `((a,b),c);`, and for `((a,b),c);` and `((a,c),b);`
alike-text : List ℕ
alike-text = 40 ∷ 40 ∷ 97 ∷ 58 ∷ 48 ∷ 44 ∷ 98 ∷ 58 ∷ 48 ∷ 41 ∷ 58 ∷ 48 ∷ 44 ∷ 99 ∷ 58 ∷ 48 ∷ 41 ∷ 58 ∷ 48 ∷ 59 ∷ []

unlike_text : List ℕ
unlike_text = 40 ∷ 40 ∷ 97 ∷ 58 ∷ 48 ∷ 44 ∷ 98 ∷ 58 ∷ 48 ∷ 41 ∷ 58 ∷ 49 ∷ 44 ∷ 99 ∷ 58 ∷ 48 ∷ 41 ∷ 58 ∷ 48 ∷ 59 ∷ []

-- `((a:0,c:0):2,b:0):0;`, those of `((a,c),b);` for the first two
far-text : List ℕ
far-text = 40 ∷ 40 ∷ 97 ∷ 58 ∷ 48 ∷ 44 ∷ 99 ∷ 58 ∷ 48 ∷ 41 ∷ 58 ∷ 50 ∷ 44 ∷ 98 ∷ 58 ∷ 48 ∷ 41 ∷ 58 ∷ 48 ∷ 59 ∷ []

-- twenty bytes to write into
room : List ℕ
room = replicate 20 9

-- the same without counts: `((a,b),c);`
plain-text : List ℕ
plain-text = 40 ∷ 40 ∷ 97 ∷ 44 ∷ 98 ∷ 41 ∷ 44 ∷ 99 ∷ 41 ∷ 59 ∷ []

-- what is answered of the first text for gene trees that are alike, and for those that are not; and of the far one
checks_computed :
    ((r : Reply) (s p : List ℕ) → Checks abc-line alike-text 0 (ab_c ++ ab_c) 2 lent lent r s p
    → (r ≡ record { number = 0; place = 0; value = 0 }) × (get_or s 0 0 ≡ no_tree) × (get_or p 0 0 ≡ 0))
    × ((r : Reply) (s p : List ℕ) → Checks abc-line alike-text 0 (ab_c ++ ac_b) 2 lent lent r s p → r ≡ record { number = 23; place = 10; value = 0 })
    × ((r : Reply) (s p : List ℕ) → Checks abc-line far-text 0 (ab_c ++ ab_c) 2 lent lent r s p → r ≡ record { number = 0; place = 0; value = 2 })
unfolding abc-line alike-text far-text ab_c ac_b lent distance least_score check_verdict check_tests drawn_test first_wrong ones ones_in count_trailing_zeros whole single union
    has within apart size lowest run next_is next_label
    bare_letters letters letters_from doubled raw_to told padded properly maximal placed by_lowest children drawn_to drawn up_to keep some insert sorted pieces total
    record_for cluster clusters every among rising singles_from nested valid_for valid_gene_for binary same position in_quotes begins beginnings name_at names stray_at long_at
    many_at again_at open_at fault_at least first_fault faulty verdict length_test blanks skip number number_behind numbers name inner_name supported writes written_behind
    leaf_by closing_by read_tree_to_by read_tree_by read_node_by answer_within lead next_end ends_from is_count count_in k_of extra weight score count_test first_failing records_test
    clusters_in is_low lows each forks trees_to trees_on those all score_of trees_over least_trees best best_for allowed_in
checks_computed = (
  λ r s p c. (c.reply, ap (λ (l : List ℕ). get_or l 0 0) c.score_table, ap (λ (l : List ℕ). get_or l 0 0) c.split_table),
  λ r s p c. c.reply,
  λ r s p c. c.reply,
)

-- what is written of `((a,b),c);` for both lists of gene trees, and without counts
writes_computed :
    ((r : Reply) (after : List ℕ) → WritesCounts abc-line (ab_c ++ ab_c) 2 ab_c room r after
    → (r ≡ record { number = 0; place = 0; value = 20 }) × (after ≡ alike-text))
    × ((r : Reply) (after : List ℕ) → WritesCounts abc-line (ab_c ++ ac_b) 2 ab_c room r after
    → (r ≡ record { number = 0; place = 0; value = 20 }) × (after ≡ unlike_text))
    × (written (names abc-line) ab_c ≡ plain-text)
unfolding abc-line alike-text unlike_text plain-text ab_c ac_b room write_counts_tests roster_test count_test length_test species_record_test first_failing records_test verdict
    counts_text written written_with
    tree_with node_with digits_to decimal label_of may_be_bare ones ones_in count_trailing_zeros whole single union has within apart size lowest run next_is bare_letters letters
    letters_from doubled raw_to told up_to keep some insert sorted pieces total properly maximal placed by_lowest children drawn_to drawn record_for cluster every among rising
    singles_from nested valid_for valid_gene_for binary same position in_quotes begins beginnings name_at names stray_at long_at many_at again_at open_at fault_at least first_fault faulty
    k_of extra weight
writes_computed = (λ r after w. (w.answer, w.bytes), λ r after w. (w.answer, w.bytes), refl)

-- ---- these inputs can be handed over

abc-handed : Bytes abc-line
unfolding abc-line every
abc-handed = slice-told (2 ^ 8) abc-line refl (omega arith)

alike-genes : Numbers (ab_c ++ ab_c)
unfolding ab_c record_for sorted insert every
alike-genes = slice-told (2 ^ 16) (ab_c ++ ab_c) refl (omega arith)

unlike_genes : Numbers (ab_c ++ ac_b)
unfolding ab_c ac_b record_for sorted insert every
unlike_genes = slice-told (2 ^ 16) (ab_c ++ ac_b) refl (omega arith)

alike-text-handed : Bytes alike-text
unfolding alike-text every
alike-text-handed = slice-told (2 ^ 8) alike-text refl (omega arith)

far-text-handed : Bytes far-text
unfolding far-text every
far-text-handed = slice-told (2 ^ 8) far-text refl (omega arith)

to_check : (text genes : List ℕ) → Bytes text → Numbers genes → ToCheck abc-line text 0 genes 2 lent lent
unfolding lent every
to_check text genes bytes numbers = record {
  to_read = record { line_bytes = abc-handed; text_bytes = bytes; start_size = omega arith };
  genes_numbers = numbers;
  count_size = omega arith;
  scores_numbers = slice-told (2 ^ 32) lent refl (omega arith);
  splits_numbers = slice-told (2 ^ 16) lent refl (omega arith);
}

to_check_alike : ToCheck abc-line alike-text 0 (ab_c ++ ab_c) 2 lent lent
to_check_alike = to_check alike-text (ab_c ++ ab_c) alike-text-handed alike-genes

to_check_unlike : ToCheck abc-line alike-text 0 (ab_c ++ ac_b) 2 lent lent
to_check_unlike = to_check alike-text (ab_c ++ ac_b) alike-text-handed unlike_genes

to_check_far : ToCheck abc-line far-text 0 (ab_c ++ ab_c) 2 lent lent
to_check_far = to_check far-text (ab_c ++ ab_c) far-text-handed alike-genes

to_write : (genes : List ℕ) → Numbers genes → ToWriteCounts abc-line genes 2 ab_c room
unfolding ab_c room record_for sorted insert every
to_write genes numbers = record {
  to_write = record {
    line_bytes = abc-handed;
    tree_record = record { numbers = slice-told (2 ^ 16) ab_c refl (omega arith); thirty_two = refl };
    out_bytes = slice-told (2 ^ 8) room refl (omega arith);
  };
  genes_numbers = numbers;
  count_size = omega arith;
}

-- ---- checking

module _ (f : List ℕ → List ℕ → ℕ → List ℕ → ℕ → List ℕ → List ℕ → Reply) (s p : List ℕ → List ℕ → ℕ → List ℕ → ℕ → List ℕ → List ℕ → List ℕ)
    (meets : (line text : List ℕ) (start : ℕ) (genes : List ℕ) (count : ℕ) (scores splits : List ℕ) → ToCheck line text start genes count scores splits
    → Checks line text start genes count scores splits (f line text start genes count scores splits) (s line text start genes count scores splits)
    (p line text start genes count scores splits)) where
  checked-alike :
      (f abc-line alike-text 0 (ab_c ++ ab_c) 2 lent lent ≡ record { number = 0; place = 0; value = 0 })
      × (get_or (s abc-line alike-text 0 (ab_c ++ ab_c) 2 lent lent) 0 0 ≡ no_tree)
      × (get_or (p abc-line alike-text 0 (ab_c ++ ab_c) 2 lent lent) 0 0 ≡ 0)
  checked-alike = checks_computed.0 _ _ _ (meets abc-line alike-text 0 (ab_c ++ ab_c) 2 lent lent to_check_alike)

  checked_unlike : f abc-line alike-text 0 (ab_c ++ ac_b) 2 lent lent ≡ record { number = 23; place = 10; value = 0 }
  checked_unlike = checks_computed.1 _ _ _ (meets abc-line alike-text 0 (ab_c ++ ac_b) 2 lent lent to_check_unlike)

  checked-far : f abc-line far-text 0 (ab_c ++ ab_c) 2 lent lent ≡ record { number = 0; place = 0; value = 2 }
  checked-far = checks_computed.2 _ _ _ (meets abc-line far-text 0 (ab_c ++ ab_c) 2 lent lent to_check_far)

  alike-passed : (f abc-line alike-text 0 (ab_c ++ ab_c) 2 lent lent).number ≡ 0
  alike-passed = ap (λ (r : Reply). r.number) checked-alike.0

  -- "one that turns everything away"
  pub check_does_not_refuse_all :
      ((line text : List ℕ) (start : ℕ) (genes : List ℕ) (count : ℕ) (scores splits : List ℕ) → ToCheck line text start genes count scores splits
      → (f line text start genes count scores splits).number ≡ 0 → ⊥) → ⊥
  check_does_not_refuse_all away = away abc-line alike-text 0 (ab_c ++ ab_c) 2 lent lent to_check_alike alike-passed

  -- one that says yes to every text
  pub check_does_not_pass_all :
      ((line text : List ℕ) (start : ℕ) (genes : List ℕ) (count : ℕ) (scores splits : List ℕ) → ToCheck line text start genes count scores splits
      → (f line text start genes count scores splits).number ≡ 0) → ⊥
  check_does_not_pass_all passes =
      omega (arith, ap (λ (r : Reply). r.number) checked_unlike, passes abc-line alike-text 0 (ab_c ++ ac_b) 2 lent lent to_check_unlike)

  -- "one that does nothing (1, which fixes every buffer ..)": with a yes it leaves a table as it was lent
  pub check_fills_the_score_table :
      ((line text : List ℕ) (start : ℕ) (genes : List ℕ) (count : ℕ) (scores splits : List ℕ) → ToCheck line text start genes count scores splits
      → (f line text start genes count scores splits).number ≡ 0 → s line text start genes count scores splits ≡ scores) → ⊥
  unfolding lent
  check_fills_the_score_table keeps =
      let kept = keeps abc-line alike-text 0 (ab_c ++ ab_c) 2 lent lent to_check_alike alike-passed in
      omega (arith, checked-alike.1, ap (λ (l : List ℕ). get_or l 0 0) kept)

  pub check_fills_the_split_table :
      ((line text : List ℕ) (start : ℕ) (genes : List ℕ) (count : ℕ) (scores splits : List ℕ) → ToCheck line text start genes count scores splits
      → (f line text start genes count scores splits).number ≡ 0 → p line text start genes count scores splits ≡ splits) → ⊥
  unfolding lent
  check_fills_the_split_table keeps =
      let kept = keeps abc-line alike-text 0 (ab_c ++ ab_c) 2 lent lent to_check_alike alike-passed in
      omega (arith, checked-alike.2, ap (λ (l : List ℕ). get_or l 0 0) kept)

  -- "one that reports an invented score": one distance for all
  pub check_has_no_fixed_distance :
      (d : ℕ)
      → ((line text : List ℕ) (start : ℕ) (genes : List ℕ) (count : ℕ) (scores splits : List ℕ) → ToCheck line text start genes count scores splits
      → (f line text start genes count scores splits).number ≡ 0 → (f line text start genes count scores splits).value ≡ d) → ⊥
  check_has_no_fixed_distance d always =
      let near = always abc-line alike-text 0 (ab_c ++ ab_c) 2 lent lent to_check_alike alike-passed in
      let far = always abc-line far-text 0 (ab_c ++ ab_c) 2 lent lent to_check_far (ap (λ (r : Reply). r.number) checked-far) in
      omega (arith, near, far, ap (λ (r : Reply). r.value) checked-alike.0, ap (λ (r : Reply). r.value) checked-far)

  -- "one that counts the first gene tree and passes over the others"
  pub check_counts_every_gene_tree :
      ((line text : List ℕ) (start : ℕ) (genes genes' : List ℕ) (count : ℕ) (scores splits : List ℕ) → ToCheck line text start genes count scores splits
      → ToCheck line text start genes' count scores splits → take 32 genes ≡ take 32 genes'
      → (f line text start genes count scores splits).number ≡ (f line text start genes' count scores splits).number) → ⊥
  unfolding ab_c ac_b record_for sorted insert
  check_counts_every_gene_tree first-only =
      let e = first-only abc-line alike-text 0 (ab_c ++ ab_c) (ab_c ++ ac_b) 2 lent lent to_check_alike to_check_unlike refl in
      omega (arith, e, alike-passed, ap (λ (r : Reply). r.number) checked_unlike)

-- ---- writing

module _ (f : List ℕ → List ℕ → ℕ → List ℕ → List ℕ → Reply) (after : List ℕ → List ℕ → ℕ → List ℕ → List ℕ → List ℕ)
    (meets : (line genes : List ℕ) (count : ℕ) (species out : List ℕ) → ToWriteCounts line genes count species out
    → WritesCounts line genes count species out (f line genes count species out) (after line genes count species out)) where
  written-alike :
      (f abc-line (ab_c ++ ab_c) 2 ab_c room ≡ record { number = 0; place = 0; value = 20 }) × (after abc-line (ab_c ++ ab_c) 2 ab_c room ≡ alike-text)
  written-alike = writes_computed.0 _ _ (meets abc-line (ab_c ++ ab_c) 2 ab_c room (to_write (ab_c ++ ab_c) alike-genes))

  written_unlike :
      (f abc-line (ab_c ++ ac_b) 2 ab_c room ≡ record { number = 0; place = 0; value = 20 }) × (after abc-line (ab_c ++ ac_b) 2 ab_c room ≡ unlike_text)
  written_unlike = writes_computed.1 _ _ (meets abc-line (ab_c ++ ac_b) 2 ab_c room (to_write (ab_c ++ ac_b) unlike_genes))

  alike-written : (f abc-line (ab_c ++ ab_c) 2 ab_c room).number ≡ 0
  alike-written = ap (λ (r : Reply). r.number) written-alike.0

  -- "one that turns everything away"
  pub write_counts_does_not_refuse_all :
      ((line genes : List ℕ) (count : ℕ) (species out : List ℕ) → ToWriteCounts line genes count species out → (f line genes count species out).number ≡ 0 → ⊥)
      → ⊥
  write_counts_does_not_refuse_all away = away abc-line (ab_c ++ ab_c) 2 ab_c room (to_write (ab_c ++ ab_c) alike-genes) alike-written

  -- "one that does nothing (1, which fixes every buffer)": it leaves the lent bytes as they were
  pub write_counts_does_something :
      ((line genes : List ℕ) (count : ℕ) (species out : List ℕ) → ToWriteCounts line genes count species out
      → (f line genes count species out).number ≡ 0 → after line genes count species out ≡ out) → ⊥
  unfolding alike-text room
  write_counts_does_something keeps =
      let kept = keeps abc-line (ab_c ++ ab_c) 2 ab_c room (to_write (ab_c ++ ab_c) alike-genes) alike-written in
      omega (arith, ap (λ (l : List ℕ). get_or l 0 0) (sym written-alike.1 ∙ kept))

  -- one that writes the text without counts, as the writer does
  pub write_counts_writes_counts :
      ((line genes : List ℕ) (count : ℕ) (species out : List ℕ) → ToWriteCounts line genes count species out → (f line genes count species out).number ≡ 0
      → take (length (written (names line) species)) (after line genes count species out) ≡ written (names line) species) → ⊥
  unfolding alike-text plain-text
  write_counts_writes_counts plain =
      let bare = plain abc-line (ab_c ++ ab_c) 2 ab_c room (to_write (ab_c ++ ab_c) alike-genes) alike-written in
      let front : List ℕ → List ℕ = λ l. take (length l) (after abc-line (ab_c ++ ab_c) 2 ab_c room) in
      let e : take 10 alike-text ≡ plain-text = sym (ap (take 10) written-alike.1) ∙ sym (ap front writes_computed.2) ∙ bare ∙ writes_computed.2 in
      omega (arith, ap (λ (l : List ℕ). get_or l 3 0) e)

  -- "one that counts the first gene tree and passes over the others"
  pub write_counts_counts_every_gene_tree :
      ((line genes genes' : List ℕ) (count : ℕ) (species out : List ℕ) → ToWriteCounts line genes count species out → ToWriteCounts line genes' count species out
      → take 32 genes ≡ take 32 genes' → (f line genes count species out).number ≡ 0 → (f line genes' count species out).number ≡ 0
      → after line genes count species out ≡ after line genes' count species out) → ⊥
  unfolding ab_c ac_b record_for sorted insert alike-text unlike_text
  write_counts_counts_every_gene_tree first-only =
      let e = first-only abc-line (ab_c ++ ab_c) (ab_c ++ ac_b) 2 ab_c room (to_write (ab_c ++ ab_c) alike-genes) (to_write (ab_c ++ ac_b) unlike_genes) refl
      alike-written (ap (λ (r : Reply). r.number) written_unlike.0) in
      omega (arith, ap (λ (l : List ℕ). get_or l 11 0) (sym written-alike.1 ∙ e ∙ written_unlike.1))
