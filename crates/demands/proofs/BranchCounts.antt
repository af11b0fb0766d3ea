-- Trees that come with branch counts (#114): when `check` says yes, what goes with a yes, and that what `write_counts` writes is always passed.
use Prim.Native.Nat.{ℕ, ◌-◌, ◌^◌, ◌≤◌}
use mathlib.Core.Path.{◌≡◌, refl, sym, ap, ap₂, ◌∙◌, subst}
use mathlib.Core.Logic.{◌⊎◌, inl, inr, ◌↔◌}
use mathlib.Core.Bool.{Bool, true, false}
use Rattle.std.proofs.Common.{Option, Some, None}
use mathlib.Core.List.Memᴰ
use mathlib.Core.List.Memᴰ.{head as here}
use mathlib.Core.List.Memᴰ.{tail as there}
use mathlib.Core.List.{List, [], ◌∷◌, ◌++◌, map, map-map, Memᴰ}
use native.Mathlib.Omega.{arith}
use lib.ListN.{length, take, drop, length-replicate, get_or-replicate}
use Rattle.clusters.proofs.Sets.{below_of_within, whole_below}
use Rattle.trees.specs.Tree.{Tree, cluster, clusters}
use Rattle.trees.specs.Lists.{Among}
use Rattle.trees.specs.Thinned.{all_nodes}
use Rattle.trees.specs.Records.{record_of, records_in}
use Rattle.trees.proofs.LostNodes.{nodes-clusters}
use Rattle.trees.proofs.Recorded.{record_among}
use Rattle.roster.specs.Roster.{names, faulty}
use Rattle.roster.specs.Judged.{species_most}
use Rattle.roster.specs.Verdict.{Test, Verdict, verdict_by, verdict, value_by}
use Rattle.roster.specs.declared.Reply.{Reply}
use Rattle.tokens.specs.Answers.{Answer}
use Rattle.std.proofs.Common.{None}
use Rattle.reader.specs.Accepted.{Draws}
use Rattle.reader.specs.Promise.{Reads, reading_of, answer_to}
use Rattle.reader.specs.declared.Kind.TheVariants.{Species}
use Rattle.reader.specs.declared.Reading.{Reading}
use Rattle.reader.proofs.Accepts.{accepted-derives, derives-accepted}
use Rattle.nodes.specs.Worth.{behind_of}
use Rattle.branches.specs.Ends.{ends_from, count_in}
use Rattle.branches.proofs.Counts.{some_none}
use Rattle.weights.specs.Count.{score}
use Rattle.weights.specs.declared.Rooting.TheVariants.{Rooted}
use Rattle.writer.specs.Promise.{roster_test, Writes}
use Rattle.lineages.specs.Promise.{Weighs}
use Rattle.search.specs.Candidates.{BinarySpecies, SameAllowed, SameTable}
use Rattle.search.specs.Promise.{Finds}
use Rattle.search.proofs.EveryCluster.{all_compete}
use Rattle.search.proofs.Unread.{same_outcome}
use Rattle.terms.proofs.AllMarked.{all_judged}
use Rattle.terms.specs.declared.Found.{Found}
use Rattle.terms.specs.Allowed.{every_cluster}
use Rattle.counts.specs.Promise.{weight_in, least_score, distance, distance_of, first_wrong, counts_test, Checks, counts_text, WritesCounts}
use Rattle.counts.specs.Passes.{CallInOrder, DrawsBinary, CountRight, Passes}
use Rattle.counts.proofs.CallFaults.{drawn_tests}
use Rattle.counts.proofs.Checking.{said_of, wrong_in, said_as}
use Rattle.counts.proofs.DrawnBinary.{read_as, drawn-species, drawn-beside}
use Rattle.counts.proofs.FirstWrong.{none_wrong, all_right}
use Rattle.counts.proofs.Nearest.{yes_distance, yes_nearest, yes_tables}
use Rattle.counts.proofs.PassedText.{passed-draws, passed_reads, passed-distances}
use Rattle.counts.proofs.Yes.{says_yes}
use Rattle.counts.proofs.Answered.{counts_zero}
use Rattle.counts.specs.Without.{without_counts}
use Rattle.counts.proofs.TreesJudging.{TreesInOrder}
use Rattle.counts.proofs.CountedText.{room-enough, written_most, write_counts_read}
use Rattle.counts.proofs.CountsLeftOut.{without-counts-written}
use Rattle.counts.proofs.WrittenPasses.{always_passed}
use Rattle.demands.specs.BranchCounts.{OverAllClusters, counts_of, CountsWeighed, CountsAsDistances, GoesWithYes, CountsWritable}
use Rattle.demands.specs.CallFaults.{SpeciesRecordFault, WriteCountsFault}
use Rattle.demands.specs.CallFaults.SpeciesRecordFault.{not_valid_or_binary}
use Rattle.demands.specs.Lots.{Searched}
use Rattle.demands.specs.Outcomes.{Replies}
use Rattle.demands.specs.Scorable.{Scorable}
use Rattle.demands.proofs.FirstFaults.{NoFault, none_of_both, none_exactly, passed_none}
use Rattle.demands.proofs.TestFaults.{roster-met}
use Rattle.demands.proofs.CallFaults.{write_counts_exact}
use Rattle.demands.proofs.InOrder.{long-enough, no_count_fault, no_length_fault, no_records_fault, weighed_exactly, weighed-value}
use Rattle.demands.proofs.Scorable.{scored_exactly, scored-value}
use Rattle.demands.proofs.FirstDemand.{replies-read, replies_find}
use Rattle.demands.proofs.ThirdDemand.{tree-returned_exactly_when_one_exists}

-- ---- a search over all clusters

-- its allowed set says what 2^n bytes of 1 say
every-marked : {genes : List ℕ} {count n : ℕ} {q : Searched Rooted n} → OverAllClusters genes count q → SameAllowed n q.allowed (every_cluster n)
every-marked {n = n} all = record {
  long = all.lent.allowed_long;
  other_long = omega (arith, length-replicate {A = ℕ} (2 ^ n) 1);
  clusters = λ a s l. all.every a s l ∙ sym (get_or-replicate {A = ℕ} (2 ^ n) a 1 0 l);
  byte_0 = (λ h. all_judged n 0 (omega (arith, whole_below n)), λ h. all.byte_0);
}

module _ (line text : List ℕ) (start : ℕ) (genes : List ℕ) (count : ℕ) (scores splits : List ℕ) {r : Reply} {s p : List ℕ}
    (c : Checks line text start genes count scores splits r s p) where
  abbrev n : ℕ
  n = length (names line)

  -- ---- yes

  -- "Say yes exactly when the text draws a binary tree on the roster and each number is the weight of that node's cluster" (#114), where the call is in order
  pub yes_exactly_when : (r.number ≡ 0) ↔ (Passes line text start genes count × CallInOrder line genes count scores splits)
  yes_exactly_when = says_yes line text start genes count scores splits c

  module _ (yes : r.number ≡ 0) where
    passes : Passes line text start genes count
    passes = (yes_exactly_when.0 yes).0

    order : CallInOrder line genes count scores splits
    order = (yes_exactly_when.0 yes).1

    abbrev own-tree : DrawsBinary line text start
    own-tree = passes.draws

    -- ---- the search over all clusters

    -- with the same tables, it finds a tree
    abbrev marked : Replies (λ (o : Found × List ℕ × List ℕ). Finds Rooted n genes count (every_cluster n) scores splits o.0 o.1 o.2)
    marked = replies_find Rooted n genes count (every_cluster n) scores splits

    marked-found : marked.outcome.0.number ≡ 0
    marked-found =
        (tree-returned_exactly_when_one_exists Rooted n genes count (every_cluster n) scores splits marked.outcome.0 marked.outcome.1 marked.outcome.2 marked.meets).1 (
          record {
            in_order = order.genes_in_order;
            allowed_fits = omega (arith, length-replicate {A = ℕ} (2 ^ n) 1);
            scores_fit = order.scores_fit;
            splits_fit = order.splits_fit;
            allowed_bytes = λ a l. all_judged n a l;
          },
          (record_of (clusters own-tree.tree), all_compete n (record_of (clusters own-tree.tree)) (drawn-species line text start own-tree)),
        )

    -- "both tables are filled as by the search over all clusters", whose score is the least one
    pub as_searched_lem :
        (q : Searched Rooted n) → OverAllClusters genes count q
        → (q.reply.number ≡ 0) × (q.reply.score ≡ least_score n (records_in count genes))
        × SameTable n q.scores q.scores_after scores s
        × SameTable n q.splits q.splits_after splits p
    as_searched_lem q all =
        let finds : Finds Rooted n q.genes count q.allowed q.scores q.splits q.reply q.scores_after q.splits_after = rw all.as_many at q.finds in
        let out = same_outcome Rooted n count q.genes genes q.allowed (every_cluster n) q.scores scores q.splits splits all.gene_entries (every-marked all)
        (λ h. order.scores_fit, λ h. all.lent.scores_long) (λ h. order.splits_fit, λ h. all.lent.splits_long) finds marked.meets in
        let same = yes_tables line text start genes count scores splits c yes marked.meets in
        let z : q.reply.number ≡ 0 = ap (λ (f : Found). f.number) out.0 ∙ marked-found in
        let tables = out.1 (inl z) in (
          z,
          ap (λ (f : Found). f.score) out.0 ∙ same.2,
          subst (λ (l : List ℕ). SameTable n q.scores q.scores_after scores l) (sym same.0) tables.0,
          subst (λ (l : List ℕ). SameTable n q.splits q.splits_after splits l) (sym same.1) tables.1,
        )

    -- ---- the tree that is drawn

    abbrev tree : List ℕ
    tree = record_of (clusters own-tree.tree)

    own-species : BinarySpecies n tree
    own-species = drawn-species line text start own-tree

    scorable : Scorable Rooted n genes count tree
    scorable = record { in_order = order.genes_in_order; species_valid = own-species.valid; species_binary = own-species.binary }

    drawn_goes : GoesWithYes n genes count tree r.value
    drawn_goes = record {
      above = λ q all t scored.
          let z = (scored_exactly Rooted n genes count tree t scored).1 scorable in
          let searched = as_searched_lem q all in
          let far = yes_distance line text start genes count scores splits c yes own-tree in
          (searched.0, z, omega (arith, far, searched.1, scored-value Rooted n genes count tree t scored z));
      nearest = yes_nearest line text start genes count scores splits c yes own-tree;
    }

    -- "With a yes goes the distance of its score above the least one over all clusters" (#114): the text is read to a valid binary record, and it is that record's
    pub yes_goes_with :
        (q : Reading) → Reads Species None line text start q → (q.number ≡ 0) × BinarySpecies n q.numbers × GoesWithYes n genes count q.numbers r.value
    unfolding Reads
    yes_goes_with q reads =
        let is = reads ∙ ap (reading_of None start) (read_as line text start own-tree) in
        rw is (refl, own-species, drawn_goes)

    -- "each number is the weight of that node's cluster" (#114): the count behind each node is what the call that weighs gives for its cluster
    pub yes_counts_weighed : (t : Tree) (rest : List ℕ) → Draws Species None line text start t rest → CountsWeighed n genes count t
    yes_counts_weighed t rest draws =
        let answered = sym (derives-accepted Species None line text start draws) ∙ read_as line text start own-tree in
        let same : t ≡ own-tree.tree = cc in
        rw same (record { each = each })
      where
        each : (u : Tree) → Memᴰ u (all_nodes own-tree.tree) → (w : Reply) → Weighs Rooted n genes count (cluster u) w
            → (w.number ≡ 0) × (count_in (behind_of u) ≡ Some w.value)
        each u m w weighs =
            let listed = record_among 16 (clusters own-tree.tree) (subst (λ (l : List ℕ). Among (cluster u) l) (nodes-clusters own-tree.tree) (Memᴰ.map cluster m)) in
            let inside = own-species.valid.inside (cluster u) listed in
            let z = (weighed_exactly Rooted n genes count (cluster u) w weighs).1 (record { in_order = order.genes_in_order; cluster = (inside.0, below_of_within n inside.1) }) in
            (z, passes.counts u m ∙ ap (λ (x : ℕ). Some x) (sym (weighed-value Rooted n genes count (cluster u) w weighs z)))

    -- a text that passes is, its counts read as distances, read to the record of its tree
    pub yes_counts_distances : (q : Reading) → Reads Species None line text start q → CountsAsDistances line text start genes count q
    yes_counts_distances q reads =
        let d = passed-draws line text start genes count scores splits c yes in
        let is = passed_reads line text start genes count scores splits c yes q reads in
        record {
          is_read = is.0;
          tree = d.tree;
          rest = d.rest;
          draws = (accepted-derives Species None line text start (read_as line text start d)).draws;
          numbers = is.1;
          distances = passed-distances line text start genes count scores splits c yes d;
        }

-- ---- what is written behind a node matters no further than its count

module _ (f g : Tree → Option ℕ) where
  -- two functions that agree on a list, and on each of it
  agree-each : (l : List Tree) → map f l ≡ map g l → (u : Tree) → Memᴰ u l → f u ≡ g u
  agree-each [] same u m = absurd (Memᴰ.not-nil m)
  agree-each (v ∷ l) same u m =
      let first : f v ≡ g v = cc in
      let others : map f l ≡ map g l = cc in
      go first (Memᴰ.cases_cons m) (λ k. agree-each l others u k)
    where
      go : f v ≡ g v → (u ≡ v) ⊎ Memᴰ u l → (Memᴰ u l → f u ≡ g u) → f u ≡ g u
      go first (inl is) later = rw is first
      go first (inr k) later = later k

  each_agrees : (l : List Tree) → ((u : Tree) → Memᴰ u l → f u ≡ g u) → map f l ≡ map g l
  each_agrees [] same = refl
  each_agrees (v ∷ l) same = ap₂ ◌∷◌ (same v (here refl)) (each_agrees l (λ u m. same u (there m)))

-- all counts are right exactly when they are the weights of the clusters, one by one
right_exactly :
    (genes : List ℕ) (count : ℕ) (t : Tree)
    → ((u : Tree) → Memᴰ u (all_nodes t) → CountRight genes count u) ↔ (counts_of t ≡ map (λ (a : ℕ). Some (weight_in genes count a)) (clusters t))
right_exactly genes count t =
    let own : Tree → Option ℕ = λ u. count_in (behind_of u) in
    let due : Tree → Option ℕ = λ u. Some (weight_in genes count (cluster u)) in
    let weighed : map due (all_nodes t) ≡ map (λ (a : ℕ). Some (weight_in genes count a)) (clusters t)
    = sym (map-map (λ (a : ℕ). Some (weight_in genes count a)) cluster (all_nodes t)) ∙ ap (map (λ (a : ℕ). Some (weight_in genes count a))) (nodes-clusters t) in
    (λ right. each_agrees own due (all_nodes t) right ∙ weighed, λ same. agree-each own due (all_nodes t) (same ∙ sym weighed))

-- so no count of a drawn tree is wrong exactly then
none_wrong_exactly :
    {line text : List ℕ} {start : ℕ} (genes : List ℕ) (count : ℕ) (d : DrawsBinary line text start)
    → (wrong_in text start genes count d.tree ≡ None) ↔ (counts_of d.tree ≡ map (λ (a : ℕ). Some (weight_in genes count a)) (clusters d.tree))
none_wrong_exactly {line} {text} {start} genes count d =
    let w = weight_in genes count in
    let ends = ends_from (length (clusters d.tree)) (drop start text) start in
    let beside = drawn-beside line text start d in
    let all = nodes-clusters d.tree in
    let exactly = right_exactly genes count d.tree in (
      λ z. exactly.0 (none_wrong w beside (subst (λ (l : List ℕ). first_wrong w l ends ≡ None) (sym all) z)),
      λ same. subst (λ (l : List ℕ). first_wrong w l ends ≡ None) all (all_right w beside (exactly.1 same)),
    )

-- behind the same tests, the counts of two texts lead to one number where in both or in neither one is wrong
same_number :
    (l : List Test) (o o' : Option ℕ) → ((o ≡ None) ↔ (o' ≡ None)) → (verdict (l ++ (counts_test o ∷ []))).number ≡ (verdict (l ++ (counts_test o' ∷ []))).number
unfolding verdict
same_number [] (Some p) (Some q) h = refl
same_number [] (Some p) None h = absurd (some_none (h.1 refl))
same_number [] None (Some q) h = absurd (some_none (h.0 refl))
same_number [] None None h = refl
same_number (t ∷ l) o o' h = go t.fault (same_number l o o' h)
  where
    go : (b : Bool) → (verdict (l ++ (counts_test o ∷ []))).number ≡ (verdict (l ++ (counts_test o' ∷ []))).number
        → (verdict_by b t (verdict (l ++ (counts_test o ∷ [])))).number ≡ (verdict_by b t (verdict (l ++ (counts_test o' ∷ [])))).number
    go true e = refl
    go false e = e

-- "zeros in front change nothing" (#114), nor do blanks or the names of inner nodes: of two texts that draw the same clusters with the same counts
-- one number is said, with one distance, and both tables are filled alike; the place of 23 is one of the text
pub only-counts_matter :
    (line text text' : List ℕ) (start start' : ℕ) (genes : List ℕ) (count : ℕ) (scores splits : List ℕ) (r r' : Reply) (s p s' p' : List ℕ)
    → Checks line text start genes count scores splits r s p → Checks line text' start' genes count scores splits r' s' p'
    → (d : DrawsBinary line text start) (d' : DrawsBinary line text' start') → clusters d.tree ≡ clusters d'.tree → counts_of d.tree ≡ counts_of d'.tree
    → (r.number ≡ r'.number) × (r.value ≡ r'.value) × (s ≡ s') × (p ≡ p')
unfolding distance
only-counts_matter line text text' start start' genes count scores splits r r' s p s' p' c c' d d' same counts =
    let n = length (names line) in
    let recs = records_in count genes in
    let due : List ℕ → List (Option ℕ) = map (λ (a : ℕ). Some (weight_in genes count a)) in
    let own = none_wrong_exactly genes count d in
    let other = none_wrong_exactly genes count d' in
    let wrong = wrong_in text start genes count d.tree in
    let wrong' = wrong_in text' start' genes count d'.tree in
    let answered = read_as line text start d in
    let answered' = read_as line text' start' d' in
    let said : (said_of line text start genes count scores splits).number ≡ (said_of line text' start' genes count scores splits).number
    = ap (λ (v : Verdict). v.number) (said_as line text start genes count scores splits answered)
    ∙ ap (λ (l : List ℕ). (verdict (drawn_tests n genes count (record_of l) scores splits ++ (counts_test wrong ∷ []))).number) same
    ∙ same_number (drawn_tests n genes count (record_of (clusters d'.tree)) scores splits) wrong wrong'
    (λ z. other.1 (sym counts ∙ own.0 z ∙ ap due same), λ z. own.1 (counts ∙ other.0 z ∙ ap due (sym same)))
    ∙ sym (ap (λ (v : Verdict). v.number) (said_as line text' start' genes count scores splits answered')) in
    let far : distance_of n recs (answer_to Species None line text start) ≡ distance_of n recs (answer_to Species None line text' start')
    = ap (λ (a : Answer Tree). distance_of n recs a) answered
    ∙ ap (λ (l : List ℕ). score Rooted recs (record_of l) - least_score n recs) same
    ∙ sym (ap (λ (a : Answer Tree). distance_of n recs a) answered') in (
      ap (λ (r : Reply). r.number) c.reply ∙ said ∙ sym (ap (λ (r : Reply). r.number) c'.reply),
      ap (λ (r : Reply). r.value) c.reply ∙ ap₂ value_by said far ∙ sym (ap (λ (r : Reply). r.value) c'.reply),
      c.score_table ∙ rw said (sym c'.score_table),
      c.split_table ∙ rw said (sym c'.split_table),
    )

-- ---- the writer with counts

module _ (line genes : List ℕ) (count : ℕ) (species out : List ℕ) {r : Reply} {after : List ℕ} (w : WritesCounts line genes count species out r after) where
  no_fault_lem : CountsWritable line genes count species out → NoFault (WriteCountsFault line genes count species out)
  unfolding roster_test
  no_fault_lem h =
      let n = length (names line) in
      let order = h.scorable.in_order in
      none_of_both (passed_none (roster-met line) h.roster_good)
      (none_of_both (no_count_fault Rooted n genes count order)
      (none_of_both (no_length_fault Rooted n genes count order)
      (none_of_both (λ k p f. never f)
      (none_of_both (no_records_fault Rooted n genes count order) ((long-enough out (length (counts_text (names line) genes count species))).1 h.out_fits)))))
    where
      never : {k p : ℕ} → SpeciesRecordFault (length (names line)) species k p → ⊥
      never (not_valid_or_binary f) = f (h.scorable.species_valid, h.scorable.species_binary)

  -- number 0 exactly when the writer with counts accepts what it is handed
  pub counts-written_exactly : (r.number ≡ 0) ↔ CountsWritable line genes count species out
  counts-written_exactly = (
    λ z.
        let t = counts_zero w z in
        record {
          roster_good = t.good;
          scorable = record { in_order = t.in_order.trees; species_valid = t.in_order.tree; species_binary = t.in_order.binary };
          out_fits = t.stands.room;
        },
    λ h. ap (λ (r : Reply). r.number) w.answer ∙ (none_exactly (write_counts_exact line genes count species out)).1 (no_fault_lem h),
  )

  -- and then the value is the text's length, the text stands in front, and the other bytes stay
  pub counts-written-bytes :
      r.number ≡ 0
      → (r.value ≡ length (counts_text (names line) genes count species))
      × (after ≡ counts_text (names line) genes count species ++ drop (length (counts_text (names line) genes count species)) out)
  counts-written-bytes z = let t = (counts_zero w z).stands in (t.value, t.bytes)

  -- the text has at most 744 bytes
  pub counts-written_most : r.number ≡ 0 → r.value ≤ 744
  counts-written_most z = written_most w z

  -- so with 744 bytes lent every species tree that can be scored is written
  pub valid_is_written_with_counts :
      faulty species_most line ≡ false → Scorable Rooted (length (names line)) genes count species → 744 ≤ length out → r.number ≡ 0
  valid_is_written_with_counts good h room =
      let o : TreesInOrder (length (names line)) genes count species = record { trees = h.in_order; tree = h.species_valid; binary = h.species_binary } in
      ap (λ (r : Reply). r.number) (room-enough line good o room w)

  -- and what was written is, its counts left out, what the writer writes of that record
  pub without_its_counts :
      (out' : List ℕ) (q : Reply) (after' : List ℕ) → Writes line species out' q after' → r.number ≡ 0 → q.number ≡ 0
      → without_counts (take r.value after) ≡ take q.value after'
  without_its_counts out' q after' plain z z' = without-counts-written w z plain z'

-- "Our writer gets a form with these counts, always passed" (#114): what was written is passed, and with that yes goes the distance of the record that was written
pub written-passes :
    (line genes : List ℕ) (count : ℕ) (species out : List ℕ) (w : Reply) (after : List ℕ) → WritesCounts line genes count species out w after → w.number ≡ 0
    → (scores splits : List ℕ) (r : Reply) (s p : List ℕ) → 2 ^ length (names line) ≤ length scores → 2 ^ length (names line) ≤ length splits
    → Checks line (take w.value after) 0 genes count scores splits r s p
    → (r.number ≡ 0) × GoesWithYes (length (names line)) genes count species r.value
written-passes line genes count species out w after writes z scores splits r s p long-scores long-splits c =
    let yes = (always_passed writes z long-scores long-splits c).0 in
    let read = replies-read Species None line (take w.value after) 0 in
    let back = ap (λ (q : Reading). q.numbers) (write_counts_read writes z read.meets) in
    let goes = (yes_goes_with line (take w.value after) 0 genes count scores splits c yes read.outcome read.meets).2 in
    (yes, rw back at goes)
