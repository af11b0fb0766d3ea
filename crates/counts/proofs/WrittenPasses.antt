-- What `write_counts` writes, `check` passes: "Our writer gets a form with these counts, always passed" (#114).
use Prim.Native.Nat.{ℕ, ◌-◌, ◌^◌, ◌≤◌}
use mathlib.Core.Path.{◌≡◌, sym, ap, ◌∙◌, subst}
use mathlib.Core.Bool.{false}
use mathlib.Core.List.{List, map}
use native.Mathlib.Omega.{arith}
use lib.ListN.{length, take, drop}
use Rattle.clusters.specs.Sets.{whole}
use Rattle.trees.specs.Tree.{Tree, clusters}
use Rattle.trees.specs.Thinned.{all_nodes}
use Rattle.trees.specs.Records.{listed, largest, record_of, records_in}
use Rattle.trees.specs.Drawn.{drawn}
use Rattle.trees.proofs.ValidTest.{binary_decides}
use Rattle.trees.proofs.Drawing.{drawn_record}
use Rattle.trees.proofs.GeneRecords.{gene-small}
use Rattle.roster.specs.Roster.{names, faulty}
use Rattle.roster.specs.Judged.{species_most, done}
use Rattle.roster.specs.declared.Reply.{Reply}
use Rattle.tokens.specs.Answers.{Answer}
use Rattle.std.proofs.Common.{None}
use Rattle.reader.specs.declared.Kind.TheVariants.{Species}
use Rattle.branches.specs.Ends.{ends_from}
use Rattle.branches.proofs.DrawnEnds.{answer_ends}
use Rattle.texts.specs.Writing.{count_behind, counted}
use Rattle.texts.proofs.Bearing.{bearing-clusters}
use Rattle.weights.specs.Count.{score}
use Rattle.weights.specs.declared.Rooting.TheVariants.{Rooted}
use Rattle.lineages.specs.Work.{said}
use Rattle.writer.proofs.RosterNames.{good-names}
use Rattle.counts.specs.Promise.{weight_in, least_score, distance, first_wrong, distance_of, Checks, counts_text, WritesCounts}
use Rattle.counts.proofs.CallFaults.{passed_on, DrawnPassed}
use Rattle.counts.proofs.Checking.{counts_none, said_of, said_as}
use Rattle.counts.proofs.TreesJudging.{TreesInOrder}
use Rattle.counts.proofs.Answered.{counts_zero, counts_there}
use Rattle.counts.proofs.CountsBehind.{bearing-behinds, bearing_many, none_wrong}
use Rattle.counts.proofs.CountedText.{in_order_gene, in_order_small, text-read}

module _ (line : List ℕ) {genes : List ℕ} {count : ℕ} {species : List ℕ} (good : faulty species_most line ≡ false)
    (o : TreesInOrder (length (names line)) genes count species) where
  abbrev n : ℕ
  n = length (names line)

  abbrev text : List ℕ
  text = counts_text (names line) genes count species

  -- the tree that the text draws
  abbrev tree : Tree
  tree = counted (weight_in genes count) (drawn (listed species) (largest species))

  -- its record is the species record
  own_record : record_of (clusters tree) ≡ species
  own_record =
      let v = in_order_gene line good o in
      ap record_of (bearing-clusters (count_behind (weight_in genes count)) (drawn (listed species) (largest species)))
      ∙ drawn_record v.valid (gene-small (good-names line good).few v)

  -- its counts are right
  own-counts : first_wrong (weight_in genes count) (clusters tree) (ends_from (length (clusters tree)) (drop 0 text) 0) ≡ None
  own-counts =
      let behind = count_behind (weight_in genes count) in
      let drawn-tree = drawn (listed species) (largest species) in
      let same = bearing-clusters behind drawn-tree in
      let many : length (all_nodes tree) ≡ length (clusters tree) = bearing_many behind drawn-tree ∙ ap length (sym same) in
      let ends = (answer_ends Species None line text 0 (text-read line good o)).1 in
      subst (λ (m : ℕ). first_wrong (weight_in genes count) (clusters tree) (ends_from m (drop 0 text) 0) ≡ None) many
      (none_wrong (weight_in genes count) (clusters tree) _ (λ a m. let s = in_order_small line good o a in omega arith)
      (ends.behind ∙ bearing-behinds behind drawn-tree ∙ ap (map behind) (sym same)))

  -- its distance is that of the species record
  own-distance : distance n (records_in count genes) tree ≡ score Rooted (records_in count genes) species - least_score n (records_in count genes)
  unfolding distance
  own-distance = ap (λ (r : List ℕ). score Rooted (records_in count genes) r - least_score n (records_in count genes)) own_record

  -- the text is passed, with the distance of the score above the least one
  pub text-passed :
      {scores splits scores_after splits_after : List ℕ} {r : Reply} → 2 ^ n ≤ length scores → 2 ^ n ≤ length splits
      → Checks line text 0 genes count scores splits r scores_after splits_after
      → r ≡ done (score Rooted (records_in count genes) species - least_score n (records_in count genes))
  text-passed {scores} {splits} long-scores long-splits c =
      let passed : DrawnPassed n genes count (record_of (clusters tree)) scores splits = record {
        in_order = o.trees;
        scores_fit = long-scores;
        splits_fit = long-splits;
        is_binary = (binary_decides (whole n) (record_of (clusters tree))).told (rw own_record o.binary);
      } in
      let said-none : said_of line text 0 genes count scores splits ≡ said 0 0
      = said_as line text 0 genes count scores splits (text-read line good o) ∙ passed_on n genes count (record_of (clusters tree)) scores splits passed _ ∙ counts_none own-counts in
      c.reply ∙ rw said-none (ap (λ (a : Answer Tree). done (distance_of n (records_in count genes) a)) (text-read line good o)) ∙ ap (λ (d : ℕ). done d) own-distance

-- "always passed" (#114): whatever `write_counts` has written
pub always_passed :
    {line genes : List ℕ} {count : ℕ} {species out after scores splits scores_after splits_after : List ℕ} {q r : Reply}
    → WritesCounts line genes count species out q after → q.number ≡ 0 → 2 ^ length (names line) ≤ length scores → 2 ^ length (names line) ≤ length splits
    → Checks line (take q.value after) 0 genes count scores splits r scores_after splits_after
    → (r.number ≡ 0) × (r.value ≡ score Rooted (records_in count genes) species - least_score (length (names line)) (records_in count genes))
always_passed {line} w z long-scores long-splits c =
    let wrote = counts_zero w z in
    let passed = text-passed line wrote.good wrote.in_order long-scores long-splits (rw (counts_there wrote) at c) in
    (ap (λ (r : Reply). r.number) passed, ap (λ (r : Reply). r.value) passed)
