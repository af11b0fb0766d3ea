-- What stands in the table when a tree is answered, and what the reply of either width says by it.
use Prim.Native.Nat.{ℕ, ◌+◌, ◌*◌, ◌^◌, ◌≤◌, ◌<◌}
use native.Mathlib.Omega.{arith}
use mathlib.Core.Path.{◌≡◌, sym, ap, ◌∙◌}
use mathlib.Core.List.{List}
use lib.ListN.{length, get_or, take, drop}
use lib.Seq.{length-sets, length-take-le}
use lib.Pow.{pow_mono}
use Rattle.std.specs.Prelude.{Result, Ok, Err, None, Some}
use Rattle.clusters.proofs.Sizes.{size-le}
use Rattle.trees.specs.Tree.{Tree, cluster}
use Rattle.trees.specs.Records.{record_of, record_for}
use Rattle.trees.proofs.Stores.{get_or-sets, take-sets}
use Rattle.roster.specs.Roster.{names}
use Rattle.roster.proofs.Names.{names-count}
use Rattle.tokens.specs.Answers.{Answer}
use Rattle.tokens.specs.Answers.Answer.{parsed}
use Rattle.tokens.specs.Says.{refusal}
use Rattle.faults.specs.declared.Refusal.{Refusal}
use Rattle.tokens.specs.Supports.{is_given, Threshold}
use Rattle.nodes.specs.Core.{left_in, NodeReads}
use Rattle.nodes.specs.declared.answer.Cursor.{Cursor}
use Rattle.nodes.specs.declared.answer.Node.{Node}
use Rattle.nodes.proofs.Answers.{refused-parsed}
use Rattle.nodes.proofs.Growth.{Fresh}
use Rattle.nodes.proofs.LeftClusters.{left_at_root, left_without, left_fresh}
use Rattle.nodes.proofs.NodeAnswers.{refused-node, TreeRead, read-node}
use Rattle.reader.specs.Work.{ReadsAnswer}
use Rattle.reader.specs.Promise.{Limits, narrow, needed, clusters_read, reading_of, answer_within, answer_to, Reads, Stores}
use Rattle.reader.specs.WidePromise.{wide, wide_reading_of, ReadsWide}
use Rattle.reader.specs.declared.Kind.{Kind}
use Rattle.reader.specs.declared.Kind.TheVariants.{Gene}
use Rattle.reader.specs.declared.Reading.{Reading}
use Rattle.reader.specs.declared.wide.WideReading.{WideReading}
use Rattle.reader.proofs.Accepts.{answer-read}
use Rattle.reader.proofs.TreeWays.{tree-fresh}

-- what is left in the table are the clusters that the tree is read to
left_read : (threshold : Threshold) (t : Tree) → left_in None threshold t ≡ clusters_read threshold t
left_read None t = left_at_root None t ∙ left_without t
left_read (Some amount) t = left_at_root (Some amount) t

-- a tree is answered, and the clusters that it is read to stand at the front of the table: few enough for a record, and none too large
pub record Stored (limits : Limits) (kind : Kind) (threshold : Threshold) (line text : List ℕ) (start : ℕ) (found : List ℕ) (next : Cursor) : Type 0 where
  pub tree : Tree
  pub answered : answer_within limits kind threshold line text start ≡ parsed tree (drop next.at text) next.at
  pub few : next.stored + 1 ≤ 2 * limits.most
  pub within : next.stored ≤ length found
  pub small : (i : ℕ) → i < next.stored → get_or found i 0 < 2 ^ limits.most
  pub front : take next.stored found ≡ clusters_read threshold tree

module _ (limits : Limits) (kind : Kind) (threshold : Threshold) (line text : List ℕ) (start : ℕ) (before found : List ℕ) (r : Result Node Refusal)
    (reads : ReadsAnswer limits kind threshold line text start before found r) where
  abbrev answer : Answer Tree
  answer = answer_within limits kind threshold line text start

  node-reads : NodeReads None threshold text 0 0 before found answer r
  unfolding ReadsAnswer
  node-reads = reads

  -- a refusal that is passed on is the answer
  pub answer-refused : (e : Refusal) → r ≡ Err e → answer ≡ refusal e
  answer-refused e told = sym (refused-node None threshold text 0 0 before found answer r e node-reads told)

  module _ (read : Node) (told : r ≡ Ok read) (room : 2 * limits.most ≤ length before) where
    open read use {mask, next}

    read-tree : TreeRead None threshold text 0 0 before found answer mask next
    read-tree = read-node None threshold text 0 0 before found answer r mask next node-reads told

    abbrev left : List ℕ
    left = left_in None threshold read-tree.tree

    stored_is : next.stored ≡ length left
    stored_is = let s = read-tree.stored_is in omega arith

    fresh : Fresh (length (names line)) 0 (cluster read-tree.tree) left
    fresh =
        let a = answer-read kind threshold line text start read-tree.answered in
        left_fresh None threshold read-tree.tree
        (tree-fresh (is_given threshold) (names line) limits.room (needed kind (length (names line))) (drop start text) start a.read)

    few_names : length (names line) ≤ limits.most
    few_names = (names-count limits.most line (answer-read kind threshold line text start read-tree.answered).good).1

    stored_few : next.stored + 1 ≤ 2 * limits.most
    stored_few = let f = fresh in omega (arith, size-le (length (names line)) f.below, f.counted, stored_is, few_names)

    fits : length left ≤ length before
    fits = omega (arith, stored_few, stored_is)

    pub stored-front : Stored limits kind threshold line text start found next
    stored-front =
        record {
          tree = read-tree.tree;
          answered = read-tree.answered;
          few = stored_few;
          within = rw (read-tree.table_is, length-sets before 0 left) (omega (arith, fits, stored_is));
          small = λ i h.
              let l : i < length left = omega (arith, stored_is) in
              let top : 2 ^ length (names line) ≤ 2 ^ limits.most = pow_mono few_names in
              rw (read-tree.table_is, get_or-sets before left i fits l) (omega (arith, fresh.each i l));
          front =
              ap (λ (n : ℕ). take n found) stored_is
              ∙ (ap (λ (l : List ℕ). take (length left) l) read-tree.table_is ∙ take-sets before left fits)
              ∙ left_read threshold read-tree.tree;
        }

-- ---- the replies

module _ (kind : Kind) (threshold : Threshold) (line text : List ℕ) (start : ℕ) (found : List ℕ) where
  -- the reading is what is answered, and where a tree is, its clusters stand in the table
  abbrev ReadsInto : Reading → Type 0
  ReadsInto r = Reads kind threshold line text start r × Stores threshold (answer_to kind threshold line text start) found

  pub reading_refused :
      (e : Refusal) (r : Reading) → answer_to kind threshold line text start ≡ refusal e → r ≡ reading_of threshold start (refusal e) → ReadsInto r
  unfolding Reads Stores
  reading_refused e r answered is = (rw answered is, λ t rest next e. absurd (refused-parsed (sym answered ∙ e)))

  pub reading_recorded :
      (next : Cursor) → Stored narrow kind threshold line text start found next → (numbers : List ℕ) → numbers ≡ record_of (take next.stored found)
      → ReadsInto (record { number = 0; place = 0; next = next.at; numbers = numbers })
  unfolding Reads Stores
  reading_recorded next s numbers is = (
    rw (s.answered, is, s.front),
    λ t rest q e.
        let same : t ≡ s.tree = cc (e, s.answered) in
        let many : length (clusters_read threshold s.tree) ≡ next.stored = ap length (sym s.front) ∙ length-take-le next.stored found s.within in
        rw same (ap (λ (n : ℕ). take n found) many ∙ s.front),
  )

-- the same of a wide reply
module _ (individuals text : List ℕ) (start : ℕ) where
  pub wide-refused :
      (e : Refusal) (r : WideReading) → answer_within wide Gene None individuals text start ≡ refusal e
      → r ≡ wide_reading_of start (refusal e) → ReadsWide individuals text start r
  unfolding ReadsWide
  wide-refused e r answered is = rw answered is

  pub wide-recorded :
      (found : List ℕ) (next : Cursor) → Stored wide Gene None individuals text start found next
      → (numbers : List ℕ) → numbers ≡ record_for 32 (take next.stored found)
      → ReadsWide individuals text start (record { number = 0; place = 0; next = next.at; numbers = numbers })
  unfolding ReadsWide
  wide-recorded found next s numbers is = rw (s.answered, is, s.front)
