-- A text that draws a binary tree on the roster: how it is read, what is said of its counts, and that no other text is said yes to or refused by 23.
use Prim.Native.Nat.{ℕ, zero, suc, ◌+◌, ◌-◌, ◌*◌, ◌≤◌}
use native.Mathlib.Omega.{arith}
use mathlib.Core.Path.{◌≡◌, refl, sym, ap, ◌∙◌, subst}
use mathlib.Core.Logic.{◌⊎◌, inl, inr}
use mathlib.Core.Bool.{false, false≢true}
use mathlib.Core.List.{List, [], ◌∷◌, map}
use lib.ListN.{length, drop}
use Rattle.clusters.specs.Sets.{whole, size}
use Rattle.trees.specs.Tree.{Tree, cluster, clusters, On}
use Rattle.trees.specs.Thinned.{all_nodes}
use Rattle.trees.specs.Records.{record_of, BinaryOn}
use Rattle.trees.proofs.Counts.{clusters_of_binary, binary_of_clusters}
use Rattle.trees.proofs.LostNodes.{nodes-clusters}
use Rattle.trees.proofs.Recorded.{count_record, valid_of_drawn}
use Rattle.trees.proofs.Bounds.{whole_below_sixteen}
use Rattle.trees.proofs.ValidTest.{binary_decides}
use Rattle.roster.specs.Roster.{names}
use Rattle.roster.specs.Judged.{species_most}
use Rattle.roster.specs.Verdict.{Test, Verdict, verdict, length_test}
use Rattle.roster.proofs.Names.{names-count}
use Rattle.tokens.specs.Answers.{Answer}
use Rattle.tokens.specs.Answers.Answer.{parsed, refused}
use Rattle.std.proofs.Common.{None}
use Rattle.nodes.proofs.RefusedBy.{tree-numbered}
use Rattle.reader.specs.Accepted.{Draws}
use Rattle.nodes.specs.Reading.{open_most}
use Rattle.reader.specs.Promise.{narrow, answer_to, needed}
use Rattle.reader.specs.declared.Kind.TheVariants.{Species}
use Rattle.reader.proofs.Accepts.{accepted-derives, derives-accepted}
use Rattle.reader.proofs.Replies.{refusal_is, refusal_some}
use Rattle.branches.specs.Ends.{behinds_of, ends_from}
use Rattle.branches.proofs.DrawnEnds.{EndsOf, draws_ends}
use Rattle.lineages.specs.Checks.{count_test, records_test}
use Rattle.lineages.proofs.Verdicts.{verdict_first}
use Rattle.search.specs.Candidates.{BinarySpecies}
use Rattle.lineages.proofs.Verdicts.{NoneGives, verdict-never}
use Rattle.counts.specs.Promise.{weight_in, first_wrong, counts_test, check_verdict}
use Rattle.counts.specs.Work.{call_tests}
use Rattle.counts.specs.Passes.{CallInOrder, DrawsBinary}
use Rattle.counts.proofs.CallFaults.{passed_of, passed_on, drawn_tests, DrawnPassed}
use Rattle.counts.proofs.Checking.{nodes_many, said_of, wrong_in, said_as}
use Rattle.counts.proofs.FirstWrong.{Beside, ends_beside}

-- species text is refused by 1 to 10
pub text-refused : (line text : List ℕ) (start : ℕ) {n p : ℕ} → answer_to Species None line text start ≡ refused n p → (1 ≤ n) × (n ≤ 10)
text-refused line text start {n} e = (
  refusal_some narrow Species None line text start e,
  refusal_is (λ k. k ≤ 10) (omega arith) (omega arith) (omega arith) narrow Species None line text start
      (λ r.
      let of = tree-numbered false (names line) open_most (needed Species (length (names line))) (drop start text) start r in
      of.1 (λ z. false≢true (of.2 z))) e,
)

-- a record of a binary tree, told by the tree
binary_record : {s : ℕ} {t : Tree} → On s t → BinaryOn s (record_of (clusters t)) → length (clusters t) + 1 ≡ 2 * size s
binary_record {t = t} on is = rw (count_record 16 (clusters t)) at is

-- no test of the call has the number 23
call-never : (n : ℕ) (genes : List ℕ) (count : ℕ) (numbers scores splits : List ℕ) → (verdict (drawn_tests n genes count numbers scores splits)).number ≡ 23 → ⊥
unfolding call_tests count_test length_test records_test NoneGives
call-never n genes count numbers scores splits e =
    verdict-never 23 (drawn_tests n genes count numbers scores splits) (λ z. omega arith)
    (λ z. omega arith, (λ z. omega arith, (λ z. omega arith, (λ z. omega arith, (λ z. omega arith, (λ z. omega arith, tt)))))) e

module _ (line text : List ℕ) (start : ℕ) where
  abbrev species : ℕ
  species = length (names line)

  -- ---- how such a text is read

  module _ (d : DrawsBinary line text start) where
    abbrev as_drawn : Draws Species None line text start d.tree d.rest
    as_drawn = record { good = d.good; short = d.short; inside = d.inside; derives = d.derives; once = d.on.once; species = d.on.all }

    pub read_as : answer_to Species None line text start ≡ parsed d.tree d.rest (length text - length d.rest)
    read_as = derives-accepted Species None line text start as_drawn

    -- its tree is one of the binary species trees
    pub drawn-species : BinarySpecies species (record_of (clusters d.tree))
    drawn-species = record {
      valid = valid_of_drawn d.on (whole_below_sixteen species (names-count species_most line d.good).1);
      binary = rw (count_record 16 (clusters d.tree)) (clusters_of_binary d.on d.binary);
    }

    -- its nodes, the texts behind them and their ends go side by side
    pub drawn-beside : Beside (length text) (all_nodes d.tree) (behinds_of d.derives) (ends_from (length (clusters d.tree)) (drop start text) start)
    drawn-beside =
        let ends : EndsOf (length text) (all_nodes d.tree) (behinds_of d.derives) (ends_from (length (all_nodes d.tree)) (drop start text) start)
        = draws_ends Species None line text start as_drawn in
        ends_beside (length text)
        (subst (λ (m : ℕ). EndsOf (length text) (all_nodes d.tree) (behinds_of d.derives) (ends_from m (drop start text) start)) (nodes_many d.tree) ends)

    module _ (genes : List ℕ) (count : ℕ) (scores splits : List ℕ) (order : CallInOrder line genes count scores splits) where
      call-passed : DrawnPassed species genes count (record_of (clusters d.tree)) scores splits
      call-passed = record {
        in_order = order.genes_in_order;
        scores_fit = order.scores_fit;
        splits_fit = order.splits_fit;
        is_binary = (binary_decides (whole species) (record_of (clusters d.tree))).told drawn-species.binary;
      }

      -- what is said of it is what is said of its counts
      pub drawn-said :
          said_of line text start genes count scores splits
          ≡ verdict (counts_test
          (first_wrong (weight_in genes count) (map cluster (all_nodes d.tree)) (ends_from (length (clusters d.tree)) (drop start text) start)) ∷ [])
      drawn-said =
          rw (nodes-clusters d.tree)
          (said_as line text start genes count scores splits read_as ∙ passed_on species genes count (record_of (clusters d.tree)) scores splits call-passed _)

  -- ---- which texts come so far

  module _ (genes : List ℕ) (count : ℕ) (scores splits : List ℕ) where
    -- what is said of the text has no number of a test before the counts
    abbrev Late : Type 0
    Late = ((said_of line text start genes count scores splits).number ≡ 0) ⊎ ((said_of line text start genes count scores splits).number ≡ 23)

    -- it is no refusal of the reader
    late-read : {n p : ℕ} → answer_to Species None line text start ≡ refused n p → Late → ⊥
    unfolding check_verdict
    late-read {n} e (inl z) = let few = text-refused line text start e in let is : n ≡ 0 = rw e at z in omega arith
    late-read {n} e (inr z) = let few = text-refused line text start e in let is : n ≡ 23 = rw e at z in omega arith

    -- and none of the call
    late-passed :
        {t : Tree} {rest : List ℕ} {next : ℕ} → answer_to Species None line text start ≡ parsed t rest next → Late
        → (verdict (drawn_tests species genes count (record_of (clusters t)) scores splits)).number ≡ 0
    late-passed {t} e late = go (verdict calls).number refl late
      where
        calls : List Test
        calls = drawn_tests species genes count (record_of (clusters t)) scores splits

        same : ((verdict calls).number ≡ 0 → ⊥) → (said_of line text start genes count scores splits).number ≡ (verdict calls).number
        same f =
            ap (λ (v : Verdict). v.number)
            (said_as line text start genes count scores splits e ∙ verdict_first calls (counts_test (wrong_in text start genes count t) ∷ []) refl f)

        go : (k : ℕ) → (verdict calls).number ≡ k → Late → (verdict calls).number ≡ 0
        go zero z l = z
        go (suc k) z (inl y) = sym (same (λ x. omega arith)) ∙ y
        go (suc k) z (inr y) = absurd (call-never species genes count (record_of (clusters t)) scores splits (sym (same (λ x. omega arith)) ∙ y))

    -- so it draws a binary tree, and the call is in order
    pub drawn_of :
        ((said_of line text start genes count scores splits).number ≡ 0) ⊎ ((said_of line text start genes count scores splits).number ≡ 23)
        → DrawsBinary line text start × CallInOrder line genes count scores splits
    drawn_of late = by (answer_to Species None line text start) refl
      where
        by : (a : Answer Tree) → answer_to Species None line text start ≡ a → DrawsBinary line text start × CallInOrder line genes count scores splits
        by (refused n p) e = absurd (late-read e late)
        by (parsed t rest next) e =
            let d = (accepted-derives Species None line text start e).draws in
            let few = names-count species_most line d.good in
            let p = passed_of species genes count (record_of (clusters t)) scores splits few.0 few.1 (late-passed e late) in
            let on : On (whole species) t = record { once = d.once; all = d.species } in (
              record {
                good = d.good;
                short = d.short;
                inside = d.inside;
                tree = t;
                rest = rest;
                derives = d.derives;
                on = on;
                binary = binary_of_clusters on (binary_record on ((binary_decides (whole species) (record_of (clusters t))).holds p.is_binary));
              },
              record { genes_in_order = p.in_order; scores_fit = p.scores_fit; splits_fit = p.splits_fit },
            )
