-- The promise of `check`, one law for each way: the text is not read, the call or a count is refused, or all is right.
use Prim.Native.Nat.{ℕ, ◌-◌}
use native.Mathlib.Omega.{arith}
use mathlib.Core.Path.{◌≡◌, refl, sym, ap, ◌∙◌, subst}
use mathlib.Core.Bool.{false}
use Rattle.std.proofs.Common.{Option, Some, None, Result, Ok, Err}
use Rattle.faults.specs.Faults.{number as fault_number}
use Rattle.faults.specs.declared.Refusal.{Refusal}
use mathlib.Core.List.{List, [], ◌∷◌, ◌++◌}
use lib.ListN.{length, take, drop, replicate, length-map}
use Rattle.clusters.specs.Sets.{whole}
use Rattle.trees.specs.Tree.{Tree, cluster, clusters}
use Rattle.trees.specs.Thinned.{all_nodes}
use Rattle.trees.specs.Records.{records_in, record_of, count as cluster_count}
use Rattle.trees.proofs.LostNodes.{nodes-clusters}
use Rattle.trees.proofs.ValidTest.{binary_decides}
use Rattle.roster.specs.Roster.{names, faulty}
use Rattle.roster.specs.Judged.{species_most, Judged, done, refused_by, reply_to}
use Rattle.roster.specs.Verdict.{Verdict, verdict, said_by}
use Rattle.roster.specs.declared.Reply.{Reply}
use Rattle.roster.proofs.Names.{names-count}
use Rattle.tokens.specs.Answers.{Answer}
use Rattle.tokens.specs.Answers.Answer.{parsed, refused}
use Rattle.reader.specs.Promise.{answer_to, reading_by, Reads, Stores}
use Rattle.reader.specs.declared.Kind.TheVariants.{Species}
use Rattle.reader.specs.declared.Reading.{Reading}
use Rattle.reader.proofs.Replies.{WasRead, stored-clusters, read-species-valid}
use Rattle.branches.specs.Ends.{ends_from}
use Rattle.branches.proofs.DrawnEnds.{answer_ends}
use Rattle.lineages.specs.Work.{said}
use Rattle.lineages.proofs.Calls.{refused-reply, done_reply}
use Rattle.lineages.proofs.Verdicts.{numbered, refused_first}
use Rattle.weights.specs.Count.{score}
use Rattle.weights.specs.declared.Rooting.TheVariants.{Rooted}
use Rattle.search.specs.Candidates.{BinarySpecies}
use Rattle.search.proofs.Finding.{refused-kept}
use Rattle.counts.specs.Promise.{weight_in, least_score, distance, first_wrong, drawn_test, counts_test, check_tests, check_verdict, distance_of, Checks}
use Rattle.counts.specs.Work.{AllEnd, CountsJudged, call_tests, CallJudged, DrawnJudged, Distances}
use Rattle.counts.proofs.CallFaults.{passed_of, passed_on, drawn_tests, DrawnPassed}

-- a good roster is judged with the number of its names
pub judged-names : (line : List ℕ) (q : Reply) → faulty species_most line ≡ false → Judged line q → q.value ≡ length (names line)
unfolding Judged
judged-names line q good judged = rw (judged, good)

-- as many nodes as clusters
pub nodes_many : (t : Tree) → length (all_nodes t) ≡ length (clusters t)
nodes_many t = sym (length-map (all_nodes t) cluster) ∙ ap length (nodes-clusters t)

-- without 23 there is no wrong count, and the other way
pub counts-pass : (o : Option ℕ) → (verdict (counts_test o ∷ [])).number ≡ 0 → o ≡ None
unfolding verdict
counts-pass (Some place) z = absurd (omega arith)
counts-pass None z = refl

pub counts_none : {o : Option ℕ} → o ≡ None → verdict (counts_test o ∷ []) ≡ said 0 0
unfolding verdict
counts_none is = rw is

-- ---- a text that is read

module _ {line text : List ℕ} {start : ℕ} {q : Reading} (w : WasRead Species None line text start q) where
  -- at the front of the table stand its clusters, in the order in which the nodes end
  pub front_is : (found : List ℕ) → Stores None (answer_to Species None line text start) found → take (cluster_count q.numbers) found ≡ clusters w.tree
  front_is found stores = stored-clusters Species None line text start w found stores

  -- and each of its nodes ends
  pub all_end : {front : List ℕ} → front ≡ clusters w.tree → AllEnd (length front) text start
  unfolding AllEnd
  all_end front =
      let ends = (answer_ends Species None line text start w.answered).1.many in
      rw front (subst (λ (m : ℕ). length (ends_from m (drop start text) start) ≡ m) (nodes_many w.tree) ends)

-- the first wrong count of a tree that the text draws
abbrev pub wrong_in : List ℕ → ℕ → List ℕ → ℕ → Tree → Option ℕ
wrong_in text start genes count t = first_wrong (weight_in genes count) (clusters t) (ends_from (length (clusters t)) (drop start text) start)

-- ---- the ways

module _ (line text : List ℕ) (start : ℕ) (genes : List ℕ) (count : ℕ) (scores splits : List ℕ) where
  -- what is said of the text
  abbrev pub said_of : Verdict
  said_of = check_verdict line text start genes count scores splits (answer_to Species None line text start)

  -- what is said of a text that is read: the tests of the call, then those of the counts
  pub said_as : {t : Tree} {rest : List ℕ} {next : ℕ} → answer_to Species None line text start ≡ parsed t rest next
      → said_of ≡ verdict (drawn_tests (length (names line)) genes count (record_of (clusters t)) scores splits ++ (counts_test (wrong_in text start genes count t) ∷ []))
  unfolding check_verdict check_tests drawn_test call_tests
  said_as answered = rw answered

  -- a refusal: both tables as they were lent
  refuses : {s p : List ℕ} (e : Refusal) → said_of ≡ said (fault_number e.fault) e.place → s ≡ scores → p ≡ splits
      → Checks line text start genes count scores splits (refused_by e) s p
  refuses e is same same' = record {
    reply = refused-reply _ (fault_number e.fault) is (numbered e.fault);
    score_table = same ∙ rw is (refused-kept (fault_number e.fault) (length (names line)) (numbered e.fault) _ scores);
    split_table = same' ∙ rw is (refused-kept (fault_number e.fault) (length (names line)) (numbered e.fault) _ splits);
  }

  -- the reader's own
  pub unread : {s p : List ℕ} (e : Refusal) → Reads Species None line text start (reading_by start (Err e)) → s ≡ scores → p ≡ splits
      → Checks line text start genes count scores splits (refused_by e) s p
  unfolding Reads check_verdict
  unread {s} {p} e reads same same' = by (answer_to Species None line text start) refl
    where
      by : (a : Answer Tree) → answer_to Species None line text start ≡ a → Checks line text start genes count scores splits (refused_by e) s p
      by (parsed t rest next) a = absurd (numbered e.fault (ap (λ (q : Reading). q.number) (rw a at reads)))
      by (refused number place) a =
          let q : reading_by start (Err e) ≡ record { number = number; place = place; next = start; numbers = replicate 32 0 } = rw a at reads in
          refuses e (rw a (sym (ap (λ (q : Reading). said q.number q.place) q))) same same'

  module _ {q : Reading} (w : WasRead Species None line text start q) where
    told : said_of ≡ verdict (drawn_tests (length (names line)) genes count q.numbers scores splits ++ (counts_test (wrong_in text start genes count w.tree) ∷ []))
    told = rw w.recorded (said_as w.answered)

    pub call-wrong :
        {s p : List ℕ} (e : Refusal) → DrawnJudged (length (names line)) genes count q.numbers scores splits (Err e) → s ≡ scores → p ≡ splits
        → Checks line text start genes count scores splits (refused_by e) s p
    unfolding CallJudged
    call-wrong e call = refuses e (told ∙ refused_first (drawn_tests (length (names line)) genes count q.numbers scores splits) _ e call)

    pub call_right :
        DrawnJudged (length (names line)) genes count q.numbers scores splits (Ok tt) → DrawnPassed (length (names line)) genes count q.numbers scores splits
    unfolding CallJudged
    call_right call =
        let few = names-count species_most line w.good in
        passed_of (length (names line)) genes count q.numbers scores splits few.0 few.1 (sym (ap (λ (v : Verdict). v.number) call))

    module _ (passed : DrawnPassed (length (names line)) genes count q.numbers scores splits) where
      -- the tree is one of the binary species trees
      pub drawn-binary : Reads Species None line text start q → q.number ≡ 0 → BinarySpecies (length (names line)) q.numbers
      drawn-binary reads z = record {
        valid = read-species-valid None line text start q reads z;
        binary = (binary_decides (whole (length (names line))) q.numbers).holds passed.is_binary;
      }

      counts-told : said_of ≡ verdict (counts_test (wrong_in text start genes count w.tree) ∷ [])
      counts-told = told ∙ passed_on (length (names line)) genes count q.numbers scores splits passed (counts_test (wrong_in text start genes count w.tree) ∷ [])

      module _ {front : List ℕ} (is : front ≡ clusters w.tree) where
        compared_as : (r : Result (Unit {0}) Refusal) → CountsJudged text start genes count front r → said_by r ≡ said_of
        unfolding CountsJudged
        compared_as r counts = rw is at counts ∙ sym counts-told

        pub counts-wrong :
            {s p : List ℕ} (e : Refusal) → CountsJudged text start genes count front (Err e) → s ≡ scores → p ≡ splits
            → Checks line text start genes count scores splits (refused_by e) s p
        counts-wrong e counts = refuses e (sym (compared_as _ counts))

        pub counts_right :
            {s p : List ℕ} {d : Result ℕ Refusal} → CountsJudged text start genes count front (Ok tt)
            → Distances (length (names line)) genes count q.numbers scores splits d s p → Checks line text start genes count scores splits (reply_to d) s p
        unfolding distance
        counts_right counts far =
            let none : said_of ≡ said 0 0 = sym (compared_as _ counts) in
            let value : score Rooted (records_in count genes) q.numbers - least_score (length (names line)) (records_in count genes)
            ≡ distance_of (length (names line)) (records_in count genes) (answer_to Species None line text start)
            = rw (w.recorded, w.answered) in
            record {
              reply = ap reply_to far.value ∙ ap (λ (v : ℕ). done v) value ∙ done_reply _ none;
              score_table = far.score_table ∙ rw none;
              split_table = far.split_table ∙ rw none;
            }
