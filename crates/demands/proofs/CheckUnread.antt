-- What `check` and `write_counts` do not look at (#114): bytes that do not decide how the text is read, and entries beyond the need.
use Prim.Native.Nat.{ℕ, ◌-◌, ◌*◌, ◌^◌, ◌≤◌}
use mathlib.Core.Path.{◌≡◌, refl, sym, ap, ap₂, ◌∙◌, subst}
use mathlib.Core.Logic.{◌↔◌}
use mathlib.Core.Bool.{false}
use mathlib.Core.List.{List}
use native.Mathlib.Omega.{arith}
use lib.ListN.{length, take, drop, length-take, length-replicate, get_or-replicate}
use Rattle.clusters.proofs.Sets.{whole_below}
use Rattle.trees.specs.Tree.{Tree, clusters}
use Rattle.trees.specs.Thinned.{all_nodes}
use Rattle.trees.specs.Records.{records_in}
use Rattle.trees.proofs.Lent.{records-needed}
use Rattle.roster.specs.Roster.{names}
use Rattle.roster.specs.Verdict.{length_test, reply_of}
use Rattle.roster.specs.declared.Reply.{Reply}
use Rattle.std.proofs.Common.{None}
use Rattle.tokens.specs.Answers.{Answer}
use Rattle.tokens.specs.Answers.Answer.{parsed, refused}
use Rattle.nodes.specs.Grammar.{strict, Text}
use Rattle.nodes.specs.Reading.{open_most}
use Rattle.reader.specs.Promise.{text_most, reading_of, answer_to, Reads}
use Rattle.reader.specs.declared.Kind.TheVariants.{Species}
use Rattle.reader.specs.declared.Reading.{Reading}
use Rattle.reader.proofs.Accepts.{accepted-derives}
use Rattle.branches.specs.Ends.{End, ends_from}
use Rattle.texts.specs.Writing.{count_note, written_with}
use Rattle.weights.specs.Count.{weight}
use Rattle.weights.specs.declared.Rooting.TheVariants.{Rooted}
use Rattle.terms.proofs.AllMarked.{all_judged}
use Rattle.search.specs.Candidates.{SameTable}
use Rattle.search.proofs.Unread.{both_fit}
use Rattle.terms.specs.Allowed.{every_cluster}
use Rattle.counts.specs.Promise.{weight_in, check_tests, check_verdict, distance_of, Checks, counts_text, write_counts_tests, WritesCounts}
use Rattle.counts.proofs.Checking.{nodes_many}
use Rattle.counts.proofs.Nearest.{yes_tables}
use Rattle.demands.specs.BranchCounts.{OverAllClusters}
use Rattle.demands.specs.Deciding.{SameBytes, Agree}
use Rattle.demands.specs.Lots.{Searched}
use Rattle.demands.proofs.FirstDemand.{replies_find}
use Rattle.demands.proofs.TextFaults.{fault_of_refusal, plain-fault-numbers}
use Rattle.demands.proofs.Locality.{before_the_rests, tree_is_local, reading_is_local}
use Rattle.demands.proofs.EndsElsewhere.{ends_elsewhere}
use Rattle.demands.proofs.BranchCounts.{yes_exactly_when, as_searched_lem}

-- ---- texts that are read alike

-- both are refused alike, or both draw one tree, whose nodes end at the same places with the same written behind them
data Alike (text text' : List ℕ) (start : ℕ) : Answer Tree → Answer Tree → Type 0 where
  both_refused : {number place : ℕ} → Alike text text' start (refused number place) (refused number place)
  both_drawn :
      {t : Tree} {rest rest' : List ℕ} {next next' : ℕ}
      → ends_from (length (clusters t)) (drop start text) start ≡ ends_from (length (clusters t)) (drop start text') start
      → Alike text text' start (parsed t rest next) (parsed t rest' next')

-- a text and itself
self_alike : (text : List ℕ) (start : ℕ) (a : Answer Tree) → Alike text text start a a
self_alike text start (parsed t rest next) = both_drawn refl
self_alike text start (refused number place) = both_refused

-- the ends of a tree are decided by its bytes
ends_local :
    (line text text' : List ℕ) (start : ℕ) {t : Tree} {rest : List ℕ} {next : ℕ}
    → answer_to Species None line text start ≡ parsed t rest next → SameBytes text text' start (next - start)
    → ends_from (length (clusters t)) (drop start text) start ≡ ends_from (length (clusters t)) (drop start text') start
ends_local line text text' start {t} {rest} {next} h agree =
    let a = accepted-derives Species None line text start h in
    let u = take (next - start) (drop start text) in
    let before = before_the_rests text text' start a.place agree in
    let derives = subst (λ (l : List ℕ). Text (strict false (names line)) open_most l t rest) before.0 a.draws.derives in
    let same = ends_elsewhere false (names line) u rest (drop (next - start) (drop start text')) start derives in
    let from : List ℕ → List End = λ l. ends_from (length (all_nodes t)) l start in
    subst (λ (m : ℕ). ends_from m (drop start text) start ≡ ends_from m (drop start text') start) (nodes_many t)
    (ap from before.0 ∙ same ∙ sym (ap from before.1))

-- so texts that agree on the bytes that decide a reading are read alike
agree-alike :
    (line text text' : List ℕ) (start : ℕ) (q : Reading) → Reads Species None line text start q → length text ≤ text_most → length text' ≤ text_most
    → Agree text text' start q → Alike text text' start (answer_to Species None line text start) (answer_to Species None line text' start)
unfolding Reads
agree-alike line text text' start q reads short short' agree = by (answer_to Species None line text start) refl
  where
    again : q ≡ reading_of None start (answer_to Species None line text' start)
    again = reading_is_local Species None line text text' start q _ short short' reads refl agree

    refused-again :
        {number place : ℕ} → 1 ≤ number → q ≡ reading_of None start (refused number place) → (a : Answer Tree) → q ≡ reading_of None start a
        → Alike text text' start (refused number place) a
    refused-again some is (parsed t rest next) same =
        absurd (omega (arith, sym (ap (λ (r : Reading). r.number) is) ∙ ap (λ (r : Reading). r.number) same))
    refused-again {number} {place} some is (refused k p) same =
        let numbers : number ≡ k = sym (ap (λ (r : Reading). r.number) is) ∙ ap (λ (r : Reading). r.number) same in
        let places : place ≡ p = sym (ap (λ (r : Reading). r.place) is) ∙ ap (λ (r : Reading). r.place) same in
        rw (numbers, places) both_refused

    by : (a : Answer Tree) → answer_to Species None line text start ≡ a → Alike text text' start a (answer_to Species None line text' start)
    by (refused number place) e =
        let some = (plain-fault-numbers (fault_of_refusal Species None line text start number place e)).0 in
        refused-again some (reads ∙ ap (reading_of None start) e) (answer_to Species None line text' start) again
    by (parsed t rest next) e =
        let is = reads ∙ ap (reading_of None start) e in
        let bytes : SameBytes text text' start (next - start)
        = subst (λ (m : ℕ). SameBytes text text' start (m - start)) (ap (λ (r : Reading). r.next) is) (agree.tree (ap (λ (r : Reading). r.number) is)) in
        let drawn = tree_is_local Species None line text text' start e short' bytes in
        rw drawn.1 (both_drawn (ends_local line text text' start e bytes))

-- ---- two calls that agree on what is read

-- gene entries that agree as far as they are needed: the same records, and as many of them or too few in both
module _ (count : ℕ) (genes genes' : List ℕ) (same : take (32 * count) genes ≡ take (32 * count) genes') where
  same_records : records_in count genes ≡ records_in count genes'
  same_records = sym (records-needed count genes) ∙ ap (records_in count) same ∙ records-needed count genes'

  same_weights : weight_in genes count ≡ weight_in genes' count
  same_weights = ap (weight Rooted) same_records

  same_text : (ns : List (List ℕ)) (species : List ℕ) → counts_text ns genes count species ≡ counts_text ns genes' count species
  unfolding counts_text
  same_text ns species = ap (λ (w : ℕ → ℕ). written_with (count_note w) ns species) same_weights

  same_fit : length_test (length genes) (32 * count) ≡ length_test (length genes') (32 * count)
  same_fit =
      both_fit (32 * count) genes genes' (
        λ l. omega (arith, ap length same, length-take (32 * count) genes, length-take (32 * count) genes'),
        λ l. omega (arith, ap length same, length-take (32 * count) genes, length-take (32 * count) genes'),
      )

module _ (line text text' : List ℕ) (start count : ℕ) (genes genes' scores scores' splits splits' : List ℕ)
    (same-genes : take (32 * count) genes ≡ take (32 * count) genes')
    (scores_fit : (2 ^ length (names line) ≤ length scores) ↔ (2 ^ length (names line) ≤ length scores'))
    (splits_fit : (2 ^ length (names line) ≤ length splits) ↔ (2 ^ length (names line) ≤ length splits')) where
  abbrev n : ℕ
  n = length (names line)

  -- what is said of the texts, and what goes with a yes
  said-alike :
      {a a' : Answer Tree} → Alike text text' start a a'
      → (check_verdict line text start genes count scores splits a ≡ check_verdict line text' start genes' count scores' splits' a')
      × (distance_of n (records_in count genes) a ≡ distance_of n (records_in count genes') a')
  unfolding check_verdict check_tests
  said-alike both_refused = (refl, refl)
  said-alike (both_drawn ends) =
      let records = same_records count genes genes' same-genes in (
        rw (
          same_fit count genes genes' same-genes,
          both_fit (2 ^ n) scores scores' scores_fit,
          both_fit (2 ^ n) splits splits' splits_fit,
          records,
          same_weights count genes genes' same-genes,
          ends,
        ),
        rw records,
      )

  -- where both say yes, their tables are filled alike
  filled-alike :
      {r r' : Reply} {s p s' p' : List ℕ} → Checks line text start genes count scores splits r s p → Checks line text' start genes' count scores' splits' r' s' p'
      → r.number ≡ 0 → r'.number ≡ 0 → SameTable n scores s scores' s' × SameTable n splits p splits' p'
  filled-alike {s = s} {p} {s'} {p'} c c' z z' =
      let order = ((yes_exactly_when line text start genes count scores splits c).0 z).1 in
      let marked = replies_find Rooted n genes count (every_cluster n) scores splits in
      let same = yes_tables line text start genes count scores splits c z marked.meets in
      let search : Searched Rooted n =
      record {
        genes = genes;
        count = count;
        allowed = every_cluster n;
        scores = scores;
        splits = splits;
        reply = marked.outcome.0;
        scores_after = marked.outcome.1;
        splits_after = marked.outcome.2;
        finds = marked.meets;
      }
      in
      let all : OverAllClusters genes' count search =
      record {
        as_many = refl;
        gene_entries = same-genes;
        every = λ a some below. get_or-replicate {A = ℕ} (2 ^ n) a 1 0 below;
        byte_0 = all_judged n 0 (omega (arith, whole_below n));
        lent = record {
          genes_long = order.genes_in_order.shaped.fits;
          allowed_long = omega (arith, length-replicate {A = ℕ} (2 ^ n) 1);
          scores_long = order.scores_fit;
          splits_long = order.splits_fit;
        };
      }
      in
      let tables = as_searched_lem line text' start genes' count scores' splits' c' z' search all in (
        subst (λ (l : List ℕ). SameTable n scores l scores' s') (sym same.0) tables.2,
        subst (λ (l : List ℕ). SameTable n splits l splits' p') (sym same.1) tables.3,
      )

  alike-outcome :
      Alike text text' start (answer_to Species None line text start) (answer_to Species None line text' start) → {r r' : Reply} {s p s' p' : List ℕ}
      → Checks line text start genes count scores splits r s p → Checks line text' start genes' count scores' splits' r' s' p'
      → (r ≡ r') × (r.number ≡ 0 → SameTable n scores s scores' s' × SameTable n splits p splits' p')
  alike-outcome alike {r} {r'} c c' =
      let said = said-alike alike in
      let replies : r ≡ r' = c.reply ∙ ap₂ reply_of said.0 said.1 ∙ sym c'.reply in
      (replies, λ z. filled-alike c c' z (sym (ap (λ (r : Reply). r.number) replies) ∙ z))

  -- "Entries beyond the need are not read", and bytes that do not decide how the text is read are not looked at:
  -- the replies are equal, and with a yes so are the entries of both tables, those beyond the need kept
  pub check_beyond_the_need :
      (q : Reading) → Reads Species None line text start q → length text ≤ text_most → length text' ≤ text_most → Agree text text' start q
      → (r r' : Reply) (s p s' p' : List ℕ) → Checks line text start genes count scores splits r s p
      → Checks line text' start genes' count scores' splits' r' s' p'
      → (r ≡ r') × (r.number ≡ 0 → SameTable n scores s scores' s' × SameTable n splits p splits' p')
  check_beyond_the_need q reads short short' agree r r' s p s' p' c c' = alike-outcome (agree-alike line text text' start q reads short short' agree) c c'

-- with the same text: whatever it is
pub check_entries_beyond_the_need :
    (line text : List ℕ) (start count : ℕ) (genes genes' scores scores' splits splits' : List ℕ) → take (32 * count) genes ≡ take (32 * count) genes'
    → (2 ^ length (names line) ≤ length scores) ↔ (2 ^ length (names line) ≤ length scores')
    → (2 ^ length (names line) ≤ length splits) ↔ (2 ^ length (names line) ≤ length splits')
    → (r r' : Reply) (s p s' p' : List ℕ) → Checks line text start genes count scores splits r s p → Checks line text start genes' count scores' splits' r' s' p'
    → (r ≡ r')
    × (r.number ≡ 0 → SameTable (length (names line)) scores s scores' s' × SameTable (length (names line)) splits p splits' p')
check_entries_beyond_the_need line text start count genes genes' scores scores' splits splits' same-genes scores_fit splits_fit r r' s p s' p' c c' =
    alike-outcome line text text start count genes genes' scores scores' splits splits' same-genes scores_fit splits_fit
    (self_alike text start (answer_to Species None line text start)) c c'

-- "bytes behind that are not looked at": a text that is read, and another that has its bytes up to the offset just after `;`
pub check_bytes_behind :
    (line text text' : List ℕ) (start : ℕ) (genes : List ℕ) (count : ℕ) (scores splits : List ℕ) (q : Reading) → Reads Species None line text start q
    → length text ≤ text_most → length text' ≤ text_most → q.number ≡ 0 → SameBytes text text' start (q.next - start)
    → (r r' : Reply) (s p s' p' : List ℕ) → Checks line text start genes count scores splits r s p → Checks line text' start genes count scores splits r' s' p'
    → r ≡ r'
check_bytes_behind line text text' start genes count scores splits q reads short short' done same r r' s p s' p' c c' =
    (check_beyond_the_need line text text' start count genes genes scores scores splits splits refl (λ h. h, λ h. h) (λ h. h, λ h. h) q reads short short'
    (record { tree = λ e. same; fault = λ low other. absurd (omega arith); end = λ ten. absurd (omega arith) }) r r' s p s' p' c c').0

-- ---- writing

-- "Entries beyond the need are not read": into the same lent bytes the same is written
pub write_counts_entries_beyond_the_need :
    (line genes genes' : List ℕ) (count : ℕ) (species out : List ℕ) → take (32 * count) genes ≡ take (32 * count) genes' → (r r' : Reply) (after after' : List ℕ)
    → WritesCounts line genes count species out r after → WritesCounts line genes' count species out r' after' → (r ≡ r') × (after ≡ after')
unfolding write_counts_tests
write_counts_entries_beyond_the_need line genes genes' count species out same r r' after after' w w' =
    let records = same_records count genes genes' same in
    let fit = same_fit count genes genes' same in
    let text = same_text count genes genes' same (names line) species in
    (w.answer ∙ rw (fit, records, text) (sym w'.answer), w.bytes ∙ rw (fit, records, text) (sym w'.bytes))
