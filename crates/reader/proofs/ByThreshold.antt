-- Readings of one text by several thresholds compared (#113): without one nothing is 18; which clusters a threshold drops; a higher one never leaves what a lower one dropped; 0 drops none.
use Prim.Native.Nat.{ℕ, ◌≤◌}
use mathlib.Core.Path.{◌≡◌, refl, sym, ap, ◌∙◌, subst}
use mathlib.Core.Logic.{◌↔◌}
use mathlib.Core.Bool.{Bool, false, false≢true, true}
use mathlib.Core.List.{List}
use native.Mathlib.Omega.{arith}
use lib.ListN.{length, drop}
use Rattle.std.proofs.Common.{None, Some}
use Rattle.trees.specs.Lists.{Among}
use Rattle.trees.specs.Tree.{Tree, Behind, clusters, On}
use Rattle.trees.specs.Records.{listed, record_of, GeneValid}
use Rattle.trees.specs.Thinned.{Thinned, clusters_left, OfWeak}
use Rattle.trees.specs.Valid.{among}
use Rattle.trees.proofs.ValidTest.{denied, tells_among}
use Rattle.trees.proofs.Listing.{sublist_among}
use Rattle.trees.proofs.Thinned.{left_all, left_of_all, drawn_thinned, weaker_thinned}
use Rattle.trees.proofs.LostNodes.{lost_exactly}
use Rattle.trees.proofs.Recorded.{among_record, record_among}
use Rattle.roster.specs.Roster.{names}
use Rattle.tokens.specs.Answers.{Answer}
use Rattle.tokens.specs.Answers.Answer.{parsed, refused}
use Rattle.tokens.specs.Supports.{weak, Threshold}
use Rattle.tokens.specs.Values.{thousandths}
use Rattle.tokens.proofs.Supports.{below_higher, below-zero}
use Rattle.nodes.specs.Reading.{open_most}
use Rattle.nodes.specs.Worth.{NoneFine}
use Rattle.nodes.proofs.Answers.{refused-parsed}
use Rattle.nodes.proofs.RefusedBy.{tree-numbered}
use Rattle.nodes.proofs.FineTrees.{judged-read, unjudged-read, judged-refused}
use Rattle.reader.specs.Accepted.{Draws}
use Rattle.reader.specs.Promise.{Limits, narrow, needed, clusters_read, reading_of, answer_within, answer_to, Reads}
use Rattle.reader.specs.declared.Kind.{Kind}
use Rattle.reader.specs.declared.Reading.{Reading}
use Rattle.reader.proofs.Accepts.{accepted-derives, derives-accepted}
use Rattle.reader.proofs.Replies.{refusal_is, answers_related, refusal_some, drawn_on, drawn_few, drawn-below, reads-zero}

-- ---- 18

-- "18, only where a threshold is given" (#113)
pub without-never-eighteen : (limits : Limits) (kind : Kind) (line text : List ℕ) (start : ℕ) {q : ℕ} → answer_within limits kind None line text start ≡ refused 18 q → ⊥
without-never-eighteen limits kind line text start e =
    refusal_is (λ n. n ≡ 18 → ⊥) (λ z. omega arith) (λ z. omega arith) (λ z. omega arith) limits kind None line text start
    (λ e is. false≢true ((tree-numbered false (names line) limits.room (needed kind (length (names line))) (drop start text) start e).2 is)) e refl

-- ---- the drawn tree is the same

module _ (kind : Kind) (line text : List ℕ) (start : ℕ) where
  -- the reading is the same by every threshold that is given: it is the record that differs
  pub given-alike : (m n : ℕ) → answer_to kind (Some m) line text start ≡ answer_to kind (Some n) line text start
  given-alike m n = answers_related (λ a b. a ≡ b) (λ n q. refl) narrow kind kind (Some m) (Some n) line text start refl

  -- what is read with a threshold is the tree that is read without one, and no support of it has more than three decimals
  pub given-read :
      (amount : ℕ) {t : Tree} {rest : List ℕ} {q : ℕ} → answer_to kind (Some amount) line text start ≡ parsed t rest q
      → (answer_to kind None line text start ≡ parsed t rest q) × NoneFine t
  given-read amount {t} {rest} {q} =
      answers_related (λ a b. a ≡ parsed t rest q → (b ≡ parsed t rest q) × NoneFine t) (λ n p e. absurd (refused-parsed e))
      narrow kind kind (Some amount) None line text start (λ e. judged-read (names line) open_most (needed kind (length (names line))) (drop start text) start e)

  -- the other way round, where none has
  pub read-given :
      (amount : ℕ) {t : Tree} {rest : List ℕ} {q : ℕ} → answer_to kind None line text start ≡ parsed t rest q → NoneFine t
      → answer_to kind (Some amount) line text start ≡ parsed t rest q
  read-given amount {t} {rest} {q} =
      answers_related (λ a b. a ≡ parsed t rest q → NoneFine t → b ≡ parsed t rest q) (λ n p e none. e)
      narrow kind kind None (Some amount) line text start
      (λ e none. unjudged-read (names line) open_most (needed kind (length (names line))) (drop start text) start e none)

  -- every refusal but 18 is the same without a threshold
  pub given-refused :
      (amount : ℕ) {n q : ℕ} → answer_to kind (Some amount) line text start ≡ refused n q → (n ≡ 18 → ⊥) → answer_to kind None line text start ≡ refused n q
  given-refused amount {n} {q} =
      answers_related (λ a b. a ≡ refused n q → (n ≡ 18 → ⊥) → b ≡ refused n q) (λ n p e other. e)
      narrow kind kind (Some amount) None line text start
      (λ e other. judged-refused (names line) open_most (needed kind (length (names line))) (drop start text) start e other)

-- ---- the clusters that are dropped

module _ {kind : Kind} {threshold : Threshold} {line text : List ℕ} {start : ℕ} {t : Tree} {rest : List ℕ} (d : Draws kind threshold line text start t rest) where
  -- against the record of all its clusters, that of those left by a threshold is thinned
  all_to_left : (amount : ℕ) → Thinned (record_of (clusters t)) (record_of (clusters_left (λ b. weak (Some amount) b) t))
  all_to_left amount = drawn_thinned (drawn_few d) (drawn_on d) (drawn-below d) (λ b. weak (Some amount) b)

  -- and by a higher threshold more
  left_to_left :
      (m n : ℕ) → m ≤ n → Thinned (record_of (clusters_left (λ b. weak (Some m) b) t)) (record_of (clusters_left (λ b. weak (Some n) b) t))
  left_to_left m n l =
      weaker_thinned (drawn_few d) (drawn_on d) (drawn-below d) (λ b. weak (Some m) b) (λ b. weak (Some n) b)
      (λ b is. below_higher m n (thousandths b.support) l is)

-- a text read with a threshold: it draws a tree, of which exactly those clusters are read that do not belong to
-- "An inner node, not the root, with support strictly below the threshold" (#113), and what is read is a valid gene record
pub record ReadBelow (kind : Kind) (amount : ℕ) (line text : List ℕ) (start : ℕ) (q : Reading) : Type 0 where
  pub tree : Tree
  pub rest : List ℕ
  pub draws : Draws kind (Some amount) line text start tree rest
  pub left : (x : ℕ) → Among x (listed q.numbers) ↔ (Among x (clusters tree) × (OfWeak (λ b. weak (Some amount) b) tree x → ⊥))
  pub gene : GeneValid (length (names line)) q.numbers

-- so it is read
pub dropped_exactly :
    (kind : Kind) (amount : ℕ) (line text : List ℕ) (start : ℕ) (q : Reading) → Reads kind (Some amount) line text start q → q.number ≡ 0
    → ReadBelow kind amount line text start q
dropped_exactly kind amount line text start q h z =
    let w = reads-zero kind (Some amount) line text start h z in
    let d = (accepted-derives kind (Some amount) line text start w.answered).draws in
    record {
      tree = w.tree;
      rest = w.rest;
      draws = d;
      left = λ x.
          subst (λ (r : List ℕ). Among x (listed r) ↔ (Among x (clusters w.tree) × (OfWeak (λ b. weak (Some amount) b) w.tree x → ⊥)))
          (sym w.recorded) (left_exactly (drawn_on d) x);
      gene = w.gene;
    }
  where
    left_exactly :
        {s : ℕ} {t : Tree} → On s t → (x : ℕ)
        → Among x (listed (record_of (clusters_left (λ b. weak (Some amount) b) t))) ↔ (Among x (clusters t) × (OfWeak (λ b. weak (Some amount) b) t x → ⊥))
    left_exactly {t = t} o x = (
      λ m. let k = among_record 16 (clusters_left test t) m in (sublist_among (left_of_all test t) x k, λ u. (e.1 u).1 k),
      λ k. by (among x (clusters_left test t)) refl k,
    )
      where
        test : Behind → Bool
        test b = weak (Some amount) b

        e : (Among x (clusters t) × (Among x (clusters_left test t) → ⊥)) ↔ OfWeak test t x
        e = lost_exactly test o x

        by : (b : Bool) → among x (clusters_left test t) ≡ b → Among x (clusters t) × (OfWeak test t x → ⊥) → Among x (listed (record_of (clusters_left test t)))
        by true is k = record_among 16 (clusters_left test t) ((tells_among x (clusters_left test t)).holds is)
        by false is k = absurd (k.1 (e.0 (k.0, denied (tells_among x (clusters_left test t)) is)))

-- ---- the replies

-- a reply by a higher threshold: the same but for the record, and that is thinner
pub record Thinner (r r' : Reading) : Type 0 where
  pub number_same : r'.number ≡ r.number
  pub place_same : r'.place ≡ r.place
  pub next_same : r'.next ≡ r.next
  pub numbers_thinned : r.number ≡ 0 → Thinned r.numbers r'.numbers
  pub refused_same : (r.number ≡ 0 → ⊥) → r' ≡ r

module _ (kind : Kind) (line text : List ℕ) (start : ℕ) (r r' : Reading) where
  -- both refuse the text alike
  both_refused :
      (threshold threshold' : Threshold) {k q : ℕ} → Reads kind threshold line text start r → Reads kind threshold' line text start r'
      → answer_to kind threshold line text start ≡ refused k q → answer_to kind threshold' line text start ≡ refused k q → r' ≡ r
  unfolding Reads
  both_refused threshold threshold' h h' e e' = h' ∙ ap (reading_of threshold' start) e' ∙ sym (h ∙ ap (reading_of threshold start) e)

  alike-refused :
      (threshold threshold' : Threshold) {k q : ℕ} → Reads kind threshold line text start r → Reads kind threshold' line text start r'
      → answer_to kind threshold line text start ≡ refused k q → answer_to kind threshold' line text start ≡ refused k q → Thinner r r'
  unfolding Reads
  alike-refused threshold threshold' {k} h h' e e' =
      let same = both_refused threshold threshold' h h' e e' in
      record {
        number_same = ap (λ (r : Reading). r.number) same;
        place_same = ap (λ (r : Reading). r.place) same;
        next_same = ap (λ (r : Reading). r.next) same;
        numbers_thinned = λ z. let zero_number : k ≡ 0 = rw (h, e) at z in absurd (omega (arith, refusal_some narrow kind threshold line text start e));
        refused_same = λ some. same;
      }

  -- both read the same tree, and the second record is thinner
  alike_read :
      (threshold threshold' : Threshold) {t : Tree} {rest : List ℕ} {q : ℕ} → Reads kind threshold line text start r → Reads kind threshold' line text start r'
      → answer_to kind threshold line text start ≡ parsed t rest q → answer_to kind threshold' line text start ≡ parsed t rest q
      → Thinned (record_of (clusters_read threshold t)) (record_of (clusters_read threshold' t)) → Thinner r r'
  unfolding Reads
  alike_read threshold threshold' h h' e e' thinned =
      record {
        number_same = rw (h, e, h', e');
        place_same = rw (h, e, h', e');
        next_same = rw (h, e, h', e');
        numbers_thinned = λ z. rw (h, e, h', e') thinned;
        refused_same = λ some. absurd (some (rw (h, e)));
      }

  -- "a higher threshold never leaves a cluster that a lower one dropped" (#113)
  pub higher_drops_more : (m n : ℕ) → m ≤ n → Reads kind (Some m) line text start r → Reads kind (Some n) line text start r' → Thinner r r'
  higher_drops_more m n l h h' = by (answer_to kind (Some m) line text start) refl
    where
      by : (a : Answer Tree) → answer_to kind (Some m) line text start ≡ a → Thinner r r'
      by (parsed t rest q) e =
          alike_read (Some m) (Some n) h h' e (given-alike kind line text start n m ∙ e)
          (left_to_left (accepted-derives kind (Some m) line text start e).draws m n l)
      by (refused k q) e = alike-refused (Some m) (Some n) h h' e (given-alike kind line text start n m ∙ e)

  -- what is refused with a threshold, but not by 18, is refused so without one
  refused-without :
      (amount : ℕ) {k q : ℕ} → Reads kind (Some amount) line text start r' → (r'.number ≡ 18 → ⊥) → answer_to kind (Some amount) line text start ≡ refused k q
      → answer_to kind None line text start ≡ refused k q
  unfolding Reads
  refused-without amount h' other e' = given-refused kind line text start amount e' (λ is. other (rw (h', e') is))

  -- against the reading without a threshold: the same but for the record, unless it is 18
  pub given_drops :
      (amount : ℕ) → Reads kind None line text start r → Reads kind (Some amount) line text start r' → (r'.number ≡ 18 → ⊥) → Thinner r r'
  given_drops amount h h' other = by (answer_to kind (Some amount) line text start) refl
    where
      by : (a : Answer Tree) → answer_to kind (Some amount) line text start ≡ a → Thinner r r'
      by (parsed t rest q) e' =
          alike_read None (Some amount) h h' (given-read kind line text start amount e').0 e'
          (all_to_left (accepted-derives kind (Some amount) line text start e').draws amount)
      by (refused k q) e' = alike-refused None (Some amount) h h' (refused-without amount h' other e') e'

  -- "with threshold 0 nothing is dropped": where no support has more than three decimals, so that it is not 18, the reply is that without a threshold
  pub zero_drops_none : Reads kind None line text start r → Reads kind (Some 0) line text start r' → (r'.number ≡ 18 → ⊥) → r' ≡ r
  unfolding Reads
  zero_drops_none h h' other = by (answer_to kind (Some 0) line text start) refl
    where
      by : (a : Answer Tree) → answer_to kind (Some 0) line text start ≡ a → r' ≡ r
      by (parsed t rest q) e' =
          let e = (given-read kind line text start 0 e').0 in
          let all : clusters_left (λ b. weak (Some 0) b) t ≡ clusters t = left_all (λ b. weak (Some 0) b) (λ b. below-zero (thousandths b.support)) t in
          rw (h, e, h', e', all)
      by (refused k q) e' = both_refused None (Some 0) h h' (refused-without 0 h' other e') e'

  -- so the text that draws a tree without a threshold, of which no support has more than three decimals, has the same reply with threshold 0
  pub drawn_drops_none :
      {t : Tree} {rest : List ℕ} → Draws kind None line text start t rest → NoneFine t
      → Reads kind None line text start r → Reads kind (Some 0) line text start r' → r' ≡ r
  unfolding Reads
  drawn_drops_none d none h h' =
      let e = read-given kind line text start 0 (derives-accepted kind None line text start d) none in
      zero_drops_none h h' (λ is. let z : r'.number ≡ 0 = rw (h', e) in omega arith)
