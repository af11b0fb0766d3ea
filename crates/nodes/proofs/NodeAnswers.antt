-- The promise of the reader of a node: how it is met by a refusal and by a tree, and what it tells of either.
use Prim.Native.Nat.{ℕ, ◌+◌}
use native.Mathlib.Omega.{arith}
use mathlib.Core.Path.{◌≡◌, sym, ap, ◌∙◌}
use mathlib.Core.Bool.{Bool, true, false}
use mathlib.Core.List.{List, [], ◌∷◌, ◌++◌, append-nil}
use lib.ListN.{length, drop, length-append}
use lib.Seq.{sets}
use Rattle.tokens.specs.declared.answer.Figures.{Figures}
use Rattle.std.specs.Prelude.{Result, Ok, Err}
use Rattle.clusters.specs.Sets.{union}
use Rattle.trees.specs.Tree.{Tree, Forest, Behind, cluster, cluster_of}
use Rattle.trees.specs.Thinned.{unless_lost}
use Rattle.tokens.specs.Answers.{Answer, and_then}
use Rattle.tokens.specs.Answers.Answer.{parsed, refused}
use Rattle.tokens.specs.Says.{refusal, between, behind_says, behind_valued}
use Rattle.tokens.specs.Supports.{below, weak, Threshold}
use Rattle.faults.specs.declared.Refusal.{Refusal}
use Rattle.nodes.specs.Core.{Met, left_in, left_in_of, tree_met, forest_met, node_says, stored_by, ended_as, kept_by, kept_as, NodeReads, ListReads}
use Rattle.nodes.specs.declared.answer.Cursor.{Cursor}
use Rattle.nodes.specs.declared.answer.Node.{Node}
use Rattle.nodes.proofs.Answers.{refused-parsed, and_then-parsed, Reached}
use Rattle.trees.proofs.Stores.{sets_append}

-- a node was read
abbrev pub read_as : ℕ → Cursor → Result Node Refusal
read_as mask next = Ok (record { mask = mask; next = next })

module _ (own threshold : Threshold) (text : List ℕ) (seen stored : ℕ) (before after : List ℕ) where
  -- a refusal is passed up, whatever the table has
  pub node-refused : (answer : Answer Tree) (e : Refusal) → refusal e ≡ answer → NodeReads own threshold text seen stored before after answer (Err e)
  node-refused answer e h = record { says = rw (← h); stores = λ t rest q is. absurd (refused-parsed (h ∙ is)) }

  -- and a refusal tells what was answered
  pub refused-node :
      (answer : Answer Tree) (r : Result Node Refusal) (e : Refusal) → NodeReads own threshold text seen stored before after answer r → r ≡ Err e → refusal e ≡ answer
  refused-node answer r e reads told = by_answer answer (rw told at reads).says
    where
      by_answer : (a : Answer Tree) → refusal e ≡ and_then a (λ t rest q. parsed (tree_met own threshold seen stored t) rest q) → refusal e ≡ a
      by_answer (parsed t rest q) h = absurd (refused-parsed h)
      by_answer (refused n q) h = cc

  -- a tree was read, and what is left of its clusters stands in the table
  pub record TreeRead (answer : Answer Tree) (mask : ℕ) (next : Cursor) : Type 0 where
    pub tree : Tree
    pub answered : answer ≡ parsed tree (drop next.at text) next.at
    pub mask_is : mask ≡ cluster tree
    pub seen_is : next.seen ≡ union seen (cluster tree)
    pub stored_is : next.stored ≡ stored + length (left_in own threshold tree)
    pub table_is : after ≡ sets before stored (left_in own threshold tree)

  pub node-read :
      (answer : Answer Tree) (mask : ℕ) (next : Cursor) → TreeRead answer mask next
      → NodeReads own threshold text seen stored before after answer (read_as mask next)
  node-read answer mask next h = record {
    says = rw (h.answered, h.mask_is, h.seen_is, h.stored_is);
    stores = λ t rest q is.
        let same : t ≡ h.tree = cc (is, h.answered) in
        rw same h.table_is;
  }

  pub read-node :
      (answer : Answer Tree) (r : Result Node Refusal) (mask : ℕ) (next : Cursor) → NodeReads own threshold text seen stored before after answer r → r ≡ read_as mask next
      → TreeRead answer mask next
  read-node answer r mask next reads told =
      let says = (rw told at reads).says in
      let h : Reached answer (λ t rest q. parsed (tree_met own threshold seen stored t) rest q) (node_says text (read_as mask next)) =
      and_then-parsed answer (λ t rest q. parsed (tree_met own threshold seen stored t) rest q) (sym says)
      in
      let met : tree_met own threshold seen stored h.value ≡ record { mask = mask; seen = next.seen; stored = next.stored } = cc h.after in
      let is : answer ≡ parsed h.value (drop next.at text) next.at = cc (h.first, h.after) in
      record {
        tree = h.value;
        answered = is;
        mask_is = sym (ap (λ (m : Met). m.mask) met);
        seen_is = sym (ap (λ (m : Met). m.seen) met);
        stored_is = sym (ap (λ (m : Met). m.stored) met);
        table_is = reads.stores h.value (drop next.at text) next.at is;
      }

module _ (threshold : Threshold) (text : List ℕ) (seen stored : ℕ) (before after : List ℕ) where
  -- the same of a list
  pub list-refused : (answer : Answer Forest) (e : Refusal) → refusal e ≡ answer → ListReads threshold text seen stored before after answer (Err e)
  list-refused answer e h = record { says = rw (← h); stores = λ f rest q is. absurd (refused-parsed (h ∙ is)) }

  pub refused-list :
      (answer : Answer Forest) (r : Result Node Refusal) (e : Refusal) → ListReads threshold text seen stored before after answer r → r ≡ Err e → refusal e ≡ answer
  refused-list answer r e reads told = by_answer answer (rw told at reads).says
    where
      by_answer : (a : Answer Forest) → refusal e ≡ and_then a (λ f rest q. parsed (forest_met threshold seen stored f) rest q) → refusal e ≡ a
      by_answer (parsed t rest q) h = absurd (refused-parsed h)
      by_answer (refused n q) h = cc

  pub record ForestRead (answer : Answer Forest) (mask : ℕ) (next : Cursor) : Type 0 where
    pub forest : Forest
    pub answered : answer ≡ parsed forest (drop next.at text) next.at
    pub mask_is : mask ≡ cluster_of forest
    pub seen_is : next.seen ≡ union seen (cluster_of forest)
    pub stored_is : next.stored ≡ stored + length (left_in_of threshold forest)
    pub table_is : after ≡ sets before stored (left_in_of threshold forest)

  pub list_read :
      (answer : Answer Forest) (mask : ℕ) (next : Cursor) → ForestRead answer mask next
      → ListReads threshold text seen stored before after answer (read_as mask next)
  list_read answer mask next h = record {
    says = rw (h.answered, h.mask_is, h.seen_is, h.stored_is);
    stores = λ f rest q is.
        let same : f ≡ h.forest = cc (is, h.answered) in
        rw same h.table_is;
  }

  pub read-list :
      (answer : Answer Forest) (r : Result Node Refusal) (mask : ℕ) (next : Cursor) → ListReads threshold text seen stored before after answer r → r ≡ read_as mask next
      → ForestRead answer mask next
  read-list answer r mask next reads told =
      let says = (rw told at reads).says in
      let h : Reached answer (λ f rest q. parsed (forest_met threshold seen stored f) rest q) (node_says text (read_as mask next)) =
      and_then-parsed answer (λ f rest q. parsed (forest_met threshold seen stored f) rest q) (sym says)
      in
      let met : forest_met threshold seen stored h.value ≡ record { mask = mask; seen = next.seen; stored = next.stored } = cc h.after in
      let is : answer ≡ parsed h.value (drop next.at text) next.at = cc (h.first, h.after) in
      record {
        forest = h.value;
        answered = is;
        mask_is = sym (ap (λ (m : Met). m.mask) met);
        seen_is = sym (ap (λ (m : Met). m.seen) met);
        stored_is = sym (ap (λ (m : Met). m.stored) met);
        table_is = reads.stores h.value (drop next.at text) next.at is;
      }

-- ---- a node that ends

stored_by_lem :
    (lost : Bool) (stored stored' mask : ℕ) (cs : List ℕ) → stored' ≡ stored + length cs → stored_by lost stored' ≡ stored + length (cs ++ unless_lost lost mask)
stored_by_lem true stored stored' mask cs is = rw (append-nil cs) is
stored_by_lem false stored stored' mask cs is = omega (arith, length-append cs (mask ∷ []))

kept_by_lem :
    (lost : Bool) (stored stored' mask : ℕ) (cs before mid : List ℕ) → stored' ≡ stored + length cs → mid ≡ sets before stored cs
    → kept_by lost mask stored' mid ≡ sets before stored (cs ++ unless_lost lost mask)
kept_by_lem true stored stored' mask cs before mid stored_is mid-is = rw (append-nil cs) mid-is
kept_by_lem false stored stored' mask cs before mid stored_is mid-is = rw (mid-is, stored_is) (sets_append before stored cs (mask ∷ []))

-- a node ends where its numbers were read, and else is refused
abbrev pub ended_by : Threshold → ℕ → ℕ → ℕ → Result Figures Refusal → Result Node Refusal
ended_by own mask seen stored (Ok e) = Ok (ended_as own mask seen stored e)
ended_by own mask seen stored (Err e) = Err e

abbrev pub kept_behind : Threshold → ℕ → ℕ → List ℕ → Result Figures Refusal → List ℕ
kept_behind own mask stored found (Ok e) = kept_as own mask stored found e
kept_behind own mask stored found (Err e) = found

-- a node ends behind its numbers: what is left of the clusters within it, cs, stands in the table, and its own comes behind them, unless it is lost
pub node-ended :
    (own threshold lost : Threshold) (text : List ℕ) (seen stored : ℕ) (before : List ℕ) (answer : Answer Tree)
    (w : List ℕ) (read : Result Figures Refusal) (numbers : Answer Behind) (make : Behind → Tree) (mask : ℕ) (cs mid : List ℕ) (seen' stored' : ℕ)
    → behind_says text w read ≡ numbers → behind_valued text read → and_then numbers (λ b s p. parsed (make b) s p) ≡ answer
    → ((b : Behind) → mask ≡ cluster (make b)) → ((b : Behind) → left_in own threshold (make b) ≡ cs ++ unless_lost (weak lost b) mask)
    → mid ≡ sets before stored cs → seen' ≡ union seen mask → stored' ≡ stored + length cs
    → NodeReads own threshold text seen stored before (kept_behind lost mask stored' mid read) answer (ended_by lost mask seen' stored' read)
node-ended own threshold lost text seen stored before answer w (Ok e) numbers make mask cs mid seen' stored' says values is mask_is left_is mid-is seen_is
    stored_is =
    let b : Behind = record { name = w; distance = between text e.distance; support = between text e.support } in
    let is-parsed : parsed (make b) (drop e.next text) e.next ≡ answer = rw (← says) at is in
    let t = below lost e.support.value in
    let left : left_in own threshold (make b) ≡ cs ++ unless_lost t mask = rw values.1.0 (left_is b) in
    node-read own threshold text seen stored before (kept_by t mask stored' mid) answer mask (record { at = e.next; seen = seen'; stored = stored_by t stored' })
    (record {
      tree = make b;
      answered = sym is-parsed;
      mask_is = mask_is b;
      seen_is = rw (← mask_is b) seen_is;
      stored_is = rw left (stored_by_lem t stored stored' mask cs stored_is);
      table_is = rw left (kept_by_lem t stored stored' mask cs before mid stored_is mid-is);
    })
node-ended own threshold lost text seen stored before answer w (Err e) numbers make mask cs mid seen' stored' says values is mask_is left_is mid-is
    seen_is stored_is =
    node-refused own threshold text seen stored before mid answer e (rw (← says) at is)
