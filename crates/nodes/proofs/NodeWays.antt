-- The ways through reading a node and a list of nodes: what each call told, and what the whole then answers.
use Prim.Native.Nat.{ℕ, suc, ◌+◌, ◌-◌, ◌*◌, ◌^◌, ◌≤◌, ◌<◌}
use native.Mathlib.Omega.{arith}
use mathlib.Core.Path.{◌≡◌, sym, ap, ap₂, ◌∙◌}
use mathlib.Core.Bool.{true, false}
use mathlib.Core.List.{List, ◌++◌}
use lib.ListN.{length, drop, length-append, length-drop}
use lib.Seq.{sets, length-sets}
use Rattle.tokens.specs.declared.answer.Figures.{Figures}
use Rattle.std.specs.Prelude.{Result, Ok, Err}
use Rattle.clusters.specs.Sets.{union, size}
use Rattle.clusters.proofs.Sets.{union-below, union_assoc, apart-sym}
use Rattle.clusters.proofs.Sizes.{size-apart, size-le}
use Rattle.labels.specs.Bytes.{next_is, next_label}
use Rattle.trees.specs.Tree.{Tree, Forest, cluster, cluster_of}
use Rattle.trees.specs.Tree.Tree.{node}
use Rattle.trees.specs.Tree.Forest.{last, more}
use Rattle.tokens.specs.Answers.{Answer, and_then}
use Rattle.tokens.specs.Answers.Answer.{parsed}
use Rattle.tokens.specs.Tokens.{blanks, skip, inner_name}
use Rattle.tokens.specs.Says.{stray_at, behind_says, behind_valued, inner_word}
use Rattle.tokens.specs.Supports.{is_given, supported, Threshold}
use Rattle.faults.specs.declared.Fault.TheVariants.{TooDeep}
use Rattle.faults.specs.declared.Refusal.{Refusal}
use Rattle.nodes.specs.Reading.{leaf_at, closing, after_first, after_child, read_node, read_forest, closing_by}
use Rattle.nodes.specs.Core.{no_comma_at, left_in, left_in_of, Holds, Given, NodeReads, ListReads, ReadsLeaf, ReadsNode, ReadsList}
use Rattle.nodes.specs.declared.answer.Cursor.{Cursor}
use Rattle.nodes.specs.declared.Reader.{Reader}
use Rattle.nodes.specs.declared.answer.Node.{Node}
use Rattle.tokens.proofs.Places.{next_is_inside}
use Rattle.nodes.proofs.Answers.{and_then-assoc}
use Rattle.nodes.proofs.Growth.{Fresh, read_node-fresh, read_forest-fresh}
use Rattle.nodes.proofs.LeftClusters.{left_node, left_of_last, left_of_more, left_fresh, left_of_fresh}
use Rattle.nodes.proofs.NodeAnswers.{read_as, ended_by, kept_behind, node-refused, list-refused, refused-node, refused-list, TreeRead, ForestRead, list_read, read-node, read-list, node-ended}
use Rattle.nodes.proofs.NodeSteps.{node_is_leaf, node-stray, node-full, node-opened, comma_follows, comma-missing, list_begins, list_goes_on, list-closes, list-stray}
use Rattle.nodes.proofs.Rests.{read_node_advances, read_forest_advances}
use Rattle.trees.proofs.Stores.{sets_append}

-- ---- what a reading leaves room for

-- new clusters were stored: what was given still is, and there is room for one more
pub record Grown (count : ℕ) (table found : List ℕ) (seen stored : ℕ) : Type 0 where
  pub given : Given count table found seen stored
  pub room : stored < length found

pub grown :
    (count : ℕ) (table found found' : List ℕ) (seen stored seen' stored' mask : ℕ) (cs : List ℕ)
    → Given count table found seen stored → Fresh count seen mask cs → seen' ≡ union seen mask → stored' ≡ stored + length cs → found' ≡ sets found stored cs
    → Grown count table found' seen' stored'
grown count table found found' seen stored seen' stored' mask cs g f seen_is stored_is found-is =
    let below : union seen mask < 2 ^ count = union-below count g.below f.below in
    let sum : size (union seen mask) ≡ size seen + size mask = size-apart seen mask (apart-sym mask seen f.unmet) in
    let most : size (union seen mask) ≤ count = size-le count below in
    let long : length found' ≡ length found = rw found-is (length-sets found stored cs) in
    let spare : stored + length cs + 1 ≤ 2 * size (union seen mask) = omega (arith, f.counted, g.spare) in
    rw (seen_is, stored_is)
    (record {
      given = record {
        holds = g.holds;
        wide = omega (arith, g.wide);
        below = below;
        spare = omega arith;
      };
      room = omega (arith, g.wide);
    })

-- ---- one reading behind another

tables-joined :
    (before mid after : List ℕ) (stored stored₁ : ℕ) (cs ds : List ℕ)
    → mid ≡ sets before stored cs → stored₁ ≡ stored + length cs → after ≡ sets mid stored₁ ds → after ≡ sets before stored (cs ++ ds)
tables-joined before mid after stored stored₁ cs ds mid-is stored_is after_is =
    rw (after_is, stored_is, mid-is) (sets_append before stored cs ds)

sets-joined :
    (seen seen₁ seen₂ m n whole : ℕ) → seen₁ ≡ union seen m → seen₂ ≡ union seen₁ n → whole ≡ union m n → seen₂ ≡ union seen whole
sets-joined seen seen₁ seen₂ m n whole a b c = rw (b, a, c) (union_assoc seen m n)

counts-joined :
    (stored stored₁ stored₂ : ℕ) (cs ds : List ℕ)
    → stored₁ ≡ stored + length cs → stored₂ ≡ stored₁ + length ds → stored₂ ≡ stored + length (cs ++ ds)
counts-joined stored stored₁ stored₂ cs ds a b = omega (arith, length-append cs ds)

-- ---- what a call is handed and answers

-- the node that the definition reads from a place of the text
abbrev node_at : Threshold → List ℕ → List (List ℕ) → ℕ → ℕ → ℕ → ℕ → Answer Tree
node_at threshold text names k room seen at = read_node (is_given threshold) k names room seen (drop at text) at

-- and the list of nodes
abbrev forest_at : Threshold → List ℕ → List (List ℕ) → ℕ → ℕ → ℕ → ℕ → Answer Forest
forest_at threshold text names k room seen at = read_forest (is_given threshold) k names room seen (drop at text) at

-- what a reading of a node, or of a list of nodes, is handed
pub record Asked : Type 0 where
  pub reader : Reader
  pub cursor : Cursor
  pub room : ℕ
  pub before : List ℕ

-- a first child is read behind the parenthesis at `here`
abbrev pub inside : Asked → ℕ → Asked
inside a here = record {
  reader = a.reader;
  cursor = record { at = here + 1; seen = a.cursor.seen; stored = a.cursor.stored };
  room = a.room - 1;
  before = a.before;
}

-- the next one is read behind the comma at `comma`, where the one before left the cursor and the table
abbrev pub onwards : Asked → Cursor → List ℕ → ℕ → Asked
onwards a next mid comma = record {
  reader = a.reader;
  cursor = record { at = comma + 1; seen = next.seen; stored = next.stored };
  room = a.room;
  before = mid;
}

-- such a reading was called, of a node with its own threshold or of a list, and answered
pub record NodeCall (own : Threshold) (a : Asked) : Type 0 where
  pub after : List ℕ
  pub result : Result Node Refusal
  pub reads : ReadsNode own a.reader a.cursor a.room a.before after result

pub record ListCall (a : Asked) : Type 0 where
  pub after : List ℕ
  pub result : Result Node Refusal
  pub reads : ReadsList a.reader a.cursor a.room a.before after result

-- it read something, and the blanks behind that end at `here`
pub record Followed (text : List ℕ) (result : Result Node Refusal) : Type 0 where
  pub read : Node
  pub told : result ≡ Ok read
  pub here : ℕ
  pub passed : here ≡ read.next.at + blanks (drop read.next.at text)

-- a parenthesis opens at `here`, behind blanks, and there is room for it
pub record Opening (a : Asked) : Type 0 where
  pub here : ℕ
  pub skipped : here ≡ a.cursor.at + blanks (drop a.cursor.at a.reader.text.now)
  pub leafless : next_label (drop here a.reader.text.now) ≡ false
  pub opens : next_is 40 (drop here a.reader.text.now) ≡ true
  pub some : a.room ≡ 0 → ⊥

module _ (reader : Reader) (names : List (List ℕ)) (holds : Holds names reader.count reader.table.now) where
  open reader use {threshold, count, text as read_from, table as names_in}
  open read_from use {now as text}
  open names_in use {now as table}

  -- ---- what a call told

  module _ (c : Cursor) (before after : List ℕ) (r : Result Node Refusal) where
    open c use {at, seen, stored}

    pub leaf-told :
        (own : Threshold) → ReadsLeaf reader c before after r
        → NodeReads own threshold text seen stored before after (leaf_at (is_given threshold) names seen (drop at text) at) r
    unfolding ReadsLeaf
    leaf-told own reads = reads own names holds

    module _ (room k : ℕ) where
      pub node-told :
          (own : Threshold) → ReadsNode own reader c room before after r → 2 * (length text - at) < k
          → NodeReads own threshold text seen stored before after (node_at threshold text names k room seen at) r
      unfolding ReadsNode
      node-told own reads deep = reads names holds k deep

      pub list-told :
          ReadsList reader c room before after r → 2 * (length text - at) + 1 < k
          → ListReads threshold text seen stored before after (forest_at threshold text names k room seen at) r
      unfolding ReadsList
      list-told reads deep = reads names holds k deep

  -- ---- how far a reading came

  module _ (at seen stored : ℕ) (before after : List ℕ) (mask : ℕ) (next : Cursor) (room k : ℕ) where
    pub tree-moves :
        TreeRead threshold threshold text seen stored before after (node_at threshold text names k room seen at) mask next
        → (at < next.at) × (next.at ≤ length text)
    tree-moves h =
        let a = read_node_advances (is_given threshold) k names room seen (drop at text) at h.tree (drop next.at text) next.at h.answered in
        let l = length-drop at text in
        (omega (arith, a.some, a.moves.place), omega (arith, a.some, a.moves.fits, a.moves.place))

    pub forest-moves :
        ForestRead threshold text seen stored before after (forest_at threshold text names k room seen at) mask next → (at < next.at) × (next.at ≤ length text)
    forest-moves h =
        let a = read_forest_advances (is_given threshold) k names room seen (drop at text) at h.forest (drop next.at text) next.at h.answered in
        let l = length-drop at text in
        (omega (arith, a.some, a.moves.place), omega (arith, a.some, a.moves.fits, a.moves.place))

    pub tree-grown :
        Given count table before seen stored → TreeRead threshold threshold text seen stored before after (node_at threshold text names k room seen at) mask next
        → Grown count table after next.seen next.stored
    tree-grown g h =
        let f =
        rw holds.counted at (read_node-fresh (is_given threshold) k names room seen (drop at text) at h.tree (drop next.at text) next.at
        h.answered)
        in
        grown count table before after seen stored next.seen next.stored (cluster h.tree) (left_in threshold threshold h.tree) g
        (left_fresh threshold threshold h.tree f) h.seen_is h.stored_is h.table_is

    pub forest-grown :
        Given count table before seen stored → ForestRead threshold text seen stored before after (forest_at threshold text names k room seen at) mask next
        → Grown count table after next.seen next.stored
    forest-grown g h =
        let f =
        rw holds.counted at (read_forest-fresh (is_given threshold) k names room seen (drop at text) at h.forest (drop next.at text) next.at
        h.answered)
        in
        grown count table before after seen stored next.seen next.stored (cluster_of h.forest) (left_in_of threshold h.forest) g
        (left_of_fresh threshold h.forest f) h.seen_is h.stored_is
        h.table_is

-- ---- the ways

module _ (a : Asked) (names : List (List ℕ)) (holds : Holds names a.reader.count a.reader.table.now) where
  open a use {reader, cursor, room, before}
  open cursor use {at, seen, stored}
  open reader use {threshold, count, text as read_from, table as names_in}
  open read_from use {now as text}
  open names_in use {now as table}

  -- ---- a node that is a leaf, or none

  module _ (here : ℕ) (skipped : here ≡ at + blanks (drop at text)) (k : ℕ) (deep : 2 * (length text - at) < k) where
    pub leaf_way :
        (own : Threshold) (after : List ℕ) (r : Result Node Refusal) → next_label (drop here text) ≡ true
        → ReadsLeaf reader (record { at = here; seen = seen; stored = stored }) before after r
        → NodeReads own threshold text seen stored before after (node_at threshold text names k room seen at) r
    leaf_way own after r t reads =
        let e : k ≡ suc (k - 1) = omega arith in
        rw (e, node_is_leaf text at here skipped (is_given threshold) names (k - 1) seen room t)
        (leaf-told reader names holds (record { at = here; seen = seen; stored = stored }) before after r own reads)

    pub stray_way :
        (own : Threshold) (after : List ℕ) (f : Refusal) → next_label (drop here text) ≡ false → next_is 40 (drop here text) ≡ false
        → f ≡ stray_at (drop here text) here
        → NodeReads own threshold text seen stored before after (node_at threshold text names k room seen at) (Err f)
    stray_way own after f leafless t is =
        let e : k ≡ suc (k - 1) = omega arith in
        node-refused own threshold text seen stored before after (node_at threshold text names k room seen at) f
        (rw (is, e) (node-stray text at here skipped (is_given threshold) names (k - 1) seen leafless room t))

    pub full_way :
        (own : Threshold) (after : List ℕ) → next_label (drop here text) ≡ false → next_is 40 (drop here text) ≡ true → room ≡ 0
        → NodeReads own threshold text seen stored before after (node_at threshold text names k room seen at) (Err (record { fault = TooDeep; place = here }))
    full_way own after leafless opens none =
        let e : k ≡ suc (k - 1) = omega arith in
        node-refused own threshold text seen stored before after (node_at threshold text names k room seen at) (record { fault = TooDeep; place = here })
        (rw (none, e) (node-full text at here skipped (is_given threshold) names (k - 1) seen leafless opens))

  -- ---- a node that opens a parenthesis

  module _ (o : Opening a) where
    open o use {here, skipped, leafless, opens, some}

    pub opening-inside : here < length text
    opening-inside = next_is_inside text here 40 opens

    pub first_falls : 2 * (length text - (here + 1)) + 1 < 2 * (length text - at)
    first_falls = let h = opening-inside in omega arith

    module _ (k : ℕ) (deep : 2 * (length text - at) < k) where
      opened_is :
          node_at threshold text names k room seen at
          ≡ and_then (node_at threshold text names (k - 1) (room - 1) seen (here + 1))
          (λ t s p.
          after_first (is_given threshold) (next_is 44 (skip s)) (next_is 41 (skip s))
          (λ e s p. read_forest (is_given threshold) (k - 1) names (room - 1) e s p) seen t (skip s) (p + blanks s))
      opened_is =
          let deeper : k ≡ suc (k - 1) = omega arith in
          let roomier : room ≡ suc (room - 1) = let h = some in omega arith in
          ap₂ (λ (i j : ℕ). node_at threshold text names i j seen at) deeper roomier
          ∙ node-opened text at here skipped (is_given threshold) names (k - 1) seen leafless opens (room - 1)

      -- its first child
      module _ (one : NodeCall threshold (inside a here)) where
        open one use {after as mid, result, reads}

        first_told : NodeReads threshold threshold text seen stored before mid (node_at threshold text names (k - 1) (room - 1) seen (here + 1)) result
        first_told =
            node-told reader names holds (inside a here).cursor before mid result (room - 1) (k - 1) threshold reads
            (let f = first_falls in omega arith)

        pub first_refused_way :
            (own : Threshold) (e : Refusal) → result ≡ Err e
            → NodeReads own threshold text seen stored before mid (node_at threshold text names k room seen at) (Err e)
        first_refused_way own e told =
            let h =
            refused-node threshold threshold text seen stored before mid
            (node_at threshold text names (k - 1) (room - 1) seen (here + 1)) result e first_told told
            in
            node-refused own threshold text seen stored before mid (node_at threshold text names k room seen at) e
            (rw (opened_is, ← h))

        module _ (followed : Followed text result) where
          open followed use {read, told, here as comma, passed}
          open read use {mask, next}

          first : TreeRead threshold threshold text seen stored before mid (node_at threshold text names (k - 1) (room - 1) seen (here + 1)) mask next
          first =
              read-node threshold threshold text seen stored before mid
              (node_at threshold text names (k - 1) (room - 1) seen (here + 1)) result mask next first_told told

          behind_first_is :
              node_at threshold text names k room seen at
              ≡ after_first (is_given threshold) (next_is 44 (skip (drop next.at text))) (next_is 41 (skip (drop next.at text)))
              (λ e s p. read_forest (is_given threshold) (k - 1) names (room - 1) e s p)
              seen
              first.tree
              (skip (drop next.at text))
              (next.at + blanks (drop next.at text))
          behind_first_is = rw (opened_is, first.answered)

          pub no_comma_way :
              (own : Threshold) (e : Refusal) → next_is 44 (drop comma text) ≡ false → e ≡ no_comma_at (drop comma text) comma
              → NodeReads own threshold text seen stored before mid (node_at threshold text names k room seen at) (Err e)
          no_comma_way own e t is =
              node-refused own threshold text seen stored before mid (node_at threshold text names k room seen at) e
              (rw (is, behind_first_is)
              (comma-missing text next.at comma passed (is_given threshold) (λ e s p. read_forest (is_given threshold) (k - 1) names (room - 1) e s p) seen
              first.tree t))

          pub first_grown : Given count table before seen stored → Grown count table mid next.seen next.stored
          first_grown g = tree-grown reader names holds (here + 1) seen stored before mid mask next (room - 1) (k - 1) g first

          -- a comma, and the other children
          module _ (t : next_is 44 (drop comma text) ≡ true) where
            pub comma-inside : (here + 1 < comma) × (comma < length text)
            comma-inside =
                let i = next_is_inside text comma 44 t in
                let m = tree-moves reader names holds (here + 1) seen stored before mid mask next (room - 1) (k - 1) first in
                (omega (arith, passed, m.0), i)

            pub others_fall : 2 * (length text - (comma + 1)) + 1 < 2 * (length text - at) - 1
            others_fall = let i = comma-inside in omega (arith, i.0, i.1, skipped)

            behind-comma_is :
                node_at threshold text names k room seen at
                ≡ and_then (forest_at threshold text names (k - 1) (room - 1) next.seen (comma + 1)) (λ f s p. closing (is_given threshold) first.tree f s p)
            behind-comma_is =
                behind_first_is
                ∙ comma_follows text next.at comma passed (is_given threshold) (λ e s p. read_forest (is_given threshold) (k - 1) names (room - 1) e s p) seen
                first.tree t
                ∙ ap
                (λ (e : ℕ).
                and_then (forest_at threshold text names (k - 1) (room - 1) e (comma + 1)) (λ f s p. closing (is_given threshold) first.tree f s p))
                (sym first.seen_is)

            module _ (rest : ListCall (onwards (inside a here) next mid comma)) where
              open rest use {after as mid₂, result as result₂, reads as reads₂}

              others-told :
                  ListReads threshold text next.seen next.stored mid mid₂
                  (forest_at threshold text names (k - 1) (room - 1) next.seen (comma + 1)) result₂
              others-told =
                  list-told reader names holds (onwards (inside a here) next mid comma).cursor mid mid₂ result₂ (room - 1)
                  (k - 1) reads₂
                  (let f = others_fall in omega arith)

              pub others-refused_way :
                  (own : Threshold) (e : Refusal) → result₂ ≡ Err e
                  → NodeReads own threshold text seen stored before mid₂ (node_at threshold text names k room seen at) (Err e)
              others-refused_way own e told₂ =
                  let h =
                  refused-list threshold text next.seen next.stored mid mid₂
                  (forest_at threshold text names (k - 1) (room - 1) next.seen (comma + 1)) result₂ e others-told told₂
                  in
                  node-refused own threshold text seen stored before mid₂ (node_at threshold text names k room seen at) e
                  (rw (behind-comma_is, ← h))

              module _ (mask₂ : ℕ) (end : Cursor) (told₂ : result₂ ≡ read_as mask₂ end) where
                others :
                    ForestRead threshold text next.seen next.stored mid mid₂ (forest_at threshold text names (k - 1) (room - 1) next.seen (comma + 1))
                    mask₂ end
                others =
                    read-list threshold text next.seen next.stored mid mid₂ (forest_at threshold text names (k - 1) (room - 1) next.seen (comma + 1))
                    result₂ mask₂ end others-told told₂

                pub others-grown : Given count table before seen stored → Grown count table mid₂ end.seen end.stored
                others-grown g =
                    forest-grown reader names holds (comma + 1) next.seen next.stored mid mid₂ mask₂ end (room - 1) (k - 1)
                    (first_grown g).given others

                closing_is :
                    and_then (and_then (inner_name (drop end.at text) end.at) (λ w s p. supported (is_given threshold) w s p))
                    (λ b s p. parsed (node first.tree others.forest b) s p)
                    ≡ node_at threshold text names k room seen at
                unfolding closing_by
                closing_is =
                    rw (behind-comma_is, others.answered)
                    (and_then-assoc (inner_name (drop end.at text) end.at) (λ w s p. supported (is_given threshold) w s p)
                    (λ b s p. parsed (node first.tree others.forest b) s p))

                pub node_way :
                    (own : Threshold) (whole : ℕ) (read : Result Figures Refusal)
                    → whole ≡ union mask mask₂
                    → behind_says text (inner_word (drop end.at text)) read
                    ≡ and_then (inner_name (drop end.at text) end.at) (λ w s p. supported (is_given threshold) w s p)
                    → behind_valued text read
                    → NodeReads own threshold text seen stored before (kept_behind own whole end.stored mid₂ read) (node_at threshold text names k room seen at)
                    (ended_by own whole end.seen end.stored read)
                unfolding cluster
                node_way own whole read whole_is says values =
                    let u = first.tree in
                    let f = others.forest in
                    let mask_is : whole ≡ union (cluster u) (cluster_of f) = rw (← first.mask_is, ← others.mask_is) whole_is in
                    (node-ended own threshold own text seen stored before (node_at threshold text names k room seen at)
                    (inner_word (drop end.at text)) read
                    (and_then (inner_name (drop end.at text) end.at) (λ w s p. supported (is_given threshold) w s p))
                    (λ b. node u f b)
                    whole
                    (left_in threshold threshold u ++ left_in_of threshold f)
                    mid₂
                    end.seen
                    end.stored
                    says
                    values
                    closing_is
                    (λ b. mask_is)
                    (λ b. rw (mask_is, left_node own threshold u f b))
                    (tables-joined before mid mid₂ stored next.stored (left_in threshold threshold u) (left_in_of threshold f) first.table_is
                    first.stored_is
                    others.table_is)
                    (sets-joined seen next.seen end.seen (cluster u) (cluster_of f) whole first.seen_is others.seen_is mask_is)
                    (counts-joined stored next.stored end.stored (left_in threshold threshold u) (left_in_of threshold f) first.stored_is
                    others.stored_is))

  -- ---- a list of nodes, up to its closing (is_given threshold) parenthesis

  module _ (k : ℕ) (deep : 2 * (length text - at) + 1 < k) where
    begins_is :
        forest_at threshold text names k room seen at
        ≡ and_then (node_at threshold text names (k - 1) room seen at)
        (λ t s p. after_child (next_is 44 (skip s)) (next_is 41 (skip s)) (λ e s p. read_forest (is_given threshold) (k - 1) names room e s p) seen t (skip s)
        (p + blanks s))
    begins_is =
        let e : k ≡ suc (k - 1) = omega arith in
        ap (λ (i : ℕ). forest_at threshold text names i room seen at) e ∙ list_begins (is_given threshold) (k - 1) names room seen (drop at text) at

    module _ (one : NodeCall threshold a) where
      open one use {after as mid, result, reads}

      child-told : NodeReads threshold threshold text seen stored before mid (node_at threshold text names (k - 1) room seen at) result
      child-told = node-told reader names holds cursor before mid result room (k - 1) threshold reads (omega arith)

      pub child-refused_way :
          (e : Refusal) → result ≡ Err e → ListReads threshold text seen stored before mid (forest_at threshold text names k room seen at) (Err e)
      child-refused_way e told =
          let h = refused-node threshold threshold text seen stored before mid (node_at threshold text names (k - 1) room seen at) result e child-told told in
          list-refused threshold text seen stored before mid (forest_at threshold text names k room seen at) e
          (rw (begins_is, ← h))

      module _ (followed : Followed text result) where
        open followed use {read, told, here, passed}
        open read use {mask, next}

        child : TreeRead threshold threshold text seen stored before mid (node_at threshold text names (k - 1) room seen at) mask next
        child = read-node threshold threshold text seen stored before mid (node_at threshold text names (k - 1) room seen at) result mask next child-told told

        behind-child_is :
            forest_at threshold text names k room seen at
            ≡ after_child (next_is 44 (skip (drop next.at text))) (next_is 41 (skip (drop next.at text)))
            (λ e s p. read_forest (is_given threshold) (k - 1) names room e s p)
            seen
            child.tree
            (skip (drop next.at text))
            (next.at + blanks (drop next.at text))
        behind-child_is = rw (begins_is, child.answered)

        pub list-stray_way :
            (e : Refusal) → next_is 44 (drop here text) ≡ false → next_is 41 (drop here text) ≡ false → e ≡ stray_at (drop here text) here
            → ListReads threshold text seen stored before mid (forest_at threshold text names k room seen at) (Err e)
        list-stray_way e t u is =
            list-refused threshold text seen stored before mid (forest_at threshold text names k room seen at) e
            (rw (is, behind-child_is)
            (list-stray text next.at here passed (λ e s p. read_forest (is_given threshold) (k - 1) names room e s p) seen child.tree t u))

        pub last_way :
            next_is 44 (drop here text) ≡ false → next_is 41 (drop here text) ≡ true
            → ListReads threshold text seen stored before mid (forest_at threshold text names k room seen at)
            (read_as mask (record { at = here + 1; seen = next.seen; stored = next.stored }))
        unfolding cluster
        last_way t u =
            list_read threshold text seen stored before mid (forest_at threshold text names k room seen at) mask
            (record { at = here + 1; seen = next.seen; stored = next.stored })
            (record {
              forest = last child.tree;
              answered =
                  behind-child_is ∙ list-closes text next.at here passed (λ e s p. read_forest (is_given threshold) (k - 1) names room e s p) seen
                  child.tree t u;
              mask_is = child.mask_is;
              seen_is = child.seen_is;
              stored_is = rw (left_of_last threshold child.tree) child.stored_is;
              table_is = rw (left_of_last threshold child.tree) child.table_is;
            })

        pub child-grown : Given count table before seen stored → Grown count table mid next.seen next.stored
        child-grown g = tree-grown reader names holds at seen stored before mid mask next room (k - 1) g child

        -- a comma, and more
        module _ (t : next_is 44 (drop here text) ≡ true) where
          pub rest-falls : 2 * (length text - (here + 1)) + 1 < 2 * (length text - at)
          rest-falls =
              let i = next_is_inside text here 44 t in
              let m = tree-moves reader names holds at seen stored before mid mask next room (k - 1) child in
              omega (arith, passed, m.0)

          goes_on_is :
              forest_at threshold text names k room seen at
              ≡ and_then (forest_at threshold text names (k - 1) room next.seen (here + 1)) (λ f s p. parsed (more child.tree f) s p)
          goes_on_is =
              behind-child_is
              ∙ list_goes_on text next.at here passed (λ e s p. read_forest (is_given threshold) (k - 1) names room e s p) seen child.tree t
              ∙ ap
              (λ (e : ℕ). and_then (forest_at threshold text names (k - 1) room e (here + 1)) (λ f s p. parsed (more child.tree f) s p))
              (sym child.seen_is)

          module _ (others : ListCall (onwards a next mid here)) where
            open others use {after as mid₂, result as result₂, reads as reads₂}

            rest-told :
                ListReads threshold text next.seen next.stored mid mid₂ (forest_at threshold text names (k - 1) room next.seen (here + 1)) result₂
            rest-told =
                list-told reader names holds (onwards a next mid here).cursor mid mid₂ result₂ room (k - 1) reads₂
                (let f = rest-falls in omega arith)

            pub rest-refused_way :
                (e : Refusal) → result₂ ≡ Err e → ListReads threshold text seen stored before mid₂ (forest_at threshold text names k room seen at) (Err e)
            rest-refused_way e told₂ =
                let h =
                refused-list threshold text next.seen next.stored mid mid₂ (forest_at threshold text names (k - 1) room next.seen (here + 1)) result₂ e
                rest-told told₂
                in
                list-refused threshold text seen stored before mid₂ (forest_at threshold text names k room seen at) e
                (rw (goes_on_is, ← h))

            pub more_way :
                (mask₂ : ℕ) (end : Cursor) (whole : ℕ) → result₂ ≡ read_as mask₂ end → whole ≡ union mask mask₂
                → ListReads threshold text seen stored before mid₂ (forest_at threshold text names k room seen at) (read_as whole end)
            unfolding cluster
            more_way mask₂ end whole told₂ whole_is =
                let rest =
                read-list threshold text next.seen next.stored mid mid₂
                (forest_at threshold text names (k - 1) room next.seen (here + 1)) result₂ mask₂ end
                rest-told told₂
                in
                let u = child.tree in
                let f = rest.forest in
                let mask_is : whole ≡ union (cluster u) (cluster_of f) = rw (← child.mask_is, ← rest.mask_is) whole_is in
                list_read threshold text seen stored before mid₂ (forest_at threshold text names k room seen at) whole end
                (record {
                  forest = more u f;
                  answered = goes_on_is ∙ ap (λ (a : Answer Forest). and_then a (λ f s p. parsed (more u f) s p)) rest.answered;
                  mask_is = mask_is;
                  seen_is = rw (← mask_is) (sets-joined seen next.seen end.seen (cluster u) (cluster_of f) whole child.seen_is rest.seen_is mask_is);
                  stored_is =
                      rw (left_of_more threshold u f)
                      (counts-joined stored next.stored end.stored (left_in threshold threshold u) (left_in_of threshold f) child.stored_is
                      rest.stored_is);
                  table_is =
                      rw (left_of_more threshold u f)
                      (tables-joined before mid mid₂ stored next.stored (left_in threshold threshold u) (left_in_of threshold f) child.table_is
                      child.stored_is rest.table_is);
                })
