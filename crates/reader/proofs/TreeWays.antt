-- The ways through reading a tree, and that the species of a tree that is read are new, each of them.
use Prim.Native.Nat.{ℕ, ◌+◌, ◌-◌, ◌*◌, ◌<◌}
use mathlib.Core.Path.{◌≡◌, ◌∙◌}
use mathlib.Core.Bool.{Bool, true, false}
use mathlib.Core.List.{List}
use lib.ListN.{length, drop}
use Rattle.std.specs.Prelude.{Err, None}
use Rattle.clusters.specs.Sets.{within}
use Rattle.trees.specs.Tree.{Tree, cluster}
use Rattle.faults.specs.declared.Fault.TheVariants.{MissingSpecies}
use Rattle.labels.specs.Bytes.{next_is}
use Rattle.tokens.specs.Answers.Answer.{parsed}
use Rattle.tokens.specs.Tokens.{blanks, skip}
use Rattle.tokens.specs.Says.{stray_at}
use Rattle.faults.specs.declared.Refusal.{Refusal}
use Rattle.tokens.specs.Supports.{is_given}
use Rattle.nodes.specs.Reading.{read_node, complete, ended, read_tree, read_tree_to, read_tree_by, read_tree_to_by}
use Rattle.nodes.specs.Core.{Holds, NodeReads}
use Rattle.nodes.specs.declared.Reader.{Reader}
use Rattle.nodes.proofs.Answers.{refused-parsed, and_then-parsed, unexpected-parsed}
use Rattle.nodes.proofs.Growth.{FreshTree, read_node-fresh}
use Rattle.nodes.proofs.NodeAnswers.{read_as, node-refused, refused-node, TreeRead, node-read, read-node}
use Rattle.nodes.proofs.NodeSteps.{end_missing, species-missing, tree_ends}
use Rattle.nodes.proofs.NodeWays.{Asked, NodeCall, Followed, node-told}

-- ---- a node and `;`

-- a tree is read from its start on: nothing was met before
abbrev pub from_start : Reader → ℕ → ℕ → List ℕ → Asked
from_start reader start room before = record {
  reader = reader;
  cursor = record { at = start; seen = 0; stored = 0 };
  room = room;
  before = before;
}

module _
    (reader : Reader) (names : List (List ℕ)) (holds : Holds names reader.count reader.table.now) (start needed room : ℕ) (before : List ℕ) (k : ℕ)
    (deep : 2 * (length reader.text.now - start) < k) (one : NodeCall None (from_start reader start room before))
  where
    open one use {after as mid, result, reads}
    open reader use {threshold, text as read_from}
    open read_from use {now as text}

    root_told : NodeReads None threshold text 0 0 before mid (read_node (is_given threshold) k names room 0 (drop start text) start) result
    root_told = node-told reader names holds (record { at = start; seen = 0; stored = 0 }) before mid result room k None reads deep

    pub root-refused_way :
        (e : Refusal) → result ≡ Err e → NodeReads None threshold text 0 0 before mid (read_tree_to (is_given threshold) k names room needed (drop start text) start) (Err e)
    unfolding read_tree_to_by
    root-refused_way e told =
        let h = refused-node None threshold text 0 0 before mid (read_node (is_given threshold) k names room 0 (drop start text) start) result e root_told told in
        node-refused None threshold text 0 0 before mid (read_tree_to (is_given threshold) k names room needed (drop start text) start) e (rw (← h))

    module _ (followed : Followed text result) where
      open followed use {read, told, here, passed}
      open read use {mask, next}

      root : TreeRead None threshold text 0 0 before mid (read_node (is_given threshold) k names room 0 (drop start text) start) mask next
      root = read-node None threshold text 0 0 before mid (read_node (is_given threshold) k names room 0 (drop start text) start) result mask next root_told told

      behind-root_is :
          read_tree_to (is_given threshold) k names room needed (drop start text) start
          ≡ ended (next_is 59 (skip (drop next.at text))) needed root.tree (skip (drop next.at text)) (next.at + blanks (drop next.at text))
      unfolding read_tree_to_by
      behind-root_is = rw root.answered

      pub end_missing_way :
          (e : Refusal) → next_is 59 (drop here text) ≡ false → e ≡ stray_at (drop here text) here
          → NodeReads None threshold text 0 0 before mid (read_tree_to (is_given threshold) k names room needed (drop start text) start) (Err e)
      end_missing_way e t is =
          node-refused None threshold text 0 0 before mid (read_tree_to (is_given threshold) k names room needed (drop start text) start) e
          (rw (is, behind-root_is) (end_missing text next.at here passed needed root.tree t))

      module _ (t : next_is 59 (drop here text) ≡ true) where
        pub species-missing_way :
            within needed mask ≡ false
            → NodeReads None threshold text 0 0 before mid (read_tree_to (is_given threshold) k names room needed (drop start text) start) (Err (record { fault = MissingSpecies; place = here }))
        species-missing_way w =
            node-refused None threshold text 0 0 before mid (read_tree_to (is_given threshold) k names room needed (drop start text) start) (record { fault = MissingSpecies; place = here })
            (rw (behind-root_is) (species-missing text next.at here passed needed root.tree t (rw root.mask_is at w)))

        pub tree_way :
            within needed mask ≡ true
            → NodeReads None threshold text 0 0 before mid (read_tree_to (is_given threshold) k names room needed (drop start text) start)
            (read_as mask (record { at = here + 1; seen = next.seen; stored = next.stored }))
        tree_way w =
            node-read None threshold text 0 0 before mid (read_tree_to (is_given threshold) k names room needed (drop start text) start) mask
            (record { at = here + 1; seen = next.seen; stored = next.stored })
            (record {
              tree = root.tree;
              answered = behind-root_is ∙ tree_ends text next.at here passed needed root.tree t (rw root.mask_is at w);
              mask_is = root.mask_is;
              seen_is = root.seen_is;
              stored_is = root.stored_is;
              table_is = root.table_is;
            })

-- ---- the tree is the root's

complete_same : (t : Bool) (c : Tree) (s : List ℕ) (p : ℕ) {x : Tree} {rest : List ℕ} {q : ℕ} → complete t c s p ≡ parsed x rest q → x ≡ c
complete_same true c s p e = cc
complete_same false c s p e = absurd (refused-parsed e)

ended_same : (t : Bool) (needed : ℕ) (c : Tree) (s : List ℕ) (p : ℕ) {x : Tree} {rest : List ℕ} {q : ℕ} → ended t needed c s p ≡ parsed x rest q → x ≡ c
ended_same true needed c s p e = complete_same (within needed (cluster c)) c s p e
ended_same false needed c s p e = absurd (unexpected-parsed s p e)

pub tree-fresh :
    (given : Bool) (names : List (List ℕ)) (most needed : ℕ) (s : List ℕ) (p : ℕ) {x : Tree} {rest : List ℕ} {q : ℕ}
    → read_tree given names most needed s p ≡ parsed x rest q → FreshTree (length names) 0 x
unfolding read_tree_by read_tree_to_by
tree-fresh given names most needed s p e =
    let k = 2 * length s + 1 in
    let r = and_then-parsed (read_node given k names most 0 s p) (λ t s p. ended (next_is 59 (skip s)) needed t (skip s) (p + blanks s)) e in
    let m = r.left in
    let is = ended_same (next_is 59 (skip m)) needed r.value (skip m) (r.place + blanks m) r.after in
    rw is (read_node-fresh given k names most 0 s p r.value m r.place r.first)
