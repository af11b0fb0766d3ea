-- One step of reading a node, and of reading a list of nodes, from a place of the text.
use Prim.Native.Nat.{ℕ, suc, ◌+◌}
use mathlib.Core.Path.{◌≡◌, refl}
use mathlib.Core.Bool.{Bool, true, false}
use mathlib.Core.List.{List}
use lib.ListN.{drop}
use Rattle.clusters.specs.Sets.{union, within}
use Rattle.labels.specs.Bytes.{next_is, next_label}
use Rattle.trees.specs.Tree.{Tree, Forest, cluster}
use Rattle.trees.specs.Tree.Forest.{last, more}
use Rattle.tokens.specs.Answers.{Answer, and_then}
use Rattle.tokens.specs.Answers.Answer.{parsed, refused}
use Rattle.tokens.specs.Tokens.{blanks, skip}
use Rattle.tokens.specs.Says.{refusal, stray_at}
use Rattle.nodes.specs.Reading.{leaf_at, closing, after_first, after_child, read_node, read_forest, ended, read_forest_by, read_node_by}
use Rattle.nodes.specs.Core.{no_comma_at, no_comma_by}
use Rattle.tokens.proofs.Places.{skip_to, tail_at, stray-unexpected}

-- the blanks from `at` on end at `here`
module _ (text : List ℕ) (at here : ℕ) (skipped : here ≡ at + blanks (drop at text)) where
  module _ (given : Bool) (names : List (List ℕ)) (k seen : ℕ) where
    pub node_is_leaf :
        (room : ℕ) → next_label (drop here text) ≡ true
        → read_node given (suc k) names room seen (drop at text) at ≡ leaf_at given names seen (drop here text) here
    unfolding read_node_by
    node_is_leaf room t = rw (skip_to text at here skipped, t, ← skipped)

    module _ (leafless : next_label (drop here text) ≡ false) where
      pub node-stray :
          (room : ℕ) → next_is 40 (drop here text) ≡ false → refusal (stray_at (drop here text) here) ≡ read_node given (suc k) names room seen (drop at text) at
      unfolding read_node_by
      node-stray room t = rw (skip_to text at here skipped, leafless, t, ← skipped) (stray-unexpected (drop here text) here)

      module _ (opens : next_is 40 (drop here text) ≡ true) where
        pub node-full : refused 8 here ≡ read_node given (suc k) names 0 seen (drop at text) at
        unfolding read_node_by
        node-full = rw (skip_to text at here skipped, leafless, opens, ← skipped)

        pub node-opened :
            (room : ℕ)
            → read_node given (suc k) names (suc room) seen (drop at text) at
            ≡ and_then (read_node given k names room seen (drop (here + 1) text) (here + 1))
            (λ t s p. after_first given (next_is 44 (skip s)) (next_is 41 (skip s)) (λ e s p. read_forest given k names room e s p) seen t (skip s) (p + blanks s))
        unfolding read_node_by
        node-opened room = rw (skip_to text at here skipped, leafless, opens, ← skipped, tail_at text here)

  -- behind a first child
  module _ (given : Bool) (others : ℕ → List ℕ → ℕ → Answer Forest) (seen : ℕ) (t : Tree) where
    pub comma_follows :
        next_is 44 (drop here text) ≡ true
        → after_first given (next_is 44 (skip (drop at text))) (next_is 41 (skip (drop at text))) others seen t (skip (drop at text)) (at + blanks (drop at text))
        ≡ and_then (others (union seen (cluster t)) (drop (here + 1) text) (here + 1)) (λ f s p. closing given t f s p)
    comma_follows c = rw (skip_to text at here skipped, c, ← skipped, tail_at text here)

    pub comma-missing :
        next_is 44 (drop here text) ≡ false
        → refusal (no_comma_at (drop here text) here)
        ≡ after_first given (next_is 44 (skip (drop at text))) (next_is 41 (skip (drop at text))) others seen t (skip (drop at text)) (at + blanks (drop at text))
    unfolding no_comma_at
    comma-missing c = rw (skip_to text at here skipped, c, ← skipped) (by_byte (next_is 41 (drop here text)))
      where
        by_byte : (u : Bool) → refusal (no_comma_by u (drop here text) here) ≡ after_first given false u others seen t (drop here text) here
        by_byte true = refl
        by_byte false = stray-unexpected (drop here text) here

  -- behind a later one
  module _ (others : ℕ → List ℕ → ℕ → Answer Forest) (seen : ℕ) (t : Tree) where
    pub list_goes_on :
        next_is 44 (drop here text) ≡ true
        → after_child (next_is 44 (skip (drop at text))) (next_is 41 (skip (drop at text))) others seen t (skip (drop at text)) (at + blanks (drop at text))
        ≡ and_then (others (union seen (cluster t)) (drop (here + 1) text) (here + 1)) (λ f s p. parsed (more t f) s p)
    list_goes_on c = rw (skip_to text at here skipped, c, ← skipped, tail_at text here)

    pub list-closes :
        next_is 44 (drop here text) ≡ false → next_is 41 (drop here text) ≡ true
        → after_child (next_is 44 (skip (drop at text))) (next_is 41 (skip (drop at text))) others seen t (skip (drop at text)) (at + blanks (drop at text))
        ≡ parsed (last t) (drop (here + 1) text) (here + 1)
    list-closes c d = rw (skip_to text at here skipped, c, d, ← skipped, tail_at text here)

    pub list-stray :
        next_is 44 (drop here text) ≡ false → next_is 41 (drop here text) ≡ false
        → refusal (stray_at (drop here text) here)
        ≡ after_child (next_is 44 (skip (drop at text))) (next_is 41 (skip (drop at text))) others seen t (skip (drop at text)) (at + blanks (drop at text))
    list-stray c d = rw (skip_to text at here skipped, c, d, ← skipped) (stray-unexpected (drop here text) here)

  -- behind the root
  module _ (needed : ℕ) (t : Tree) where
    pub end_missing :
        next_is 59 (drop here text) ≡ false
        → refusal (stray_at (drop here text) here) ≡ ended (next_is 59 (skip (drop at text))) needed t (skip (drop at text)) (at + blanks (drop at text))
    end_missing c = rw (skip_to text at here skipped, c, ← skipped) (stray-unexpected (drop here text) here)

    pub species-missing :
        next_is 59 (drop here text) ≡ true → within needed (cluster t) ≡ false
        → refused 9 here ≡ ended (next_is 59 (skip (drop at text))) needed t (skip (drop at text)) (at + blanks (drop at text))
    species-missing c d = rw (skip_to text at here skipped, c, d, ← skipped)

    pub tree_ends :
        next_is 59 (drop here text) ≡ true → within needed (cluster t) ≡ true
        → ended (next_is 59 (skip (drop at text))) needed t (skip (drop at text)) (at + blanks (drop at text)) ≡ parsed t (drop (here + 1) text) (here + 1)
    tree_ends c d = rw (skip_to text at here skipped, c, d, ← skipped, tail_at text here)

-- a list begins with a node
pub list_begins :
    (given : Bool) (k : ℕ) (names : List (List ℕ)) (room seen : ℕ) (s : List ℕ) (p : ℕ)
    → read_forest given (suc k) names room seen s p
    ≡ and_then (read_node given k names room seen s p)
    (λ t s p. after_child (next_is 44 (skip s)) (next_is 41 (skip s)) (λ e s p. read_forest given k names room e s p) seen t (skip s) (p + blanks s))
unfolding read_forest_by
list_begins given k names room seen s p = refl
