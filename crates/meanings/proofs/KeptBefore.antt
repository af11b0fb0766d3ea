-- Where a tree text is refused, nothing is at fault before any place up to the last of the bytes that decide it: the refusal is the first fault met.
use Prim.Native.Nat.{ℕ, zero, suc, ◌+◌, ◌-◌, ◌*◌, ◌≤◌, ◌<◌}
use native.Mathlib.Omega.{arith}
use mathlib.Core.Path.{◌≡◌, refl, ap}
use mathlib.Core.Logic.{⊎_elim}
use mathlib.Core.Bool.{Bool, true, false, ◌||◌}
use mathlib.Core.List.Memᴰ
use mathlib.Core.List.{List, [], ◌∷◌, ◌++◌, tail}
use lib.ListN.{length}
use lib.Dec.{eqb, ltb}
use borrow.Author.Tests.{ltb-true}
use Rattle.clusters.specs.Sets.{Has, single, union, apart, within}
use Rattle.clusters.proofs.Members.{single-has}
use Rattle.clusters.proofs.Sets.{apart-true}
use Rattle.labels.specs.Bytes.{next_is, next_label}
use Rattle.labels.specs.Spelling.{Spells}
use Rattle.labels.proofs.OpenLabels.{Open}
use Rattle.trees.specs.Lists.{Among}
use Rattle.trees.specs.Tree.{Tree, Forest, leaves, leaves_of, cluster, cluster_of}
use Rattle.trees.specs.Tree.Tree.{leaf}
use Rattle.trees.specs.Tree.Forest.{more}
use Rattle.trees.proofs.Listing.{none_twice_one}
use Rattle.trees.proofs.Nodes.{leaf-has, leaf_of-has}
use Rattle.roster.specs.Roster.{position}
use Rattle.tokens.specs.Answers.{Answer, and_then, unexpected}
use Rattle.tokens.specs.Answers.Answer.{parsed, refused}
use Rattle.tokens.specs.Tokens.{blanks, skip, name}
use Rattle.tokens.specs.Supports.{supported}
use Rattle.nodes.specs.Reading.{leaf_new, leaf_known, leaf_at, closing, after_first, opened, node_by, after_child, read_node, read_forest, complete, ended as ended_by, read_tree_to, read_tree}
use Rattle.nodes.specs.Reading.{leaf_by, read_forest_by, read_node_by, read_tree_by, read_tree_to_by}
use Rattle.nodes.specs.Grammar.{Blanks}
use Rattle.nodes.specs.Deciding.{border}
use Rattle.nodes.proofs.Answers.{Reached, parsed-refused, and_then-refused}
use Rattle.nodes.proofs.Rests.{advances_shorter, skip-tail, read_node_advances}
use Rattle.nodes.proofs.Sound.{next_is_cons, name-read, NodeRead, joins, read_node_sound, read_forest_sound}
use Rattle.nodes.proofs.Fronts.{Then, BlanksAnd}
use Rattle.meanings.specs.Meaning.{Kept}
use Rattle.meanings.proofs.MeaningContexts.{front_shorter}
use Rattle.meanings.proofs.ReadingSteps.{name-ended, Step, step_then, step_skip, step-byte, step_here, step-name, step-node, step-forest, Stands, stands_on}
use Rattle.meanings.proofs.KeptRules.{kept-before}
use Rattle.meanings.proofs.FreshSpecies.{Fresh, fresh-apart}
use Rattle.meanings.proofs.KeptContexts.{MayFollow, NodeIn, ChildrenIn, NumbersIn, ClosingIn, NodeOf, ChildrenOf, stand_on, stand-before, stand_as, blanks-node, opened-node}
use Rattle.meanings.proofs.KeptContexts.{comma-children, children-closing, last_child, child-comma, leaf-numbers, node_at_front}
use Rattle.meanings.proofs.KeptPlaces.{NoneIn, open_leaf_kept, node_here, first_child_here, later_child_here, root_here}
use Rattle.meanings.proofs.KeptTill.{KeptTill, till_here, unexpected-till}
use Rattle.meanings.proofs.KeptTokens.{ended-till, label-till, name-till, supported-till, closing-till}

module _ (given : Bool) (names : List (List ℕ)) (most : ℕ) (s₀ : List ℕ) (p₀ : ℕ) where
  abbrev Till : ℕ → ℕ → Type 0
  Till n q = KeptTill given names most s₀ p₀ n q

  abbrev NodeMay : ℕ → ℕ → List ℕ → Type 0
  NodeMay room seen u = MayFollow given names most (NodeIn given names room seen) u

  abbrev ChildrenMay : ℕ → ℕ → List ℕ → Type 0
  ChildrenMay room seen u = MayFollow given names most (ChildrenIn given names room seen) u

  -- ---- leaves

  single-fresh : (i seen : ℕ) → apart (single i) seen ≡ true → Fresh names seen (i ∷ [])
  single-fresh i seen is =
      fresh-apart names seen (single i) (i ∷ []) (none_twice_one i) (λ j h. rw (Memᴰ.eq_of_singleton h) (single-has i)) (apart-true (single i) seen is)

  module _ {u s : List ℕ} {p : ℕ} (room seen : ℕ) (st : Stands s₀ p₀ u s p) (may : NodeMay room seen u) (is : next_label s ≡ true) where
    opened-kept : (j : ℕ) → Open s j → Kept given names most s₀ (length u + j)
    opened-kept j o = open_leaf_kept given names st.left may o

    -- refused by 5 or 6
    judged-till : {w rest : List ℕ} {r : ℕ} (number : ℕ) → (eqb number 5 || eqb number 6) ≡ true → name s p ≡ parsed w rest r → Till number p
    judged-till number judged h =
        let e = name-ended s p h in
        label-till given 0 st opened-kept (ended-till number s e.0 judged is e.1) (omega arith)

    leaf_new-till :
        {w rest : List ℕ} {r n q : ℕ} (t : Bool) → name s p ≡ parsed w rest r → position w names < length names
        → apart (single (position w names)) seen ≡ t → leaf_new given t (position w names) p rest r ≡ refused n q → Till n q
    leaf_new-till {n = n} {q = q} false h known again e =
        let number : n ≡ 6 = cc in
        let at : q ≡ p = cc in
        rw (number, at) (judged-till 6 refl h)
    leaf_new-till {w} {rest} {r} true h known again e =
        let x = step-name s p is h in
        let i = position w names in
        ⊎_elim
        (λ f.
        supported-till given [] (stands_on st x)
        (stand_on given names (NodeIn given names room seen) (NumbersIn given names) (Spells w)
        (leaf-numbers given names room seen i w (name-read s p is h).short refl known (single-fresh i seen again)) may x.front)
        f)
        (λ f. absurd (parsed-refused f.after))
        (and_then-refused (supported given [] rest r) (λ b s p. parsed (leaf i b) s p) e)

    leaf_known-till :
        {w rest : List ℕ} {r n q : ℕ} (t : Bool) → name s p ≡ parsed w rest r → ltb (position w names) (length names) ≡ t
        → leaf_known given t (position w names) seen p rest r ≡ refused n q → Till n q
    leaf_known-till {n = n} {q = q} false h known e =
        let number : n ≡ 5 = cc in
        let at : q ≡ p = cc in
        rw (number, at) (judged-till 5 refl h)
    leaf_known-till {w} true h known e =
        leaf_new-till (apart (single (position w names)) seen) h (ltb-true (position w names) (length names) known) refl e

    leaf-till : {n q : ℕ} → leaf_at given names seen s p ≡ refused n q → Till n q
    unfolding leaf_by
    leaf-till e =
        ⊎_elim (λ f. name-till given st opened-kept f)
        (λ f. leaf_known-till (ltb (position f.value names) (length names)) f.first refl f.after)
        (and_then-refused (name s p) (λ w rest q. leaf_known given (ltb (position w names) (length names)) (position w names) seen p rest q) e)

  -- ---- nodes

  -- what the induction shows of a node and of the children behind a first comma
  abbrev NodeTill : ℕ → Type 0
  NodeTill k =
      (room seen : ℕ) (u s : List ℕ) (p n q : ℕ) → Stands s₀ p₀ u s p → NodeMay room seen u → 2 * length s < k
      → read_node given k names room seen s p ≡ refused n q → Till n q

  abbrev ForestTill : ℕ → Type 0
  ForestTill k =
      (room seen : ℕ) (u s : List ℕ) (p n q : ℕ) → Stands s₀ p₀ u s p → ChildrenMay room seen u → 2 * length s + 1 < k
      → read_forest given k names room seen s p ≡ refused n q → Till n q

  -- the leaves of a first child and of the others
  joined-has : (t : Tree) (f : Forest) (i : ℕ) → Among i (leaves t ++ leaves_of f) → Has (union (cluster t) (cluster_of f)) i
  unfolding leaves_of cluster_of
  joined-has t f i h = leaf_of-has (more t f) i h

  -- a child that was read is fresh
  child-fresh : {room seen : ℕ} {s rest : List ℕ} {t : Tree} → NodeRead given names room seen s t rest → Fresh names seen (leaves t)
  child-fresh {seen = seen} {t = t} r = fresh-apart names seen (cluster t) (leaves t) r.once (leaf-has t) r.new

  module _ (k : ℕ) (nodes : NodeTill k) (forests : ForestTill k) where
    module _ (u s : List ℕ) (p room seen : ℕ) (st : Stands s₀ p₀ u s p) (may : NodeMay (suc room) seen u) (fuel : 2 * length s < suc k)
        (is : next_is 40 s ≡ true) where
      opening : Step (BlanksAnd 40) s p (tail s) (p + 1)
      opening = step_here 40 s p is

      inside : Stands s₀ p₀ (u ++ opening.front.bytes) (tail s) (p + 1)
      inside = stands_on st opening

      inside_may : NodeMay room seen (u ++ opening.front.bytes)
      unfolding next_label
      inside_may =
          stand-before given names (NodeIn given names (suc room) seen) (NodeIn given names room seen) (BlanksAnd 40) 44 (97 ∷ 41 ∷ []) refl
          (opened-node given names room seen) may opening.front

      inside_left : length s ≡ suc (length (tail s))
      inside_left = ap length (next_is_cons 40 s is)

      -- behind the first child t, which leaves m
      module _ (t : Tree) (m : List ℕ) (r : ℕ) (first : read_node given k names room seen (tail s) (p + 1) ≡ parsed t m r) where
        child : NodeRead given names room seen (tail s) t m
        child = read_node_sound given k names room seen (tail s) (p + 1) t m r first

        abbrev First : List ℕ → List ℕ → Type 0
        First = Then (BlanksAnd 40) (NodeOf given names room t)

        first_step : Step First s p m r
        first_step = step_then (BlanksAnd 40) (NodeOf given names room t) opening (step-node given names k room seen (tail s) (p + 1) first)

        gap_step : Step (Then First Blanks) s p (skip m) (r + blanks m)
        gap_step = step_then First Blanks first_step (step_skip m r)

        first_here : MayFollow given names most NoneIn (u ++ gap_step.front.bytes)
        first_here = first_child_here given names room seen t (child-fresh child) may gap_step.front

        module _ (comma : next_is 44 (skip m) ≡ true) where
          abbrev Comma : List ℕ → List ℕ → Type 0
          Comma = Then First (BlanksAnd 44)

          comma-step : Step Comma s p (tail (skip m)) (r + blanks m + 1)
          comma-step = step_then First (BlanksAnd 44) first_step (step-byte 44 m r comma)

          comma_left : length (tail (skip m)) < length m
          comma_left = advances_shorter (skip-tail 44 m r comma)

          child_left : length m < length (tail s)
          child_left = advances_shorter (read_node_advances given k names room seen (tail s) (p + 1) t m r first)

          others-till :
              {n q : ℕ}
              → and_then (read_forest given k names room (union seen (cluster t)) (tail (skip m)) (r + blanks m + 1)) (λ f s p. closing given t f s p) ≡ refused n q
              → Till n q
          others-till {n} {q} h =
              ⊎_elim
              (λ e. forests room (union seen (cluster t)) (u ++ comma-step.front.bytes) (tail (skip m)) (r + blanks m + 1) n q (stands_on st comma-step)
              (stand_on given names (NodeIn given names (suc room) seen) (ChildrenIn given names room (union seen (cluster t))) Comma
              (comma-children given names room seen t (child-fresh child)) may comma-step.front)
              (omega (arith, comma_left, child_left, inside_left)) e)
              closed
              (and_then-refused (read_forest given k names room (union seen (cluster t)) (tail (skip m)) (r + blanks m + 1)) (λ f s p. closing given t f s p) h)
            where
              closed :
                  Reached (read_forest given k names room (union seen (cluster t)) (tail (skip m)) (r + blanks m + 1)) (λ f s p. closing given t f s p) (refused n q)
                  → Till n q
              closed g =
                  let f = g.value in
                  let X = Then Comma (ChildrenOf given names room f) in
                  let others = read_forest_sound given k names room (union seen (cluster t)) (tail (skip m)) (r + blanks m + 1) f g.left g.place g.first in
                  let both = joins seen t f child.once child.new others.once others.new in
                  let fresh = fresh-apart names seen (union (cluster t) (cluster_of f)) (leaves t ++ leaves_of f) both.once (joined-has t f) both.new in
                  let w =
                  step_then Comma (ChildrenOf given names room f) comma-step
                  (step-forest given names k room (union seen (cluster t)) (tail (skip m)) (r + blanks m + 1) g.first)
                  in
                  closing-till given t f (stands_on st w)
                  (stand_on given names (NodeIn given names (suc room) seen) (ClosingIn given names) X (children-closing given names room seen t f fresh) may w.front)
                  g.after

        after_first-till :
            {n q : ℕ} (b c : Bool) → next_is 44 (skip m) ≡ b
            → after_first given b c (λ e s p. read_forest given k names room e s p) seen t (skip m) (r + blanks m) ≡ refused n q → Till n q
        after_first-till true c comma h = others-till comma h
        after_first-till {n} {q} false true comma h =
            let number : n ≡ 7 = cc in
            let at : q ≡ r + blanks m = cc in
            rw number (till_here given (stands_on st gap_step) at refl refl refl first_here)
        after_first-till false false comma h = unexpected-till given (stands_on st gap_step) Tree first_here h

      inner-till :
          {n q : ℕ}
          → opened given (λ r e s p. read_node given k names r e s p) (λ r e s p. read_forest given k names r e s p) (suc room) seen s p ≡ refused n q → Till n q
      inner-till {n} {q} h =
          ⊎_elim
          (λ e. nodes room seen (u ++ opening.front.bytes) (tail s) (p + 1) n q inside inside_may (omega (arith, inside_left)) e)
          (λ g. after_first-till g.value g.left g.place g.first (next_is 44 (skip g.left)) (next_is 41 (skip g.left)) refl g.after)
          (and_then-refused (read_node given k names room seen (tail s) (p + 1))
          (λ t s p. after_first given (next_is 44 (skip s)) (next_is 41 (skip s)) (λ e s p. read_forest given k names room e s p) seen t (skip s) (p + blanks s)) h)

    opened-till :
        (room seen : ℕ) (u s : List ℕ) (p n q : ℕ) → Stands s₀ p₀ u s p → NodeMay room seen u → 2 * length s < suc k → next_is 40 s ≡ true
        → opened given (λ r e s p. read_node given k names r e s p) (λ r e s p. read_forest given k names r e s p) room seen s p ≡ refused n q → Till n q
    opened-till zero seen u s p n q st may fuel is h =
        let number : n ≡ 8 = cc in
        let at : q ≡ p = cc in
        rw number (till_here given st at refl refl refl (node_here given names may))
    opened-till (suc room) seen u s p n q st may fuel is h = inner-till u s p room seen st may fuel is h

    node_by-till :
        (b c : Bool) (room seen : ℕ) (u s : List ℕ) (p n q : ℕ) → Stands s₀ p₀ u s p → NodeMay room seen u → 2 * length s < suc k
        → next_label s ≡ b → next_is 40 s ≡ c
        → node_by given b c names (λ r e s p. read_node given k names r e s p) (λ r e s p. read_forest given k names r e s p) room seen s p ≡ refused n q → Till n q
    node_by-till true c room seen u s p n q st may fuel is opens h = leaf-till room seen st may is h
    node_by-till false true room seen u s p n q st may fuel is opens h = opened-till room seen u s p n q st may fuel opens h
    node_by-till false false room seen u s p n q st may fuel is opens h = unexpected-till given st Tree (node_here given names may) h

    node-step : NodeTill (suc k)
    unfolding read_node_by
    node-step room seen u s p n q st may fuel h =
        let x = step_skip s p in
        let l : length (skip s) ≤ length s = front_shorter x.front in
        node_by-till (next_label (skip s)) (next_is 40 (skip s)) room seen (u ++ x.front.bytes) (skip s) (p + blanks s) n q (stands_on st x)
        (stand_on given names (NodeIn given names room seen) (NodeIn given names room seen) Blanks (blanks-node given names room seen) may x.front)
        (omega arith) refl refl h

    -- behind a later child
    module _ (u s : List ℕ) (p room seen : ℕ) (st : Stands s₀ p₀ u s p) (may : ChildrenMay room seen u) (fuel : 2 * length s + 1 < suc k) (t : Tree)
        (m : List ℕ) (r : ℕ) (first : read_node given k names room seen s p ≡ parsed t m r) where
      later_fresh : Fresh names seen (leaves t)
      later_fresh = child-fresh (read_node_sound given k names room seen s p t m r first)

      later_step : Step (NodeOf given names room t) s p m r
      later_step = step-node given names k room seen s p first

      later_till : {n q : ℕ} → ◌≡◌ {A = Answer Forest} (unexpected (skip m) (r + blanks m)) (refused n q) → Till n q
      later_till h =
          let z = step_then (NodeOf given names room t) Blanks later_step (step_skip m r) in
          unexpected-till given (stands_on st z) Forest (later_child_here given names room seen t later_fresh may z.front) h

      after_child-till :
          {n q : ℕ} (b c : Bool) → next_is 44 (skip m) ≡ b
          → after_child b c (λ e s p. read_forest given k names room e s p) seen t (skip m) (r + blanks m) ≡ refused n q → Till n q
      after_child-till {n} {q} true c comma h =
          let X = Then (NodeOf given names room t) (BlanksAnd 44) in
          let y = step_then (NodeOf given names room t) (BlanksAnd 44) later_step (step-byte 44 m r comma) in
          let l : length (tail (skip m)) < length m = advances_shorter (skip-tail 44 m r comma) in
          let l' : length m < length s = advances_shorter (read_node_advances given k names room seen s p t m r first) in
          ⊎_elim
          (λ e.
          forests room (union seen (cluster t)) (u ++ y.front.bytes) (tail (skip m)) (r + blanks m + 1) n q (stands_on st y)
          (stand_on given names (ChildrenIn given names room seen) (ChildrenIn given names room (union seen (cluster t))) X
          (child-comma given names room seen t later_fresh) may y.front)
          (omega arith) e)
          (λ g. absurd (parsed-refused g.after))
          (and_then-refused (read_forest given k names room (union seen (cluster t)) (tail (skip m)) (r + blanks m + 1)) (λ f s p. parsed (more t f) s p) h)
      after_child-till false true comma h = absurd (parsed-refused h)
      after_child-till false false comma h = later_till h

    forest_step : ForestTill (suc k)
    unfolding read_forest_by next_label
    forest_step room seen u s p n q st may fuel h =
        ⊎_elim
        (λ e.
        nodes room seen u s p n q st
        (stand_as given names (ChildrenIn given names room seen) (NodeIn given names room seen) 41 [] refl (last_child given names room seen) may) (omega arith) e)
        (λ g.
        after_child-till u s p room seen st may fuel g.value g.left g.place g.first (next_is 44 (skip g.left)) (next_is 41 (skip g.left)) refl
        g.after)
        (and_then-refused (read_node given k names room seen s p)
        (λ t s p. after_child (next_is 44 (skip s)) (next_is 41 (skip s)) (λ e s p. read_forest given k names room e s p) seen t (skip s) (p + blanks s)) h)

  mutual
    node-till : (k : ℕ) → NodeTill k
    node-till zero = λ room seen u s p n q st may fuel h. absurd (omega arith)
    node-till (suc k) = node-step k (node-till k) (forest-till k)

    forest-till : (k : ℕ) → ForestTill k
    forest-till zero = λ room seen u s p n q st may fuel h. absurd (omega arith)
    forest-till (suc k) = forest_step k (node-till k) (forest-till k)

  -- ---- the tree

  start : Stands s₀ p₀ [] s₀ p₀
  start = record { left = record { whole = refl }; place = omega arith }

  -- behind the whole node t, which leaves m
  module _ (needed k : ℕ) (t : Tree) (m : List ℕ) (r : ℕ) (first : read_node given k names most 0 s₀ p₀ ≡ parsed t m r) where
    root-step : Step (Then (NodeOf given names most t) Blanks) s₀ p₀ (skip m) (r + blanks m)
    root-step = step_then (NodeOf given names most t) Blanks (step-node given names k most 0 s₀ p₀ first) (step_skip m r)

    root_may : MayFollow given names most NoneIn root-step.front.bytes
    root_may = root_here given names t (child-fresh (read_node_sound given k names most 0 s₀ p₀ t m r first)).once root-step.front

    ended-tree-till : {n q : ℕ} (b : Bool) → ended_by b needed t (skip m) (r + blanks m) ≡ refused n q → Till n q
    ended-tree-till {n} {q} true h = by (within needed (cluster t)) h
      where
        by : (b : Bool) → complete b t (skip m) (r + blanks m) ≡ refused n q → Till n q
        by true h = absurd (parsed-refused h)
        by false h =
            let number : n ≡ 9 = cc in
            let at : q ≡ r + blanks m = cc in
            rw number (till_here given (stands_on start root-step) at refl refl refl root_may)
    ended-tree-till false h = unexpected-till given (stands_on start root-step) Tree root_may h

  tree-till : {n q : ℕ} (needed k : ℕ) → 2 * length s₀ < k → read_tree_to given k names most needed s₀ p₀ ≡ refused n q → Till n q
  unfolding read_tree_to_by
  tree-till {n} {q} needed k fuel h =
      ⊎_elim (λ e. node-till k most 0 [] s₀ p₀ n q start (node_at_front given names) fuel e)
      (λ g. ended-tree-till needed k g.value g.left g.place g.first (next_is 59 (skip g.left)) g.after)
      (and_then-refused (read_node given k names most 0 s₀ p₀) (λ t s p. ended_by (next_is 59 (skip s)) needed t (skip s) (p + blanks s)) h)

-- where reading is refused, nothing is at fault before the last of the bytes that decide it
refused-till :
    (given : Bool) (names : List (List ℕ)) (most needed : ℕ) (s : List ℕ) (p : ℕ) {n q : ℕ} → read_tree given names most needed s p ≡ refused n q → KeptTill given names most s p n q
unfolding read_tree_by
refused-till given names most needed s p h = tree-till given names most s p needed (2 * length s + 1) (omega arith) h

-- nor before any place up to it: "Reading goes from the left and stops at the first fault met"
pub kept_up_to_border :
    (given : Bool) (names : List (List ℕ)) (most needed : ℕ) (s : List ℕ) (p n d : ℕ) → read_tree given names most needed s p ≡ refused n (p + d) → (x : ℕ) → x < border n s d
    → Kept given names most s x
kept_up_to_border given names most needed s p n d h x l =
    let t = refused-till given names most needed s p h in
    let same : t.byte ≡ d = omega (arith, t.place) in
    kept-before given names s (border n s d - 1) x (rw same at t.kept) (omega arith)
