-- What a refusal says of the text: the byte at fault, what stands before it, and the fault.
use Prim.Native.Nat.{ℕ, zero, suc, ◌+◌, ◌*◌, ◌≤◌, ◌<◌}
use mathlib.Core.Path.{◌≡◌, refl, sym, ap, ◌∙◌, subst}
use mathlib.Core.Logic.{⊎_elim}
use mathlib.Core.Bool.{Bool, true, false}
use mathlib.Core.List.{List, [], ◌∷◌, ◌++◌, tail, append_assoc, append-nil}
use native.Mathlib.Omega.{arith}
use borrow.Author.Tests.{ltb-true, ltb-false}
use lib.ListN.{length, take, drop}
use lib.Seq.{take_at, drop_at, length-take-le}
use lib.Dec.{ltb}
use Rattle.clusters.specs.Sets.{single, union, apart, within}
use Rattle.clusters.proofs.Members.{has-union, has-zero}
use Rattle.labels.specs.Bytes.{next_is, next_label}
use Rattle.labels.specs.Spelling.{Spells}
use Rattle.labels.specs.Labels.{letters}
use Rattle.trees.specs.Tree.{Tree, Forest, cluster}
use Rattle.trees.specs.Tree.Tree.{leaf}
use Rattle.trees.specs.Tree.Forest.{more}
use Rattle.roster.specs.Roster.{position}
use Rattle.roster.proofs.Positions.{position-within}
use Rattle.tokens.specs.Answers.{Answer, and_then, unexpected}
use Rattle.tokens.specs.Answers.Answer.{parsed, refused}
use Rattle.tokens.specs.Tokens.{blanks, skip, number, name}
use Rattle.tokens.specs.Supports.{supported}
use Rattle.nodes.specs.Reading.{leaf_new, leaf_known, leaf_at, closing, after_first, opened, node_by, after_child, read_node, read_forest, complete, ended, read_tree_to, read_tree, leaf_by}
use Rattle.nodes.specs.Reading.{read_forest_by, read_node_by, read_tree_by, read_tree_to_by}
use Rattle.nodes.specs.Grammar.{strict, Blanks, Node, Text}
use Rattle.nodes.specs.Grammar.Text.{text}
use Rattle.nodes.proofs.Answers.{Reached, parsed-refused, and_then-refused}
use Rattle.nodes.proofs.Rests.{advances_shorter, skip-tail, read_node_advances}
use Rattle.nodes.proofs.Sound.{skip-blanks, next_is_cons, skip-byte, NodeRead, read_node_sound}
use Rattle.nodes.proofs.Exact.{stopped-label, comma_follows}
use Rattle.nodes.proofs.Fronts.{Then, BlanksAnd, strict_placeless, text-elsewhere}
use Rattle.nodes.proofs.Locality.{border-three, alike-asked, locality}
use Rattle.meanings.specs.Meaning.{CouldBegin, LeafAt, count_from, opens}
use Rattle.meanings.specs.Meaning.Means.{unknown_name, repeated_name, single_child, too_deep, missing}
use Rattle.meanings.proofs.Alike.{other_alike}
use Rattle.meanings.proofs.MeaningLifted.{text-limits}
use Rattle.meanings.proofs.MeaningCounts.{evenly-blanks, node-level, count_append}
use Rattle.meanings.proofs.MeaningContexts.{front_shorter, stand_on, opened-stand, last_stand, leaf-name-stand, blanks-node, comma-children, children-closing, child-comma}
use Rattle.meanings.proofs.MeaningContexts.{leaf-numbers, node_at_front, lifted_free, node_may}
use Rattle.meanings.proofs.MeaningContexts.Lifting.{to_least}
use Rattle.meanings.proofs.MeaningContexts.{NodeOf, ChildrenOf, Stand, NodeIn, ChildrenIn, NumbersIn, ClosingIn, only_child}
use Rattle.meanings.proofs.ReadingSteps.{name-ended, Step, step_then, step_skip, step-byte, step_here, step-name, front, back, front_with, byte_here, all_length, Stands, stands_on}
use Rattle.meanings.proofs.MeaningSteps.{same_position, name-word, has-seen, lacking, same_bytes, lifted-node, lifted-forest}
use Rattle.meanings.proofs.MeaningSpecies.{met_less, AllMet, met-node}
use Rattle.meanings.proofs.MeaningTokens.{Said, SaysOf, says_here, unexpected-says, supported-says, name-says, closing-says}

module _ (given : Bool) (names : List (List ℕ)) (most needed : ℕ) (s₀ : List ℕ) (p₀ : ℕ) where
  abbrev Says : ℕ → ℕ → Type 0
  Says number q = SaysOf given names most needed s₀ p₀ number q

  -- ---- leaves

  -- the label that was read, without a fault of its own
  leaf_here :
      {u s : List ℕ} {p : ℕ} {w rest : List ℕ} {r : ℕ} → Stands s₀ p₀ u s p → Stand NodeIn u → next_label s ≡ true → name s p ≡ parsed w rest r
      → LeafAt s₀ (length u)
  leaf_here {s = s} {p = p} st may is h =
      let here = back st.left in
      let e = name-ended s p h in
      record { allowed = rw (front st.left) (node_may may); begins = rw here is; bytes = e.0; ends = rw here e.1 }

  module _ {u s : List ℕ} {p n q : ℕ} (seen : ℕ) (st : Stands s₀ p₀ u s p) (may : Stand NodeIn u) (met : AllMet given names s₀ s seen)
      (is : next_label s ≡ true) where
    leaf_new-says :
        {w rest : List ℕ} {r : ℕ} (t : Bool) → name s p ≡ parsed w rest r → position w names < length names
        → apart (single (position w names)) seen ≡ t → leaf_new given t (position w names) p rest r ≡ refused n q → Says n q
    leaf_new-says {w} {rest} {r} false h known again e =
        let number : n ≡ 6 = cc in
        let at : q ≡ p = cc in
        let here : letters (drop (length u) s₀) ≡ w = ap letters (back st.left) ∙ name-word s p h in
        let m = met (position w names) (has-seen (position w names) seen again) in
        rw number
        (says_here given st at
        (repeated_name (record {
          leaf = leaf_here st may is h;
          known = rw here known;
          c = m.c;
          earlier = omega (arith, m.before, all_length st.left);
          met = m.leaf_there;
          same_name = same_position (letters (drop m.c s₀)) w names m.named known ∙ sym here;
        })))
    leaf_new-says {w} {rest} {r} true h known again e =
        let x = step-name s p is h in
        ⊎_elim (λ f. supported-says given [] (stands_on st x) (stand_on NodeIn NumbersIn (Spells w) (leaf-numbers w) may x.front) f)
        (λ f. absurd (parsed-refused f.after))
        (and_then-refused (supported given [] rest r) (λ b s p. parsed (leaf (position w names) b) s p) e)

    leaf_known-says :
        {w rest : List ℕ} {r : ℕ} (t : Bool) → name s p ≡ parsed w rest r → ltb (position w names) (length names) ≡ t
        → leaf_known given t (position w names) seen p rest r ≡ refused n q → Says n q
    leaf_known-says {w} {rest} {r} false h known e =
        let number : n ≡ 5 = cc in
        let at : q ≡ p = cc in
        let here : letters (drop (length u) s₀) ≡ w = ap letters (back st.left) ∙ name-word s p h in
        rw number
        (says_here given st at
        (unknown_name (record {
          leaf = leaf_here st may is h;
          unknown = rw here (omega (arith, ltb-false (position w names) (length names) known, position-within w names));
        })))
    leaf_known-says {w} true h known e =
        leaf_new-says (apart (single (position w names)) seen) h (ltb-true (position w names) (length names) known) refl e

    leaf-says : leaf_at given names seen s p ≡ refused n q → Says n q
    unfolding leaf_by
    leaf-says e =
        ⊎_elim (λ f. name-says given st (leaf-name-stand may) f)
        (λ f. leaf_known-says (ltb (position f.value names) (length names)) f.first refl f.after)
        (and_then-refused (name s p) (λ w rest q. leaf_known given (ltb (position w names) (length names)) (position w names) seen p rest q) e)

  -- ---- nodes

  -- as many parentheses may still open as are left of fifteen
  abbrev Room : List ℕ → ℕ → Type 0
  Room s room = count_from false 40 s₀ + count_from false 41 s + room ≡ count_from false 41 s₀ + count_from false 40 s + most

  -- what the induction shows of a node and of the children behind a first comma
  abbrev NodeSays : ℕ → Type 0
  NodeSays k =
      (room seen : ℕ) (u s : List ℕ) (p n q : ℕ) → Stands s₀ p₀ u s p → Stand NodeIn u → AllMet given names s₀ s seen → Room s room → 2 * length s < k
      → read_node given k names room seen s p ≡ refused n q → Says n q

  abbrev ForestSays : ℕ → Type 0
  ForestSays k =
      (room seen : ℕ) (u s : List ℕ) (p n q : ℕ) → Stands s₀ p₀ u s p → Stand ChildrenIn u → AllMet given names s₀ s seen → Room s room → 2 * length s + 1 < k
      → read_forest given k names room seen s p ≡ refused n q → Says n q

  deep_says : {u s : List ℕ} {p : ℕ} → Stands s₀ p₀ u s p → Stand NodeIn u → Room s 0 → next_is 40 s ≡ true → Says 8 p
  unfolding opens
  deep_says {u} {s} st may full is =
      let opening : count_from false 40 s₀ ≡ count_from false 40 u + count_from false 40 s =
      ap (count_from false 40) st.left.whole ∙ count_append 40 s (node_may may)
      in
      let closing : count_from false 41 s₀ ≡ count_from false 41 u + count_from false 41 s =
      ap (count_from false 41) st.left.whole ∙ count_append 41 s (node_may may)
      in
      says_here given st refl
      (too_deep (record {
        opening = byte_here st.left 40 is;
        allowed = rw (front st.left) (node_may may);
        full = rw (front st.left) (omega arith);
      }))

  module _ (k : ℕ) (nodes : NodeSays k) (forests : ForestSays k) where
    module _ (u s : List ℕ) (p room seen : ℕ) (st : Stands s₀ p₀ u s p) (may : Stand NodeIn u) (met : AllMet given names s₀ s seen) (space : Room s (suc room))
        (fuel : 2 * length s < suc k) (is : next_is 40 s ≡ true) where
      opening : Step (BlanksAnd 40) s p (tail s) (p + 1)
      opening = step_here 40 s p is

      inside : Stands s₀ p₀ (u ++ opening.front.bytes) (tail s) (p + 1)
      inside = stands_on st opening

      inside_may : Stand NodeIn (u ++ opening.front.bytes)
      inside_may = opened-stand may opening.front

      inside_left : length s ≡ suc (length (tail s))
      inside_left = ap length (next_is_cons 40 s is)

      inside-met : AllMet given names s₀ (tail s) seen
      inside-met i h = met_less given names s₀ (omega (arith, inside_left)) (met i h)

      inside-room : Room (tail s) room
      unfolding count_from
      inside-room =
          let e = next_is_cons 40 s is in
          let a : count_from false 40 s ≡ 1 + count_from false 40 (tail s) = ap (count_from false 40) e in
          let b : count_from false 41 s ≡ 0 + count_from false 41 (tail s) = ap (count_from false 41) e in
          omega arith

      -- behind the first child t, which leaves m
      module _ (t : Tree) (m : List ℕ) (r : ℕ) (first : read_node given k names room seen (tail s) (p + 1) ≡ parsed t m r) where
        child : Node (strict given names) room (tail s) t m
        child = (read_node_sound given k names room seen (tail s) (p + 1) t m r first).derives

        abbrev First : List ℕ → List ℕ → Type 0
        First = Then (BlanksAnd 40) (NodeOf room t)

        child-step : Step (NodeOf room t) (tail s) (p + 1) m r
        child-step = lifted-node given names k room seen (tail s) (p + 1) first

        first_step : Step First s p m r
        first_step = step_then (BlanksAnd 40) (NodeOf room t) opening child-step

        gap_step : Step (Then First Blanks) s p (skip m) (r + blanks m)
        gap_step = step_then First Blanks first_step (step_skip m r)

        -- the bytes read since u: `(`, the child and blanks
        gap-bytes : gap_step.front.bytes ≡ 40 ∷ (child-step.front.bytes ++ (step_skip m r).front.bytes)
        gap-bytes =
            let x = child-step.front.bytes in
            let y = (step_skip m r).front.bytes in
            let inner : tail s ≡ (x ++ y) ++ skip m =
            child-step.front.split ∙ (ap (λ (l : List ℕ). x ++ l) (step_skip m r).front.split ∙ sym (append_assoc x y (skip m)))
            in
            same_bytes gap_step.front (40 ∷ (x ++ y)) (next_is_cons 40 s is ∙ ap (λ (l : List ℕ). 40 ∷ l) inner)

        -- `(`, the child, blanks and `)` begin a text where a single child may stand
        single-could : next_is 41 (skip m) ≡ true → CouldBegin s₀ (suc (length (u ++ gap_step.front.bytes)))
        single-could closes =
            let there = (stands_on st gap_step).left in
            let at = (byte_here there 41 closes).1 in
            let x = gap_step.front.bytes in
            record {
              more = may.end;
              alike = other_alike _ _ _ (rw at refl) (rw at refl);
              text = rw (front_with there 41 closes)
                  (simp append_assoc
                  (may.text (to_least 1) (x ++ 41 ∷ may.end) (lifted_free (length (x ++ 41 ∷ may.end)) 1)
                  (only_child room t (x ++ 41 ∷ may.end) may.end (gap_step.front.anywhere (41 ∷ may.end)))));
            }

        single-says : next_is 41 (skip m) ≡ true → Says 7 (r + blanks m)
        single-says closes =
            let gap = (step_skip m r).front.bytes in
            let there = stands_on st gap_step in
            says_here given there refl
            (single_child (record {
              closes = byte_here there.left 41 closes;
              before = u;
              within = child-step.front.bytes ++ gap;
              opened = front there.left ∙ ap (λ (l : List ℕ). u ++ l) gap-bytes;
              allowed = node_may may;
              k = room;
              child = t;
              behind = gap;
              one = child-step.front.anywhere gap;
              gap = rw append-nil at ((step_skip m r).front.anywhere []);
              could = single-could closes;
            }))

        other_says : (A : Type 0) {n q : ℕ} → ◌≡◌ {A = Answer A} (unexpected (skip m) (r + blanks m)) (refused n q) → Says n q
        other_says A h = unexpected-says given A (stands_on st gap_step) h

        module _ (comma : next_is 44 (skip m) ≡ true) where
          abbrev Till : List ℕ → List ℕ → Type 0
          Till = Then First (BlanksAnd 44)

          comma-step : Step Till s p (tail (skip m)) (r + blanks m + 1)
          comma-step = step_then First (BlanksAnd 44) first_step (step-byte 44 m r comma)

          comma_left : length (tail (skip m)) < length m
          comma_left = advances_shorter (skip-tail 44 m r comma)

          child_left : length m < length (tail s)
          child_left = advances_shorter (read_node_advances given k names room seen (tail s) (p + 1) t m r first)

          comma-met : AllMet given names s₀ (tail (skip m)) (union seen (cluster t))
          comma-met i h =
              let l = comma_left in
              let l' = child_left in
              ⊎_elim (λ a. met_less given names s₀ (omega arith) (inside-met i a))
              (λ a.
              met_less given names s₀ (omega arith)
              (met-node given names s₀ inside inside_may child (stopped-label (comma_follows (skip-byte 44 m comma)).stopped) i a))
              (has-union seen (cluster t) i h)

          comma-room : Room (tail (skip m)) room
          unfolding count_from
          comma-room =
              let a = node-level child in
              let b = evenly-blanks (skip-byte 44 m comma) in
              omega (arith, inside-room, a.level, b.opening, b.closing)

          others-says :
              {n q : ℕ}
              → and_then (read_forest given k names room (union seen (cluster t)) (tail (skip m)) (r + blanks m + 1)) (λ f s p. closing given t f s p) ≡ refused n q
              → Says n q
          others-says {n} {q} h =
              ⊎_elim
              (λ e. forests room (union seen (cluster t)) (u ++ comma-step.front.bytes) (tail (skip m)) (r + blanks m + 1) n q (stands_on st comma-step)
              (stand_on NodeIn ChildrenIn Till (comma-children room t) may comma-step.front) comma-met comma-room
              (omega (arith, comma_left, child_left, inside_left)) e)
              closed
              (and_then-refused (read_forest given k names room (union seen (cluster t)) (tail (skip m)) (r + blanks m + 1)) (λ f s p. closing given t f s p) h)
            where
              closed :
                  Reached (read_forest given k names room (union seen (cluster t)) (tail (skip m)) (r + blanks m + 1)) (λ f s p. closing given t f s p) (refused n q)
                  → Says n q
              closed g =
                  let f = g.value in
                  let w =
                  step_then Till (ChildrenOf room f) comma-step
                  (lifted-forest given names k room (union seen (cluster t)) (tail (skip m)) (r + blanks m + 1) g.first)
                  in
                  closing-says given t f (stands_on st w)
                  (stand_on NodeIn ClosingIn (Then Till (ChildrenOf room f)) (children-closing room room t f) may w.front) g.after

        after_first-says :
            {n q : ℕ} (b c : Bool) → next_is 44 (skip m) ≡ b → next_is 41 (skip m) ≡ c
            → after_first given b c (λ e s p. read_forest given k names room e s p) seen t (skip m) (r + blanks m) ≡ refused n q → Says n q
        after_first-says true c comma closes h = others-says comma h
        after_first-says {n} {q} false true comma closes h =
            let number : n ≡ 7 = cc in
            let at : q ≡ r + blanks m = cc in
            rw (number, at) (single-says closes)
        after_first-says false false comma closes h = other_says Tree h

      inner-says :
          {n q : ℕ}
          → opened given (λ r e s p. read_node given k names r e s p) (λ r e s p. read_forest given k names r e s p) (suc room) seen s p ≡ refused n q → Says n q
      inner-says {n} {q} h =
          ⊎_elim
          (λ e. nodes room seen (u ++ opening.front.bytes) (tail s) (p + 1) n q inside inside_may inside-met inside-room (omega (arith, inside_left)) e)
          (λ g. after_first-says g.value g.left g.place g.first (next_is 44 (skip g.left)) (next_is 41 (skip g.left)) refl refl g.after)
          (and_then-refused (read_node given k names room seen (tail s) (p + 1))
          (λ t s p. after_first given (next_is 44 (skip s)) (next_is 41 (skip s)) (λ e s p. read_forest given k names room e s p) seen t (skip s) (p + blanks s)) h)

    opened-says :
        (room seen : ℕ) (u s : List ℕ) (p n q : ℕ) → Stands s₀ p₀ u s p → Stand NodeIn u → AllMet given names s₀ s seen → Room s room
        → 2 * length s < suc k → next_is 40 s ≡ true
        → opened given (λ r e s p. read_node given k names r e s p) (λ r e s p. read_forest given k names r e s p) room seen s p ≡ refused n q → Says n q
    opened-says zero seen u s p n q st may met space fuel is h =
        let number : n ≡ 8 = cc in
        let at : q ≡ p = cc in
        rw (number, at) (deep_says st may space is)
    opened-says (suc room) seen u s p n q st may met space fuel is h = inner-says u s p room seen st may met space fuel is h

    node_by-says :
        (b c : Bool) (room seen : ℕ) (u s : List ℕ) (p n q : ℕ) → Stands s₀ p₀ u s p → Stand NodeIn u → AllMet given names s₀ s seen → Room s room
        → 2 * length s < suc k → next_label s ≡ b → next_is 40 s ≡ c
        → node_by given b c names (λ r e s p. read_node given k names r e s p) (λ r e s p. read_forest given k names r e s p) room seen s p ≡ refused n q → Says n q
    node_by-says true c room seen u s p n q st may met space fuel is opens h = leaf-says seen st may met is h
    node_by-says false true room seen u s p n q st may met space fuel is opens h = opened-says room seen u s p n q st may met space fuel opens h
    node_by-says false false room seen u s p n q st may met space fuel is opens h =
        unexpected-says given Tree st h

    node-step : NodeSays (suc k)
    unfolding read_node_by
    node-step room seen u s p n q st may met space fuel h =
        let x = step_skip s p in
        let l : length (skip s) ≤ length s = front_shorter x.front in
        let b = evenly-blanks (skip-blanks s) in
        node_by-says (next_label (skip s)) (next_is 40 (skip s)) room seen (u ++ x.front.bytes) (skip s) (p + blanks s) n q (stands_on st x)
        (stand_on NodeIn NodeIn Blanks blanks-node may x.front) (λ i a. met_less given names s₀ l (met i a)) (omega (arith, b.opening, b.closing))
        (omega arith) refl refl h

    -- behind a later child
    module _ (u s : List ℕ) (p room seen : ℕ) (st : Stands s₀ p₀ u s p) (may : Stand ChildrenIn u) (met : AllMet given names s₀ s seen) (space : Room s room)
        (fuel : 2 * length s + 1 < suc k) (t : Tree) (m : List ℕ) (r : ℕ) (first : read_node given k names room seen s p ≡ parsed t m r) where
      later : Node (strict given names) room s t m
      later = (read_node_sound given k names room seen s p t m r first).derives

      later_step : Step (NodeOf room t) s p m r
      later_step = lifted-node given names k room seen s p first

      later_says : {n q : ℕ} → ◌≡◌ {A = Answer Forest} (unexpected (skip m) (r + blanks m)) (refused n q) → Says n q
      later_says h = unexpected-says given Forest (stands_on st (step_then (NodeOf room t) Blanks later_step (step_skip m r))) h

      later_met : next_is 44 (skip m) ≡ true → AllMet given names s₀ (tail (skip m)) (union seen (cluster t))
      later_met comma i h =
          let l : length (tail (skip m)) < length m = advances_shorter (skip-tail 44 m r comma) in
          let l' : length m < length s = advances_shorter (read_node_advances given k names room seen s p t m r first) in
          ⊎_elim (λ a. met_less given names s₀ (omega arith) (met i a))
          (λ a.
          met_less given names s₀ (omega arith)
          (met-node given names s₀ st (last_stand may) later (stopped-label (comma_follows (skip-byte 44 m comma)).stopped) i a))
          (has-union seen (cluster t) i h)

      later_room : next_is 44 (skip m) ≡ true → Room (tail (skip m)) room
      unfolding count_from
      later_room comma =
          let a = node-level later in
          let b = evenly-blanks (skip-byte 44 m comma) in
          omega (arith, a.level, b.opening, b.closing)

      after_child-says :
          {n q : ℕ} (b c : Bool) → next_is 44 (skip m) ≡ b
          → after_child b c (λ e s p. read_forest given k names room e s p) seen t (skip m) (r + blanks m) ≡ refused n q → Says n q
      after_child-says {n} {q} true c comma h =
          let X = NodeOf room t in
          let y = step_then X (BlanksAnd 44) later_step (step-byte 44 m r comma) in
          let l : length (tail (skip m)) < length m = advances_shorter (skip-tail 44 m r comma) in
          let l' : length m < length s = advances_shorter (read_node_advances given k names room seen s p t m r first) in
          ⊎_elim
          (λ e.
          forests room (union seen (cluster t)) (u ++ y.front.bytes) (tail (skip m)) (r + blanks m + 1) n q (stands_on st y)
          (stand_on ChildrenIn ChildrenIn (Then X (BlanksAnd 44)) (child-comma room t) may y.front) (later_met comma) (later_room comma) (omega arith) e)
          (λ g. absurd (parsed-refused g.after))
          (and_then-refused (read_forest given k names room (union seen (cluster t)) (tail (skip m)) (r + blanks m + 1)) (λ f s p. parsed (more t f) s p) h)
      after_child-says false true comma h = absurd (parsed-refused h)
      after_child-says false false comma h = later_says h

    forest_step : ForestSays (suc k)
    unfolding read_forest_by
    forest_step room seen u s p n q st may met space fuel h =
        ⊎_elim
        (λ e. nodes room seen u s p n q st (last_stand may) met space (omega arith) e)
        (λ g.
        after_child-says u s p room seen st may met space fuel g.value g.left g.place g.first (next_is 44 (skip g.left))
        (next_is 41 (skip g.left)) refl g.after)
        (and_then-refused (read_node given k names room seen s p)
        (λ t s p. after_child (next_is 44 (skip s)) (next_is 41 (skip s)) (λ e s p. read_forest given k names room e s p) seen t (skip s) (p + blanks s)) h)

  mutual
    node-says : (k : ℕ) → NodeSays k
    node-says zero = λ room seen u s p n q st may met space fuel h. absurd (omega arith)
    node-says (suc k) = node-step k (node-says k) (forest-says k)

    forest-says : (k : ℕ) → ForestSays k
    forest-says zero = λ room seen u s p n q st may met space fuel h. absurd (omega arith)
    forest-says (suc k) = forest_step k (node-says k) (forest-says k)

  -- ---- the tree

  start : Stands s₀ p₀ [] s₀ p₀
  start = record { left = record { whole = refl }; place = omega arith }

  -- behind the whole node t, which leaves m
  module _ (k : ℕ) (t : Tree) (m : List ℕ) (r : ℕ) (first : read_node given k names most 0 s₀ p₀ ≡ parsed t m r) where
    root-read : NodeRead given names most 0 s₀ t m
    root-read = read_node_sound given k names most 0 s₀ p₀ t m r first

    root-step : Step (Then (NodeOf most t) Blanks) s₀ p₀ (skip m) (r + blanks m)
    root-step = step_then (NodeOf most t) Blanks (lifted-node given names k most 0 s₀ p₀ first) (step_skip m r)

    missing-says : next_is 59 (skip m) ≡ true → within needed (cluster t) ≡ false → Says 9 (r + blanks m)
    missing-says ends lacks =
        let x = root-step.front.bytes in
        let there = stands_on start root-step in
        let behind = tail (skip m) in
        let split : s₀ ≡ x ++ 59 ∷ behind = there.left.whole ∙ ap (λ (l : List ℕ). x ++ l) (next_is_cons 59 (skip m) ends) in
        let bytes : take (suc (length x)) s₀ ≡ x ++ 59 ∷ [] = front_with there.left 59 ends in
        let all : Text (strict given names) most ((x ++ 59 ∷ []) ++ behind) t behind =
        subst (λ (l : List ℕ). Text (strict given names) most l t behind) (split ∙ sym (append_assoc x (59 ∷ []) behind))
        (text root-read.derives (skip-byte 59 m ends))
        in
        let lack = lacking needed (cluster t) lacks in
        says_here given there refl
        (missing (record {
          ends = byte_here there.left 59 ends;
          tree = t;
          drawn = rw bytes (rw append-nil at (text-elsewhere (strict given names) (strict_placeless given names) (x ++ 59 ∷ []) behind [] all));
          once = root-read.once;
          species = lack.0;
          wanted = lack.1;
          absent = lack.2;
        }))

    ended-says : {n q : ℕ} (b : Bool) → next_is 59 (skip m) ≡ b → ended b needed t (skip m) (r + blanks m) ≡ refused n q → Says n q
    ended-says {n} {q} true ends h = go (within needed (cluster t)) refl h
      where
        go : (b : Bool) → within needed (cluster t) ≡ b → complete b t (skip m) (r + blanks m) ≡ refused n q → Says n q
        go true lacks h = absurd (parsed-refused h)
        go false lacks h =
            let number : n ≡ 9 = cc in
            let at : q ≡ r + blanks m = cc in
            rw (number, at) (missing-says ends lacks)
    ended-says false ends h =
        unexpected-says given Tree (stands_on start root-step) h

  tree-says : {n q : ℕ} (k : ℕ) → 2 * length s₀ < k → read_tree_to given k names most needed s₀ p₀ ≡ refused n q → Says n q
  unfolding read_tree_to_by
  tree-says {n} {q} k fuel h =
      ⊎_elim
      (λ e. node-says k most 0 [] s₀ p₀ n q start node_at_front (λ i a. absurd (has-zero i a)) (omega arith) fuel e)
      (λ g. ended-says k g.value g.left g.place g.first (next_is 59 (skip g.left)) refl g.after)
      (and_then-refused (read_node given k names most 0 s₀ p₀) (λ t s p. ended (next_is 59 (skip s)) needed t (skip s) (p + blanks s)) h)

-- no text begins with the bytes up to one that is refused by 3, where a label that has ended there has ended
forbidden :
    (given : Bool) (names : List (List ℕ)) (most needed : ℕ) (s : List ℕ) (p d : ℕ)
    → read_tree given names most needed s p ≡ refused 3 (p + d) → d < length s → CouldBegin s (suc d) → ⊥
forbidden given names most needed s p d h within b =
    let u = take (suc d) s in
    let s' = u ++ b.more in
    let size : length u ≡ suc d = length-take-le (suc d) s within in
    let e = border-three s d in
    let behind : drop (suc d) s' ≡ b.more = drop_at u b.more (suc d) size in
    let again =
    locality given names most needed s s' p d 3 h (omega arith) (omega arith) (rw e (take_at u b.more (suc d) size)) (alike-asked (rw (e, behind) b.alike))
    in
    let t = text-limits given names most needed b.text.2 p again in
    omega (arith, t.0)

-- what a refusal of a tree text says; so its number is one from 3 to 10, or 18
pub refusal-said :
    (given : Bool) (names : List (List ℕ)) (most needed : ℕ) (s : List ℕ) (p : ℕ) {number q : ℕ}
    → read_tree given names most needed s p ≡ refused number q → Said given names most needed s p number q
unfolding read_tree_by
refusal-said given names most needed s p {number} {q} h =
    tree-says given names most needed s p (2 * length s + 1) (omega arith) h
    (λ three d at fits b. forbidden given names most needed s p d (h ∙ rw (three, at) refl) fits b)
