-- A kept text is not refused early: reading gives what is drawn as long as it stands before the place, and a refusal is decided behind the place.
use Prim.Native.Nat.{ℕ, zero, suc, ◌+◌, ◌*◌, ◌≤◌, ◌<◌}
use native.Mathlib.Omega.{arith}
use mathlib.Core.Path.{◌≡◌, refl, sym, ap, ◌∙◌}
use mathlib.Core.Logic.{⊎_elim}
use mathlib.Core.Bool.{Bool, true, false, ◌||◌, true≢false}
use mathlib.Core.List.Memᴰ
use mathlib.Core.List.Memᴰ.{head as here}
use mathlib.Core.List.{List, [], ◌∷◌, ◌++◌}
use lib.ListN.{length, drop, length-drop}
use lib.Dec.{eqb, ltb}
use borrow.Author.Tests.{lt-ltb}
use Rattle.clusters.specs.Sets.{single, union, apart, within}
use Rattle.clusters.proofs.Members.{has-union, has-single, has-zero, apart_of_has}
use Rattle.clusters.proofs.Sets.{true-apart}
use Rattle.labels.specs.Bytes.{next_is, next_label}
use Rattle.labels.specs.Spelling.{Spells}
use Rattle.labels.specs.Labels.{label_bytes, told}
use Rattle.labels.specs.Labels.Told.{ended as ends_at}
use Rattle.labels.proofs.Spelled.{no_label_over, whole_exact, spells_first}
use Rattle.trees.specs.Lists.{NoneTwice}
use Rattle.trees.specs.Tree.{Tree, Forest, leaves, leaves_of, cluster}
use Rattle.trees.specs.Tree.Tree.{leaf, node}
use Rattle.trees.specs.Tree.Forest.{last, more}
use Rattle.trees.proofs.Listing.{keep_append, keep-among, among-keep, none_twice_left, none_twice_right, none_twice_parts}
use Rattle.trees.proofs.Nodes.{has-leaf}
use Rattle.roster.specs.Roster.{position}
use Rattle.tokens.specs.Answers.{Answer, and_then}
use Rattle.tokens.specs.Answers.Answer.{parsed, refused}
use Rattle.tokens.specs.Tokens.{blanks, skip}
use Rattle.tokens.specs.Supports.{supported}
use Rattle.nodes.specs.Reading.{leaf_new, leaf_known, leaf_at, closing, after_first, after_child, read_node, read_forest, complete, ended, read_tree}
use Rattle.nodes.specs.Reading.{leaf_by, closing_by, read_node_by, read_forest_by, read_tree_to_by, read_tree_by}
use Rattle.nodes.specs.Grammar.{Blanks, Numbers, Inner, Text}
use Rattle.nodes.specs.Grammar.Text.{text}
use Rattle.nodes.specs.Deciding.{border}
use Rattle.nodes.proofs.Answers.{parsed-refused}
use Rattle.nodes.proofs.Derivations.{two_wanted, Steps, over_node}
use Rattle.nodes.proofs.Exact.{Follows, stopped-label, numbers-stopped, comma_follows, closing_follows, semicolon_follows, label_no_blank, blanks-skip, skip_to, skip_is, next_not}
use Rattle.nodes.proofs.Rests.{Moves, stays, moves_on, moves-length, skip-moves}
use Rattle.nodes.proofs.Locality.{deciding, border-deciding}
use Rattle.meanings.specs.Meaning.{kept_to, known}
use Rattle.meanings.proofs.FreshSpecies.{on_roster, Fresh}
use Rattle.meanings.proofs.LateTokens.{Late, Passes, passes_from, passes_then, passes_as, passes_on, Only, byte-moves, supported-passes, name-passes, inner_name-passes}
use Rattle.meanings.proofs.LateTokens.Passes.{reads, halts}

-- ---- species that were not seen

module _ (names : List (List ℕ)) (seen : ℕ) where
  abbrev on_list : ℕ → Bool
  on_list i = ltb i (length names)

  -- a species of the roster, alone
  fresh-new : (i : ℕ) → i < length names → Fresh names seen (i ∷ []) → apart (single i) seen ≡ true
  fresh-new i on f =
      true-apart (single i) seen
      (apart_of_has (single i) seen
      (λ j h has. f.new i (keep-among on_list (i ∷ []) (here refl) (lt-ltb i (length names) on)) (rw (← has-single i j h) at has)))

  -- those of a first child
  fresh_first : (l k : List ℕ) → Fresh names seen (l ++ k) → Fresh names seen l
  fresh_first l k f =
      let same : on_roster names (l ++ k) ≡ on_roster names l ++ on_roster names k = keep_append on_list l k in
      record {
        once = none_twice_left (on_roster names l) (on_roster names k) (rw same at f.once);
        new = λ i h has. f.new i (rw same (Memᴰ.append_left (on_roster names k) h)) has;
      }

  -- those of the others, once it is seen
  fresh-others : (t : Tree) (k : List ℕ) → Fresh names seen (leaves t ++ k) → Fresh names (union seen (cluster t)) k
  fresh-others t k f =
      let l = leaves t in
      let same : on_roster names (l ++ k) ≡ on_roster names l ++ on_roster names k = keep_append on_list l k in
      let once = rw same at f.once in
      record {
        once = none_twice_right (on_roster names l) (on_roster names k) once;
        new = λ i h has.
            ⊎_elim (λ a. f.new i (rw same (Memᴰ.append_right (on_roster names l) h)) a)
            (λ a. none_twice_parts (on_roster names l) (on_roster names k) once i (keep-among on_list l (has-leaf t i a) (among-keep on_list k h).1) h)
            (has-union seen (cluster t) i has);
      }

-- ---- leaves

moves_shorter : {s rest : List ℕ} {p q : ℕ} → Moves s p rest q → length rest ≤ length s
moves_shorter on = omega (arith, moves-length on, on.place)

-- a refusal by 5 or 6 is decided when the label ends
pub judged_decides : (n : ℕ) (s : List ℕ) (c : ℕ) → (eqb n 5 || eqb n 6) ≡ true → told s ≡ ends_at c → deciding n s ≡ c
judged_decides n s c judged e = rw (judged, e) refl

module _ (given : Bool) (names : List (List ℕ)) (m : ℕ) where
  -- what was read is x, as far as it stands before the place
  abbrev Before : {A : Type 0} → A → List ℕ → A → Type 0
  Before x rest y = m ≤ length rest → y ≡ x

  abbrev leaf_of : ℕ → List ℕ → List ℕ → Tree
  leaf_of i d b = leaf i (record { name = []; distance = d; support = b })

  module _ (seen i : ℕ) {w d b s mid rest : List ℕ} (r : Spells w s mid) (kept : (kept_to given names m).leaf_name w i s mid)
      (behind : Numbers (kept_to given names m) d b mid rest)
      (follows : Follows rest) (fresh : m ≤ length s → Fresh names seen (i ∷ [])) (p : ℕ) where
    -- the label ends behind the place
    judged-late : (n : ℕ) → (eqb n 5 || eqb n 6) ≡ true → length w ≤ label_bytes → length mid < m → Late m s p n p
    judged-late n judged short l =
        let x = whole_exact (record { spelled = r; over = no_label_over s mid (stopped-label (numbers-stopped behind follows)) }) in
        record { from = s; moved = stays s p; beyond = omega (arith, judged_decides n s x.width judged (x.short short), x.all) }

    module _ (short : length w ≤ label_bytes) (q : ℕ) (moved : Moves s p mid q) where
      abbrev LeafPasses : Answer Tree → Type 0
      LeafPasses a = Passes m s p (Before (leaf_of i d b) rest) rest a

      -- a label that ends before the place, or there, is not refused
      judged-passes : (n : ℕ) → (eqb n 5 || eqb n 6) ≡ true → (m ≤ length mid → ⊥) → LeafPasses (refused n p)
      judged-passes n judged behind-place = halts (judged-late n judged short (omega (arith, behind-place)))

      new-passes : (t : Bool) → apart (single (position w names)) seen ≡ t → LeafPasses (leaf_new given t (position w names) p mid q)
      new-passes false again =
          judged-passes 6 refl
          (λ l.
          let at = kept.1 (omega arith) in
          true≢false (sym (fresh-new names seen i at.1 (fresh (omega (arith, moves_shorter moved)))) ∙ rw at.0 at again))
      new-passes true again =
          passes_from moved
          (passes_then (λ x s p. parsed (leaf (position w names) x) s p) (supported-passes given names m [] behind follows q)
          (λ x z on is. reads on (λ l. rw (is, (kept.1 (omega (arith, moves_shorter on))).0) refl)))

      known-passes : (t : Bool) → ltb (position w names) (length names) ≡ t → LeafPasses (leaf_known given t (position w names) seen p mid q)
      known-passes false on =
          judged-passes 5 refl (λ l. let at = kept.1 (omega arith) in true≢false (sym (lt-ltb i (length names) at.1) ∙ rw at.0 at on))
      known-passes true on = new-passes (apart (single (position w names)) seen) refl

    leaf-passes : Passes m s p (Before (leaf_of i d b) rest) rest (leaf_at given names seen s p)
    unfolding leaf_by
    leaf-passes =
        passes_then (λ w rest q. leaf_known given (ltb (position w names) (length names)) (position w names) seen p rest q)
        (name-passes m r (stopped-label (numbers-stopped behind follows)) kept.0 p)
        (λ x q moved is. rw is.0 (known-passes is.1 q moved (ltb (position w names) (length names)) refl))

  -- ---- nodes and children

  closing-passes :
      (t : Tree) (f : Forest) {w d b s mid rest : List ℕ} → Inner (kept_to given names m) w s mid → Numbers (kept_to given names m) d b mid rest → Follows rest
      → (p : ℕ) → Passes m s p (Only (node t f (record { name = w; distance = d; support = b }))) rest (closing given t f s p)
  unfolding closing_by
  closing-passes t f {w} {rest = rest} inner behind follows p =
      passes_on (λ w s p. and_then (supported given w s p) (λ b s p. parsed (node t f b) s p))
      (inner_name-passes m given names inner (numbers-stopped behind follows) p)
      (λ q. passes_on (λ b s p. parsed (node t f b) s p) (supported-passes given names m w behind follows q) (λ z. reads (stays rest z) refl))

  -- where what follows ends it, reading at any depth above the measure reads it, or is refused late; its species were not seen where it begins before the place
  abbrev NodePasses : ℕ → List ℕ → Tree → List ℕ → Type 0
  NodePasses room s t rest =
      Follows rest → (k seen p : ℕ) → 2 * length s < k → (m ≤ length s → Fresh names seen (leaves t))
      → Passes m s p (Before t rest) rest (read_node given k names room seen s p)

  abbrev ForestPasses : ℕ → List ℕ → Forest → List ℕ → Type 0
  ForestPasses room s f rest =
      (k seen p : ℕ) → 2 * length s + 1 < k → (m ≤ length s → Fresh names seen (leaves_of f))
      → Passes m s p (Before f rest) rest (read_forest given k names room seen s p)

  leaf-step :
      (room i : ℕ) (w d b s s₁ s₂ rest : List ℕ) → Blanks s s₁ → Spells w s₁ s₂ → (kept_to given names m).leaf_name w i s₁ s₂
      → Numbers (kept_to given names m) d b s₂ rest
      → NodePasses room s (leaf_of i d b) rest
  unfolding read_node_by leaves
  leaf-step room i w d b s s₁ s₂ rest gap r kept behind follows zero seen p l fresh = absurd (omega arith)
  leaf-step room i w d b s s₁ s₂ rest gap r kept behind follows (suc k) seen p l fresh =
      let e : skip s ≡ s₁ = blanks-skip gap (label_no_blank s₁ (spells_first r)) in
      let is : next_label (skip s) ≡ true = rw e (spells_first r) in
      let on : Moves s p s₁ (p + blanks s) = rw e at (skip-moves s p) in
      rw (is, e) (passes_from on (leaf-passes seen i r kept behind follows (λ l. fresh (omega (arith, moves_shorter on))) (p + blanks s)))

  -- behind the first child, which was read as z: a comma, the others, and what closes the node
  others-pass :
      (k room seen : ℕ) (t : Tree) (f : Forest) (w d b s s₁ s₂ s₃ rest : List ℕ)
      → Blanks s (44 ∷ s₁) → ForestPasses room s₁ f s₂ → Inner (kept_to given names m) w s₂ s₃ → Numbers (kept_to given names m) d b s₃ rest → Follows rest
      → 2 * length s₁ + 1 < k → (z : Tree) → Before t s z → (m ≤ length s → Fresh names seen (leaves t ++ leaves_of f)) → (p : ℕ)
      → Passes m s p (Before (node t f (record { name = w; distance = d; support = b })) rest) rest
      (after_first given (next_is 44 (skip s)) (next_is 41 (skip s)) (λ e s p. read_forest given k names room e s p) seen z (skip s) (p + blanks s))
  others-pass k room seen t f w d b s s₁ s₂ s₃ rest comma others inner behind follows l z same fresh p =
      let on = byte-moves 44 refl comma p in
      rw (skip_is 44 refl comma, skip_to 44 refl comma)
      (passes_from on
      (passes_then (λ f s p. closing given z f s p)
      (others k (union seen (cluster z)) (p + blanks s + 1) l
      (λ h.
      let h' : m ≤ length s = omega (arith, moves_shorter on) in
      rw (same h') (fresh-others names seen t (leaves_of f) (fresh h'))))
      (λ g q on' is.
      passes_from on'
      (passes_as
      (λ x r on'' e h. rw (e, is (omega (arith, moves_shorter on'')), same (omega (arith, moves_shorter on, moves_shorter on', moves_shorter on''))) refl)
      (closing-passes z g inner behind follows q)))))

  inner-step :
      (room : ℕ) (t : Tree) (f : Forest) (w d b s s₁ s₂ s₃ s₄ s₅ rest : List ℕ)
      → Blanks s (40 ∷ s₁) → NodePasses room s₁ t s₂ → Blanks s₂ (44 ∷ s₃) → ForestPasses room s₃ f s₄ → Inner (kept_to given names m) w s₄ s₅
      → Numbers (kept_to given names m) d b s₅ rest → NodePasses (suc room) s (node t f (record { name = w; distance = d; support = b })) rest
  unfolding read_node_by leaves next_label
  inner-step room t f w d b s s₁ s₂ s₃ s₄ s₅ rest bl first comma others inner behind follows zero seen p l fresh = absurd (omega arith)
  inner-step room t f w d b s s₁ s₂ s₃ s₄ s₅ rest bl first comma others inner behind follows (suc k) seen p l fresh =
      let e : skip s ≡ 40 ∷ s₁ = skip_to 40 refl bl in
      let no-leaf : next_label (skip s) ≡ false = rw e refl in
      let on = byte-moves 40 refl bl p in
      let l₁ = moves-length on in
      rw (no-leaf, skip_is 40 refl bl, e)
      (passes_from on
      (passes_then
      (λ t s p. after_first given (next_is 44 (skip s)) (next_is 41 (skip s)) (λ e s p. read_forest given k names room e s p) seen t (skip s) (p + blanks s))
      (first (comma_follows comma) k seen (p + blanks s + 1) (omega arith) (λ h. fresh_first names seen (leaves t) (leaves_of f) (fresh (omega arith))))
      (λ z q on' same.
      let l₂ = moves_shorter on' in
      passes_from on'
      (others-pass k room seen t f w d b s₂ s₃ s₄ s₅ rest comma others inner behind follows (omega (arith, moves-length (byte-moves 44 refl comma q))) z same
      (λ h. fresh (omega arith)) q))))

  last_step :
      (room : ℕ) (t : Tree) (s s₁ rest : List ℕ) → NodePasses room s t s₁ → Blanks s₁ (41 ∷ rest) → ForestPasses room s (last t) rest
  unfolding read_forest_by leaves_of
  last_step room t s s₁ rest only closes zero seen p l fresh = absurd (omega arith)
  last_step room t s s₁ rest only closes (suc k) seen p l fresh =
      let e : skip s₁ ≡ 41 ∷ rest = skip_to 41 refl closes in
      let no-comma : next_is 44 (skip s₁) ≡ false = rw e (next_not 44 41 rest refl) in
      passes_then (λ t s p. after_child (next_is 44 (skip s)) (next_is 41 (skip s)) (λ e s p. read_forest given k names room e s p) seen t (skip s) (p + blanks s))
      (only (closing_follows closes) k seen p (omega arith) fresh)
      (λ z q on same.
      let on' = byte-moves 41 refl closes q in
      rw (no-comma, skip_is 41 refl closes, e) (reads (moves_on on on') (λ h. ap last (same (omega (arith, moves_shorter on'))))))

  more_step :
      (room : ℕ) (t : Tree) (f : Forest) (s s₁ s₂ rest : List ℕ)
      → NodePasses room s t s₁ → Blanks s₁ (44 ∷ s₂) → ForestPasses room s₂ f rest → ForestPasses room s (more t f) rest
  unfolding read_forest_by leaves_of
  more_step room t f s s₁ s₂ rest first comma others zero seen p l fresh = absurd (omega arith)
  more_step room t f s s₁ s₂ rest first comma others (suc k) seen p l fresh =
      passes_then (λ t s p. after_child (next_is 44 (skip s)) (next_is 41 (skip s)) (λ e s p. read_forest given k names room e s p) seen t (skip s) (p + blanks s))
      (first (comma_follows comma) k seen p (omega arith) (λ h. fresh_first names seen (leaves t) (leaves_of f) (fresh h)))
      (λ z q on same.
      let on' = moves_on on (byte-moves 44 refl comma q) in
      let l₁ = moves_shorter on in
      let l₂ = moves-length (byte-moves 44 refl comma q) in
      rw (skip_is 44 refl comma, skip_to 44 refl comma)
      (passes_from on'
      (passes_then (λ f s p. parsed (more z f) s p)
      (others k (union seen (cluster z)) (q + blanks s₁ + 1) (omega arith)
      (λ h. rw (same (omega arith)) (fresh-others names seen t (leaves_of f) (fresh (omega arith)))))
      (λ g r on'' is. reads on'' (λ h. rw (is h, same (omega (arith, moves_shorter on''))) refl)))))

  pass-steps : Steps (kept_to given names m) NodePasses ForestPasses
  pass-steps =
      record {
        at_leaf = λ k i w d b s s₁ s₂ rest gap r kept behind. leaf-step k i w d b s s₁ s₂ rest gap r kept behind;
        at_inner = λ k t f w d b s s₁ s₂ s₃ s₄ s₅ rest bl first p comma others q inner behind.
            inner-step k t f w d b s s₁ s₂ s₃ s₄ s₅ rest bl p comma q inner behind;
        at_single = λ k t w d b s s₁ s₂ s₃ s₄ rest enough bl only p closes inner behind. absurd (two_wanted enough);
        at_last = λ k t s s₁ rest only p closes. last_step k t s s₁ rest p closes;
        at_more = λ k t f s s₁ s₂ rest first p comma others q. more_step k t f s s₁ s₂ rest p comma q;
      }

  -- ---- the tree

  -- behind the root: `;`, which stands behind the place
  ended-passes :
      (c : Bool) (z : Tree) {s s₁ rest : List ℕ} {p q : ℕ} → Moves s p s₁ q → Blanks s₁ (59 ∷ rest) → length rest < m
      → Passes m s p (λ x. Unit {0}) rest (complete c z (59 ∷ rest) (q + blanks s₁))
  ended-passes true z {q = q} on ends l = reads (moves_on on (byte-moves 59 refl ends q)) tt
  ended-passes false z {s₁ = s₁} {rest = rest} {q = q} on ends l =
      halts {n = 9} (record { from = 59 ∷ rest; moved = moves_on on (rw (skip_to 59 refl ends) at (skip-moves s₁ q)); beyond = omega arith })

  text-passes :
      (most needed : ℕ) {s rest : List ℕ} {t : Tree} → Text (kept_to given names m) most s t rest → NoneTwice (known names t) → length rest < m → (p : ℕ)
      → Passes m s p (λ x. Unit {0}) rest (read_tree given names most needed s p)
  unfolding read_tree_by read_tree_to_by
  text-passes most needed {s} (text d ends) once l p =
      passes_then (λ t s p. ended (next_is 59 (skip s)) needed t (skip s) (p + blanks s))
      (over_node (kept_to given names m) NodePasses ForestPasses pass-steps d (semicolon_follows ends) (2 * length s + 1) 0 p (omega arith)
      (λ h. record { once = once; new = λ i among has. has-zero i has }))
      (λ z q on same. rw (skip_is 59 refl ends, skip_to 59 refl ends) (ended-passes (within needed (cluster z)) z on ends l))

passed : {A : Type 0} {m : ℕ} {s rest : List ℕ} {p : ℕ} {P : A → Type 0} {a : Answer A} {n q : ℕ} → Passes m s p P rest a → a ≡ refused n q → Late m s p n q
passed (reads moved holds) e = absurd (parsed-refused e)
passed {n = n} {q = q} (halts {n = k} {q = r} l) e =
    let f : k ≡ n = cc in
    let g : r ≡ q = cc in
    rw (← f, ← g) l

-- a text that is kept up to the place, behind which m bytes stand, is refused, if at all, by bytes of which some stand behind the place
pub kept-read-late :
    (given : Bool) (names : List (List ℕ)) (most needed m : ℕ) (s : List ℕ) (p n x : ℕ) {t : Tree}
    → Text (kept_to given names m) most s t [] → NoneTwice (known names t) → 1 ≤ m
    → read_tree given names most needed s p ≡ refused n (p + x) → length s < m + border n s x
kept-read-late given names most needed m s p n x d once some h =
    let l = passed (text-passes given names m most needed d once some p) h in
    let at : l.moved.count ≡ x = omega (arith, l.moved.place) in
    let there : l.from ≡ drop x s = l.moved.left ∙ ap (λ (c : ℕ). drop c s) at in
    let beyond : length (drop x s) < m + deciding n (drop x s) = rw there at l.beyond in
    omega (arith, border-deciding n s x, length-drop x s, l.moved.fits)
