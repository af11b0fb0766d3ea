-- Every tree of the grammar that has each species at most once, and all that are needed, is read.
use Prim.Native.Nat.{ℕ, zero, suc, ◌+◌, ◌-◌, ◌*◌, ◌≤◌, ◌<◌}
use mathlib.Core.Path.{◌≡◌, refl, ap, ◌∙◌}
use mathlib.Core.Bool.{Bool, true, false}
use mathlib.Core.List.{List, [], ◌∷◌, ◌++◌}
use native.Mathlib.Omega.{arith}
use lib.ListN.{length}
use lib.Dec.{ltb}
use borrow.Author.Tests.{lt-ltb}
use Rattle.clusters.specs.Sets.{Within, Apart, single, union}
use Rattle.clusters.proofs.Sets.{within-union_left, within-union_right, apart-sym, apart-within, apart-union, apart-zero, true-apart, true-within}
use Rattle.labels.specs.Bytes.{next_is, next_label}
use Rattle.labels.specs.Spelling.{Spells}
use Rattle.labels.specs.Labels.{label_bytes}
use Rattle.labels.proofs.Spelled.{spells_first}
use Rattle.trees.specs.Lists.{NoneTwice}
use Rattle.trees.specs.Tree.{Tree, Forest, leaves, leaves_of, cluster, cluster_of}
use Rattle.trees.specs.Tree.Tree.{leaf, node}
use Rattle.trees.specs.Tree.Forest.{last, more}
use Rattle.trees.proofs.Listing.{none_twice_left, none_twice_right}
use Rattle.trees.proofs.Nodes.{children-apart}
use Rattle.roster.specs.Roster.{position}
use Rattle.tokens.specs.Answers.{and_then}
use Rattle.tokens.specs.Answers.Answer.{parsed}
use Rattle.tokens.specs.Tokens.{blanks, skip, name, inner_name}
use Rattle.nodes.specs.Reading.{leaf_known, leaf_at, closing, after_first, after_child, read_node, read_forest, ended, read_tree, closing_by, leaf_by, read_forest_by, read_node_by, read_tree_by, read_tree_to_by}
use Rattle.tokens.specs.Supports.{supported}
use Rattle.nodes.specs.Grammar.{strict, Blanks, Numbers, Inner, Node, Text}
use Rattle.nodes.specs.Grammar.Blanks.{none, blank}
use Rattle.nodes.specs.Grammar.Text.{text}
use Rattle.nodes.proofs.Rests.{moves-length, advances_shorter, read_node_advances, read_tree_advances}
use Rattle.nodes.proofs.Derivations.{two_wanted, Steps, over_node}
use Rattle.nodes.proofs.Exact.{Gives, gives, gives_then, Follows, comma_follows, closing_follows, semicolon_follows, blanks-skip, skip_to, skip_is, next_not}
use Rattle.nodes.proofs.Exact.{label_no_blank, stopped-label, supported-gives, numbers-stopped, name-gives, inner_name-gives}

-- ---- a leaf, and what closes an inner node

leaf_at-gives :
    (given : Bool) (names : List (List ℕ)) (seen i : ℕ) {w d b m mid rest : List ℕ}
    → Spells w m mid → (length w ≤ label_bytes) × (position w names ≡ i) × (i < length names) → Numbers (strict given names) d b mid rest
    → Follows rest → Apart (single i) seen → (p : ℕ)
    → Gives (leaf_at given names seen m p) (leaf i (record { name = []; distance = d; support = b })) rest
unfolding leaf_by
leaf_at-gives given names seen i {w} {d} {b} {m} {mid} {rest} r known behind follows new p =
    gives_then (name m p) (λ w rest q. leaf_known given (ltb (position w names) (length names)) (position w names) seen p rest q)
    (name-gives r (stopped-label (numbers-stopped behind follows)) known.0 p)
    (λ q.
    rw (known.1, lt-ltb i (length names) known.2, true-apart (single i) seen new)
    (gives_then (supported given [] mid q) (λ b s p. parsed (leaf i b) s p) (supported-gives given names [] behind follows q)
    (λ z. gives (leaf i (record { name = []; distance = d; support = b })) rest z)))

closing-gives :
    (given : Bool) (names : List (List ℕ)) (t : Tree) (f : Forest) {w d b s m rest : List ℕ}
    → Inner (strict given names) w s m → Numbers (strict given names) d b m rest → Follows rest → (p : ℕ)
    → Gives (closing given t f s p) (node t f (record { name = w; distance = d; support = b })) rest
unfolding closing_by
closing-gives given names t f {w} {d} {b} {s} {m} {rest} inner behind follows p =
    gives_then (inner_name s p) (λ w s p. and_then (supported given w s p) (λ b s p. parsed (node t f b) s p))
    (inner_name-gives given names inner (numbers-stopped behind follows) p)
    (λ q.
    gives_then (supported given w m q) (λ b s p. parsed (node t f b) s p) (supported-gives given names w behind follows q)
    (λ z. gives (node t f (record { name = w; distance = d; support = b })) rest z))

-- ---- lengths

blanks-length : {s m : List ℕ} → Blanks s m → length m ≤ length s
blanks-length none = omega arith
blanks-length (blank is h) = omega (arith, blanks-length h)

read_shorter :
    (given : Bool) (k : ℕ) (names : List (List ℕ)) (room seen : ℕ) (s : List ℕ) (p : ℕ) {t : Tree} {rest : List ℕ}
    → Gives (read_node given k names room seen s p) t rest → length rest < length s
read_shorter given k names room seen s p {t} {rest} g = advances_shorter (read_node_advances given k names room seen s p t rest g.place g.is)

-- ---- nodes and children

-- where what follows ends it, reading at any depth above the measure gives it, from any place and any set of species that has none of its own
abbrev NodeGiven : Bool → List (List ℕ) → ℕ → List ℕ → Tree → List ℕ → Type 0
NodeGiven given names room s t rest =
    Follows rest → (k seen p : ℕ) → 2 * length s < k → NoneTwice (leaves t) → Apart (cluster t) seen
    → Gives (read_node given k names room seen s p) t rest

abbrev ForestGiven : Bool → List (List ℕ) → ℕ → List ℕ → Forest → List ℕ → Type 0
ForestGiven given names room s f rest =
    (k seen p : ℕ) → 2 * length s + 1 < k → NoneTwice (leaves_of f) → Apart (cluster_of f) seen → Gives (read_forest given k names room seen s p) f rest

leaf-given :
    (given : Bool) (names : List (List ℕ)) (room i : ℕ) (w d b s s₁ s₂ rest : List ℕ)
    → Blanks s s₁ → Spells w s₁ s₂ → (length w ≤ label_bytes) × (position w names ≡ i) × (i < length names)
    → Numbers (strict given names) d b s₂ rest → NodeGiven given names room s (leaf i (record { name = []; distance = d; support = b })) rest
unfolding read_node_by cluster
leaf-given given names room i w d b s s₁ s₂ rest gap r known behind follows zero seen p l once new = absurd (omega arith)
leaf-given given names room i w d b s s₁ s₂ rest gap r known behind follows (suc k) seen p l once new =
    let e : skip s ≡ s₁ = blanks-skip gap (label_no_blank s₁ (spells_first r)) in
    let is : next_label (skip s) ≡ true = rw e (spells_first r) in
    rw (is, e) (leaf_at-gives given names seen i r known behind follows new (p + blanks s))

-- the parts of a node, apart from what was seen and from one another
pub record Parted (seen : ℕ) (t : Tree) (f : Forest) : Type 0 where
  pub first_once : NoneTwice (leaves t)
  pub first_new : Apart (cluster t) seen
  pub others_once : NoneTwice (leaves_of f)
  pub others_new : Apart (cluster_of f) (union seen (cluster t))

parts : (seen : ℕ) (t : Tree) (f : Forest) → NoneTwice (leaves t ++ leaves_of f) → Apart (union (cluster t) (cluster_of f)) seen → Parted seen t f
parts seen t f once new =
    let c = cluster t in
    let c' = cluster_of f in
    record {
      first_once = none_twice_left (leaves t) (leaves_of f) once;
      first_new = apart-within c (union c c') seen (within-union_left c c') new;
      others_once = none_twice_right (leaves t) (leaves_of f) once;
      others_new = apart-union c' seen c (apart-within c' (union c c') seen (within-union_right c c') new) (apart-sym c c' (children-apart t f once));
    }

-- behind the first child: a comma, the others, and what closes the node
others-given :
    (given : Bool) (k : ℕ) (names : List (List ℕ)) (room seen : ℕ) (t : Tree) (f : Forest) (w d b s s₁ s₂ s₃ rest : List ℕ)
    → Blanks s (44 ∷ s₁) → ForestGiven given names room s₁ f s₂ → Inner (strict given names) w s₂ s₃ → Numbers (strict given names) d b s₃ rest → Follows rest
    → 2 * length s₁ + 1 < k → Parted seen t f → (p : ℕ)
    → Gives (after_first given (next_is 44 (skip s)) (next_is 41 (skip s)) (λ e s p. read_forest given k names room e s p) seen t (skip s) p)
    (node t f (record { name = w; distance = d; support = b })) rest
others-given given k names room seen t f w d b s s₁ s₂ s₃ rest comma others inner behind follows l parted p =
    rw (skip_is 44 refl comma, skip_to 44 refl comma)
    (gives_then (read_forest given k names room (union seen (cluster t)) s₁ (p + 1)) (λ f s p. closing given t f s p)
    (others k (union seen (cluster t)) (p + 1) l parted.others_once parted.others_new)
    (λ q. closing-gives given names t f inner behind follows q))

inner-given :
    (given : Bool) (names : List (List ℕ)) (room : ℕ) (t : Tree) (f : Forest) (w d b s s₁ s₂ s₃ s₄ s₅ rest : List ℕ)
    → Blanks s (40 ∷ s₁) → NodeGiven given names room s₁ t s₂ → Blanks s₂ (44 ∷ s₃) → ForestGiven given names room s₃ f s₄ → Inner (strict given names) w s₄ s₅
    → Numbers (strict given names) d b s₅ rest → NodeGiven given names (suc room) s (node t f (record { name = w; distance = d; support = b })) rest
unfolding read_node_by leaves cluster next_label
inner-given given names room t f w d b s s₁ s₂ s₃ s₄ s₅ rest bl first comma others inner behind follows zero seen p l once new = absurd (omega arith)
inner-given given names room t f w d b s s₁ s₂ s₃ s₄ s₅ rest bl first comma others inner behind follows (suc k) seen p l once new =
    let e : skip s ≡ 40 ∷ s₁ = skip_to 40 refl bl in
    let no-leaf : next_label (skip s) ≡ false = rw e refl in
    let parted = parts seen t f once new in
    let q = p + blanks s + 1 in
    let l₁ = blanks-length bl in
    let g = first (comma_follows comma) k seen q (omega arith) parted.first_once parted.first_new in
    let l₂ = read_shorter given k names room seen s₁ q g in
    let l₃ = blanks-length comma in
    rw (no-leaf, skip_is 40 refl bl, e)
    (gives_then (read_node given k names room seen s₁ q)
    (λ t s p. after_first given (next_is 44 (skip s)) (next_is 41 (skip s)) (λ e s p. read_forest given k names room e s p) seen t (skip s) (p + blanks s)) g
    (λ z. others-given given k names room seen t f w d b s₂ s₃ s₄ s₅ rest comma others inner behind follows (omega arith) parted (z + blanks s₂)))

last_given :
    (given : Bool) (names : List (List ℕ)) (room : ℕ) (t : Tree) (s s₁ rest : List ℕ)
    → NodeGiven given names room s t s₁ → Blanks s₁ (41 ∷ rest) → ForestGiven given names room s (last t) rest
unfolding read_forest_by leaves_of cluster_of
last_given given names room t s s₁ rest only closes zero seen p l once new = absurd (omega arith)
last_given given names room t s s₁ rest only closes (suc k) seen p l once new =
    let e : skip s₁ ≡ 41 ∷ rest = skip_to 41 refl closes in
    let no-comma : next_is 44 (skip s₁) ≡ false = rw e (next_not 44 41 rest refl) in
    gives_then (read_node given k names room seen s p)
    (λ t s p. after_child (next_is 44 (skip s)) (next_is 41 (skip s)) (λ e s p. read_forest given k names room e s p) seen t (skip s) (p + blanks s))
    (only (closing_follows closes) k seen p (omega arith) once new)
    (λ q. rw (no-comma, skip_is 41 refl closes, e) (gives (last t) rest (q + blanks s₁ + 1)))

more_given :
    (given : Bool) (names : List (List ℕ)) (room : ℕ) (t : Tree) (f : Forest) (s s₁ s₂ rest : List ℕ)
    → NodeGiven given names room s t s₁ → Blanks s₁ (44 ∷ s₂) → ForestGiven given names room s₂ f rest → ForestGiven given names room s (more t f) rest
unfolding read_forest_by leaves_of cluster_of
more_given given names room t f s s₁ s₂ rest first comma others zero seen p l once new = absurd (omega arith)
more_given given names room t f s s₁ s₂ rest first comma others (suc k) seen p l once new =
    let parted = parts seen t f once new in
    let g = first (comma_follows comma) k seen p (omega arith) parted.first_once parted.first_new in
    let l₁ = read_shorter given k names room seen s p g in
    let l₂ = blanks-length comma in
    gives_then (read_node given k names room seen s p)
    (λ t s p. after_child (next_is 44 (skip s)) (next_is 41 (skip s)) (λ e s p. read_forest given k names room e s p) seen t (skip s) (p + blanks s))
    g
    (λ q.
    rw (skip_is 44 refl comma, skip_to 44 refl comma)
    (gives_then (read_forest given k names room (union seen (cluster t)) s₂ (q + blanks s₁ + 1)) (λ f s p. parsed (more t f) s p)
    (others k (union seen (cluster t)) (q + blanks s₁ + 1) (omega arith) parted.others_once parted.others_new)
    (λ z. gives (more t f) rest z)))

given-steps : (given : Bool) (names : List (List ℕ)) → Steps (strict given names) (NodeGiven given names) (ForestGiven given names)
given-steps given names =
    record {
      at_leaf = λ k i w d b s s₁ s₂ rest gap r known behind. leaf-given given names k i w d b s s₁ s₂ rest gap r known behind;
      at_inner = λ k t f w d b s s₁ s₂ s₃ s₄ s₅ rest bl first p comma others q inner behind.
          inner-given given names k t f w d b s s₁ s₂ s₃ s₄ s₅ rest bl p comma q inner behind;
      at_single = λ k t w d b s s₁ s₂ s₃ s₄ rest enough bl only p closes inner behind. absurd (two_wanted enough);
      at_last = λ k t s s₁ rest only p closes. last_given given names k t s s₁ rest p closes;
      at_more = λ k t f s s₁ s₂ rest first p comma others q. more_given given names k t f s s₁ s₂ rest p comma q;
    }

pub node-complete : (given : Bool) (names : List (List ℕ)) {room : ℕ} {s rest : List ℕ} {t : Tree} → Node (strict given names) room s t rest → NodeGiven given names room s t rest
node-complete given names d = over_node (strict given names) (NodeGiven given names) (ForestGiven given names) (given-steps given names) d

-- ---- the tree

tree-given :
    (given : Bool) (names : List (List ℕ)) (most needed : ℕ) {s rest : List ℕ} {t : Tree}
    → Text (strict given names) most s t rest → NoneTwice (leaves t) → Within needed (cluster t) → (p : ℕ) → Gives (read_tree given names most needed s p) t rest
unfolding read_tree_by read_tree_to_by
tree-given given names most needed {s} {rest} {t} (text {s₁ = m} d ends) once all p =
    let k = 2 * length s + 1 in
    gives_then (read_node given k names most 0 s p) (λ t s p. ended (next_is 59 (skip s)) needed t (skip s) (p + blanks s))
    (node-complete given names d (semicolon_follows ends) k 0 p (omega arith) once (apart-zero (cluster t)))
    (λ q. rw (skip_is 59 refl ends, true-within needed (cluster t) all, skip_to 59 refl ends) (gives t rest (q + blanks m + 1)))

pub read-complete :
    (given : Bool) (names : List (List ℕ)) (most needed : ℕ) (s : List ℕ) (p : ℕ) {t : Tree} {rest : List ℕ}
    → Text (strict given names) most s t rest → NoneTwice (leaves t) → Within needed (cluster t)
    → read_tree given names most needed s p ≡ parsed t rest (p + (length s - length rest))
read-complete given names most needed s p {t} {rest} d once all =
    let g = tree-given given names most needed d once all p in
    let a = read_tree_advances given names most needed s p g.is in
    let e : g.place ≡ p + (length s - length rest) = omega (arith, moves-length a.moves, advances_shorter a) in
    g.is ∙ ap (λ (q : ℕ). parsed t rest q) e
