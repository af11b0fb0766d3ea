-- The depth that bounds the calls of reading is never met: every bound above the measure gives the same answer.
use Prim.Native.Nat.{ℕ, zero, suc, ◌+◌, ◌*◌, ◌≤◌, ◌<◌}
use mathlib.Core.Path.{◌≡◌, refl, ap, ◌∙◌}
use mathlib.Core.Bool.{Bool, true, false}
use mathlib.Core.List.{List, tail}
use native.Mathlib.Omega.{arith}
use lib.ListN.{length}
use Rattle.clusters.specs.Sets.{union}
use Rattle.labels.specs.Bytes.{next_is, next_label}
use Rattle.trees.specs.Tree.{Tree, Forest, cluster}
use Rattle.trees.specs.Tree.Forest.{more}
use Rattle.tokens.specs.Answers.{Answer, and_then}
use Rattle.tokens.specs.Answers.Answer.{parsed, refused}
use Rattle.tokens.specs.Tokens.{blanks, skip}
use Rattle.nodes.specs.Reading.{closing, after_first, opened, node_by, after_child, read_node, read_forest, ended, read_tree_to, read_tree, read_forest_by, read_node_by, read_tree_by, read_tree_to_by}
use Rattle.nodes.proofs.Rests.{Reader, AllAdvance, moves-length, advances_shorter, skip-moves, next_is-tail, read_node_advances}

-- two pieces of reading answer the same on every text of fewer than n bytes
abbrev AgreeBelow : {A : Type 0} → ℕ → Reader A → Reader A → Type 0
AgreeBelow n read again = (e : ℕ) (s : List ℕ) (p : ℕ) → length s < n → read e s p ≡ again e s p

and_then_same :
    {A B : Type 0} (a : Answer A) (f g : A → List ℕ → ℕ → Answer B)
    → ((x : A) (s : List ℕ) (p : ℕ) → a ≡ parsed x s p → f x s p ≡ g x s p) → and_then a f ≡ and_then a g
and_then_same (parsed x s p) f g same = same x s p refl
and_then_same (refused n q) f g same = refl

pub skip_shorter : (s : List ℕ) → length (skip s) ≤ length s
skip_shorter s = let m = skip-moves s 0 in omega (arith, moves-length m, m.place)

pub tail_shorter : (b : ℕ) (s : List ℕ) → next_is b s ≡ true → length (tail s) < length s
tail_shorter b s is = advances_shorter (next_is-tail b s 0 is)

after_first_same :
    (given : Bool) (n : ℕ) (t u : Bool) (others again : Reader Forest) (seen : ℕ) (c : Tree) (s : List ℕ) (p : ℕ)
    → AgreeBelow n others again → length s ≤ n → next_is 44 s ≡ t → after_first given t u others seen c s p ≡ after_first given t u again seen c s p
after_first_same given n true u others again seen c s p same l is =
    ap (λ (a : Answer Forest). and_then a (λ f s p. closing given c f s p))
    (same (union seen (cluster c)) (tail s) (p + 1) (omega (arith, tail_shorter 44 s is)))
after_first_same given n false true others again seen c s p same l is = refl
after_first_same given n false false others again seen c s p same l is = refl

opened_same :
    (given : Bool) (first first' : ℕ → Reader Tree) (others others' : ℕ → Reader Forest) (room seen : ℕ) (s : List ℕ) (p : ℕ)
    → ((r : ℕ) → AllAdvance (first r)) → ((r : ℕ) → AgreeBelow (length s) (first r) (first' r))
    → ((r : ℕ) → AgreeBelow (length s) (others r) (others' r)) → next_is 40 s ≡ true
    → opened given first others room seen s p ≡ opened given first' others' room seen s p
opened_same given first first' others others' zero seen s p one same alike is = refl
opened_same given first first' others others' (suc room) seen s p one same alike is =
    let l = tail_shorter 40 s is in
    let next : (ℕ → Reader Forest) → Tree → List ℕ → ℕ → Answer Tree =
    λ o t s p. after_first given (next_is 44 (skip s)) (next_is 41 (skip s)) (λ e s p. o room e s p) seen t (skip s) (p + blanks s)
    in
    and_then_same (first room seen (tail s) (p + 1)) (next others) (next others')
    (λ t m q h.
    let k = advances_shorter (one room seen (tail s) (p + 1) t m q h) in
    after_first_same given (length s) (next_is 44 (skip m)) (next_is 41 (skip m)) (λ e s p. others room e s p) (λ e s p. others' room e s p) seen t (skip m)
    (q + blanks m) (alike room) (omega (arith, skip_shorter m)) refl)
    ∙ ap (λ (a : Answer Tree). and_then a (next others')) (same room seen (tail s) (p + 1) l)

node_by_same :
    (given : Bool) (t u : Bool) (names : List (List ℕ)) (first first' : ℕ → Reader Tree) (others others' : ℕ → Reader Forest) (room seen : ℕ) (s : List ℕ) (p : ℕ)
    → ((r : ℕ) → AllAdvance (first r)) → ((r : ℕ) → AgreeBelow (length s) (first r) (first' r))
    → ((r : ℕ) → AgreeBelow (length s) (others r) (others' r)) → next_is 40 s ≡ u
    → node_by given t u names first others room seen s p ≡ node_by given t u names first' others' room seen s p
node_by_same given true u names first first' others others' room seen s p one same alike is = refl
node_by_same given false true names first first' others others' room seen s p one same alike is =
    opened_same given first first' others others' room seen s p one same alike is
node_by_same given false false names first first' others others' room seen s p one same alike is = refl

after_child_same :
    (n : ℕ) (t u : Bool) (others again : Reader Forest) (seen : ℕ) (c : Tree) (s : List ℕ) (p : ℕ)
    → AgreeBelow n others again → length s ≤ n → next_is 44 s ≡ t → after_child t u others seen c s p ≡ after_child t u again seen c s p
after_child_same n true u others again seen c s p same l is =
    ap (λ (a : Answer Forest). and_then a (λ f s p. parsed (more c f) s p))
    (same (union seen (cluster c)) (tail s) (p + 1) (omega (arith, tail_shorter 44 s is)))
after_child_same n false true others again seen c s p same l is = refl
after_child_same n false false others again seen c s p same l is = refl

forest_same :
    (first first' : Reader Tree) (others others' : Reader Forest) (seen : ℕ) (s : List ℕ) (p : ℕ)
    → AllAdvance first → first seen s p ≡ first' seen s p → AgreeBelow (length s) others others'
    → and_then (first seen s p) (λ t s p. after_child (next_is 44 (skip s)) (next_is 41 (skip s)) others seen t (skip s) (p + blanks s))
    ≡ and_then (first' seen s p) (λ t s p. after_child (next_is 44 (skip s)) (next_is 41 (skip s)) others' seen t (skip s) (p + blanks s))
forest_same first first' others others' seen s p one same alike =
    let next : Reader Forest → Tree → List ℕ → ℕ → Answer Forest =
    λ o t s p. after_child (next_is 44 (skip s)) (next_is 41 (skip s)) o seen t (skip s) (p + blanks s)
    in
    and_then_same (first seen s p) (next others) (next others')
    (λ t m q h.
    let k = advances_shorter (one seen s p t m q h) in
    after_child_same (length s) (next_is 44 (skip m)) (next_is 41 (skip m)) others others' seen t (skip m) (q + blanks m) alike
    (omega (arith, skip_shorter m)) refl)
    ∙ ap (λ (a : Answer Tree). and_then a (next others')) same

mutual
  unfolding read_node_by read_forest_by

  pub node_fuel :
      (given : Bool) (k k' : ℕ) (names : List (List ℕ)) (room seen : ℕ) (s : List ℕ) (p : ℕ)
      → 2 * length s < k → 2 * length s < k' → read_node given k names room seen s p ≡ read_node given k' names room seen s p
  node_fuel given zero k' names room seen s p l l' = absurd (omega arith)
  node_fuel given (suc k) zero names room seen s p l l' = absurd (omega arith)
  node_fuel given (suc k) (suc k') names room seen s p l l' =
      node_by_same given (next_label (skip s)) (next_is 40 (skip s)) names (λ r e s p. read_node given k names r e s p) (λ r e s p. read_node given k' names r e s p)
      (λ r e s p. read_forest given k names r e s p) (λ r e s p. read_forest given k' names r e s p) room seen (skip s) (p + blanks s)
      (λ r e s p x rest q h. read_node_advances given k names r e s p x rest q h)
      (λ r e m q d. node_fuel given k k' names r e m q (omega (arith, skip_shorter s)) (omega (arith, skip_shorter s)))
      (λ r e m q d. forest_fuel given k k' names r e m q (omega (arith, skip_shorter s)) (omega (arith, skip_shorter s)))
      refl

  pub forest_fuel :
      (given : Bool) (k k' : ℕ) (names : List (List ℕ)) (room seen : ℕ) (s : List ℕ) (p : ℕ)
      → 2 * length s + 1 < k → 2 * length s + 1 < k' → read_forest given k names room seen s p ≡ read_forest given k' names room seen s p
  forest_fuel given zero k' names room seen s p l l' = absurd (omega arith)
  forest_fuel given (suc k) zero names room seen s p l l' = absurd (omega arith)
  forest_fuel given (suc k) (suc k') names room seen s p l l' =
      forest_same (λ e s p. read_node given k names room e s p) (λ e s p. read_node given k' names room e s p) (λ e s p. read_forest given k names room e s p)
      (λ e s p. read_forest given k' names room e s p) seen s p
      (λ e s p x rest q h. read_node_advances given k names room e s p x rest q h)
      (node_fuel given k k' names room seen s p (omega arith) (omega arith))
      (λ e m q d. forest_fuel given k k' names room e m q (omega arith) (omega arith))

-- any depth above twice the text's length gives the answer of `read_tree`
pub never-out :
    (given : Bool) (k : ℕ) (names : List (List ℕ)) (most needed : ℕ) (s : List ℕ) (p : ℕ)
    → 2 * length s < k → read_tree_to given k names most needed s p ≡ read_tree given names most needed s p
unfolding read_tree_to_by read_tree_by
never-out given k names most needed s p l =
    ap (λ (a : Answer Tree). and_then a (λ t s p. ended (next_is 59 (skip s)) needed t (skip s) (p + blanks s)))
    (node_fuel given k (2 * length s + 1) names most 0 s p l (omega arith))
