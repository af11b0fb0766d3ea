-- A tree that is read holds species that were not met before, each once: so it has fewer clusters than twice its species, all of them sets of the roster's species.
use Prim.Native.Nat.{ℕ, zero, suc, ◌+◌, ◌-◌, ◌*◌, ◌^◌, ◌≤◌, ◌<◌}
use native.Mathlib.Omega.{arith}
use native.Mathlib.Decide.{dec_lt}
use mathlib.Core.Path.{◌≡◌, refl}
use mathlib.Core.Bool.{Bool, true, false}
use mathlib.Core.List.{List, [], ◌∷◌, ◌++◌, tail}
use lib.ListN.{length, get_or, length-append, get_or-append}
use lib.Seq.{get_or-append-add}
use lib.Dec.{ltb}
use borrow.Author.Tests.{ltb-true}
use Rattle.clusters.specs.Sets.{Apart, single, union, apart, size}
use Rattle.clusters.proofs.Sets.{single-below, union-below, apart-true, apart-sym, union-apart, apart-within, within-union_left, within-union_right}
use Rattle.clusters.proofs.Sizes.{size-apart, size-single}
use Rattle.labels.specs.Bytes.{next_is, next_label}
use Rattle.trees.specs.Tree.{Tree, Forest, cluster, cluster_of, clusters, clusters_of}
use Rattle.trees.specs.Tree.Tree.{leaf, node}
use Rattle.trees.specs.Tree.Forest.{last, more}
use Rattle.roster.specs.Roster.{position}
use Rattle.tokens.specs.Answers.{Answer, and_then}
use Rattle.tokens.specs.Answers.Answer.{parsed}
use Rattle.tokens.specs.Tokens.{blanks, skip, name, inner_name}
use Rattle.tokens.specs.Supports.{supported}
use Rattle.nodes.specs.Reading.{leaf_new, leaf_known, leaf_at, closing, after_first, opened, node_by, after_child, read_node, read_forest, closing_by, leaf_by, read_forest_by, read_node_by}
use Rattle.nodes.proofs.Answers.{refused-parsed, and_then-parsed, unexpected-parsed}

-- a set of n species at most, none of them met before, and the clusters within it: fewer than twice its size
pub record Fresh (n seen mask : ℕ) (cs : List ℕ) : Type 0 where
  pub unmet : Apart mask seen
  pub below : mask < 2 ^ n
  pub counted : length cs + 1 ≤ 2 * size mask
  pub each : (i : ℕ) → i < length cs → get_or cs i 0 < 2 ^ n

-- ---- lists of clusters below a bound

each_one : (m b : ℕ) → m < b → (i : ℕ) → i < length (m ∷ []) → get_or (m ∷ []) i 0 < b
each_one m b h zero k = h
each_one m b h (suc i) k = absurd (omega arith)

each_append :
    (xs ys : List ℕ) (b : ℕ) → ((i : ℕ) → i < length xs → get_or xs i 0 < b) → ((i : ℕ) → i < length ys → get_or ys i 0 < b)
    → (i : ℕ) → i < length (xs ++ ys) → get_or (xs ++ ys) i 0 < b
each_append xs ys b f g i k = by_place (dec_lt i (length xs))
  where
    by_place : Dec (i < length xs) → get_or (xs ++ ys) i 0 < b
    by_place (yes h) = rw (get_or-append xs ys 0 i h) (f i h)
    by_place (no h) =
        let e : i ≡ length xs + (i - length xs) = omega arith in
        let l : i - length xs < length ys = omega (arith, length-append xs ys) in
        rw (e, get_or-append-add xs ys (i - length xs) 0) (g (i - length xs) l)

-- ---- a leaf, the nodes of a list, a node over them

fresh-leaf : (n seen i : ℕ) → apart (single i) seen ≡ true → i < n → Fresh n seen (single i) (single i ∷ [])
fresh-leaf n seen i a h = record {
  unmet = apart-true (single i) seen a;
  below = single-below h;
  counted = omega (arith, size-single i);
  each = each_one (single i) (2 ^ n) (single-below h);
}

module _ (n seen m m' : ℕ) (cs cs' : List ℕ) (first : Fresh n seen m cs) (rest : Fresh n (union seen m) m' cs') where
  parted : Apart m m'
  parted = apart-sym m' m (apart-sym m m' (apart-within m (union seen m) m' (within-union_right seen m) (apart-sym m' (union seen m) rest.unmet)))

  fresh_more : Fresh n seen (union m m') (cs ++ cs')
  fresh_more = record {
    unmet =
        union-apart m m' seen first.unmet
        (apart-sym seen m' (apart-within seen (union seen m) m' (within-union_left seen m) (apart-sym m' (union seen m) rest.unmet)));
    below = union-below n first.below rest.below;
    counted = omega (arith, size-apart m m' parted, length-append cs cs', first.counted, rest.counted);
    each = each_append cs cs' (2 ^ n) first.each rest.each;
  }

  fresh-node : Fresh n seen (union m m') (cs ++ cs' ++ (union m m' ∷ []))
  fresh-node =
      let f = fresh_more in
      record {
        unmet = f.unmet;
        below = f.below;
        counted =
            omega (arith, size-apart m m' parted, length-append (cs ++ cs') (union m m' ∷ []), length-append cs cs', first.counted, rest.counted);
        each = each_append (cs ++ cs') (union m m' ∷ []) (2 ^ n) f.each (each_one (union m m') (2 ^ n) f.below);
      }

-- ---- what is read

abbrev pub FreshTree : ℕ → ℕ → Tree → Type 0
FreshTree n seen t = Fresh n seen (cluster t) (clusters t)

abbrev pub FreshForest : ℕ → ℕ → Forest → Type 0
FreshForest n seen f = Fresh n seen (cluster_of f) (clusters_of f)

leaf_new-fresh :
    (given : Bool) (n seen : ℕ) (t : Bool) (i begun : ℕ) (s : List ℕ) (p : ℕ) {x : Tree} {rest : List ℕ} {q : ℕ}
    → apart (single i) seen ≡ t → i < n → leaf_new given t i begun s p ≡ parsed x rest q → FreshTree n seen x
unfolding cluster clusters
leaf_new-fresh given n seen false i begun s p a h e = absurd (refused-parsed e)
leaf_new-fresh given n seen true i begun s p {x} {rest} {q} a h e =
    let r = and_then-parsed (supported given [] s p) (λ b s p. parsed (leaf i b) s p) e in
    let is : x ≡ leaf i r.value = cc r.after in
    rw is (fresh-leaf n seen i a h)

leaf_known-fresh :
    (given : Bool) (n seen : ℕ) (t : Bool) (i begun : ℕ) (s : List ℕ) (p : ℕ) {x : Tree} {rest : List ℕ} {q : ℕ}
    → ltb i n ≡ t → leaf_known given t i seen begun s p ≡ parsed x rest q → FreshTree n seen x
leaf_known-fresh given n seen false i begun s p k e = absurd (refused-parsed e)
leaf_known-fresh given n seen true i begun s p k e = leaf_new-fresh given n seen (apart (single i) seen) i begun s p refl (ltb-true i n k) e

leaf_at-fresh :
    (given : Bool) (names : List (List ℕ)) (seen : ℕ) (s : List ℕ) (p : ℕ) {x : Tree} {rest : List ℕ} {q : ℕ}
    → leaf_at given names seen s p ≡ parsed x rest q → FreshTree (length names) seen x
unfolding leaf_by
leaf_at-fresh given names seen s p e =
    let r = and_then-parsed (name s p) (λ w rest q. leaf_known given (ltb (position w names) (length names)) (position w names) seen p rest q) e in
    let i = position r.value names in
    leaf_known-fresh given (length names) seen (ltb i (length names)) i p r.left r.place refl r.after

closing-node :
    (given : Bool) (t : Tree) (f : Forest) (s : List ℕ) (p : ℕ) {x : Tree} {rest : List ℕ} {q : ℕ}
    → closing given t f s p ≡ parsed x rest q
    → (cluster x ≡ union (cluster t) (cluster_of f)) × (clusters x ≡ clusters t ++ clusters_of f ++ (union (cluster t) (cluster_of f) ∷ []))
unfolding closing_by cluster clusters
closing-node given t f s p {x} e =
    let r = and_then-parsed (inner_name s p) (λ w s p. and_then (supported given w s p) (λ b s p. parsed (node t f b) s p)) e in
    let n = and_then-parsed (supported given r.value r.left r.place) (λ b s p. parsed (node t f b) s p) r.after in
    let is : x ≡ node t f n.value = cc n.after in
    (rw is, rw is)

abbrev AllFresh : {A : Type 0} → (ℕ → ℕ → A → Type 0) → ℕ → (ℕ → List ℕ → ℕ → Answer A) → Type 0
AllFresh {A} Good n read = (e : ℕ) (s : List ℕ) (p : ℕ) (x : A) (rest : List ℕ) (q : ℕ) → read e s p ≡ parsed x rest q → Good n e x

after_first-fresh :
    (given : Bool) (n : ℕ) (t u : Bool) (others : ℕ → List ℕ → ℕ → Answer Forest) (seen : ℕ) (c : Tree) (s : List ℕ) (p : ℕ) {x : Tree} {rest : List ℕ} {q : ℕ}
    → AllFresh FreshForest n others → FreshTree n seen c → after_first given t u others seen c s p ≡ parsed x rest q → FreshTree n seen x
after_first-fresh given n true u others seen c s p on first e =
    let r = and_then-parsed (others (union seen (cluster c)) (tail s) (p + 1)) (λ f s p. closing given c f s p) e in
    let f = r.value in
    let more = on (union seen (cluster c)) (tail s) (p + 1) f r.left r.place r.first in
    let is = closing-node given c f r.left r.place r.after in
    rw (is.0, is.1) (fresh-node n seen (cluster c) (cluster_of f) (clusters c) (clusters_of f) first more)
after_first-fresh given n false true others seen c s p on first e = absurd (refused-parsed e)
after_first-fresh given n false false others seen c s p on first e = absurd (unexpected-parsed s p e)

opened-fresh :
    (given : Bool) (n : ℕ) (first : ℕ → ℕ → List ℕ → ℕ → Answer Tree) (others : ℕ → ℕ → List ℕ → ℕ → Answer Forest) (room seen : ℕ) (s : List ℕ) (p : ℕ)
    {x : Tree} {rest : List ℕ} {q : ℕ}
    → ((r : ℕ) → AllFresh FreshTree n (first r)) → ((r : ℕ) → AllFresh FreshForest n (others r))
    → opened given first others room seen s p ≡ parsed x rest q → FreshTree n seen x
opened-fresh given n first others zero seen s p one on e = absurd (refused-parsed e)
opened-fresh given n first others (suc room) seen s p one on e =
    let r =
    and_then-parsed (first room seen (tail s) (p + 1))
    (λ t s p. after_first given (next_is 44 (skip s)) (next_is 41 (skip s)) (λ e s p. others room e s p) seen t (skip s) (p + blanks s)) e
    in
    let m = r.left in
    after_first-fresh given n (next_is 44 (skip m)) (next_is 41 (skip m)) (λ e s p. others room e s p) seen r.value (skip m) (r.place + blanks m) (on room)
    (one room seen (tail s) (p + 1) r.value m r.place r.first) r.after

node_by-fresh :
    (given : Bool) (t u : Bool) (names : List (List ℕ)) (first : ℕ → ℕ → List ℕ → ℕ → Answer Tree) (others : ℕ → ℕ → List ℕ → ℕ → Answer Forest) (room seen : ℕ)
    (s : List ℕ) (p : ℕ) {x : Tree} {rest : List ℕ} {q : ℕ}
    → ((r : ℕ) → AllFresh FreshTree (length names) (first r)) → ((r : ℕ) → AllFresh FreshForest (length names) (others r))
    → node_by given t u names first others room seen s p ≡ parsed x rest q → FreshTree (length names) seen x
node_by-fresh given true u names first others room seen s p one on e = leaf_at-fresh given names seen s p e
node_by-fresh given false true names first others room seen s p one on e = opened-fresh given (length names) first others room seen s p one on e
node_by-fresh given false false names first others room seen s p one on e = absurd (unexpected-parsed s p e)

after_child-fresh :
    (n : ℕ) (t u : Bool) (others : ℕ → List ℕ → ℕ → Answer Forest) (seen : ℕ) (c : Tree) (s : List ℕ) (p : ℕ) {x : Forest} {rest : List ℕ} {q : ℕ}
    → AllFresh FreshForest n others → FreshTree n seen c → after_child t u others seen c s p ≡ parsed x rest q → FreshForest n seen x
unfolding cluster clusters
after_child-fresh n true u others seen c s p {x} on first e =
    let r = and_then-parsed (others (union seen (cluster c)) (tail s) (p + 1)) (λ f s p. parsed (more c f) s p) e in
    let f = r.value in
    let rest = on (union seen (cluster c)) (tail s) (p + 1) f r.left r.place r.first in
    let is : x ≡ more c f = cc r.after in
    rw is (fresh_more n seen (cluster c) (cluster_of f) (clusters c) (clusters_of f) first rest)
after_child-fresh n false true others seen c s p {x} on first e =
    let is : x ≡ last c = cc in
    rw is first
after_child-fresh n false false others seen c s p on first e = absurd (unexpected-parsed s p e)

forest-fresh :
    (n : ℕ) (first : ℕ → List ℕ → ℕ → Answer Tree) (others : ℕ → List ℕ → ℕ → Answer Forest) (seen : ℕ) (s : List ℕ) (p : ℕ)
    {x : Forest} {rest : List ℕ} {q : ℕ}
    → AllFresh FreshTree n first → AllFresh FreshForest n others
    → and_then (first seen s p) (λ t s p. after_child (next_is 44 (skip s)) (next_is 41 (skip s)) others seen t (skip s) (p + blanks s)) ≡ parsed x rest q
    → FreshForest n seen x
forest-fresh n first others seen s p one on e =
    let r = and_then-parsed (first seen s p) (λ t s p. after_child (next_is 44 (skip s)) (next_is 41 (skip s)) others seen t (skip s) (p + blanks s)) e in
    let m = r.left in
    after_child-fresh n (next_is 44 (skip m)) (next_is 41 (skip m)) others seen r.value (skip m) (r.place + blanks m) on
    (one seen s p r.value m r.place r.first) r.after

mutual
  unfolding read_node_by read_forest_by

  pub read_node-fresh :
      (given : Bool) (k : ℕ) (names : List (List ℕ)) (room seen : ℕ) (s : List ℕ) (p : ℕ) (x : Tree) (rest : List ℕ) (q : ℕ)
      → read_node given k names room seen s p ≡ parsed x rest q → FreshTree (length names) seen x
  read_node-fresh given zero names room seen s p x rest q e = absurd (refused-parsed e)
  read_node-fresh given (suc k) names room seen s p x rest q e =
      node_by-fresh given (next_label (skip s)) (next_is 40 (skip s)) names (λ r e s p. read_node given k names r e s p) (λ r e s p. read_forest given k names r e s p)
      room seen (skip s) (p + blanks s)
      (λ r e s p x rest q h. read_node-fresh given k names r e s p x rest q h) (λ r e s p x rest q h. read_forest-fresh given k names r e s p x rest q h) e

  pub read_forest-fresh :
      (given : Bool) (k : ℕ) (names : List (List ℕ)) (room seen : ℕ) (s : List ℕ) (p : ℕ) (x : Forest) (rest : List ℕ) (q : ℕ)
      → read_forest given k names room seen s p ≡ parsed x rest q → FreshForest (length names) seen x
  read_forest-fresh given zero names room seen s p x rest q e = absurd (refused-parsed e)
  read_forest-fresh given (suc k) names room seen s p x rest q e =
      forest-fresh (length names) (λ e s p. read_node given k names room e s p) (λ e s p. read_forest given k names room e s p) seen s p
      (λ e s p x rest q h. read_node-fresh given k names room e s p x rest q h) (λ e s p x rest q h. read_forest-fresh given k names room e s p x rest q h) e
