-- Trees that differ in the order of children alone: an equivalence, with the same leaves and clusters, equally resolved.
use Prim.Native.Nat.{ℕ, ◌+◌, ◌≤◌}
use mathlib.Core.Path.{◌≡◌, refl, sym, ap, ◌∙◌}
use mathlib.Core.Logic.{◌⊎◌, inl, inr}
use mathlib.Core.Bool.{Bool, true, false}
use mathlib.Core.List.Memᴰ
use mathlib.Core.List.Memᴰ.{head as here}
use mathlib.Core.List.Memᴰ.{tail as there}
use mathlib.Core.List.{List, [], ◌∷◌, ◌++◌}
use native.Mathlib.Omega.{arith}
use lib.Dec.{eqb}
use borrow.Author.Tests.{eqb-true, eq-eqb}
use Rattle.clusters.proofs.Members.{same_members}
use Rattle.trees.specs.Lists.{Among, NoneTwice}
use Rattle.trees.specs.Tree.{Tree, Forest, Behind, leaves, leaves_of, cluster, clusters, clusters_of, On, Binary}
use Rattle.trees.specs.Tree.Tree.{leaf, node}
use Rattle.trees.specs.Tree.Forest.{last, more}
use Rattle.trees.specs.Drawn.{trees, Picked, Alike, AlikeAll}
use Rattle.trees.specs.Drawn.Picked.{here as first, there as later}
use Rattle.trees.specs.Drawn.Alike.{leaves as like-leaves, nodes}
use Rattle.trees.specs.Drawn.AlikeAll.{none, next}
use Rattle.trees.specs.Unrooted.{OneOrTwo, RootedAnyhow}
use Rattle.trees.proofs.Nodes.{has-leaf, leaf-has}

-- ---- how often a number stands in a list

abbrev pub one_if : Bool → ℕ
one_if true = 1
one_if false = 0

-- how often x stands in it
unfoldable pub times : ℕ → List ℕ → ℕ
times x [] = 0
times x (y ∷ l) = one_if (eqb x y) + times x l

-- in two lists one behind the other, as often as in both
pub times_append : (x : ℕ) (l k : List ℕ) → times x (l ++ k) ≡ times x l + times x k
unfolding times
times_append x [] k = omega arith
times_append x (y ∷ l) k = omega (arith, times_append x l k)

pub times-among : {x : ℕ} (l : List ℕ) → Among x l → 1 ≤ times x l
unfolding times
times-among [] m = absurd (Memᴰ.not-nil m)
times-among {x} (y ∷ l) m = go (Memᴰ.cases_cons m) (λ k. times-among l k)
  where
    go : (x ≡ y) ⊎ Among x l → (Among x l → 1 ≤ times x l) → 1 ≤ one_if (eqb x y) + times x l
    go (inl e) ih = rw (eq-eqb x y e) (omega arith)
    go (inr k) ih = omega (arith, ih k)

pub among-times : (x : ℕ) (l : List ℕ) → 1 ≤ times x l → Among x l
unfolding times
among-times x [] h = absurd (omega arith)
among-times x (y ∷ l) h = go (eqb x y) refl h (λ k. among-times x l k)
  where
    go : (b : Bool) → eqb x y ≡ b → 1 ≤ one_if b + times x l → (1 ≤ times x l → Among x l) → Among x (y ∷ l)
    go true e h ih = here (eqb-true x y e)
    go false e h ih = there (ih (omega arith))

-- what stands in a list at most once
once-times : (x : ℕ) (l : List ℕ) → NoneTwice l → times x l ≤ 1
unfolding times NoneTwice
once-times x [] p = omega arith
once-times x (y ∷ l) p = go (eqb x y) refl (once-times x l p.1)
  where
    go : (b : Bool) → eqb x y ≡ b → times x l ≤ 1 → one_if b + times x l ≤ 1
    go true e h =
        let none : 1 ≤ times x l → ⊥ = λ h. p.0 (Memᴰ.cast (sym (eqb-true x y e)) (among-times x l h)) in
        omega (arith, none)
    go false e h = omega arith

times-once : (l : List ℕ) → ((x : ℕ) → times x l ≤ 1) → NoneTwice l
unfolding times NoneTwice
times-once [] f = tt
times-once (y ∷ l) f = (
  λ m. let most = rw (eq-eqb y y refl) at (f y) in omega (arith, times-among l m),
  times-once l (λ x. omega (arith, f x)),
)

-- two lists with the same numbers, each as often
pub record Reordered (l k : List ℕ) : Type 0 where
  pub same : (x : ℕ) → times x l ≡ times x k

reordered-sym : {l k : List ℕ} → Reordered l k → Reordered k l
reordered-sym e = record { same = λ x. sym (e.same x) }

-- what stands in one stands in the other
pub reordered-among : {l k : List ℕ} → Reordered l k → (x : ℕ) → Among x l → Among x k
reordered-among {l} {k} e x m = among-times x k (omega (arith, e.same x, times-among l m))

reordered-once : {l k : List ℕ} → Reordered l k → NoneTwice l → NoneTwice k
reordered-once {l} {k} e p = times-once k (λ x. omega (arith, e.same x, once-times x l p))

-- trees with the same leaves have the same species
pub reordered-cluster : (t u : Tree) → Reordered (leaves t) (leaves u) → cluster t ≡ cluster u
reordered-cluster t u e =
    same_members (cluster t) (cluster u) (λ i h. leaf-has u i (reordered-among e i (has-leaf t i h)))
    (λ i h. leaf-has t i (reordered-among (reordered-sym e) i (has-leaf u i h)))

-- and are trees on the same set
pub reordered_on : {s : ℕ} (t u : Tree) → Reordered (leaves t) (leaves u) → On s t → On s u
reordered_on t u e o = record { once = reordered-once e o.once; all = sym (reordered-cluster t u e) ∙ o.all }

-- ---- an equivalence

mutual
  unfolding trees

  -- every tree is alike to itself
  pub alike_refl : (t : Tree) → Alike t t
  alike_refl (leaf i b) = like-leaves
  alike_refl (node t f b) = nodes (next (alike_refl t) first (alike_all-refl f))

  alike_all-refl : (f : Forest) → AlikeAll (trees f) (trees f)
  alike_all-refl (last t) = next (alike_refl t) first none
  alike_all-refl (more t f) = next (alike_refl t) first (alike_all-refl f)

-- one tree picked behind another may be picked before it
picked_swap : {t u : Tree} {l k m : List Tree} → Picked t l k → Picked u k m → (j : List Tree) × Picked u l j × Picked t j m
picked_swap {m = m} (first {l = k}) q = (_, later q, first)
picked_swap (later p) first = (_, first, p)
picked_swap (later {t = v} p) (later q) = let r = picked_swap p q in (v ∷ r.0, later r.1, later r.2)

-- a pair put into two lists that are alike
alike_all-put : {t u : Tree} {l k l' k' : List Tree} → Picked t l l' → Alike t u → Picked u k k' → AlikeAll l' k' → AlikeAll l k
alike_all-put first a q r = next a q r
alike_all-put (later p) a q (next b p' r) = let s = picked_swap q p' in next b s.1 (alike_all-put p a s.2 r)

mutual
  -- a tree is alike to those that are alike to it
  pub alike-sym : {t u : Tree} → Alike t u → Alike u t
  alike-sym like-leaves = like-leaves
  alike-sym (nodes a) = nodes (alike_all-sym a)

  alike_all-sym : {l k : List Tree} → AlikeAll l k → AlikeAll k l
  alike_all-sym none = none
  alike_all-sym (next a p r) = alike_all-put p (alike-sym a) first (alike_all-sym r)

-- the two children of a node in the other order
pub alike_two : {x y u v : Tree} {b c : Behind} → Alike x u → Alike y v → Alike (node x (last y) b) (node v (last u) c)
unfolding trees
alike_two p q = nodes (next p (later first) (next q first none))

-- the first child put for one that is alike
pub alike_first : {x u : Tree} {f : Forest} {b c : Behind} → Alike x u → Alike (node x f b) (node u f c)
alike_first {f = f} a = nodes (next a first (alike_all-refl f))

-- of three children the first put last
pub alike-three : {x y z : Tree} {b c : Behind} → Alike (node x (more y (last z)) b) (node y (more z (last x)) c)
unfolding trees
alike-three {x} {y} {z} = nodes (next (alike_refl x) (later (later first)) (next (alike_refl y) first (next (alike_refl z) first none)))

-- ---- what adds up over the children is the same

sum_of : (Tree → ℕ) → List Tree → ℕ
sum_of f [] = 0
sum_of f (t ∷ l) = f t + sum_of f l

picked_sum : (f : Tree → ℕ) {u : Tree} {l k : List Tree} → Picked u l k → sum_of f l ≡ f u + sum_of f k
unfolding sum_of
picked_sum f first = refl
picked_sum f (later p) = omega (arith, picked_sum f p)

-- a number of each tree: of a node that of its children together, and one of its own
record Adds (f own : Tree → ℕ) : Type 0 where
  at_leaf : (i : ℕ) (b c : Behind) → f (leaf i b) ≡ f (leaf i c)
  at_node : (t : Tree) (g : Forest) (b : Behind) → f (node t g b) ≡ f t + sum_of f (trees g) + own (node t g b)
  alike : {t u : Tree} → Alike t u → own t ≡ own u

module _ {f own : Tree → ℕ} (adds : Adds f own) where
  mutual
    unfolding sum_of

    alike-sum : {t u : Tree} → Alike t u → f t ≡ f u
    alike-sum (like-leaves {i = i} {b = b} {c = c}) = adds.at_leaf i b c
    alike-sum (nodes {t = t} {u = u} {f = g} {g = h} {b = b} {c = c} a) =
        omega (arith, adds.at_node t g b, adds.at_node u h c, alike_all-sum a, adds.alike (nodes {t = t} {u = u} {f = g} {g = h} {b = b} {c = c} a))

    alike_all-sum : {l k : List Tree} → AlikeAll l k → sum_of f l ≡ sum_of f k
    alike_all-sum none = refl
    alike_all-sum (next a p r) = omega (arith, alike-sum a, picked_sum f p, alike_all-sum r)

leaves_of-sum : (x : ℕ) (f : Forest) → times x (leaves_of f) ≡ sum_of (λ t. times x (leaves t)) (trees f)
unfolding leaves_of trees sum_of
leaves_of-sum x (last t) = omega arith
leaves_of-sum x (more t f) = omega (arith, times_append x (leaves t) (leaves_of f), leaves_of-sum x f)

clusters_of-sum : (x : ℕ) (f : Forest) → times x (clusters_of f) ≡ sum_of (λ t. times x (clusters t)) (trees f)
unfolding clusters_of trees sum_of
clusters_of-sum x (last t) = omega arith
clusters_of-sum x (more t f) = omega (arith, times_append x (clusters t) (clusters_of f), clusters_of-sum x f)

-- trees that are alike have the same leaves
pub alike-leaves : {t u : Tree} → Alike t u → Reordered (leaves t) (leaves u)
unfolding leaves
alike-leaves a = record { same = λ x. alike-sum (leaves_add x) a }
  where
    leaves_add : (x : ℕ) → Adds (λ t. times x (leaves t)) (λ t. 0)
    leaves_add x = record {
      at_leaf = λ i b c. refl;
      at_node = λ t f b. omega (arith, times_append x (leaves t) (leaves_of f), leaves_of-sum x f);
      alike = λ a. refl;
    }

-- and the same clusters
pub alike-clusters : {t u : Tree} → Alike t u → Reordered (clusters t) (clusters u)
unfolding clusters cluster
alike-clusters a = record { same = λ x. alike-sum (clusters_add x) a }
  where
    clusters_add : (x : ℕ) → Adds (λ t. times x (clusters t)) (λ t. times x (cluster t ∷ []))
    clusters_add x = record {
      at_leaf = λ i b c. refl;
      at_node = λ t f b.
          let own = times_append x (clusters t ++ clusters_of f) (cluster (node t f b) ∷ []) in
          omega (arith, times_append x (clusters t) (clusters_of f), clusters_of-sum x f);
      alike = λ {t} {u} a. ap (λ (c : ℕ). times x (c ∷ [])) (reordered-cluster t u (alike-leaves a));
    }

-- ---- equally resolved

-- each tree of the list is binary
Binaries : List Tree → Type 0
Binaries [] = Unit {0}
Binaries (t ∷ l) = Binary t × Binaries l

binaries_put : {u : Tree} {l k : List Tree} → Picked u l k → Binary u → Binaries k → Binaries l
unfolding Binaries
binaries_put first b h = (b, h)
binaries_put (later p) b h = (h.0, binaries_put p b h.1)

-- how many they are
how_many : List Tree → ℕ
how_many l = sum_of (λ t. 1) l

alike_all_many : {l k : List Tree} → AlikeAll l k → how_many l ≡ how_many k
unfolding how_many sum_of
alike_all_many none = refl
alike_all_many (next a p r) = omega (arith, picked_sum (λ t. 1) p, alike_all_many r)

-- a binary node has binary children, one behind the first, and the other way round
binary-children : (t : Tree) (f : Forest) (b : Behind) → Binary (node t f b) → Binaries (t ∷ trees f) × (how_many (t ∷ trees f) ≡ 2)
unfolding Binary Binaries trees how_many sum_of
binary-children t (last u) b h = ((h.0, (h.1, tt)), refl)
binary-children t (more u f) b h = absurd h.1

children-binary : (t : Tree) (f : Forest) (b : Behind) → Binaries (t ∷ trees f) → how_many (t ∷ trees f) ≡ 2 → Binary (node t f b)
unfolding Binary Binaries trees how_many sum_of
children-binary t (last u) b h n = (h.0, h.1.0)
children-binary t (more u (last v)) b h n = absurd (omega arith)
children-binary t (more u (more v f)) b h n = absurd (omega arith)

-- the same of a root with one or two behind the first
rooted-children : (t : Tree) (f : Forest) (b : Behind) → RootedAnyhow (node t f b) → Binaries (t ∷ trees f) × (how_many (t ∷ trees f) ≤ 3)
unfolding RootedAnyhow OneOrTwo Binaries trees how_many sum_of
rooted-children t (last u) b h = ((h.0, (h.1, tt)), omega arith)
rooted-children t (more u (last v)) b h = ((h.0, (h.1.0, (h.1.1, tt))), omega arith)
rooted-children t (more u (more v f)) b h = absurd h.1

children-rooted : (t : Tree) (f : Forest) (b : Behind) → Binaries (t ∷ trees f) → how_many (t ∷ trees f) ≤ 3 → RootedAnyhow (node t f b)
unfolding RootedAnyhow OneOrTwo Binaries trees how_many sum_of
children-rooted t (last u) b h n = (h.0, h.1.0)
children-rooted t (more u (last v)) b h n = (h.0, (h.1.0, h.1.1.0))
children-rooted t (more u (more v (last w))) b h n = absurd (omega arith)
children-rooted t (more u (more v (more w f))) b h n = absurd (omega arith)

mutual
  unfolding Binary Binaries

  -- a tree alike to a binary one is binary
  pub alike-binary : {t u : Tree} → Alike t u → Binary t → Binary u
  alike-binary like-leaves h = tt
  alike-binary (nodes {t = t} {u = u} {f = f} {g = g} {b = b} {c = c} a) h =
      let k = binary-children t f b h in
      children-binary u g c (alike_all-binary a k.0) (sym (alike_all_many a) ∙ k.1)

  alike_all-binary : {l k : List Tree} → AlikeAll l k → Binaries l → Binaries k
  alike_all-binary none h = tt
  alike_all-binary (next a p r) h = binaries_put p (alike-binary a h.0) (alike_all-binary r h.1)

-- "binary save that the root may have three children" does not depend on their order
pub alike-rooted : {t u : Tree} → Alike t u → RootedAnyhow t → RootedAnyhow u
unfolding RootedAnyhow
alike-rooted like-leaves h = tt
alike-rooted (nodes {t = t} {u = u} {f = f} {g = g} {b = b} {c = c} a) h =
    let k = rooted-children t f b h in
    children-rooted u g c (alike_all-binary a k.0) (omega (arith, alike_all_many a, k.1))
