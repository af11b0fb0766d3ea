-- The count of #101 beside 01's, down the drawn tree: never more, the same where every node has two children; and at least 1 where A has a species of the tree.
use Prim.Native.Nat.{ℕ, ◌+◌, ◌≤◌}
use mathlib.Core.Path.{◌≡◌, refl, sym, ap, ◌∙◌}
use mathlib.Core.Logic.{◌⊎◌, inl, inr}
use mathlib.Core.Bool.{Bool, true, false, ◌||◌}
use mathlib.Core.List.{List}
use native.Mathlib.Omega.{arith}
use Rattle.clusters.specs.Sets.{Has, within, single, union}
use Rattle.clusters.proofs.Members.{has-union, has-single}
use Rattle.clusters.proofs.Sets.{within-true, true-within, union-within, single-within}
use Rattle.trees.specs.Records.{listed, ValidFor, BinaryOn}
use Rattle.trees.specs.Tree.{Tree, Forest, cluster, cluster_of, Binary, OneBinary}
use Rattle.trees.specs.Tree.Tree.{leaf, node}
use Rattle.trees.specs.Tree.Forest.{last, more}
use Rattle.trees.specs.Drawn.{drawn}
use Rattle.trees.proofs.Booleans.{never_both}
use Rattle.trees.proofs.Breadth.{Small}
use Rattle.trees.proofs.Bounds.{binary-drawn}
use Rattle.trees.proofs.Drawing.{drawn_on, drawn_record}
use Rattle.weights.specs.Count.{k_drawn, k_of, one_or}
use Rattle.weights.specs.Lineages.{one_if, none_or, some_within, lineages, others_of, lineages_drawn, lineages_drawn_of}
use Rattle.weights.proofs.CountedDrawn.{drawn_of_record}
use Rattle.weights.proofs.CountedDown.{k_of_record}

-- ---- never more

-- a tree within A is one lineage as drawn, too
pub drawn-held : (a : ℕ) (t : Tree) → within (cluster t) a ≡ true → lineages_drawn a t ≡ 1
unfolding lineages_drawn
drawn-held a (leaf i b) e = rw e refl
drawn-held a (node t f b) e = rw e refl

-- one child more, with its cluster within A or not
le-child :
    (b s : Bool) (l d others rest : ℕ) → (b ≡ true → d ≡ 1) → l ≤ d → one_if s + others ≤ rest → one_if (b || s) + (none_or b l + others) ≤ d + rest
le-child true true l d others rest held le later = omega (arith, held refl)
le-child true false l d others rest held le later = omega (arith, held refl)
le-child false true l d others rest held le later = omega arith
le-child false false l d others rest held le later = omega arith

-- one child alone
le-alone : (b : Bool) (l d : ℕ) → (b ≡ true → d ≡ 1) → l ≤ d → one_if b + none_or b l ≤ d
le-alone true l d held le = omega (arith, held refl)
le-alone false l d held le = omega arith

pub le_one_or : (b : Bool) (x y : ℕ) → x ≤ y → one_or b x ≤ one_or b y
le_one_or true x y h = omega arith
le_one_or false x y h = h

mutual
  unfolding lineages others_of lineages_drawn lineages_drawn_of some_within

  -- nothing is counted more often than as drawn
  pub lineages-le : (a : ℕ) (t : Tree) → lineages a t ≤ lineages_drawn a t
  lineages-le a (leaf i b) = le_one_or (within (cluster (leaf i b)) a) 0 0 (omega arith)
  lineages-le a (node t f b) =
      le_one_or (within (cluster (node t f b)) a) _ _
      (le-child (within (cluster t) a) (some_within a f) (lineages a t) (lineages_drawn a t) (others_of a f) (lineages_drawn_of a f) (drawn-held a t)
      (lineages-le a t) (others-le a f))

  others-le : (a : ℕ) (f : Forest) → one_if (some_within a f) + others_of a f ≤ lineages_drawn_of a f
  others-le a (last t) = le-alone (within (cluster t) a) (lineages a t) (lineages_drawn a t) (drawn-held a t) (lineages-le a t)
  others-le a (more t f) =
      le-child (within (cluster t) a) (some_within a f) (lineages a t) (lineages_drawn a t) (others_of a f) (lineages_drawn_of a f) (drawn-held a t)
      (lineages-le a t) (others-le a f)

-- ---- equal on binary trees

-- a node outside A whose two children are not both within it
same_two :
    (top b c : Bool) (l d m e : ℕ) → (b ≡ true → d ≡ 1) → (c ≡ true → e ≡ 1) → (b ≡ true → c ≡ true → top ≡ true) → l ≡ d → m ≡ e
    → one_or top (one_if (b || c) + (none_or b l + none_or c m)) ≡ one_or top (d + e)
same_two true b c l d m e p q both x y = refl
same_two false true true l d m e p q both x y = absurd (never_both false (both refl refl) refl)
same_two false true false l d m e p q both x y = omega (arith, p refl)
same_two false false true l d m e p q both x y = omega (arith, q refl)
same_two false false false l d m e p q both x y = omega arith

mutual
  unfolding lineages others_of lineages_drawn lineages_drawn_of some_within Binary OneBinary cluster cluster_of

  -- where every node has two children, both counts are one
  pub lineages-binary : (a : ℕ) (t : Tree) → Binary t → lineages a t ≡ lineages_drawn a t
  lineages-binary a (leaf i b) two = refl
  lineages-binary a (node t f b) two = at_two a t f two.1 (lineages-binary a t two.0)

  at_two : (a : ℕ) (t : Tree) (f : Forest) → OneBinary f → lineages a t ≡ lineages_drawn a t
      → one_or (within (union (cluster t) (cluster_of f)) a) (one_if (within (cluster t) a || some_within a f) + (none_or (within (cluster t) a) (lineages a t) + others_of a f))
      ≡ one_or (within (union (cluster t) (cluster_of f)) a) (lineages_drawn a t + lineages_drawn_of a f)
  at_two a t (last u) two e =
      same_two (within (union (cluster t) (cluster u)) a) (within (cluster t) a) (within (cluster u) a) (lineages a t) (lineages_drawn a t) (lineages a u)
      (lineages_drawn a u) (drawn-held a t) (drawn-held a u)
      (λ p q. true-within (union (cluster t) (cluster u)) a (union-within (cluster t) (cluster u) a (within-true (cluster t) a p) (within-true (cluster u) a q))) e
      (lineages-binary a u two)
  at_two a t (more u f) two e = absurd two

-- ---- at least one

one_of_held : (top : Bool) (x : ℕ) → 1 ≤ x → 1 ≤ one_or top x
one_of_held true x h = omega arith
one_of_held false x h = h

-- a species of A in the child, or counted among the others
one_child : (b s : Bool) (l others : ℕ) → (1 ≤ l) ⊎ (1 ≤ one_if s + others) → 1 ≤ one_if (b || s) + (none_or b l + others)
one_child true s l others h = omega arith
one_child false s l others (inl h) = omega arith
one_child false s l others (inr h) = omega arith

one_alone : (b : Bool) (l : ℕ) → 1 ≤ l → 1 ≤ one_if b + none_or b l
one_alone true l h = omega arith
one_alone false l h = omega arith

one_leaf : (i a : ℕ) → Has a i → 1 ≤ one_or (within (single i) a) 0
one_leaf i a h = rw (true-within (single i) a (single-within a i h)) (omega arith)

-- a species of a node is one of its first child or of the others
one_either : {P Q : Type 0} (t : Tree) (f : Forest) (i : ℕ) → (Has (cluster t) i → P) → (Has (cluster_of f) i → Q) → Has (cluster t) i ⊎ Has (cluster_of f) i → P ⊎ Q
one_either t f i p q (inl h) = inl (p h)
one_either t f i p q (inr h) = inr (q h)

mutual
  unfolding lineages others_of some_within cluster cluster_of

  -- a tree with a species of A counts at least one
  pub lineages_some : (a : ℕ) (t : Tree) (i : ℕ) → Has (cluster t) i → Has a i → 1 ≤ lineages a t
  lineages_some a (leaf j b) i m h = one_leaf j a (rw (has-single j i m) h)
  lineages_some a (node t f b) i m h =
      one_of_held (within (union (cluster t) (cluster_of f)) a) _
      (one_child (within (cluster t) a) (some_within a f) (lineages a t) (others_of a f)
      (one_either t f i (λ k. lineages_some a t i k h) (λ k. others_some a f i k h) (has-union (cluster t) (cluster_of f) i m)))

  others_some : (a : ℕ) (f : Forest) (i : ℕ) → Has (cluster_of f) i → Has a i → 1 ≤ one_if (some_within a f) + others_of a f
  others_some a (last t) i m h = one_alone (within (cluster t) a) (lineages a t) (lineages_some a t i m h)
  others_some a (more t f) i m h =
      one_child (within (cluster t) a) (some_within a f) (lineages a t) (others_of a f)
      (one_either t f i (λ k. lineages_some a t i k h) (λ k. others_some a f i k h) (has-union (cluster t) (cluster_of f) i m))

-- ---- a valid gene record

module _ {b s : ℕ} {g : List ℕ} (v : ValidFor b s g) (small : Small b s) (a : ℕ) where
  k_lineages : k_of (listed g) a ≡ lineages a (drawn (listed g) s)
  k_lineages = ap (λ (r : List ℕ). k_of (listed r) a) (sym (drawn_record v small)) ∙ k_of_record b a (drawn_on v small)

  -- 01's count is that of the tree that the record draws
  pub drawn-lineages : k_drawn (listed g) a ≡ lineages_drawn a (drawn (listed g) s)
  drawn-lineages = ap (λ (r : List ℕ). k_drawn (listed r) a) (sym (drawn_record v small)) ∙ drawn_of_record b a (drawn_on v small)

  -- the count of #101 is never more than 01's
  pub k_never_more : k_of (listed g) a ≤ k_drawn (listed g) a
  k_never_more = rw (k_lineages, drawn-lineages) (lineages-le a (drawn (listed g) s))

  -- "Binary counts stay" (#101)
  pub k_binary : BinaryOn s g → k_of (listed g) a ≡ k_drawn (listed g) a
  k_binary two = k_lineages ∙ lineages-binary a (drawn (listed g) s) ((binary-drawn v small).0 two) ∙ sym drawn-lineages

  -- at least 1 where A has a species of the tree
  pub k_some : (i : ℕ) → Has s i → Has a i → 1 ≤ k_of (listed g) a
  k_some i m h = rw k_lineages (lineages_some a (drawn (listed g) s) i (rw (drawn_on v small).all m) h)
