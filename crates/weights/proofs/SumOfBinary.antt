-- Binary gene trees: k of A is the number of species of A that the tree has, less the tree's inner nodes within A.
use Prim.Native.Nat.{ℕ, ◌+◌, ◌^◌, ◌<◌}
use mathlib.Core.Path.{◌≡◌, refl, ap, ◌∙◌}
use mathlib.Core.Logic.{⊎_elim}
use mathlib.Core.Bool.{Bool, true, false, not, ◌&&◌}
use mathlib.Core.List.{List, [], ◌∷◌, ◌++◌}
use native.Mathlib.Omega.{arith}
use lib.Bits.{bit_and, and_comm}
use lib.Dec.{eqb}
use borrow.Author.Tests.{eq-eqb, ne_eqb}
use Rattle.clusters.specs.Sets.{Within, Apart, within, single, union, size}
use Rattle.clusters.proofs.Members.{has_and, and_has, has-union, union-has_left, union-has_right, same_members, apart_of_has, has_of_apart}
use Rattle.clusters.proofs.Sets.{within-true, within-false, left_within, right_within, true-within, single-within, single-apart}
use Rattle.clusters.proofs.Sizes.{size-zero, size_some, size-single, size-apart}
use Rattle.trees.specs.Lists.{NoneTwice}
use Rattle.trees.specs.Records.{listed, ValidOn, BinaryOn}
use Rattle.trees.specs.Tree.{Tree, Forest, leaves, leaves_of, cluster, cluster_of, clusters, clusters_of, Binary, OneBinary}
use Rattle.trees.specs.Tree.Tree.{leaf, node}
use Rattle.trees.specs.Tree.Forest.{last, more}
use Rattle.trees.specs.Drawn.{drawn}
use Rattle.trees.proofs.Listing.{none_twice_left, none_twice_right}
use Rattle.trees.proofs.Order.{rising_none_twice}
use Rattle.trees.proofs.Nodes.{children-apart, cluster_some, clusters-once}
use Rattle.trees.proofs.Recorded.{among_record, record_among}
use Rattle.trees.proofs.Drawing.{drawn_on, drawn_record}
use Rattle.trees.proofs.Bounds.{binary-drawn}
use Rattle.weights.specs.Count.{k_of, one_or}
use Rattle.weights.specs.Lineages.{one_if, lineages_drawn, lineages_drawn_of}
use Rattle.weights.specs.Subsets.{many, inner_nodes}
use Rattle.weights.proofs.Compared.{drawn-held, drawn-lineages, k_binary}
use Rattle.weights.proofs.SumOfLists.{many_nil, many_cons, many_append, many_members, many_kept}
use Rattle.weights.proofs.SumOfPairs.{large_in}

-- ---- the species of A in a set

-- those in two disjoint sets together
cut_apart : (a x y : ℕ) → Apart x y → size (bit_and a (union x y)) ≡ size (bit_and a x) + size (bit_and a y)
cut_apart a x y apart = ap size parts ∙ size-apart (bit_and a x) (bit_and a y) disjoint
  where
    parts : bit_and a (union x y) ≡ union (bit_and a x) (bit_and a y)
    parts =
        same_members (bit_and a (union x y)) (union (bit_and a x) (bit_and a y))
        (λ i h.
        let k = has_and a (union x y) i h in
        ⊎_elim (λ l. union-has_left (bit_and a x) (bit_and a y) i (and_has a x i k.0 l))
        (λ l. union-has_right (bit_and a x) (bit_and a y) i (and_has a y i k.0 l)) (has-union x y i k.1))
        (λ i h.
        ⊎_elim (λ l. let k = has_and a x i l in and_has a (union x y) i k.0 (union-has_left x y i k.1))
        (λ l. let k = has_and a y i l in and_has a (union x y) i k.0 (union-has_right x y i k.1)) (has-union (bit_and a x) (bit_and a y) i h))

    disjoint : Apart (bit_and a x) (bit_and a y)
    disjoint = apart_of_has (bit_and a x) (bit_and a y) (λ i h k. has_of_apart x y i apart (has_and a x i h).1 (has_and a y i k).1)

-- a single species is in A or not
cut-single : (a i : ℕ) → size (bit_and a (single i)) ≡ one_if (within (single i) a)
unfolding Within Apart
cut-single a i = ap size (and_comm a (single i)) ∙ go (within (single i) a) refl
  where
    go : (b : Bool) → within (single i) a ≡ b → size (bit_and (single i) a) ≡ one_if b
    go true e = ap size (within-true (single i) a e) ∙ size-single i
    go false e = ap size (single-apart a i (λ h. within-false (single i) a e (single-within a i h))) ∙ size-zero

-- ---- down the drawn tree

-- a leaf is no inner node
leaf-sum : (a i : ℕ) → one_or (within (single i) a) 0 + many (large_in a) (single i ∷ []) ≡ size (bit_and a (single i))
unfolding large_in
leaf-sum a i =
    omega (
      arith,
      many_cons (large_in a) (single i) [],
      many_nil (large_in a),
      ap (λ (b : Bool). one_if (not b && within (single i) a)) (eq-eqb (size (single i)) 1 (size-single i)),
      cut-single a i,
      same (within (single i) a),
    )
  where
    same : (b : Bool) → one_or b 0 ≡ one_if b
    same true = refl
    same false = refl

-- two children: what both have, and the node itself where it lies within A
node-sum : (a : ℕ) (t u : Tree) → Apart (cluster t) (cluster u)
    → lineages_drawn a t + many (large_in a) (clusters t) ≡ size (bit_and a (cluster t))
    → lineages_drawn a u + many (large_in a) (clusters u) ≡ size (bit_and a (cluster u))
    → one_or (within (union (cluster t) (cluster u)) a) (lineages_drawn a t + lineages_drawn a u)
    + many (large_in a) (clusters t ++ clusters u ++ (union (cluster t) (cluster u) ∷ []))
    ≡ size (bit_and a (union (cluster t) (cluster u)))
unfolding large_in
node-sum a t u apart left right =
    omega (
      arith,
      many_append (large_in a) (clusters t ++ clusters u) (top ∷ []),
      many_append (large_in a) (clusters t) (clusters u),
      many_cons (large_in a) top [],
      many_nil (large_in a),
      inner,
      cut_apart a (cluster t) (cluster u) apart,
      go (within top a) refl,
      left,
      right,
    )
  where
    top : ℕ
    top = union (cluster t) (cluster u)

    -- it is an inner node
    inner : one_if (large_in a top) ≡ one_if (within top a)
    inner =
        ap (λ (b : Bool). one_if (not b && within top a)) (ne_eqb (size top) 1 (λ e.
        omega (arith, size-apart (cluster t) (cluster u) apart, size_some (cluster_some t), size_some (cluster_some u))))

    -- where the node lies within A, each child is one lineage
    go : (b : Bool) → within top a ≡ b → one_or b (lineages_drawn a t + lineages_drawn a u) + one_if b ≡ lineages_drawn a t + lineages_drawn a u
    go true e =
        let w = within-true top a e in
        omega (
          arith,
          drawn-held a t (true-within (cluster t) a (left_within (cluster t) (cluster u) a w)),
          drawn-held a u (true-within (cluster u) a (right_within (cluster t) (cluster u) a w)),
        )
    go false e = omega arith

mutual
  unfolding lineages_drawn lineages_drawn_of cluster cluster_of clusters clusters_of leaves leaves_of Binary OneBinary

  drawn-sum : (a : ℕ) (t : Tree) → Binary t → NoneTwice (leaves t) → lineages_drawn a t + many (large_in a) (clusters t) ≡ size (bit_and a (cluster t))
  drawn-sum a (leaf i b) two once = leaf-sum a i
  drawn-sum a (node t f b) two once = over_two a t f two.1 once (drawn-sum a t two.0 (none_twice_left (leaves t) (leaves_of f) once))

  over_two : (a : ℕ) (t : Tree) (f : Forest) → OneBinary f → NoneTwice (leaves t ++ leaves_of f)
      → lineages_drawn a t + many (large_in a) (clusters t) ≡ size (bit_and a (cluster t))
      → one_or (within (union (cluster t) (cluster_of f)) a) (lineages_drawn a t + lineages_drawn_of a f)
      + many (large_in a) (clusters t ++ clusters_of f ++ (union (cluster t) (cluster_of f) ∷ []))
      ≡ size (bit_and a (union (cluster t) (cluster_of f)))
  over_two a t (last u) two once e =
      node-sum a t u (children-apart t (last u) once) e (drawn-sum a u two (none_twice_right (leaves t) (leaves u) once))
  over_two a t (more u f) two once e = absurd two

-- ---- a valid gene record, complete or not

module _ {s : ℕ} {g : List ℕ} (v : ValidOn s g) (small : s < 2 ^ 16) (a : ℕ) where
  -- its inner nodes within A are those of the tree that it draws
  inner-drawn : many (λ x. within x a) (inner_nodes g) ≡ many (large_in a) (clusters (drawn (listed g) s))
  unfolding inner_nodes large_in
  inner-drawn =
      many_kept (λ x. within x a) (λ p. not (eqb (size p) 1)) (listed g)
      ∙ many_members (large_in a) (listed g) (clusters t) (rising_none_twice (listed g) v.form.rising) (clusters-once t (drawn_on v small).once)
      (λ x m. among_record 16 (clusters t) (rw (drawn_record v small) m)) (λ x m. rw (drawn_record v small) at (record_among 16 (clusters t) m))
    where
      t : Tree
      t = drawn (listed g) s

  -- k of A and the inner nodes within A are together as many as there are species of A in the tree
  pub k_binary_sum : BinaryOn s g → k_of (listed g) a + many (λ x. within x a) (inner_nodes g) ≡ size (bit_and a s)
  k_binary_sum two =
      let on = drawn_on v small in
      omega (
        arith,
        k_binary v small a two,
        drawn-lineages v small a,
        inner-drawn,
        drawn-sum a (drawn (listed g) s) ((binary-drawn v small).0 two) on.once,
        ap (λ (x : ℕ). size (bit_and a x)) on.all,
      )
