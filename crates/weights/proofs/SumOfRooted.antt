-- k of #101 as a difference of two numbers: how many sets of one list lie within A, less how many of another.
use Prim.Native.Nat.{ℕ, ◌+◌, ◌≤◌}
use mathlib.Core.Path.{◌≡◌, refl, sym, ap, ◌∙◌}
use mathlib.Core.Bool.{Bool, true, false, not, ◌&&◌}
use mathlib.Core.Logic.{◌⊎◌, inl, inr}
use mathlib.Core.List.Memᴰ
use mathlib.Core.List.Memᴰ.{head as here}
use mathlib.Core.List.{List, [], ◌∷◌, map}
use native.Mathlib.Omega.{arith}
use lib.ListN.{length}
use lib.Dec.{eqb}
use borrow.Author.Tests.{eqb-true, eqb-false, not-true}
use Rattle.clusters.specs.Sets.{Within, within, union, size}
use Rattle.clusters.proofs.Sets.{within_trans, within-true, true-within, within-false, union-within, union_some_left}
use Rattle.clusters.proofs.Sizes.{size_some, size-within_lt}
use Rattle.trees.specs.Lists.{Among, keep, some, total}
use Rattle.trees.specs.Records.{listed, largest, ValidFor}
use Rattle.trees.specs.Valid.{every}
use Rattle.trees.specs.Drawn.{children}
use Rattle.trees.proofs.Booleans.{unless}
use Rattle.trees.proofs.Breadth.{Small}
use Rattle.trees.proofs.Listing.{among-keep, some_of, of_some}
use Rattle.trees.proofs.Totals.{total_same}
use Rattle.trees.proofs.Children.{Hierarchy, hierarchy_of_valid, among-children, children-among, children_two}
use Rattle.trees.proofs.ValidTest.{tells_every, tells_within}
use Rattle.trees.proofs.GeneRecords.{largest_of_valid}
use Rattle.weights.specs.Count.{holds_maximal, k_of, one_or}
use Rattle.weights.specs.Lineages.{one_if}
use Rattle.weights.specs.Subsets.{many, gathered, odds, evens, inner_nodes, plus_by, minus_by}
use Rattle.weights.specs.declared.Rooting.TheVariants.{Rooted}
use Rattle.weights.proofs.Joining.{Joins, Clusters, tells_joins, tells_same, joining, joining-inside, passed-inside, k_either}
use Rattle.weights.proofs.SumOfLists.{many_cons, many_total, many_same, many_kept, many_gathered, among-gathered, total_add}
use Rattle.weights.proofs.SumOfUnions.{odds_less_evens, odds-are, evens-are}

module _ {b s : ℕ} {g : List ℕ} (v : ValidFor b s g) (small : Small b s) where
  tree : Hierarchy s (listed g)
  tree = hierarchy_of_valid v small

  of_tree : Clusters (listed g)
  of_tree = record { some = λ x m. (v.inside x m).0; nested = v.nested }

  among-inner : {p : ℕ} → Among p (inner_nodes g) → Among p (listed g) × (size p ≡ 1 → ⊥)
  unfolding inner_nodes
  among-inner {p} m =
      let k = among-keep (λ p. not (eqb (size p) 1)) (listed g) m in
      (k.0, eqb-false (size p) 1 (not-true (eqb (size p) 1) k.1))

  -- ---- one inner node

  module _ (a p : ℕ) where
    -- a node outside A is counted where some child lies within A
    joins_some : Among p (listed g) → (Within p a → ⊥) → some (λ x. within x a) (children (listed g) p) ≡ holds_maximal (listed g) a p
    joins_some m off =
        tells_same (record { holds = holds; told = told }) (tells_joins (listed g) a p of_tree m) (λ j. j) (λ j. j)
      where
        holds : some (λ x. within x a) (children (listed g) p) ≡ true → Joins (listed g) a p
        holds e =
            let x = of_some (λ x. within x a) (children (listed g) p) e in
            record { outside = off; held = x.0; child = among-children (listed g) p x.1; inside = within-true x.0 a x.2 }

        told : Joins (listed g) a p → some (λ x. within x a) (children (listed g) p) ≡ true
        told j = some_of (λ x. within x a) (children (listed g) p) (children-among (listed g) p j.child) (true-within j.held a j.inside)

    -- all children of a node within A lie there
    some_held : Among p (listed g) → (size p ≡ 1 → ⊥) → Within p a → some (λ x. within x a) (children (listed g) p) ≡ true
    some_held m more w = go (children (listed g) p) (children_two tree m more) (λ x k. (among-children (listed g) p k).inside)
      where
        go : (l : List ℕ) → 2 ≤ length l → ((x : ℕ) → Among x l → Within x p) → some (λ x. within x a) l ≡ true
        go [] two f = absurd (omega arith)
        go (c ∷ l) two f = some_of (λ x. within x a) (c ∷ l) (here refl) (true-within c a (within_trans c p a (f c (here refl)) w))

    -- [some child lies within A] is [the node is counted] and [it lies within A]
    node-sum :
        Among p (inner_nodes g)
        → one_if (some (λ x. within x a) (children (listed g) p)) ≡ one_if (holds_maximal (listed g) a p) + one_if (within p a)
    node-sum i = let m = among-inner i in go m.0 m.1 (within p a) refl
      where
        go :
            Among p (listed g) → (size p ≡ 1 → ⊥) → (b : Bool) → within p a ≡ b
            → one_if (some (λ x. within x a) (children (listed g) p)) ≡ one_if (holds_maximal (listed g) a p) + one_if b
        go m more true e =
            let w = within-true p a e in
            rw (some_held m more w, passed-inside (listed g) a p of_tree m w) refl
        go m more false e = omega (arith, ap one_if (joins_some m (within-false p a e)))

  -- ---- all of them

  -- a single species has no child, and is not counted
  single-passed : (a p : ℕ) → Among p (listed g) → size p ≡ 1 → holds_maximal (listed g) a p ≡ false
  single-passed a p m e =
      unless (holds_maximal (listed g) a p) (λ t.
      let c = ((tells_joins (listed g) a p of_tree m).holds t).child in
      omega (arith, size-within_lt _ p c.inside c.other, size_some (v.inside _ c.among).0))

  joining-inner : (a : ℕ) → joining (listed g) a (listed g) ≡ total (map (λ p. one_if (holds_maximal (listed g) a p)) (inner_nodes g))
  unfolding joining inner_nodes many
  joining-inner a =
      sym (many_kept (λ p. holds_maximal (listed g) a p) (λ p. not (eqb (size p) 1)) (listed g)
      ∙ many_same (λ p. not (eqb (size p) 1) && holds_maximal (listed g) a p) (λ p. holds_maximal (listed g) a p) (listed g)
      (λ p m. either_way p m (eqb (size p) 1) refl))
      ∙ many_total (λ p. holds_maximal (listed g) a p) (keep (λ p. not (eqb (size p) 1)) (listed g))
    where
      either_way : (p : ℕ) → Among p (listed g) → (b : Bool) → eqb (size p) 1 ≡ b → (not b && holds_maximal (listed g) a p) ≡ holds_maximal (listed g) a p
      either_way p m true e = sym (single-passed a p m (eqb-true (size p) 1 e))
      either_way p m false e = refl

  every_whole : (a : ℕ) → every (λ x. within x a) (listed g) ≡ within s a
  every_whole a =
      tells_same (tells_every (λ x. within x a) (listed g) (λ x. tells_within x a)) (tells_within s a) (λ f. f s v.all)
      (λ w x m. within_trans x s a (v.inside x m).1 w)

  -- k is [the whole set lies within A] and the nodes that are counted
  k_whole_and_nodes : (a : ℕ) → k_of (listed g) a ≡ one_if (within s a) + total (map (λ p. one_if (holds_maximal (listed g) a p)) (inner_nodes g))
  k_whole_and_nodes a =
      k_either (listed g) a ∙ ap (λ (b : Bool). one_or b (joining (listed g) a (listed g))) (every_whole a) ∙ go (within s a) refl (joining-inner a)
    where
      go :
          (b : Bool) → within s a ≡ b → joining (listed g) a (listed g) ≡ total (map (λ p. one_if (holds_maximal (listed g) a p)) (inner_nodes g))
          → one_or b (joining (listed g) a (listed g)) ≡ one_if b + total (map (λ p. one_if (holds_maximal (listed g) a p)) (inner_nodes g))
      go true e j =
          omega (arith, j, joining-inside (listed g) a (listed g) of_tree (λ p m. (m, within_trans p s a (v.inside p m).1 (within-true s a e))))
      go false e j = omega (arith, j)

  -- k of A, with the sets taken off that lie within A, is the number of the others there
  pub k_rooted_sum : (a : ℕ) → k_of (listed g) a + many (λ x. within x a) (minus_by Rooted g) ≡ many (λ x. within x a) (plus_by Rooted g)
  unfolding plus_by minus_by
  k_rooted_sum a =
      let cs = listed g in
      let nodes = inner_nodes g in
      let off = many_gathered (λ x. within x a) (λ p. p ∷ evens (children cs p)) nodes
      ∙ total_same (λ p. many (λ x. within x a) (p ∷ evens (children cs p))) (λ p. one_if (within p a) + many (λ x. within x a) (evens (children cs p))) nodes
      (λ p m. many_cons (λ x. within x a) p (evens (children cs p)))
      ∙ total_add (λ p. one_if (within p a)) (λ p. many (λ x. within x a) (evens (children cs p))) nodes in
      let on = many_gathered (λ x. within x a) (λ p. odds (children cs p)) nodes
      ∙ total_same (λ p. many (λ x. within x a) (odds (children cs p)))
      (λ p. many (λ x. within x a) (evens (children cs p)) + (one_if (holds_maximal cs a p) + one_if (within p a))) nodes
      (λ p m. odds_less_evens a (children cs p) ∙ ap (λ (n : ℕ). many (λ x. within x a) (evens (children cs p)) + n) (node-sum a p m))
      ∙ total_add (λ p. many (λ x. within x a) (evens (children cs p))) (λ p. one_if (holds_maximal cs a p) + one_if (within p a)) nodes in
      omega (
        arith,
        off,
        on,
        total_add (λ p. one_if (holds_maximal cs a p)) (λ p. one_if (within p a)) nodes,
        k_whole_and_nodes a,
        many_cons (λ x. within x a) (largest g) (gathered (λ p. odds (children cs p)) nodes),
        ap (λ (x : ℕ). one_if (within x a)) (largest_of_valid v),
      )

  -- ---- where they lie

  of_child : {p x : ℕ} → Among p (inner_nodes g) → Among x (children (listed g) p) → (1 ≤ x) × Within x s
  of_child {p} {x} i m = v.inside x (among-children (listed g) p m).among

  joined : (x y : ℕ) → (1 ≤ x) × Within x s → (1 ≤ y) × Within y s → (1 ≤ union x y) × Within (union x y) s
  joined x y p q = (union_some_left y p.0, union-within x y s p.1 q.1)

  -- each set that is counted has a species, and is of the tree
  pub plus_rooted_of : (x : ℕ) → Among x (plus_by Rooted g) → (1 ≤ x) × Within x s
  unfolding plus_by
  plus_rooted_of x m = go (Memᴰ.cases_cons m)
    where
      go : (x ≡ largest g) ⊎ Among x (gathered (λ p. odds (children (listed g) p)) (inner_nodes g)) → (1 ≤ x) × Within x s
      go (inl e) = rw (e, largest_of_valid v) (v.inside s v.all)
      go (inr k) =
          let p = among-gathered (λ p. odds (children (listed g) p)) (inner_nodes g) k in
          odds-are (λ (x : ℕ). (1 ≤ x) × Within x s) joined (children (listed g) p.0) (λ y h. of_child p.1 h) x p.2

  -- and so of those that are taken off
  pub minus_rooted_of : (x : ℕ) → Among x (minus_by Rooted g) → (1 ≤ x) × Within x s
  unfolding minus_by
  minus_rooted_of x m =
      let p = among-gathered (λ p. p ∷ evens (children (listed g) p)) (inner_nodes g) m in
      go p.0 p.1 (Memᴰ.cases_cons p.2)
    where
      go : (p : ℕ) → Among p (inner_nodes g) → (x ≡ p) ⊎ Among x (evens (children (listed g) p)) → (1 ≤ x) × Within x s
      go p i (inl e) = rw e (v.inside p (among-inner i).0)
      go p i (inr k) = evens-are (λ (x : ℕ). (1 ≤ x) × Within x s) joined (children (listed g) p) (λ y h. of_child i h) x k
