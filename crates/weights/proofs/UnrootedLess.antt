-- The count without a root beside #101's (#106): of no set of species is it more than that of any drawing of the tree.
use Prim.Native.Nat.{ℕ, ◌-◌, ◌^◌, ◌≤◌, ◌<◌}
use mathlib.Core.Path.{◌≡◌, refl, sym, ap, ◌∙◌, subst}
use mathlib.Core.Logic.{◌⊎◌, inl, inr}
use mathlib.Core.List.{List}
use native.Mathlib.Decide.{ℕ_discrete}
use native.Mathlib.Omega.{arith}
use borrow.Author.Tests.{ne_eqb}
use Rattle.clusters.specs.Sets.{Has, Within, within}
use Rattle.clusters.proofs.Sets.{within-refl, within_trans, within_antisym, within-apart, union-within, minus_union}
use Rattle.trees.specs.Lists.{Among, keep}
use Rattle.trees.specs.Records.{listed, largest, record_of, ValidOn}
use Rattle.trees.specs.Valid.{every}
use Rattle.trees.specs.Tree.{Tree, clusters, On}
use Rattle.trees.specs.Unrooted.{RootedAnyhow, Redrawn}
use Rattle.trees.proofs.Booleans.{unless}
use Rattle.trees.proofs.Listing.{keep-among}
use Rattle.trees.proofs.Matched.{matched_le}
use Rattle.trees.proofs.ValidTest.{Tells, tells_every, tells_within}
use Rattle.trees.proofs.Recorded.{valid_of_drawn}
use Rattle.trees.proofs.GeneRecords.{largest_of_valid}
use Rattle.trees.proofs.Children.{Hierarchy, Child, hierarchy_of_valid, child-apart}
use Rattle.trees.proofs.MayUnroot.{Resolved, apart-rest}
use Rattle.trees.proofs.Redrawing.{WithoutRoot, redrawn_on, redrawn-rooted}
use Rattle.trees.proofs.UnrootingChildren.{outside-species, parent, child_with, beside, record_resolved}
use Rattle.weights.specs.Count.{unrooted_clusters, maximal_within, k_drawn, holds_maximal, k_of, k_by}
use Rattle.weights.specs.declared.Rooting.TheVariants.{Rooted, Unrooted}
use Rattle.weights.proofs.Tops.{Top, drawn-tops, among-tops, tops-once}
use Rattle.weights.proofs.Joining.{Joins, Clusters, tells_joins, joining, k_either}
use Rattle.weights.proofs.UnrootedClusters.{unrooted_once, without-root, of_without_root, redrawn_k}
use Rattle.weights.proofs.Bounds.{k_of_holder}

-- a maximal cluster m without a root stands for the node p: m is a child of p, or the complement of one; and A does not hold p
record StandsFor (g : List ℕ) (s a m p : ℕ) : Type 0 where
  top : Top (unrooted_clusters g) a m
  among : Among p (listed g)
  outside : Within p a → ⊥
  side : ℕ
  child : Child (listed g) p side
  is : (m ≡ side) ⊎ (m ≡ s - side)

module _ {s : ℕ} {g : List ℕ} (v : ValidOn s g) (small : s < 2 ^ 16)
    (resolved : (p : ℕ) → Among p (listed g) → Resolved (listed g) s p) (a : ℕ) (proper : Within s a → ⊥) where
  tree : Hierarchy s (listed g)
  tree = hierarchy_of_valid v small

  -- A holds no cluster together with its complement
  halves : (y : ℕ) → Among y (listed g) → Within y a → Within (s - y) a → ⊥
  halves y m w u = proper (subst (λ (z : ℕ). Within z a) (minus_union y (v.inside y m).1) (union-within y (s - y) a w u))

  -- a child of p lies within the complement of another
  beyond : {p x y : ℕ} → Child (listed g) p x → Child (listed g) p y → (x ≡ y → ⊥) → Within x (s - y)
  beyond {p} {x} {y} c d n = apart-rest s y x (v.inside y d.among).1 (v.inside x c.among).1 (child-apart tree c d n)

  -- ---- the node that each stands for

  stands : (m : ℕ) → Top (unrooted_clusters g) a m → WithoutRoot s (listed g) m → (p : ℕ) × Joins (listed g) a p × StandsFor g s a m p
  stands m t (inl i) =
      let p = parent tree m i (λ e. proper (subst (λ (z : ℕ). Within z a) e t.inside)) in
      let out : Within p.0 a → ⊥ = λ w. p.2.other (t.greatest p.0 (of_without_root v (inl p.1)) w p.2.inside) in (
        p.0,
        record { outside = out; held = m; child = p.2; inside = t.inside },
        record { top = t; among = p.1; outside = out; side = m; child = p.2; is = inl refl },
      )
  stands m t (inr k) =
      let y = k.of in
      let p = parent tree y k.among k.other in
      let c = p.2 in
      let rest = subst (λ (z : ℕ). Within z a) k.is t.inside in
      let out : Within p.0 a → ⊥ = λ w. halves y k.among (within_trans y p.0 a c.inside w) rest in
      let j = outside-species p.0 y (λ w. c.other (within_antisym c.inside w)) in
      let z = child_with tree p.1 c j.0 j.1 in
      let far = beyond z.1 c (λ f. j.2 (subst (λ (x : ℕ). Has x j.0) f z.2)) in (
        p.0,
        record { outside = out; held = z.0; child = z.1; inside = within_trans z.0 (s - y) a far rest },
        record { top = t; among = p.1; outside = out; side = y; child = c; is = inr k.is },
      )

  -- ---- no two for the same one

  inside_of : {x y : ℕ} → Top (unrooted_clusters g) a x → x ≡ y → Within y a
  inside_of t e = subst (λ (z : ℕ). Within z a) e t.inside

  -- two children of one node are not both maximal: the complement of a third holds both
  not_both : {m n p : ℕ} (q : StandsFor g s a m p) (r : StandsFor g s a n p) → m ≡ q.side → n ≡ r.side → (q.side ≡ r.side → ⊥) → ⊥
  not_both {m} {n} {p} q r e f d =
      let c = q.child in
      let b = beside tree a q.among q.outside c r.child d (inside_of q.top e) (inside_of r.top f) (resolved p q.among) in
      let same = q.top.greatest (s - b.third) (of_without_root v (inr (record { of = b.third; among = b.among; other = b.other; is = refl }))) b.inside
      (subst (λ (z : ℕ). Within z (s - b.third)) (sym e) b.holds_x) in
      let none = within-apart q.side (subst (λ (z : ℕ). Within r.side z) (sym same ∙ e) b.holds_y) (child-apart tree r.child c (λ k. d (sym k))) in
      omega (arith, (v.inside r.side r.child.among).0)

  one : (m n p : ℕ) → StandsFor g s a m p → StandsFor g s a n p → m ≡ n
  one m n p q r = go q.is r.is (ℕ_discrete q.side r.side)
    where
      -- a child that is maximal lies within the complement of another
      mixed : {m n : ℕ} (q : StandsFor g s a m p) (r : StandsFor g s a n p) → m ≡ q.side → n ≡ s - r.side → Dec (q.side ≡ r.side) → m ≡ n
      mixed q r e f (yes d) = absurd (halves r.side r.child.among (inside_of q.top (e ∙ d)) (inside_of r.top f))
      mixed {m} {n} q r e f (no d) =
          q.top.greatest n r.top.among r.top.inside
          (subst (λ (z : ℕ). Within z n) (sym e) (subst (λ (z : ℕ). Within q.side z) (sym f) (beyond q.child r.child d)))

      turned : {x y : ℕ} → Dec (x ≡ y) → Dec (y ≡ x)
      turned (yes e) = yes (sym e)
      turned (no d) = no (λ e. d (sym e))

      go : (m ≡ q.side) ⊎ (m ≡ s - q.side) → (n ≡ r.side) ⊎ (n ≡ s - r.side) → Dec (q.side ≡ r.side) → m ≡ n
      go (inl e) (inl f) (yes d) = e ∙ d ∙ sym f
      go (inl e) (inl f) (no d) = absurd (not_both q r e f d)
      go (inl e) (inr f) d = mixed q r e f d
      go (inr e) (inl f) d = sym (mixed r q f e (turned d))
      go (inr e) (inr f) (yes d) = e ∙ ap (λ (z : ℕ). s - z) d ∙ sym f
      go (inr e) (inr f) (no d) =
          absurd (halves q.side q.child.among
          (within_trans q.side (s - r.side) a (beyond q.child r.child d) (inside_of r.top f)) (inside_of q.top e))

  -- so there are no more of them than nodes that #101 counts
  tops-le : k_drawn (unrooted_clusters g) a ≤ k_of (listed g) a
  unfolding joining
  tops-le =
      rw (drawn-tops (unrooted_clusters g) a, k_either (listed g) a, unless (every (λ x. within x a) (listed g)) (λ e. proper (all_held.holds e s v.all)))
      (matched_le (StandsFor g s a) (maximal_within (unrooted_clusters g) a) (keep (λ p. holds_maximal (listed g) a p) (listed g))
      (tops-once (unrooted_clusters g) a (unrooted_once g)) one partner)
    where
      all_held : Tells (every (λ x. within x a) (listed g)) ((x : ℕ) → Among x (listed g) → Within x a)
      all_held = tells_every (λ x. within x a) (listed g) (λ x. tells_within x a)

      nested : Clusters (listed g)
      nested = record { some = λ x m. (v.inside x m).0; nested = v.nested }

      partner :
          (m : ℕ) → Among m (maximal_within (unrooted_clusters g) a)
          → (p : ℕ) × Among p (keep (λ p. holds_maximal (listed g) a p) (listed g)) × StandsFor g s a m p
      partner m i =
          let t = among-tops (unrooted_clusters g) a i in
          let p = stands m t (without-root v t.among) in
          let q = p.2 in
          (p.0, keep-among (λ p. holds_maximal (listed g) a p) (listed g) q.among ((tells_joins (listed g) a p.0 nested q.among).told p.1), q)

  -- for a set that does not hold the whole, and for one that does
  kept-le : k_by Unrooted g a ≤ k_by Rooted g a
  kept-le = rw (ne_eqb a (largest g) (λ e. proper (subst (λ (z : ℕ). Within s z) (sym (e ∙ largest_of_valid v)) (within-refl s)))) tops-le

-- the whole set counts one, with a root or without
whole_le : {s : ℕ} {g : List ℕ} → ValidOn s g → k_by Unrooted g s ≤ k_by Rooted g s
whole_le {s} {g} v = omega (arith, k_of_holder v Unrooted s (within-refl s), k_of_holder v Rooted s (within-refl s))

-- of a record whose sets have two children, the whole set two or three, no k is more without a root than with it
pub unrooted_le_rooted :
    {s : ℕ} {g : List ℕ} → ValidOn s g → s < 2 ^ 16 → ((p : ℕ) → Among p (listed g) → Resolved (listed g) s p)
    → (a : ℕ) → Within a s → k_by Unrooted g a ≤ k_by Rooted g a
unrooted_le_rooted {s} {g} v small resolved a w = go (ℕ_discrete a s)
  where
    go : Dec (a ≡ s) → k_by Unrooted g a ≤ k_by Rooted g a
    go (yes e) = subst (λ (z : ℕ). k_by Unrooted g z ≤ k_by Rooted g z) (sym e) (whole_le v)
    go (no d) = kept-le v small resolved a (λ u. d (within_antisym w u))

-- the count of a tree without its root is never more than the count of any drawing of it with a root
pub unrooted_never_more :
    {s : ℕ} {t u : Tree} → s < 2 ^ 16 → On s t → RootedAnyhow t → Redrawn t u → (a : ℕ) → Within a s
    → k_by Unrooted (record_of (clusters t)) a ≤ k_by Rooted (record_of (clusters u)) a
unrooted_never_more {s} {t} {u} small o rooted r a w =
    let p = redrawn_on r o in
    omega (arith, redrawn_k small o r a, unrooted_le_rooted (valid_of_drawn {b = 16} p small) small (record_resolved small p (redrawn-rooted r rooted)) a w)
