-- Children and parents among the clusters of a tree: each cluster but the whole is a child; and what stands beside two children of a set with few.
use Prim.Native.Nat.{ℕ, zero, suc, ◌-◌, ◌^◌, ◌≤◌, ◌<◌}
use mathlib.Core.Path.{◌≡◌, sym, ◌∙◌, subst}
use mathlib.Core.Logic.{◌⊎◌, inl, inr}
use mathlib.Core.List.Memᴰ
use mathlib.Core.List.{List, [], ◌∷◌}
use native.Mathlib.Decide.{ℕ_discrete}
use native.Mathlib.Omega.{arith}
use lib.ListN.{length}
use lib.Bits.{bit_and}
use Rattle.clusters.specs.Sets.{Has, Within, size}
use Rattle.clusters.proofs.Members.{some_has, and_has, within_of_has, has_of_within}
use Rattle.clusters.proofs.Sets.{has_minus, minus_some}
use Rattle.clusters.proofs.Parts.{and_part}
use Rattle.clusters.proofs.Sizes.{size_some, size-within_lt}
use Rattle.trees.specs.Lists.{Among, NoneTwice}
use Rattle.trees.specs.Records.{listed, record_of}
use Rattle.trees.specs.Tree.{Tree, clusters, On}
use Rattle.trees.specs.Drawn.{children}
use Rattle.trees.specs.Unrooted.{RootedAnyhow}
use Rattle.trees.proofs.Matched.{fewer-le}
use Rattle.trees.proofs.MayUnroot.{Resolved, rooted-resolved, apart-rest}
use Rattle.trees.proofs.Children.{Hierarchy, Child, among-children, children-among, within-child, child-apart, has-together, children-together, hierarchy_of_valid}
use Rattle.trees.proofs.Recorded.{valid_of_drawn}
use Rattle.trees.proofs.Likeness.{alike-drawn}
use Rattle.trees.proofs.RedrawingOrder.{alike-rooted}

-- a set that does not lie within another has a species that is not in it
pub outside-species : (p a : ℕ) → (Within p a → ⊥) → (i : ℕ) × Has p i × (Has a i → ⊥)
unfolding Within
outside-species p a out =
    let i = some_has (p - bit_and p a) (minus_some (and_part p a) out) in
    let h = has_minus p (bit_and p a) i.0 (and_part p a) i.1 in
    (i.0, h.0, λ k. h.1 (and_has p a i.0 h.0 k))

module _ {s : ℕ} {cs : List ℕ} (h : Hierarchy s cs) where
  -- what lies properly within a cluster is a child of some cluster
  parent-below : (n x p : ℕ) → Among x cs → Among p cs → Within x p → (x ≡ p → ⊥) → size p ≤ n → (q : ℕ) × Among q cs × Child cs q x
  parent-below zero x p m k w d l = absurd (omega (arith, size_some (h.inside p k).0))
  parent-below (suc n) x p m k w d l =
      let c = within-child h m w d in
      let child = among-children cs p c.1 in
      go c.0 child (ℕ_discrete x c.0)
      (λ f. parent-below n x c.0 m child.among c.2 f (omega (arith, size-within_lt c.0 p child.inside child.other)))
    where
      go : (c : ℕ) → Child cs p c → Dec (x ≡ c) → ((x ≡ c → ⊥) → (q : ℕ) × Among q cs × Child cs q x) → (q : ℕ) × Among q cs × Child cs q x
      go c child (yes e) lower = (p, k, subst (λ (z : ℕ). Child cs p z) (sym e) child)
      go c child (no f) lower = lower f

  -- each cluster but the whole is a child of another
  pub parent : (x : ℕ) → Among x cs → (x ≡ s → ⊥) → (q : ℕ) × Among q cs × Child cs q x
  parent x m d = parent-below (size s) x s m h.all (h.inside x m).1 d (omega arith)

  module _ {p : ℕ} (listed_p : Among p cs) where
    -- what has a child is no single species
    pub parent_not_single : {y : ℕ} → Child cs p y → size p ≡ 1 → ⊥
    parent_not_single {y} c e = omega (arith, size-within_lt y p c.inside c.other, size_some (h.inside y c.among).0)

    -- each species of a parent is in a child
    pub child_with : {y : ℕ} → Child cs p y → (i : ℕ) → Has p i → (c : ℕ) × Child cs p c × Has c i
    child_with c i k =
        let d = has-together (children cs p) i (subst (λ (z : ℕ). Has z i) (sym (children-together h listed_p (parent_not_single c))) k) in
        (d.0, among-children cs p d.1, d.2)

-- ---- lists of different numbers

apart_of_cons : {x y : ℕ} {l : List ℕ} → (x ≡ y → ⊥) → (Among x l → ⊥) → Among x (y ∷ l) → ⊥
apart_of_cons {x} {y} {l} d f m = go (Memᴰ.cases_cons m)
  where
    go : (x ≡ y) ⊎ Among x l → ⊥
    go (inl e) = d e
    go (inr k) = f k

all_of : {P : ℕ → Type 0} {y : ℕ} {l : List ℕ} → P y → ((x : ℕ) → Among x l → P x) → (x : ℕ) → Among x (y ∷ l) → P x
all_of {P} {y} {l} p f x m = go (Memᴰ.cases_cons m)
  where
    go : (x ≡ y) ⊎ Among x l → P x
    go (inl e) = subst P (sym e) p
    go (inr k) = f x k

none_of : {x : ℕ} → Among x [] → ⊥
none_of m = Memᴰ.not-nil m

-- three different numbers that stand in a list, and four
three_of : {x y z : ℕ} (l : List ℕ) → (x ≡ y → ⊥) → (x ≡ z → ⊥) → (y ≡ z → ⊥) → Among x l → Among y l → Among z l → 3 ≤ length l
unfolding NoneTwice
three_of {x} {y} {z} l d e f p q r =
    fewer-le (x ∷ y ∷ z ∷ []) l (apart_of_cons d (apart_of_cons e none_of), (apart_of_cons f none_of, (none_of, tt)))
    (all_of p (all_of q (all_of r (λ v m. absurd (none_of m)))))

four_of :
    {w x y z : ℕ} (l : List ℕ) → (w ≡ x → ⊥) → (w ≡ y → ⊥) → (w ≡ z → ⊥) → (x ≡ y → ⊥) → (x ≡ z → ⊥) → (y ≡ z → ⊥) → Among w l → Among x l
    → Among y l → Among z l → 4 ≤ length l
unfolding NoneTwice
four_of {w} {x} {y} {z} l a b c d e f o p q r =
    fewer-le (w ∷ x ∷ y ∷ z ∷ []) l
    (apart_of_cons a (apart_of_cons b (apart_of_cons c none_of)), (apart_of_cons d (apart_of_cons e none_of), (apart_of_cons f none_of, (none_of, tt))))
    (all_of o (all_of p (all_of q (all_of r (λ v m. absurd (none_of m))))))

-- ---- two children within A of a set that does not lie there

-- the complement of a cluster, not the whole: it lies within A and holds x and y
pub record Beside (s : ℕ) (cs : List ℕ) (a x y : ℕ) : Type 0 where
  pub third : ℕ
  pub among : Among third cs
  pub other : third ≡ s → ⊥
  pub inside : Within (s - third) a
  pub holds_x : Within x (s - third)
  pub holds_y : Within y (s - third)

module _ {s : ℕ} {cs : List ℕ} (h : Hierarchy s cs) (a : ℕ) {p x y : ℕ} (listed_p : Among p cs) (outside : Within p a → ⊥)
    (c : Child cs p x) (d : Child cs p y) (differ : x ≡ y → ⊥) (x-inside : Within x a) (y_inside : Within y a) where
  third-child : (z : ℕ) × Child cs p z × (Within z a → ⊥)
  third-child =
      let i = outside-species p a outside in
      let z = child_with h listed_p c i.0 i.1 in
      (z.0, z.1, λ w. i.2 (has_of_within z.0 a i.0 w z.2))

  not_inside : {v z : ℕ} → Within v a → (Within z a → ⊥) → v ≡ z → ⊥
  not_inside {v} w f e = f (subst (λ (z : ℕ). Within z a) e w)

  -- with three children the third stands beside them
  beside_of : (z : ℕ) → Child cs p z → (Within z a → ⊥) → p ≡ s → length (children cs p) ≡ 3 → Beside s cs a x y
  beside_of z k f e n = record {
    third = z;
    among = k.among;
    other = λ g. k.other (g ∙ sym e);
    inside = within_of_has (s - z) a (λ i m. let j = has_minus s z i part m in at i j.1 (child_with h listed_p c i (subst (λ (v : ℕ). Has v i) (sym e) j.0)));
    holds_x = apart-rest s z x part (h.inside x c.among).1 (child-apart h c k (not_inside x-inside f));
    holds_y = apart-rest s z y part (h.inside y d.among).1 (child-apart h d k (not_inside y_inside f));
  }
    where
      part : Within z s
      part = (h.inside z k.among).1

      at : (i : ℕ) → (Has z i → ⊥) → (w : ℕ) × Child cs p w × Has w i → Has a i
      at i g w = go (ℕ_discrete w.0 x) (ℕ_discrete w.0 y)
        where
          go : Dec (w.0 ≡ x) → Dec (w.0 ≡ y) → Has a i
          go (yes e) o = has_of_within x a i x-inside (subst (λ (v : ℕ). Has v i) e w.2)
          go (no m) (yes e) = has_of_within y a i y_inside (subst (λ (v : ℕ). Has v i) e w.2)
          go (no m) (no o) =
              let four = four_of (children cs p) m o (λ e. g (subst (λ (v : ℕ). Has v i) e w.2)) differ (not_inside x-inside f) (not_inside y_inside f)
              (children-among cs p w.1) (children-among cs p c) (children-among cs p d) (children-among cs p k) in
              absurd (omega arith)

  -- then p is the whole set, and the complement of its third child lies within A and holds both
  pub beside : Resolved cs s p → Beside s cs a x y
  beside r = go r third-child
    where
      go : Resolved cs s p → (z : ℕ) × Child cs p z × (Within z a → ⊥) → Beside s cs a x y
      go (inl (inl e)) z = absurd (parent_not_single h listed_p c e)
      go (inl (inr e)) z =
          let three = three_of (children cs p) differ (not_inside x-inside z.2) (not_inside y_inside z.2) (children-among cs p c) (children-among cs p d)
          (children-among cs p z.1) in
          absurd (omega arith)
      go (inr e) z = beside_of z.0 z.1 z.2 e.0 e.1

-- each cluster of a tree that is binary save that the root may have three children is resolved in its record
pub record_resolved :
    {s : ℕ} {t : Tree} → s < 2 ^ 16 → On s t → RootedAnyhow t → (p : ℕ) → Among p (listed (record_of (clusters t)))
    → Resolved (listed (record_of (clusters t))) s p
record_resolved small o rooted = (rooted-resolved (hierarchy_of_valid (valid_of_drawn {b = 16} o small) small)).0 (alike-rooted (alike-drawn 16 o small) rooted)
