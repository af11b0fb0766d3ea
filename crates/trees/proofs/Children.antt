-- The children of a cluster in a nested list of clusters: disjoint, together the cluster, at least two, their lowest species rising.
use Prim.Native.Nat.{ℕ, zero, suc, ◌+◌, ◌^◌, ◌≤◌, ◌<◌}
use mathlib.Core.Path.{◌≡◌, refl, sym, ap, ◌∙◌, subst}
use mathlib.Core.Logic.{◌⊎◌, inl, inr}
use mathlib.Core.Bool.{Bool, true, false, not, ◌&&◌, true≢false, false≢true}
use mathlib.Core.List.Memᴰ
use mathlib.Core.List.Memᴰ.{head as here}
use mathlib.Core.List.Memᴰ.{tail as there}
use mathlib.Core.List.{List, [], ◌∷◌, map}
use native.Mathlib.Decide.{ℕ_discrete}
use native.Mathlib.Omega.{arith}
use lib.ListN.{length}
use lib.Dec.{eqb}
use borrow.Author.Tests.{eqb-false, ne_eqb, not-true}
use Rattle.clusters.specs.Sets.{Has, Within, Apart, single, union, within, size, lowest}
use Rattle.clusters.proofs.Members.{has-union, union-has_left, union-has_right, has-zero, same_members, has_of_within, single-has, apart_of_has, has_of_apart}
use Rattle.clusters.proofs.Sets.{within-refl, within_trans, within-true, true-within, within-below, single-within, union-zero}
use Rattle.clusters.proofs.Sizes.{size-single, size-within_lt}
use Rattle.clusters.proofs.LowestSpecies.{lowest-apart}
use Rattle.trees.specs.Lists.{Among, NoneTwice, Rising, keep, some}
use Rattle.trees.specs.Records.{listed, ValidFor}
use Rattle.trees.specs.Drawn.{properly, maximal, children}
use Rattle.trees.proofs.Breadth.{Small, small_of_digits}
use Rattle.trees.proofs.Listing.{keep-among, among-keep, some_of, of_some, none_twice_keep}
use Rattle.trees.proofs.Order.{rising_none_twice}
use Rattle.trees.proofs.Nodes.{Inside, AllNested}
use Rattle.trees.proofs.LowestOrder.{among-by_lowest, by_lowest-among, rising-by_lowest, lowest-rising-once}

-- ---- properly within

pub properly-true : (a b : ℕ) → properly a b ≡ true → Within a b × (a ≡ b → ⊥)
unfolding properly
properly-true a b e = go (within a b) refl e
  where
    go : (t : Bool) → within a b ≡ t → (t && not (eqb a b)) ≡ true → Within a b × (a ≡ b → ⊥)
    go true w p = (within-true a b w, eqb-false a b (not-true (eqb a b) p))
    go false w p = absurd (false≢true p)

pub true-properly : (a b : ℕ) → Within a b → (a ≡ b → ⊥) → properly a b ≡ true
unfolding properly
true-properly a b w d = rw (true-within a b w, ne_eqb a b d)

-- ---- a list of clusters that draws a tree on s

pub record Hierarchy (s : ℕ) (cs : List ℕ) : Type 0 where
  pub below : s < 2 ^ 32
  pub once : NoneTwice cs
  pub singles : (i : ℕ) → Has s i → Among (single i) cs
  pub all : Among s cs
  pub inside : Inside cs s
  pub nested : AllNested cs

pub hierarchy_of_valid : {b s : ℕ} {r : List ℕ} → ValidFor b s r → Small b s → Hierarchy s (listed r)
hierarchy_of_valid {b} {s} {r} v small = record {
  below = small_of_digits b small;
  once = rising_none_twice (listed r) v.form.rising;
  singles = v.singles;
  all = v.all;
  inside = v.inside;
  nested = v.nested;
}

-- ---- what a child is

-- x is a child of a: listed, properly within a, and within no other that is
pub record Child (cs : List ℕ) (a x : ℕ) : Type 0 where
  pub among : Among x cs
  pub inside : Within x a
  pub other : x ≡ a → ⊥
  pub greatest : (y : ℕ) → Among y cs → Within y a → (y ≡ a → ⊥) → Within x y → x ≡ y

-- the clusters that lie properly within a
inner : List ℕ → ℕ → List ℕ
inner cs a = keep (λ x. properly x a) cs

among-inner : {x : ℕ} (cs : List ℕ) (a : ℕ) → Among x (inner cs a) → Among x cs × Within x a × (x ≡ a → ⊥)
unfolding inner
among-inner {x} cs a h =
    let k = among-keep (λ x. properly x a) cs h in
    let p = properly-true x a k.1 in
    (k.0, p.0, p.1)

inner-among : {x : ℕ} (cs : List ℕ) (a : ℕ) → Among x cs → Within x a → (x ≡ a → ⊥) → Among x (inner cs a)
unfolding inner
inner-among {x} cs a h w d = keep-among (λ x. properly x a) cs h (true-properly x a w d)

-- one of them that lies properly within no other of them is a child, and conversely
child_of_none : {x : ℕ} (cs : List ℕ) (a : ℕ) → Among x (inner cs a) → some (λ y. properly x y) (inner cs a) ≡ false → Child cs a x
child_of_none {x} cs a h e = record {
  among = k.0;
  inside = k.1;
  other = k.2;
  greatest = λ y m w d v. same y (inner-among cs a m w d) v (ℕ_discrete x y);
}
  where
    k : Among x cs × Within x a × (x ≡ a → ⊥)
    k = among-inner cs a h

    same : (y : ℕ) → Among y (inner cs a) → Within x y → Dec (x ≡ y) → x ≡ y
    same y m v (yes p) = p
    same y m v (no d) = absurd (true≢false (sym (some_of (λ y. properly x y) (inner cs a) m (true-properly x y v d)) ∙ e))

none_of_child : {x : ℕ} (cs : List ℕ) (a : ℕ) → Child cs a x → some (λ y. properly x y) (inner cs a) ≡ false
none_of_child {x} cs a c = go (some (λ y. properly x y) (inner cs a)) refl
  where
    go : (t : Bool) → some (λ y. properly x y) (inner cs a) ≡ t → t ≡ false
    go true e =
        let y = of_some (λ y. properly x y) (inner cs a) e in
        let k = among-inner cs a y.1 in
        let p = properly-true x y.0 y.2 in
        absurd (p.1 (c.greatest y.0 k.0 k.1 k.2 p.0))
    go false e = refl

pub among-children : {x : ℕ} (cs : List ℕ) (a : ℕ) → Among x (children cs a) → Child cs a x
unfolding children maximal inner
among-children {x} cs a h =
    let k = among-keep (λ x. not (some (λ y. properly x y) (inner cs a))) (inner cs a) (among-by_lowest (maximal (inner cs a)) h) in
    child_of_none cs a k.0 (not-true (some (λ y. properly x y) (inner cs a)) k.1)

pub children-among : {x : ℕ} (cs : List ℕ) (a : ℕ) → Child cs a x → Among x (children cs a)
unfolding children maximal inner
children-among {x} cs a c =
    by_lowest-among (maximal (inner cs a))
    (keep-among (λ x. not (some (λ y. properly x y) (inner cs a))) (inner cs a) (inner-among cs a c.among c.inside c.other)
    (ap not (none_of_child cs a c)))

-- ---- the sets of a list together

unfoldable pub together : List ℕ → ℕ
together [] = 0
together (x ∷ l) = union x (together l)

pub has-together : (l : List ℕ) (i : ℕ) → Has (together l) i → (x : ℕ) × Among x l × Has x i
unfolding together
has-together [] i h = absurd (has-zero i h)
has-together (y ∷ l) i h = go (has-union y (together l) i h) (λ k. has-together l i k)
  where
    go : Has y i ⊎ Has (together l) i → (Has (together l) i → (x : ℕ) × Among x l × Has x i) → (x : ℕ) × Among x (y ∷ l) × Has x i
    go (inl k) ih = (y, here refl, k)
    go (inr k) ih = let r = ih k in (r.0, there r.1, r.2)

pub together-has : {x : ℕ} (l : List ℕ) (i : ℕ) → Among x l → Has x i → Has (together l) i
unfolding together
together-has [] i m h = absurd (Memᴰ.not-nil m)
together-has {x} (y ∷ l) i m h = go (Memᴰ.cases_cons m) (λ k. together-has l i k h)
  where
    go : (x ≡ y) ⊎ Among x l → (Among x l → Has (together l) i) → Has (union y (together l)) i
    go (inl e) ih = union-has_left y (together l) i (subst (λ (z : ℕ). Has z i) e h)
    go (inr k) ih = union-has_right y (together l) i (ih k)

-- each set of the list is disjoint from those behind it
unfoldable pub AllApart : List ℕ → Type 0
AllApart [] = Unit {0}
AllApart (x ∷ l) = Apart x (together l) × AllApart l

pub all_apart : (l : List ℕ) → NoneTwice l → ((x y : ℕ) → Among x l → Among y l → (x ≡ y → ⊥) → Apart x y) → AllApart l
unfolding AllApart NoneTwice
all_apart [] n d = tt
all_apart (x ∷ l) n d = (
  apart_of_has x (together l) (λ i h k.
      let y = has-together l i k in
      has_of_apart x y.0 i (d x y.0 (here refl) (there y.1) (λ e. n.0 (Memᴰ.cast e y.1))) h y.2),
  all_apart l n.1 (λ y z h k. d y z (there h) (there k)),
)

-- ---- the children of a cluster

module _ {s : ℕ} {cs : List ℕ} (h : Hierarchy s cs) where
  pub cluster-below : {a : ℕ} → Among a cs → a < 2 ^ 32
  cluster-below {a} m = within-below s 32 (h.inside a m).1 h.below

  -- two children are disjoint
  pub child-apart : {a x y : ℕ} → Child cs a x → Child cs a y → (x ≡ y → ⊥) → Apart x y
  child-apart {a} {x} {y} c d n = go (h.nested x y c.among d.among)
    where
      go : Apart x y ⊎ (Within x y ⊎ Within y x) → Apart x y
      go (inl w) = w
      go (inr (inl w)) = absurd (n (c.greatest y d.among d.inside d.other w))
      go (inr (inr w)) = absurd (n (sym (d.greatest x c.among c.inside c.other w)))

  -- what lies properly within a lies within a child of a
  child-above : (a n x : ℕ) → Among x cs → Within x a → (x ≡ a → ⊥) → size a ≤ size x + n → (c : ℕ) × Child cs a c × Within x c
  child-above a zero x m w d l = let k = size-within_lt x a w d in absurd (omega arith)
  child-above a (suc n) x m w d l = go (some (λ y. properly x y) (inner cs a)) refl (λ y m w d l. child-above a n y m w d l)
    where
      go :
          (t : Bool) → some (λ y. properly x y) (inner cs a) ≡ t
          → ((y : ℕ) → Among y cs → Within y a → (y ≡ a → ⊥) → size a ≤ size y + n → (c : ℕ) × Child cs a c × Within y c) → (c : ℕ) × Child cs a c × Within x c
      go true e ih =
          let y = of_some (λ y. properly x y) (inner cs a) e in
          let k = among-inner cs a y.1 in
          let p = properly-true x y.0 y.2 in
          let q = size-within_lt x y.0 p.0 p.1 in
          let c = ih y.0 k.0 k.1 k.2 (omega arith) in
          (c.0, c.1, within_trans x y.0 c.0 p.0 c.2)
      go false e ih = (x, child_of_none cs a (inner-among cs a m w d) e, within-refl x)

  pub within-child : {a x : ℕ} → Among x cs → Within x a → (x ≡ a → ⊥) → (c : ℕ) × Among c (children cs a) × Within x c
  within-child {a} {x} m w d =
      let c = child-above a (size a) x m w d (omega arith) in
      (c.0, children-among cs a c.1, c.2)

  -- "in rising order of their lowest species"
  pub children-rising : (a : ℕ) → Rising (map lowest (children cs a))
  unfolding children maximal
  children-rising a =
      rising-by_lowest (maximal (keep (λ x. properly x a) cs))
      (none_twice_keep (λ x. not (some (λ y. properly x y) (keep (λ x. properly x a) cs))) (keep (λ x. properly x a) cs) (none_twice_keep (λ x. properly x a) cs h.once))
      (λ x y m k e. same (among-children cs a (by_lowest-among (maximal (keep (λ x. properly x a) cs)) m))
      (among-children cs a (by_lowest-among (maximal (keep (λ x. properly x a) cs)) k)) e (ℕ_discrete x y))
    where
      same : {x y : ℕ} → Child cs a x → Child cs a y → lowest x ≡ lowest y → Dec (x ≡ y) → x ≡ y
      same c d e (yes p) = p
      same {x} {y} c d e (no n) =
          absurd (lowest-apart (cluster-below c.among) (cluster-below d.among) (h.inside x c.among).0 (h.inside y d.among).0 (child-apart c d n) e)

  pub children-once : (a : ℕ) → NoneTwice (children cs a)
  children-once a = lowest-rising-once (children cs a) (children-rising a)

  pub children_all_apart : (a : ℕ) → AllApart (children cs a)
  children_all_apart a = all_apart (children cs a) (children-once a) (λ x y m k n. child-apart (among-children cs a m) (among-children cs a k) n)

  -- the children of a cluster of more than one species are together that cluster
  pub children-together : {a : ℕ} → Among a cs → (size a ≡ 1 → ⊥) → together (children cs a) ≡ a
  children-together {a} m n = same_members (together (children cs a)) a fewer every
    where
      fewer : (i : ℕ) → Has (together (children cs a)) i → Has a i
      fewer i k =
          let x = has-together (children cs a) i k in
          has_of_within x.0 a i (among-children cs a x.1).inside x.2

      every : (i : ℕ) → Has a i → Has (together (children cs a)) i
      every i k =
          let c = within-child (h.singles i (has_of_within a s i (h.inside a m).1 k)) (single-within a i k) (λ e. n (sym (ap size e) ∙ size-single i)) in
          together-has (children cs a) i c.1 (has_of_within (single i) c.0 i c.2 (single-has i))

  -- "two or more"
  pub children_two : {a : ℕ} → Among a cs → (size a ≡ 1 → ⊥) → 2 ≤ length (children cs a)
  unfolding together
  children_two {a} m n = go (children cs a) (children-together m n) (λ x k. (among-children cs a k).other)
    where
      go : (l : List ℕ) → together l ≡ a → ((x : ℕ) → Among x l → x ≡ a → ⊥) → 2 ≤ length l
      go [] e d = let k = (h.inside a m).0 in absurd (omega arith)
      go (x ∷ []) e d = absurd (d x (here refl) (sym (union-zero x) ∙ e))
      go (x ∷ y ∷ l) e d = omega arith
