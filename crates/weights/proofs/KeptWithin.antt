-- Clusters under other names: where a function keeps what lies within what, k of what it makes of a list of clusters is k of the list.
use Prim.Native.Nat.{ℕ, ◌^◌, ◌<◌}
use mathlib.Core.Path.{◌≡◌, refl, sym, ap, ap₂, ◌∙◌, subst}
use mathlib.Core.List.Memᴰ
use mathlib.Core.List.Memᴰ.{head as here}
use mathlib.Core.List.Memᴰ.{tail as there}
use mathlib.Core.List.{List, [], ◌∷◌, map}
use Rattle.clusters.specs.Sets.{Within, within}
use Rattle.clusters.proofs.Sets.{within-refl, within_antisym, within-true, true-within}
use Rattle.trees.specs.Lists.{Among, NoneTwice}
use Rattle.trees.specs.Valid.{every}
use Rattle.trees.proofs.Children.{Child}
use Rattle.trees.proofs.ValidTest.{tells_within, tells_every}
use Rattle.weights.specs.Count.{holds_maximal, k_of, one_or}
use Rattle.weights.specs.Subsets.{many}
use Rattle.weights.proofs.Joining.{Joins, Clusters, tells_joins, tells_same, joining, k_either}
use Rattle.weights.proofs.SumOfLists.{many_mapped, many_same}

-- for sets of n species
pub record KeepsWithin (n : ℕ) (see : ℕ → ℕ) : Type 0 where
  pub kept : (x y : ℕ) → x < 2 ^ n → within (see x) (see y) ≡ within x y

module _ {n : ℕ} {see : ℕ → ℕ} (keeps : KeepsWithin n see) where
  pub there_within : (x y : ℕ) → x < 2 ^ n → Within x y → Within (see x) (see y)
  there_within x y l w = within-true (see x) (see y) (keeps.kept x y l ∙ true-within x y w)

  pub back_within : (x y : ℕ) → x < 2 ^ n → Within (see x) (see y) → Within x y
  back_within x y l w = within-true x y (sym (keeps.kept x y l) ∙ true-within (see x) (see y) w)

  -- it makes no two sets one
  pub see-apart : {x y : ℕ} → x < 2 ^ n → y < 2 ^ n → see x ≡ see y → x ≡ y
  see-apart {x} {y} l k e =
      within_antisym (back_within x y l (subst (λ (s : ℕ). Within (see x) s) e (within-refl (see x))))
      (back_within y x k (subst (λ (s : ℕ). Within s (see x)) e (within-refl (see x))))

  pub once-seen : (l : List ℕ) → ((x : ℕ) → Among x l → x < 2 ^ n) → NoneTwice l → NoneTwice (map see l)
  unfolding NoneTwice
  once-seen [] below once = tt
  once-seen (x ∷ l) below once = (
    λ m.
        let y = Memᴰ.of_map see l m in
        once.0 (subst (λ (z : ℕ). Among z l) (see-apart (below y.0 (there y.1)) (below x (here refl)) y.2) y.1),
    once-seen l (λ y m. below y (there m)) once.1,
  )

  -- ---- a list of clusters

  module _ (cs : List ℕ) (below : (x : ℕ) → Among x cs → x < 2 ^ n) where
    -- a child is one of the seen, and the other way round
    child-seen : {p x : ℕ} → Among p cs → Child cs p x → Child (map see cs) (see p) (see x)
    child-seen {p} {x} m c = record {
      among = Memᴰ.map see c.among;
      inside = there_within x p (below x c.among) c.inside;
      other = λ e. c.other (see-apart (below x c.among) (below p m) e);
      greatest = λ y k w d v.
          let z = Memᴰ.of_map see cs k in
          ap see (c.greatest z.0 z.1 (back_within z.0 p (below z.0 z.1) (subst (λ (s : ℕ). Within s (see p)) (sym z.2) w)) (λ e. d (sym z.2 ∙ ap see e))
          (back_within x z.0 (below x c.among) (subst (λ (s : ℕ). Within (see x) s) (sym z.2) v)))
          ∙ z.2;
    }

    seen-child : {p x : ℕ} → Among p cs → Among x cs → Child (map see cs) (see p) (see x) → Child cs p x
    seen-child {p} {x} m k c = record {
      among = k;
      inside = back_within x p (below x k) c.inside;
      other = λ e. c.other (ap see e);
      greatest = λ y h w d v.
          see-apart (below x k) (below y h)
          (c.greatest (see y) (Memᴰ.map see h) (there_within y p (below y h) w) (λ e. d (see-apart (below y h) (below p m) e)) (there_within x y (below x k) v));
    }

    module _ (a : ℕ) where
      -- a node is counted where what is seen of it is
      joins_there : {p : ℕ} → Among p cs → Joins (map see cs) (see a) (see p) → Joins cs a p
      joins_there {p} m j = record {
        outside = λ w. j.outside (there_within p a (below p m) w);
        held = x.0;
        child = seen-child m x.1 (subst (λ (z : ℕ). Child (map see cs) (see p) z) (sym x.2) j.child);
        inside = back_within x.0 a (below x.0 x.1) (subst (λ (z : ℕ). Within z (see a)) (sym x.2) j.inside);
      }
        where
          x : (x : ℕ) × Among x cs × (see x ≡ j.held)
          x = Memᴰ.of_map see cs j.child.among

      joins_back : {p : ℕ} → Among p cs → Joins cs a p → Joins (map see cs) (see a) (see p)
      joins_back {p} m j = record {
        outside = λ w. j.outside (back_within p a (below p m) w);
        held = see j.held;
        child = child-seen m j.child;
        inside = there_within j.held a (below j.held j.child.among) j.inside;
      }

      every-seen : every (λ y. within y (see a)) (map see cs) ≡ every (λ x. within x a) cs
      every-seen =
          tells_same (tells_every (λ y. within y (see a)) (map see cs) (λ y. tells_within y (see a)))
          (tells_every (λ x. within x a) cs (λ x. tells_within x a))
          (λ f x m. back_within x a (below x m) (f (see x) (Memᴰ.map see m)))
          (λ f y m. let x = Memᴰ.of_map see cs m in subst (λ (z : ℕ). Within z (see a)) x.2 (there_within x.0 a (below x.0 x.1) (f x.0 x.1)))

      joining-seen : Clusters cs → Clusters (map see cs) → joining (map see cs) (see a) (map see cs) ≡ joining cs a cs
      unfolding joining many
      joining-seen h h' =
          many_mapped (λ p. holds_maximal (map see cs) (see a) p) see cs
          ∙ many_same (λ p. holds_maximal (map see cs) (see a) (see p)) (λ p. holds_maximal cs a p) cs
          (λ p m.
          tells_same (tells_joins (map see cs) (see a) (see p) h' (Memᴰ.map see m)) (tells_joins cs a p h m) (joins_there m) (joins_back m))

      -- k is the same
      pub k_seen : Clusters cs → Clusters (map see cs) → k_of (map see cs) (see a) ≡ k_of cs a
      k_seen h h' = k_either (map see cs) (see a) ∙ ap₂ one_or every-seen (joining-seen h h') ∙ sym (k_either cs a)
