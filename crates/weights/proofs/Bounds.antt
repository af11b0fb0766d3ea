-- How large k is: at most the size of A and the number of species of the tree. It is 1 for a single species of the tree, and where A holds all of them.
use Prim.Native.Nat.{ℕ, ◌-◌, ◌≤◌}
use mathlib.Core.Path.{◌≡◌, refl, sym, ◌∙◌}
use mathlib.Core.Logic.{inl, inr}
use mathlib.Core.List.Memᴰ.{head as here}
use mathlib.Core.List.Memᴰ.{tail as there}
use mathlib.Core.List.{List, [], ◌∷◌}
use native.Mathlib.Omega.{arith}
use lib.ListN.{length}
use Rattle.clusters.specs.Sets.{Has, Within, Apart, within, single, size}
use Rattle.clusters.proofs.Members.{within_of_has, has_of_within, single-has}
use Rattle.clusters.proofs.Sets.{within-refl, within_trans, within_dec}
use Rattle.clusters.proofs.Sizes.{size_some, size-apart, size-within, size-single}
use Rattle.trees.specs.Lists.{Among, NoneTwice}
use Rattle.trees.specs.Records.{listed, Nested, ValidFor}
use Rattle.trees.proofs.Breadth.{Small}
use Rattle.trees.proofs.Order.{rising_none_twice}
use Rattle.trees.proofs.Children.{together, has-together, AllApart, all_apart}
use Rattle.trees.proofs.UnrootingChildren.{outside-species}
use Rattle.trees.proofs.ValidTest.{tells_every, tells_within}
use Rattle.weights.specs.Count.{unrooted_clusters, maximal_within, k_drawn, k_of, k_by, extra}
use Rattle.weights.specs.declared.Rooting.{Rooting}
use Rattle.weights.specs.declared.Rooting.TheVariants.{Rooted, Unrooted}
use Rattle.weights.proofs.Tops.{Top, drawn-tops, among-tops, tops-once}
use Rattle.weights.proofs.Joining.{k_held}
use Rattle.weights.proofs.UnrootedClusters.{unrooted_once}
use Rattle.weights.proofs.Complements.{unrooted_inside, unrooted_nested, unrooted_held, held-top, k_unrooted}
use Rattle.weights.proofs.Compared.{k_never_more, k_some}

-- ---- at most the size

-- disjoint sets that have species are at most as many as their species
length-le-together : (l : List ℕ) → AllApart l → ((x : ℕ) → Among x l → 1 ≤ x) → length l ≤ size (together l)
unfolding together AllApart
length-le-together [] p s = omega arith
length-le-together (x ∷ l) p s =
    let k = length-le-together l p.1 (λ y h. s y (there h)) in
    omega (arith, size-apart x (together l) p.0, size_some (s x (here refl)))

-- 01's count is at most the size of any set that holds all the maximal ones
pub drawn-le-size :
    (cs : List ℕ) (a c : ℕ) → NoneTwice cs → ((x : ℕ) → Among x cs → 1 ≤ x) → ((x y : ℕ) → Top cs a x → Top cs a y → Nested x y)
    → ((x : ℕ) → Top cs a x → Within x c) → k_drawn cs a ≤ size c
drawn-le-size cs a c once some nested within-c =
    let l = length-le-together (maximal_within cs a) (all_apart (maximal_within cs a) (tops-once cs a once) apart_two) (λ x h. some x (among-tops cs a h).among) in
    let w = size-within (together (maximal_within cs a)) c (within_of_has (together (maximal_within cs a)) c inside) in
    omega (arith, drawn-tops cs a)
  where
    apart_of : {x y : ℕ} → Top cs a x → Top cs a y → (x ≡ y → ⊥) → Nested x y → Apart x y
    apart_of t u d (inl p) = p
    apart_of {x} {y} t u d (inr (inl w)) = absurd (d (t.greatest y u.among u.inside w))
    apart_of {x} {y} t u d (inr (inr w)) = absurd (d (sym (u.greatest x t.among t.inside w)))

    apart_two : (x y : ℕ) → Among x (maximal_within cs a) → Among y (maximal_within cs a) → (x ≡ y → ⊥) → Apart x y
    apart_two x y h k d =
        let t = among-tops cs a h in
        let u = among-tops cs a k in
        apart_of t u d (nested x y t u)

    inside : (i : ℕ) → Has (together (maximal_within cs a)) i → Has c i
    inside i h =
        let x = has-together (maximal_within cs a) i h in
        has_of_within x.0 c i (within-c x.0 (among-tops cs a x.1)) x.2

-- ---- a valid gene record

module _ {b s : ℕ} {g : List ℕ} (v : ValidFor b s g) where
  -- 01's count is at most the size of any set that holds the maximal ones
  pub drawn-le : (a c : ℕ) → ((x : ℕ) → Top (listed g) a x → Within x c) → k_drawn (listed g) a ≤ size c
  drawn-le a c =
      drawn-le-size (listed g) a c (rising_none_twice (listed g) v.form.rising) (λ x h. (v.inside x h).0) (λ x y t u. v.nested x y t.among u.among)

  -- without a root too
  unrooted_le : (a c : ℕ) → ((x : ℕ) → Top (unrooted_clusters g) a x → Within x c) → k_drawn (unrooted_clusters g) a ≤ size c
  unrooted_le a c = drawn-le-size (unrooted_clusters g) a c (unrooted_once g) (λ x h. (unrooted_inside v x h).0) (λ x y t u. go x y t u (within_dec s a))
    where
      go : (x y : ℕ) → Top (unrooted_clusters g) a x → Top (unrooted_clusters g) a y → Dec (Within s a) → Nested x y
      go x y t u (yes w) = rw (held-top v a w x t, held-top v a w y u) (inr (inl (within-refl s)))
      go x y t u (no f) = let i = outside-species s a f in unrooted_nested v a i.0 i.1 i.2 x y t.among u.among t.inside u.inside

  -- "one where A holds all its species" (#101), and without a root "for the whole set, one" (#106)
  pub k_of_holder : (rooting : Rooting) (a : ℕ) → Within s a → k_by rooting g a ≡ 1
  k_of_holder Rooted a w =
      k_held (listed g) a ((tells_every (λ x. within x a) (listed g) (λ x. tells_within x a)).told (λ x h. within_trans x s a (v.inside x h).1 w))
  k_of_holder Unrooted a w = k_unrooted v a ∙ unrooted_held v a w

  -- no extra lineages of a set that holds all its species
  pub extra_of_holder : (rooting : Rooting) (a : ℕ) → Within s a → extra rooting g a ≡ 0
  unfolding extra
  extra_of_holder rooting a w = omega (arith, k_of_holder rooting a w)

  module _ (small : Small b s) where
    -- k is at most the size of any set that holds the clusters within A
    k_le_size : (rooting : Rooting) (a c : ℕ) → ((x : ℕ) → Within x a → Within x s → Within x c) → k_by rooting g a ≤ size c
    k_le_size Rooted a c f = omega (arith, k_never_more v small a, drawn-le a c (λ x t. f x t.inside (v.inside x t.among).1))
    k_le_size Unrooted a c f =
        omega (arith, k_unrooted v a, unrooted_le a c (λ x t. f x t.inside (unrooted_inside v x t.among).1))

    pub k_le : (rooting : Rooting) (a : ℕ) → k_by rooting g a ≤ size a
    k_le rooting a = k_le_size rooting a a (λ x w u. w)

    pub k_le_all : (rooting : Rooting) (a : ℕ) → k_by rooting g a ≤ size s
    k_le_all rooting a = k_le_size rooting a s (λ x w u. u)

    pub k_of_single : (i : ℕ) → Has s i → k_of (listed g) (single i) ≡ 1
    k_of_single i h = omega (arith, k_some v small (single i) i h (single-has i), k_le Rooted (single i), size-single i)

    -- ---- extra lineages

    pub extra_lt_size : (rooting : Rooting) (a : ℕ) → extra rooting g a ≤ size a - 1
    unfolding extra
    extra_lt_size rooting a = omega (arith, k_le rooting a)

    pub extra_lt_all : (rooting : Rooting) (a : ℕ) → extra rooting g a ≤ size s - 1
    unfolding extra
    extra_lt_all rooting a = omega (arith, k_le_all rooting a)

    -- of a single species nothing is extra, whether the tree has it or not
    pub extra_of_single : (rooting : Rooting) (i : ℕ) → extra rooting g (single i) ≡ 0
    extra_of_single rooting i = omega (arith, extra_lt_size rooting (single i), size-single i)
