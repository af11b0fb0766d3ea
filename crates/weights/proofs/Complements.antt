-- The maximal clusters of a gene tree without a root: where a species of the tree is not in A, the clusters within A are nested, and 01's count of them is that of
-- the record's own within a smaller set, with one more where a complement lies within A.
use Prim.Native.Nat.{ℕ, suc, ◌+◌, ◌-◌, ◌≤◌}
use mathlib.Core.Path.{◌≡◌, refl, sym, ap, ◌∙◌, subst}
use mathlib.Core.Bool.{Bool, true, false}
use mathlib.Core.Logic.{◌⊎◌, inl, inr}
use mathlib.Core.List.Memᴰ
use mathlib.Core.List.Memᴰ.{head as here}
use mathlib.Core.List.Memᴰ.{tail as there}
use mathlib.Core.List.{List, [], ◌∷◌}
use native.Mathlib.Omega.{arith}
use lib.Bits.{bit_and}
use lib.Dec.{eqb}
use borrow.Author.Tests.{eqb-true}
use Rattle.clusters.specs.Sets.{Has, Within, Apart}
use Rattle.clusters.proofs.Members.{has_dec, has_and, and_has, some_has, within_of_has, has_of_within, apart_of_has, has_of_apart}
use Rattle.clusters.proofs.Sets.{within-refl, within_trans, within_antisym, within-le, minus_has, has_minus, minus_within, minus_some}
use Rattle.clusters.proofs.Parts.{part_and, and_part}
use Rattle.trees.specs.Lists.{Among, NoneTwice}
use Rattle.trees.specs.Records.{listed, largest, Nested, ValidFor}
use Rattle.trees.proofs.Listing.{none_twice_one}
use Rattle.trees.proofs.Order.{rising_none_twice}
use Rattle.trees.proofs.Nodes.{nested-sym}
use Rattle.trees.proofs.GeneRecords.{largest_of_valid}
use Rattle.trees.proofs.MayUnroot.{apart-rest}
use Rattle.trees.proofs.Redrawing.{WithoutRoot}
use Rattle.weights.specs.Count.{unrooted_clusters, maximal_within, k_drawn, one_or, k_by}
use Rattle.weights.specs.declared.Rooting.TheVariants.{Unrooted}
use Rattle.weights.specs.Work.{CountableFor, SmallestHolder}
use Rattle.weights.proofs.UnrootedClusters.{unrooted_once, without-root, of_without_root}
use Rattle.weights.proofs.Tops.{Top, among-tops, tops-among, tops-once, drawn-counts, drawn-tops}

-- ---- sets of species

-- what lies within two sets lies within what is in both
within_both : (x a b : ℕ) → Within x a → Within x b → Within x (bit_and a b)
within_both x a b w u = within_of_has x (bit_and a b) (λ i h. and_has a b i (has_of_within x a i w h) (has_of_within x b i u h))

-- what lies within y is apart from the complement of y
pub apart_minus : (s x y : ℕ) → Within y s → Within x y → Apart x (s - y)
apart_minus s x y v w = apart_of_has x (s - y) (λ i h k. (has_minus s y i v k).1 (has_of_within x y i w h))

-- complements the other way round
minus_turns : (s y z : ℕ) → Within y s → Within z s → Within y z → Within (s - z) (s - y)
minus_turns s y z v u w =
    within_of_has (s - z) (s - y) (λ i h. let k = has_minus s z i u h in minus_has s y i v k.0 (λ m. k.1 (has_of_within y z i w m)))

-- where nothing of s is outside A, A holds it
pub none_outside : (a s : ℕ) → s - bit_and a s ≡ 0 → Within s a
none_outside a s e =
    let same : bit_and a s ≡ s = omega (arith, within-le (part_and a s)) in
    subst (λ (x : ℕ). Within x a) same (and_part a s)

never-apart : (x y i : ℕ) → Has x i → Has y i → Nested x y → Within x y ⊎ Within y x
never-apart x y i h k (inl d) = absurd (has_of_apart x y i d h k)
never-apart x y i h k (inr w) = w

-- ---- a valid gene record

module _ {b s : ℕ} {g : List ℕ} (v : ValidFor b s g) where
  -- each has a species and lies within the whole set
  pub unrooted_inside : (x : ℕ) → Among x (unrooted_clusters g) → (1 ≤ x) × Within x s
  unrooted_inside x m = go (without-root v m)
    where
      go : WithoutRoot s (listed g) x → (1 ≤ x) × Within x s
      go (inl k) = v.inside x k
      go (inr c) =
          let w = (v.inside c.of c.among).1 in
          rw c.is (minus_some w c.other, minus_within s c.of w)

  -- where A holds the whole set, that alone is maximal
  pub held-top : (a : ℕ) → Within s a → (x : ℕ) → Top (unrooted_clusters g) a x → x ≡ s
  held-top a w x t = t.greatest s (of_without_root v (inl v.all)) w (unrooted_inside x t.among).1

  pub unrooted_held : (a : ℕ) → Within s a → k_drawn (unrooted_clusters g) a ≡ 1
  unrooted_held a w =
      drawn-counts (unrooted_clusters g) a (s ∷ []) (unrooted_once g) (none_twice_one s) (λ x t. here (held-top a w x t))
      (λ x m. subst (λ (y : ℕ). Top (unrooted_clusters g) a y) (sym (Memᴰ.eq_of_singleton m)) whole_top)
    where
      whole_top : Top (unrooted_clusters g) a s
      whole_top = record {
        among = of_without_root v (inl v.all);
        inside = w;
        greatest = λ y m u k. within_antisym k (unrooted_inside y m).1;
      }

  -- so "for the whole set, one" (#106) says nothing but what the maximal ones say
  pub k_unrooted : (a : ℕ) → k_by Unrooted g a ≡ k_drawn (unrooted_clusters g) a
  k_unrooted a = go (eqb a (largest g)) refl
    where
      go : (b : Bool) → eqb a (largest g) ≡ b → one_or b (k_drawn (unrooted_clusters g) a) ≡ k_drawn (unrooted_clusters g) a
      go true e = sym (unrooted_held a (rw (eqb-true a (largest g) e, largest_of_valid v) (within-refl s)))
      go false e = refl

  -- ---- a species i of the tree is not in A

  module _ (a i : ℕ) (of_Tree : Has s i) (not_a : Has a i → ⊥) where
    -- the cluster whose complement lies within A has it
    held-outside : (z : ℕ) → Among z (listed g) → Within (s - z) a → Has z i
    held-outside z m w = go (has_dec z i)
      where
        go : Dec (Has z i) → Has z i
        go (yes h) = h
        go (no d) = absurd (not_a (has_of_within (s - z) a i w (minus_has s z i (v.inside z m).1 of_Tree d)))

    -- a cluster of the record within A, and a complement within A
    own-beside : (x z : ℕ) → Among x (listed g) → Among z (listed g) → Within x a → Within (s - z) a → Nested x (s - z)
    own-beside x z m k w u = go (v.nested x z m k)
      where
        go : Nested x z → Nested x (s - z)
        go (inl d) = inr (inl (apart-rest s z x (v.inside z k).1 (v.inside x m).1 d))
        go (inr (inl l)) = inl (apart_minus s x z (v.inside z k).1 l)
        go (inr (inr l)) = absurd (not_a (has_of_within x a i w (has_of_within z x i l (held-outside z k u))))

    both_complements : (x z : ℕ) → Among x (listed g) → Among z (listed g) → Within (s - x) a → Within (s - z) a → Nested (s - x) (s - z)
    both_complements x z m k w u = go (never-apart x z i (held-outside x m w) (held-outside z k u) (v.nested x z m k))
      where
        go : Within x z ⊎ Within z x → Nested (s - x) (s - z)
        go (inl l) = inr (inr (minus_turns s x z (v.inside x m).1 (v.inside z k).1 l))
        go (inr l) = inr (inl (minus_turns s z x (v.inside z k).1 (v.inside x m).1 l))

    -- so any two within A are disjoint or one holds the other
    pub unrooted_nested : (x z : ℕ) → Among x (unrooted_clusters g) → Among z (unrooted_clusters g) → Within x a → Within z a → Nested x z
    unrooted_nested x z m k w u = go (without-root v m) (without-root v k)
      where
        go : WithoutRoot s (listed g) x → WithoutRoot s (listed g) z → Nested x z
        go (inl p) (inl q) = v.nested x z p q
        go (inl p) (inr d) = rw d.is (own-beside x d.of p d.among w (rw d.is at u))
        go (inr c) (inl q) = rw c.is (nested-sym z (s - c.of) (own-beside z c.of q c.among u (rw c.is at w)))
        go (inr c) (inr d) = rw (c.is, d.is) (both_complements c.of d.of c.among d.among (rw c.is at w) (rw d.is at u))

  -- ---- the smallest cluster y that holds all species outside A

  module _ (a y : ℕ) (some-outside : 1 ≤ s - bit_and a s) (h : SmallestHolder g (s - bit_and a s) y) where
    cut : Within (bit_and a s) s
    cut = part_and a s

    has-outside : (i : ℕ) → Has (s - bit_and a s) i → Has s i × (Has a i → ⊥)
    has-outside i m = let k = has_minus s (bit_and a s) i cut m in (k.0, λ l. k.1 (and_has a s i l k.0))

    outside-has : (i : ℕ) → Has s i → (Has a i → ⊥) → Has (s - bit_and a s) i
    outside-has i m f = minus_has s (bit_and a s) i cut m (λ l. f (has_and a s i l).0)

    -- one of them
    o : (i : ℕ) × Has (s - bit_and a s) i
    o = some_has (s - bit_and a s) some-outside

    y_inside : Within y s
    y_inside = (v.inside y h.among).1

    -- no cluster within A holds y
    not_held : (x : ℕ) → Within x a → Within y x → ⊥
    not_held x w u = (has-outside o.0 o.1).1 (has_of_within x a o.0 w (has_of_within y x o.0 u (has_of_within (s - bit_and a s) y o.0 h.holds o.1)))

    -- the complements within A are those of the clusters that hold y
    complement-within : Within (s - y) a
    complement-within = within_of_has (s - y) a (λ i m. go i (has_minus s y i y_inside m) (has_dec a i))
      where
        go : (i : ℕ) → Has s i × (Has y i → ⊥) → Dec (Has a i) → Has a i
        go i k (yes l) = l
        go i k (no f) = absurd (k.1 (has_of_within (s - bit_and a s) y i h.holds (outside-has i k.0 f)))

    holds_y : (z : ℕ) → Among z (listed g) → Within (s - z) a → Within y z
    holds_y z m w = go (never-apart y z o.0 (has_of_within (s - bit_and a s) y o.0 h.holds o.1) (outside_z o.0 o.1) (v.nested y z h.among m))
      where
        outside_z : (i : ℕ) → Has (s - bit_and a s) i → Has z i
        outside_z i k = let e = has-outside i k in held-outside a i e.0 e.1 z m w

        go : Within y z ⊎ Within z y → Within y z
        go (inl l) = l
        go (inr l) =
            let less = h.least z m (within_of_has (s - bit_and a s) z outside_z) in
            let same : y ≡ z = omega (arith, within-le l) in
            subst (λ (x : ℕ). Within y x) same (within-refl y)

    -- beside y: what lies within y and within the complement of a cluster that holds it has no species
    nothing-beside : (x z : ℕ) → 1 ≤ x → Within z s → Within y z → Within x y → Within x (s - z) → ⊥
    nothing-beside x z p w u l k =
        let j = some_has x p in
        (has_minus s z j.0 w (has_of_within x (s - z) j.0 k j.1)).1 (has_of_within y z j.0 u (has_of_within x y j.0 l j.1))

    -- a maximal one of the record's own within y is maximal among all
    own-top : (x : ℕ) → Top (listed g) (bit_and a y) x → Top (unrooted_clusters g) a x
    own-top x t = record {
      among = of_without_root v (inl t.among);
      inside = within_trans x (bit_and a y) a t.inside (and_part a y);
      greatest = λ z m w u. go z w u (without-root v m);
    }
      where
        within_y : Within x y
        within_y = within_trans x (bit_and a y) y t.inside (part_and a y)

        own : (z : ℕ) → Among z (listed g) → Within z a → Within x z → Nested z y → x ≡ z
        own z m w u (inl d) =
            let j = some_has x (v.inside x t.among).0 in
            absurd (has_of_apart z y j.0 d (has_of_within x z j.0 u j.1) (has_of_within x y j.0 within_y j.1))
        own z m w u (inr (inl l)) = t.greatest z m (within_both z a y w l) u
        own z m w u (inr (inr l)) = absurd (not_held z w l)

        go : (z : ℕ) → Within z a → Within x z → WithoutRoot s (listed g) z → x ≡ z
        go z w u (inl m) = own z m w u (v.nested z y m h.among)
        go z w u (inr c) =
            absurd (nothing-beside x c.of (v.inside x t.among).0 (v.inside c.of c.among).1
            (holds_y c.of c.among (rw c.is at w)) within_y (rw c.is at u))

    -- the complement of y, where it is not the whole, holds all other complements within A, and no cluster of the record within A holds it
    pub complement-top : (y ≡ s → ⊥) → Top (unrooted_clusters g) a (s - y)
    complement-top f = record {
      among = of_without_root v (inr (record { of = y; among = h.among; other = f; is = refl }));
      inside = complement-within;
      greatest = λ z m w u. go z m w u (without-root v m);
    }
      where
        own : (z : ℕ) → Within z s → Within z a → Within (s - y) z → Nested z y → s - y ≡ z
        own z m w u (inl d) = within_antisym u (apart-rest s y z y_inside m d)
        own z m w u (inr (inl l)) =
            absurd (nothing-beside (s - y) y (minus_some y_inside f) y_inside (within-refl y) (within_trans (s - y) z y u l) (within-refl (s - y)))
        own z m w u (inr (inr l)) = absurd (not_held z w l)

        go : (z : ℕ) → Among z (unrooted_clusters g) → Within z a → Within (s - y) z → WithoutRoot s (listed g) z → s - y ≡ z
        go z m w u (inl k) = own z (v.inside z k).1 w u (v.nested z y k h.among)
        go z m w u (inr c) =
            let l = (v.inside c.of c.among).1 in
            let turn = minus_turns s y c.of y_inside l (holds_y c.of c.among (rw c.is at w)) in
            within_antisym u (rw c.is turn)

    -- there are no others
    other_top : (x : ℕ) → Top (unrooted_clusters g) a x → ((y ≡ s → ⊥) × (x ≡ s - y)) ⊎ Top (listed g) (bit_and a y) x
    other_top x t = go (without-root v t.among)
      where
        is_complement : (y ≡ s → ⊥) → Within x (s - y) → (y ≡ s → ⊥) × (x ≡ s - y)
        is_complement f l = (f, t.greatest (s - y) (complement-top f).among complement-within l)

        own : Among x (listed g) → Nested x y → ((y ≡ s → ⊥) × (x ≡ s - y)) ⊎ Top (listed g) (bit_and a y) x
        own m (inl d) =
            inl (is_complement (λ e. let j = some_has x (v.inside x m).0 in has_of_apart x y j.0 d j.1 (rw e (has_of_within x s j.0 (v.inside x m).1 j.1)))
            (apart-rest s y x y_inside (v.inside x m).1 d))
        own m (inr (inl l)) =
            inr (record {
              among = m;
              inside = within_both x a y t.inside l;
              greatest = λ z k w u. t.greatest z (of_without_root v (inl k)) (within_trans z (bit_and a y) a w (and_part a y)) u;
            })
        own m (inr (inr l)) = absurd (not_held x t.inside l)

        go : WithoutRoot s (listed g) x → ((y ≡ s → ⊥) × (x ≡ s - y)) ⊎ Top (listed g) (bit_and a y) x
        go (inl m) = own m (v.nested x y m h.among)
        go (inr c) =
            let l = (v.inside c.of c.among).1 in
            let u = holds_y c.of c.among (rw c.is at t.inside) in
            inl (is_complement (λ e. c.other (within_antisym l (subst (λ (z : ℕ). Within z c.of) e u))) (rw c.is (minus_turns s y c.of y_inside l u)))

    once : NoneTwice (listed g)
    once = rising_none_twice (listed g) v.form.rising

    -- where y is the whole, no complement lies within A
    pub unrooted_whole : y ≡ s → k_drawn (unrooted_clusters g) a ≡ k_drawn (listed g) (bit_and a y)
    unrooted_whole e =
        drawn-counts (unrooted_clusters g) a (maximal_within (listed g) (bit_and a y)) (unrooted_once g) (tops-once (listed g) (bit_and a y) once)
        (λ x t. tops-among (listed g) (bit_and a y) (go x (other_top x t))) (λ x m. own-top x (among-tops (listed g) (bit_and a y) m))
        ∙ sym (drawn-tops (listed g) (bit_and a y))
      where
        go : (x : ℕ) → ((y ≡ s → ⊥) × (x ≡ s - y)) ⊎ Top (listed g) (bit_and a y) x → Top (listed g) (bit_and a y) x
        go x (inl p) = absurd (p.0 e)
        go x (inr t) = t

    -- else the complement of y is one more
    pub unrooted_part : (y ≡ s → ⊥) → k_drawn (unrooted_clusters g) a ≡ suc (k_drawn (listed g) (bit_and a y))
    unfolding NoneTwice
    unrooted_part f =
        drawn-counts (unrooted_clusters g) a ((s - y) ∷ maximal_within (listed g) (bit_and a y)) (unrooted_once g) (alone, tops-once (listed g) (bit_and a y) once)
        (λ x t. to x (other_top x t)) (λ x m. from x (Memᴰ.cases_cons m))
        ∙ ap suc (sym (drawn-tops (listed g) (bit_and a y)))
      where
        alone : Among (s - y) (maximal_within (listed g) (bit_and a y)) → ⊥
        alone m =
            let t = among-tops (listed g) (bit_and a y) m in
            nothing-beside (s - y) y (minus_some y_inside f) y_inside (within-refl y) (within_trans (s - y) (bit_and a y) y t.inside (part_and a y)) (within-refl (s - y))

        to : (x : ℕ) → ((y ≡ s → ⊥) × (x ≡ s - y)) ⊎ Top (listed g) (bit_and a y) x → Among x ((s - y) ∷ maximal_within (listed g) (bit_and a y))
        to x (inl p) = here p.1
        to x (inr t) = there (tops-among (listed g) (bit_and a y) t)

        from : (x : ℕ) → (x ≡ s - y) ⊎ Among x (maximal_within (listed g) (bit_and a y)) → Top (unrooted_clusters g) a x
        from x (inl e) = subst (λ (z : ℕ). Top (unrooted_clusters g) a z) (sym e) (complement-top f)
        from x (inr m) = own-top x (among-tops (listed g) (bit_and a y) m)

-- ---- k by the smallest cluster that holds what is outside A

module _ {width : ℕ} {g : List ℕ} (can : CountableFor width g) (a : ℕ) where
  on_largest : ValidFor width (largest g) g
  on_largest = subst (λ (s : ℕ). ValidFor width s g) (sym (largest_of_valid can.valid)) can.valid

  pub k_none_outside : largest g - bit_and a (largest g) ≡ 0 → 1 ≡ k_by Unrooted g a
  k_none_outside e = sym (k_unrooted on_largest a ∙ unrooted_held on_largest a (none_outside a (largest g) e))

  module _ {y k : ℕ} (outside : largest g - bit_and a (largest g) ≡ 0 → ⊥) (h : SmallestHolder g (largest g - bit_and a (largest g)) y)
      (counted : k ≡ k_drawn (listed g) (bit_and a y)) where
    pub k_of_whole : y ≡ largest g → k ≡ k_by Unrooted g a
    k_of_whole e = counted ∙ sym (k_unrooted on_largest a ∙ unrooted_whole on_largest a y (omega (arith, outside)) h e)

    pub k_of_part : (y ≡ largest g → ⊥) → k + 1 ≡ k_by Unrooted g a
    k_of_part f = omega (arith, counted, k_unrooted on_largest a, unrooted_part on_largest a y (omega (arith, outside)) h f)
