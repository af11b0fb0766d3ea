-- Nested clusters, each a single species or two others together: the maximal ones within A are as many as A has species, less the larger clusters within A.
use Prim.Native.Nat.{ℕ, zero, suc, ◌+◌, ◌-◌, ◌≤◌, ◌<◌}
use mathlib.Core.Path.{◌≡◌, refl, sym, ap, ◌∙◌, subst}
use mathlib.Core.Bool.{Bool, true, false, not, ◌&&◌, false≢true, and-true}
use mathlib.Core.Logic.{◌⊎◌, inl, inr}
use mathlib.Core.List.Memᴰ
use mathlib.Core.List.Memᴰ.{head as here}
use mathlib.Core.List.Memᴰ.{tail as there}
use mathlib.Core.List.{List, [], ◌∷◌}
use native.Mathlib.Nat.{eq-zero-or-pos}
use native.Mathlib.Decide.{ℕ_discrete}
use native.Mathlib.Omega.{arith}
use lib.Dec.{eqb}
use borrow.Author.Tests.{eqb-true, eqb-false, eq-eqb, ne_eqb, not-true}
use Rattle.clusters.specs.Sets.{Has, Within, Apart, within, single, union, size}
use Rattle.clusters.proofs.Members.{some_has, has_of_within}
use Rattle.clusters.proofs.Sets.{within-refl, within_trans, within_antisym, within-true, true-within, within-zero, within-apart, apart-within, union_minus_left, union_minus_right, single-within, union-within, within-union_left, within-union_right, minus_within, minus_apart}
use Rattle.clusters.proofs.Sizes.{size-zero, size_some, size_minus, size-within, size-within_lt, size-within-eq, size-apart}
use Rattle.trees.specs.Lists.{Among, NoneTwice, keep, some}
use Rattle.trees.specs.Records.{Nested}
use Rattle.trees.specs.Drawn.{properly}
use Rattle.trees.proofs.Booleans.{both, unless, never_both}
use Rattle.trees.proofs.Listing.{among-keep, keep-among, some_of, of_some, none_twice_keep, none_twice_one}
use Rattle.trees.proofs.Totals.{total_same}
use Rattle.trees.proofs.Children.{properly-true, true-properly}
use Rattle.trees.proofs.MayUnroot.{apart-rest}
use Rattle.trees.proofs.ValidTest.{Tells, denied}
use Rattle.weights.specs.Count.{maximal_within, k_drawn}
use Rattle.weights.specs.Lineages.{one_if}
use Rattle.weights.specs.Subsets.{many}
use Rattle.weights.proofs.Tops.{Top, among-tops, tops-among, tops-once, drawn-tops, drawn-counts, same_length}
use Rattle.weights.proofs.SumOfLists.{many_none, many_total, total_add}

-- a cluster is two others together, which have no species in common
pub record Pair (cs : List ℕ) (x : ℕ) : Type 0 where
  pub left : ℕ
  pub right : ℕ
  pub left_among : Among left cs
  pub right_among : Among right cs
  pub disjoint : Apart left right
  pub together : union left right ≡ x

-- the clusters within z: nested, with each single species of z, and each that is larger a pair
pub record Paired (cs : List ℕ) (z : ℕ) : Type 0 where
  pub once : NoneTwice cs
  pub filled : (x : ℕ) → Among x cs → 1 ≤ x
  pub singles : (i : ℕ) → Has z i → Among (single i) cs
  pub nested : (x y : ℕ) → Among x cs → Among y cs → Within x z → Within y z → Nested x y
  pub pairs : (x : ℕ) → Among x cs → Within x z → (size x ≡ 1 → ⊥) → Pair cs x

-- y has more than one species and lies within a
unfoldable pub large_in : ℕ → ℕ → Bool
large_in a y = not (eqb (size y) 1) && within y a

record LargeIn (a y : ℕ) : Type 0 where
  more : size y ≡ 1 → ⊥
  inside : Within y a

tells_large : (a y : ℕ) → Tells (large_in a y) (LargeIn a y)
unfolding large_in
tells_large a y = record {
  holds = λ e.
      let b = both (not (eqb (size y) 1)) (within y a) e in
      record { more = eqb-false (size y) 1 (not-true (eqb (size y) 1) b.0); inside = within-true y a b.1 };
  told = λ l. rw (ne_eqb (size y) 1 l.more, true-within y a l.inside) refl;
}

-- one number of a list without doubles
many_once : (l : List ℕ) (x : ℕ) → NoneTwice l → Among x l → many (λ y. eqb y x) l ≡ 1
unfolding many
many_once l x p m =
    same_length (keep (λ y. eqb y x) l) (x ∷ []) (none_twice_keep (λ y. eqb y x) l p) (none_twice_one x)
    (λ y h. here (eqb-true y x (among-keep (λ y. eqb y x) l h).1))
    (λ y h. let e = Memᴰ.eq_of_singleton h in keep-among (λ y. eqb y x) l (subst (λ (z : ℕ). Among z l) (sym e) m) (eq-eqb y x e))

-- a number that is one of two, and not both
many_split :
    (test one other : ℕ → Bool) (l : List ℕ) → ((y : ℕ) → Among y l → one_if (test y) ≡ one_if (one y) + one_if (other y))
    → many test l ≡ many one l + many other l
many_split test one other l h =
    many_total test l ∙ total_same (λ y. one_if (test y)) (λ y. one_if (one y) + one_if (other y)) l h
    ∙ total_add (λ y. one_if (one y)) (λ y. one_if (other y)) l
    ∙ sym (omega (arith, many_total one l, many_total other l))

-- what lies within two disjoint sets has no species
nothing_in_both : (x c d : ℕ) → 1 ≤ x → Apart c d → Within x c → Within x d → ⊥
nothing_in_both x c d p a w v = omega (arith, within-apart d v (apart-within x c d w a))

module _ {cs : List ℕ} {z : ℕ} (h : Paired cs z) where
  -- a large one within one of two disjoint sets is counted there
  split_of :
      (a c d y : ℕ) → Among y cs → Apart c d → Within c a → Within d a → (LargeIn a y → Within y c ⊎ Within y d)
      → one_if (large_in a y) ≡ one_if (large_in c y) + one_if (large_in d y)
  split_of a c d y m disjoint wc wd parted = go (large_in c y) (large_in d y) refl refl
    where
      held : {b : ℕ} → Within b a → LargeIn b y → large_in a y ≡ true
      held {b} w l = (tells_large a y).told (record { more = l.more; inside = within_trans y b a l.inside w })

      go : (p q : Bool) → large_in c y ≡ p → large_in d y ≡ q → one_if (large_in a y) ≡ one_if p + one_if q
      go true true e f =
          absurd (nothing_in_both y c d (h.filled y m) disjoint ((tells_large c y).holds e).inside ((tells_large d y).holds f).inside)
      go true false e f = rw (held wc ((tells_large c y).holds e)) refl
      go false true e f = rw (held wd ((tells_large d y).holds f)) refl
      go false false e f = rw (unless (large_in a y) (λ t. let l = (tells_large a y).holds t in none l (parted l))) refl
        where
          none : LargeIn a y → Within y c ⊎ Within y d → ⊥
          none l (inl w) = denied (tells_large c y) e (record { more = l.more; inside = w })
          none l (inr w) = denied (tells_large d y) f (record { more = l.more; inside = w })

  -- ---- the larger clusters within a cluster

  -- none within a single species
  larger_single : (x : ℕ) → size x ≡ 1 → many (large_in x) cs ≡ 0
  larger_single x e =
      many_none (large_in x) cs (λ y m. unless (large_in x y) (λ t.
      let l = (tells_large x y).holds t in
      l.more (omega (arith, size-within y x l.inside, size_some (h.filled y m)))))

  module _ (x : ℕ) (m : Among x cs) (inside : Within x z) (more : size x ≡ 1 → ⊥) (p : Pair cs x) where
    left_in_lem : Within p.left x
    left_in_lem = subst (λ (y : ℕ). Within p.left y) p.together (within-union_left p.left p.right)

    right_in : Within p.right x
    right_in = subst (λ (y : ℕ). Within p.right y) p.together (within-union_right p.left p.right)

    sizes : size p.left + size p.right ≡ size x
    sizes = sym (size-apart p.left p.right p.disjoint) ∙ ap size p.together

    left_less : size p.left < size x
    left_less = omega (arith, sizes, size_some (h.filled p.right p.right_among))

    right_less : size p.right < size x
    right_less = omega (arith, sizes, size_some (h.filled p.left p.left_among))

    -- a cluster properly within x lies within one of the two
    in_one : (y : ℕ) → Among y cs → Within y x → (y ≡ x → ⊥) → Within y p.left ⊎ Within y p.right
    in_one y k w other =
        go (h.nested y p.left k p.left_among in_z (within_trans p.left x z left_in_lem inside))
        (h.nested y p.right k p.right_among in_z (within_trans p.right x z right_in inside))
      where
        in_z : Within y z
        in_z = within_trans y x z w inside

        left_rest : x - p.left ≡ p.right
        left_rest = ap (λ (u : ℕ). u - p.left) (sym p.together) ∙ union_minus_left p.left p.disjoint

        right_rest : x - p.right ≡ p.left
        right_rest = ap (λ (u : ℕ). u - p.right) (sym p.together) ∙ union_minus_right p.right p.disjoint

        go : Nested y p.left → Nested y p.right → Within y p.left ⊎ Within y p.right
        go (inl d) e = inr (subst (λ (u : ℕ). Within y u) left_rest (apart-rest x p.left y left_in_lem w d))
        go (inr (inl l)) e = inl l
        go (inr (inr l)) (inl d) = inl (subst (λ (u : ℕ). Within y u) right_rest (apart-rest x p.right y right_in w d))
        go (inr (inr l)) (inr (inl r)) = inr r
        go (inr (inr l)) (inr (inr r)) =
            absurd (other (within_antisym w (subst (λ (u : ℕ). Within u y) p.together (union-within p.left p.right y l r))))

    -- x itself, and those of each side
    larger_node : many (large_in x) cs ≡ suc (many (large_in p.left) cs + many (large_in p.right) cs)
    larger_node =
        many_split (large_in x) (λ y. eqb y x) (λ y. large_in x y && not (eqb y x)) cs (λ y k. itself (large_in x y) (eqb y x) (λ e. of_itself y (eqb-true y x e)))
        ∙ omega (
          arith,
          many_once cs x h.once m,
          many_split (λ y. large_in x y && not (eqb y x)) (large_in p.left) (large_in p.right) cs (λ y k. others y k (ℕ_discrete y x)),
        )
      where
        of_itself : (y : ℕ) → y ≡ x → large_in x y ≡ true
        of_itself y e = (tells_large x y).told (rw e (record { more = more; inside = within-refl x }))

        itself : (b c : Bool) → (c ≡ true → b ≡ true) → one_if b ≡ one_if c + one_if (b && not c)
        itself true true f = refl
        itself true false f = refl
        itself false true f = absurd (false≢true (f refl))
        itself false false f = refl

        off : (c y : ℕ) → y ≡ x → size c < size x → large_in c y ≡ false
        off c y e less = unless (large_in c y) (λ t. let l = (tells_large c y).holds t in omega (arith, size-within y c l.inside, ap size e))

        others : (y : ℕ) → Among y cs → Dec (y ≡ x) → one_if (large_in x y && not (eqb y x)) ≡ one_if (large_in p.left y) + one_if (large_in p.right y)
        others y k (yes e) = rw (eq-eqb y x e, of_itself y e, off p.left y e left_less, off p.right y e right_less) refl
        others y k (no d) =
            rw (ne_eqb y x d) (ap one_if (and-true (large_in x y))
            ∙ split_of x p.left p.right y k p.disjoint left_in_lem right_in (λ l. in_one y k l.inside d))

  -- a cluster has one species more than it has larger clusters within it
  larger_within : (n x : ℕ) → size x ≤ n → Among x cs → Within x z → suc (many (large_in x) cs) ≡ size x
  larger_within zero x few m w = absurd (omega (arith, size_some (h.filled x m)))
  larger_within (suc n) x few m w = go (ℕ_discrete (size x) 1) (λ y l k u. larger_within n y l k u)
    where
      go : Dec (size x ≡ 1) → ((y : ℕ) → size y ≤ n → Among y cs → Within y z → suc (many (large_in y) cs) ≡ size y) → suc (many (large_in x) cs) ≡ size x
      go (yes e) ih = omega (arith, larger_single x e)
      go (no more) ih =
          let p = h.pairs x m w more in
          omega (
            arith,
            larger_node x m w more p,
            sizes x m w more p,
            ih p.left (omega (arith, left_less x m w more p)) p.left_among (within_trans p.left x z (left_in_lem x m w more p) w),
            ih p.right (omega (arith, right_less x m w more p)) p.right_among (within_trans p.right x z (right_in x m w more p) w),
          )

  -- ---- the maximal ones within A

  -- what lies within A lies within a maximal one
  top_above : (n a x : ℕ) → size a ≤ size x + n → Among x cs → Within x a → (t : ℕ) × Top cs a t
  top_above zero a x full m w = (
    x,
    record {
      among = m;
      inside = w;
      greatest = λ y k v u. size-within-eq u (omega (arith, size-within x y u, size-within y a v));
    },
  )
  top_above (suc n) a x full m w = go (some (λ y. properly x y && within y a) cs) refl (λ y l k u. top_above n a y l k u)
    where
      go :
          (b : Bool) → some (λ y. properly x y && within y a) cs ≡ b
          → ((y : ℕ) → size a ≤ size y + n → Among y cs → Within y a → (t : ℕ) × Top cs a t) → (t : ℕ) × Top cs a t
      go true e ih =
          let y = of_some (λ y. properly x y && within y a) cs e in
          let k = both (properly x y.0) (within y.0 a) y.2 in
          let p = properly-true x y.0 k.0 in
          ih y.0 (omega (arith, size-within_lt x y.0 p.0 p.1)) y.1 (within-true y.0 a k.1)
      go false e ih = (x, record { among = m; inside = w; greatest = λ y k v u. same y k v u (ℕ_discrete x y) })
        where
          same : (y : ℕ) → Among y cs → Within y a → Within x y → Dec (x ≡ y) → x ≡ y
          same y k v u (yes q) = q
          same y k v u (no d) =
              absurd (never_both (some (λ y. properly x y && within y a) cs)
              (some_of (λ y. properly x y && within y a) cs k (rw (true-properly x y u d, true-within y a v) refl)) e)

  module _ (a x : ℕ) (in_z : Within a z) (t : Top cs a x) where
    -- a cluster within A lies within the maximal one or beside it
    beside : (y : ℕ) → Among y cs → Within y a → Within y x ⊎ Within y (a - x)
    beside y m w = go (h.nested y x m t.among (within_trans y a z w in_z) (within_trans x a z t.inside in_z))
      where
        go : Nested y x → Within y x ⊎ Within y (a - x)
        go (inl d) = inr (apart-rest a x y t.inside w d)
        go (inr (inl l)) = inl l
        go (inr (inr l)) = inl (subst (λ (u : ℕ). Within u x) (t.greatest y m w l) (within-refl x))

    not_both : (y : ℕ) → Among y cs → Within y x → Within y (a - x) → ⊥
    not_both y m w u = nothing_in_both y x (a - x) (h.filled y m) (minus_apart a x t.inside) w u

    -- so the maximal ones are x and those within what it leaves of A
    top_taken : k_drawn cs a ≡ suc (k_drawn cs (a - x))
    unfolding NoneTwice
    top_taken =
        drawn-counts cs a (x ∷ maximal_within cs (a - x)) h.once
        (λ m. let u = among-tops cs (a - x) m in not_both x t.among (within-refl x) u.inside, tops-once cs (a - x) h.once)
        (λ y u. to y u (beside y u.among u.inside)) (λ y m. from y (Memᴰ.cases_cons m))
        ∙ ap suc (sym (drawn-tops cs (a - x)))
      where
        wider : (y : ℕ) → Within y (a - x) → Within y a
        wider y w = within_trans y (a - x) a w (minus_within a x t.inside)

        to : (y : ℕ) → Top cs a y → Within y x ⊎ Within y (a - x) → Among y (x ∷ maximal_within cs (a - x))
        to y u (inl w) = here (u.greatest x t.among t.inside w)
        to y u (inr w) =
            there (tops-among cs (a - x) (record { among = u.among; inside = w; greatest = λ v k l q. u.greatest v k (wider v l) q }))

        back : (y : ℕ) → Top cs (a - x) y → Top cs a y
        back y u = record { among = u.among; inside = wider y u.inside; greatest = λ v k l q. go v k l q (beside v k l) }
          where
            go : (v : ℕ) → Among v cs → Within v a → Within y v → Within v x ⊎ Within v (a - x) → y ≡ v
            go v k l q (inl w) = absurd (not_both y u.among (within_trans y v x q w) u.inside)
            go v k l q (inr w) = u.greatest v k w q

        from : (y : ℕ) → (y ≡ x) ⊎ Among y (maximal_within cs (a - x)) → Top cs a y
        from y (inl e) = subst (λ (u : ℕ). Top cs a u) (sym e) t
        from y (inr m) = back y (among-tops cs (a - x) m)

    larger_taken : many (large_in a) cs ≡ many (large_in x) cs + many (large_in (a - x)) cs
    larger_taken =
        many_split (large_in a) (large_in x) (large_in (a - x)) cs (λ y m.
        split_of a x (a - x) y m (minus_apart a x t.inside) t.inside (minus_within a x t.inside) (λ l. beside y m l.inside))

  -- nothing lies within the empty set
  none_in_zero : k_drawn cs 0 + many (large_in 0) cs ≡ size 0
  unfolding NoneTwice
  none_in_zero =
      let empty : (y : ℕ) → Among y cs → Within y 0 → ⊥ = λ y m w. omega (arith, h.filled y m, within-zero w) in
      omega (
        arith,
        drawn-counts cs 0 [] h.once tt (λ y t. absurd (empty y t.among t.inside)) (λ y m. absurd (Memᴰ.not-nil m)),
        many_none (large_in 0) cs (λ y m. unless (large_in 0 y) (λ e. empty y m ((tells_large 0 y).holds e).inside)),
        size-zero,
      )

  -- a maximal one within a set that has species
  top_of : (a : ℕ) → 1 ≤ a → Within a z → (t : ℕ) × Top cs a t
  top_of a p w =
      let i = some_has a p in
      top_above (size a) a (single i.0) (omega arith) (h.singles i.0 (has_of_within a z i.0 w i.1)) (single-within a i.0 i.1)

  pairs_to : (n a : ℕ) → size a ≤ n → Within a z → k_drawn cs a + many (large_in a) cs ≡ size a
  pairs_to zero a few w = go (eq-zero-or-pos a)
    where
      go : (a ≡ 0) ⊎ (0 < a) → k_drawn cs a + many (large_in a) cs ≡ size a
      go (inl e) = rw e none_in_zero
      go (inr p) = absurd (omega (arith, size_some p))
  pairs_to (suc n) a few w = go (eq-zero-or-pos a) (λ b l u. pairs_to n b l u)
    where
      go : (a ≡ 0) ⊎ (0 < a) → ((b : ℕ) → size b ≤ n → Within b z → k_drawn cs b + many (large_in b) cs ≡ size b) → k_drawn cs a + many (large_in a) cs ≡ size a
      go (inl e) ih = rw e none_in_zero
      go (inr p) ih =
          let x = top_of a p w in
          let t = x.1 in
          let sizes = size_minus a x.0 t.inside in
          let one = larger_within (size x.0) x.0 (omega arith) t.among (within_trans x.0 a z t.inside w) in
          let rest = ih (a - x.0) (omega (arith, size_some (h.filled x.0 t.among)))
          (within_trans (a - x.0) a z (minus_within a x.0 t.inside) w) in
          omega (arith, top_taken a x.0 w t, larger_taken a x.0 w t)

  -- the maximal ones within A and the larger ones within A are together as many as A has species
  pub pairs-sum : (a : ℕ) → Within a z → k_drawn cs a + many (large_in a) cs ≡ size a
  pairs-sum a w = pairs_to (size a) a (omega arith) w

  -- some is maximal within a set that has species
  pub pairs_some : (a : ℕ) → 1 ≤ a → Within a z → 1 ≤ k_drawn cs a
  pairs_some a p w = let x = top_of a p w in omega (arith, top_taken a x.0 w x.1)
