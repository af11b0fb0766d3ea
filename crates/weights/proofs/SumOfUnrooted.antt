-- k without a root as a difference of two numbers: how many sets of one list lie within A, less how many of another.
use Prim.Native.Nat.{ℕ, ◌+◌, ◌-◌, ◌^◌, ◌≤◌, ◌<◌}
use mathlib.Core.Path.{◌≡◌, refl, sym, ap, ◌∙◌, subst}
use mathlib.Core.Bool.{Bool, true, false, not, ◌&&◌, and-true, and-false}
use mathlib.Core.Logic.{◌⊎◌, inl, inr, ⊎_elim}
use mathlib.Core.List.Memᴰ
use mathlib.Core.List.Memᴰ.{head as here}
use mathlib.Core.List.Memᴰ.{tail as there}
use mathlib.Core.List.{List, [], ◌∷◌, ◌++◌, map}
use native.Mathlib.Decide.{ℕ_discrete}
use native.Mathlib.Omega.{arith}
use lib.Dec.{eqb}
use lib.ListN.{length}
use borrow.Author.Tests.{eqb-true, eq-eqb, ne_eqb}
use Rattle.clusters.specs.Sets.{Has, Within, Apart, within, single, union, size}
use Rattle.clusters.proofs.Members.{has_dec, has_of_within}
use Rattle.clusters.proofs.Sets.{within-refl, within_antisym, within-true, true-within, false-within, apart-sym, apart-within, apart-union, within-union_left, within-union_right, union_comm, union_assoc, union-zero, union_minus_left, minus_union, single-within, single-apart}
use Rattle.clusters.proofs.Sizes.{size-single, size_one, size-within-eq, some_of_size}
use Rattle.trees.specs.Lists.{Among, NoneTwice, keep, total}
use Rattle.trees.specs.Records.{listed, largest, Nested, ValidOn}
use Rattle.trees.specs.Drawn.{children}
use Rattle.trees.proofs.Listing.{among-keep, keep-among, none_twice_keep}
use Rattle.trees.proofs.Order.{rising_none_twice}
use Rattle.trees.proofs.Totals.{total_same}
use Rattle.trees.proofs.Children.{Hierarchy, hierarchy_of_valid, Child, among-children, children-among, together, AllApart, children_all_apart, children-together}
use Rattle.trees.proofs.MayUnroot.{Resolved}
use Rattle.trees.proofs.Redrawing.{either_side}
use Rattle.trees.proofs.UnrootingChildren.{outside-species, parent, parent_not_single}
use Rattle.weights.specs.Count.{unrooted_clusters, k_drawn, k_by, one_or}
use Rattle.weights.specs.Lineages.{one_if}
use Rattle.weights.specs.Subsets.{many, single_ones, larger_ones, plus_by, minus_by}
use Rattle.weights.specs.declared.Rooting.TheVariants.{Unrooted}
use Rattle.weights.proofs.Tops.{drawn-counts}
use Rattle.weights.proofs.UnrootedClusters.{OfUnrooted, among_unrooted, unrooted_among, unrooted_once}
use Rattle.weights.proofs.Complements.{unrooted_inside, unrooted_nested, k_unrooted, apart_minus}
use Rattle.weights.proofs.SumOfLists.{many_cons, many_append, many_map, many_total, many_same, many_none, many_kept, total_none}
use Rattle.weights.proofs.SumOfPairs.{Pair, Paired, large_in, pairs-sum, pairs_some}

-- ---- what stands beside one of two or three children

-- w is what the others are together with y: disjoint from it, and with it all of q
record Rest (y w q : ℕ) : Type 0 where
  disjoint : Apart y w
  all : union y w ≡ q

rest_minus : {y w q : ℕ} → Rest y w q → q - y ≡ w
rest_minus {y} {w} {q} r = ap (λ (x : ℕ). x - y) (sym r.all) ∙ union_minus_left y r.disjoint

-- the other one of two
other_of_two :
    {y q : ℕ} (l : List ℕ) → length l ≡ 2 → AllApart l → together l ≡ q → Among y l → (d : ℕ) × Among d l × Rest y d q
unfolding AllApart together
other_of_two [] n p e m = absurd (omega arith)
other_of_two (c ∷ []) n p e m = absurd (omega arith)
other_of_two {y} {q} (c ∷ d ∷ []) n p e m = go (Memᴰ.cases_cons m)
  where
    disjoint : Apart c d
    disjoint = subst (λ (x : ℕ). Apart c x) (union-zero d) p.0

    all : union c d ≡ q
    all = ap (union c) (sym (union-zero d)) ∙ e

    go : (y ≡ c) ⊎ Among y (d ∷ []) → (x : ℕ) × Among x (c ∷ d ∷ []) × Rest y x q
    go (inl f) = (d, there (here refl), rw f (record { disjoint = disjoint; all = all }))
    go (inr k) =
        (c, here refl, rw (Memᴰ.eq_of_singleton k) (record { disjoint = apart-sym c d disjoint; all = union_comm d c ∙ all }))
other_of_two (c ∷ d ∷ x ∷ l) n p e m = absurd (omega arith)

-- the other two of three
record OthersOf (l : List ℕ) (y q : ℕ) : Type 0 where
  one : ℕ
  two : ℕ
  one_among : Among one l
  two_among : Among two l
  apart : Apart one two
  rest : Rest y (union one two) q

others_of_three : {y q : ℕ} (l : List ℕ) → length l ≡ 3 → AllApart l → together l ≡ q → Among y l → OthersOf l y q
unfolding AllApart together
others_of_three [] n p e m = absurd (omega arith)
others_of_three (c ∷ []) n p e m = absurd (omega arith)
others_of_three (c ∷ d ∷ []) n p e m = absurd (omega arith)
others_of_three {y} {q} (c ∷ d ∷ x ∷ []) n p e m = go (Memᴰ.cases_cons m)
  where
    de : Apart d x
    de = subst (λ (u : ℕ). Apart d u) (union-zero x) p.1.0

    c_de : Apart c (union d x)
    c_de = subst (λ (u : ℕ). Apart c (union d u)) (union-zero x) p.0

    all : union c (union d x) ≡ q
    all = ap (λ (u : ℕ). union c (union d u)) (sym (union-zero x)) ∙ e

    cd : Apart c d
    cd = apart-sym d c (apart-within d (union d x) c (within-union_left d x) (apart-sym c (union d x) c_de))

    cx : Apart c x
    cx = apart-sym x c (apart-within x (union d x) c (within-union_right d x) (apart-sym c (union d x) c_de))

    later : (y ≡ d) ⊎ Among y (x ∷ []) → OthersOf (c ∷ d ∷ x ∷ []) y q
    later (inl f) = record {
      one = c;
      two = x;
      one_among = here refl;
      two_among = there (there (here refl));
      apart = cx;
      rest = rw f (record {
        disjoint = apart-union d c x (apart-sym c d cd) de;
        all = sym (union_assoc d c x) ∙ ap (λ (u : ℕ). union u x) (union_comm d c) ∙ union_assoc c d x ∙ all;
      });
    }
    later (inr k) = record {
      one = c;
      two = d;
      one_among = here refl;
      two_among = there (here refl);
      apart = cd;
      rest = rw (Memᴰ.eq_of_singleton k) (record {
        disjoint = apart-union x c d (apart-sym c x cx) (apart-sym d x de);
        all = union_comm x (union c d) ∙ union_assoc c d x ∙ all;
      });
    }

    go : (y ≡ c) ⊎ Among y (d ∷ x ∷ []) → OthersOf (c ∷ d ∷ x ∷ []) y q
    go (inl f) = record {
      one = d;
      two = x;
      one_among = there (here refl);
      two_among = there (there (here refl));
      apart = de;
      rest = rw f (record { disjoint = c_de; all = all });
    }
    go (inr k) = later (Memᴰ.cases_cons k)
others_of_three (c ∷ d ∷ x ∷ z ∷ l) n p e m = absurd (omega arith)

first_of : (l : List ℕ) → length l ≡ 2 → (c : ℕ) × Among c l
first_of [] n = absurd (omega arith)
first_of (c ∷ l) n = (c, here refl)

-- ---- the singles of a list that has each single species of z

-- within A there are as many as A has species
singles-within :
    (l : List ℕ) (a : ℕ) → NoneTwice l → ((x : ℕ) → Among x l → size x ≡ 1) → ((i : ℕ) → Has a i → Among (single i) l) → many (λ x. within x a) l ≡ size a
unfolding many large_in
singles-within l a once one every =
    omega (
      arith,
      drawn-counts l a (keep (λ x. within x a) l) once (none_twice_keep (λ x. within x a) l once)
          (λ x t. keep-among (λ x. within x a) l t.among (true-within x a t.inside))
          (λ x m. let k = among-keep (λ x. within x a) l m in record {
            among = k.0;
            inside = within-true x a k.1;
            greatest = λ y n w u. size-within-eq u (one x k.0 ∙ sym (one y n));
          }),
      pairs-sum alone a (within-refl a),
      many_none (large_in a) l (λ y m. rw (eq-eqb (size y) 1 (one y m)) refl),
    )
  where
    alone : Paired l a
    alone = record {
      once = once;
      filled = λ x m. some_of_size (omega (arith, one x m));
      singles = every;
      nested = λ x y m k w u. let i = size_one (one x m) in apart_or_within x y i.0 i.1 (has_dec y i.0);
      pairs = λ x m w more. absurd (more (one x m));
    }
      where
        apart_or_within : (x y i : ℕ) → x ≡ single i → Dec (Has y i) → Nested x y
        apart_or_within x y i e (yes h) = inr (inl (rw e (single-within y i h)))
        apart_or_within x y i e (no f) = inl (rw e (single-apart y i f))

-- ---- a record that may be counted without a root

module _ {g : List ℕ} (v : ValidOn (largest g) g) (small : largest g < 2 ^ 16)
    (resolved : (p : ℕ) → Among p (listed g) → Resolved (listed g) (largest g) p) where
  tree : Hierarchy (largest g) (listed g)
  tree = hierarchy_of_valid v small

  own : {x : ℕ} → Among x (listed g) → Among x (unrooted_clusters g)
  own m = unrooted_among g v.form (inl m)

  -- each larger cluster of the record but the whole is two others together
  own_pair : (x : ℕ) → Among x (listed g) → (x ≡ largest g → ⊥) → (size x ≡ 1 → ⊥) → Pair (unrooted_clusters g) x
  own_pair x m other more = go (resolved x m)
    where
      go : Resolved (listed g) (largest g) x → Pair (unrooted_clusters g) x
      go (inl (inl e)) = absurd (more e)
      go (inl (inr n)) =
          let c = first_of (children (listed g) x) n in
          let d = other_of_two (children (listed g) x) n (children_all_apart tree x) (children-together tree m more) c.1 in
          record {
            left = c.0;
            right = d.0;
            left_among = own (among-children (listed g) x c.1).among;
            right_among = own (among-children (listed g) x d.1).among;
            disjoint = d.2.disjoint;
            together = d.2.all;
          }
      go (inr e) = absurd (other e.0)

  -- and so is each larger complement: of the other children of a node, or of one and what is outside the node
  complement-pair : (y : ℕ) → Among y (listed g) → (y ≡ largest g → ⊥) → (size (largest g - y) ≡ 1 → ⊥) → Pair (unrooted_clusters g) (largest g - y)
  complement-pair y m other more = let q = parent tree y m other in go q.0 q.1 q.2 (resolved q.0 q.1) (ℕ_discrete q.0 (largest g))
    where
      in_whole : (q : ℕ) → Among q (listed g) → Within q (largest g)
      in_whole q k = (v.inside q k).1

      all_of : (q : ℕ) → Among q (listed g) → Child (listed g) q y → together (children (listed g) q) ≡ q
      all_of q k c = children-together tree k (parent_not_single tree k c)

      below :
          (q : ℕ) → Among q (listed g) → (q ≡ largest g → ⊥) → (d : ℕ) → Child (listed g) q y → Child (listed g) q d → Rest y d q
          → Pair (unrooted_clusters g) (largest g - y)
      below q k n d c e r =
          let w = in_whole q k in
          let beside : Rest y (union d (largest g - q)) (largest g) = record {
            disjoint = apart-union y d (largest g - q) r.disjoint (apart_minus (largest g) y q w c.inside);
            all = sym (union_assoc y d (largest g - q)) ∙ ap (λ (u : ℕ). union u (largest g - q)) r.all ∙ minus_union q w;
          } in
          record {
            left = d;
            right = largest g - q;
            left_among = own e.among;
            right_among = unrooted_among g v.form (inr (record { of = q; among = k; other = n; is = refl }));
            disjoint = apart_minus (largest g) d q w e.inside;
            together = sym (rest_minus beside);
          }

      go :
          (q : ℕ) → Among q (listed g) → Child (listed g) q y → Resolved (listed g) (largest g) q → Dec (q ≡ largest g)
          → Pair (unrooted_clusters g) (largest g - y)
      go q k c (inl (inl e)) d = absurd (parent_not_single tree k c e)
      go q k c (inl (inr n)) (no d) =
          let o = other_of_two (children (listed g) q) n (children_all_apart tree q) (all_of q k c) (children-among (listed g) q c) in
          below q k d o.0 c (among-children (listed g) q o.1) o.2
      go q k c (inl (inr n)) (yes e) =
          let o = other_of_two (children (listed g) q) n (children_all_apart tree q) (all_of q k c) (children-among (listed g) q c) in
          let d = among-children (listed g) q o.1 in
          let is : largest g - y ≡ o.0 = ap (λ (u : ℕ). u - y) (sym e) ∙ rest_minus o.2 in
          rw is (own_pair o.0 d.among (λ f. d.other (f ∙ sym e)) (λ f. more (ap size is ∙ f)))
      go q k c (inr e) d =
          let o = others_of_three (children (listed g) q) e.1 (children_all_apart tree q) (all_of q k c) (children-among (listed g) q c) in
          record {
            left = o.one;
            right = o.two;
            left_among = own (among-children (listed g) q o.one_among).among;
            right_among = own (among-children (listed g) q o.two_among).among;
            disjoint = o.apart;
            together = sym (ap (λ (u : ℕ). u - y) (sym e.0) ∙ rest_minus o.rest);
          }

  -- ---- a set A that lies within the whole and is not the whole

  module _ (a : ℕ) (part : Within a (largest g)) (other : a ≡ largest g → ⊥) where
    off : Within (largest g) a → ⊥
    off w = other (within_antisym part w)

    unrooted_pairs : Paired (unrooted_clusters g) a
    unrooted_pairs = record {
      once = unrooted_once g;
      filled = λ x m. (unrooted_inside v x m).0;
      singles = λ i h. own (v.singles i (has_of_within a (largest g) i part h));
      nested = λ x y m k. let i = outside-species (largest g) a off in unrooted_nested v a i.0 i.1 i.2 x y m k;
      pairs = λ x m w more. go x w more (among_unrooted g m);
    }
      where
        go : (x : ℕ) → Within x a → (size x ≡ 1 → ⊥) → OfUnrooted g x → Pair (unrooted_clusters g) x
        go x w more (inl m) = own_pair x m (λ e. off (rw e at w)) more
        go x w more (inr c) = rw c.is (complement-pair c.of c.among c.other (λ e. more (ap size c.is ∙ e)))

    -- the larger clusters within A
    larger_inside : many (λ x. within x a) (larger_ones g) ≡ many (large_in a) (unrooted_clusters g)
    unfolding larger_ones large_in
    larger_inside =
        many_kept (λ x. within x a) (λ x. not (eqb (size x) 1) && not (eqb x (largest g))) (unrooted_clusters g)
        ∙ many_same (λ x. (not (eqb (size x) 1) && not (eqb x (largest g))) && within x a) (large_in a) (unrooted_clusters g) (λ x m. same x (within x a) refl)
      where
        same : (x : ℕ) (b : Bool) → within x a ≡ b → ((not (eqb (size x) 1) && not (eqb x (largest g))) && b) ≡ (not (eqb (size x) 1) && b)
        same x true e = rw (ne_eqb x (largest g) (λ d. off (rw d at (within-true x a e)))) (ap (λ (c : Bool). c && true) (and-true (not (eqb (size x) 1))))
        same x false e = and-false (not (eqb (size x) 1) && not (eqb x (largest g))) ∙ sym (and-false (not (eqb (size x) 1)))

  -- ---- the law

  single_one : {x : ℕ} → Among x (single_ones g) → Among x (listed g) × (size x ≡ 1)
  unfolding single_ones
  single_one {x} m = let k = among-keep (λ p. eqb (size p) 1) (listed g) m in (k.0, eqb-true (size x) 1 k.1)

  -- the single species within A are as many as A has
  singles-inside : (a : ℕ) → Within a (largest g) → many (λ x. within x a) (single_ones g) ≡ size a
  unfolding single_ones
  singles-inside a part =
      singles-within (single_ones g) a (none_twice_keep (λ p. eqb (size p) 1) (listed g) (rising_none_twice (listed g) v.form.rising))
      (λ x m. (single_one m).1)
      (λ i h. keep-among (λ p. eqb (size p) 1) (listed g) (v.singles i (has_of_within a (largest g) i part h)) (eq-eqb (size (single i)) 1 (size-single i)))

  larger_of : (x : ℕ) → Among x (larger_ones g) → (1 ≤ x) × Within x (largest g)
  unfolding larger_ones
  larger_of x m = unrooted_inside v x (among-keep (λ x. not (eqb (size x) 1) && not (eqb x (largest g))) (unrooted_clusters g) m).0

  single_of : (x : ℕ) → Among x (single_ones g) → (1 ≤ x) × Within x (largest g)
  single_of x m = v.inside x (single_one m).0

  -- how many of the list lie within A, and how often the whole is there instead
  many_plus :
      (a : ℕ) → many (λ x. within x a) (plus_by Unrooted g)
      ≡ one_if (within (largest g) a) + (many (λ x. within x a) (single_ones g) + total (map (λ x. one_if (within (largest g) a)) (larger_ones g)))
  unfolding plus_by
  many_plus a =
      many_cons (λ x. within x a) (largest g) (single_ones g ++ map (λ x. largest g) (larger_ones g))
      ∙ ap (λ (n : ℕ). one_if (within (largest g) a) + n)
      (many_append (λ x. within x a) (single_ones g) (map (λ x. largest g) (larger_ones g))
      ∙ ap (λ (n : ℕ). many (λ x. within x a) (single_ones g) + n) (many_map (λ x. within x a) (λ x. largest g) (larger_ones g)))

  many_minus :
      (a : ℕ) → many (λ x. within x a) (minus_by Unrooted g)
      ≡ many (λ x. within x a) (larger_ones g) + total (map (λ x. one_if (within (largest g) a)) (single_ones g))
  unfolding minus_by
  many_minus a =
      many_append (λ x. within x a) (larger_ones g) (map (λ x. largest g) (single_ones g))
      ∙ ap (λ (n : ℕ). many (λ x. within x a) (larger_ones g) + n) (many_map (λ x. within x a) (λ x. largest g) (single_ones g))

  -- all lie within the whole
  many_whole :
      (l : List ℕ) → ((x : ℕ) → Among x l → (1 ≤ x) × Within x (largest g))
      → many (λ x. within x (largest g)) l ≡ total (map (λ x. one_if (within (largest g) (largest g))) l)
  many_whole l f =
      many_total (λ x. within x (largest g)) l
      ∙ total_same (λ x. one_if (within x (largest g))) (λ x. one_if (within (largest g) (largest g))) l
      (λ x m. ap one_if (true-within x (largest g) (f x m).1 ∙ sym (true-within (largest g) (largest g) (within-refl (largest g)))))

  whole_sum : k_by Unrooted g (largest g) + many (λ x. within x (largest g)) (minus_by Unrooted g) ≡ many (λ x. within x (largest g)) (plus_by Unrooted g)
  whole_sum =
      omega (
        arith,
        many_plus (largest g),
        many_minus (largest g),
        many_whole (single_ones g) single_of,
        many_whole (larger_ones g) larger_of,
        ap one_if (true-within (largest g) (largest g) (within-refl (largest g))),
        ap (λ (b : Bool). one_or b (k_drawn (unrooted_clusters g) (largest g))) (eq-eqb (largest g) (largest g) refl),
      )

  part-sum :
      (a : ℕ) → Within a (largest g) → (a ≡ largest g → ⊥)
      → k_by Unrooted g a + many (λ x. within x a) (minus_by Unrooted g) ≡ many (λ x. within x a) (plus_by Unrooted g)
  part-sum a part other =
      let none = ap one_if (false-within (largest g) a (off a part other)) in
      omega (
        arith,
        many_plus a,
        many_minus a,
        none,
        total_none (λ x. one_if (within (largest g) a)) (larger_ones g) (λ x m. none),
        total_none (λ x. one_if (within (largest g) a)) (single_ones g) (λ x m. none),
        singles-inside a part,
        larger_inside a part other,
        pairs-sum (unrooted_pairs a part other) a (within-refl a),
        k_unrooted v a,
      )

  -- k of A, with the sets taken off that lie within A, is the number of the others there
  pub k_unrooted_sum :
      (a : ℕ) → Within a (largest g) → k_by Unrooted g a + many (λ x. within x a) (minus_by Unrooted g) ≡ many (λ x. within x a) (plus_by Unrooted g)
  k_unrooted_sum a part = go (ℕ_discrete a (largest g))
    where
      go : Dec (a ≡ largest g) → k_by Unrooted g a + many (λ x. within x a) (minus_by Unrooted g) ≡ many (λ x. within x a) (plus_by Unrooted g)
      go (yes e) =
          subst (λ (a : ℕ). k_by Unrooted g a + many (λ x. within x a) (minus_by Unrooted g) ≡ many (λ x. within x a) (plus_by Unrooted g)) (sym e) whole_sum
      go (no d) = part-sum a part d

  -- at least 1 where A has a species
  pub k_unrooted_some : (a : ℕ) → 1 ≤ a → Within a (largest g) → 1 ≤ k_by Unrooted g a
  k_unrooted_some a some part = go (ℕ_discrete a (largest g))
    where
      go : Dec (a ≡ largest g) → 1 ≤ k_by Unrooted g a
      go (yes e) = omega (arith, ap (λ (b : Bool). one_or b (k_drawn (unrooted_clusters g) a)) (eq-eqb a (largest g) e))
      go (no d) = omega (arith, k_unrooted v a, pairs_some (unrooted_pairs a part d) a some (within-refl a))

  -- ---- where the sets lie

  whole_of : (1 ≤ largest g) × Within (largest g) (largest g)
  whole_of = v.inside (largest g) v.all

  -- those of a list, and the whole as often as another is long
  among_both :
      {x : ℕ} (l k : List ℕ) → ((y : ℕ) → Among y l → (1 ≤ y) × Within y (largest g)) → Among x (l ++ map (λ y. largest g) k) → (1 ≤ x) × Within x (largest g)
  among_both {x} l k f m =
      either_side l (map (λ y. largest g) k) (λ h. f x h)
      (λ h. subst (λ (z : ℕ). (1 ≤ z) × Within z (largest g)) (Memᴰ.of_map (λ (y : ℕ). largest g) k h).2 whole_of) m

  -- each set that is counted has a species, and is of the tree
  pub plus_unrooted_of : (x : ℕ) → Among x (plus_by Unrooted g) → (1 ≤ x) × Within x (largest g)
  unfolding plus_by
  plus_unrooted_of x m =
      ⊎_elim (λ e. subst (λ (z : ℕ). (1 ≤ z) × Within z (largest g)) (sym e) whole_of) (λ k. among_both (single_ones g) (larger_ones g) single_of k)
      (Memᴰ.cases_cons m)

  -- and so of those that are taken off
  pub minus_unrooted_of : (x : ℕ) → Among x (minus_by Unrooted g) → (1 ≤ x) × Within x (largest g)
  unfolding minus_by
  minus_unrooted_of x m = among_both (larger_ones g) (single_ones g) larger_of m
