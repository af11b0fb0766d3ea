-- The weights of all clusters by sums over subsets (#109): the weight of A from how many sets of two lists lie within A, and so from two transformed tables.
use Prim.Native.Nat.{ℕ, ◌+◌, ◌-◌, ◌%◌, ◌^◌, ◌≤◌, ◌<◌, min}
use mathlib.Core.Path.{◌≡◌, refl, sym, ap, ◌∙◌, subst}
use mathlib.Core.Bool.{Bool, true, false}
use mathlib.Core.List.Memᴰ
use mathlib.Core.List.Memᴰ.{head as here}
use mathlib.Core.List.Memᴰ.{tail as there}
use mathlib.Core.List.{List, [], ◌∷◌, Memᴰ}
use native.Mathlib.Omega.{arith}
use lib.ListN.{length, get_or, length-map}
use Rattle.clusters.specs.Sets.{Within, Apart, within, apart, whole}
use Rattle.clusters.proofs.Sets.{within_whole, whole_below, within-apart, apart-sym, apart-within, apart-true, apart-false, false-apart, false-within, minus_apart, within-below}
use Rattle.trees.specs.Lists.{Among}
use Rattle.trees.specs.Records.{listed, largest, GeneValidFor, GeneValid, AllValidFor, AllValid}
use Rattle.trees.specs.Unrooted.{may_unroot}
use Rattle.trees.proofs.Bounds.{whole_below_sixteen}
use Rattle.trees.proofs.Breadth.{Small}
use Rattle.trees.proofs.Children.{hierarchy_of_valid}
use Rattle.trees.proofs.GeneRecords.{gene-small, species_of_gene}
use Rattle.trees.proofs.MayUnroot.{apart-rest, Resolved, rooted-resolved, may_unroot_drawn}
use Rattle.trees.proofs.ValidTest.{tells_within, tells_apart}
use Rattle.weights.specs.Count.{extra, weight}
use Rattle.weights.specs.Lineages.{one_if}
use Rattle.weights.specs.Subsets.{many, gathered, plus_by, minus_by, plus_all, minus_all, whole_sets, modulus, Differences, zeta}
use Rattle.weights.specs.declared.Rooting.{Rooting}
use Rattle.weights.specs.declared.Rooting.TheVariants.{Rooted, Unrooted}
use Rattle.weights.proofs.Joining.{tells_same}
use Rattle.weights.proofs.Sums.{weight_none, weight_cons, none_weigh_nothing, weight_most, valid-countable}
use Rattle.weights.proofs.Lost.{apart_adds_nothing, met_adds_k_less_one}
use Rattle.weights.proofs.SumOfLists.{many_nil, many_cons, many_append, many_same, many_none, among-gathered}
use Rattle.weights.proofs.SumOfRooted.{k_rooted_sum, plus_rooted_of, minus_rooted_of}
use Rattle.weights.proofs.SumOfUnrooted.{k_unrooted_sum, k_unrooted_some, plus_unrooted_of, minus_unrooted_of}
use Rattle.weights.proofs.Zeta.{zeta_of_lists, told_by_remainders}

-- ---- one gene record

module _ {b n : ℕ} {g : List ℕ} (few : n ≤ min b 32) (v : GeneValidFor b n g) (a : ℕ) where
  -- sets of the tree do not lie within what is apart from it
  none_apart : (l : List ℕ) → ((x : ℕ) → Among x l → (1 ≤ x) × Within x (largest g)) → Apart (largest g) a → many (λ x. within x a) l ≡ 0
  none_apart l f d =
      many_none (λ x. within x a) l (λ x m.
      let k = f x m in false-within x a (λ w. omega (arith, within-apart a w (apart-within x (largest g) a k.1 d))))

  -- with a root: the extra lineages of A, one, and the sets taken off that lie within A are as many as the sets counted that lie within A, and one where the tree has no species of A
  pub rooted-extra : extra Rooted g a + 1 + many (λ x. within x a) (minus_by Rooted g) ≡ many (λ x. within x a) (plus_by Rooted g) + one_if (apart (largest g) a)
  rooted-extra = go (apart (largest g) a) refl
    where
      small : Small b (largest g)
      small = gene-small few v

      none_counted : Apart (largest g) a → many (λ x. within x a) (plus_by Rooted g) ≡ 0
      none_counted d = none_apart (plus_by Rooted g) (plus_rooted_of v.valid small) d

      go : (b : Bool) → apart (largest g) a ≡ b
          → extra Rooted g a + 1 + many (λ x. within x a) (minus_by Rooted g) ≡ many (λ x. within x a) (plus_by Rooted g) + one_if b
      go true e =
          let d = apart-true (largest g) a e in
          omega (arith, k_rooted_sum v.valid small a, none_counted d, apart_adds_nothing few v a (apart-sym (largest g) a d))
      go false e =
          omega (arith, k_rooted_sum v.valid small a, met_adds_k_less_one few v a (λ d. apart-false (largest g) a e (apart-sym a (largest g) d)))

module _ {n : ℕ} {g : List ℕ} (few : n ≤ 16) (v : GeneValid n g) where
  small : largest g < 2 ^ 16
  small = gene-small few v

  -- one that may be counted without a root is complete, and each of its sets has two children, the whole two or three
  entered : may_unroot n g ≡ true → (largest g ≡ whole n) × ((p : ℕ) → Among p (listed g) → Resolved (listed g) (largest g) p)
  entered e =
      let d = (may_unroot_drawn few v).holds e in (
        d.0,
        subst (λ (s : ℕ). (p : ℕ) → Among p (listed g) → Resolved (listed g) s p) (sym d.0)
            ((rooted-resolved (hierarchy_of_valid (species_of_gene v d.0) (whole_below_sixteen n few))).0 d.1),
      )

  -- each set that is counted or taken off has a species, and is of the tree
  plus_of : (rooting : Rooting) → (rooting ≡ Unrooted → may_unroot n g ≡ true) → (x : ℕ) → Among x (plus_by rooting g) → (1 ≤ x) × Within x (largest g)
  plus_of Rooted enter x m = plus_rooted_of v.valid small x m
  plus_of Unrooted enter x m = plus_unrooted_of v.valid small (entered (enter refl)).1 x m

  minus_of : (rooting : Rooting) → (rooting ≡ Unrooted → may_unroot n g ≡ true) → (x : ℕ) → Among x (minus_by rooting g) → (1 ≤ x) × Within x (largest g)
  minus_of Rooted enter x m = minus_rooted_of v.valid small x m
  minus_of Unrooted enter x m = minus_unrooted_of v.valid small (entered (enter refl)).1 x m

  -- and without a root, of A within the whole set
  extra-sum :
      (a : ℕ) (rooting : Rooting) → (rooting ≡ Unrooted → may_unroot n g ≡ true) → 1 ≤ a → a < 2 ^ n
      → extra rooting g a + 1 + many (λ x. within x a) (minus_by rooting g) ≡ many (λ x. within x a) (plus_by rooting g) + one_if (apart (largest g) a)
  unfolding extra
  extra-sum a Rooted enter some below = rooted-extra few v a
  extra-sum a Unrooted enter some below =
      let e = entered (enter refl) in
      let part : Within a (largest g) = rw e.0 (within_whole n below) in
      let met = false-apart (largest g) a (λ d. omega (arith, within-apart (largest g) part (apart-sym (largest g) a d))) in
      omega (
        arith,
        k_unrooted_sum v.valid small e.1 a part,
        k_unrooted_some v.valid small e.1 a some part,
        ap one_if met,
      )

-- ---- all gene records

-- what holds of A in each gene tree, summed up: the weight of A, one for each gene tree, and the sets taken off that lie within A are as many as the sets counted that lie within A, and one for
-- each tree without species of A
pub weight-sum :
    (rooting : Rooting) (genes : List (List ℕ)) (a : ℕ)
    → ((g : List ℕ) → Memᴰ g genes
    → extra rooting g a + 1 + many (λ x. within x a) (minus_by rooting g) ≡ many (λ x. within x a) (plus_by rooting g) + one_if (apart (largest g) a))
    → weight rooting genes a + length genes + many (λ x. within x a) (minus_all rooting genes)
    ≡ many (λ x. within x a) (plus_all rooting genes) + many (λ s. apart s a) (whole_sets genes)
unfolding gathered
weight-sum rooting [] a each = omega (arith, weight_none rooting a, many_nil (λ x. within x a), many_nil (λ s. apart s a))
weight-sum rooting (g ∷ l) a each =
    omega (
      arith,
      weight_cons rooting g l a,
      many_append (λ x. within x a) (minus_by rooting g) (minus_all rooting l),
      many_append (λ x. within x a) (plus_by rooting g) (plus_all rooting l),
      many_cons (λ s. apart s a) (largest g) (whole_sets l),
      each g (here refl),
      weight-sum rooting l a (λ h m. each h (there m)),
    )

-- ---- the tables

-- what has no species of A lies within the other species
pub apart-others : (n s a : ℕ) → s < 2 ^ n → a < 2 ^ n → apart s a ≡ within s (whole n - a)
apart-others n s a l k =
    tells_same (tells_apart s a) (tells_within s (whole n - a))
    (λ d. apart-rest (whole n) a s (within_whole n k) (within_whole n l) d)
    (λ w. apart-within s (whole n - a) a w (apart-sym a (whole n - a) (minus_apart (whole n) a (within_whole n k))))

-- a number for each set of n species that three lists of such sets tell: with one for each set of the third, and those of the second that lie within A, it is as many as those of the first
-- that lie within A, and those of the third that have no species of A
pub record Summed (n : ℕ) (plus minus wholes : List ℕ) (weigh : ℕ → ℕ) : Type 0 where
  pub plus_below : (x : ℕ) → Among x plus → x < 2 ^ n
  pub minus_below : (x : ℕ) → Among x minus → x < 2 ^ n
  pub wholes_below : (x : ℕ) → Among x wholes → x < 2 ^ n
  pub none : weigh 0 ≡ 0
  pub small : (a : ℕ) → weigh a < modulus
  pub sum :
      (a : ℕ) → 1 ≤ a → a < 2 ^ n
      → weigh a + length wholes + many (λ x. within x a) minus ≡ many (λ x. within x a) plus + many (λ s. apart s a) wholes

-- a table of the first two lists and a table of the third, both transformed, tell the number of every A: it is the one below 2^32 that is, modulo 2^32, what the first table has for A and the
-- second for the other species, less the length of the third list
pub summed_told :
    {n : ℕ} {plus minus wholes : List ℕ} {weigh : ℕ → ℕ} {f h : List ℕ} → Summed n plus minus wholes weigh → Differences n plus minus f → Differences n wholes [] h
    → (a entry : ℕ) → 1 ≤ a → a < 2 ^ n → entry < modulus
    → (entry + length wholes) % modulus ≡ (get_or (zeta n f) a 0 + get_or (zeta n h) (whole n - a) 0) % modulus → entry ≡ weigh a
summed_told {n} {plus} {minus} {wholes} {weigh} {f} {h} summed first second a entry some below fits e =
    told_by_remainders entry (weigh a) (length wholes) (get_or (zeta n f) a 0) (get_or (zeta n h) (whole n - a) 0) (many (λ x. within x a) plus)
    (many (λ x. within x a) minus) (many (λ s. apart s a) wholes) fits (summed.small a) (zeta_of_lists first summed.plus_below summed.minus_below a below) lost e
    (summed.sum a some below)
  where
    others : whole n - a < 2 ^ n
    others = omega (arith, whole_below n)

    nothing : get_or (zeta n h) (whole n - a) 0 + many (λ x. within x (whole n - a)) [] ≡ get_or (zeta n h) (whole n - a) 0
    nothing = omega (arith, many_nil (λ x. within x (whole n - a)))

    lost : get_or (zeta n h) (whole n - a) 0 % modulus ≡ many (λ s. apart s a) wholes % modulus
    lost =
        ap (λ (x : ℕ). x % modulus) (sym nothing) ∙ zeta_of_lists second summed.wholes_below (λ x m. absurd (Memᴰ.not-nil m)) (whole n - a) others
        ∙ ap (λ (x : ℕ). x % modulus)
        (sym (many_same (λ s. apart s a) (λ s. within s (whole n - a)) wholes (λ s m. apart-others n s a (summed.wholes_below s m) below)))

-- ---- the weights

-- sets of the gene trees are sets of n species
pub gathered-below :
    {b n : ℕ} (give : List ℕ → List ℕ) (genes : List (List ℕ)) → AllValidFor b n genes
    → ((g : List ℕ) → Memᴰ g genes → (x : ℕ) → Among x (give g) → (1 ≤ x) × Within x (largest g)) → (x : ℕ) → Among x (gathered give genes) → x < 2 ^ n
gathered-below {b} {n} give genes valid of x m =
    let g = among-gathered give genes m in
    within-below (largest g.0) n (of g.0 g.1 x g.2).1 (valid g.0 g.1).of_roster.1

-- and so are their whole sets
pub whole_sets_below : {b n : ℕ} (genes : List (List ℕ)) → AllValidFor b n genes → (x : ℕ) → Among x (whole_sets genes) → x < 2 ^ n
whole_sets_below {b} {n} genes valid x m = let g = Memᴰ.of_map largest genes m in subst (λ (y : ℕ). y < 2 ^ n) g.2 (valid g.0 g.1).of_roster.1

-- the sets counted and taken off and the whole sets of the gene trees tell the weights
pub weights_summed :
    {n : ℕ} (rooting : Rooting) (genes : List (List ℕ)) → n ≤ 16 → AllValid n genes
    → (rooting ≡ Unrooted → (g : List ℕ) → Memᴰ g genes → may_unroot n g ≡ true) → length genes ≤ 4096
    → Summed n (plus_all rooting genes) (minus_all rooting genes) (whole_sets genes) (λ a. weight rooting genes a)
weights_summed rooting genes few valid enter limit = record {
  plus_below = gathered-below (λ g. plus_by rooting g) genes valid (λ g m. plus_of few (valid g m) rooting (λ e. enter e g m));
  minus_below = gathered-below (λ g. minus_by rooting g) genes valid (λ g m. minus_of few (valid g m) rooting (λ e. enter e g m));
  wholes_below = whole_sets_below genes valid;
  none = none_weigh_nothing rooting genes few valid;
  small = λ a. omega (arith, weight_most rooting genes a limit (valid-countable few valid));
  sum = λ a some below.
      omega (
        arith,
        length-map genes largest,
        weight-sum rooting genes a (λ g m. extra-sum few (valid g m) a rooting (λ e. enter e g m) some below),
      );
}
