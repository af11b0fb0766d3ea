-- The zeta transform over subsets: after a step for each species an entry is the sum over all parts of its set. So a table of how often sets stand in lists
-- gives, at once for every A, how many sets of the lists lie within A, modulo 2^32.
use Prim.Native.Nat.{ℕ, zero, suc, ◌+◌, ◌-◌, ◌%◌, ◌^◌, ◌≤◌, ◌<◌}
use mathlib.Core.Path.{◌≡◌, refl, sym, ap, ap₂, ◌∙◌}
use mathlib.Core.Bool.{Bool, true, false, ◌&&◌}
use mathlib.Core.List.Memᴰ.{head as here}
use mathlib.Core.List.Memᴰ.{tail as there}
use mathlib.Core.List.{List, [], ◌∷◌, map}
use native.Mathlib.Nat.{add-mod, mod-mod, div-eq_of_lt-le, pow-suc}
use native.Mathlib.Decide.{ℕ_discrete, dec_lt}
use native.Mathlib.Omega.{arith}
use lib.Dec.{eqb, ltb}
use lib.ListN.{length, get_or}
use borrow.Author.Tests.{eqb-true, eqb-false, eq-eqb, ne_eqb, ltb-true, lt-ltb}
use Rattle.clusters.specs.Sets.{Has, Within, within, has, single}
use Rattle.clusters.proofs.Sets.{within-le, within_trans, within-refl, within-true, true-within, within-false, single-within, minus_within, minus_has, has_minus}
use Rattle.clusters.proofs.Members.{within_of_has, has_of_within, has-single}
use Rattle.trees.specs.Lists.{Among, keep_if, keep, total, up_to}
use Rattle.trees.proofs.Booleans.{both, unless}
use Rattle.trees.proofs.Totals.{total_append, total_same, total-le, one_le_total}
use Rattle.trees.proofs.UpTo.{length-map-up_to, map-up_to, among-up_to, up_to-among}
use Rattle.trees.proofs.ValidTest.{Tells, denied}
use Rattle.weights.specs.Lineages.{one_if}
use Rattle.weights.specs.Subsets.{many, often, modulus, Differences, sum_over, added_if, stepped, zeta}
use Rattle.weights.proofs.SumOfLists.{many_nil, many_cons, total_add, total_none}

-- ---- sums over the numbers below n that pass a test

-- a number where the test holds, else none
abbrev only : Bool → ℕ → ℕ
only true x = x
only false x = 0

keep-total : (f : ℕ → ℕ) (test : ℕ → Bool) (l : List ℕ) → total (map f (keep test l)) ≡ total (map (λ x. only (test x) (f x)) l)
unfolding keep total
keep-total f test [] = refl
keep-total f test (x ∷ l) = go (test x) (keep-total f test l)
  where
    go :
        (b : Bool) → total (map f (keep test l)) ≡ total (map (λ x. only (test x) (f x)) l)
        → total (map f (keep_if b x (keep test l))) ≡ only b (f x) + total (map (λ x. only (test x) (f x)) l)
    go true ih = ap (λ (n : ℕ). f x + n) ih
    go false ih = omega (arith, ih)

-- one number alone
total_one : (f : ℕ → ℕ) (n a : ℕ) → a < n → total (map (λ x. only (eqb x a) (f x)) (up_to n)) ≡ f a
unfolding up_to total
total_one f zero a l = absurd (omega arith)
total_one f (suc n) a l = total_append (λ x. only (eqb x a) (f x)) (up_to n) (n ∷ []) ∙ go (ℕ_discrete n a) (λ k. total_one f n a k)
  where
    go :
        Dec (n ≡ a) → (a < n → total (map (λ x. only (eqb x a) (f x)) (up_to n)) ≡ f a)
        → total (map (λ x. only (eqb x a) (f x)) (up_to n)) + (only (eqb n a) (f n) + 0) ≡ f a
    go (yes e) later =
        omega (
          arith,
          total_none (λ x. only (eqb x a) (f x)) (up_to n)
              (λ x m. let less = among-up_to n m in ap (λ (b : Bool). only b (f x)) (ne_eqb x a (λ d. omega arith))),
          ap (λ (b : Bool). only b (f n)) (eq-eqb n a e),
          ap f e,
        )
    go (no d) later = omega (arith, later (omega (arith, d)), ap (λ (b : Bool). only b (f n)) (ne_eqb n a d))

-- ---- the sets that k steps bring together at A

-- x lies within A and has what A has from species k on
reached : ℕ → ℕ → ℕ → Bool
reached k a x = within x a && ltb (a - x) (2 ^ k)

record Reached (k a x : ℕ) : Type 0 where
  inside : Within x a
  near : a - x < 2 ^ k

tells_reached : (k a x : ℕ) → Tells (reached k a x) (Reached k a x)
unfolding reached
tells_reached k a x = record {
  holds = λ e. let b = both (within x a) (ltb (a - x) (2 ^ k)) e in record { inside = within-true x a b.0; near = ltb-true (a - x) (2 ^ k) b.1 };
  told = λ r. rw (true-within x a r.inside, lt-ltb (a - x) (2 ^ k) r.near) refl;
}

-- at first A alone
reached_none : (a x : ℕ) → reached 0 a x ≡ eqb x a
reached_none a x = go (ℕ_discrete x a)
  where
    go : Dec (x ≡ a) → reached 0 a x ≡ eqb x a
    go (yes e) = (tells_reached 0 a x).told (rw e (record { inside = within-refl a; near = omega arith })) ∙ sym (eq-eqb x a e)
    go (no d) =
        unless (reached 0 a x) (λ t. let r = (tells_reached 0 a x).holds t in d (omega (arith, within-le r.inside, r.near))) ∙ sym (ne_eqb x a d)

-- at last all parts
reached_all : (n a x : ℕ) → a < 2 ^ n → reached n a x ≡ within x a
reached_all n a x small = go (within x a) refl
  where
    go : (b : Bool) → within x a ≡ b → reached n a x ≡ b
    go true e = (tells_reached n a x).told (record { inside = within-true x a e; near = omega arith })
    go false e = unless (reached n a x) (λ t. within-false x a e ((tells_reached n a x).holds t).inside)

-- a number from 2^k to below 2^(k+1) has species k
has_highest : (k d : ℕ) → 2 ^ k ≤ d → d < 2 ^ suc k → Has d k
unfolding Has
has_highest k d low high = ap (λ (q : ℕ). q % 2) (div-eq_of_lt-le {k = 1} (2 ^ k) (omega arith) (omega (arith, pow-suc 2 k)))

module _ (k a x v : ℕ) where
  -- what a further step reaches beside: sets without species k
  reached-without : Within x a → 2 ^ k ≤ a - x → a - x < 2 ^ suc k → Has a k × (Has x k → ⊥)
  reached-without w low high = has_minus a x k w (has_highest k (a - x) low high)

  within-rest : Has a k → (Has x k → ⊥) → Within x a → Within x (a - single k)
  within-rest h off w =
      within_of_has x (a - single k) (λ j m.
      minus_has a (single k) j (single-within a k h) (has_of_within x a j w m) (λ s. off (rw (has-single k j s) m)))

  -- where A has species k, the step brings what was reached from A and from A without it
  reached_both : Has a k → only (reached (suc k) a x) v ≡ only (reached k a x) v + only (reached k (a - single k) x) v
  unfolding single
  reached_both h = go (reached k a x) (reached k (a - single k) x) refl refl
    where
      le : single k ≤ a
      le = within-le (single-within a k h)

      next : Reached (suc k) a x → reached (suc k) a x ≡ true
      next r = (tells_reached (suc k) a x).told r

      go :
          (b c : Bool) → reached k a x ≡ b → reached k (a - single k) x ≡ c → only (reached (suc k) a x) v ≡ only b v + only c v
      go true true e d =
          let r = (tells_reached k a x).holds e in
          let t = (tells_reached k (a - single k) x).holds d in
          absurd (omega (arith, le, r.near, within-le t.inside))
      go true false e d =
          let r = (tells_reached k a x).holds e in
          rw (next (record { inside = r.inside; near = omega (arith, r.near, pow-suc 2 k) })) (omega arith)
      go false true e d =
          let t = (tells_reached k (a - single k) x).holds d in
          rw (next (record {
            inside = within_trans x (a - single k) a t.inside (minus_within a (single k) (single-within a k h));
            near = omega (arith, t.near, pow-suc 2 k);
          })) (omega arith)
      go false false e d = rw (unless (reached (suc k) a x) (λ t. none ((tells_reached (suc k) a x).holds t) (dec_lt (a - x) (2 ^ k)))) refl
        where
          none : Reached (suc k) a x → Dec (a - x < 2 ^ k) → ⊥
          none r (yes near) = denied (tells_reached k a x) e (record { inside = r.inside; near = near })
          none r (no far) =
              let off = reached-without r.inside (omega (arith, far)) r.near in
              let w = within-rest h off.1 r.inside in
              denied (tells_reached k (a - single k) x) d (record { inside = w; near = omega (arith, far, r.near, within-le w, pow-suc 2 k) })

  -- where A does not have it, nothing more
  reached-alone : (Has a k → ⊥) → only (reached (suc k) a x) v ≡ only (reached k a x) v
  reached-alone f = ap (λ (b : Bool). only b v) (go (reached k a x) refl)
    where
      none : Reached (suc k) a x → reached k a x ≡ false → Dec (a - x < 2 ^ k) → ⊥
      none r e (yes near) = denied (tells_reached k a x) e (record { inside = r.inside; near = near })
      none r e (no far) = f (reached-without r.inside (omega (arith, far)) r.near).0

      go : (b : Bool) → reached k a x ≡ b → reached (suc k) a x ≡ b
      go true e =
          let r = (tells_reached k a x).holds e in
          (tells_reached (suc k) a x).told (record { inside = r.inside; near = omega (arith, r.near, pow-suc 2 k) })
      go false e = unless (reached (suc k) a x) (λ t. none ((tells_reached (suc k) a x).holds t) e (dec_lt (a - x) (2 ^ k)))

-- ---- the transform

-- a step keeps the number of entries
pub length-stepped : (i : ℕ) (f : List ℕ) → length (stepped i f) ≡ length f
unfolding stepped
length-stepped i f = length-map-up_to (λ a. added_if (has a i) (get_or f (a - single i) 0) (get_or f a 0)) (length f)

-- and so does the transform
pub length-zeta : (n : ℕ) (f : List ℕ) → length (zeta n f) ≡ length f
unfolding zeta
length-zeta zero f = refl
length-zeta (suc n) f = length-stepped n (zeta n f) ∙ length-zeta n f

-- the entry after a step
pub stepped_at : (i : ℕ) (f : List ℕ) (a : ℕ) → a < length f → get_or (stepped i f) a 0 ≡ added_if (has a i) (get_or f (a - single i) 0) (get_or f a 0)
unfolding stepped
stepped_at i f a l = map-up_to (λ a. added_if (has a i) (get_or f (a - single i) 0) (get_or f a 0)) (length f) a l

-- what k steps bring together at A
gained : ℕ → List ℕ → ℕ → ℕ
gained k f a = total (map (λ x. only (reached k a x) (get_or f x 0)) (up_to (length f)))

add_same : (a b c d : ℕ) → a % modulus ≡ c % modulus → b % modulus ≡ d % modulus → (a + b) % modulus ≡ (c + d) % modulus
add_same a b c d p q = add-mod a b modulus ∙ ap₂ (λ (x y : ℕ). (x + y) % modulus) p q ∙ sym (add-mod c d modulus)

gained-zeta : (k : ℕ) (f : List ℕ) (a : ℕ) → a < length f → get_or (zeta k f) a 0 % modulus ≡ gained k f a % modulus
unfolding zeta gained has Has
gained-zeta zero f a l =
    ap (λ (x : ℕ). x % modulus)
    (sym (total_one (λ x. get_or f x 0) (length f) a l)
    ∙ total_same (λ x. only (eqb x a) (get_or f x 0)) (λ x. only (reached 0 a x) (get_or f x 0)) (up_to (length f))
    (λ x m. ap (λ (b : Bool). only b (get_or f x 0)) (sym (reached_none a x))))
gained-zeta (suc k) f a l =
    ap (λ (x : ℕ). x % modulus) (stepped_at k (zeta k f) a (omega (arith, length-zeta k f)))
    ∙ go (has a k) refl (gained-zeta k f a l) (gained-zeta k f (a - single k) (omega arith))
  where
    go :
        (b : Bool) → has a k ≡ b → get_or (zeta k f) a 0 % modulus ≡ gained k f a % modulus
        → get_or (zeta k f) (a - single k) 0 % modulus ≡ gained k f (a - single k) % modulus
        → added_if b (get_or (zeta k f) (a - single k) 0) (get_or (zeta k f) a 0) % modulus ≡ gained (suc k) f a % modulus
    go true e p q =
        mod-mod (get_or (zeta k f) a 0 + get_or (zeta k f) (a - single k) 0) modulus
        ∙ add_same (get_or (zeta k f) a 0) (get_or (zeta k f) (a - single k) 0) (gained k f a) (gained k f (a - single k)) p q
        ∙ ap (λ (x : ℕ). x % modulus)
        (sym (total_add (λ x. only (reached k a x) (get_or f x 0)) (λ x. only (reached k (a - single k) x) (get_or f x 0)) (up_to (length f)))
        ∙ total_same (λ x. only (reached k a x) (get_or f x 0) + only (reached k (a - single k) x) (get_or f x 0))
        (λ x. only (reached (suc k) a x) (get_or f x 0)) (up_to (length f)) (λ x m. sym (reached_both k a x (get_or f x 0) (eqb-true _ _ e))))
    go false e p q =
        p ∙ ap (λ (x : ℕ). x % modulus)
        (total_same (λ x. only (reached k a x) (get_or f x 0)) (λ x. only (reached (suc k) a x) (get_or f x 0)) (up_to (length f))
        (λ x m. sym (reached-alone k a x (get_or f x 0) (eqb-false _ _ e))))

-- the zeta transform: after the steps of all species each entry is, modulo 2^32, the sum over all parts of its set
pub zeta-sums : (n : ℕ) (f : List ℕ) (a : ℕ) → a < length f → a < 2 ^ n → get_or (zeta n f) a 0 % modulus ≡ sum_over f a % modulus
unfolding sum_over gained
zeta-sums n f a l small =
    gained-zeta n f a l
    ∙ ap (λ (x : ℕ). x % modulus)
    (total_same (λ x. only (reached n a x) (get_or f x 0)) (λ x. only (within x a) (get_or f x 0)) (up_to (length f))
    (λ x m. ap (λ (b : Bool). only b (get_or f x 0)) (reached_all n a x small))
    ∙ sym (keep-total (λ x. get_or f x 0) (λ x. within x a) (up_to (length f))))

-- ---- tables of how often sets stand in lists

-- the sum over the parts of A of how often each stands in a list is how many of the list lie within A
often-within :
    (n a : ℕ) (l : List ℕ) → ((x : ℕ) → Among x l → x < n)
    → total (map (λ x. only (within x a) (often x l)) (up_to n)) ≡ many (λ x. within x a) l
often-within n a [] below =
    total_none (λ x. only (within x a) (often x [])) (up_to n) (λ x m. none (within x a) x) ∙ sym (many_nil (λ x. within x a))
  where
    none : (b : Bool) (x : ℕ) → only b (often x []) ≡ 0
    none true x = many_nil (λ y. eqb x y)
    none false x = refl
often-within n a (y ∷ l) below =
    total_same (λ x. only (within x a) (often x (y ∷ l))) (λ x. only (eqb x y) (one_if (within x a)) + only (within x a) (often x l)) (up_to n)
    (λ x m. parted (within x a) (eqb x y) (often x (y ∷ l)) (often x l) (many_cons (λ z. eqb x z) y l))
    ∙ total_add (λ x. only (eqb x y) (one_if (within x a))) (λ x. only (within x a) (often x l)) (up_to n)
    ∙ ap₂ ◌+◌ (total_one (λ x. one_if (within x a)) n y (below y (here refl))) (often-within n a l (λ x m. below x (there m)))
    ∙ sym (many_cons (λ x. within x a) y l)
  where
    parted : (b c : Bool) (all rest : ℕ) → all ≡ one_if c + rest → only b all ≡ only c (one_if b) + only b rest
    parted true true all rest e = e
    parted true false all rest e = e
    parted false true all rest e = refl
    parted false false all rest e = refl

total_modulo :
    (f g : ℕ → ℕ) (l : List ℕ) → ((x : ℕ) → Among x l → f x % modulus ≡ g x % modulus) → total (map f l) % modulus ≡ total (map g l) % modulus
unfolding total
total_modulo f g [] h = refl
total_modulo f g (x ∷ l) h = add_same (f x) (total (map f l)) (g x) (total (map g l)) (h x (here refl)) (total_modulo f g l (λ y m. h y (there m)))

-- the transform of such a table says of every A how many sets of one list lie within A less how many of the other, modulo 2^32
pub zeta_of_lists :
    {n : ℕ} {plus minus f : List ℕ} → Differences n plus minus f → ((x : ℕ) → Among x plus → x < 2 ^ n) → ((x : ℕ) → Among x minus → x < 2 ^ n) → (a : ℕ) → a < 2 ^ n
    → (get_or (zeta n f) a 0 + many (λ x. within x a) minus) % modulus ≡ many (λ x. within x a) plus % modulus
unfolding sum_over
zeta_of_lists {n} {plus} {minus} {f} t below-plus below-minus a small =
    add_same (get_or (zeta n f) a 0) (many (λ x. within x a) minus) (sum_over f a) (many (λ x. within x a) minus)
    (zeta-sums n f a (omega (arith, t.sized)) small) refl
    ∙ ap (λ (x : ℕ). x % modulus)
    (ap₂ ◌+◌
    (keep-total (λ x. get_or f x 0) (λ x. within x a) (up_to (length f)) ∙ ap (λ (m : ℕ). total (map (λ x. only (within x a) (get_or f x 0)) (up_to m))) t.sized)
    (sym (often-within (2 ^ n) a minus below-minus))
    ∙ sym (total_add (λ x. only (within x a) (get_or f x 0)) (λ x. only (within x a) (often x minus)) (up_to (2 ^ n))))
    ∙ total_modulo (λ x. only (within x a) (get_or f x 0) + only (within x a) (often x minus)) (λ x. only (within x a) (often x plus)) (up_to (2 ^ n))
    (λ x m. both_ways (within x a) x (t.entries x (among-up_to (2 ^ n) m)))
    ∙ ap (λ (x : ℕ). x % modulus) (often-within (2 ^ n) a plus below-plus)
  where
    both_ways :
        (b : Bool) (x : ℕ) → (get_or f x 0 + often x minus) % modulus ≡ often x plus % modulus
        → (only b (get_or f x 0) + only b (often x minus)) % modulus ≡ only b (often x plus) % modulus
    both_ways true x e = e
    both_ways false x e = refl

-- ---- tables of small numbers

-- entries below 2^32 stay so
zeta-below : (k : ℕ) (f : List ℕ) (a : ℕ) → ((x : ℕ) → x < length f → get_or f x 0 < modulus) → a < length f → get_or (zeta k f) a 0 < modulus
unfolding zeta
zeta-below zero f a small l = small a l
zeta-below (suc k) f a small l =
    omega (arith, stepped_at k (zeta k f) a (omega (arith, length-zeta k f)), go (has a k) (zeta-below k f a small l))
  where
    go : (b : Bool) → get_or (zeta k f) a 0 < modulus → added_if b (get_or (zeta k f) (a - single k) 0) (get_or (zeta k f) a 0) < modulus
    go true e = omega arith
    go false e = e

-- all sets of a list together
often-total : (n : ℕ) (l : List ℕ) → ((x : ℕ) → Among x l → x < n) → total (map (λ x. often x l) (up_to n)) ≡ length l
often-total n [] below = total_none (λ x. often x []) (up_to n) (λ x m. many_nil (λ y. eqb x y))
often-total n (y ∷ l) below =
    total_same (λ x. often x (y ∷ l)) (λ x. only (eqb x y) 1 + often x l) (up_to n)
    (λ x m. many_cons (λ z. eqb x z) y l ∙ ap (λ (k : ℕ). k + often x l) (as_one (eqb x y)))
    ∙ total_add (λ x. only (eqb x y) 1) (λ x. often x l) (up_to n)
    ∙ ap₂ ◌+◌ (total_one (λ x. 1) n y (below y (here refl))) (often-total n l (λ x m. below x (there m)))
    ∙ omega arith
  where
    as_one : (b : Bool) → one_if b ≡ only b 1
    as_one true = refl
    as_one false = refl

-- where a table says how often sets stand in a list, no step makes an entry larger than the list is long, which is below 2^32
pub zeta_at_most :
    (k : ℕ) (sets f : List ℕ) → ((x : ℕ) → x < length f → get_or f x 0 ≡ often x sets) → ((x : ℕ) → Among x sets → x < length f) → length sets < modulus
    → (a : ℕ) → a < length f → get_or (zeta k f) a 0 ≤ length sets
unfolding gained
zeta_at_most k sets f counted below few a l =
    omega (arith, gained-zeta k f a l, zeta-below k f a (λ x less. omega (arith, entry-le x less)) l, gained-le, all)
  where
    all : total (map (λ x. get_or f x 0) (up_to (length f))) ≡ length sets
    all =
        total_same (λ x. get_or f x 0) (λ x. often x sets) (up_to (length f)) (λ x m. counted x (among-up_to (length f) m))
        ∙ often-total (length f) sets below

    entry-le : (x : ℕ) → x < length f → get_or f x 0 ≤ length sets
    entry-le x less = omega (arith, one_le_total (λ y. get_or f y 0) (up_to (length f)) x (up_to-among (length f) less), all)

    at_most : (b : Bool) (v : ℕ) → only b v ≤ v
    at_most true v = omega arith
    at_most false v = omega arith

    gained-le : gained k f a ≤ total (map (λ x. get_or f x 0) (up_to (length f)))
    gained-le = total-le (λ x. only (reached k a x) (get_or f x 0)) (λ x. get_or f x 0) (up_to (length f)) (λ x m. at_most (reached k a x) (get_or f x 0))

-- ---- a number from what it is modulo 2^32

-- an entry that is, modulo 2^32, what was counted less what was taken off, and what was lost less the number of trees, is that number where both are below 2^32
pub told_by_remainders :
    (entry value trees first second counted off lost : ℕ) → entry < modulus → value < modulus → (first + off) % modulus ≡ counted % modulus
    → second % modulus ≡ lost % modulus → (entry + trees) % modulus ≡ (first + second) % modulus → value + trees + off ≡ counted + lost → entry ≡ value
told_by_remainders entry value trees first second counted off lost small below p q r e = omega arith
