-- The binary trees over allowed clusters: those of a list that pass a test, what stands among them, and that they follow from those on both children.
use Prim.Native.Nat.{ℕ, ◌-◌}
use mathlib.Core.Path.{◌≡◌, refl, sym, ap, ap₂, ◌∙◌, subst, subst₂}
use mathlib.Core.Bool.{Bool, true, false}
use mathlib.Core.List.Memᴰ
use mathlib.Core.List.Memᴰ.{head as here}
use mathlib.Core.List.{List, [], ◌∷◌, ◌++◌, map, Memᴰ}
use native.Mathlib.Omega.{arith}
use lib.ListN.{length}
use Rattle.clusters.specs.Sets.{size}
use Rattle.trees.specs.Lists.{total}
use Rattle.trees.specs.Valid.{every}
use Rattle.trees.proofs.Totals.{total_append, total_same}
use Rattle.splits.specs.BinaryTrees.{Binary, clusters_in, lows, each, forks, trees_on}
use Rattle.splits.specs.BinaryTrees.Binary.{tip, fork}
use Rattle.splits.specs.WellFormed.{TreeOn}
use Rattle.splits.specs.Order.{Earlier, Ordered}
use Rattle.splits.specs.Least.{keep_tree, those, trees_over}
use Rattle.splits.specs.Work.{only}
use Rattle.splits.proofs.Membership.{among-each, each-among, each_same, trees_on-single, trees_on-splits, listed_well_formed, well_formed_listed}
use Rattle.splits.proofs.Recurrence.{every-fork}
use Rattle.splits.proofs.Enumeration.{ordered_one, ordered-each, trees_on-ordered}
use Rattle.splits.proofs.TreeCounts.{length-each}

-- ---- those of a list that pass a test

alone : (Binary → Bool) → Binary → List Binary
alone test t = keep_tree (test t) t []

those-each : (test : Binary → Bool) (l : List Binary) → those test l ≡ each (alone test) l
unfolding those each alone
those-each test [] = refl
those-each test (t ∷ l) = go (test t) (those-each test l)
  where
    go : (b : Bool) → those test l ≡ each (alone test) l → keep_tree b t (those test l) ≡ keep_tree b t [] ++ each (alone test) l
    go true e = ap (λ (r : List Binary). t ∷ r) e
    go false e = e

among-alone : (test : Binary → Bool) (t u : Binary) → Memᴰ u (alone test t) → (u ≡ t) × (test t ≡ true)
unfolding alone
among-alone test t u m = go (test t) m
  where
    go : (b : Bool) → Memᴰ u (keep_tree b t []) → (u ≡ t) × (b ≡ true)
    go true m = (Memᴰ.eq_of_singleton m, refl)
    go false m = absurd (Memᴰ.not-nil m)

-- what stands among those that pass stands in the list, and passes
pub among-those : (test : Binary → Bool) (l : List Binary) {t : Binary} → Memᴰ t (those test l) → Memᴰ t l × (test t ≡ true)
among-those test l {t} m =
    let r = among-each (alone test) l (subst (λ k. Memᴰ t k) (those-each test l) m) in
    let q = among-alone test r.0 t r.2 in
    (subst (λ u. Memᴰ u l) (sym q.0) r.1, ap test q.0 ∙ q.1)

-- and the other way round
pub those-among : (test : Binary → Bool) (l : List Binary) {t : Binary} → Memᴰ t l → test t ≡ true → Memᴰ t (those test l)
unfolding alone
those-among test l {t} m e = rw (those-each test l) (each-among (alone test) l m (rw e (here refl)))

ordered-alone : (R : Binary → Binary → Type 0) (test : Binary → Bool) (t : Binary) → Ordered R (alone test t)
unfolding alone Ordered
ordered-alone R test t = go (test t)
  where
    go : (b : Bool) → Ordered R (keep_tree b t [])
    go true = ordered_one R t
    go false = tt

-- they stand in the order of the list
pub ordered-those : (R : Binary → Binary → Type 0) (test : Binary → Bool) (l : List Binary) → Ordered R l → Ordered R (those test l)
ordered-those R test l p =
    rw (those-each test l)
    (ordered-each R R (alone test) l p (λ t m. ordered-alone R test t)
    (λ x y m n r s t i j. subst₂ R (sym (among-alone test x s i).0) (sym (among-alone test y t j).0) r))

those_append : (test : Binary → Bool) (l k : List Binary) → those test (l ++ k) ≡ those test l ++ those test k
unfolding those
those_append test [] k = refl
those_append test (t ∷ l) k = go (test t) (those_append test l k)
  where
    go : (b : Bool) → those test (l ++ k) ≡ those test l ++ those test k → keep_tree b t (those test (l ++ k)) ≡ keep_tree b t (those test l) ++ those test k
    go true e = ap (λ (r : List Binary). t ∷ r) e
    go false e = e

-- those of lists one after the other
those_of_each : {A : Type 0} (test : Binary → Bool) (f : A → List Binary) (l : List A) → those test (each f l) ≡ each (λ x. those test (f x)) l
unfolding those each
those_of_each test f [] = refl
those_of_each test f (x ∷ l) = those_append test (f x) (each f l) ∙ ap (λ r. those test (f x) ++ r) (those_of_each test f l)

-- ---- those that pass, counted

-- a sum over lists one after the other
pub total-each : {A B : Type 0} (g : B → ℕ) (f : A → List B) (l : List A) → total (map g (each f l)) ≡ total (map (λ x. total (map g (f x))) l)
unfolding each total
total-each g f [] = refl
total-each g f (x ∷ l) = omega (arith, total_append g (f x) (each f l), total-each g f l)

-- how many pass
pub length-those : (test : Binary → Bool) (l : List Binary) → length (those test l) ≡ total (map (λ t. only (test t) 1) l)
unfolding alone
length-those test l =
    ap length (those-each test l) ∙ length-each (alone test) l ∙ total_same (λ t. length (alone test t)) (λ t. only (test t) 1) l (λ t m. go t (test t))
  where
    go : (t : Binary) (b : Bool) → length (keep_tree b t []) ≡ only b 1
    go t true = refl
    go t false = refl

-- ---- the trees over allowed clusters

-- the test
abbrev pub over : (ℕ → Bool) → Binary → Bool
over ok t = every ok (clusters_in t)

-- what stands among them
pub among-trees_over : (ok : ℕ → Bool) (a : ℕ) {t : Binary} → Memᴰ t (trees_over ok a) → TreeOn a t × (every ok (clusters_in t) ≡ true)
unfolding trees_over
among-trees_over ok a {t} m = let r = among-those (over ok) (trees_on a) m in (listed_well_formed t a r.0, r.1)

-- and the other way round
pub trees_over-among : (ok : ℕ → Bool) (a : ℕ) {t : Binary} → TreeOn a t → every ok (clusters_in t) ≡ true → Memᴰ t (trees_over ok a)
unfolding trees_over
trees_over-among ok a v e = those-among (over ok) (trees_on a) (well_formed_listed v) e

-- they stand in 01's order
pub trees_over-ordered : (ok : ℕ → Bool) (a : ℕ) → Ordered Earlier (trees_over ok a)
unfolding trees_over
trees_over-ordered ok a = ordered-those Earlier (over ok) (trees_on a) (trees_on-ordered a)

-- an allowed single species has its tip
pub trees_over-single : (ok : ℕ → Bool) (a : ℕ) → size a ≡ 1 → ok a ≡ true → trees_over ok a ≡ tip a ∷ []
unfolding trees_over those every clusters_in
trees_over-single ok a e k = ap (those (over ok)) (trees_on-single a e) ∙ rw k

module _ (ok : ℕ → Bool) (a : ℕ) (allow : ok a ≡ true) where
  those-map : (t : Binary) (us : List Binary) → every ok (clusters_in t) ≡ true
      → those (over ok) (map (λ u. fork a t u) us) ≡ map (λ u. fork a t u) (those (over ok) us)
  unfolding those
  those-map t [] e = refl
  those-map t (u ∷ us) e = rw (every-fork ok a t u allow, e) (go (over ok u) (those-map t us e))
    where
      go : (b : Bool) → those (over ok) (map (λ u. fork a t u) us) ≡ map (λ u. fork a t u) (those (over ok) us)
          → keep_tree b (fork a t u) (those (over ok) (map (λ u. fork a t u) us)) ≡ map (λ u. fork a t u) (keep_tree b u (those (over ok) us))
      go true h = ap (λ (r : List Binary). fork a t u ∷ r) h
      go false h = h

  those_none : (t : Binary) (us : List Binary) → every ok (clusters_in t) ≡ false → those (over ok) (map (λ u. fork a t u) us) ≡ []
  unfolding those
  those_none t [] e = refl
  those_none t (u ∷ us) e = rw (every-fork ok a t u allow, e) (those_none t us e)

  gathered : (ts us : List Binary)
      → each (λ t. those (over ok) (map (λ u. fork a t u) us)) ts ≡ each (λ t. map (λ u. fork a t u) (those (over ok) us)) (those (over ok) ts)
  unfolding each those
  gathered [] us = refl
  gathered (t ∷ ts) us = go (over ok t) refl (gathered ts us)
    where
      go : (b : Bool) → over ok t ≡ b
          → each (λ t. those (over ok) (map (λ u. fork a t u) us)) ts ≡ each (λ t. map (λ u. fork a t u) (those (over ok) us)) (those (over ok) ts)
          → those (over ok) (map (λ u. fork a t u) us) ++ each (λ t. those (over ok) (map (λ u. fork a t u) us)) ts
          ≡ each (λ t. map (λ u. fork a t u) (those (over ok) us)) (keep_tree b t (those (over ok) ts))
      go true e ih = ap₂ ◌++◌ (those-map t us e) ih
      go false e ih = rw (those_none t us e) ih

  -- the forks over allowed clusters are the forks of trees over allowed clusters
  those-forks : (ts us : List Binary) → those (over ok) (forks a ts us) ≡ forks a (those (over ok) ts) (those (over ok) us)
  unfolding forks
  those-forks ts us = those_of_each (over ok) (λ t. map (λ u. fork a t u) us) ts ∙ gathered ts us

  -- on an allowed cluster of other sizes: each low part with the rest, both over allowed clusters
  pub trees_over-splits : (size a ≡ 1 → ⊥) → trees_over ok a ≡ each (λ low. forks a (trees_over ok low) (trees_over ok (a - low))) (lows a)
  unfolding trees_over
  trees_over-splits f =
      ap (those (over ok)) (trees_on-splits a f) ∙ those_of_each (over ok) (λ low. forks a (trees_on low) (trees_on (a - low))) (lows a)
      ∙ each_same (λ low. those (over ok) (forks a (trees_on low) (trees_on (a - low)))) (λ low. forks a (trees_over ok low) (trees_over ok (a - low))) (lows a)
      (λ low m. those-forks (trees_on low) (trees_on (a - low)))
