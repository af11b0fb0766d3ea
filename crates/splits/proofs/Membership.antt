-- The list of all binary trees on a cluster: it follows from the lists of both children, and holds exactly the well-formed trees.
use Prim.Native.Nat.{ℕ, zero, suc, ◌+◌, ◌-◌, ◌*◌, ◌≤◌, ◌<◌}
use mathlib.Core.Path.{◌≡◌, refl, sym, ap, ap₂, ◌∙◌, subst}
use mathlib.Core.Logic.{◌⊎◌, inl, inr}
use mathlib.Core.Bool.{Bool, true, false}
use mathlib.Core.List.Memᴰ
use mathlib.Core.List.Memᴰ.{head as here}
use mathlib.Core.List.Memᴰ.{tail as there}
use mathlib.Core.List.{List, [], ◌∷◌, ◌++◌, map, Memᴰ}
use native.Mathlib.Decide.{ℕ_discrete}
use native.Mathlib.Omega.{arith}
use lib.Dec.{eqb}
use lib.ListN.{length, length-append}
use borrow.Author.Tests.{eq-eqb, ne_eqb}
use Rattle.clusters.specs.Sets.{size}
use Rattle.clusters.proofs.Sizes.{size-zero, size_some}
use Rattle.trees.specs.Lists.{keep, up_to}
use Rattle.splits.specs.BinaryTrees.{Binary, root, clusters_in, lows, each, forks, trees_by, trees_to, trees_on}
use Rattle.splits.specs.BinaryTrees.Binary.{tip, fork}
use Rattle.splits.specs.WellFormed.{LowPart, TreeOn}
use Rattle.splits.specs.WellFormed.TreeOn.{one, two}
use Rattle.splits.proofs.LowParts.{among-lows, lows-among, low-smaller, rest-smaller, low_and_rest, low-part_two}

-- ---- what stands in a list of lists, and in a list of forks

module _ {A B : Type 0} where
  pub among-each : (f : A → List B) (l : List A) {y : B} → Memᴰ y (each f l) → (x : A) × Memᴰ x l × Memᴰ y (f x)
  unfolding each
  among-each f [] h = absurd (Memᴰ.not-nil h)
  among-each f (x ∷ l) {y} h = go (Memᴰ.append_cases (f x) h) (λ k. among-each f l k)
    where
      go : Memᴰ y (f x) ⊎ Memᴰ y (each f l) → (Memᴰ y (each f l) → (z : A) × Memᴰ z l × Memᴰ y (f z))
          → (z : A) × Memᴰ z (x ∷ l) × Memᴰ y (f z)
      go (inl k) ih = (x, here refl, k)
      go (inr k) ih = let r = ih k in (r.0, there r.1, r.2)

  pub each-among : (f : A → List B) (l : List A) {x : A} {y : B} → Memᴰ x l → Memᴰ y (f x) → Memᴰ y (each f l)
  unfolding each
  each-among f [] h m = absurd (Memᴰ.not-nil h)
  each-among f (z ∷ l) {x} {y} h m = go (Memᴰ.cases_cons h) (λ k. each-among f l k m)
    where
      go : (x ≡ z) ⊎ Memᴰ x l → (Memᴰ x l → Memᴰ y (each f l)) → Memᴰ y (f z ++ each f l)
      go (inl e) ih = Memᴰ.append_left (each f l) (subst (λ v. Memᴰ y (f v)) e m)
      go (inr k) ih = Memᴰ.append_right (f z) (ih k)

  pub each_same : (f g : A → List B) (l : List A) → ((x : A) → Memᴰ x l → f x ≡ g x) → each f l ≡ each g l
  unfolding each
  each_same f g [] h = refl
  each_same f g (x ∷ l) h = ap₂ ◌++◌ (h x (here refl)) (each_same f g l (λ y m. h y (there m)))

  pub among-map : (f : A → B) (l : List A) {y : B} → Memᴰ y (map f l) → (x : A) × Memᴰ x l × (y ≡ f x)
  among-map f [] h = absurd (Memᴰ.not-nil h)
  among-map f (x ∷ l) {y} h = go (Memᴰ.cases_cons h) (λ k. among-map f l k)
    where
      go : (y ≡ f x) ⊎ Memᴰ y (map f l) → (Memᴰ y (map f l) → (z : A) × Memᴰ z l × (y ≡ f z))
          → (z : A) × Memᴰ z (x ∷ l) × (y ≡ f z)
      go (inl e) ih = (x, here refl, e)
      go (inr k) ih = let r = ih k in (r.0, there r.1, r.2)

  pub map-among : (f : A → B) (l : List A) {x : A} → Memᴰ x l → Memᴰ (f x) (map f l)
  map-among f [] h = absurd (Memᴰ.not-nil h)
  map-among f (z ∷ l) {x} h = go (Memᴰ.cases_cons h) (λ k. map-among f l k)
    where
      go : (x ≡ z) ⊎ Memᴰ x l → (Memᴰ x l → Memᴰ (f x) (map f l)) → Memᴰ (f x) (f z ∷ map f l)
      go (inl e) ih = here (ap f e)
      go (inr k) ih = there (ih k)

-- a tree of a list of forks, taken apart
pub record Forked (a : ℕ) (ts us : List Binary) (v : Binary) : Type 0 where
  pub low : Binary
  pub other : Binary
  pub low_among : Memᴰ low ts
  pub other_among : Memᴰ other us
  pub made : v ≡ fork a low other

pub among-forks : {a : ℕ} {ts us : List Binary} {v : Binary} → Memᴰ v (forks a ts us) → Forked a ts us v
unfolding forks
among-forks {a} {ts} {us} {v} h =
    let r = among-each (λ t. map (λ u. fork a t u) us) ts h in
    let q = among-map (λ u. fork a r.0 u) us r.2 in
    record { low = r.0; other = q.0; low_among = r.1; other_among = q.1; made = q.2 }

pub forks-among : (a : ℕ) {ts us : List Binary} {t u : Binary} → Memᴰ t ts → Memᴰ u us → Memᴰ (fork a t u) (forks a ts us)
unfolding forks
forks-among a {ts} {us} {t} {u} h k = each-among (λ t. map (λ u. fork a t u) us) ts h (map-among (λ u. fork a t u) us k)

-- ---- more fuel gives the same list

lows-zero : lows 0 ≡ []
unfolding lows keep up_to
lows-zero = refl

trees_to-zero : (k : ℕ) → trees_to k 0 ≡ []
unfolding trees_to each
trees_to-zero zero = refl
trees_to-zero (suc k) = rw (size-zero, lows-zero)

-- a set of no species is empty
pub empty_of_size : (a : ℕ) → size a ≤ 0 → a ≡ 0
empty_of_size a l = go (ℕ_discrete a 0)
  where
    go : Dec (a ≡ 0) → a ≡ 0
    go (yes e) = e
    go (no f) = absurd (omega (arith, size_some {a = a} (omega (arith, f))))

-- only the children's lists matter
splits_same : (f g : ℕ → List Binary) (a : ℕ) → ((b : ℕ) → size b < size a → f b ≡ g b)
    → each (λ low. forks a (f low) (f (a - low))) (lows a) ≡ each (λ low. forks a (g low) (g (a - low))) (lows a)
splits_same f g a h =
    each_same (λ low. forks a (f low) (f (a - low))) (λ low. forks a (g low) (g (a - low))) (lows a)
    (λ low m. let p = among-lows a m in ap₂ (forks a) (h low (low-smaller p)) (h (a - low) (rest-smaller p)))

trees_by_same : (b : Bool) (f g : ℕ → List Binary) (a : ℕ) → ((x : ℕ) → size x < size a → f x ≡ g x) → trees_by b f a ≡ trees_by b g a
trees_by_same true f g a h = refl
trees_by_same false f g a h = splits_same f g a h

pub trees_to_same : (k j a : ℕ) → size a ≤ k → size a ≤ j → trees_to k a ≡ trees_to j a
unfolding trees_to
trees_to_same zero j a l m = rw (empty_of_size a l) (sym (trees_to-zero j))
trees_to_same (suc k) zero a l m = rw (empty_of_size a m) (trees_to-zero (suc k))
trees_to_same (suc k) (suc j) a l m =
    trees_by_same (eqb (size a) 1) (λ b. trees_to k b) (λ b. trees_to j b) a (λ b s. trees_to_same k j b (omega arith) (omega arith))

-- any fuel from the size on gives the list of all trees
pub trees_to-enough : (k a : ℕ) → size a ≤ k → trees_to k a ≡ trees_on a
unfolding trees_on
trees_to-enough k a l = trees_to_same k (size a) a l (omega arith)

-- ---- the list from those of the children

pub trees_on-zero : trees_on 0 ≡ []
unfolding trees_on
trees_on-zero = trees_to-zero (size 0)

trees_to-single : (k a : ℕ) → size a ≡ 1 → trees_to (suc k) a ≡ tip a ∷ []
unfolding trees_to
trees_to-single k a e = rw (eq-eqb (size a) 1 e)

pub trees_on-single : (a : ℕ) → size a ≡ 1 → trees_on a ≡ tip a ∷ []
trees_on-single a e = sym (trees_to-enough (suc zero) a (omega arith)) ∙ trees_to-single zero a e

trees_to-splits : (k a : ℕ) → (size a ≡ 1 → ⊥) → trees_to (suc k) a ≡ each (λ low. forks a (trees_to k low) (trees_to k (a - low))) (lows a)
unfolding trees_to
trees_to-splits k a f = rw (ne_eqb (size a) 1 f)

pub trees_on-splits : (a : ℕ) → (size a ≡ 1 → ⊥) → trees_on a ≡ each (λ low. forks a (trees_on low) (trees_on (a - low))) (lows a)
trees_on-splits a f =
    sym (trees_to-enough (suc (size a)) a (omega arith)) ∙ trees_to-splits (size a) a f
    ∙ splits_same (λ b. trees_to (size a) b) (λ b. trees_on b) a (λ b l. trees_to-enough (size a) b (omega arith))

-- ---- the list holds exactly the well-formed trees

pub tree-root : {a : ℕ} {t : Binary} → TreeOn a t → root t ≡ a
tree-root (one e) = refl
tree-root (two p v w) = refl

-- a tree of the list: a single species, or a fork of trees on a low part and on the rest
pub data Listed (a : ℕ) : Binary → Type 0 where
  alone : size a ≡ 1 → Listed a (tip a)
  split : {low : ℕ} {t u : Binary} → LowPart a low → Memᴰ t (trees_on low) → Memᴰ u (trees_on (a - low)) → Listed a (fork a t u)

pub among-trees_on : {a : ℕ} {t : Binary} → Memᴰ t (trees_on a) → Listed a t
among-trees_on {a} {t} h = go (ℕ_discrete (size a) 1)
  where
    go : Dec (size a ≡ 1) → Listed a t
    go (yes e) =
        subst (Listed a) (sym (Memᴰ.eq_of_singleton (subst (λ l. Memᴰ t l) (trees_on-single a e) h))) (alone e)
    go (no f) =
        let r = among-each (λ low. forks a (trees_on low) (trees_on (a - low))) (lows a) (subst (λ l. Memᴰ t l) (trees_on-splits a f) h) in
        let q = among-forks r.2 in
        subst (Listed a) (sym q.made) (split (among-lows a r.1) q.low_among q.other_among)

tip_on : {a b : ℕ} → Listed a (tip b) → TreeOn a (tip b)
tip_on (alone e) = one e

fork_on : {a b : ℕ} {t u : Binary} → Listed a (fork b t u) → ((c : ℕ) → Memᴰ t (trees_on c) → TreeOn c t)
    → ((c : ℕ) → Memᴰ u (trees_on c) → TreeOn c u) → TreeOn a (fork b t u)
fork_on {a} {b} {t} {u} (split {low} p m n) f g =
    let v = f low m in
    let e = sym (tree-root v) in
    two (subst (LowPart a) e p) (subst (λ c. TreeOn c t) e v) (subst (λ c. TreeOn (a - c) u) e (g (a - low) n))

pub listed_well_formed : (t : Binary) (a : ℕ) → Memᴰ t (trees_on a) → TreeOn a t
listed_well_formed (tip b) a h = tip_on (among-trees_on h)
listed_well_formed (fork b t u) a h = fork_on (among-trees_on h) (λ c m. listed_well_formed t c m) (λ c m. listed_well_formed u c m)

-- a list that has a low part has more than one species
not_single : {a low : ℕ} → LowPart a low → size a ≡ 1 → ⊥
not_single p e = omega (arith, low-part_two p)

pub well_formed_listed : {a : ℕ} {t : Binary} → TreeOn a t → Memᴰ t (trees_on a)
well_formed_listed (one {a} e) = rw (trees_on-single a e) (here refl)
well_formed_listed (two {a} {t} {u} p v w) =
    rw (trees_on-splits a (not_single p))
    (each-among (λ low. forks a (trees_on low) (trees_on (a - low))) (lows a) (lows-among p) (forks-among a (well_formed_listed v) (well_formed_listed w)))

-- ---- what a well-formed tree has

-- a tree on s species has 2 s - 1 clusters
pub tree-clusters : {a : ℕ} {t : Binary} → TreeOn a t → length (clusters_in t) + 1 ≡ 2 * size a
unfolding clusters_in
tree-clusters (one e) = omega arith
tree-clusters (two {a} {t} {u} p v w) =
    omega (arith, tree-clusters v, tree-clusters w, low_and_rest p, length-append (clusters_in t) (clusters_in u))
