-- The list of all binary trees on a cluster is in 01's order, which is a strict total order on them.
use Prim.Native.Nat.{ℕ, zero, suc, ◌-◌, ◌<◌}
use mathlib.Core.Path.{◌≡◌, refl, sym, ap, ◌∙◌, subst, subst₂}
use mathlib.Core.Logic.{◌⊎◌, inl, inr}
use mathlib.Core.List.Memᴰ
use mathlib.Core.List.Memᴰ.{head as here}
use mathlib.Core.List.Memᴰ.{tail as there}
use mathlib.Core.List.{List, [], ◌∷◌, ◌++◌, map, Memᴰ}
use native.Mathlib.Decide.{ℕ_discrete, dec_lt}
use native.Mathlib.Omega.{arith}
use Rattle.clusters.specs.Sets.{size}
use Rattle.trees.specs.Lists.{Rising}
use Rattle.trees.proofs.Order.{rising-below}
use Rattle.splits.specs.BinaryTrees.{Binary, root, lows, each, forks, trees_on}
use Rattle.splits.specs.BinaryTrees.Binary.{tip, fork}
use Rattle.splits.specs.WellFormed.{TreeOn}
use Rattle.splits.specs.WellFormed.TreeOn.{one, two}
use Rattle.splits.specs.Order.{Earlier, Ordered}
use Rattle.splits.specs.Order.Earlier.{by_low_part, by_low_child, by_other_child}
use Rattle.splits.proofs.LowParts.{among-lows, rising-lows, low-part_two, low-smaller, rest-smaller}
use Rattle.splits.proofs.Membership.{Forked, among-each, among-map, among-forks, trees_on-single, trees_on-splits, listed_well_formed, well_formed_listed, tree-root}

-- ---- a strict total order

fork-low : {a b : ℕ} {t u v w : Binary} → fork a t u ≡ fork b v w → t ≡ v
fork-low e = cc

fork_other : {a b : ℕ} {t u v w : Binary} → fork a t u ≡ fork b v w → u ≡ w
fork_other e = cc

pub earlier_other : {t u : Binary} → Earlier t u → t ≡ u → ⊥
earlier_other (by_low_part l) e = omega (arith, ap root (fork-low e))
earlier_other (by_low_child r h) e = earlier_other h (fork-low e)
earlier_other (by_other_child h) e = earlier_other h (fork_other e)

pub earlier_irreflexive : {t : Binary} → Earlier t t → ⊥
earlier_irreflexive h = earlier_other h refl

less_less : {x y z : ℕ} → x < y → y < z → x < z
less_less l m = omega arith

less_same : {x y z : ℕ} → x < y → y ≡ z → x < z
less_same l e = omega arith

same_less : {x y z : ℕ} → x ≡ y → y < z → x < z
same_less e m = omega arith

pub earlier_transitive : {t u v : Binary} → Earlier t u → Earlier u v → Earlier t v
earlier_transitive (by_low_part l) (by_low_part m) = by_low_part (less_less l m)
earlier_transitive (by_low_part l) (by_low_child e h) = by_low_part (less_same l e)
earlier_transitive (by_low_part l) (by_other_child h) = by_low_part l
earlier_transitive (by_low_child e h) (by_low_part m) = by_low_part (same_less e m)
earlier_transitive (by_low_child e h) (by_low_child f k) = by_low_child (e ∙ f) (earlier_transitive h k)
earlier_transitive (by_low_child e h) (by_other_child k) = by_low_child e h
earlier_transitive (by_other_child h) (by_low_part m) = by_low_part m
earlier_transitive (by_other_child h) (by_low_child f k) = by_low_child f k
earlier_transitive (by_other_child h) (by_other_child k) = by_other_child (earlier_transitive h k)

-- two trees on the same species are equal, or one is earlier
abbrev pub Compared : Binary → Binary → Type 0
Compared t u = (t ≡ u) ⊎ (Earlier t u ⊎ Earlier u t)

other_compared : (a : ℕ) (t : Binary) {u u' : Binary} → Compared u u' → Compared (fork a t u) (fork a t u')
other_compared a t (inl e) = inl (ap (fork a t) e)
other_compared a t (inr (inl h)) = inr (inl (by_other_child h))
other_compared a t (inr (inr h)) = inr (inr (by_other_child h))

low-compared :
    (a : ℕ) {t t' : Binary} (u u' : Binary) → root t ≡ root t' → Compared t t' → (t ≡ t' → Compared u u')
    → Compared (fork a t u) (fork a t' u')
low-compared a {t} {t'} u u' r (inl e) f = subst (λ v. Compared (fork a t u) (fork a v u')) e (other_compared a t (f e))
low-compared a u u' r (inr (inl h)) f = inr (inl (by_low_child r h))
low-compared a u u' r (inr (inr h)) f = inr (inr (by_low_child (sym r) h))

pub earlier-total : {a : ℕ} {t u : Binary} → TreeOn a t → TreeOn a u → Compared t u
earlier-total (one e) (one f) = inl refl
earlier-total (one e) (two p v w) = absurd (omega (arith, low-part_two p))
earlier-total (two p v w) (one e) = absurd (omega (arith, low-part_two p))
earlier-total {a} (two {t = t} {u = u} p v w) (two {t = t'} {u = u'} p' v' w') =
    go (dec_lt (root t) (root t')) (dec_lt (root t') (root t)) (λ x. earlier-total v x) (λ x. earlier-total w x)
  where
    go : Dec (root t < root t') → Dec (root t' < root t) → (TreeOn (root t) t' → Compared t t') → (TreeOn (a - root t) u' → Compared u u')
        → Compared (fork a t u) (fork a t' u')
    go (yes l) d low other = inr (inl (by_low_part l))
    go (no f) (yes l) low other = inr (inr (by_low_part l))
    go (no f) (no g) low other =
        let r : root t ≡ root t' = omega (arith, f, g) in
        low-compared a u u' r (low (subst (λ b. TreeOn b t') (sym r) v')) (λ e. other (subst (λ b. TreeOn (a - b) u') (sym r) w'))

-- ---- lists in order

module _ {A : Type 0} (R : A → A → Type 0) where
  ordered_append : (l k : List A) → Ordered R l → Ordered R k → ((x y : A) → Memᴰ x l → Memᴰ y k → R x y) → Ordered R (l ++ k)
  unfolding Ordered
  ordered_append [] k p q h = q
  ordered_append (x ∷ l) k p q h =
      (λ y m. go y (Memᴰ.append_cases l m), ordered_append l k p.1 q (λ y z m n. h y z (there m) n))
    where
      go : (y : A) → Memᴰ y l ⊎ Memᴰ y k → R x y
      go y (inl m) = p.0 y m
      go y (inr m) = h x y (here refl) m

  pub ordered_one : (x : A) → Ordered R (x ∷ [])
  unfolding Ordered
  ordered_one x = (λ y m. absurd (Memᴰ.not-nil m), tt)

pub ordered_of : {A : Type 0} (R S : A → A → Type 0) (l : List A) → ((x y : A) → R x y → S x y) → Ordered R l → Ordered S l
unfolding Ordered
ordered_of R S [] h p = tt
ordered_of R S (x ∷ l) h p = (λ y m. h x y (p.0 y m), ordered_of R S l h p.1)

module _ {A B : Type 0} (R : A → A → Type 0) (S : B → B → Type 0) where
  ordered-map : (f : A → B) (l : List A) → ((x y : A) → R x y → S (f x) (f y)) → Ordered R l → Ordered S (map f l)
  unfolding Ordered
  ordered-map f [] h p = tt
  ordered-map f (x ∷ l) h p =
      (λ y m. let k = among-map f l m in subst (S (f x)) (sym k.2) (h x k.0 (p.0 k.0 k.1)), ordered-map f l h p.1)

  pub ordered-each : (f : A → List B) (l : List A) → Ordered R l → ((x : A) → Memᴰ x l → Ordered S (f x))
      → ((x y : A) → Memᴰ x l → Memᴰ y l → R x y → (s t : B) → Memᴰ s (f x) → Memᴰ t (f y) → S s t) → Ordered S (each f l)
  unfolding Ordered each
  ordered-each f [] p q h = tt
  ordered-each f (x ∷ l) p q h =
      ordered_append S (f x) (each f l) (q x (here refl))
      (ordered-each f l p.1 (λ y m. q y (there m)) (λ y z m n. h y z (there m) (there n)))
      (λ s t m n. let k = among-each f l n in h x k.0 (here refl) (there k.1) (p.0 k.0 k.1) s t m k.2)

ordered-rising : (l : List ℕ) → Rising l → Ordered (λ (x y : ℕ). x < y) l
unfolding Ordered Rising
ordered-rising [] r = tt
ordered-rising (x ∷ l) r = (λ y m. rising-below l r m, ordered-rising l r.1)

-- ---- the trees on a cluster are in order

forks-ordered : (a l : ℕ) (ts us : List Binary) → ((t : Binary) → Memᴰ t ts → root t ≡ l) → Ordered Earlier ts → Ordered Earlier us
    → Ordered Earlier (forks a ts us)
unfolding forks
forks-ordered a l ts us r p q =
    ordered-each Earlier Earlier (λ t. map (λ u. fork a t u) us) ts p (λ t m. ordered-map Earlier Earlier (λ u. fork a t u) us (λ x y h. by_other_child h) q)
    (λ t t' m m' h v w i j. apart t t' m m' h v w (among-map (λ u. fork a t u) us i) (among-map (λ u. fork a t' u) us j))
  where
    apart : (t t' : Binary) → Memᴰ t ts → Memᴰ t' ts → Earlier t t' → (v w : Binary)
        → (u : Binary) × Memᴰ u us × (v ≡ fork a t u) → (u : Binary) × Memᴰ u us × (w ≡ fork a t' u) → Earlier v w
    apart t t' m m' h v w i j =
        subst₂ Earlier (sym i.2) (sym j.2) (by_low_child (r t m ∙ sym (r t' m')) h)

splits-ordered : (a : ℕ) → ((b : ℕ) → size b < size a → Ordered Earlier (trees_on b))
    → Ordered Earlier (each (λ l. forks a (trees_on l) (trees_on (a - l))) (lows a))
splits-ordered a ih =
    ordered-each (λ (x y : ℕ). x < y) Earlier (λ l. forks a (trees_on l) (trees_on (a - l))) (lows a) (ordered-rising (lows a) (rising-lows a))
    (λ l m.
    let p = among-lows a m in
    forks-ordered a l (trees_on l) (trees_on (a - l)) (λ t n. tree-root (listed_well_formed t l n)) (ih l (low-smaller p)) (ih (a - l) (rest-smaller p)))
    (λ x y m n l s t i j. across x y l s t (among-forks i) (among-forks j))
  where
    across : (x y : ℕ) → x < y → (s t : Binary) → Forked a (trees_on x) (trees_on (a - x)) s → Forked a (trees_on y) (trees_on (a - y)) t → Earlier s t
    across x y l s t i j =
        subst₂ Earlier (sym i.made) (sym j.made)
        (by_low_part (omega (arith, tree-root (listed_well_formed i.low x i.low_among), tree-root (listed_well_formed j.low y j.low_among))))

ordered_by_size : (k a : ℕ) → size a < k → Ordered Earlier (trees_on a)
ordered_by_size zero a h = absurd (omega arith)
ordered_by_size (suc k) a h = go (ℕ_discrete (size a) 1) (λ b l. ordered_by_size k b (omega arith))
  where
    go : Dec (size a ≡ 1) → ((b : ℕ) → size b < size a → Ordered Earlier (trees_on b)) → Ordered Earlier (trees_on a)
    go (yes e) ih = rw (trees_on-single a e) (ordered_one Earlier (tip a))
    go (no f) ih = rw (trees_on-splits a f) (splits-ordered a ih)

pub trees_on-ordered : (a : ℕ) → Ordered Earlier (trees_on a)
trees_on-ordered a = ordered_by_size (suc (size a)) a (omega arith)

-- ---- all of it in one place

-- the list has every binary tree on a, no other, each once, and in 01's order
pub record AllTrees (a : ℕ) (l : List Binary) : Type 0 where
  pub only : (t : Binary) → Memᴰ t l → TreeOn a t
  pub every : (t : Binary) → TreeOn a t → Memᴰ t l
  pub once : Ordered (λ (t u : Binary). t ≡ u → ⊥) l
  pub rising : Ordered Earlier l

pub trees_on_all : (a : ℕ) → AllTrees a (trees_on a)
trees_on_all a = record {
  only = λ t m. listed_well_formed t a m;
  every = λ t v. well_formed_listed v;
  once = ordered_of Earlier (λ (t u : Binary). t ≡ u → ⊥) (trees_on a) (λ t u h. earlier_other h) (trees_on-ordered a);
  rising = trees_on-ordered a;
}
