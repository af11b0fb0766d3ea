-- The first least-scoring tree of a list, as a fold: of two trees the first is kept unless the second scores less. The laws of that choice.
use Prim.Native.Nat.{ℕ, ◌≤◌, ◌<◌}
use mathlib.Core.Path.{◌≡◌, refl, sym, ap, ◌∙◌}
use mathlib.Core.Logic.{◌⊎◌, inl, inr}
use mathlib.Core.Bool.{Bool, true, false, ◌&&◌}
use mathlib.Core.Option.{Option, some, none}
use mathlib.Core.List.Memᴰ
use mathlib.Core.List.Memᴰ.{head as here}
use mathlib.Core.List.Memᴰ.{tail as there}
use mathlib.Core.List.{List, [], ◌∷◌, ◌++◌, map, Memᴰ}
use native.Mathlib.Omega.{arith}
use lib.Dec.{leb}
use borrow.Author.Tests.{leb-true, leb-false, le-leb, lt-leb}
use Rattle.splits.specs.BinaryTrees.{Binary, each}
use Rattle.splits.specs.Least.{keep_tree, those, all, score_of, least_trees, first}

-- ---- the choice between two

abbrev pub chosen : Bool → Binary → Binary → Option Binary
chosen true t u = some t
chosen false t u = some u

-- the first of the two, unless the second scores less
unfoldable pub pick : (Binary → ℕ) → Option Binary → Option Binary → Option Binary
pick s none y = y
pick s (some t) none = some t
pick s (some t) (some u) = chosen (leb (s t) (s u)) t u

pub pick_none : (s : Binary → ℕ) (x : Option Binary) → pick s x none ≡ x
unfolding pick
pick_none s none = refl
pick_none s (some t) = refl

pub pick_first : (s : Binary → ℕ) (t u : Binary) → s t ≤ s u → pick s (some t) (some u) ≡ some t
unfolding pick
pick_first s t u l = rw (le-leb (s t) (s u) l)

pub pick_second : (s : Binary → ℕ) (t u : Binary) → s u < s t → pick s (some t) (some u) ≡ some u
unfolding pick
pick_second s t u l = rw (lt-leb (s t) (s u) l)

pub pick_assoc : (s : Binary → ℕ) (x y z : Option Binary) → pick s (pick s x y) z ≡ pick s x (pick s y z)
unfolding pick
pick_assoc s none y z = refl
pick_assoc s (some t) none z = refl
pick_assoc s (some t) (some u) none = pick_none s (pick s (some t) (some u))
pick_assoc s (some t) (some u) (some v) = go (leb (s t) (s u)) refl (leb (s u) (s v)) refl
  where
    go : (b : Bool) → leb (s t) (s u) ≡ b → (c : Bool) → leb (s u) (s v) ≡ c
        → pick s (chosen b t u) (some v) ≡ pick s (some t) (chosen c u v)
    go true p true q =
        pick_first s t v (omega (arith, leb-true (s t) (s u) p, leb-true (s u) (s v) q)) ∙ sym (pick_first s t u (leb-true (s t) (s u) p))
    go true p false q = refl
    go false p true q =
        pick_first s u v (leb-true (s u) (s v) q) ∙ sym (pick_second s t u (leb-false (s t) (s u) p))
    go false p false q =
        let l : s v < s t = omega (arith, leb-false (s t) (s u) p, leb-false (s u) (s v) q) in
        pick_second s u v (leb-false (s u) (s v) q) ∙ sym (pick_second s t v l)

-- ---- the choice among the answers to a list of questions

unfoldable pub pick_all : {A : Type 0} → (Binary → ℕ) → (A → Option Binary) → List A → Option Binary
pick_all s f [] = none
pick_all s f (x ∷ l) = pick s (f x) (pick_all s f l)

module _ {A : Type 0} (s : Binary → ℕ) where
  pub pick_all_append : (f : A → Option Binary) (l k : List A) → pick_all s f (l ++ k) ≡ pick s (pick_all s f l) (pick_all s f k)
  unfolding pick_all pick
  pick_all_append f [] k = refl
  pick_all_append f (x ∷ l) k = ap (pick s (f x)) (pick_all_append f l k) ∙ sym (pick_assoc s (f x) (pick_all s f l) (pick_all s f k))

  pub pick_all_same : (f g : A → Option Binary) (l : List A) → ((x : A) → Memᴰ x l → f x ≡ g x) → pick_all s f l ≡ pick_all s g l
  unfolding pick_all
  pick_all_same f g [] h = refl
  pick_all_same f g (x ∷ l) h = rw (h x (here refl), pick_all_same f g l (λ y m. h y (there m)))

  -- where all answers are none, so is the choice
  pub pick_all_none : (f : A → Option Binary) (l : List A) → ((x : A) → Memᴰ x l → f x ≡ none) → pick_all s f l ≡ none
  unfolding pick_all pick
  pick_all_none f [] h = refl
  pick_all_none f (x ∷ l) h = rw (h x (here refl)) (pick_all_none f l (λ y m. h y (there m)))

module _ {A B : Type 0} (s : Binary → ℕ) where
  pub pick_all-each : (f : B → Option Binary) (g : A → List B) (l : List A) → pick_all s f (each g l) ≡ pick_all s (λ x. pick_all s f (g x)) l
  unfolding each pick_all
  pick_all-each f g [] = refl
  pick_all-each f g (x ∷ l) = pick_all_append s f (g x) (each g l) ∙ ap (pick s (pick_all s f (g x))) (pick_all-each f g l)

  pub pick_all-map : (f : B → Option Binary) (g : A → B) (l : List A) → pick_all s f (map g l) ≡ pick_all s (λ x. f (g x)) l
  unfolding pick_all
  pick_all-map f g [] = refl
  pick_all-map f g (x ∷ l) = ap (pick s (f (g x))) (pick_all-map f g l)

-- a function that keeps the choice between two keeps the choice among a list
pub pick_all_through : {A : Type 0} (s : Binary → ℕ) (j : Option Binary → Option Binary) → j none ≡ none
    → ((x y : Option Binary) → pick s (j x) (j y) ≡ j (pick s x y))
    → (f : A → Option Binary) (l : List A) → pick_all s (λ x. j (f x)) l ≡ j (pick_all s f l)
unfolding pick_all
pick_all_through s j z h f [] = sym z
pick_all_through s j z h f (x ∷ l) = ap (pick s (j (f x))) (pick_all_through s j z h f l) ∙ h (f x) (pick_all s f l)

-- what is chosen is the answer to one of the questions
pub pick_all_from : {A : Type 0} (s : Binary → ℕ) (f : A → Option Binary) (l : List A) (t : Binary)
    → pick_all s f l ≡ some t → (x : A) × Memᴰ x l × (f x ≡ some t)
unfolding pick_all pick
pick_all_from s f [] t e = absurd (let z : ◌≡◌ {A = ℕ} 0 1 = cc in omega arith)
pick_all_from {A} s f (x ∷ l) t e = go (f x) refl (pick_all s f l) refl e (λ u. pick_all_from s f l u)
  where
    later : (x : A) (l : List A) (t : Binary) → (y : A) × Memᴰ y l × (f y ≡ some t) → (y : A) × Memᴰ y (x ∷ l) × (f y ≡ some t)
    later x l t r = (r.0, there r.1, r.2)

    by : (b : Bool) (v u : Binary) → f x ≡ some v → pick_all s f l ≡ some u → chosen b v u ≡ some t
        → ((u : Binary) → pick_all s f l ≡ some u → (y : A) × Memᴰ y l × (f y ≡ some u)) → (y : A) × Memᴰ y (x ∷ l) × (f y ≡ some t)
    by true v u p q e ih = (x, here refl, p ∙ e)
    by false v u p q e ih = later x l t (ih t (q ∙ e))

    go : (o : Option Binary) → f x ≡ o → (r : Option Binary) → pick_all s f l ≡ r → pick s o r ≡ some t
        → ((u : Binary) → pick_all s f l ≡ some u → (y : A) × Memᴰ y l × (f y ≡ some u)) → (y : A) × Memᴰ y (x ∷ l) × (f y ≡ some t)
    go none p r q e ih = later x l t (ih t (q ∙ e))
    go (some v) p none q e ih = (x, here refl, p ∙ e)
    go (some v) p (some u) q e ih = by (leb (s v) (s u)) v u p q e ih

-- the choice scores no more than either
pick_least : (s : Binary → ℕ) (x y : Option Binary) (t u : Binary) → pick s x y ≡ some t → (x ≡ some u) ⊎ (y ≡ some u) → s t ≤ s u
unfolding pick
pick_least s none y t u e (inl p) = absurd (let z : ◌≡◌ {A = ℕ} 0 1 = cc in omega arith)
pick_least s none y t u e (inr p) = let q : t ≡ u = cc in omega (arith, ap s q)
pick_least s (some v) none t u e (inl p) = let q : t ≡ u = cc in omega (arith, ap s q)
pick_least s (some v) none t u e (inr p) = absurd (let z : ◌≡◌ {A = ℕ} 0 1 = cc in omega arith)
pick_least s (some v) (some v') t u e d = go (leb (s v) (s v')) refl e d
  where
    go : (b : Bool) → leb (s v) (s v') ≡ b → chosen b v v' ≡ some t → (some v ≡ some u) ⊎ (some v' ≡ some u) → s t ≤ s u
    go true l e (inl p) = let q : t ≡ u = cc in omega (arith, ap s q)
    go true l e (inr p) = let q : v ≡ t = cc in let r : v' ≡ u = cc in omega (arith, ap s q, ap s r, leb-true (s v) (s v') l)
    go false l e (inl p) = let q : v' ≡ t = cc in let r : v ≡ u = cc in omega (arith, ap s q, ap s r, leb-false (s v) (s v') l)
    go false l e (inr p) = let q : t ≡ u = cc in omega (arith, ap s q)

pick-nothing : (s : Binary → ℕ) (x y : Option Binary) → pick s x y ≡ none → (x ≡ none) × (y ≡ none)
unfolding pick
pick-nothing s none y e = (refl, e)
pick-nothing s (some v) none e = absurd (let z : ◌≡◌ {A = ℕ} 0 1 = cc in omega arith)
pick-nothing s (some v) (some u) e = absurd (go (leb (s v) (s u)) e)
  where
    go : (b : Bool) → chosen b v u ≡ none → ⊥
    go true e = let z : ◌≡◌ {A = ℕ} 0 1 = cc in omega arith
    go false e = let z : ◌≡◌ {A = ℕ} 0 1 = cc in omega arith

module _ {A : Type 0} (s : Binary → ℕ) (f : A → Option Binary) where
  -- where nothing is chosen there was no answer
  pub pick_all-missed : (l : List A) → pick_all s f l ≡ none → (x : A) → Memᴰ x l → f x ≡ none
  unfolding pick_all
  pick_all-missed [] e x m = absurd (Memᴰ.not-nil m)
  pick_all-missed (y ∷ l) e x m = go (pick-nothing s (f y) (pick_all s f l) e) (Memᴰ.cases_cons m) (λ q k. pick_all-missed l q x k)
    where
      go : (f y ≡ none) × (pick_all s f l ≡ none) → (x ≡ y) ⊎ Memᴰ x l → (pick_all s f l ≡ none → Memᴰ x l → f x ≡ none) → f x ≡ none
      go n (inl q) ih = ap f q ∙ n.0
      go n (inr k) ih = ih n.1 k

  -- no answer scores less than the chosen one
  pub pick_all_least : (l : List A) (t : Binary) → pick_all s f l ≡ some t → (x : A) → Memᴰ x l → (u : Binary) → f x ≡ some u → s t ≤ s u
  unfolding pick_all
  pick_all_least [] t e x m u p = absurd (Memᴰ.not-nil m)
  pick_all_least (y ∷ l) t e x m u p = go (Memᴰ.cases_cons m) (pick_all s f l) refl (λ v q k. pick_all_least l v q x k u p)
    where
      go :
          (x ≡ y) ⊎ Memᴰ x l → (o : Option Binary) → pick_all s f l ≡ o
          → ((v : Binary) → pick_all s f l ≡ some v → Memᴰ x l → s v ≤ s u) → s t ≤ s u
      go (inl q) o r ih = pick_least s (f y) (pick_all s f l) t u e (inl (sym (ap f q) ∙ p))
      go (inr k) none r ih = absurd (let n = pick_all-missed l r x k in let z : ◌≡◌ {A = ℕ} 0 1 = cc in omega arith)
      go (inr k) (some v) r ih = let h = pick_least s (f y) (pick_all s f l) t v e (inr r) in let j = ih v r k in omega arith

-- ---- the filter inside the fold

abbrev pub gate_by : Bool → Binary → Option Binary
gate_by true t = some t
gate_by false t = none

pub pick_all-those : (s : Binary → ℕ) (test : Binary → Bool) (l : List Binary)
    → pick_all s (λ t. some t) (those test l) ≡ pick_all s (λ t. gate_by (test t) t) l
unfolding pick_all those pick
pick_all-those s test [] = refl
pick_all-those s test (t ∷ l) = go (test t) (pick_all-those s test l)
  where
    go : (b : Bool) → pick_all s (λ u. some u) (those test l) ≡ pick_all s (λ u. gate_by (test u) u) l
        → pick_all s (λ u. some u) (keep_tree b t (those test l)) ≡ pick s (gate_by b t) (pick_all s (λ u. gate_by (test u) u) l)
    go true ih = ap (pick s (some t)) ih
    go false ih = ih

-- ---- the first least of a list is the choice among its trees

-- there is a choice unless the list is empty
pub pick_all-empty : (s : Binary → ℕ) (l : List Binary) → pick_all s (λ u. some u) l ≡ none → l ≡ []
unfolding pick_all pick
pick_all-empty s [] e = refl
pick_all-empty s (t ∷ l) e = absurd (never (pick_all s (λ u. some u) l) e)
  where
    by : (b : Bool) (u : Binary) → chosen b t u ≡ none → ⊥
    by true u e = let z : ◌≡◌ {A = ℕ} 0 1 = cc in omega arith
    by false u e = let z : ◌≡◌ {A = ℕ} 0 1 = cc in omega arith

    never : (o : Option Binary) → pick s (some t) o ≡ none → ⊥
    never none e = let z : ◌≡◌ {A = ℕ} 0 1 = cc in omega arith
    never (some u) e = by (leb (s t) (s u)) u e

some_same : {t u : Binary} → some t ≡ some u → t ≡ u
some_same e = cc

-- a number that is at most the smaller of two is at most both
at_most_both : (m x y : ℕ) → x ≤ y → (leb m x && leb m y) ≡ leb m x
at_most_both m x y l = go (leb m x) refl
  where
    go : (b : Bool) → leb m x ≡ b → (b && leb m y) ≡ b
    go true p = le-leb m y (omega (arith, leb-true m x p))
    go false p = refl

at_most_both_second : (m x y : ℕ) → y < x → (leb m x && leb m y) ≡ leb m y
at_most_both_second m x y l = go (leb m x) refl
  where
    go : (b : Bool) → leb m x ≡ b → (b && leb m y) ≡ leb m y
    go true p = refl
    go false p = sym (lt-leb m y (omega (arith, leb-false m x p)))

-- a number is at most all scores of a list when it is at most the score of the chosen tree
pub all_at_most : (s : Binary → ℕ) (m : ℕ) (l : List Binary) (t : Binary) → pick_all s (λ u. some u) l ≡ some t
    → all (λ u. leb m (s u)) l ≡ leb m (s t)
unfolding all pick_all pick
all_at_most s m [] t e = absurd (let z : ◌≡◌ {A = ℕ} 0 1 = cc in omega arith)
all_at_most s m (x ∷ l) t e = go (pick_all s (λ u. some u) l) refl e (λ u. all_at_most s m l u)
  where
    alone : (b : Bool) → (b && true) ≡ b
    alone true = refl
    alone false = refl

    by : (b : Bool) (u : Binary) → leb (s x) (s u) ≡ b → chosen b x u ≡ some t → (leb m (s x) && leb m (s u)) ≡ leb m (s t)
    by true u p e = at_most_both m (s x) (s u) (leb-true (s x) (s u) p) ∙ ap (λ v. leb m (s v)) (some_same e)
    by false u p e = at_most_both_second m (s x) (s u) (leb-false (s x) (s u) p) ∙ ap (λ v. leb m (s v)) (some_same e)

    go : (o : Option Binary) → pick_all s (λ u. some u) l ≡ o → pick s (some x) o ≡ some t
        → ((u : Binary) → pick_all s (λ u. some u) l ≡ some u → all (λ u. leb m (s u)) l ≡ leb m (s u))
        → (leb m (s x) && all (λ u. leb m (s u)) l) ≡ leb m (s t)
    go none p e ih = rw (pick_all-empty s l p) (alone (leb m (s x)) ∙ ap (λ v. leb m (s v)) (some_same e))
    go (some u) p e ih = rw (ih u p) (by (leb (s x) (s u)) u refl e)

-- tests that agree on a list keep the same trees of it
pub those_same : (f g : Binary → Bool) (l : List Binary) → ((t : Binary) → Memᴰ t l → f t ≡ g t) → those f l ≡ those g l
unfolding those
those_same f g [] h = refl
those_same f g (t ∷ l) h = rw (h t (here refl), those_same f g l (λ u m. h u (there m)))

-- the least trees of a list are those that score no more than the chosen one
pub least_those : (w : ℕ → ℕ) (l : List Binary) (t : Binary) → pick_all (score_of w) (λ u. some u) l ≡ some t
    → least_trees w l ≡ those (λ u. leb (score_of w u) (score_of w t)) l
unfolding least_trees
least_those w l t p =
    those_same (λ x. all (λ u. leb (score_of w x) (score_of w u)) l) (λ x. leb (score_of w x) (score_of w t)) l
    (λ x m. all_at_most (score_of w) (score_of w x) l t p)

-- the first tree that scores no more than the chosen one is the chosen one
first_at_most : (s : Binary → ℕ) (l : List Binary) (t : Binary) → pick_all s (λ u. some u) l ≡ some t
    → first (those (λ u. leb (s u) (s t)) l) ≡ some t
unfolding those pick_all pick
first_at_most s [] t e = absurd (let z : ◌≡◌ {A = ℕ} 0 1 = cc in omega arith)
first_at_most s (x ∷ l) t e = go (pick_all s (λ u. some u) l) refl e (λ u. first_at_most s l u)
  where
    front : (k : List Binary) → x ≡ t → first (keep_tree (leb (s x) (s t)) x k) ≡ some t
    front k p = rw (le-leb (s x) (s t) (omega (arith, ap s p))) (ap some p)

    by : (b : Bool) (u : Binary) → leb (s x) (s u) ≡ b → chosen b x u ≡ some t → first (those (λ v. leb (s v) (s u)) l) ≡ some u
        → first (keep_tree (leb (s x) (s t)) x (those (λ v. leb (s v) (s t)) l)) ≡ some t
    by true u p e ih = front (those (λ v. leb (s v) (s t)) l) (some_same e)
    by false u p e ih = rw (← some_same e, lt-leb (s x) (s u) (leb-false (s x) (s u) p)) ih

    go : (o : Option Binary) → pick_all s (λ u. some u) l ≡ o → pick s (some x) o ≡ some t
        → ((u : Binary) → pick_all s (λ u. some u) l ≡ some u → first (those (λ v. leb (s v) (s u)) l) ≡ some u)
        → first (keep_tree (leb (s x) (s t)) x (those (λ v. leb (s v) (s t)) l)) ≡ some t
    go none p e ih = front (those (λ v. leb (s v) (s t)) l) (some_same e)
    go (some u) p e ih = by (leb (s x) (s u)) u refl e (ih u p)

-- the definition's first least tree is the choice among all trees of the list
pub first-least : (w : ℕ → ℕ) (l : List Binary) → first (least_trees w l) ≡ pick_all (score_of w) (λ t. some t) l
unfolding least_trees those
first-least w l = go (pick_all (score_of w) (λ t. some t) l) refl
  where
    go : (o : Option Binary) → pick_all (score_of w) (λ t. some t) l ≡ o → first (least_trees w l) ≡ o
    go none p = rw (pick_all-empty (score_of w) l p)
    go (some t) p = ap first (least_those w l t p) ∙ first_at_most (score_of w) l t p
