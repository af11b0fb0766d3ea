-- The least trees on a cluster over allowed clusters: the list of them has each of them once, no other, in 01's order.
use Prim.Native.Nat.{ℕ, ◌≤◌}
use mathlib.Core.Path.{◌≡◌, refl, sym, ap, ◌∙◌}
use mathlib.Core.Logic.{◌⊎◌, inl, inr}
use mathlib.Core.Bool.{Bool, true}
use mathlib.Core.Option.{some, none}
use mathlib.Core.List.Memᴰ
use mathlib.Core.List.Memᴰ.{head as here}
use mathlib.Core.List.Memᴰ.{tail as there}
use mathlib.Core.List.{List, [], ◌∷◌, Memᴰ}
use native.Mathlib.Omega.{arith}
use lib.Dec.{leb}
use borrow.Author.Tests.{leb-true, le-leb}
use Rattle.trees.specs.Valid.{every}
use Rattle.trees.proofs.Booleans.{both}
use Rattle.splits.specs.BinaryTrees.{Binary, clusters_in}
use Rattle.splits.specs.WellFormed.{TreeOn}
use Rattle.splits.specs.Order.{Earlier, Ordered}
use Rattle.splits.specs.Least.{all, first, score_of, trees_over, least_trees, best}
use Rattle.splits.proofs.FirstLeast.{pick_all, pick_all_least, pick_all-empty, first-least}
use Rattle.splits.proofs.Enumeration.{earlier_other, ordered_of}
use Rattle.splits.proofs.OverAllowed.{among-those, those-among, ordered-those, among-trees_over, trees_over-among, trees_over-ordered}

-- ---- a test that all trees of a list pass

all_true : (test : Binary → Bool) (l : List Binary) → all test l ≡ true → (t : Binary) → Memᴰ t l → test t ≡ true
unfolding all
all_true test [] e t m = absurd (Memᴰ.not-nil m)
all_true test (u ∷ l) e t m = let b = both (test u) (all test l) e in go (Memᴰ.cases_cons m) b.0 (λ k. all_true test l b.1 t k)
  where
    go : (t ≡ u) ⊎ Memᴰ t l → test u ≡ true → (Memᴰ t l → test t ≡ true) → test t ≡ true
    go (inl p) k ih = ap test p ∙ k
    go (inr k) p ih = ih k

true_all : (test : Binary → Bool) (l : List Binary) → ((t : Binary) → Memᴰ t l → test t ≡ true) → all test l ≡ true
unfolding all
true_all test [] h = refl
true_all test (t ∷ l) h = rw (h t (here refl)) (true_all test l (λ u m. h u (there m)))

-- ---- the least trees

-- a tree on a over allowed clusters than which none of them scores less
pub record Least (w : ℕ → ℕ) (ok : ℕ → Bool) (a : ℕ) (t : Binary) : Type 0 where
  pub on : TreeOn a t
  pub over : every ok (clusters_in t) ≡ true
  pub least : (u : Binary) → TreeOn a u → every ok (clusters_in u) ≡ true → score_of w t ≤ score_of w u

-- no tree of the list scores less
abbrev pub least_test : (ℕ → ℕ) → List Binary → Binary → Bool
least_test w l t = all (λ u. leb (score_of w t) (score_of w u)) l

module _ (w : ℕ → ℕ) (ok : ℕ → Bool) (a : ℕ) where
  -- both tests of the definition say that a tree of the list of all is least
  pub tested_least : {t : Binary} → TreeOn a t → every ok (clusters_in t) ≡ true → least_test w (trees_over ok a) t ≡ true → Least w ok a t
  tested_least {t} v e k = record {
    on = v;
    over = e;
    least = λ u o f.
        leb-true (score_of w t) (score_of w u) (all_true (λ u. leb (score_of w t) (score_of w u)) (trees_over ok a) k u (trees_over-among ok a o f));
  }

  -- and a least tree passes
  pub least_tested : {t : Binary} → Least w ok a t → least_test w (trees_over ok a) t ≡ true
  least_tested {t} h =
      true_all (λ u. leb (score_of w t) (score_of w u)) (trees_over ok a)
      (λ u m. let r = among-trees_over ok a m in le-leb (score_of w t) (score_of w u) (h.least u r.0 r.1))

  -- what stands in the definition's list is least
  pub among_least : {t : Binary} → Memᴰ t (least_trees w (trees_over ok a)) → Least w ok a t
  unfolding least_trees
  among_least {t} m =
      let r = among-those (least_test w (trees_over ok a)) (trees_over ok a) m in
      let q = among-trees_over ok a r.0 in
      tested_least q.0 q.1 r.1

  -- and what is least stands there
  pub least_among : {t : Binary} → Least w ok a t → Memᴰ t (least_trees w (trees_over ok a))
  unfolding least_trees
  least_among h = those-among (least_test w (trees_over ok a)) (trees_over ok a) (trees_over-among ok a h.on h.over) (least_tested h)

  least_trees-ordered : Ordered Earlier (least_trees w (trees_over ok a))
  unfolding least_trees
  least_trees-ordered = ordered-those Earlier (least_test w (trees_over ok a)) (trees_over ok a) (trees_over-ordered ok a)

-- the list has every least tree on a over allowed clusters, no other, "each taken once" (#111), and in 01's order
pub record AllLeast (w : ℕ → ℕ) (ok : ℕ → Bool) (a : ℕ) (l : List Binary) : Type 0 where
  pub only : (t : Binary) → Memᴰ t l → Least w ok a t
  pub every : (t : Binary) → Least w ok a t → Memᴰ t l
  pub once : Ordered (λ (t u : Binary). t ≡ u → ⊥) l
  pub rising : Ordered Earlier l

-- the definition's list is that list
pub least_trees_all : (w : ℕ → ℕ) (ok : ℕ → Bool) (a : ℕ) → AllLeast w ok a (least_trees w (trees_over ok a))
least_trees_all w ok a = record {
  only = λ t m. among_least w ok a m;
  every = λ t h. least_among w ok a h;
  once = ordered_of Earlier (λ (t u : Binary). t ≡ u → ⊥) (least_trees w (trees_over ok a)) (λ t u h. earlier_other h) (least_trees-ordered w ok a);
  rising = least_trees-ordered w ok a;
}

-- ---- the best tree is the first of them

first_among : (l : List Binary) (t : Binary) → first l ≡ some t → Memᴰ t l
first_among [] t e = absurd (let z : ◌≡◌ {A = ℕ} 0 1 = cc in omega arith)
first_among (u ∷ l) t e = let k : t ≡ u = cc in here k

module _ (w : ℕ → ℕ) (ok : ℕ → Bool) (a : ℕ) where
  -- so it is least
  pub best_is_least : (t : Binary) → best w ok a ≡ some t → Least w ok a t
  unfolding best
  best_is_least t e = among_least w ok a (first_among (least_trees w (trees_over ok a)) t e)

  -- the choice among the trees over allowed clusters
  pub best_of_over : best w ok a ≡ pick_all (score_of w) (λ t. some t) (trees_over ok a)
  unfolding best
  best_of_over = first-least w (trees_over ok a)

  -- where there is no best tree there is none over allowed clusters
  pub none_over : best w ok a ≡ none → trees_over ok a ≡ []
  none_over e = pick_all-empty (score_of w) (trees_over ok a) (sym best_of_over ∙ e)

  -- none of them scores less than the best
  pub best-le : (t : Binary) → best w ok a ≡ some t → (u : Binary) → Memᴰ u (trees_over ok a) → score_of w t ≤ score_of w u
  best-le t e u m = pick_all_least (score_of w) (λ t. some t) (trees_over ok a) t (sym best_of_over ∙ e) u m u refl
