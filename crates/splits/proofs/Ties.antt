-- How many trees are as good as the best one, from the numbers for both parts of each least split.
use Prim.Native.Nat.{ℕ, ◌+◌, ◌-◌, ◌*◌, ◌≤◌}
use mathlib.Core.Path.{◌≡◌, refl, sym, ap, ap₂, ◌∙◌, subst}
use mathlib.Core.Bool.{Bool, true, false}
use mathlib.Core.Option.{Option, some, none}
use mathlib.Core.List.Memᴰ
use mathlib.Core.List.Memᴰ.{head as here}
use mathlib.Core.List.Memᴰ.{tail as there}
use mathlib.Core.List.{List, [], ◌∷◌, map, Memᴰ}
use native.Mathlib.Decide.{ℕ_discrete}
use native.Mathlib.Omega.{arith}
use lib.Dec.{eqb, leb}
use lib.ListN.{length}
use borrow.Author.Tests.{eq-eqb, ne_eqb, le-leb, lt-leb}
use Rattle.clusters.specs.Sets.{size}
use Rattle.trees.specs.Lists.{total}
use Rattle.trees.specs.Valid.{every}
use Rattle.trees.proofs.Totals.{total_same}
use Rattle.splits.specs.BinaryTrees.{Binary, clusters_in, lows, each, forks}
use Rattle.splits.specs.BinaryTrees.Binary.{tip, fork}
use Rattle.splits.specs.WellFormed.{LowPart, TreeOn}
use Rattle.splits.specs.Least.{those, score_of, trees_over, least_trees, best, no_tree, score_entry, split_entry}
use Rattle.splits.specs.Ties.{tie_entry}
use Rattle.splits.specs.Work.{Light, only, tied_at, ties_over}
use Rattle.splits.proofs.LowParts.{among-lows, lows-among, low_some}
use Rattle.splits.proofs.FirstLeast.{least_those}
use Rattle.splits.proofs.Membership.{each-among, among-forks, forks-among, empty_of_size}
use Rattle.splits.proofs.Recurrence.{score-tip, score-fork, score-bound, entry, best-zero, best-refused, best-listed, best_on_lem, allowed_of_best, entry-single, split-zero, split-single, best-fork}
use Rattle.splits.proofs.OverAllowed.{total-each, length-those, among-trees_over, trees_over-among, trees_over-single, trees_over-splits}
use Rattle.splits.proofs.LeastTrees.{Least, best_of_over, none_over, best-le}

-- ---- sums

total-map : {A B : Type 0} (g : B → ℕ) (f : A → B) (l : List A) → total (map g (map f l)) ≡ total (map (λ x. g (f x)) l)
unfolding total
total-map g f [] = refl
total-map g f (x ∷ l) = ap (λ n. g (f x) + n) (total-map g f l)

total_none : {A : Type 0} (f : A → ℕ) (l : List A) → ((x : A) → Memᴰ x l → f x ≡ 0) → total (map f l) ≡ 0
unfolding total
total_none f [] h = refl
total_none f (x ∷ l) h = omega (arith, h x (here refl), total_none f l (λ y m. h y (there m)))

total-times : {A : Type 0} (c : ℕ) (f : A → ℕ) (l : List A) → total (map (λ x. c * f x) l) ≡ c * total (map f l)
unfolding total
total-times c f [] = omega arith
total-times c f (x ∷ l) = omega (arith, total-times c f l)

-- ---- the least score of a cluster

module _ (w : ℕ → ℕ) (ok : ℕ → Bool) (a : ℕ) where
  -- no tree over allowed clusters scores less than the entry of its cluster
  pub entry-le : (u : Binary) → Memᴰ u (trees_over ok a) → entry w ok a ≤ score_of w u
  entry-le u m = go (best w ok a) refl
    where
      go : (o : Option Binary) → best w ok a ≡ o → score_entry w o ≤ score_of w u
      go none e = absurd (Memᴰ.not-nil (subst (λ l. Memᴰ u l) (none_over w ok a e) m))
      go (some t) e = best-le w ok a t e u m

  best_in : (t : Binary) → best w ok a ≡ some t → Memᴰ t (trees_over ok a)
  best_in t e = trees_over-among ok a (best_on_lem w ok a t e) (best-listed w ok a t e).1

  -- where there is a tree, one has that score
  entry-reached : (u : Binary) → Memᴰ u (trees_over ok a) → (t : Binary) × Memᴰ t (trees_over ok a) × (score_of w t ≡ entry w ok a)
  entry-reached u m = go (best w ok a) refl
    where
      go : (o : Option Binary) → best w ok a ≡ o → (t : Binary) × Memᴰ t (trees_over ok a) × (score_of w t ≡ score_entry w o)
      go none e = absurd (Memᴰ.not-nil (subst (λ l. Memᴰ u l) (none_over w ok a e) m))
      go (some t) e = (t, best_in t e, refl)

  -- and the least trees have it
  pub least_score_lem : (t : Binary) → Least w ok a t → score_of w t ≡ entry w ok a
  least_score_lem t h =
      let m = trees_over-among ok a h.on h.over in
      let r = entry-reached t m in
      let q = among-trees_over ok a r.1 in
      omega (arith, entry-le t m, h.least r.0 q.0 q.1, r.2)

  -- the trees that have it are least
  pub score_least : (t : Binary) → TreeOn a t → every ok (clusters_in t) ≡ true → score_of w t ≤ entry w ok a → Least w ok a t
  score_least t v e l = record { on = v; over = e; least = λ u o f. omega (arith, entry-le u (trees_over-among ok a o f)) }

-- ---- the number as a sum over all trees over allowed clusters

-- 1 for a tree of this score, 0 for any other
at_score : (ℕ → ℕ) → ℕ → Binary → ℕ
at_score w m t = only (eqb (score_of w t) m) 1

leb-eqb : (n m : ℕ) → m ≤ n → leb n m ≡ eqb n m
leb-eqb n m l = go (ℕ_discrete n m)
  where
    go : Dec (n ≡ m) → leb n m ≡ eqb n m
    go (yes e) = le-leb n m (omega arith) ∙ sym (eq-eqb n m e)
    go (no f) = lt-leb n m (omega (arith, f)) ∙ sym (ne_eqb n m f)

module _ (w : ℕ → ℕ) (ok : ℕ → Bool) where
  -- no ties where no tree exists
  pub tie_none : (a : ℕ) → best w ok a ≡ none → tie_entry w ok a ≡ 0
  unfolding tie_entry least_trees those
  tie_none a e = rw (none_over w ok a e)

  tie_total : (a : ℕ) → tie_entry w ok a ≡ total (map (at_score w (entry w ok a)) (trees_over ok a))
  unfolding total at_score tie_entry
  tie_total a = go (best w ok a) refl
    where
      go : (o : Option Binary) → best w ok a ≡ o → tie_entry w ok a ≡ total (map (at_score w (score_entry w o)) (trees_over ok a))
      go none e = tie_none a e ∙ sym (ap (λ l. total (map (at_score w no_tree) l)) (none_over w ok a e))
      go (some t) e =
          ap length (least_those w (trees_over ok a) t (sym (best_of_over w ok a) ∙ e))
          ∙ length-those (λ u. leb (score_of w u) (score_of w t)) (trees_over ok a)
          ∙ total_same (λ u. only (leb (score_of w u) (score_of w t)) 1) (at_score w (score_of w t)) (trees_over ok a)
          (λ u m. ap (λ b. only b 1) (leb-eqb (score_of w u) (score_of w t) (best-le w ok a t e u m)))

  -- ---- forks of two lists, neither of which has a smaller score than its bound

  exact : (c x y s t : ℕ) → x ≤ s → y ≤ t → only (eqb (c + (s + t)) (c + (x + y))) 1 ≡ only (eqb s x) 1 * only (eqb t y) 1
  exact c x y s t l m = go (ℕ_discrete s x) (ℕ_discrete t y)
    where
      go : Dec (s ≡ x) → Dec (t ≡ y) → only (eqb (c + (s + t)) (c + (x + y))) 1 ≡ only (eqb s x) 1 * only (eqb t y) 1
      go (yes p) (yes q) = rw (eq-eqb s x p, eq-eqb t y q, eq-eqb (c + (s + t)) (c + (x + y)) (omega arith)) (omega arith)
      go (yes p) (no f) = rw (eq-eqb s x p, ne_eqb t y f, ne_eqb (c + (s + t)) (c + (x + y)) (λ e. omega (arith, f))) (omega arith)
      go (no f) d = rw (ne_eqb s x f, ne_eqb (c + (s + t)) (c + (x + y)) (λ e. omega (arith, f))) (omega arith)

  forks_at :
      (a x y : ℕ) (ts us : List Binary) → ((t : Binary) → Memᴰ t ts → x ≤ score_of w t) → ((u : Binary) → Memᴰ u us → y ≤ score_of w u)
      → total (map (at_score w (w a + (x + y))) (forks a ts us)) ≡ total (map (at_score w x) ts) * total (map (at_score w y) us)
  unfolding forks at_score
  forks_at a x y ts us h k =
      total-each (at_score w (w a + (x + y))) (λ t. map (λ u. fork a t u) us) ts
      ∙ total_same (λ t. total (map (at_score w (w a + (x + y))) (map (λ u. fork a t u) us))) (λ t. others * at_score w x t) ts (λ t m. over_one t m)
      ∙ total-times others (at_score w x) ts ∙ omega arith
    where
      others : ℕ
      others = total (map (at_score w y) us)

      over_one : (t : Binary) → Memᴰ t ts → total (map (at_score w (w a + (x + y))) (map (λ u. fork a t u) us)) ≡ others * at_score w x t
      over_one t m =
          total-map (at_score w (w a + (x + y))) (λ u. fork a t u) us
          ∙ total_same (λ u. at_score w (w a + (x + y)) (fork a t u)) (λ u. at_score w x t * at_score w y u) us
          (λ u n. rw (score-fork w a t u) (exact (w a) x y (score_of w t) (score_of w u) (h t m) (k u n)))
          ∙ total-times (at_score w x t) (at_score w y) us ∙ omega arith

-- ---- the number from those for both parts of each split

-- the trees on a over allowed clusters that are split at a low part
abbrev forks_over : (ℕ → Bool) → ℕ → ℕ → List Binary
forks_over ok a low = forks a (trees_over ok low) (trees_over ok (a - low))

module _ (w : ℕ → ℕ) (ok : ℕ → Bool) where
  module _ (a : ℕ) (t : Binary) (two : 2 ≤ size a) (e : best w ok a ≡ some t) where
    -- the scores of both parts of the chosen split
    abbrev least_sum : ℕ
    least_sum = entry w ok (split_entry (best w ok a)) + entry w ok (a - split_entry (best w ok a))

    -- the least score is the own weight and the scores of both parts of the chosen split
    whole_score : entry w ok a ≡ w a + least_sum
    whole_score =
        let f = best-fork w ok a t two e in
        ap (score_entry w) f.whole_best ∙ score-fork w a f.low_tree_lem f.other_tree
        ∙ sym (ap₂ (λ x y. w a + (x + y)) (ap (score_entry w) f.low-best) (ap (score_entry w) f.other_best))

    allow : ok a ≡ true
    allow = allowed_of_best w ok a t e

    splits-list : trees_over ok a ≡ each (forks_over ok a) (lows a)
    splits-list = trees_over-splits ok a allow (λ k. omega arith)

    fork_in : (low : ℕ) → LowPart a low → (v u : Binary) → Memᴰ v (trees_over ok low) → Memᴰ u (trees_over ok (a - low))
        → Memᴰ (fork a v u) (trees_over ok a)
    fork_in low p v u m n =
        rw splits-list (each-among (forks_over ok a) (lows a) (lows-among p) (forks-among a m n))

    -- no tree is least at a split whose parts' scores add up to something else
    not_least : (low : ℕ) → LowPart a low → (entry w ok low + entry w ok (a - low) ≡ least_sum → ⊥)
        → (x : Binary) → Memᴰ x (forks_over ok a low) → score_of w x ≡ entry w ok a → ⊥
    not_least low p f x m k =
        let q = among-forks m in
        let l = entry-reached w ok low q.low q.low_among in
        let r = entry-reached w ok (a - low) q.other q.other_among in
        omega (
          arith,
          f,
          ap (score_of w) q.made,
          score-fork w a q.low q.other,
          score-fork w a l.0 r.0,
          entry-le w ok low q.low q.low_among,
          entry-le w ok (a - low) q.other q.other_among,
          entry-le w ok a (fork a l.0 r.0) (fork_in low p l.0 r.0 l.1 r.1),
          l.2,
          r.2,
          whole_score,
        )

    at_split : (low : ℕ) → LowPart a low
        → total (map (at_score w (entry w ok a)) (forks_over ok a low)) ≡ tied_at (entry w ok) (tie_entry w ok) a least_sum low
    unfolding at_score
    at_split low p = go (ℕ_discrete (entry w ok low + entry w ok (a - low)) least_sum)
      where
        go : Dec (entry w ok low + entry w ok (a - low) ≡ least_sum)
            → total (map (at_score w (entry w ok a)) (forks_over ok a low)) ≡ tied_at (entry w ok) (tie_entry w ok) a least_sum low
        go (yes q) =
            ap (λ m. total (map (at_score w m) (forks_over ok a low))) (whole_score ∙ ap (λ n. w a + n) (sym q))
            ∙ forks_at w ok a (entry w ok low) (entry w ok (a - low)) (trees_over ok low) (trees_over ok (a - low)) (entry-le w ok low) (entry-le w ok (a - low))
            ∙ sym (ap (λ b. only b (tie_entry w ok low * tie_entry w ok (a - low))) (eq-eqb (entry w ok low + entry w ok (a - low)) least_sum q)
            ∙ ap₂ ◌*◌ (tie_total w ok low) (tie_total w ok (a - low)))
        go (no f) =
            total_none (at_score w (entry w ok a)) (forks_over ok a low)
            (λ x m. ap (λ b. only b 1) (ne_eqb (score_of w x) (entry w ok a) (not_least low p f x m)))
            ∙ sym (ap (λ b. only b (tie_entry w ok low * tie_entry w ok (a - low))) (ne_eqb (entry w ok low + entry w ok (a - low)) least_sum f))

    -- over the low parts whose two least scores add up to those of the chosen split, the sum of the products of both parts' numbers
    pub tie_splits :
        tie_entry w ok a
        ≡ ties_over (entry w ok) (tie_entry w ok) a (entry w ok (split_entry (best w ok a)) + entry w ok (a - split_entry (best w ok a)))
    unfolding ties_over
    tie_splits =
        tie_total w ok a ∙ ap (λ l. total (map (at_score w (entry w ok a)) l)) splits-list
        ∙ total-each (at_score w (entry w ok a)) (forks_over ok a) (lows a)
        ∙ total_same (λ low. total (map (at_score w (entry w ok a)) (forks_over ok a low)))
        (tied_at (entry w ok) (tie_entry w ok) a least_sum) (lows a)
        (λ low m. at_split low (among-lows a m))

-- ---- the other entries, and both ways of an entry

module _ (w : ℕ → ℕ) (ok : ℕ → Bool) where
  -- no ties for the empty set
  pub tie_zero : tie_entry w ok 0 ≡ 0
  tie_zero = tie_none w ok 0 (best-zero w ok)

  -- nor for a cluster that is not allowed
  pub tie_not_allowed : (a : ℕ) → ok a ≡ false → tie_entry w ok a ≡ 0
  tie_not_allowed a e = tie_none w ok a (best-refused w ok a e)

  -- an allowed single species has one tree
  pub tie_single : (a : ℕ) → size a ≡ 1 → ok a ≡ true → tie_entry w ok a ≡ 1
  unfolding total at_score
  tie_single a e k =
      tie_total w ok a ∙ ap (λ l. total (map (at_score w (entry w ok a)) l)) (trees_over-single ok a e k)
      ∙ ap (λ b. only b 1 + 0) (eq-eqb (score_of w (tip a)) (entry w ok a) (score-tip w a ∙ sym (entry-single w ok a e k)))

  -- a best tree without a split is the one tree of a single species
  pub tie_tip : (a : ℕ) (t : Binary) → best w ok a ≡ some t → split_entry (best w ok a) ≡ 0 → tie_entry w ok a ≡ 1
  tie_tip a t e z = go (ℕ_discrete (size a) 0) (ℕ_discrete (size a) 1)
    where
      go : Dec (size a ≡ 0) → Dec (size a ≡ 1) → tie_entry w ok a ≡ 1
      go (yes k) d = absurd (let n = ap (best w ok) (empty_of_size a (omega arith)) ∙ best-zero w ok in let z : ◌≡◌ {A = ℕ} 0 1 = cc in omega arith)
      go (no f) (yes k) = tie_single a k (allowed_of_best w ok a t e)
      go (no f) (no g) = absurd (omega (arith, low_some (best-fork w ok a t (omega (arith, f, g)) e).part))

  -- a best tree with a split is on two or more species
  pub split_two : (a : ℕ) → (split_entry (best w ok a) ≡ 0 → ⊥) → 2 ≤ size a
  split_two a f = go (ℕ_discrete (size a) 0) (ℕ_discrete (size a) 1)
    where
      go : Dec (size a ≡ 0) → Dec (size a ≡ 1) → 2 ≤ size a
      go (yes k) d = absurd (f (ap (λ b. split_entry (best w ok b)) (empty_of_size a (omega arith)) ∙ split-zero w ok))
      go (no g) (yes k) = absurd (f (split-single w ok a k))
      go (no g) (no h) = omega (arith, g, h)

  -- where the score entry is the mark, there is no best tree
  pub mark_none : Light w → (a : ℕ) → size a ≤ 32 → entry w ok a ≡ no_tree → best w ok a ≡ none
  mark_none light a few e = go (best w ok a) refl e
    where
      go : (o : Option Binary) → best w ok a ≡ o → score_entry w o ≡ no_tree → o ≡ none
      go none k e = refl
      go (some t) k e = absurd (omega (arith, score-bound light (best_on_lem w ok a t k)))

  -- where it is not, there is one
  pub some_unmarked : (a : ℕ) → (entry w ok a ≡ no_tree → ⊥) → (t : Binary) × (best w ok a ≡ some t)
  some_unmarked a f = go (best w ok a) refl
    where
      go : (o : Option Binary) → best w ok a ≡ o → (t : Binary) × (best w ok a ≡ some t)
      go none k = absurd (f (ap (score_entry w) k))
      go (some t) k = (t, k)
