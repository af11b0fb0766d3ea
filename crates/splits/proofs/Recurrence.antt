-- The best tree on a cluster from the best trees on its low parts and on what they leave (source document 001, Lemma 2), and the entries of both tables.
use Prim.Native.Nat.{ℕ, ◌+◌, ◌-◌, ◌*◌, ◌≤◌, ◌<◌}
use mathlib.Core.Path.{◌≡◌, refl, sym, ap, ap₂, ◌∙◌, subst, subst₂}
use mathlib.Core.Bool.{Bool, true, false, ◌&&◌, ◌||◌}
use mathlib.Core.Option.{Option, some, none}
use mathlib.Core.List.Memᴰ.{head as here}
use mathlib.Core.List.Memᴰ.{tail as there}
use mathlib.Core.List.{List, [], ◌∷◌, ◌++◌, map, foldr, Memᴰ}
use native.Mathlib.Nat.{add_comm}
use native.Mathlib.Decide.{dec_le}
use native.Mathlib.Omega.{arith}
use lib.Dec.{eqb, leb}
use lib.ListN.{length}
use borrow.Author.Tests.{eq-eqb, ne_eqb, leb-true, leb-false, le-leb, lt-leb}
use Rattle.clusters.specs.Sets.{size}
use Rattle.trees.specs.Lists.{Among, total}
use Rattle.trees.specs.Valid.{every}
use Rattle.trees.proofs.Totals.{total_append}
use Rattle.splits.specs.BinaryTrees.{Binary, root, clusters_in, lows, forks, trees_on}
use Rattle.splits.specs.BinaryTrees.Binary.{tip, fork}
use Rattle.splits.specs.WellFormed.{LowPart, TreeOn}
use Rattle.splits.specs.Least.{those, score_of, trees_over, best, no_tree, score_entry, split_entry}
use Rattle.splits.specs.Work.{Light, split_unless, lesser_split, better_split, no_split, consider, least_split}
use Rattle.splits.specs.declared.Split.{Split}
use Rattle.splits.proofs.LowParts.{among-lows, low_some, low_and_rest}
use Rattle.splits.proofs.FirstLeast.{chosen, pick, pick_none, pick_first, pick_second, pick_all, pick_all_same, pick_all_none, pick_all-each, pick_all-map, pick_all_through, pick_all_from, gate_by, pick_all-those, first-least}
use Rattle.splits.proofs.Membership.{trees_on-single, trees_on-splits, trees_on-zero, listed_well_formed, tree-root, tree-clusters}

-- ---- the score of a fork

pub score-tip : (w : ℕ → ℕ) (a : ℕ) → score_of w (tip a) ≡ w a
unfolding score_of clusters_in total
score-tip w a = omega arith

pub score-fork : (w : ℕ → ℕ) (a : ℕ) (t u : Binary) → score_of w (fork a t u) ≡ w a + (score_of w t + score_of w u)
unfolding score_of clusters_in total
score-fork w a t u = ap (λ n. w a + n) (total_append w (clusters_in t) (clusters_in u))

-- no weight passes 131,072 = 4,096 gene trees * 32
total-bound : (w : ℕ → ℕ) → Light w → (l : List ℕ) → total (map w l) ≤ 131072 * length l
unfolding total
total-bound w h [] = omega arith
total-bound w h (x ∷ l) = omega (arith, h x, total-bound w h l)

-- so the score of a tree is far below the no-tree mark
pub score-bound : {w : ℕ → ℕ} {a : ℕ} {t : Binary} → Light w → TreeOn a t → score_of w t + 131072 ≤ 262144 * size a
unfolding score_of
score-bound {w} {a} {t} h v = omega (arith, total-bound w h (clusters_in t), tree-clusters v)

-- ---- trees over allowed clusters

pub every_append : (ok : ℕ → Bool) (l k : List ℕ) → every ok (l ++ k) ≡ (every ok l && every ok k)
unfolding every
every_append ok [] k = refl
every_append ok (x ∷ l) k = go (ok x) (every_append ok l k)
  where
    go : (b : Bool) → every ok (l ++ k) ≡ (every ok l && every ok k) → (b && every ok (l ++ k)) ≡ ((b && every ok l) && every ok k)
    go true ih = ih
    go false ih = refl

-- the tree where all its clusters are allowed
unfoldable pub gated : (ℕ → Bool) → Binary → Option Binary
gated ok t = gate_by (every ok (clusters_in t)) t

-- the fork of two trees, where there are both
abbrev pub joined : ℕ → Option Binary → Option Binary → Option Binary
joined a none y = none
joined a (some t) none = none
joined a (some t) (some u) = some (fork a t u)

joined_none : (a : ℕ) (x : Option Binary) → joined a x none ≡ none
joined_none a none = refl
joined_none a (some t) = refl

-- a fork at an allowed cluster is over allowed clusters where both its children are
pub every-fork : (ok : ℕ → Bool) (a : ℕ) (t u : Binary) → ok a ≡ true
    → every ok (clusters_in (fork a t u)) ≡ (every ok (clusters_in t) && every ok (clusters_in u))
unfolding clusters_in every
every-fork ok a t u e = rw e (every_append ok (clusters_in t) (clusters_in u))

gated-fork : (ok : ℕ → Bool) (a : ℕ) (t u : Binary) → ok a ≡ true → gated ok (fork a t u) ≡ joined a (gated ok t) (gated ok u)
unfolding gated
gated-fork ok a t u e = rw (every-fork ok a t u e) (go (every ok (clusters_in t)) (every ok (clusters_in u)))
  where
    go : (b c : Bool) → gate_by (b && c) (fork a t u) ≡ joined a (gate_by b t) (gate_by c u)
    go true true = refl
    go true false = refl
    go false true = refl
    go false false = refl

gated-refused : (ok : ℕ → Bool) (t : Binary) → ok (root t) ≡ false → gated ok t ≡ none
unfolding gated clusters_in every
gated-refused ok (tip a) e = rw e
gated-refused ok (fork a t u) e = rw e

-- what passes is the tree itself
pub gated_same : (ok : ℕ → Bool) (t u : Binary) → gated ok t ≡ some u → (t ≡ u) × (every ok (clusters_in t) ≡ true)
unfolding gated
gated_same ok t u e = go (every ok (clusters_in t)) refl e
  where
    go : (b : Bool) → every ok (clusters_in t) ≡ b → gate_by b t ≡ some u → (t ≡ u) × (every ok (clusters_in t) ≡ true)
    go true p q = (cc, p)
    go false p q = absurd (let z : ◌≡◌ {A = ℕ} 0 1 = cc in omega arith)

-- ---- the choice goes through forks

leb_shift : (m x y : ℕ) → leb (m + x) (m + y) ≡ leb x y
leb_shift m x y = go (leb x y) refl
  where
    go : (b : Bool) → leb x y ≡ b → leb (m + x) (m + y) ≡ b
    go true p = le-leb (m + x) (m + y) (omega (arith, leb-true x y p))
    go false p = lt-leb (m + x) (m + y) (omega (arith, leb-false x y p))

module _ (w : ℕ → ℕ) where
  fork-pick-low : (a : ℕ) (x y z : Option Binary) → pick (score_of w) (joined a x z) (joined a y z) ≡ joined a (pick (score_of w) x y) z
  unfolding pick
  fork-pick-low a none y z = refl
  fork-pick-low a (some t) none none = refl
  fork-pick-low a (some t) none (some v) = refl
  fork-pick-low a (some t) (some u) none = sym (joined_none a (pick (score_of w) (some t) (some u)))
  fork-pick-low a (some t) (some u) (some v) =
      rw (score-fork w a t v, score-fork w a u v, leb_shift (w a), shifted (score_of w t) (score_of w u) (score_of w v)) (go (leb (score_of w t) (score_of w u)))
    where
      shifted : (x y z : ℕ) → leb (x + z) (y + z) ≡ leb x y
      shifted x y z = ap₂ leb (add_comm x z) (add_comm y z) ∙ leb_shift z x y

      go : (b : Bool) → chosen b (fork a t v) (fork a u v) ≡ joined a (chosen b t u) (some v)
      go true = refl
      go false = refl

  fork-pick_other : (a : ℕ) (x y z : Option Binary) → pick (score_of w) (joined a z x) (joined a z y) ≡ joined a z (pick (score_of w) x y)
  unfolding pick
  fork-pick_other a x y none = refl
  fork-pick_other a none y (some v) = refl
  fork-pick_other a (some t) none (some v) = refl
  fork-pick_other a (some t) (some u) (some v) =
      rw (score-fork w a v t, score-fork w a v u, leb_shift (w a), leb_shift (score_of w v)) (go (leb (score_of w t) (score_of w u)))
    where
      go : (b : Bool) → chosen b (fork a v t) (fork a v u) ≡ joined a (some v) (chosen b t u)
      go true = refl
      go false = refl

module _ (w : ℕ → ℕ) (ok : ℕ → Bool) where
  -- the definition's best tree is the choice among all trees, each gated
  pub best_choice : (a : ℕ) → best w ok a ≡ pick_all (score_of w) (gated ok) (trees_on a)
  unfolding best trees_over gated those
  best_choice a = first-least w (trees_over ok a) ∙ pick_all-those (score_of w) (λ t. every ok (clusters_in t)) (trees_on a)

  -- the choice among forks is the fork of the choices
  choice_forks : (a : ℕ) (ts us : List Binary) → ok a ≡ true
      → pick_all (score_of w) (gated ok) (forks a ts us) ≡ joined a (pick_all (score_of w) (gated ok) ts) (pick_all (score_of w) (gated ok) us)
  unfolding forks
  choice_forks a ts us e =
      pick_all-each (score_of w) (gated ok) (λ t. map (λ u. fork a t u) us) ts
      ∙ pick_all_same (score_of w) (λ t. pick_all (score_of w) (gated ok) (map (λ u. fork a t u) us)) (λ t. joined a (gated ok t) rest) ts (λ t m. over t)
      ∙ pick_all_through (score_of w) (λ x. joined a x rest) refl (λ x y. fork-pick-low w a x y rest) (gated ok) ts
    where
      rest : Option Binary
      rest = pick_all (score_of w) (gated ok) us

      over : (t : Binary) → pick_all (score_of w) (gated ok) (map (λ u. fork a t u) us) ≡ joined a (gated ok t) rest
      over t =
          pick_all-map (score_of w) (gated ok) (λ u. fork a t u) us
          ∙ pick_all_same (score_of w) (λ u. gated ok (fork a t u)) (λ u. joined a (gated ok t) (gated ok u)) us (λ u m. gated-fork ok a t u e)
          ∙ pick_all_through (score_of w) (λ x. joined a (gated ok t) x) (joined_none a (gated ok t)) (λ x y. fork-pick_other w a x y (gated ok t)) (gated ok) us

  -- ---- the best tree: none on the empty set, none on a cluster that is not allowed, and one on a single that is

  pub best-zero : best w ok 0 ≡ none
  unfolding pick_all
  best-zero = best_choice 0 ∙ ap (pick_all (score_of w) (gated ok)) trees_on-zero

  pub best-refused : (a : ℕ) → ok a ≡ false → best w ok a ≡ none
  best-refused a e =
      best_choice a ∙ pick_all_none (score_of w) (gated ok) (trees_on a)
      (λ t m. gated-refused ok t (ap ok (tree-root (listed_well_formed t a m)) ∙ e))

  pub best-single : (a : ℕ) → size a ≡ 1 → best w ok a ≡ gate_by (ok a) (tip a)
  unfolding pick_all gated every clusters_in
  best-single a e =
      best_choice a ∙ ap (pick_all (score_of w) (gated ok)) (trees_on-single a e) ∙ pick_none (score_of w) (gated ok (tip a)) ∙ go (ok a)
    where
      go : (b : Bool) → gate_by (b && true) (tip a) ≡ gate_by b (tip a)
      go true = refl
      go false = refl

  -- the best tree on an allowed cluster of other sizes: the first least fork of best trees
  pub best-splits : (a : ℕ) → ok a ≡ true → (size a ≡ 1 → ⊥)
      → best w ok a ≡ pick_all (score_of w) (λ low. joined a (best w ok low) (best w ok (a - low))) (lows a)
  best-splits a e f =
      best_choice a ∙ ap (pick_all (score_of w) (gated ok)) (trees_on-splits a f)
      ∙ pick_all-each (score_of w) (gated ok) (λ low. forks a (trees_on low) (trees_on (a - low))) (lows a)
      ∙ pick_all_same (score_of w) (λ low. pick_all (score_of w) (gated ok) (forks a (trees_on low) (trees_on (a - low))))
      (λ low. joined a (best w ok low) (best w ok (a - low))) (lows a)
      (λ low m. choice_forks a (trees_on low) (trees_on (a - low)) e ∙ sym (ap₂ (joined a) (best_choice low) (best_choice (a - low))))

  -- ---- the best tree is one of the trees over allowed clusters

  pub best-listed : (a : ℕ) (t : Binary) → best w ok a ≡ some t → Memᴰ t (trees_on a) × (every ok (clusters_in t) ≡ true)
  best-listed a t e =
      let r = pick_all_from (score_of w) (gated ok) (trees_on a) t (sym (best_choice a) ∙ e) in
      let q = gated_same ok r.0 t r.2 in
      (subst (λ x. Memᴰ x (trees_on a)) q.0 r.1, subst (λ x. every ok (clusters_in x) ≡ true) q.0 q.1)

  pub best_on_lem : (a : ℕ) (t : Binary) → best w ok a ≡ some t → TreeOn a t
  best_on_lem a t e = listed_well_formed t a (best-listed a t e).0

-- ---- the better of two splits, by cases

module _ (x y low : ℕ) (s : Split) where
  pub better_no_low : x ≡ no_tree → better_split x y low s ≡ s
  unfolding better_split
  better_no_low e = rw (eq-eqb x no_tree e)

  pub better_no_rest : y ≡ no_tree → better_split x y low s ≡ s
  unfolding better_split
  better_no_rest e = rw (eq-eqb y no_tree e) (go (eqb x no_tree))
    where
      go : (b : Bool) → split_unless (b || true) s (lesser_split (leb (x + y) s.score) (x + y) low s) ≡ s
      go true = refl
      go false = refl

  pub better_less : (x ≡ no_tree → ⊥) → (y ≡ no_tree → ⊥) → x + y ≤ s.score → better_split x y low s ≡ record { score = x + y; low = low }
  unfolding better_split
  better_less p q h = rw (ne_eqb x no_tree p, ne_eqb y no_tree q, le-leb (x + y) s.score h)

  pub better_more : (x ≡ no_tree → ⊥) → (y ≡ no_tree → ⊥) → s.score < x + y → better_split x y low s ≡ s
  unfolding better_split
  better_more p q h = rw (ne_eqb x no_tree p, ne_eqb y no_tree q, lt-leb (x + y) s.score h)

-- ---- the choice of a split by the entries of the score table

consider_same : (e f : ℕ → ℕ) (a l : ℕ) (s t : Split) → e l ≡ f l → e (a - l) ≡ f (a - l) → s ≡ t → consider e a l s ≡ consider f a l t
consider_same e f a l s t p q r = rw (p, q, r)

-- only the entries of smaller clusters are read
pub least_split_same : (e f : ℕ → ℕ) (a : ℕ) → ((b : ℕ) → b < a → e b ≡ f b) → least_split e a ≡ least_split f a
unfolding least_split
least_split_same e f a h = go (lows a) (λ l m. among-lows a m)
  where
    go : (ls : List ℕ) → ((l : ℕ) → Among l ls → LowPart a l) → foldr (consider e a) no_split ls ≡ foldr (consider f a) no_split ls
    go [] p = refl
    go (l ∷ ls) p =
        let q = p l (here refl) in
        let k = q.less in
        consider_same e f a l (foldr (consider e a) no_split ls) (foldr (consider f a) no_split ls) (h l k) (h (a - l) (omega (arith, low_some q)))
        (go ls (λ x m. p x (there m)))

module _ (w : ℕ → ℕ) (ok : ℕ → Bool) where
  -- the entry of the score table
  abbrev pub entry : ℕ → ℕ
  entry b = score_entry w (best w ok b)

  -- a best fork and a choice of a split agree: there is neither, or the split is that of the fork
  pub data Agree (a : ℕ) : Option Binary → Split → Type 0 where
    neither : Agree a none no_split
    split : {t u : Binary} → LowPart a (root t) → best w ok (root t) ≡ some t → best w ok (a - root t) ≡ some u
        → Agree a (some (fork a t u)) (record { score = score_of w t + score_of w u; low = root t })

  module _ (light : Light w) (a : ℕ) (few : size a ≤ 32) where
    -- both children have a best tree: their entries, which are no marks, and the fork
    here_split : (l : ℕ) (t u : Binary) → LowPart a l → best w ok l ≡ some t → best w ok (a - l) ≡ some u
        → Agree a (some (fork a t u)) (record { score = entry l + entry (a - l); low = l })
    here_split l t u p q r =
        let e = tree-root (best_on_lem w ok l t q) in
        let made = split (subst (LowPart a) (sym e) p) (ap (best w ok) e ∙ q) (ap (λ b. best w ok (a - b)) e ∙ r) in
        subst (Agree a (some (fork a t u))) (ap₂ at (sym (ap₂ ◌+◌ (ap (score_entry w) q) (ap (score_entry w) r))) e) made
      where
        at : ℕ → ℕ → Split
        at n m = record { score = n; low = m }

    low_is_score : (l : ℕ) (t : Binary) → LowPart a l → best w ok l ≡ some t → score_of w t < 8388608
    low_is_score l t p q = omega (arith, score-bound light (best_on_lem w ok l t q), low_and_rest p)

    rest_is_score : (l : ℕ) (u : Binary) → LowPart a l → best w ok (a - l) ≡ some u → score_of w u < 8388608
    rest_is_score l u p q = omega (arith, score-bound light (best_on_lem w ok (a - l) u q), low_and_rest p)

    not_low : (l : ℕ) (t : Binary) → LowPart a l → best w ok l ≡ some t → entry l ≡ no_tree → ⊥
    not_low l t p q e = omega (arith, low_is_score l t p q, ap (score_entry w) q)

    not_rest : (l : ℕ) (u : Binary) → LowPart a l → best w ok (a - l) ≡ some u → entry (a - l) ≡ no_tree → ⊥
    not_rest l u p r e = omega (arith, rest_is_score l u p r, ap (score_entry w) r)

    sum-small : (l : ℕ) (t u : Binary) → LowPart a l → best w ok l ≡ some t → best w ok (a - l) ≡ some u → entry l + entry (a - l) ≤ no_tree
    sum-small l t u p q r = omega (arith, low_is_score l t p q, rest_is_score l u p r, ap (score_entry w) q, ap (score_entry w) r)

    agree_both : (l : ℕ) (t u : Binary) → LowPart a l → best w ok l ≡ some t → best w ok (a - l) ≡ some u → {x : Option Binary} {c : Split} → Agree a x c
        → Agree a (pick (score_of w) (some (fork a t u)) x) (consider entry a l c)
    unfolding pick
    agree_both l t u p q r neither =
        subst (Agree a (some (fork a t u))) (sym (better_less (entry l) (entry (a - l)) l no_split (not_low l t p q) (not_rest l u p r) (sum-small l t u p q r)))
        (here_split l t u p q r)
    agree_both l t u p q r (split {t = v} {u = x} p' q' r') = by (dec_le (score_of w t + score_of w u) (score_of w v + score_of w x))
      where
        low-eq : entry l ≡ score_of w t
        low-eq = ap (score_entry w) q

        rest_eq : entry (a - l) ≡ score_of w u
        rest_eq = ap (score_entry w) r

        by : Dec (score_of w t + score_of w u ≤ score_of w v + score_of w x)
            → Agree a (pick (score_of w) (some (fork a t u)) (some (fork a v x)))
            (consider entry a l (record { score = score_of w v + score_of w x; low = root v }))
        by (yes h) =
            subst₂ (Agree a) (sym (pick_first (score_of w) (fork a t u) (fork a v x) (omega (arith, score-fork w a t u, score-fork w a v x))))
            (sym (better_less (entry l) (entry (a - l)) l (record { score = score_of w v + score_of w x; low = root v }) (not_low l t p q) (not_rest l u p r) (omega (arith, low-eq, rest_eq))))
            (here_split l t u p q r)
        by (no f) =
            subst₂ (Agree a) (sym (pick_second (score_of w) (fork a t u) (fork a v x) (omega (arith, f, score-fork w a t u, score-fork w a v x))))
            (sym (better_more (entry l) (entry (a - l)) l (record { score = score_of w v + score_of w x; low = root v }) (not_low l t p q) (not_rest l u p r) (omega (arith, f, low-eq, rest_eq))))
            (split p' q' r')

    agree-step : (l : ℕ) {x : Option Binary} {c : Split} → LowPart a l → Agree a x c → (y z : Option Binary) → best w ok l ≡ y → best w ok (a - l) ≡ z
        → Agree a (pick (score_of w) (joined a y z) x) (consider entry a l c)
    unfolding pick
    agree-step l {x} {c} p h none z q r = subst (Agree a x) (sym (better_no_low (entry l) (entry (a - l)) l c (ap (score_entry w) q))) h
    agree-step l {x} {c} p h (some t) none q r = subst (Agree a x) (sym (better_no_rest (entry l) (entry (a - l)) l c (ap (score_entry w) r))) h
    agree-step l {x} {c} p h (some t) (some u) q r = agree_both l t u p q r h

    agree_all : (ls : List ℕ) → ((l : ℕ) → Among l ls → LowPart a l)
        → Agree a (pick_all (score_of w) (λ l. joined a (best w ok l) (best w ok (a - l))) ls) (foldr (consider entry a) no_split ls)
    unfolding pick_all
    agree_all [] p = neither
    agree_all (l ∷ ls) p = agree-step l (p l (here refl)) (agree_all ls (λ x m. p x (there m))) (best w ok l) (best w ok (a - l)) refl refl

    -- ---- the entries of an allowed cluster of two or more species

    pub best_agrees : ok a ≡ true → 2 ≤ size a → Agree a (best w ok a) (least_split entry a)
    unfolding least_split
    best_agrees e h =
        subst (λ x. Agree a x (foldr (consider entry a) no_split (lows a))) (sym (best-splits w ok a e (λ k. omega arith)))
        (agree_all (lows a) (λ l m. among-lows a m))

    agree-score_none : {x : Option Binary} {c : Split} → Agree a x c → c.score ≡ no_tree → x ≡ none
    agree-score_none neither e = refl
    agree-score_none (split {t = t} {u = u} p q r) e = absurd (omega (arith, low_is_score (root t) t p q, rest_is_score (root t) u p r))

    agree-score_some : {x : Option Binary} {c : Split} → Agree a x c → (c.score ≡ no_tree → ⊥) → score_entry w x ≡ w a + c.score
    agree-score_some neither f = absurd (f refl)
    agree-score_some (split {t = t} {u = u} p q r) f = score-fork w a t u

    agree-low : {x : Option Binary} {c : Split} → Agree a x c → split_entry x ≡ c.low
    agree-low neither = refl
    agree-low (split p q r) = refl

    agree_none_score : {x : Option Binary} {c : Split} → Agree a x c → x ≡ none → c.score ≡ no_tree
    agree_none_score neither e = refl
    agree_none_score (split p q r) e = absurd (let z : ◌≡◌ {A = ℕ} 0 1 = cc in omega arith)

    -- there is no tree exactly when there is no choice
    pub best_none : ok a ≡ true → 2 ≤ size a → (least_split entry a).score ≡ no_tree → best w ok a ≡ none
    best_none e h k = agree-score_none (best_agrees e h) k

    pub none_best : ok a ≡ true → 2 ≤ size a → best w ok a ≡ none → (least_split entry a).score ≡ no_tree
    none_best e h k = agree_none_score (best_agrees e h) k

    -- the score entry: the own weight, once, and the least sum of both children's entries
    pub entry-split : ok a ≡ true → 2 ≤ size a → ((least_split entry a).score ≡ no_tree → ⊥) → entry a ≡ w a + (least_split entry a).score
    entry-split e h f = agree-score_some (best_agrees e h) f

    pub entry_none : ok a ≡ true → 2 ≤ size a → (least_split entry a).score ≡ no_tree → entry a ≡ no_tree
    entry_none e h k = ap (score_entry w) (best_none e h k)

    -- the split entry: the chosen low part, and 0 where there is no choice
    pub split-chosen : ok a ≡ true → 2 ≤ size a → split_entry (best w ok a) ≡ (least_split entry a).low
    split-chosen e h = agree-low (best_agrees e h)

  -- ---- the other entries

  pub entry_zero : entry 0 ≡ no_tree
  entry_zero = ap (score_entry w) (best-zero w ok)

  pub split-zero : split_entry (best w ok 0) ≡ 0
  split-zero = ap split_entry (best-zero w ok)

  pub entry-refused : (a : ℕ) → ok a ≡ false → entry a ≡ no_tree
  entry-refused a e = ap (score_entry w) (best-refused w ok a e)

  pub split-refused : (a : ℕ) → ok a ≡ false → split_entry (best w ok a) ≡ 0
  split-refused a e = ap split_entry (best-refused w ok a e)

  pub best-single-allowed : (a : ℕ) → size a ≡ 1 → ok a ≡ true → best w ok a ≡ some (tip a)
  best-single-allowed a e k = best-single w ok a e ∙ ap (λ b. gate_by b (tip a)) k

  pub entry-single : (a : ℕ) → size a ≡ 1 → ok a ≡ true → entry a ≡ w a
  entry-single a e k = ap (score_entry w) (best-single-allowed a e k) ∙ score-tip w a

  pub split-single : (a : ℕ) → size a ≡ 1 → split_entry (best w ok a) ≡ 0
  split-single a e = ap split_entry (best-single w ok a e) ∙ go (ok a)
    where
      go : (b : Bool) → split_entry (gate_by b (tip a)) ≡ 0
      go true = refl
      go false = refl

  -- ---- a best tree taken apart at the split entry of its cluster

  pub record BestFork (a l : ℕ) : Type 0 where
    pub low_tree_lem : Binary
    pub other_tree : Binary
    pub part : LowPart a l
    pub whole_best : best w ok a ≡ some (fork a low_tree_lem other_tree)
    pub low-best : best w ok l ≡ some low_tree_lem
    pub other_best : best w ok (a - l) ≡ some other_tree
    pub low_root : root low_tree_lem ≡ l
    pub other_root : root other_tree ≡ a - l

  pub allowed_of_best : (a : ℕ) (t : Binary) → best w ok a ≡ some t → ok a ≡ true
  allowed_of_best a t e = go (ok a) refl
    where
      go : (b : Bool) → ok a ≡ b → b ≡ true
      go true p = refl
      go false p = absurd (let k = best-refused w ok a p in let z : ◌≡◌ {A = ℕ} 0 1 = cc in omega arith)

  fork-parts :
      (a l : ℕ) (t : Binary) → LowPart a l → best w ok a ≡ some t
      → (x y : Option Binary) → best w ok l ≡ x → best w ok (a - l) ≡ y → joined a x y ≡ some t
      → BestFork a (split_entry (best w ok a))
  fork-parts a l t p e none y q r k = absurd (let z : ◌≡◌ {A = ℕ} 0 1 = cc in omega arith)
  fork-parts a l t p e (some v) none q r k = absurd (let z : ◌≡◌ {A = ℕ} 0 1 = cc in omega arith)
  fork-parts a l t p e (some v) (some u) q r k =
      let lr = tree-root (best_on_lem w ok l v q) in
      let made = e ∙ sym k in
      subst (BestFork a) (sym (ap split_entry made ∙ lr)) (record {
        low_tree_lem = v;
        other_tree = u;
        part = p;
        whole_best = made;
        low-best = q;
        other_best = r;
        low_root = lr;
        other_root = tree-root (best_on_lem w ok (a - l) u r);
      })

  pub best-fork : (a : ℕ) (t : Binary) → 2 ≤ size a → best w ok a ≡ some t → BestFork a (split_entry (best w ok a))
  best-fork a t h e =
      let ls = best-splits w ok a (allowed_of_best a t e) (λ k. omega arith) in
      let r = pick_all_from (score_of w) (λ l. joined a (best w ok l) (best w ok (a - l))) (lows a) t (sym ls ∙ e) in
      fork-parts a r.0 t (among-lows a r.1) e (best w ok r.0) (best w ok (a - r.0)) refl refl r.2

  -- where there is a choice, the best tree is split at it
  pub best-chosen : Light w → (a : ℕ) → size a ≤ 32 → ok a ≡ true → 2 ≤ size a → ((least_split entry a).score ≡ no_tree → ⊥) → BestFork a (least_split entry a).low
  best-chosen light a few e h f = go (best w ok a) refl
    where
      go : (o : Option Binary) → best w ok a ≡ o → BestFork a (least_split entry a).low
      go none k = absurd (f (none_best light a few e h k))
      go (some t) k = subst (BestFork a) (split-chosen light a few e h) (best-fork a t h k)

  -- an entry is the mark, or far below it
  pub entry-small : Light w → (a : ℕ) → size a ≤ 32 → (entry a ≡ no_tree → ⊥) → entry a < 8388608
  entry-small light a few f = go (best w ok a) refl f
    where
      go : (o : Option Binary) → best w ok a ≡ o → (score_entry w o ≡ no_tree → ⊥) → score_entry w o < 8388608
      go none k f = absurd (f refl)
      go (some t) k f = omega (arith, score-bound light (best_on_lem w ok a t k))
