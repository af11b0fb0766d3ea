-- What the best tree is, for any weights and any allowed set: over allowed clusters, least, the first of the least; that only the clusters within its own are
-- asked for; and the source's Lemma 2.
use Prim.Native.Nat.{ℕ, ◌+◌, ◌-◌, ◌^◌, ◌≤◌, ◌<◌}
use mathlib.Core.Path.{◌≡◌, refl, sym, ap, ap₂, ◌∙◌, subst}
use mathlib.Core.Logic.{◌⊎◌, inl, inr}
use mathlib.Core.Bool.{Bool, true, false, ◌&&◌, false≢true}
use mathlib.Core.Option.{Option, some, none}
use mathlib.Core.List.Memᴰ
use mathlib.Core.List.Memᴰ.{head as here}
use mathlib.Core.List.Memᴰ.{tail as there}
use mathlib.Core.List.{List, [], ◌∷◌, Memᴰ}
use native.Mathlib.Omega.{arith}
use lib.ListN.{length}
use native.Mathlib.Nat.{add_comm}
use Rattle.clusters.specs.Sets.{Has, Within, size, lowest}
use Rattle.clusters.proofs.Members.{has_dec}
use Rattle.clusters.proofs.Sets.{minus_within, minus_has}
use Rattle.clusters.proofs.LowestSpecies.{lowest-has}
use Rattle.trees.specs.Lists.{Among}
use Rattle.trees.specs.Valid.{every}
use Rattle.splits.specs.BinaryTrees.{Binary, clusters_in, trees_on}
use Rattle.splits.specs.BinaryTrees.Binary.{fork}
use Rattle.splits.specs.WellFormed.{LowPart, TreeOn}
use Rattle.splits.specs.WellFormed.TreeOn.{two}
use Rattle.splits.specs.Order.{Earlier, Ordered}
use Rattle.splits.specs.Least.{first, score_of, trees_over, least_trees, best, split_entry}
use Rattle.splits.specs.Ties.{tie_entry}
use Rattle.splits.proofs.FirstLeast.{those_same}
use Rattle.splits.proofs.LowParts.{low_some}
use Rattle.splits.proofs.Membership.{listed_well_formed, tree-root}
use Rattle.splits.proofs.OverAllowed.{over, trees_over-among}
use Rattle.splits.proofs.LeastTrees.{least_trees_all, best_is_least, none_over}
use Rattle.splits.proofs.Ties.{least_score_lem, score_least}
use Rattle.splits.proofs.Recurrence.{best-listed, best_on_lem, best-fork, allowed_of_best, score-fork}
use Rattle.splits.proofs.DrawnBinary.{InFork, among-fork, tree-inside}
use Rattle.splits.proofs.DrawnBinary.InFork.{at_root, in_low, in_other}

-- ---- lists of which all pass a test

pub every-among : (ok : ℕ → Bool) (l : List ℕ) → every ok l ≡ true → (x : ℕ) → Among x l → ok x ≡ true
unfolding every
every-among ok [] e x h = absurd (Memᴰ.not-nil h)
every-among ok (y ∷ l) e x h = go (ok y) refl e (Memᴰ.cases_cons h) (λ p k. every-among ok l p x k)
  where
    go : (b : Bool) → ok y ≡ b → (b && every ok l) ≡ true → (x ≡ y) ⊎ Among x l → (every ok l ≡ true → Among x l → ok x ≡ true) → ok x ≡ true
    go true p e (inl q) ih = ap ok q ∙ p
    go true p e (inr k) ih = ih e k
    go false p e d ih = absurd (false≢true e)

pub among-every : (ok : ℕ → Bool) (l : List ℕ) → ((x : ℕ) → Among x l → ok x ≡ true) → every ok l ≡ true
unfolding every
among-every ok [] h = refl
among-every ok (y ∷ l) h = rw (h y (here refl)) (among-every ok l (λ x m. h x (there m)))

every_same : (ok may : ℕ → Bool) (l : List ℕ) → ((x : ℕ) → Among x l → ok x ≡ may x) → every ok l ≡ every may l
unfolding every
every_same ok may [] h = refl
every_same ok may (y ∷ l) h = ap₂ ◌&&◌ (h y (here refl)) (every_same ok may l (λ x m. h x (there m)))

-- ---- the first of the least

-- the first of a list in order is what stands there, or earlier
first_of_all : (R : Binary → Binary → Type 0) (l : List Binary) (t : Binary) → Ordered R l → first l ≡ some t → (u : Binary) → Memᴰ u l → (t ≡ u) ⊎ R t u
unfolding Ordered
first_of_all R [] t o e u m = absurd (Memᴰ.not-nil m)
first_of_all R (x ∷ l) t o e u m = go (Memᴰ.cases_cons m)
  where
    is : x ≡ t
    is = cc

    go : (u ≡ x) ⊎ Memᴰ u l → (t ≡ u) ⊎ R t u
    go (inl k) = inl (sym is ∙ sym k)
    go (inr k) = inr (subst (λ v. R v u) is (o.0 u k))

-- ---- the best tree

-- all clusters of the tree are allowed
abbrev pub Over : (ℕ → Bool) → Binary → Type 0
Over ok t = (x : ℕ) → Among x (clusters_in t) → ok x ≡ true

module _ (w : ℕ → ℕ) (ok : ℕ → Bool) (a : ℕ) where
  pub best_over : (t : Binary) → best w ok a ≡ some t → Over ok t
  best_over t e = every-among ok (clusters_in t) (best-listed w ok a t e).1

  -- "least score": no binary tree on a over allowed clusters scores less
  pub best_least : (t : Binary) → best w ok a ≡ some t → (u : Binary) → TreeOn a u → Over ok u → score_of w t ≤ score_of w u
  best_least t e u v h = (best_is_least w ok a t e).least u v (among-every ok (clusters_in u) h)

  -- "The first least-scoring tree is the answer"
  pub best_first : (t : Binary) → best w ok a ≡ some t → (u : Binary) → TreeOn a u → Over ok u → score_of w u ≡ score_of w t → (t ≡ u) ⊎ Earlier t u
  unfolding best
  best_first t e u v h q =
      let all = least_trees_all w ok a in
      let least = score_least w ok a u v (among-every ok (clusters_in u) h) (omega (arith, least_score_lem w ok a t (best_is_least w ok a t e))) in
      first_of_all Earlier (least_trees w (trees_over ok a)) t all.rising e u (all.every u least)

  -- there is none exactly where there is no tree over allowed clusters
  pub best-missed : best w ok a ≡ none → (u : Binary) → TreeOn a u → Over ok u → ⊥
  best-missed e u v h =
      Memᴰ.not-nil (subst (λ l. Memᴰ u l) (none_over w ok a e) (trees_over-among ok a v (among-every ok (clusters_in u) h)))

  pub best_there : (u : Binary) → TreeOn a u → Over ok u → (t : Binary) × (best w ok a ≡ some t)
  best_there u v h = go (best w ok a) refl
    where
      go : (o : Option Binary) → best w ok a ≡ o → (t : Binary) × (best w ok a ≡ some t)
      go none e = absurd (best-missed e u v h)
      go (some t) e = (t, e)

  pub best_nowhere : ((u : Binary) → TreeOn a u → Over ok u → ⊥) → best w ok a ≡ none
  best_nowhere f = go (best w ok a) refl
    where
      go : (o : Option Binary) → best w ok a ≡ o → o ≡ none
      go none e = refl
      go (some t) e = absurd (f t (best_on_lem w ok a t e) (best_over t e))

-- ---- other allowed sets

-- only the clusters within a are asked for
pub trees_local : (ok may : ℕ → Bool) (a : ℕ) → ((x : ℕ) → 1 ≤ x → Within x a → ok x ≡ may x) → trees_over ok a ≡ trees_over may a
unfolding trees_over
trees_local ok may a h =
    those_same (over ok) (over may) (trees_on a)
    (λ t m. every_same ok may (clusters_in t) (λ x k. let i = tree-inside (listed_well_formed t a m) x k in h x i.0 i.1))

pub best_local : (w : ℕ → ℕ) (ok may : ℕ → Bool) (a : ℕ) → ((x : ℕ) → 1 ≤ x → Within x a → ok x ≡ may x) → best w ok a ≡ best w may a
unfolding best
best_local w ok may a h = ap (λ l. first (least_trees w l)) (trees_local ok may a h)

pub ties_local : (w : ℕ → ℕ) (ok may : ℕ → Bool) (a : ℕ) → ((x : ℕ) → 1 ≤ x → Within x a → ok x ≡ may x) → tie_entry w ok a ≡ tie_entry w may a
unfolding tie_entry
ties_local w ok may a h = ap (λ l. length (least_trees w l)) (trees_local ok may a h)

-- ---- source document 001, Lemma 2

-- a tree on a over allowed clusters, with the own weight of a and the scores of two trees
record Joined (w : ℕ → ℕ) (ok : ℕ → Bool) (a : ℕ) (t u : Binary) : Type 0 where
  tree : Binary
  on : TreeOn a tree
  over : Over ok tree
  score : score_of w tree ≡ w a + (score_of w t + score_of w u)

module _ (w : ℕ → ℕ) (ok : ℕ → Bool) (a : ℕ) (allowed : ok a ≡ true) where
  join-low : (l : ℕ) (t u : Binary) → LowPart a l → best w ok l ≡ some t → best w ok (a - l) ≡ some u → Joined w ok a t u
  join-low l t u p q r =
      let x = best_on_lem w ok l t q in
      let i = sym (tree-root x) in
      record {
        tree = fork a t u;
        on = two (subst (LowPart a) i p) (subst (λ b. TreeOn b t) i x) (subst (λ b. TreeOn (a - b) u) i (best_on_lem w ok (a - l) u r));
        over = λ y m. go y (among-fork {t = t} {u = u} m);
        score = score-fork w a t u;
      }
    where
      go : (y : ℕ) → InFork a t u y → ok y ≡ true
      go y (at_root i) = ap ok i ∙ allowed
      go y (in_low k) = best_over w ok l t q y k
      go y (in_other k) = best_over w ok (a - l) u r y k

  -- of a part and the rest, one is low
  join-parts : (b : ℕ) (t u : Binary) → 1 ≤ b → b < a → a < 2 ^ 32 → Within b a → best w ok b ≡ some t → best w ok (a - b) ≡ some u → Joined w ok a t u
  join-parts b t u species less below v q r = go (has_dec b (lowest a))
    where
      back : a - (a - b) ≡ b
      back = omega arith

      go : Dec (Has b (lowest a)) → Joined w ok a t u
      go (yes h) = join-low b t u (record { inside = v; holds = h; less = less }) q r
      go (no f) =
          let low : LowPart a (a - b) = record {
            inside = minus_within a b v;
            holds = minus_has a b (lowest a) v (lowest-has (omega arith) below) f;
            less = omega arith;
          } in
          let j = join-low (a - b) u t low r (ap (best w ok) back ∙ q) in
          record { tree = j.tree; on = j.on; over = j.over; score = j.score ∙ ap (λ n. w a + n) (add_comm (score_of w u) (score_of w t)) }

-- a part of a that is neither empty nor all of it, with a best tree on it and one on the rest
pub record Splits (w : ℕ → ℕ) (ok : ℕ → Bool) (a b : ℕ) (t u : Binary) : Type 0 where
  pub some_species : 1 ≤ b
  pub not_all : b < a
  pub inside : Within b a
  pub part_best : best w ok b ≡ some t
  pub rest_best : best w ok (a - b) ≡ some u

-- "l*(A) = min over A1 in A of l*(A1) + l*(A - A1) + the weight of A": some split reaches it, and none is below
pub record LeastSplit (w : ℕ → ℕ) (ok : ℕ → Bool) (a : ℕ) (v : Binary) : Type 0 where
  pub part : ℕ
  pub part_tree : Binary
  pub rest_tree : Binary
  pub splits : Splits w ok a part part_tree rest_tree
  pub reached : score_of w v ≡ w a + (score_of w part_tree + score_of w rest_tree)
  pub least : (b : ℕ) (t u : Binary) → Splits w ok a b t u → score_of w v ≤ w a + (score_of w t + score_of w u)

module _ (w : ℕ → ℕ) (ok : ℕ → Bool) (a : ℕ) (below : a < 2 ^ 32) where
  pub lemma_two : (v : Binary) → 2 ≤ size a → best w ok a ≡ some v → LeastSplit w ok a v
  lemma_two v h e =
      let f = best-fork w ok a v h e in
      let p = f.part in
      record {
        part = split_entry (best w ok a);
        part_tree = f.low_tree_lem;
        rest_tree = f.other_tree;
        splits = record { some_species = low_some p; not_all = p.less; inside = p.inside; part_best = f.low-best; rest_best = f.other_best };
        reached = ap (score_of w) (unique f.whole_best) ∙ score-fork w a f.low_tree_lem f.other_tree;
        least = λ b t u s. no_less b t u s;
      }
    where
      unique : {u : Binary} → best w ok a ≡ some u → v ≡ u
      unique p = cc

      no_less : (b : ℕ) (t u : Binary) → Splits w ok a b t u → score_of w v ≤ w a + (score_of w t + score_of w u)
      no_less b t u s =
          let j = join-parts w ok a (allowed_of_best w ok a v e) b t u s.some_species s.not_all below s.inside s.part_best s.rest_best in
          subst (λ n. score_of w v ≤ n) j.score (best_least w ok a v e j.tree j.on j.over)

  -- there is a tree on a where it is allowed and some split has trees on both sides
  pub split-gives-tree : ok a ≡ true → (b : ℕ) (t u : Binary) → Splits w ok a b t u → (v : Binary) × (best w ok a ≡ some v)
  split-gives-tree allowed b t u s =
      let j = join-parts w ok a allowed b t u s.some_species s.not_all below s.inside s.part_best s.rest_best in
      best_there w ok a j.tree j.on j.over
