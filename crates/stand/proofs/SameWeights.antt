-- Weights that are equal at every cluster: the best tree, the answer and the entries of both tables are equal.
use Prim.Native.Nat.{ℕ, zero, suc, ◌^◌}
use mathlib.Core.Path.{◌≡◌, refl, ap, ap₂, ◌∙◌}
use mathlib.Core.Bool.{Bool, ◌&&◌}
use mathlib.Core.Option.{Option, some, none}
use mathlib.Core.List.{List, [], ◌∷◌, ◌++◌, map}
use lib.ListN.{drop}
use lib.Dec.{leb}
use Rattle.trees.specs.Lists.{up_to}
use Rattle.trees.proofs.Totals.{total_same}
use Rattle.splits.specs.BinaryTrees.{Binary, clusters_in}
use Rattle.splits.specs.Least.{all, first, score_of, trees_over, least_trees, best, score_entry, split_entry}
use Rattle.splits.specs.Best.{found_of}
use Rattle.splits.proofs.FirstLeast.{those_same}
use Rattle.search.specs.Promise.{filled_by}

all_same : (f g : Binary → Bool) (l : List Binary) → ((t : Binary) → f t ≡ g t) → all f l ≡ all g l
unfolding all
all_same f g [] h = refl
all_same f g (t ∷ l) h = ap₂ ◌&&◌ (h t) (all_same f g l h)

map_same : (f g : ℕ → ℕ) (l : List ℕ) → ((x : ℕ) → f x ≡ g x) → map f l ≡ map g l
map_same f g [] h = refl
map_same f g (x ∷ l) h = ap₂ ◌∷◌ (h x) (map_same f g l h)

-- a table is filled alike, or kept
pub filled_same : (k n : ℕ) (f g : ℕ → ℕ) (lent : List ℕ) → ((a : ℕ) → f a ≡ g a) → filled_by k n f lent ≡ filled_by k n g lent
filled_same zero n f g lent h = ap (λ (l : List ℕ). l ++ drop (2 ^ n) lent) (map_same f g (up_to (2 ^ n)) h)
filled_same (suc k) n f g lent h = refl

module _ (v w : ℕ → ℕ) (same : (a : ℕ) → v a ≡ w a) where
  pub score_same : (t : Binary) → score_of v t ≡ score_of w t
  unfolding score_of
  score_same t = total_same v w (clusters_in t) (λ a h. same a)

  pub best_same : (ok : ℕ → Bool) (a : ℕ) → best v ok a ≡ best w ok a
  unfolding best least_trees
  best_same ok a =
      ap first
      (those_same (λ t. all (λ u. leb (score_of v t) (score_of v u)) (trees_over ok a)) (λ t. all (λ u. leb (score_of w t) (score_of w u)) (trees_over ok a)) (trees_over ok a)
      (λ t m. all_same (λ u. leb (score_of v t) (score_of v u)) (λ u. leb (score_of w t) (score_of w u)) (trees_over ok a) (λ u. ap₂ leb (score_same t) (score_same u))))

  found_of_lem : (o : Option Binary) → found_of v o ≡ found_of w o
  found_of_lem none = refl
  found_of_lem (some t) = rw (score_same t) refl

  entry_of : (o : Option Binary) → score_entry v o ≡ score_entry w o
  entry_of none = refl
  entry_of (some t) = score_same t

  -- the answer
  pub found_same : (ok : ℕ → Bool) (a : ℕ) → found_of v (best v ok a) ≡ found_of w (best w ok a)
  found_same ok a = found_of_lem (best v ok a) ∙ ap (found_of w) (best_same ok a)

  -- and the entries
  pub entry_same : (ok : ℕ → Bool) (a : ℕ) → score_entry v (best v ok a) ≡ score_entry w (best w ok a)
  entry_same ok a = entry_of (best v ok a) ∙ ap (score_entry w) (best_same ok a)

  pub split_same : (ok : ℕ → Bool) (a : ℕ) → split_entry (best v ok a) ≡ split_entry (best w ok a)
  split_same ok a = ap split_entry (best_same ok a)
