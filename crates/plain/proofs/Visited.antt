-- The trees of the numbers below the table's entry for a cluster's size are all binary trees on the cluster, each once, in 01's order.
use Prim.Native.Nat.{ℕ, zero, suc, ◌-◌, ◌≤◌, ◌<◌}
use mathlib.Core.Path.{◌≡◌, refl, sym, ap, ◌∙◌, subst}
use mathlib.Core.List.{List, [], ◌∷◌, ◌++◌, map, map-append}
use native.Mathlib.Decide.{dec_lt}
use native.Mathlib.Omega.{arith}
use lib.ListN.{length, get_or, take}
use lib.Seq.{take-suc, take-length}
use Rattle.clusters.specs.Sets.{whole, size}
use Rattle.clusters.proofs.Sets.{whole_some}
use Rattle.clusters.proofs.Sizes.{size_whole}
use Rattle.trees.specs.Lists.{up_to}
use Rattle.trees.proofs.Bounds.{whole_below_sixteen}
use Rattle.trees.proofs.Places.{at_among, among_at}
use Rattle.splits.specs.BinaryTrees.{trees_on}
use Rattle.splits.specs.BinaryTrees.Binary.{tip}
use Rattle.splits.specs.Order.{Earlier, Ordered}
use Rattle.splits.proofs.Membership.{listed_well_formed, well_formed_listed}
use Rattle.splits.proofs.Enumeration.{trees_on-ordered, earlier_other}
use Rattle.plain.specs.Numbering.{tree_of, Visits, CountTable}
use Rattle.plain.proofs.TreeTable.{trees_in_table}

-- ---- a list by its places

-- what stands at the first k places, one after the other
places : {A : Type 0} (l : List A) (d : A) (k : ℕ) → k ≤ length l → map (λ i. get_or l i d) (up_to k) ≡ take k l
unfolding up_to
places l d zero h = refl
places l d (suc k) h =
    map-append (λ i. get_or l i d) (up_to k) (k ∷ []) ∙ ap (λ r. r ++ (get_or l k d ∷ [])) (places l d k (omega arith)) ∙ sym (take-suc l k d (omega arith))

-- of an ordered list, what stands before stands in the relation to what stands behind
ordered_at : {A : Type 0} (R : A → A → Type 0) (l : List A) (d : A) (i j : ℕ) → Ordered R l → i < j → j < length l → R (get_or l i d) (get_or l j d)
unfolding Ordered
ordered_at R [] d i j o h k = absurd (omega arith)
ordered_at R (x ∷ l) d i zero o h k = absurd (omega arith)
ordered_at R (x ∷ l) d zero (suc j) o h k = o.0 (get_or l j d) (at_among l d j (omega arith))
ordered_at R (x ∷ l) d (suc i) (suc j) o h k = ordered_at R l d i j o.1 (omega arith) (omega arith)

-- ---- the trees of all numbers

module _ (a : ℕ) where
  pub all_listed : map (λ i. tree_of a i) (up_to (length (trees_on a))) ≡ trees_on a
  unfolding tree_of
  all_listed = places (trees_on a) (tip a) (length (trees_on a)) (omega arith) ∙ take-length (trees_on a)

  -- of two numbers the smaller has the earlier tree
  pub earlier-number : (i j : ℕ) → i < j → j < length (trees_on a) → Earlier (tree_of a i) (tree_of a j)
  unfolding tree_of
  earlier-number i j h k = ordered_at Earlier (trees_on a) (tip a) i j (trees_on-ordered a) h k

  -- and two numbers have two trees
  pub one_number : (i j : ℕ) → i < length (trees_on a) → j < length (trees_on a) → tree_of a i ≡ tree_of a j → i ≡ j
  one_number i j h k e = go (dec_lt i j) (dec_lt j i)
    where
      go : Dec (i < j) → Dec (j < i) → i ≡ j
      go (yes l) d = absurd (earlier_other (earlier-number i j l k) e)
      go (no f) (yes l) = absurd (earlier_other (earlier-number j i l h) (sym e))
      go (no f) (no g) = omega (arith, f, g)

  pub all_visited : Visits a (length (trees_on a))
  unfolding tree_of
  all_visited = record {
    on = λ i h. listed_well_formed (tree_of a i) a (at_among (trees_on a) (tip a) i h);
    every = λ t v.
        let p = among_at (tip a) (well_formed_listed v) in
        record {
          number = p.place;
          below = p.before_end;
          drawn = p.there;
          only = λ i h e. one_number i p.place h p.before_end (e ∙ sym p.there);
        };
    rising = earlier-number;
    listed = all_listed;
  }

-- ---- as many as the table says

pub visited : {l : List ℕ} → CountTable l → (a : ℕ) → 1 ≤ a → a < 65536 → Visits a (get_or l (size a - 1) 0)
visited t a some few = subst (Visits a) (sym (trees_in_table t a some few)) (all_visited a)

-- on a roster of n names
pub roster-visited : {l : List ℕ} → CountTable l → (n : ℕ) → 1 ≤ n → n ≤ 16 → Visits (whole n) (get_or l (n - 1) 0)
roster-visited {l} t n some few =
    subst (λ k. Visits (whole n) (get_or l (k - 1) 0)) (size_whole n) (visited t (whole n) (whole_some n some) (whole_below_sixteen n few))
