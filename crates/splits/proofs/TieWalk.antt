-- The ties that the code holds while it visits the low parts of a cluster are those of the low parts met, and the number of all trees leaves room for them.
use Prim.Native.Nat.{ℕ, ◌+◌, ◌-◌, ◌*◌, ◌^◌, ◌≤◌, ◌<◌}
use mathlib.Core.Path.{◌≡◌, ap, ◌∙◌}
use mathlib.Core.Bool.{Bool, true, false}
use mathlib.Core.List.{List, map}
use native.Mathlib.Nat.{mul-le-mul}
use native.Mathlib.Omega.{arith}
use lib.Bits.{bit_and}
use lib.Dec.{eqb}
use lib.ListN.{get_or}
use borrow.Author.Tests.{eq-eqb, ne_eqb}
use Rattle.clusters.specs.Sets.{single, size, lowest}
use Rattle.clusters.proofs.Sizes.{size-le}
use Rattle.trees.specs.Lists.{total}
use Rattle.trees.proofs.Totals.{total_same, total-le}
use Rattle.splits.specs.BinaryTrees.{lows}
use Rattle.splits.specs.WellFormed.{LowPart}
use Rattle.std.specs.Prelude.{Some}
use Rattle.splits.specs.Falling.{LowPartSteps}
use Rattle.splits.specs.declared.parts.LowParts.{LowParts}
use Rattle.splits.specs.Ties.{tree_count}
use Rattle.splits.specs.Work.{only, tied_at, ties_over, Counted, Room}
use Rattle.splits.proofs.LowParts.{among-lows, low_some}
use Rattle.splits.proofs.FallingParts.{Walk, met, walk_start, walk_next, met_end, met-le}
use Rattle.splits.proofs.TreeCounts.{total_of_counts, tree_count-mono, tree_count-sixteen}

-- ---- one split

module _ (e ties : ℕ → ℕ) (a least low : ℕ) where
  -- a least split adds the product of both parts' ties
  pub tied_least : e low + e (a - low) ≡ least → tied_at e ties a least low ≡ ties low * ties (a - low)
  tied_least h = rw (eq-eqb (e low + e (a - low)) least h)

  -- any other adds nothing
  pub tied_other : (e low + e (a - low) ≡ least → ⊥) → tied_at e ties a least low ≡ 0
  tied_other f = rw (ne_eqb (e low + e (a - low)) least f)

-- only the entries of smaller clusters are read
pub ties_over_same : (e f t u : ℕ → ℕ) (a least : ℕ) → ((b : ℕ) → b < a → e b ≡ f b) → ((b : ℕ) → b < a → t b ≡ u b)
    → ties_over e t a least ≡ ties_over f u a least
unfolding ties_over
ties_over_same e f t u a least h k = total_same (tied_at e t a least) (tied_at f u a least) (lows a) (λ low m. at low (among-lows a m))
  where
    at : (low : ℕ) → LowPart a low → tied_at e t a least low ≡ tied_at f u a least low
    at low p =
        let less = p.less in
        let rest : a - low < a = omega (arith, low_some p) in
        rw (h low less, h (a - low) rest, k low less, k (a - low) rest)

only-le : (b : Bool) (n : ℕ) → only b n ≤ n
only-le true n = omega arith
only-le false n = omega arith

-- the numbers that are added and multiplied are far below 2^64
pub room_small : {a low count : ℕ} {ties : List ℕ} → Room a low count ties
    → (count + get_or ties low 0 * get_or ties (a - low) 0 ≤ 6190283353629375) × (get_or ties low 0 ≤ 6190283353629375) × (get_or ties (a - low) 0 ≤ 6190283353629375)
room_small {a} {low} r =
    let less = r.part.less in
    let few = r.few in
    let sum = r.sum in (
      omega (arith, tree_count-sixteen),
      omega (arith, r.counted low less, tree_count-mono (size low) 16 (size-le {a = low} 16 (omega arith)), tree_count-sixteen),
      omega (
        arith,
        r.counted (a - low) (omega (arith, low_some r.part)),
        tree_count-mono (size (a - low)) 16 (size-le {a = a - low} 16 (omega arith)),
        tree_count-sixteen,
      ),
    )

-- ---- while the low parts are visited, falling

-- the ties that are counted are those of the low parts that were met
pub record Summed (scores ties : List ℕ) (a least low rest count s : ℕ) : Type 0 where
  pub walk : Walk a low rest s
  pub same : count ≡ total (map (tied_at (λ b. get_or scores b 0) (λ b. get_or ties b 0) a least) (met a s))

-- at first nothing is counted
pub summed_start : {a low rest : ℕ} (scores ties : List ℕ) (least : ℕ) → a < 2 ^ 32 → 2 ≤ size a → low ≡ single (lowest a) → rest ≡ a - low
    → Summed scores ties a least low rest 0 rest
unfolding total
summed_start scores ties least below two p q = let start = walk_start below two p q in record { walk = start.0; same = rw start.1 }

module _ {scores ties : List ℕ} {a least low rest count s : ℕ} (v : Summed scores ties a least low rest count s) (below : a < 65536) (two : 2 ≤ size a) where
  -- all splits of a together, least or not, have as many trees as there are on a
  all_products : Counted a ties → total (map (λ l. get_or ties l 0 * get_or ties (a - l) 0) (lows a)) ≤ tree_count (size a)
  all_products h =
      omega (
        arith,
        total_of_counts a (omega arith) two,
        total-le (λ l. get_or ties l 0 * get_or ties (a - l) 0) (λ l. tree_count (size l) * tree_count (size (a - l))) (lows a) (λ l m.
            let p = among-lows a m in
            let less = p.less in
            mul-le-mul (h l less) (h (a - l) (omega (arith, low_some p)))),
      )

  -- there is room for the next split
  pub summed_room : {s' : ℕ} → Counted a ties → 1 ≤ s → s' ≡ bit_and (s - 1) rest → Room a (low + s') count ties
  unfolding total
  summed_room {s'} h l p =
      let next = walk_next (omega arith) two v.walk l p in
      let e : ℕ → ℕ = λ b. get_or scores b 0 in
      let t : ℕ → ℕ = λ b. get_or ties b 0 in
      let product : ℕ → ℕ = λ l. t l * t (a - l) in
      record {
        part = next.1;
        few = below;
        counted = h;
        sum =
            omega (
              arith,
              v.same,
              total-le (tied_at e t a least) product (met a s) (λ x m. only-le (eqb (e x + e (a - x)) least) (product x)),
              ap (λ k. total (map product k)) next.2,
              met-le product a s',
              all_products h,
              tree_count-mono (size a) 16 (size-le 16 below),
            );
      }

  -- one low part more
  pub summed_next : {s' count' : ℕ} → 1 ≤ s → s' ≡ bit_and (s - 1) rest
      → count' ≡ count + tied_at (λ b. get_or scores b 0) (λ b. get_or ties b 0) a least (low + s')
      → Summed scores ties a least low rest count' s'
  unfolding total
  summed_next l p q =
      let next = walk_next (omega arith) two v.walk l p in
      record {
        walk = next.0;
        same = omega (arith, v.same, ap (λ k. total (map (tied_at (λ b. get_or scores b 0) (λ b. get_or ties b 0) a least) k)) next.2);
      }

  -- at last all
  pub summed_end : s ≤ 0 → count ≡ ties_over (λ b. get_or scores b 0) (λ b. get_or ties b 0) a least
  unfolding ties_over
  summed_end l = v.same ∙ ap (λ k. total (map (tied_at (λ b. get_or scores b 0) (λ b. get_or ties b 0) a least) k)) (met_end (omega arith) two s l)

-- the same for what a step gives
module _ {scores ties : List ℕ} {a least count x : ℕ} (s t : LowParts) (v : Summed scores ties a least s.low s.rest count s.left) (below : a < 65536) (two : 2 ≤ size a)
    (st : LowPartSteps s (Some x) t) where
  pub step_room : Counted a ties → Room a x count ties
  step_room h = rw st.1 (summed_room v below two h st.0 st.2)

  pub summed_step : {count' : ℕ} → count' ≡ count + tied_at (λ b. get_or scores b 0) (λ b. get_or ties b 0) a least x → Summed scores ties a least t.low t.rest count' t.left
  summed_step q = rw (st.3, st.4) (summed_next v below two st.0 st.2 (rw st.1 at q))
