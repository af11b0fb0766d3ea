-- The low parts of a cluster in falling order, as both loops go: the step s ↦ bit_and (s - 1) rest, from s = rest down to 0, meets each of them as lowest + s.
use Prim.Native.Nat.{ℕ, ◌+◌, ◌-◌, ◌^◌, ◌≤◌, ◌<◌}
use mathlib.Core.Path.{◌≡◌, refl, sym, ap, ◌∙◌, subst}
use mathlib.Core.Logic.{◌⊎◌, inl, inr}
use mathlib.Core.Bool.{Bool, true, false}
use mathlib.Core.List.Memᴰ
use mathlib.Core.List.Memᴰ.{head as here}
use mathlib.Core.List.Memᴰ.{tail as there}
use mathlib.Core.List.{List, [], ◌∷◌, map}
use native.Mathlib.Decide.{ℕ_discrete, dec_le}
use native.Mathlib.Omega.{arith}
use lib.Bits.{bit_and}
use lib.Dec.{leb}
use borrow.Author.Tests.{leb-true, le-leb}
use Rattle.std.specs.Prelude.{Some}
use Rattle.clusters.specs.Sets.{Has, Within, size, single, lowest}
use Rattle.clusters.proofs.Members.{has_of_within, within_of_has, single-has, union-has_left}
use Rattle.clusters.proofs.Sets.{within-refl, within-le, within_trans, single-within, union-within, apart-union-sum, apart-within, minus_within, minus_apart, minus_has, has_minus, apart-sym}
use Rattle.clusters.proofs.LowestSpecies.{lowest-below, lowest-alone-within}
use Rattle.clusters.proofs.Sizes.{some_of_size}
use Rattle.clusters.proofs.Parts.{part_and, part_falls, greatest-part-below}
use Rattle.trees.specs.Lists.{Among, keep_if, keep, Rising, total}
use Rattle.trees.proofs.Listing.{keep-among, among-keep}
use Rattle.trees.proofs.Order.{rising_same}
use Rattle.splits.specs.BinaryTrees.{lows}
use Rattle.splits.specs.WellFormed.{LowPart}
use Rattle.splits.specs.Falling.{LowPartSteps}
use Rattle.splits.specs.declared.parts.LowParts.{LowParts}
use Rattle.splits.proofs.LowParts.{among-lows, lows-among, rising-lows, rising-keep, rising_cons}

-- the low parts of a from m on
unfoldable lows_from : ℕ → ℕ → List ℕ
lows_from a m = keep (λ x. leb m x) (lows a)

among-lows_from : {x : ℕ} (a m : ℕ) → Among x (lows_from a m) → LowPart a x × (m ≤ x)
unfolding lows_from
among-lows_from {x} a m h = let k = among-keep (λ x. leb m x) (lows a) h in (among-lows a k.0, leb-true m x k.1)

lows_from-among : {a m x : ℕ} → LowPart a x → m ≤ x → Among x (lows_from a m)
unfolding lows_from
lows_from-among {a} {m} {x} p l = keep-among (λ x. leb m x) (lows a) (lows-among p) (le-leb m x l)

rising-lows_from : (a m : ℕ) → Rising (lows_from a m)
unfolding lows_from
rising-lows_from a m = rising-keep (λ x. leb m x) (lows a) (rising-lows a)

-- before the first step there is none
lows_from_all : (a : ℕ) → lows_from a a ≡ []
lows_from_all a = go (lows_from a a) (λ x h. among-lows_from a a h)
  where
    go : (l : List ℕ) → ((x : ℕ) → Among x l → LowPart a x × (a ≤ x)) → l ≡ []
    go [] h = refl
    go (x ∷ l) h = let k = h x (here refl) in let m = k.0.less in absurd (omega arith)

module _ (a : ℕ) (some : 1 ≤ a) (below : a < 2 ^ 32) where
  -- the lowest species of a, alone, and what is left of a without it
  abbrev lowest-only : ℕ
  lowest-only = single (lowest a)

  abbrev rest : ℕ
  rest = a - single (lowest a)

  only-within : Within (single (lowest a)) a
  only-within = lowest-alone-within some below

  -- the lowest species with any part of the rest but all of it is a low part
  part_is_low : {s : ℕ} → Within s (a - single (lowest a)) → s < a - single (lowest a) → LowPart a (single (lowest a) + s)
  part_is_low {s} v l =
      let apart = apart-sym s lowest-only (apart-within s rest lowest-only v (apart-sym lowest-only rest (minus_apart a lowest-only only-within))) in
      let sum = apart-union-sum lowest-only s apart in
      record {
        inside = subst (λ x. Within x a) sum (union-within lowest-only s a only-within (within_trans s rest a v (minus_within a lowest-only only-within)));
        holds = subst (λ x. Has x (lowest a)) sum (union-has_left lowest-only s (lowest a) (single-has (lowest a)));
        less = omega arith;
      }

  -- and every low part is such
  low_is_part : {x : ℕ} → LowPart a x → (single (lowest a) ≤ x) × Within (x - single (lowest a)) (a - single (lowest a))
  low_is_part {x} p =
      let v = single-within x (lowest a) p.holds in (
        within-le v,
        within_of_has (x - lowest-only) rest
            (λ i h.
            let k = has_minus x lowest-only i v h in
            minus_has a lowest-only i only-within (has_of_within x a i p.inside k.0) k.1),
      )

  -- after the last step all are there
  lows_from-lowest : lows_from a (single (lowest a)) ≡ lows a
  lows_from-lowest =
      rising_same (lows_from a lowest-only) (lows a) (rising-lows_from a lowest-only) (rising-lows a)
      (λ x h. lows-among (among-lows_from a lowest-only h).0) (λ x h. let p = among-lows a h in lows_from-among p (low_is_part p).0)

  -- one step of the loop meets one low part more
  lows_from-step : {s : ℕ} → Within s (a - single (lowest a)) → 1 ≤ s
      → lows_from a (single (lowest a) + bit_and (s - 1) (a - single (lowest a)))
      ≡ (single (lowest a) + bit_and (s - 1) (a - single (lowest a))) ∷ lows_from a (single (lowest a) + s)
  lows_from-step {s} v l =
      rising_same (lows_from a here_low) (here_low ∷ lows_from a (lowest-only + s)) (rising-lows_from a here_low)
      (rising_cons here_low (lows_from a (lowest-only + s)) (λ y h. omega (arith, falls, (among-lows_from a (lowest-only + s) h).1)) (rising-lows_from a (lowest-only + s)))
      (λ x h. let k = among-lows_from a here_low h in front x k.0 k.1 (ℕ_discrete x here_low))
      (λ x h. back x (Memᴰ.cases_cons h))
    where
      next : ℕ
      next = bit_and (s - 1) rest

      here_low : ℕ
      here_low = lowest-only + next

      falls : next < s
      falls = part_falls rest l

      front : (x : ℕ) → LowPart a x → here_low ≤ x → Dec (x ≡ here_low) → Among x (here_low ∷ lows_from a (lowest-only + s))
      front x p h (yes e) = here e
      front x p h (no f) = there (lows_from-among p (far x p h f (dec_le s (x - lowest-only))))
        where
          far : (x : ℕ) → LowPart a x → here_low ≤ x → (x ≡ here_low → ⊥) → Dec (s ≤ x - lowest-only) → lowest-only + s ≤ x
          far x p h f (yes k) = let q = (low_is_part p).0 in omega arith
          far x p h f (no g) =
              let q = low_is_part p in
              let least = q.0 in
              let g' = greatest-part-below rest v q.1 (omega (arith, g)) in
              absurd (omega (arith, f))

      back : (x : ℕ) → (x ≡ here_low) ⊎ Among x (lows_from a (lowest-only + s)) → Among x (lows_from a here_low)
      back x (inl e) = subst (λ y. Among y (lows_from a here_low)) (sym e) (lows_from-among (part_is_low (part_and (s - 1) rest) (omega (arith, falls, within-le v))) (omega arith))
      back x (inr h) = let k = among-lows_from a (lowest-only + s) h in lows_from-among k.0 (omega (arith, k.1, falls))

-- ---- the loop over the low parts, falling

-- the lowest species and the others of a cluster; the parts of the others from s on were visited
pub record Walk (a low rest s : ℕ) : Type 0 where
  pub lowest_alone : low ≡ single (lowest a)
  pub others : rest ≡ a - single (lowest a)
  pub part : Within s rest

-- the low parts that were met then
unfoldable pub met : ℕ → ℕ → List ℕ
unfolding lows_from
met a s = lows_from a (single (lowest a) + s)

module _ {a : ℕ} (below : a < 2 ^ 32) (two : 2 ≤ size a) where
  -- a cluster of two or more species holds its lowest one
  pub lowest_lt : lowest a < 32
  lowest_lt = lowest-below 32 (some_of_size (omega arith)) below below

  -- which alone is no greater than it
  pub lowest-le : single (lowest a) ≤ a
  lowest-le = within-le (lowest-alone-within (some_of_size (omega arith)) below)

  -- at first none is met
  pub walk_start : {low rest : ℕ} → low ≡ single (lowest a) → rest ≡ a - low → Walk a low rest rest × (met a rest ≡ [])
  unfolding met
  walk_start {low} {rest} p q =
      let all : single (lowest a) + rest ≡ a = omega (arith, lowest-le) in
      (record { lowest_alone = p; others = omega arith; part = within-refl rest }, ap (lows_from a) all ∙ lows_from_all a)

  -- the next part, with the lowest species, is a low part
  pub walk-low : {low rest s : ℕ} → Walk a low rest s → 1 ≤ s → LowPart a (low + bit_and (s - 1) rest)
  walk-low {low} {rest} {s} v l = rw (v.lowest_alone, v.others) (part_is_low a (some_of_size (omega arith)) below inside less)
    where
      inside : Within (bit_and (s - 1) (a - single (lowest a))) (a - single (lowest a))
      inside = part_and (s - 1) (a - single (lowest a))

      less : bit_and (s - 1) (a - single (lowest a)) < a - single (lowest a)
      less = let q = v.others in omega (arith, part_falls {s = s} (a - single (lowest a)) l, within-le v.part)

  -- each step meets one low part more
  pub walk_next : {low rest s s' : ℕ} → Walk a low rest s → 1 ≤ s → s' ≡ bit_and (s - 1) rest
      → Walk a low rest s' × LowPart a (low + s') × (met a s' ≡ (low + s') ∷ met a s)
  unfolding met
  walk_next {low} {rest} {s} {s'} v l p = (
    record { lowest_alone = v.lowest_alone; others = v.others; part = rw p (part_and (s - 1) rest) },
    rw p (walk-low v l),
    rw (v.lowest_alone, p, v.others) (lows_from-step a (some_of_size (omega arith)) below (rw v.others at v.part) l),
  )

  -- the same for what a step gives
  pub step_low : (s t : LowParts) {x : ℕ} → Walk a s.low s.rest s.left → LowPartSteps s (Some x) t → LowPart a x
  step_low s t v st = rw (st.1, st.2) (walk-low v st.0)

  -- and at last all are met
  pub met_end : (s : ℕ) → s ≤ 0 → met a s ≡ lows a
  unfolding met
  met_end s l =
      let none : single (lowest a) + s ≡ single (lowest a) = omega arith in
      ap (lows_from a) none ∙ lows_from-lowest a (some_of_size (omega arith)) below

kept-le : (g : ℕ → ℕ) (test : ℕ → Bool) (l : List ℕ) → total (map g (keep test l)) ≤ total (map g l)
unfolding keep total
kept-le g test [] = omega arith
kept-le g test (x ∷ l) = go (test x) (kept-le g test l)
  where
    go : (b : Bool) → total (map g (keep test l)) ≤ total (map g l) → total (map g (keep_if b x (keep test l))) ≤ g x + total (map g l)
    go true h = omega arith
    go false h = omega arith

-- a sum over those met is part of the sum over all low parts
pub met-le : (g : ℕ → ℕ) (a s : ℕ) → total (map g (met a s)) ≤ total (map g (lows a))
unfolding met lows_from
met-le g a s = kept-le g (λ x. leb (single (lowest a) + s) x) (lows a)
