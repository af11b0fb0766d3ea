-- The split that the code holds while it visits the low parts of a cluster is the choice among those visited.
use Prim.Native.Nat.{ℕ, ◌+◌, ◌-◌, ◌^◌, ◌≤◌, ◌<◌}
use mathlib.Core.Path.{◌≡◌, refl, sym, ap, ◌∙◌, subst}
use native.Mathlib.Decide.{dec_le}
use mathlib.Core.Logic.{◌⊎◌, inl, inr}
use native.Mathlib.Omega.{arith}
use lib.Bits.{bit_and}
use lib.ListN.{get_or}
use mathlib.Core.List.{List, foldr}
use Rattle.std.specs.Prelude.{Option, Some, None, IfSome}
use Rattle.clusters.specs.Sets.{single, size, lowest}
use Rattle.clusters.proofs.Sizes.{size-le}
use Rattle.splits.specs.Least.{no_tree}
use Rattle.splits.specs.Work.{Scored, Small, better_split, no_split, split_or, consider, least_split, BestSplit}
use Rattle.splits.specs.Falling.{LowPartSteps}
use Rattle.splits.specs.declared.parts.LowParts.{LowParts}
use Rattle.splits.specs.declared.Split.{Split}
use Rattle.splits.proofs.LowParts.{low_some}
use Rattle.splits.proofs.Recurrence.{better_no_low, better_no_rest, better_less, better_more, least_split_same, entry, best_none, entry-split, split-chosen}
use Rattle.splits.proofs.FallingParts.{Walk, met, walk_start, walk_next, met_end}

-- an entry that is not the mark can be added to
pub score-below : {x : ℕ} → (x ≡ no_tree) ⊎ (x < 8388608) → (x ≡ no_tree → ⊥) → x < 8388608
score-below (inl e) f = absurd (f e)
score-below (inr l) f = l

-- what is held while the low parts are visited: no split yet, or one
abbrev pub Held : ℕ → Split → Type 0
Held a s = (s ≡ no_split) ⊎ Small a s

held_better :
    (x y a low : ℕ) {s : Split} → low ≤ a → (x ≡ no_tree) ⊎ (x < 8388608) → (y ≡ no_tree) ⊎ (y < 8388608) → Held a s
    → Held a (better_split x y low s)
held_better x y a low {s} l (inl e) q h = subst (Held a) (sym (better_no_low x y low s e)) h
held_better x y a low {s} l (inr m) (inl e) h = subst (Held a) (sym (better_no_rest x y low s e)) h
held_better x y a low {s} l (inr m) (inr k) h = go (dec_le (x + y) s.score)
  where
    go : Dec (x + y ≤ s.score) → Held a (better_split x y low s)
    go (yes j) = subst (Held a) (sym (better_less x y low s (λ e. omega arith) (λ e. omega arith) j)) (inr (record { score = omega arith; low = l }))
    go (no f) = subst (Held a) (sym (better_more x y low s (λ e. omega arith) (λ e. omega arith) (omega arith))) h

-- ---- while the low parts are visited, falling

-- the split that is held is the choice among the low parts that were met
pub record Visited (scores : List ℕ) (a low rest : ℕ) (held : Split) (s : ℕ) : Type 0 where
  pub walk : Walk a low rest s
  pub same : held ≡ foldr (consider (λ b. get_or scores b 0) a) no_split (met a s)
  pub small : Held a held

-- at first there is no split
pub visited_start : {a low rest : ℕ} (scores : List ℕ) → a < 2 ^ 32 → 2 ≤ size a → low ≡ single (lowest a) → rest ≡ a - low
    → Visited scores a low rest no_split rest
visited_start {a} {low} {rest} scores below two p q =
    let start = walk_start below two p q in
    record {
      walk = start.0;
      same = rw start.1;
      small = inl refl;
    }

-- one low part more
pub visited_next : {scores : List ℕ} {a low rest s s' : ℕ} {held held' : Split} → Visited scores a low rest held s → a < 2 ^ 32 → 2 ≤ size a → Scored a scores
    → 1 ≤ s → s' ≡ bit_and (s - 1) rest
    → held' ≡ better_split (get_or scores (low + s') 0) (get_or scores (a - (low + s')) 0) (low + s') held
    → Visited scores a low rest held' s'
visited_next {scores} {a} {low} {rest} {s} {s'} {held} {held'} v below two scored l p q =
    let next = walk_next below two v.walk l p in
    let less = next.1.less in
    record {
      walk = next.0;
      same = rw (q, next.2, v.same);
      small =
          rw q
          (held_better (get_or scores (low + s') 0) (get_or scores (a - (low + s')) 0) a (low + s') (omega arith) (scored (low + s') less)
          (scored (a - (low + s')) (omega (arith, low_some next.1)))
          v.small);
    }

-- the same for what a step gives
pub visited_step : {scores : List ℕ} {a x : ℕ} (s t : LowParts) {held held' : Split} → Visited scores a s.low s.rest held s.left → a < 2 ^ 32 → 2 ≤ size a
    → Scored a scores → LowPartSteps s (Some x) t → held' ≡ better_split (get_or scores x 0) (get_or scores (a - x) 0) x held
    → Visited scores a t.low t.rest held' t.left
visited_step s t v below two scored st q = rw (st.3, st.4) (visited_next v below two scored st.0 st.2 (rw st.1 at q))

-- none where the mark is held, else the split
pub held_none : {a : ℕ} {held : Split} → Held a held → held.score ≡ no_tree → split_or None ≡ held
held_none (inl e) p = sym e
held_none (inr small) p = absurd (omega (arith, small.score))

pub held_some : {a : ℕ} {held : Split} → Held a held → (held.score ≡ no_tree → ⊥) → Small a held
held_some (inl e) f = absurd (f (ap (λ s. s.score) e))
held_some (inr small) f = small

-- at last it is the best split
pub visited_end : {scores : List ℕ} {a low rest s : ℕ} {held : Split} {r : Option Split} → Visited scores a low rest held s → a < 2 ^ 32 → 2 ≤ size a → s ≤ 0
    → split_or r ≡ held → IfSome r (Small a) → BestSplit scores a r
unfolding least_split
visited_end {scores} {a} {low} {rest} {s} {held} {r} v below two l told small =
    record {
      least = all;
      small = small;
      of_best = λ w ok light allow h.
          let few = size-le 32 below in
          let same : split_or r ≡ least_split (entry w ok) a = all ∙ least_split_same e (entry w ok) a h in
          let score = ap (λ t. t.score) same in
          record {
            low = ap (λ t. t.low) same ∙ sym (split-chosen w ok light a few allow two);
            missing = λ k. best_none w ok light a few allow two (sym score ∙ k);
            score = λ f. entry-split w ok light a few allow two (λ k. f (score ∙ k)) ∙ ap (λ n. w a + n) (sym score);
          };
    }
  where
    e : ℕ → ℕ
    e b = get_or scores b 0

    all : split_or r ≡ least_split e a
    all = told ∙ v.same ∙ ap (foldr (consider e a) no_split) (met_end below two s l)
