-- The third table while the clusters rise: the entries below a are the numbers of ties, and those from a on stay.
use Prim.Native.Nat.{ℕ, suc, ◌+◌, ◌-◌, ◌^◌, ◌≤◌, ◌<◌}
use mathlib.Core.Path.{◌≡◌, sym, ap, ap₂, ◌∙◌}
use mathlib.Core.Bool.{Bool}
use mathlib.Core.Option.{some}
use mathlib.Core.List.{List}
use native.Mathlib.Omega.{arith}
use lib.ListN.{length, get_or, set}
use Rattle.clusters.specs.Sets.{size}
use Rattle.clusters.proofs.Sizes.{size-le}
use Rattle.splits.specs.BinaryTrees.{Binary}
use Rattle.splits.specs.Least.{best, no_tree, score_entry, split_entry, filled}
use Rattle.splits.specs.Ties.{tie_entry}
use Rattle.splits.specs.WellFormed.{LowPart}
use Rattle.splits.specs.Work.{Light, ties_over, Counted}
use Rattle.splits.proofs.Recurrence.{entry, best-fork}
use Rattle.splits.proofs.LowParts.{low_some}
use Rattle.splits.proofs.Ties.{tie_none, tie_tip, tie_splits, split_two, mark_none, some_unmarked}
use Rattle.splits.proofs.TieBound.{tie_bound}
use Rattle.splits.proofs.TieWalk.{ties_over_same}
use Rattle.tables.specs.Work.{Tabled, TieNext, Tieable, Ties, FillsTies}
use Rattle.tables.proofs.Reached.{entries_few}
use Rattle.tables.proofs.Written.{written, written_none, written_next, written-length, written_at, written-entries}

-- ---- an entry that is not the mark

module _ {a : ℕ} {w : ℕ → ℕ} {ok : ℕ → Bool} {scores splits : List ℕ} (t : Tabled (suc a) w ok scores splits) where
  -- there is a best tree
  unmarked : (get_or scores a 0 ≡ no_tree → ⊥) → (b : Binary) × (best w ok a ≡ some b)
  unmarked f = some_unmarked w ok a (λ e. f (t.score a (omega arith) ∙ e))

  -- on two or more species, where it has a split
  pub tied_two : (get_or splits a 0 ≡ 0 → ⊥) → 2 ≤ size a
  tied_two z = split_two w ok a (λ e. z (t.split a (omega arith) ∙ e))

  -- and the split is at a low part
  pub tied-low : (get_or scores a 0 ≡ no_tree → ⊥) → (get_or splits a 0 ≡ 0 → ⊥) → LowPart a (get_or splits a 0)
  tied-low f z = let b = unmarked f in rw (t.split a (omega arith)) (best-fork w ok a b.0 (tied_two z) b.1).part

-- ---- the ties of one cluster, for each way that the code takes

module _ (a : ℕ) (scores splits ties : List ℕ) where
  -- no tree
  pub ties_none : a < 65536 → get_or scores a 0 ≡ no_tree → Ties a scores splits ties 0
  ties_none few e w ok t below =
      sym (tie_none w ok a (mark_none w ok t.light a (omega (arith, size-le 16 few)) (sym (t.score a (omega arith)) ∙ e)))

  -- a single species
  pub ties-single : (get_or scores a 0 ≡ no_tree → ⊥) → get_or splits a 0 ≡ 0 → Ties a scores splits ties 1
  ties-single f z w ok t below = let b = unmarked t f in sym (tie_tip w ok a b.0 b.1 (sym (t.split a (omega arith)) ∙ z))

  -- any other cluster
  pub ties-split : {least r : ℕ} → (get_or scores a 0 ≡ no_tree → ⊥) → (get_or splits a 0 ≡ 0 → ⊥)
      → least ≡ get_or scores (get_or splits a 0) 0 + get_or scores (a - get_or splits a 0) 0
      → r ≡ ties_over (λ b. get_or scores b 0) (λ b. get_or ties b 0) a least → Ties a scores splits ties r
  ties-split {least} {r} f z l q w ok t below =
      let b = unmarked t f in
      q ∙ ties_over_same (λ b. get_or scores b 0) (entry w ok) (λ b. get_or ties b 0) (tie_entry w ok) a least (λ b h. t.score b (omega arith)) below
      ∙ ap (ties_over (entry w ok) (tie_entry w ok) a) sum ∙ sym (tie_splits w ok a b.0 (tied_two t z) b.1)
    where
      part : LowPart a (get_or splits a 0)
      part = tied-low t f z

      sum : least ≡ entry w ok (split_entry (best w ok a)) + entry w ok (a - split_entry (best w ok a))
      sum =
          let less = part.less in
          l ∙ ap₂ ◌+◌ (t.score (get_or splits a 0) (omega arith)) (t.score (a - get_or splits a 0) (omega (arith, low_some part)))
          ∙ ap (λ k. entry w ok k + entry w ok (a - k)) (t.split a (omega arith))

-- the ties below a are no more than there are trees
pub ties-counted : {a : ℕ} {scores splits ties : List ℕ} → TieNext a scores splits ties → Counted a ties
ties-counted p b l = let few = p.few in omega (arith, p.below b l, tie_bound p.weights p.allowed b (omega arith))

-- ---- the table

-- the entries below a are written
pub record Counting (n : ℕ) (scores splits lent ties : List ℕ) (a : ℕ) : Type 0 where
  pub last : a ≤ 2 ^ n
  pub ties_written : (w : ℕ → ℕ) (ok : ℕ → Bool) → Tabled (2 ^ n) w ok scores splits → ties ≡ written (tie_entry w ok) a lent

-- at first nothing is written
pub counting_start : {n : ℕ} (scores splits lent : List ℕ) → Counting n scores splits lent lent 0
counting_start scores splits lent = record { last = omega arith; ties_written = λ w ok t. sym (written_none (tie_entry w ok) lent) }

tabled_less : {k m : ℕ} {w : ℕ → ℕ} {ok : ℕ → Bool} {scores splits : List ℕ} → m ≤ k → Tabled k w ok scores splits → Tabled m w ok scores splits
tabled_less l t = record { light = t.light; score = λ b h. t.score b (omega arith); split = λ b h. t.split b (omega arith) }

module _ {n : ℕ} {scores splits lent ties : List ℕ} {a : ℕ} (c : Counting n scores splits lent ties a) (p : Tieable n scores splits lent) where
  own-ties : ties ≡ written (tie_entry p.weights p.allowed) a lent
  own-ties = c.ties_written p.weights p.allowed p.tabled

  -- the table keeps its length
  pub counting_length : length ties ≡ length lent
  counting_length =
      let last = c.last in
      let long = p.ties_long in
      ap length own-ties ∙ written-length (tie_entry p.weights p.allowed) a lent (omega arith)

  -- the next cluster can be counted
  pub counting_cluster : a < 2 ^ n → TieNext a scores splits ties
  counting_cluster l =
      let few = entries_few p.few in
      let ns = p.scores_long in
      let np = p.splits_long in
      let nt = p.ties_long in
      record {
        few = omega arith;
        score_within = omega arith;
        split_within = omega arith;
        tie_entries = omega (arith, counting_length);
        weights = p.weights;
        allowed = p.allowed;
        tabled = tabled_less (omega arith) p.tabled;
        below = λ b h. ap (λ k. get_or k b 0) own-ties ∙ written_at (tie_entry p.weights p.allowed) a lent b h;
      }

  -- and is
  pub counting_next : {r : ℕ} → a < 2 ^ n → Ties a scores splits ties r → Counting n scores splits lent (set ties a r) (a + 1)
  counting_next {r} l h =
      let nt = p.ties_long in
      record {
        last = omega arith;
        ties_written = λ w ok t.
            let e = c.ties_written w ok t in
            let is = h w ok (tabled_less (omega arith) t) (λ b k. ap (λ m. get_or m b 0) e ∙ written_at (tie_entry w ok) a lent b k) in
            ap₂ (λ m v. set m a v) e is ∙ written_next (tie_entry w ok) a lent (omega arith);
      }

  -- all entries are there
  pub counting_end : 2 ^ n ≤ a → FillsTies n scores splits lent ties
  counting_end past w ok t =
      let last = c.last in
      let e : a ≡ 2 ^ n = omega arith in
      c.ties_written w ok t ∙ ap (λ k. written (tie_entry w ok) k lent) e ∙ written-entries (tie_entry w ok) (2 ^ n) lent

-- ---- tables that are filled

-- an entry of a table that is filled
pub filled_at : (f : ℕ → ℕ) (n : ℕ) (lent : List ℕ) (b : ℕ) → b < 2 ^ n → get_or (filled n f lent) b 0 ≡ f b
filled_at f n lent b h = ap (λ t. get_or t b 0) (sym (written-entries f (2 ^ n) lent)) ∙ written_at f (2 ^ n) lent b h

-- tables that are filled with the entries of the best trees are filled for those weights and that allowed set
pub filled-tabled : (n : ℕ) (w : ℕ → ℕ) (ok : ℕ → Bool) (lent_scores lent_splits : List ℕ) {scores splits : List ℕ} → Light w
    → scores ≡ filled n (λ a. score_entry w (best w ok a)) lent_scores → splits ≡ filled n (λ a. split_entry (best w ok a)) lent_splits
    → Tabled (2 ^ n) w ok scores splits
filled-tabled n w ok lent_scores lent_splits light e k = record {
  light = light;
  score = λ b l. ap (λ t. get_or t b 0) e ∙ filled_at (λ a. score_entry w (best w ok a)) n lent_scores b l;
  split = λ b l. ap (λ t. get_or t b 0) k ∙ filled_at (λ a. split_entry (best w ok a)) n lent_splits b l;
}
