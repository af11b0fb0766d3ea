-- The answer that both tables give, for any weights that the score table held.
use Prim.Native.Nat.{ℕ, ◌-◌, ◌^◌, ◌≤◌, ◌<◌}
use mathlib.Core.Path.{◌≡◌, refl, sym, ap, ◌∙◌}
use mathlib.Core.Bool.{Bool}
use mathlib.Core.Option.{Option, some, none}
use mathlib.Core.List.{List}
use native.Mathlib.Omega.{arith}
use native.Mathlib.Decide.{dec_lt}
use lib.ListN.{get_or, take, length-take, get_or-eq_default}
use lib.Seq.{get_or-take}
use Rattle.clusters.specs.Sets.{whole, size}
use Rattle.clusters.proofs.Sets.{whole_below}
use Rattle.clusters.proofs.Sizes.{size_whole}
use Rattle.trees.specs.Records.{record_of}
use Rattle.splits.specs.BinaryTrees.{Binary, root, clusters_in}
use Rattle.splits.specs.BinaryTrees.Binary.{tip, fork}
use Rattle.splits.specs.WellFormed.{TreeOn}
use Rattle.splits.specs.WellFormed.TreeOn.{two}
use Rattle.splits.specs.Least.{best, no_tree, score_of, score_entry, split_entry, filled}
use Rattle.splits.specs.Work.{Light}
use Rattle.splits.proofs.LowParts.{low-part_two, low_some}
use Rattle.splits.proofs.Membership.{tree-root, tree-clusters}
use Rattle.splits.proofs.Recurrence.{best_on_lem, score-bound, best-fork}
use Rattle.tables.specs.Work.{Weights, Fillable, Fills, Chosen, Chooses}
use Rattle.tables.proofs.Written.{written_at, written-entries}
use Rattle.splits.specs.Best.{found_of}
use Rattle.faults.specs.declared.Fault.TheVariants.{NoTree}
use Rattle.faults.specs.declared.Refusal.{Refusal}
use Rattle.terms.specs.Answers.{found_to}
use Rattle.terms.specs.declared.Solution.{Solution}
use Rattle.std.specs.Prelude.{Option as Maybe, Ok, Err}
use Rattle.solver.specs.Work.{SolvesFor}

-- ---- the split table leads down the best tree

fork_two : {a b : ℕ} {t u : Binary} → TreeOn a (fork b t u) → 2 ≤ size a
fork_two (two p v w) = low-part_two p

module _ (w : ℕ → ℕ) (ok : ℕ → Bool) (splits : List ℕ) (entries : ℕ) (table : (b : ℕ) → b < entries → get_or splits b 0 ≡ split_entry (best w ok b)) where
  pub best-chosen : (t : Binary) (a : ℕ) → a < entries → best w ok a ≡ some t → Chosen splits t
  unfolding Chosen
  best-chosen (tip b) a l e = ap (λ k. get_or splits k 0) (tree-root (best_on_lem w ok a (tip b) e)) ∙ table a l ∙ ap split_entry e
  best-chosen (fork b t u) a l e =
      let on = best_on_lem w ok a (fork b t u) e in
      let f = best-fork w ok a (fork b t u) (fork_two on) e in
      let here : b ≡ a = tree-root on in
      let made : some (fork b t u) ≡ some (fork a f.low_tree_lem f.other_tree) = sym e ∙ f.whole_best in
      let low-is : t ≡ f.low_tree_lem = cc in
      let other-is : u ≡ f.other_tree = cc in
      let low : split_entry (best w ok a) ≡ root t = ap split_entry e in
      let less = f.part.less in
      let rest : root u ≡ a - split_entry (best w ok a) = ap root other-is ∙ f.other_root in (
        ap (λ k. get_or splits k 0) here ∙ table a l ∙ low,
        omega (arith, low_some f.part),
        omega arith,
        omega arith,
        best-chosen t (split_entry (best w ok a)) (omega arith) (f.low-best ∙ ap some (sym low-is)),
        best-chosen u (a - split_entry (best w ok a)) (omega arith) (f.other_best ∙ ap some (sym other-is)),
      )

-- ---- both tables filled, and the answer that they give

pub record BothFilled (w : ℕ → ℕ) (n : ℕ) (ok : ℕ → Bool) (lent_scores lent_splits scores splits : List ℕ) : Type 0 where
  pub light : Light w
  pub score_table : scores ≡ filled n (λ a. score_entry w (best w ok a)) lent_scores
  pub split_table : splits ≡ filled n (λ a. split_entry (best w ok a)) lent_splits

pub fills_both : {w : ℕ → ℕ} {n : ℕ} {ok : ℕ → Bool} {lent_scores lent_splits scores splits : List ℕ} → Light w → Weights n w lent_scores
    → Fills n ok lent_scores lent_splits scores splits → BothFilled w n ok lent_scores lent_splits scores splits
fills_both {w} light weights fills = let both = fills w light weights in record { light = light; score_table = both.0; split_table = both.1 }

module _ {w : ℕ → ℕ} {n : ℕ} {ok : ℕ → Bool} {lent_scores lent_splits scores splits : List ℕ} (h : BothFilled w n ok lent_scores lent_splits scores splits) where
  score_at : (b : ℕ) → b < 2 ^ n → get_or scores b 0 ≡ score_entry w (best w ok b)
  score_at b l =
      let entry : ℕ → ℕ = λ a. score_entry w (best w ok a) in
      ap (λ t. get_or t b 0) (h.score_table ∙ sym (written-entries entry (2 ^ n) lent_scores)) ∙ written_at entry (2 ^ n) lent_scores b l

  split_at : (b : ℕ) → b < 2 ^ n → get_or splits b 0 ≡ split_entry (best w ok b)
  split_at b l =
      let entry : ℕ → ℕ = λ a. split_entry (best w ok a) in
      ap (λ t. get_or t b 0) (h.split_table ∙ sym (written-entries entry (2 ^ n) lent_splits)) ∙ written_at entry (2 ^ n) lent_splits b l

  module _ (few : n ≤ 16) {all : ℕ} (is : all ≡ whole n) where
    score_all : get_or scores all 0 ≡ score_entry w (best w ok (whole n))
    score_all = ap (λ b. get_or scores b 0) is ∙ score_at (whole n) (whole_below n)

    not_marked : (t : Binary) → best w ok (whole n) ≡ some t → get_or scores all 0 ≡ no_tree → ⊥
    not_marked t e m = omega (arith, score_all, ap (score_entry w) e, score-bound h.light (best_on_lem w ok (whole n) t e), size_whole n)

    -- the mark stands there where there is no tree
    no_best : get_or scores all 0 ≡ no_tree → best w ok (whole n) ≡ none
    no_best m = go (best w ok (whole n)) refl
      where
        go : (o : Option Binary) → best w ok (whole n) ≡ o → o ≡ none
        go none e = refl
        go (some t) e = absurd (not_marked t e m)

    pub solves_none : {e : Refusal} → get_or scores all 0 ≡ no_tree → e ≡ record { fault = NoTree; place = 0 }
        → SolvesFor w n ok lent_scores lent_splits (found_to (Err e)) scores splits
    solves_none m e = record { reply = ap (λ k. found_to (Err k)) e ∙ sym (ap (found_of w) (no_best m)); score_table = h.score_table; split_table = h.split_table }

    -- a tree on all species, where there is one
    record Best : Type 0 where
      tree : Binary
      chosen-best : best w ok (whole n) ≡ some tree

    a_best : (get_or scores all 0 ≡ no_tree → ⊥) → Best
    a_best f = go (best w ok (whole n)) refl
      where
        go : (o : Option Binary) → best w ok (whole n) ≡ o → Best
        go none e = absurd (f (score_all ∙ ap (score_entry w) e))
        go (some t) e = record { tree = t; chosen-best = e }

    led_down : (b : Best) → (root b.tree ≡ all) × Chosen splits b.tree
    led_down b = (
      tree-root (best_on_lem w ok (whole n) b.tree b.chosen-best) ∙ sym is,
      best-chosen w ok splits (2 ^ n) split_at b.tree (whole n) (whole_below n) b.chosen-best,
    )

    pub solves_chooses : (get_or scores all 0 ≡ no_tree → ⊥) → Chooses splits all 31
    solves_chooses f =
        let b = a_best f in
        let led = led_down b in
        record {
          tree = b.tree;
          rooted = led.0;
          chosen = led.1;
          fits = omega (arith, tree-clusters (best_on_lem w ok (whole n) b.tree b.chosen-best), size_whole n);
        }

    pub solves-found : {s : Solution} {score : ℕ} → (get_or scores all 0 ≡ no_tree → ⊥) → score ≡ get_or scores all 0
        → ((t : Binary) → root t ≡ all → Chosen splits t → s ≡ record { score = score; numbers = record_of (clusters_in t) })
        → SolvesFor w n ok lent_scores lent_splits (found_to (Ok s)) scores splits
    solves-found {s} {score} f e g =
        let b = a_best f in
        let led = led_down b in
        let points : score ≡ score_of w b.tree = e ∙ score_all ∙ ap (score_entry w) b.chosen-best in
        record {
          reply =
              ap (λ k. found_to (Ok k)) (g b.tree led.0 led.1)
              ∙ ap (λ k. record { number = 0; place = 0; score = k; numbers = record_of (clusters_in b.tree) }) points
              ∙ sym (ap (found_of w) b.chosen-best);
          score_table = h.score_table;
          split_table = h.split_table;
        }

-- ---- the weights that a table holds, whatever they are

-- its first 2^n entries, and 0 behind them
abbrev pub held : ℕ → List ℕ → ℕ → ℕ
held n scores b = get_or (take (2 ^ n) scores) b 0

module _ {n : ℕ} {allowed : Maybe (List ℕ)} {scores splits : List ℕ} (h : Fillable n allowed scores splits) where
  held_by : (b : ℕ) → Dec (b < 2 ^ n) → held n scores b ≤ 131072
  held_by b (yes l) = omega (arith, get_or-take (2 ^ n) scores b 0 l, h.light b l)
  held_by b (no f) = omega (arith, get_or-eq_default (take (2 ^ n) scores) 0 {n = b} (omega (arith, length-take (2 ^ n) scores, f)))

  pub held-light : Light (held n scores)
  held-light b = held_by b (dec_lt b (2 ^ n))

  pub held-weights : Weights n (held n scores) scores
  held-weights b l = sym (get_or-take (2 ^ n) scores b 0 l)

  pub held-filled : {ok : ℕ → Bool} {scores' splits' : List ℕ} → Fills n ok scores splits scores' splits' → BothFilled (held n scores) n ok scores splits scores' splits'
  held-filled fills = fills_both held-light held-weights fills
