-- Every cluster allowed (#114): the answer and both tables are those of the search with 2^n bytes of 1; there is always a tree, and no binary tree scores less.
use Prim.Native.Nat.{ℕ, ◌^◌, ◌≤◌, ◌<◌}
use mathlib.Core.Path.{◌≡◌, refl, sym, ap, ◌∙◌, subst}
use mathlib.Core.Logic.{◌↔◌}
use mathlib.Core.Option.{Option, some}
use mathlib.Core.List.Memᴰ.{head as here}
use mathlib.Core.List.{List, [], ◌∷◌, Memᴰ}
use native.Mathlib.Omega.{arith}
use lib.ListN.{length, length-replicate}
use Rattle.clusters.specs.Sets.{whole, size}
use Rattle.clusters.proofs.Sets.{within-le, below_of_within, whole_below, whole_some}
use Rattle.clusters.proofs.Sizes.{size_some}
use Rattle.trees.specs.Records.{records_in}
use Rattle.trees.proofs.Bounds.{whole_below_sixteen}
use Rattle.weights.specs.Count.{weight}
use Rattle.lineages.specs.InOrder.{GenesInOrder}
use Rattle.terms.specs.Allowed.{allowed_for, every_cluster}
use Rattle.terms.proofs.AllMarked.{all_judged, all_allowed, every_as_marked}
use Rattle.splits.specs.BinaryTrees.{Binary, trees_on}
use Rattle.splits.specs.WellFormed.{TreeOn}
use Rattle.splits.specs.Least.{best, score_entry, split_entry, filled}
use Rattle.splits.specs.Best.{best_for, found_by}
use Rattle.splits.proofs.Membership.{listed_well_formed}
use Rattle.splits.proofs.TreeCounts.{trees-counted, tree_count_few, tree_count-mono}
use Rattle.tables.proofs.Written.{written, written_same}
use Rattle.solver.specs.Work.{Solves}
use Rattle.search.specs.Promise.{Finds}
use Rattle.search.specs.Candidates.{Candidate, BinarySpecies, AnswerOfAll}
use Rattle.search.proofs.BestTrees.{best_local, best_there}
use Rattle.search.proofs.Accepted.{accepts}
use Rattle.search.proofs.Demand.{found-answers}
use Rattle.terms.specs.declared.Found.{Found}
use Rattle.std.specs.Prelude.{Some, None}
use Rattle.weights.specs.declared.Rooting.{Rooting}

-- ---- as with bytes that mark every cluster

module _ (rooting : Rooting) (n : ℕ) (genes : List (List ℕ)) where
  -- the best tree on a with every cluster allowed, and with the bytes
  abbrev on_every : ℕ → Option Binary
  on_every a = best (weight rooting genes) (allowed_for None n) a

  abbrev on_marked : ℕ → Option Binary
  on_marked a = best (weight rooting genes) (allowed_for (Some (every_cluster n)) n) a

  -- they are equal on each cluster of n species
  pub every-best : (a : ℕ) → a < 2 ^ n → on_every a ≡ on_marked a
  every-best a l =
      best_local (weight rooting genes) (allowed_for None n) (allowed_for (Some (every_cluster n)) n) a
      (λ x s m. every_as_marked n x (let k = within-le m in omega arith))

  -- the answer
  pub every-found : found_by rooting (on_every (whole n)) genes ≡ found_by rooting (on_marked (whole n)) genes
  every-found = ap (λ (o : Option Binary). found_by rooting o genes) (every-best (whole n) (whole_below n))

  -- both tables
  pub every-scores :
      (lent : List ℕ) → filled n (λ a. score_entry (weight rooting genes) (on_every a)) lent ≡ filled n (λ a. score_entry (weight rooting genes) (on_marked a)) lent
  unfolding written
  every-scores lent = written_same _ _ (2 ^ n) lent (λ a l. ap (score_entry (weight rooting genes)) (every-best a l))

  pub every-splits : (lent : List ℕ) → filled n (λ a. split_entry (on_every a)) lent ≡ filled n (λ a. split_entry (on_marked a)) lent
  unfolding written
  every-splits lent = written_same _ _ (2 ^ n) lent (λ a l. ap split_entry (every-best a l))

  module _ {scores splits : List ℕ} {r : Found} {s p : List ℕ} where
    -- so what is solved with every cluster allowed is what is solved with the bytes, and the other way
    pub every-solves :
        Solves rooting n genes (allowed_for None n) scores splits r s p ↔ Solves rooting n genes (allowed_for (Some (every_cluster n)) n) scores splits r s p
    every-solves = (
      λ h. record { reply = h.reply ∙ every-found; score_table = h.score_table ∙ every-scores scores; split_table = h.split_table ∙ every-splits splits },
      λ h. record {
        reply = h.reply ∙ sym every-found;
        score_table = h.score_table ∙ sym (every-scores scores);
        split_table = h.split_table ∙ sym (every-splits splits);
      },
    )

-- gene trees and tables that the search accepts: what is solved is what the search with the bytes promises
pub every-finds :
    {rooting : Rooting} {n : ℕ} {genes : List ℕ} {count : ℕ} {scores splits : List ℕ} {r : Found} {s p : List ℕ}
    → GenesInOrder rooting n genes count → 2 ^ n ≤ length scores → 2 ^ n ≤ length splits
    → Solves rooting n (records_in count genes) (allowed_for None n) scores splits r s p → Finds rooting n genes count (every_cluster n) scores splits r s p
unfolding best_for
every-finds {rooting} {n} {genes} {count} {scores} {splits} order scores_fit splits_fit h =
    let marked = (every-solves rooting n (records_in count genes)).0 h in
    let passed = accepts rooting n genes count (every_cluster n) scores splits (record {
      in_order = order;
      allowed_fits = omega (arith, length-replicate {A = ℕ} (2 ^ n) 1);
      scores_fit = scores_fit;
      splits_fit = splits_fit;
      allowed_bytes = λ a l. all_judged n a l;
    }) in
    record { reply = marked.reply ∙ rw passed; score_table = marked.score_table ∙ rw passed; split_table = marked.split_table ∙ rw passed }

-- ---- there is always a tree

-- some binary tree stands on each cluster
pub some_tree : (a : ℕ) → 1 ≤ a → a < 2 ^ 32 → (t : Binary) × TreeOn a t
some_tree a one below =
    go (trees_on a) (omega (arith, trees-counted a below, tree_count_few.0, tree_count-mono 1 (size a) (size_some one))) (λ t m. listed_well_formed t a m)
  where
    go : (l : List Binary) → 1 ≤ length l → ((t : Binary) → Memᴰ t l → TreeOn a t) → (t : Binary) × TreeOn a t
    go [] h on = absurd (omega arith)
    go (t ∷ l) h on = (t, on t (here refl))

-- so with every cluster allowed each has a best tree
pub every-tree : (w : ℕ → ℕ) (a : ℕ) → 1 ≤ a → a < 2 ^ 32 → (t : Binary) × (best w (allowed_for None 0) a ≡ some t)
every-tree w a one below = let u = some_tree a one below in best_there w (allowed_for None 0) a u.0 u.1 (λ x m. refl)

-- ---- the answer

-- every binary species record competes where all is marked
pub all_compete : (n : ℕ) (c : List ℕ) → BinarySpecies n c → Candidate n (every_cluster n) c
all_compete n c b = record {
  valid = b.valid;
  binary = b.binary;
  over = λ a m. all_allowed n a (below_of_within n (b.valid.inside a m).1);
}

-- n of 1 to 16: 14 never occurs, and the score is at most that of every binary species record
pub every-answered :
    {rooting : Rooting} {n : ℕ} {genes : List (List ℕ)} {scores splits : List ℕ} {r : Found} {s p : List ℕ} → 1 ≤ n → n ≤ 16
    → Solves rooting n genes (allowed_for None n) scores splits r s p → AnswerOfAll rooting n genes r
unfolding best_for
every-answered {rooting} {n} {genes} {r = r} one few h =
    let below = whole_below_sixteen n few in
    let t = every-tree (weight rooting genes) (whole n) (whole_some n one) (omega arith) in
    subst (AnswerOfAll rooting n genes) (sym (h.reply ∙ ap (λ (o : Option Binary). found_by rooting o genes) t.1)) (of_best t.0 t.1)
  where
    of_best : (t : Binary) → best (weight rooting genes) (allowed_for None n) (whole n) ≡ some t → AnswerOfAll rooting n genes (found_by rooting (some t) genes)
    of_best t e =
        let answer = found-answers rooting n genes (every_cluster n) few t (sym (every-best rooting n genes (whole n) (whole_below n)) ∙ e) in
        record {
          number = refl;
          place = refl;
          species = record { valid = answer.competes.valid; binary = answer.competes.binary };
          counted = answer.counted;
          least = λ c b. answer.least c (all_compete n c b);
          first = λ c b q. answer.first c (all_compete n c b) q;
        }
