-- The best tree among the records that compete, for any weights of clusters and whatever scores the records by them: least, the first of the least, and none where none competes.
use Prim.Native.Nat.{ℕ, ◌+◌, ◌^◌, ◌≤◌, ◌<◌}
use mathlib.Core.Path.{◌≡◌, refl, sym, ap, ◌∙◌, subst}
use mathlib.Core.Logic.{◌⊎◌, inl, inr}
use mathlib.Core.Bool.{true}
use mathlib.Core.Option.{Option, some, none}
use mathlib.Core.List.{List, [], ◌∷◌, ◌++◌}
use native.Mathlib.Omega.{arith}
use lib.ListN.{replicate}
use Rattle.clusters.specs.Sets.{whole}
use Rattle.clusters.proofs.Sets.{below_of_within}
use Rattle.trees.specs.Lists.{Among, Sublist}
use Rattle.trees.specs.Lists.Sublist.{ends, kept, added}
use Rattle.trees.specs.Records.{listed, record_of}
use Rattle.trees.proofs.Bounds.{whole_below_sixteen}
use Rattle.trees.proofs.Recorded.{record_among, among_record}
use Rattle.splits.specs.BinaryTrees.{Binary, clusters_in}
use Rattle.splits.specs.WellFormed.{TreeOn}
use Rattle.splits.specs.Order.{Earlier}
use Rattle.splits.specs.Least.{best, score_of}
use Rattle.splits.specs.Best.{found_of}
use Rattle.splits.proofs.Recurrence.{best_on_lem}
use Rattle.splits.proofs.RecordsOfTrees.{tree_valid, tree-binary, tree_of_record, TreeOfRecord}
use Rattle.terms.specs.Allowed.{allowed_in}
use Rattle.terms.specs.declared.Found.{Found}
use Rattle.search.specs.Candidates.{Candidate, EarlierRecord, AnswerBy}
use Rattle.search.proofs.BestTrees.{Over, best_over, best_least, best_first, best-missed}

-- ---- the records that compete

module _ (n : ℕ) (allowed : List ℕ) where
  -- the record of a tree over allowed clusters competes, and each that competes is such
  pub tree-competes : (t : Binary) → n ≤ 16 → TreeOn (whole n) t → Over (allowed_in n allowed) t → Candidate n allowed (record_of (clusters_in t))
  tree-competes t h v o = record { valid = tree_valid v (whole_below_sixteen n h); binary = tree-binary v; over = λ a m. o a (among_record 16 (clusters_in t) m) }

  -- the tree of a record that competes
  pub competitor : (c : List ℕ) → n ≤ 16 → Candidate n allowed c → TreeOfRecord (whole n) c
  competitor c h k = tree_of_record (whole_below_sixteen n h) k.valid k.binary

  -- it is over allowed clusters
  pub competitor_over : (c : List ℕ) (h : n ≤ 16) (k : Candidate n allowed c) → Over (allowed_in n allowed) (competitor c h k).tree
  competitor_over c h k x m =
      let t = competitor c h k in
      k.over x (subst (λ r. Among x (listed r)) t.recorded (record_among 16 (clusters_in t.tree) m))

-- ---- the best of them

-- what scores a record by the weights of its clusters: the record of a tree has the tree's score
abbrev pub ScoresBy : (ℕ → ℕ) → (List ℕ → ℕ) → Type 0
ScoresBy w scores = (t : Binary) → scores (record_of (clusters_in t)) ≡ score_of w t

-- an answer, or 14 where no record competes
pub data RepliedBy (scores : List ℕ → ℕ) (n : ℕ) (allowed : List ℕ) (r : Found) : Type 0 where
  answered : r.number ≡ 0 → r.place ≡ 0 → AnswerBy scores n allowed r → RepliedBy scores n allowed r
  nothing :
      r.number ≡ 14 → r.place ≡ 0 → r.score ≡ 0 → r.numbers ≡ replicate 32 0 → ((c : List ℕ) → Candidate n allowed c → ⊥)
      → RepliedBy scores n allowed r

module _ (w : ℕ → ℕ) (scores : List ℕ → ℕ) (by : ScoresBy w scores) (n : ℕ) (allowed : List ℕ) (h : n ≤ 16) where
  -- a record that competes has the score of its tree
  pub competitor-scored : (c : List ℕ) (k : Candidate n allowed c) → scores c ≡ score_of w (competitor n allowed c h k).tree
  competitor-scored c k = let t = competitor n allowed c h k in ap scores (sym t.recorded) ∙ by t.tree

  least_of_all : (t : Binary) → best w (allowed_in n allowed) (whole n) ≡ some t → (c : List ℕ) → Candidate n allowed c → score_of w t ≤ scores c
  least_of_all t e c k =
      let u = competitor n allowed c h k in
      subst (λ m. score_of w t ≤ m) (sym (competitor-scored c k)) (best_least w (allowed_in n allowed) (whole n) t e u.tree u.on (competitor_over n allowed c h k))

  first_of_equals : (t : Binary) → best w (allowed_in n allowed) (whole n) ≡ some t → (c : List ℕ) → Candidate n allowed c → scores c ≡ score_of w t
      → (record_of (clusters_in t) ≡ c) ⊎ EarlierRecord n (record_of (clusters_in t)) c
  first_of_equals t e c k q =
      go (best_first w (allowed_in n allowed) (whole n) t e u.tree u.on (competitor_over n allowed c h k) (sym (competitor-scored c k) ∙ q))
    where
      u : TreeOfRecord (whole n) c
      u = competitor n allowed c h k

      go : (t ≡ u.tree) ⊎ Earlier t u.tree → (record_of (clusters_in t) ≡ c) ⊎ EarlierRecord n (record_of (clusters_in t)) c
      go (inl i) = inl (ap (λ v. record_of (clusters_in v)) i ∙ u.recorded)
      go (inr l) =
          inr (record {
            tree = t;
            later = u.tree;
            tree_on = best_on_lem w (allowed_in n allowed) (whole n) t e;
            later_on = u.on;
            tree_recorded = refl;
            later_recorded = u.recorded;
            earlier = l;
          })

  pub best-answers : (t : Binary) → best w (allowed_in n allowed) (whole n) ≡ some t → AnswerBy scores n allowed (found_of w (some t))
  best-answers t e =
      record {
        competes = tree-competes n allowed t h (best_on_lem w (allowed_in n allowed) (whole n) t e) (best_over w (allowed_in n allowed) (whole n) t e);
        counted = by t;
        least = λ c k. least_of_all t e c k;
        first = λ c k q. first_of_equals t e c k q;
      }

  pub none_competing : best w (allowed_in n allowed) (whole n) ≡ none → (c : List ℕ) → Candidate n allowed c → ⊥
  none_competing e c k =
      let u = competitor n allowed c h k in
      best-missed w (allowed_in n allowed) (whole n) e u.tree u.on (competitor_over n allowed c h k)

  pub best-replied : RepliedBy scores n allowed (found_of w (best w (allowed_in n allowed) (whole n)))
  best-replied = go (best w (allowed_in n allowed) (whole n)) refl
    where
      go : (o : Option Binary) → best w (allowed_in n allowed) (whole n) ≡ o → RepliedBy scores n allowed (found_of w o)
      go none e = nothing refl refl refl refl (none_competing e)
      go (some t) e = answered refl refl (best-answers t e)

-- ---- what such a reply says

module _ {scores : List ℕ → ℕ} {n : ℕ} {allowed : List ℕ} {r : Found} where
  pub reply-says : RepliedBy scores n allowed r → (r.number ≡ 0) ⊎ (r.number ≡ 14)
  reply-says (answered z p k) = inl z
  reply-says (nothing z p s m c) = inr z

  pub reply-answers : RepliedBy scores n allowed r → r.number ≡ 0 → AnswerBy scores n allowed r
  reply-answers (answered z p a) e = a
  reply-answers (nothing z p s m c) e = absurd (omega arith)

  pub reply_none : RepliedBy scores n allowed r → r.number ≡ 14 → (c : List ℕ) → Candidate n allowed c → ⊥
  reply_none (answered z p a) e = absurd (omega arith)
  reply_none (nothing z p s m c) e = c

  pub none_is_fourteen : RepliedBy scores n allowed r → ((c : List ℕ) → Candidate n allowed c → ⊥) → r.number ≡ 14
  none_is_fourteen (answered z p a) f = absurd (f r.numbers a.competes)
  none_is_fourteen (nothing z p s m c) f = z

  pub some_is_zero : RepliedBy scores n allowed r → (c : List ℕ) → Candidate n allowed c → r.number ≡ 0
  some_is_zero (answered z p a) d k = z
  some_is_zero (nothing z p s m c) d k = absurd (c d k)

-- ---- more allowed clusters

-- what competes still does
pub competes-wider : {n : ℕ} {allowed wider : List ℕ} → ((a : ℕ) → 1 ≤ a → a < 2 ^ n → allowed_in n allowed a ≡ true → allowed_in n wider a ≡ true)
    → (c : List ℕ) → Candidate n allowed c → Candidate n wider c
competes-wider {n} h c k = record {
  valid = k.valid;
  binary = k.binary;
  over = λ b m. let i = k.valid.inside b m in h b i.0 (below_of_within n i.1) (k.over b m);
}

-- an answer stays, and its score does not rise
pub more_clusters : {scores : List ℕ → ℕ} {n : ℕ} {allowed wider : List ℕ} {r q : Found} → RepliedBy scores n allowed r → RepliedBy scores n wider q
    → ((a : ℕ) → 1 ≤ a → a < 2 ^ n → allowed_in n allowed a ≡ true → allowed_in n wider a ≡ true) → r.number ≡ 0 → (q.number ≡ 0) × (q.score ≤ r.score)
more_clusters {r = r} {q = q} x y h e =
    let a = reply-answers x e in
    let k = competes-wider h r.numbers a.competes in
    let z = some_is_zero y r.numbers k in
    (z, subst (λ m. q.score ≤ m) a.counted ((reply-answers y z).least r.numbers k))

-- ---- other scores

-- where no record scores less by the second: whether there is a tree does not change, and the least score does not fall
pub scores_rise : {scores scores' : List ℕ → ℕ} {n : ℕ} {allowed : List ℕ} {r q : Found} → ((c : List ℕ) → scores c ≤ scores' c)
    → RepliedBy scores n allowed r → RepliedBy scores' n allowed q → (r.number ≡ q.number) × (r.score ≤ q.score)
scores_rise {r = r} {q = q} more (answered z p y) (answered z' p' y') =
    let l = y.least q.numbers y'.competes in
    let m = y'.counted in
    (z ∙ sym z', omega (arith, more q.numbers))
scores_rise {r = r} {q = q} more (answered z p y) (nothing z' p' s' m' c') = absurd (c' r.numbers y.competes)
scores_rise {r = r} {q = q} more (nothing z p s m c) (answered z' p' y') = absurd (c q.numbers y'.competes)
scores_rise more (nothing z p s m c) (nothing z' p' s' m' c') = (z ∙ sym z', omega arith)

-- what adds up over lists of gene trees does not fall where gene trees are put in anywhere
pub sum_more :
    (sum : List (List ℕ) → ℕ) → ((g h : List (List ℕ)) → sum (g ++ h) ≡ sum g + sum h) → {g h : List (List ℕ)} → Sublist g h → sum g ≤ sum h
sum_more sum adds ends = omega arith
sum_more sum adds (kept {x = x} {l = l} {k = k} m) = omega (arith, sum_more sum adds m, adds (x ∷ []) l, adds (x ∷ []) k)
sum_more sum adds (added {x = x} {k = k} m) = omega (arith, sum_more sum adds m, adds (x ∷ []) k)
