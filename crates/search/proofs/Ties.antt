-- What the promise of the search with ties gives (#111): how many trees are least, when there is one, when the tree found is alone, and how the number
-- goes with the allowed set. How it goes with lots of gene trees: `Lots.shared-number` and `Lots.shared-le`, with `ties-number` here.
use Prim.Native.Nat.{ℕ, zero, suc, ◌^◌, ◌≤◌, ◌<◌}
use mathlib.Core.Path.{◌≡◌, refl, sym, ap, ◌∙◌, subst}
use mathlib.Core.Logic.{◌⊎◌, inl, inr, ◌↔◌}
use mathlib.Core.Bool.{true}
use mathlib.Core.List.Memᴰ
use mathlib.Core.List.{List, map}
use native.Mathlib.Omega.{arith}
use lib.ListN.{length, get_or, length-map}
use Rattle.clusters.specs.Sets.{whole}
use Rattle.trees.specs.Records.{record_of, records_in}
use Rattle.trees.proofs.Recorded.{record_among}
use Rattle.roster.specs.Verdict.{Verdict, verdict, value_by}
use Rattle.weights.specs.Count.{weight, score}
use Rattle.weights.specs.declared.Rooting.{Rooting}
use Rattle.splits.specs.BinaryTrees.{Binary, clusters_in}
use Rattle.splits.specs.WellFormed.{TreeOn}
use Rattle.splits.specs.Least.{trees_over, least_trees}
use Rattle.splits.specs.Ties.{tie_entry}
use Rattle.splits.proofs.Membership.{among-map, map-among}
use Rattle.splits.proofs.LeastTrees.{Least, AllLeast, least_trees_all}
use Rattle.terms.specs.Allowed.{allowed_in}
use Rattle.tables.proofs.TieTable.{filled_at}
use Rattle.search.specs.Promise.{Finds}
use Rattle.search.specs.TiesPromise.{ties_for, ties_tests, without_ties, FindsTies}
use Rattle.search.specs.Candidates.{Accepted, Candidate}
use Rattle.search.specs.LeastAmong.{LeastFor, AllOf, NumberOf}
use Rattle.search.specs.declared.tied.Tied.{Tied}
use Rattle.splits.proofs.RecordsOfTrees.{same_record_same_tree, score_of_record}
use Rattle.search.proofs.BestTrees.{every-among, among-every}
use Rattle.search.proofs.AnyWeights.{tree-competes, competitor, competitor_over, competes-wider}
use Rattle.search.proofs.Demand.{competitor-score}
use Rattle.search.proofs.Demand.{accepted_of, accepted-says, answer, fourteen_exactly}
use Rattle.search.proofs.Accepted.{accepted}
use Rattle.search.proofs.HowMany.{once-map, number-le, number_some, number_one}
use Rattle.search.proofs.Lots.{least_exactly, reply_is_least}
use Rattle.search.proofs.Tying.{few_species, ties-verdict, tests-fit, tests-passed, ties_find}

-- ---- the least trees and their records

-- the record of a tree
abbrev recorded : Binary → List ℕ
recorded t = record_of (clusters_in t)

module _ (rooting : Rooting) (n : ℕ) (genes : List (List ℕ)) (allowed : List ℕ) (few : n ≤ 16) where
  -- the record of a least tree is least
  least_recorded : (t : Binary) → Least (weight rooting genes) (allowed_in n allowed) (whole n) t → LeastFor rooting n allowed genes (recorded t)
  least_recorded t h = record {
    competes = tree-competes n allowed t few h.on (every-among (allowed_in n allowed) (clusters_in t) h.over);
    least = λ d k.
        let u = competitor n allowed d few k in
        omega (
          arith,
          score_of_record rooting genes t,
          competitor-score rooting n genes allowed d few k,
          h.least u.tree u.on (among-every (allowed_in n allowed) (clusters_in u.tree) (competitor_over n allowed d few k)),
        );
  }

  -- and a tree whose record is least is
  recorded_least : (t : Binary) → TreeOn (whole n) t → LeastFor rooting n allowed genes (recorded t)
      → Least (weight rooting genes) (allowed_in n allowed) (whole n) t
  recorded_least t v h = record {
    on = v;
    over = among-every (allowed_in n allowed) (clusters_in t) (λ x m. h.competes.over x (record_among 16 (clusters_in t) m));
    least = λ u o e.
        omega (
          arith,
          score_of_record rooting genes t,
          score_of_record rooting genes u,
          h.least (recorded u) (tree-competes n allowed u few o (every-among (allowed_in n allowed) (clusters_in u) e)),
        );
  }

  -- the records of all least trees, each once, are all records that are least, each once
  records_all : (l : List Binary) → AllLeast (weight rooting genes) (allowed_in n allowed) (whole n) l
      → AllOf (LeastFor rooting n allowed genes) (map recorded l)
  records_all l all = record {
    only = λ c m. let k = among-map recorded l m in subst (LeastFor rooting n allowed genes) (sym k.2) (least_recorded k.0 (all.only k.0 k.1));
    every = λ c h.
        let u = competitor n allowed c few h.competes in
        let least = recorded_least u.tree u.on (subst (LeastFor rooting n allowed genes) (sym u.recorded) h) in
        Memᴰ.cast (sym u.recorded) (map-among recorded l (all.every u.tree least));
    once = once-map recorded l (λ t u m k. same_record_same_tree (all.only t m).on (all.only u k).on) all.once;
  }

  -- "how many binary trees over the allowed clusters reach the least score", "the length of the list of all such trees, each taken once" (#111)
  pub tied-number : NumberOf (LeastFor rooting n allowed genes) (ties_for rooting n genes allowed (whole n))
  unfolding ties_for tie_entry
  tied-number =
      let trees = least_trees (weight rooting genes) (trees_over (allowed_in n allowed) (whole n)) in
      record {
        list = map recorded trees;
        all = records_all trees (least_trees_all (weight rooting genes) (allowed_in n allowed) (whole n));
        is = length-map trees recorded;
      }

-- ---- the number

module _ {rooting : Rooting} {n : ℕ} {genes : List ℕ} {count : ℕ} {allowed scores splits ties : List ℕ} {r : Tied} {scores_after splits_after ties_after : List ℕ}
    (f : FindsTies rooting n genes count allowed scores splits ties r scores_after splits_after ties_after) where
  -- behind 0 and 14 the third table is long enough
  table_fits : (r.number ≡ 0) ⊎ (r.number ≡ 14) → 2 ^ n ≤ length ties
  table_fits d = tests-fit rooting n genes count allowed scores splits ties (tests-passed rooting n genes count allowed scores splits ties f d)

  -- and the reply is that of `search`, both tables too
  pub is_a_search : (r.number ≡ 0) ⊎ (r.number ≡ 14) → Finds rooting n genes count allowed scores splits (without_ties r) scores_after splits_after
  is_a_search d = ties_find rooting n genes count allowed scores splits ties f (table_fits d)

  -- its number is that of the whole set
  pub ties-told : (r.number ≡ 0) ⊎ (r.number ≡ 14) → r.ties ≡ ties_for rooting n (records_in count genes) allowed (whole n)
  ties-told d =
      ap (λ x. x.ties) f.reply
      ∙ ap (λ k. value_by k (ties_for rooting n (records_in count genes) allowed (whole n))) (tests-passed rooting n genes count allowed scores splits ties f d)

  -- and each entry of the third table that of its own
  pub entry-told : (r.number ≡ 0) ⊎ (r.number ≡ 14) → (a : ℕ) → a < 2 ^ n → get_or ties_after a 0 ≡ ties_for rooting n (records_in count genes) allowed a
  entry-told d a l =
      ap (λ t. get_or t a 0) (rw (tests-passed rooting n genes count allowed scores splits ties f d) at f.tie_table)
      ∙ filled_at (λ b. ties_for rooting n (records_in count genes) allowed b) n ties a l

  -- the number is that of all records that are least
  pub ties-number : (r.number ≡ 0) ⊎ (r.number ≡ 14) → NumberOf (LeastFor rooting n allowed (records_in count genes)) r.ties
  ties-number d =
      subst (λ m. NumberOf (LeastFor rooting n allowed (records_in count genes)) m) (sym (ties-told d))
      (tied-number rooting n (records_in count genes) allowed (few_species (is_a_search d) d))

  -- ---- what is accepted

  -- 0 or 14 exactly when what is handed over is as the search asks, and the third table is long enough
  pub ties-accepted_exactly :
      ((r.number ≡ 0) ⊎ (r.number ≡ 14)) ↔ (Accepted rooting n genes count allowed scores splits × (2 ^ n ≤ length ties))
  ties-accepted_exactly = (
    λ d. (accepted_of (is_a_search d) d, table_fits d),
    λ p. accepted-says (ties_find rooting n genes count allowed scores splits ties f p.1) p.0,
  )

  -- tests that find no fault leave 0 and 14
  pub passed-told : (verdict (ties_tests rooting n genes count allowed scores splits ties)).number ≡ 0 → (r.number ≡ 0) ⊎ (r.number ≡ 14)
  passed-told e =
      let fit = tests-fit rooting n genes count allowed scores splits ties e in
      let z = ap (λ (v : Verdict). v.number) (sym (ties-verdict rooting n genes count allowed scores splits ties fit)) ∙ e in
      ties-accepted_exactly.1 (accepted rooting n genes count allowed scores splits z, fit)

  -- ---- when there is one, and when it is alone

  -- the record that was found is least
  reply_least : (z : r.number ≡ 0) → LeastFor rooting n allowed (records_in count genes) r.numbers
  reply_least z =
      let search = is_a_search (inl z) in
      let a = answer search z in
      (least_exactly (reply_is_least search z) r.numbers).1 (a.competes, a.counted)

  -- the number is at least 1 exactly when a tree is found; on a refusal it is 0
  pub some_tie_exactly : (1 ≤ r.ties) ↔ (r.number ≡ 0)
  some_tie_exactly = (
    λ h. go (verdict (ties_tests rooting n genes count allowed scores splits ties)).number refl h,
    λ z. (number_some (ties-number (inl z))).1 (r.numbers, reply_least z),
  )
    where
      found : (r.number ≡ 0) ⊎ (r.number ≡ 14) → 1 ≤ r.ties → r.number ≡ 0
      found (inl z) h = z
      found (inr z) h =
          let c = (number_some (ties-number (inr z))).0 h in
          absurd (((fourteen_exactly (is_a_search (inr z))).0 z).1 c.0 c.1.competes)

      go : (k : ℕ) → (verdict (ties_tests rooting n genes count allowed scores splits ties)).number ≡ k → 1 ≤ r.ties → r.number ≡ 0
      go zero e h = found (passed-told e) h
      go (suc k) e h =
          absurd (omega (arith, ap (λ x. x.ties) f.reply ∙ ap (λ m. value_by m (ties_for rooting n (records_in count genes) allowed (whole n))) e))

  -- it is 1 exactly when the tree that was found is the only one of its score
  pub alone_exactly : r.number ≡ 0
      → (r.ties ≡ 1) ↔ ((c : List ℕ) → Candidate n allowed c → score rooting (records_in count genes) c ≡ r.score → c ≡ r.numbers)
  alone_exactly z =
      let least = least_exactly (reply_is_least (is_a_search (inl z)) z) in
      let one = number_one (ties-number (inl z)) (reply_least z) in (
        λ e c k p. one.0 e c ((least c).1 (k, p)),
        λ alone. one.1 (λ c l. let k = (least c).0 l in alone c k.0 k.1),
      )

-- ---- one outcome

pub ties-once :
    {rooting : Rooting} {n : ℕ} {genes : List ℕ} {count : ℕ} {allowed scores splits ties : List ℕ} {r q : Tied} {s p t s' p' t' : List ℕ}
    → FindsTies rooting n genes count allowed scores splits ties r s p t → FindsTies rooting n genes count allowed scores splits ties q s' p' t'
    → (r ≡ q) × (s ≡ s') × (p ≡ p') × (t ≡ t')
ties-once f g = (
  f.reply ∙ sym g.reply,
  f.score_table ∙ sym g.score_table,
  f.split_table ∙ sym g.split_table,
  f.tie_table ∙ sym g.tie_table,
)

-- ---- more allowed clusters

-- allowing more clusters that leaves the least score as it was never lowers the number
pub more_allowed_ties :
    {rooting : Rooting} {n : ℕ} {genes : List ℕ} {count : ℕ} {allowed wider scores splits ties scores' splits' ties' : List ℕ}
    {r q : Tied} {s p t s' p' t' : List ℕ}
    → FindsTies rooting n genes count allowed scores splits ties r s p t → FindsTies rooting n genes count wider scores' splits' ties' q s' p' t'
    → ((a : ℕ) → 1 ≤ a → a < 2 ^ n → allowed_in n allowed a ≡ true → allowed_in n wider a ≡ true)
    → r.number ≡ 0 → q.number ≡ 0 → r.score ≡ q.score → r.ties ≤ q.ties
more_allowed_ties f g h z z' same =
    let before = reply_is_least (is_a_search f (inl z)) z in
    let after = reply_is_least (is_a_search g (inl z')) z' in
    number-le (ties-number f (inl z)) (ties-number g (inl z'))
    (λ c l. let k = (least_exactly before c).0 l in (least_exactly after c).1 (competes-wider h c k.0, k.1 ∙ same))
