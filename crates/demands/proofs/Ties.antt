-- How many trees are as good (#111): what the search with ties says of the least trees, for the whole set and for every cluster; over lots of gene trees, and with
-- more clusters allowed.
use Prim.Native.Nat.{ℕ, zero, suc, ◌+◌, ◌^◌, ◌≤◌, ◌<◌}
use mathlib.Core.Path.{◌≡◌, refl, sym, ap, ◌∙◌, subst}
use mathlib.Core.Logic.{◌⊎◌, inl, inr, ◌↔◌}
use mathlib.Core.Bool.{true, false}
use mathlib.Core.Option.{some}
use mathlib.Core.List.Memᴰ
use mathlib.Core.List.Memᴰ.{head as here}
use mathlib.Core.List.Memᴰ.{tail as there}
use mathlib.Core.List.{List, [], ◌∷◌, map, Memᴰ}
use native.Mathlib.Decide.{ℕ_discrete}
use native.Mathlib.Omega.{arith}
use lib.ListN.{length, get_or, take, drop, length-append, length-drop, take-append-drop}
use lib.Pow.{pow_mono}
use Rattle.clusters.specs.Sets.{whole, size}
use Rattle.clusters.proofs.Sets.{within-le, whole_below}
use Rattle.clusters.proofs.Sizes.{size_whole}
use Rattle.trees.specs.Lists.{Among, up_to}
use Rattle.trees.specs.Records.{record_of, records_in}
use Rattle.trees.specs.Valid.{every}
use Rattle.trees.proofs.Totals.{total_same}
use Rattle.trees.proofs.UpTo.{among-up_to, length-map-up_to}
use Rattle.roster.specs.Verdict.{verdict}
use Rattle.weights.specs.Count.{weight, score}
use Rattle.weights.specs.declared.Rooting.{Rooting}
use Rattle.terms.specs.Allowed.{allowed_in}
use Rattle.terms.specs.declared.Found.{Found}
use Rattle.splits.specs.BinaryTrees.{Binary, clusters_in}
use Rattle.splits.specs.Least.{score_of, trees_over, least_trees, score_entry, filled}
use Rattle.splits.specs.Best.{best_for}
use Rattle.splits.specs.Ties.{tie_entry, tree_count}
use Rattle.splits.proofs.Membership.{among-map}
use Rattle.splits.proofs.LeastTrees.{Least, least_trees_all, best_is_least}
use Rattle.splits.proofs.Ties.{tie_zero, tie_not_allowed}
use Rattle.splits.proofs.TieBound.{tie_bound, tie_fits}
use Rattle.splits.proofs.DrawnBinary.{tree-inside}
use Rattle.splits.proofs.RecordsOfTrees.{score_of_record}
use Rattle.search.specs.Promise.{Finds}
use Rattle.search.specs.TiesPromise.{ties_for, ties_tests, without_ties, FindsTies}
use Rattle.search.specs.Candidates.{Accepted, Candidate}
use Rattle.search.specs.LeastAmong.{LeastFor, LeastNumber, AllOf, NumberOf}
use Rattle.search.specs.declared.tied.Tied.{Tied}
use Rattle.search.proofs.BestTrees.{every-among, among-every, best_there}
use Rattle.search.proofs.Demand.{finds-once, zero_exactly, fourteen_exactly}
use Rattle.search.proofs.HowMany.{some_member, number_is, number-le, number_same, number_some, number_one}
use Rattle.search.proofs.Lots.{AddedUp, least_exactly, least_is_each_least, each_least_is_least, shared-number, shared-le}
use Rattle.search.proofs.Tying.{few_species, ties_find, tables-filled}
use Rattle.search.proofs.Ties.{is_a_search, ties-told, entry-told, ties-number, ties-accepted_exactly, passed-told, some_tie_exactly}
use Rattle.search.proofs.Ties.{alone_exactly, more_allowed_ties}
use Rattle.search.proofs.Unread.{same_allowed_in}
use Rattle.demands.specs.Handed.{Slice, WidestNumbers, ToTie}
use Rattle.demands.specs.Lots.{Searched, records, LotsOf, Passed, LeastIn, LeastInEach, sum_of_least}
use Rattle.demands.specs.Ties.{OverAllowed, LeastOn, TiesPassed, MadeWithTies, LeastOnEach, sum_of_entries}
use Rattle.demands.proofs.Lots.{passed-together, numbers_equal, scores_add_up, added, as_the_whole, as_the_lot, sum_of_both, least_trees_of_both}

-- ---- the trees of a cluster

-- clusters of a tree that are allowed by the one set are allowed by the other
over_other :
    {n : ℕ} {allowed other : List ℕ} {a : ℕ} {t : Binary} → a < 2 ^ n
    → ((b : ℕ) → 1 ≤ b → b < 2 ^ n → allowed_in n allowed b ≡ true → allowed_in n other b ≡ true) → OverAllowed n allowed a t → OverAllowed n other a t
over_other l wider h = record {
  on = h.on;
  over = λ b m. let i = tree-inside h.on b m in wider b i.0 (let k = within-le i.1 in omega arith) (h.over b m);
}

module _ (rooting : Rooting) (n : ℕ) (genes : List (List ℕ)) (allowed : List ℕ) (a : ℕ) where
  -- its clusters pass the definition's test
  over_all : (t : Binary) → OverAllowed n allowed a t → every (allowed_in n allowed) (clusters_in t) ≡ true
  over_all t h = among-every (allowed_in n allowed) (clusters_in t) h.over

  -- what is least among all trees of the definition is least here
  is_least_on : (t : Binary) → Least (weight rooting genes) (allowed_in n allowed) a t → LeastOn rooting n allowed genes a t
  is_least_on t h = record {
    competes = record { on = h.on; over = every-among (allowed_in n allowed) (clusters_in t) h.over };
    least = λ u k. omega (arith, h.least u k.on (over_all u k));
  }

  -- the definition's list has all of them, each once
  trees-number : NumberOf (LeastOn rooting n allowed genes a) (ties_for rooting n genes allowed a)
  unfolding ties_for tie_entry
  trees-number =
      let all = least_trees_all (weight rooting genes) (allowed_in n allowed) a in
      record {
        list = least_trees (weight rooting genes) (trees_over (allowed_in n allowed) a);
        all = record {
          only = λ t m. is_least_on t (all.only t m);
          every = λ t h.
              all.every t (record {
                on = h.competes.on;
                over = over_all t h.competes;
                least = λ u v e. omega (arith, h.least u (record { on = v; over = every-among (allowed_in n allowed) (clusters_in u) e }));
              });
          once = all.once;
        };
        is = refl;
      }

  -- the tree that the tables choose is one of them
  chosen_least : (t : Binary) → best_for rooting n genes allowed a ≡ some t → LeastOn rooting n allowed genes a t
  unfolding best_for
  chosen_least t e = is_least_on t (best_is_least (weight rooting genes) (allowed_in n allowed) a t e)

-- where there is a tree, the score table's entry is the least score
entry_least :
    {rooting : Rooting} {n : ℕ} {genes : List ℕ} {count : ℕ} {allowed scores splits : List ℕ} {r : Found} {s p : List ℕ}
    → Finds rooting n genes count allowed scores splits r s p → (r.number ≡ 0) ⊎ (r.number ≡ 14) → (a : ℕ) → a < 2 ^ n → (t : Binary)
    → OverAllowed n allowed a t → LeastNumber (OverAllowed n allowed a) (score_of (weight rooting (records_in count genes))) (get_or s a 0)
entry_least {rooting} {n} {genes} {count} {allowed} f d a l t h =
    let w = weight rooting (records_in count genes) in
    let b = best_there w (allowed_in n allowed) a t h.on h.over in
    record {
      holder = b.0;
      least = is_least_on rooting n (records_in count genes) allowed a b.0 (best_is_least w (allowed_in n allowed) a b.0 b.1);
      is = sym ((tables-filled f d).score a l ∙ ap (score_entry w) b.1);
    }

-- a filled table of numbers below a bound
filled-slice :
    {bound : ℕ} (n : ℕ) (entry : ℕ → ℕ) (lent : List ℕ) → Slice bound lent → 2 ^ n ≤ length lent → ((a : ℕ) → a < 2 ^ n → entry a < bound)
    → Slice bound (filled n entry lent)
filled-slice {bound} n entry lent handed long fits = record {
  below = λ x m. go x (Memᴰ.append_cases (map entry (up_to (2 ^ n))) m);
  long =
      let size = handed.long in
      omega (arith, length-append (map entry (up_to (2 ^ n))) (drop (2 ^ n) lent), length-map-up_to entry (2 ^ n), length-drop (2 ^ n) lent);
}
  where
    go : (x : ℕ) → Among x (map entry (up_to (2 ^ n))) ⊎ Among x (drop (2 ^ n) lent) → x < bound
    go x (inl m) = let k = among-map entry (up_to (2 ^ n)) m in subst (λ y. y < bound) (sym k.2) (fits k.0 (among-up_to (2 ^ n) k.1))
    go x (inr m) = handed.below x (subst (λ l. Among x l) (take-append-drop (2 ^ n) lent) (Memᴰ.append_right (take (2 ^ n) lent) m))

-- ---- one call

module _ {rooting : Rooting} {n : ℕ} {genes : List ℕ} {count : ℕ} {allowed scores splits ties : List ℕ} {r : Tied} {s p t : List ℕ}
    (f : FindsTies rooting n genes count allowed scores splits ties r s p t) where
  -- "how many binary trees over the allowed clusters reach the least score" (#111): as many records are least, "each taken once"
  pub number_of_ties : TiesPassed r → NumberOf (LeastFor rooting n allowed (records_in count genes)) r.ties
  number_of_ties = ties-number f

  -- "equal to the length of the list of all such trees" (#111): of any such list
  pub length_of_the_list : TiesPassed r → (l : List (List ℕ)) → AllOf (LeastFor rooting n allowed (records_in count genes)) l → length l ≡ r.ties
  length_of_the_list d = number_is (ties-number f d)

  -- so is every entry of the third table, for its own cluster
  pub entry_of_each_cluster : TiesPassed r → (a : ℕ) → a < 2 ^ n → NumberOf (LeastOn rooting n allowed (records_in count genes) a) (get_or t a 0)
  entry_of_each_cluster d a l =
      subst (λ m. NumberOf (LeastOn rooting n allowed (records_in count genes) a) m) (sym (entry-told f d a l))
      (trees-number rooting n (records_in count genes) allowed a)

  -- and the reply's number is that of the whole set
  pub number_of_the_whole : TiesPassed r → r.ties ≡ get_or t (whole n) 0
  number_of_the_whole d = ties-told f d ∙ sym (entry-told f d (whole n) (whole_below n))

  -- the entry of no species is 0
  pub entry_of_no_species : TiesPassed r → get_or t 0 0 ≡ 0
  unfolding ties_for
  entry_of_no_species d =
      entry-told f d 0 (omega (arith, whole_below n)) ∙ tie_zero (weight rooting (records_in count genes)) (allowed_in n allowed)

  -- and so is that of a cluster that is not allowed
  pub entry_not_allowed : TiesPassed r → (a : ℕ) → a < 2 ^ n → allowed_in n allowed a ≡ false → get_or t a 0 ≡ 0
  unfolding ties_for
  entry_not_allowed d a l e = entry-told f d a l ∙ tie_not_allowed (weight rooting (records_in count genes)) (allowed_in n allowed) a e

  -- ---- at least 1, and 1

  -- 0 or 14 is said exactly when the search accepts what is handed over and the third table is long enough
  pub passed_exactly : TiesPassed r ↔ (Accepted rooting n genes count allowed scores splits × (2 ^ n ≤ length ties))
  passed_exactly = ties-accepted_exactly f

  -- the number is at least 1 exactly when there is a tree; on a refusal it is 0
  pub at_least_one_exactly :
      (1 ≤ r.ties) ↔ (Accepted rooting n genes count allowed scores splits × (2 ^ n ≤ length ties) × ((c : List ℕ) × Candidate n allowed c))
  at_least_one_exactly = (
    λ h.
        let z = (some_tie_exactly f).0 h in
        let a = passed_exactly.0 (inl z) in
        (a.0, a.1, ((zero_exactly (is_a_search f (inl z))).0 z).1),
    λ h. (some_tie_exactly f).1 ((zero_exactly (ties_find rooting n genes count allowed scores splits ties f h.1)).1 (h.0, h.2)),
  )

  -- and 1 exactly when the tree that is found is the only one of its score
  pub one_exactly :
      r.number ≡ 0 → (r.ties ≡ 1) ↔ ((c : List ℕ) → Candidate n allowed c → score rooting (records_in count genes) c ≡ r.score → c ≡ r.numbers)
  one_exactly = alone_exactly f

  -- "she is told there is none exactly when none exists"
  pub no_tree_exactly :
      (r.number ≡ 14) ↔ (Accepted rooting n genes count allowed scores splits × (2 ^ n ≤ length ties) × ((c : List ℕ) → Candidate n allowed c → ⊥))
  no_tree_exactly = (
    λ z. let a = passed_exactly.0 (inr z) in (a.0, a.1, ((fourteen_exactly (is_a_search f (inr z))).0 z).1),
    λ h. (fourteen_exactly (ties_find rooting n genes count allowed scores splits ties f h.1)).1 (h.0, h.2),
  )

  -- the same of every entry: it is at least 1 exactly when there is a tree on its cluster
  pub entry_at_least_one_exactly : TiesPassed r → (a : ℕ) → a < 2 ^ n → (1 ≤ get_or t a 0) ↔ ((u : Binary) × OverAllowed n allowed a u)
  entry_at_least_one_exactly d a l =
      let law = number_some (entry_of_each_cluster d a l) in (
        λ h. let u = law.0 h in (u.0, u.1.competes),
        λ u. let least = entry_least (is_a_search f d) d a l u.0 u.1 in law.1 (least.holder, least.least),
      )

  -- and 1 exactly when the tree that the tables choose for it is the only one of its score
  pub entry_one_exactly :
      TiesPassed r → (a : ℕ) → a < 2 ^ n → (u : Binary) → best_for rooting n (records_in count genes) allowed a ≡ some u → (get_or t a 0 ≡ 1)
      ↔ ((v : Binary) → OverAllowed n allowed a v → score_of (weight rooting (records_in count genes)) v ≡ score_of (weight rooting (records_in count genes)) u → v ≡ u)
  entry_one_exactly d a l u e =
      let chosen = chosen_least rooting n (records_in count genes) allowed a u e in
      let law = number_one (entry_of_each_cluster d a l) chosen in
      let least = least_exactly (record { holder = u; least = chosen; is = refl }) in (
        λ one v k q. law.0 one v ((least v).1 (k, q)),
        λ alone. law.1 (λ v h. let k = (least v).0 h in alone v k.0 k.1),
      )

  -- ---- how large it is

  none_else : (r.number ≡ 0 → ⊥) → r.ties ≡ 0
  none_else other = let none : 1 ≤ r.ties → ⊥ = λ h. other ((some_tie_exactly f).0 h) in omega (arith, none)

  -- the number is at most that of all binary trees on n species, which #108 tells
  pub at_most_all_trees : r.ties ≤ tree_count n
  unfolding ties_for
  at_most_all_trees = go (ℕ_discrete r.number 0)
    where
      go : Dec (r.number ≡ 0) → r.ties ≤ tree_count n
      go (yes z) =
          omega (
            arith,
            ties-told f (inl z),
            tie_bound (weight rooting (records_in count genes)) (allowed_in n allowed) (whole n) (omega (arith, whole_below n, pow_mono (few_species (is_a_search f (inl z)) (inl z)))),
            ap tree_count (size_whole n),
          )
      go (no other) = omega (arith, none_else other)

  -- and an entry at most that of all on its cluster
  pub entry_at_most_all_trees : TiesPassed r → (a : ℕ) → a < 2 ^ n → get_or t a 0 ≤ tree_count (size a)
  unfolding ties_for
  entry_at_most_all_trees d a l =
      omega (
        arith,
        entry-told f d a l,
        tie_bound (weight rooting (records_in count genes)) (allowed_in n allowed) a (omega (arith, pow_mono (few_species (is_a_search f d) d))),
      )

  -- ---- "as a 64-bit number" (#111)

  -- the number, and every entry of the third table, also those that stay
  pub sixty_four_bits : ToTie n genes count allowed scores splits ties → (r.ties < 2 ^ 64) × WidestNumbers t
  unfolding ties_for
  sixty_four_bits handed = (number (ℕ_discrete r.number 0), table (verdict (ties_tests rooting n genes count allowed scores splits ties)).number refl)
    where
      fits : TiesPassed r → (a : ℕ) → a < 2 ^ n → ties_for rooting n (records_in count genes) allowed a < 2 ^ 64
      fits d a l = tie_fits (weight rooting (records_in count genes)) (allowed_in n allowed) a (omega (arith, pow_mono (few_species (is_a_search f d) d)))

      number : Dec (r.number ≡ 0) → r.ties < 2 ^ 64
      number (yes z) = omega (arith, ties-told f (inl z), fits (inl z) (whole n) (whole_below n))
      number (no other) = omega (arith, none_else other)

      table : (k : ℕ) → (verdict (ties_tests rooting n genes count allowed scores splits ties)).number ≡ k → WidestNumbers t
      table zero e =
          let d = passed-told f e in
          subst (λ l. WidestNumbers l) (sym (rw e at f.tie_table))
          (filled-slice n (ties_for rooting n (records_in count genes) allowed) ties handed.ties_numbers (passed_exactly.0 d).1
          (λ a l. omega (arith, fits d a l)))
      table (suc k) e = subst (λ l. WidestNumbers l) (sym (rw e at f.tie_table)) handed.ties_numbers

-- ---- the search without ties

-- with a third table that is long enough, reply and both tables are those of `search` for the same call
pub same_as_the_search :
    {rooting : Rooting} {n : ℕ} {genes : List ℕ} {count : ℕ} {allowed scores splits ties : List ℕ} {r : Tied} {q : Found} {s p t s' p' : List ℕ}
    → FindsTies rooting n genes count allowed scores splits ties r s p t → 2 ^ n ≤ length ties → Finds rooting n genes count allowed scores splits q s' p'
    → (without_ties r ≡ q) × (s ≡ s') × (p ≡ p')
same_as_the_search {rooting} {n} {genes} {count} {allowed} {scores} {splits} {ties} f l g =
    finds-once (ties_find rooting n genes count allowed scores splits ties f l) g

module _ {rooting : Rooting} {n : ℕ} {genes : List ℕ} {count : ℕ} {allowed scores splits ties : List ℕ} {r : Tied} {s p t : List ℕ}
    (f : FindsTies rooting n genes count allowed scores splits ties r s p t) (passed : TiesPassed r) where
  -- a call that says 0 or 14 is such a search: what ThirdDemand says of a search it says of it
  pub a_search_too : Finds rooting n genes count allowed scores splits (without_ties r) s p
  a_search_too = is_a_search f passed

  -- and so does Lots
  abbrev pub as_searched : Searched rooting n
  as_searched = record {
    genes = genes;
    count = count;
    allowed = allowed;
    scores = scores;
    splits = splits;
    reply = without_ties r;
    scores_after = s;
    splits_after = p;
    finds = a_search_too;
  }

  -- made with ties
  abbrev pub as_made_with_ties : MadeWithTies as_searched
  as_made_with_ties = record { ties = ties; their_number = r.ties; ties_after = t; finds_ties = f }

-- ---- more allowed clusters

module _ {rooting : Rooting} {n : ℕ} {genes : List ℕ} {count : ℕ} {allowed wider scores splits ties scores' splits' ties' : List ℕ} {r q : Tied}
    {s p t s' p' t' : List ℕ} (f : FindsTies rooting n genes count allowed scores splits ties r s p t)
    (g : FindsTies rooting n genes count wider scores' splits' ties' q s' p' t')
    (more : (a : ℕ) → 1 ≤ a → a < 2 ^ n → allowed_in n allowed a ≡ true → allowed_in n wider a ≡ true) where
  -- allowing more clusters that leaves the least score as it was never lowers the number
  pub allowing_more_clusters : r.number ≡ 0 → q.number ≡ 0 → r.score ≡ q.score → r.ties ≤ q.ties
  allowing_more_clusters = more_allowed_ties f g more

  -- nor an entry whose least score stays
  pub entry_allowing_more_clusters : TiesPassed r → TiesPassed q → (a : ℕ) → a < 2 ^ n → get_or s a 0 ≡ get_or s' a 0 → get_or t a 0 ≤ get_or t' a 0
  entry_allowing_more_clusters d d' a l same =
      number-le (entry_of_each_cluster f d a l) (entry_of_each_cluster g d' a l) (λ u h.
      let wide = over_other l more h.competes in
      let before = ((least_exactly (entry_least (is_a_search f d) d a l u h.competes) u).0 h).1 in
      (least_exactly (entry_least (is_a_search g d') d' a l u wide) u).1 (wide, before ∙ same))

-- ---- lots of gene trees (#102)

module _ {rooting : Rooting} {n : ℕ} {lots : List (Searched rooting n)} {whole : Searched rooting n} (parted : LotsOf lots whole) (tied : MadeWithTies whole) where
  -- "where #102's lots reach equality" (#111)
  module _ (found : whole.reply.number ≡ 0) (equality : whole.reply.score ≡ sum_of_least lots) where
    -- the number is that of the trees least for every lot
    pub shared_by_lots : NumberOf (LeastInEach lots) tied.their_number
    shared_by_lots = shared-number (added parted found) equality (number_of_ties tied.finds_ties (inl found))

    -- "it is at most either lot's own number" (#111)
    pub at_most_each_lot : (s : Searched rooting n) → Memᴰ s lots → (own : MadeWithTies s) → tied.their_number ≤ own.their_number
    at_most_each_lot s m own =
        shared-le (added parted found) equality (number_of_ties tied.finds_ties (inl found)) s m
        (number_of_ties own.finds_ties (inl (numbers_equal parted (inl found) s m ∙ found)))

  -- ---- the same of every entry

  module _ (passed : Passed whole) (a : ℕ) (l : a < 2 ^ n) where
    lot_passed : (s : Searched rooting n) → Memᴰ s lots → Passed s
    lot_passed = (passed-together parted).0 passed

    same_over : (s : Searched rooting n) → Memᴰ s lots → (u : Binary) → OverAllowed n s.allowed a u ↔ OverAllowed n whole.allowed a u
    same_over s m u = (
      over_other l (λ b some below e. sym (same_allowed_in (as_the_whole parted s m) b some below) ∙ e),
      over_other l (λ b some below e. sym (same_allowed_in (as_the_lot parted s m) b some below) ∙ e),
    )

    -- the scores of the lots add up to those of the whole
    added_at : (u : Binary) → OverAllowed n whole.allowed a u
        → AddedUp (λ (s : Searched rooting n). OverAllowed n s.allowed a) (λ (s : Searched rooting n). score_of (weight rooting (records s)))
        (λ (s : Searched rooting n). get_or s.scores_after a 0) lots whole
    added_at u h = record {
      some_lot = parted.some_lot;
      same_compete = same_over;
      adds_up = λ v.
          sym (score_of_record rooting (records whole) v) ∙ scores_add_up parted (record_of (clusters_in v))
          ∙ total_same (λ (s : Searched rooting n). score rooting (records s) (record_of (clusters_in v)))
          (λ (s : Searched rooting n). score_of (weight rooting (records s)) v) lots (λ s m. score_of_record rooting (records s) v);
      of_whole = entry_least whole.finds passed a l u h;
      of_lots = λ s m. entry_least s.finds (lot_passed s m) a l u ((same_over s m u).1 h);
    }

    module _ (equality : get_or whole.scores_after a 0 ≡ sum_of_entries lots a) where
      -- the entry is the number of trees on its cluster that are least for every lot
      pub entry-shared_by_lots : NumberOf (LeastOnEach lots a) (get_or tied.ties_after a 0)
      entry-shared_by_lots =
          let lot = some_member lots parted.some_lot in
          number_same (entry_of_each_cluster tied.finds_ties passed a l)
          (λ u h. least_is_each_least (added_at u h.competes) equality u h)
          (λ u each. each_least_is_least (added_at u ((same_over lot.0 lot.1 u).0 (each lot.0 lot.1).competes)) u each)

      -- and at most either lot's own entry
      pub entry_at_most_each_lot :
          (s : Searched rooting n) → Memᴰ s lots → (own : MadeWithTies s) → get_or tied.ties_after a 0 ≤ get_or own.ties_after a 0
      entry_at_most_each_lot s m own =
          number-le (entry_of_each_cluster tied.finds_ties passed a l) (entry_of_each_cluster own.finds_ties (lot_passed s m) a l)
          (λ u h. least_is_each_least (added_at u h.competes) equality u h s m)

-- two lots
module _ {rooting : Rooting} {n : ℕ} {first second whole : Searched rooting n} (parted : LotsOf (first ∷ second ∷ []) whole) (found : whole.reply.number ≡ 0)
    (equality : whole.reply.score ≡ first.reply.score + second.reply.score) (tied : MadeWithTies whole) where
  -- the number is that of the trees least for both
  pub shared_by_both : NumberOf (λ c. LeastIn first c × LeastIn second c) tied.their_number
  shared_by_both =
      let law = least_trees_of_both first second parted found equality in
      number_same (number_of_ties tied.finds_ties (inl found)) (λ c. (law c).0) (λ c. (law c).1)

  -- "where #102's lots reach equality, it is at most either lot's own number" (#111)
  pub at_most_either : (one : MadeWithTies first) (two : MadeWithTies second) → (tied.their_number ≤ one.their_number) × (tied.their_number ≤ two.their_number)
  at_most_either one two =
      let sum = equality ∙ sym (sum_of_both first second) in (
        at_most_each_lot parted tied found sum first (here refl) one,
        at_most_each_lot parted tied found sum second (there (here refl)) two,
      )
