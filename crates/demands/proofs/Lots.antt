-- Lots of gene trees (#102): the whole's least score against the sum of the lots' least scores, which trees are least, and that all searches say where there is none.
use Prim.Native.Nat.{ℕ, ◌+◌, ◌≤◌}
use mathlib.Core.Path.{◌≡◌, refl, sym, ap, ◌∙◌, subst}
use mathlib.Core.Logic.{◌⊎◌, inl, inr, ◌↔◌}
use mathlib.Core.List.Memᴰ
use mathlib.Core.List.Memᴰ.{head as here}
use mathlib.Core.List.Memᴰ.{tail as there}
use mathlib.Core.List.{List, [], ◌∷◌, ◌++◌, map, Memᴰ}
use native.Mathlib.Omega.{arith}
use lib.ListN.{length, length-append}
use Rattle.trees.specs.Lists.{total, InAnyOrder}
use Rattle.trees.specs.Lists.InAnyOrder.{nothing, put}
use Rattle.trees.proofs.Lent.{length-records_in}
use Rattle.trees.proofs.Totals.{one_le_total}
use Rattle.weights.specs.declared.Rooting.{Rooting}
use Rattle.weights.specs.Count.{score}
use Rattle.weights.proofs.Sums.{score-reordered}
use Rattle.splits.specs.BinaryTrees.{each}
use Rattle.splits.proofs.Membership.{among-each, each-among}
use Rattle.search.specs.Candidates.{Accepted, Candidate, SameAllowed}
use Rattle.search.proofs.Demand.{Replied, replied, accepted_of, zero_exactly, fourteen_exactly}
use Rattle.search.proofs.AnyWeights.RepliedBy.{answered, nothing as none-there}
use Rattle.search.proofs.Lots.{AddedUp, least_exactly, sum-le_whole, sum-reached_exactly, least_shared_exactly, score_of_lots, reply_is_least}
use Rattle.search.proofs.HowMany.{some_member}
use Rattle.search.proofs.Lots.{competes_too, zeros_and_ones_too}
use Rattle.search.proofs.Unread.{first_bytes_same}
use Rattle.demands.specs.Lots.{Searched, records, LotsOf, Passed, LeastIn, LeastInEach, sum_of_least}

-- ---- in any order

module _ {A : Type 0} where
  any_order_length : {l k : List A} → InAnyOrder l k → length l ≡ length k
  any_order_length nothing = refl
  any_order_length (put {x = x} front behind o) =
      omega (arith, any_order_length o, length-append front behind, length-append front (x ∷ behind))

  any_order_there : {l k : List A} {y : A} → InAnyOrder l k → Memᴰ y l → Memᴰ y k
  any_order_there nothing m = m
  any_order_there {y = y} (put {x = x} {l = l} front behind o) m = go (Memᴰ.cases_cons m) (λ k. any_order_there o k)
    where
      moved : Memᴰ y front ⊎ Memᴰ y behind → Memᴰ y (front ++ (x ∷ behind))
      moved (inl n) = Memᴰ.append_left (x ∷ behind) n
      moved (inr n) = Memᴰ.append_right front (there n)

      go : (y ≡ x) ⊎ Memᴰ y l → (Memᴰ y l → Memᴰ y (front ++ behind)) → Memᴰ y (front ++ (x ∷ behind))
      go (inl e) later = Memᴰ.append_right front (here e)
      go (inr n) later = moved (Memᴰ.append_cases front (later n))

  any_order_back : {l k : List A} {y : A} → InAnyOrder l k → Memᴰ y k → Memᴰ y l
  any_order_back nothing m = m
  any_order_back {y = y} (put {x = x} {l = l} front behind o) m = go (Memᴰ.append_cases front m) (λ k. any_order_back o k)
    where
      go : Memᴰ y front ⊎ Memᴰ y (x ∷ behind) → (Memᴰ y (front ++ behind) → Memᴰ y l) → Memᴰ y (x ∷ l)
      go (inl n) later = there (later (Memᴰ.append_left behind n))
      go (inr n) later = second (Memᴰ.cases_cons n)
        where
          second : (y ≡ x) ⊎ Memᴰ y behind → Memᴰ y (x ∷ l)
          second (inl e) = here e
          second (inr k) = there (later (Memᴰ.append_right front k))

-- ---- sums over lots

length_of_lots :
    {rooting : Rooting} {n : ℕ} (lots : List (Searched rooting n)) → length (each (λ (s : Searched rooting n). records s) lots)
    ≡ total (map (λ (s : Searched rooting n). s.count) lots)
unfolding each total
length_of_lots [] = refl
length_of_lots {rooting} {n} (s ∷ lots) =
    omega (
      arith,
      length-append (records s) (each (λ (s : Searched rooting n). records s) lots),
      length-records_in s.count s.genes,
      length_of_lots lots,
    )

-- ---- when the checks are passed

-- no check finds a fault in what was handed over
abbrev AcceptedIn : {rooting : Rooting} {n : ℕ} → Searched rooting n → Type 0
AcceptedIn {rooting} {n} s = Accepted rooting n s.genes s.count s.allowed s.scores s.splits

-- the checks are passed exactly when n, count, the lent slices, the gene records and the allowed bytes are as 01 asks
pub passed_exactly : {rooting : Rooting} {n : ℕ} (s : Searched rooting n) → Passed s ↔ AcceptedIn s
passed_exactly {rooting} {n} s = (accepted_of s.finds, λ a. told (replied s.finds a))
  where
    told : Replied rooting n (records s) s.allowed s.reply → Passed s
    told (answered z p a) = inl z
    told (none-there z p c m k) = inr z

-- ---- what is least, by the reply

-- a tree is least for a search that found one exactly when it competes and its score is the reply's
pub least_by_the_reply :
    {rooting : Rooting} {n : ℕ} (s : Searched rooting n) → s.reply.number ≡ 0 → (c : List ℕ) → LeastIn s c
    ↔ (Candidate n s.allowed c × (score rooting (records s) c ≡ s.reply.score))
least_by_the_reply s z c = least_exactly (reply_is_least s.finds z) c

-- ---- lots

module _ {rooting : Rooting} {n : ℕ} {lots : List (Searched rooting n)} {whole : Searched rooting n} (parted : LotsOf lots whole) where
  whole_count : whole.count ≡ total (map (λ (s : Searched rooting n). s.count) lots)
  whole_count = sym (length-records_in whole.count whole.genes) ∙ sym (any_order_length parted.gathered) ∙ length_of_lots lots

  -- what a lot's search allows the whole's does, and the other way
  pub as_the_whole : (s : Searched rooting n) → Memᴰ s lots → SameAllowed n s.allowed whole.allowed
  as_the_whole s m =
      first_bytes_same n s.allowed whole.allowed (parted.lots_lent s m).allowed_long parted.whole_lent.allowed_long (parted.one_allowed_set s m)

  pub as_the_lot : (s : Searched rooting n) → Memᴰ s lots → SameAllowed n whole.allowed s.allowed
  as_the_lot s m =
      first_bytes_same n whole.allowed s.allowed parted.whole_lent.allowed_long (parted.lots_lent s m).allowed_long (sym (parted.one_allowed_set s m))

  lot_accepted : AcceptedIn whole → (s : Searched rooting n) → Memᴰ s lots → AcceptedIn s
  lot_accepted a s m = record {
    in_order = record {
      shaped = record {
        some_species = a.in_order.shaped.some_species;
        few_species = a.in_order.shaped.few_species;
        some_genes = parted.non_empty s m;
        few_genes = let few = a.in_order.shaped.few_genes in omega (arith, whole_count, one_le_total (λ (s : Searched rooting n). s.count) lots s m);
        fits = (parted.lots_lent s m).genes_long;
      };
      valid = λ g k. a.in_order.valid g (any_order_there parted.gathered (each-among (λ (s : Searched rooting n). records s) lots m k));
      enter = λ u g k. a.in_order.enter u g (any_order_there parted.gathered (each-among (λ (s : Searched rooting n). records s) lots m k));
    };
    allowed_fits = (parted.lots_lent s m).allowed_long;
    scores_fit = (parted.lots_lent s m).scores_long;
    splits_fit = (parted.lots_lent s m).splits_long;
    allowed_bytes = zeros_and_ones_too (as_the_lot s m) a.allowed_bytes;
  }

  whole_accepted : ((s : Searched rooting n) → Memᴰ s lots → AcceptedIn s) → AcceptedIn whole
  whole_accepted f =
      let lot = some_member lots parted.some_lot in
      let s = lot.0 in
      let a = f s lot.1 in
      record {
        in_order = record {
          shaped = record {
            some_species = a.in_order.shaped.some_species;
            few_species = a.in_order.shaped.few_species;
            some_genes =
                let one = a.in_order.shaped.some_genes in omega (arith, whole_count, one_le_total (λ (s : Searched rooting n). s.count) lots s lot.1);
            few_genes = let few = parted.inside_the_limit in omega (arith, whole_count);
            fits = parted.whole_lent.genes_long;
          };
          valid = λ g m.
              let k = among-each (λ (s : Searched rooting n). records s) lots (any_order_back parted.gathered m) in
              (f k.0 k.1).in_order.valid g k.2;
          enter = λ u g m.
              let k = among-each (λ (s : Searched rooting n). records s) lots (any_order_back parted.gathered m) in
              (f k.0 k.1).in_order.enter u g k.2;
        };
        allowed_fits = parted.whole_lent.allowed_long;
        scores_fit = parted.whole_lent.scores_long;
        splits_fit = parted.whole_lent.splits_long;
        allowed_bytes = zeros_and_ones_too (as_the_whole s lot.1) a.allowed_bytes;
      }

  -- for lots that are non-empty and together inside the limit, the whole passes the checks exactly when every lot does
  pub passed-together : Passed whole ↔ ((s : Searched rooting n) → Memᴰ s lots → Passed s)
  passed-together = (
    λ p s m. (passed_exactly s).1 (lot_accepted ((passed_exactly whole).0 p) s m),
    λ f. (passed_exactly whole).1 (whole_accepted (λ s m. (passed_exactly s).0 (f s m))),
  )

  -- the same trees compete in every search
  same_compete : (s : Searched rooting n) → Memᴰ s lots → (c : List ℕ) → Candidate n s.allowed c ↔ Candidate n whole.allowed c
  same_compete s m c = (competes_too (as_the_whole s m) c, competes_too (as_the_lot s m) c)

  -- all searches give the same number
  pub numbers_equal : Passed whole → (s : Searched rooting n) → Memᴰ s lots → s.reply.number ≡ whole.reply.number
  numbers_equal p s m = go p
    where
      a : AcceptedIn s
      a = lot_accepted ((passed_exactly whole).0 p) s m

      go : Passed whole → s.reply.number ≡ whole.reply.number
      go (inl z) = let c = ((zero_exactly whole.finds).0 z).1 in (zero_exactly s.finds).1 (a, (c.0, (same_compete s m c.0).1 c.1)) ∙ sym z
      go (inr z) = (fourteen_exactly s.finds).1 (a, λ c k. ((fourteen_exactly whole.finds).0 z).1 c ((same_compete s m c).0 k)) ∙ sym z

  -- "If there is no tree, all three searches say so", and only then
  pub all_say_so :
      Passed whole → ((c : List ℕ) → Candidate n whole.allowed c → ⊥) ↔ ((s : Searched rooting n) → Memᴰ s (whole ∷ lots) → s.reply.number ≡ 14)
  all_say_so p = (
    λ none s m. go ((fourteen_exactly whole.finds).1 ((passed_exactly whole).0 p, none)) s (Memᴰ.cases_cons m),
    λ f. ((fourteen_exactly whole.finds).0 (f whole (here refl))).1,
  )
    where
      go : whole.reply.number ≡ 14 → (s : Searched rooting n) → (s ≡ whole) ⊎ Memᴰ s lots → s.reply.number ≡ 14
      go z s (inl e) = ap (λ (x : Searched rooting n). x.reply.number) e ∙ z
      go z s (inr m) = numbers_equal p s m ∙ z

  -- the scores of the lots add up to those of the whole
  pub scores_add_up : (c : List ℕ) → score rooting (records whole) c ≡ total (map (λ (s : Searched rooting n). score rooting (records s) c) lots)
  scores_add_up c = sym (score-reordered rooting c parted.gathered) ∙ score_of_lots rooting (λ (s : Searched rooting n). records s) lots c

  -- ---- where there is a tree

  module _ (found : whole.reply.number ≡ 0) where
    -- and the least of them are the replies' scores
    pub added :
        AddedUp (λ (s : Searched rooting n). Candidate n s.allowed) (λ (s : Searched rooting n). score rooting (records s))
        (λ (s : Searched rooting n). s.reply.score) lots whole
    added = record {
      some_lot = parted.some_lot;
      same_compete = same_compete;
      adds_up = scores_add_up;
      of_whole = reply_is_least whole.finds found;
      of_lots = λ s m. reply_is_least s.finds (numbers_equal (inl found) s m ∙ found);
    }

    -- "the whole's least score is at least the sum of the lots' least scores"
    pub at_least_the_sum : sum_of_least lots ≤ whole.reply.score
    at_least_the_sum = sum-le_whole added

    -- "with equality exactly when some tree is least for both": for every lot
    pub equal_exactly : (whole.reply.score ≡ sum_of_least lots) ↔ ((c : List ℕ) × LeastInEach lots c)
    equal_exactly = sum-reached_exactly added

    -- and then the trees least for the whole are exactly those least for every lot
    pub least_trees_shared : whole.reply.score ≡ sum_of_least lots → (c : List ℕ) → LeastIn whole c ↔ LeastInEach lots c
    least_trees_shared = least_shared_exactly added

-- ---- two lots

module _ {rooting : Rooting} {n : ℕ} (first second : Searched rooting n) where
  -- what holds of both holds of every lot
  pub of_both : (P : Searched rooting n → Type 0) → P first → P second → (s : Searched rooting n) → Memᴰ s (first ∷ second ∷ []) → P s
  of_both P p q s m = go (Memᴰ.cases_cons m)
    where
      other : (s ≡ second) ⊎ Memᴰ s [] → P s
      other (inl e) = subst P (sym e) q
      other (inr k) = absurd (Memᴰ.not-nil k)

      go : (s ≡ first) ⊎ Memᴰ s (second ∷ []) → P s
      go (inl e) = subst P (sym e) p
      go (inr k) = other (Memᴰ.cases_cons k)

  both : (c : List ℕ) → LeastInEach (first ∷ second ∷ []) c ↔ (LeastIn first c × LeastIn second c)
  both c = (λ f. (f first (here refl), f second (there (here refl))), λ q. of_both (λ (s : Searched rooting n). LeastIn s c) q.0 q.1)

  pub sum_of_both : sum_of_least (first ∷ second ∷ []) ≡ first.reply.score + second.reply.score
  unfolding total
  sum_of_both = omega arith

  module _ {whole : Searched rooting n} (parted : LotsOf (first ∷ second ∷ []) whole) where
    -- the whole passes the checks exactly when both lots do
    pub whole_passes_with_both : Passed whole ↔ (Passed first × Passed second)
    whole_passes_with_both = (
      λ p. let f = (passed-together parted).0 p in (f first (here refl), f second (there (here refl))),
      λ q. (passed-together parted).1 (of_both (λ (s : Searched rooting n). Passed s) q.0 q.1),
    )

    -- and then the three numbers are equal: where one says 14 all do
    pub three-numbers_equal : Passed whole → (first.reply.number ≡ whole.reply.number) × (second.reply.number ≡ whole.reply.number)
    three-numbers_equal p = (numbers_equal parted p first (here refl), numbers_equal parted p second (there (here refl)))

    -- "If there is no tree, all three searches say so", and only then
    pub all_three_say_so :
        Passed whole
        → ((c : List ℕ) → Candidate n whole.allowed c → ⊥) ↔ ((first.reply.number ≡ 14) × (second.reply.number ≡ 14) × (whole.reply.number ≡ 14))
    all_three_say_so p = (
      λ none. let f = (all_say_so parted p).0 none in (f first (there (here refl)), f second (there (there (here refl))), f whole (here refl)),
      λ q. ((fourteen_exactly whole.finds).0 q.2).1,
    )

    module _ (found : whole.reply.number ≡ 0) where
      -- "the whole's least score is at least the sum of the lots' least scores"
      pub at_least_both : first.reply.score + second.reply.score ≤ whole.reply.score
      at_least_both = subst (λ (m : ℕ). m ≤ whole.reply.score) sum_of_both (at_least_the_sum parted found)

      -- "with equality exactly when some tree is least for both"
      pub equal_exactly_when_least_for_both :
          (whole.reply.score ≡ first.reply.score + second.reply.score) ↔ ((c : List ℕ) × LeastIn first c × LeastIn second c)
      equal_exactly_when_least_for_both =
          let law = equal_exactly parted found in (
            λ e. let q = law.0 (e ∙ sym sum_of_both) in let b = (both q.0).0 q.1 in (q.0, b.0, b.1),
            λ q. law.1 (q.0, (both q.0).1 (q.1, q.2)) ∙ sum_of_both,
          )

      -- and then the trees least for the whole are exactly those least for both
      pub least_trees_of_both :
          whole.reply.score ≡ first.reply.score + second.reply.score → (c : List ℕ) → LeastIn whole c ↔ (LeastIn first c × LeastIn second c)
      least_trees_of_both e c =
          let law = least_trees_shared parted found (e ∙ sym sum_of_both) c in
          (λ l. (both c).0 (law.0 l), λ q. law.1 ((both c).1 q))
