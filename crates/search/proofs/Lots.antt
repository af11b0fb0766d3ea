-- Numbers added up over lots: the whole's least number against the sum of the lots' least numbers, and what is least; then the scores of lots of gene trees.
use Prim.Native.Nat.{ℕ, zero, suc, ◌^◌, ◌≤◌, ◌<◌}
use mathlib.Core.Path.{◌≡◌, sym, ◌∙◌}
use mathlib.Core.Logic.{◌↔◌}
use mathlib.Core.List.{List, [], ◌∷◌, map, Memᴰ}
use native.Mathlib.Omega.{arith}
use lib.ListN.{length, get_or}
use Rattle.clusters.proofs.Sets.{below_of_within}
use Rattle.trees.specs.Lists.{total}
use Rattle.trees.specs.Records.{records_in}
use Rattle.trees.proofs.Totals.{total_same, total-le, total_tight}
use Rattle.weights.specs.Count.{score}
use Rattle.weights.proofs.Sums.{score_append}
use Rattle.splits.specs.BinaryTrees.{each}
use Rattle.terms.specs.declared.Found.{Found}
use Rattle.search.specs.Promise.{Finds}
use Rattle.search.specs.Candidates.{Candidate, AnswerBy, SameAllowed}
use Rattle.search.specs.LeastAmong.{LeastAmong, LeastNumber, NumberOf}
use Rattle.search.proofs.HowMany.{some_member, number_same, number-le}
use Rattle.search.proofs.Demand.{answer}
use Rattle.search.proofs.Unread.{same_allowed_in}
use Rattle.weights.specs.declared.Rooting.{Rooting}

-- ---- what is least, by the least number

module _ {A : Type 0} {Competes : A → Type 0} {number : A → ℕ} {m : ℕ} (l : LeastNumber Competes number m) where
  pub least_number_le : (c : A) → Competes c → m ≤ number c
  least_number_le c k = let p = l.least.least c k in let e = l.is in omega arith

  -- those are least that compete and have the least number
  pub least_exactly : (c : A) → LeastAmong Competes number c ↔ (Competes c × (number c ≡ m))
  least_exactly c = (
    λ q. (q.competes, let p = q.least l.holder l.least.competes in let e = l.is in omega (arith, least_number_le c q.competes)),
    λ q. record { competes = q.0; least = λ d k. let e = q.1 in omega (arith, least_number_le d k) },
  )

-- ---- lots

-- each lot and the whole have a number for all that compete, the whole's being the sum over the lots; and what the least of these numbers are
pub record AddedUp {A Lot : Type 0} (Competes : Lot → A → Type 0) (number : Lot → A → ℕ) (least : Lot → ℕ) (lots : List Lot) (whole : Lot) : Type 0 where
  pub some_lot : 1 ≤ length lots
  pub same_compete : (l : Lot) → Memᴰ l lots → (c : A) → Competes l c ↔ Competes whole c
  pub adds_up : (c : A) → number whole c ≡ total (map (λ (l : Lot). number l c) lots)
  pub of_whole : LeastNumber (Competes whole) (number whole) (least whole)
  pub of_lots : (l : Lot) → Memᴰ l lots → LeastNumber (Competes l) (number l) (least l)

module _ {A Lot : Type 0} {Competes : Lot → A → Type 0} {number : Lot → A → ℕ} {least : Lot → ℕ} {lots : List Lot} {whole : Lot}
    (added : AddedUp Competes number least lots whole) where
  -- c is least for every lot
  abbrev EachLeast : A → Type 0
  EachLeast c = (l : Lot) → Memᴰ l lots → LeastAmong (Competes l) (number l) c

  -- no lot has a smaller number for one that competes
  lot_le : (c : A) → Competes whole c → (l : Lot) → Memᴰ l lots → least l ≤ number l c
  lot_le c k l m = least_number_le (added.of_lots l m) c ((added.same_compete l m c).1 k)

  -- "at least the sum": the lots' least numbers together are no more than the whole's
  pub sum-le_whole : total (map least lots) ≤ least whole
  sum-le_whole =
      let w = added.of_whole in
      let e = w.is in
      omega (arith, added.adds_up w.holder, total-le least (λ (l : Lot). number l w.holder) lots (lot_le w.holder w.least.competes))

  -- what is least for every lot is least for the whole
  pub each_least_is_least : (c : A) → EachLeast c → LeastAmong (Competes whole) (number whole) c
  each_least_is_least c f =
      let lot = some_member lots added.some_lot in
      record {
        competes = (added.same_compete lot.0 lot.1 c).0 (f lot.0 lot.1).competes;
        least = λ d k.
            omega (
              arith,
              added.adds_up c,
              added.adds_up d,
              total-le (λ (l : Lot). number l c) (λ (l : Lot). number l d) lots (λ l m. (f l m).least d ((added.same_compete l m d).1 k)),
            );
      }

  -- where the whole reaches the sum, what is least for it is least for every lot
  pub least_is_each_least : least whole ≡ total (map least lots) → (c : A) → LeastAmong (Competes whole) (number whole) c → EachLeast c
  least_is_each_least e c q l m =
      let k = q.competes in
      let w = ((least_exactly added.of_whole c).0 q).1 in
      let same = total_tight least (λ (l : Lot). number l c) lots (lot_le c k) (omega (arith, added.adds_up c)) in
      (least_exactly (added.of_lots l m) c).1 ((added.same_compete l m c).1 k, sym (same l m))

  -- where one is least for every lot, the whole reaches the sum
  sum-reached : (c : A) → EachLeast c → least whole ≡ total (map least lots)
  sum-reached c f =
      let w = ((least_exactly added.of_whole c).0 (each_least_is_least c f)).1 in
      omega (
        arith,
        added.adds_up c,
        total_same (λ (l : Lot). number l c) least lots (λ l m. ((least_exactly (added.of_lots l m) c).0 (f l m)).1),
      )

  -- "with equality exactly when some tree is least for both"
  pub sum-reached_exactly : (least whole ≡ total (map least lots)) ↔ ((c : A) × EachLeast c)
  sum-reached_exactly =
      let w = added.of_whole in
      (λ e. (w.holder, least_is_each_least e w.holder w.least), λ q. sum-reached q.0 q.1)

  -- and then those least for the whole are exactly those least for every lot
  pub least_shared_exactly : least whole ≡ total (map least lots) → (c : A) → LeastAmong (Competes whole) (number whole) c ↔ EachLeast c
  least_shared_exactly e c = (least_is_each_least e c, each_least_is_least c)

  -- ---- how many are least, where the whole reaches the sum

  module _ (reached : least whole ≡ total (map least lots)) {m : ℕ} (counted : NumberOf (LeastAmong (Competes whole) (number whole)) m) where
    -- as many are least for every lot
    pub shared-number : NumberOf (λ c. (l : Lot) → Memᴰ l lots → LeastAmong (Competes l) (number l) c) m
    shared-number = number_same counted (least_is_each_least reached) each_least_is_least

    -- "it is at most either lot's own number" (#111)
    pub shared-le : (l : Lot) → Memᴰ l lots → {k : ℕ} → NumberOf (LeastAmong (Competes l) (number l)) k → m ≤ k
    shared-le l p own = number-le counted own (λ c q. least_is_each_least reached c q l p)

-- ---- the scores of gene trees

-- the score over lots of gene trees, one after the other, is the sum of their scores
pub score_of_lots :
    (rooting : Rooting) {Lot : Type 0} (records : Lot → List (List ℕ)) (lots : List Lot) (c : List ℕ)
    → score rooting (each records lots) c ≡ total (map (λ (l : Lot). score rooting (records l) c) lots)
unfolding each total
score_of_lots rooting records [] c = omega (arith, score_append rooting [] [] c)
score_of_lots rooting records (l ∷ lots) c = omega (arith, score_append rooting (records l) (each records lots) c, score_of_lots rooting records lots c)

-- the score of an answer is the least score
pub answer_is_least : {number : List ℕ → ℕ} {n : ℕ} {allowed : List ℕ} {r : Found} → AnswerBy number n allowed r → LeastNumber (Candidate n allowed) number r.score
answer_is_least {r = r} a = record {
  holder = r.numbers;
  least = record { competes = a.competes; least = λ d k. let e = a.counted in let p = a.least d k in omega arith };
  is = a.counted;
}

-- and so is the reply's
pub reply_is_least :
    {rooting : Rooting} {n : ℕ} {genes : List ℕ} {count : ℕ} {allowed scores splits : List ℕ} {r : Found} {scores_after splits_after : List ℕ}
    → Finds rooting n genes count allowed scores splits r scores_after splits_after → r.number ≡ 0
    → LeastNumber (Candidate n allowed) (score rooting (records_in count genes)) r.score
reply_is_least f z = answer_is_least (answer f z)

-- ---- allowed sets that say the same

module _ {n : ℕ} {allowed other : List ℕ} (same : SameAllowed n allowed other) where
  -- what competes over the one competes over the other
  pub competes_too : (c : List ℕ) → Candidate n allowed c → Candidate n other c
  competes_too c k = record {
    valid = k.valid;
    binary = k.binary;
    over = λ a m. let i = k.valid.inside a m in sym (same_allowed_in same a i.0 (below_of_within n i.1)) ∙ k.over a m;
  }

  -- and the bytes of both are judged alike
  pub zeros_and_ones_too : ((a : ℕ) → a < 2 ^ n → get_or allowed a 0 ≤ 1) → (a : ℕ) → a < 2 ^ n → get_or other a 0 ≤ 1
  zeros_and_ones_too h zero l = same.byte_0.0 (h zero l)
  zeros_and_ones_too h (suc a) l = let b = h (suc a) l in omega (arith, same.clusters (suc a) (omega arith) l)
