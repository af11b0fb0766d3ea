-- What the outcome of a search does not depend on: byte 0 of the allowed set, which is judged alone, and the entries beyond the need.
use Prim.Native.Nat.{ℕ, zero, suc, ◌+◌, ◌*◌, ◌^◌, ◌≤◌, ◌<◌}
use mathlib.Core.Path.{◌≡◌, refl, sym, ap, ap₂, ◌∙◌}
use mathlib.Core.Logic.{◌⊎◌, ◌↔◌}
use mathlib.Core.Bool.{Bool, not}
use mathlib.Core.List.{List, ◌++◌, map}
use native.Mathlib.Decide.{dec_le}
use native.Mathlib.Omega.{arith}
use lib.Dec.{leb, ltb}
use lib.ListN.{length, get_or, take, drop}
use lib.Seq.{get_or-take, take_at, drop_at}
use borrow.Author.Tests.{le-ltb, lt-ltb, le-leb, lt-leb}
use Rattle.clusters.specs.Sets.{whole, Within}
use Rattle.clusters.proofs.Sets.{within-le, whole_below}
use Rattle.trees.specs.Lists.{up_to}
use Rattle.trees.specs.Records.{records_in}
use Rattle.trees.proofs.Lent.{records-needed, short-needed}
use Rattle.trees.proofs.UpTo.{length-map-up_to}
use Rattle.roster.specs.Roster.{least, first_or}
use Rattle.roster.specs.Verdict.{Test, verdict, length_test}
use Rattle.weights.specs.Count.{weight}
use Rattle.splits.specs.Least.{score_entry, split_entry, best}
use Rattle.splits.specs.Ties.{tie_entry}
use Rattle.terms.specs.Allowed.{allowed_in}
use Rattle.tables.proofs.Written.{same_entries}
use Rattle.splits.specs.Best.{best_for}
use Rattle.terms.specs.declared.Found.{Found}
use Rattle.terms.specs.Allowed.{first_strange, allowed_test}
use Rattle.search.specs.Promise.{search_tests, filled_by, Finds}
use Rattle.search.specs.TiesPromise.{ties_for, ties_tests, FindsTies}
use Rattle.search.specs.Candidates.{SameAllowed, SameTable}
use Rattle.search.specs.declared.tied.Tied.{Tied}
use Rattle.search.proofs.BestTrees.{best_local, ties_local}
use Rattle.search.proofs.Accepted.{accepts}
use Rattle.search.proofs.Demand.{accepted_of}
use Rattle.search.proofs.Tying.{third_table, ties-tests, tests-fit, tests-passed, ties_find}
use Rattle.weights.specs.declared.Rooting.{Rooting}

-- ---- allowed sets that say the same

-- they allow the same clusters
pub same_allowed_in : {n : ℕ} {allowed other : List ℕ} → SameAllowed n allowed other → (a : ℕ) → 1 ≤ a → a < 2 ^ n → allowed_in n allowed a ≡ allowed_in n other a
unfolding allowed_in
same_allowed_in same a s l = rw (same.clusters a s l)

-- where all bytes are 0 or 1, it is enough that they agree on the clusters
pub zeros_and_ones_same :
    (n : ℕ) (allowed other : List ℕ) → 2 ^ n ≤ length allowed → 2 ^ n ≤ length other
    → ((a : ℕ) → a < 2 ^ n → get_or allowed a 0 ≤ 1) → ((a : ℕ) → a < 2 ^ n → get_or other a 0 ≤ 1)
    → ((a : ℕ) → 1 ≤ a → a < 2 ^ n → get_or allowed a 0 ≡ get_or other a 0) → SameAllowed n allowed other
zeros_and_ones_same n allowed other p q bytes others same = record {
  long = p;
  other_long = q;
  clusters = same;
  byte_0 = (λ h. others 0 (omega (arith, whole_below n)), λ h. bytes 0 (omega (arith, whole_below n)));
}

-- the bytes beyond the first 2^n say nothing
pub first_bytes_same :
    (n : ℕ) (allowed other : List ℕ) → 2 ^ n ≤ length allowed → 2 ^ n ≤ length other → take (2 ^ n) allowed ≡ take (2 ^ n) other
    → SameAllowed n allowed other
first_bytes_same n allowed other p q e =
    let first = byte 0 (omega (arith, whole_below n)) in
    record { long = p; other_long = q; clusters = λ a s l. byte a l; byte_0 = (λ h. omega arith, λ h. omega arith) }
  where
    byte : (a : ℕ) → a < 2 ^ n → get_or allowed a 0 ≡ get_or other a 0
    byte a l = sym (get_or-take (2 ^ n) allowed a 0 l) ∙ ap (λ b. get_or b a 0) e ∙ get_or-take (2 ^ n) other a 0 l

-- ---- lists, entry by entry

least_same : (test other : ℕ → Bool) (p k : ℕ) → ((a : ℕ) → p ≤ a → a < p + k → test a ≡ other a) → least test p k ≡ least other p k
unfolding least
least_same test other p zero h = refl
least_same test other p (suc k) h =
    ap₂ (λ b m. first_or b p m) (h p (omega arith) (omega arith)) (least_same test other (suc p) k (λ a l m. h a (omega arith) (omega arith)))

leb_same : (x y m : ℕ) → (x ≤ m) ↔ (y ≤ m) → leb x m ≡ leb y m
leb_same x y m h = go (dec_le x m) (dec_le y m)
  where
    go : Dec (x ≤ m) → Dec (y ≤ m) → leb x m ≡ leb y m
    go (yes p) d = le-leb x m p ∙ sym (le-leb y m (h.0 p))
    go (no p) (yes q) = absurd (p (h.1 q))
    go (no p) (no q) = lt-leb x m (omega arith) ∙ sym (lt-leb y m (omega arith))

-- two lists that are long enough, or not, alike
pub both_fit : (need : ℕ) (l k : List ℕ) → (need ≤ length l) ↔ (need ≤ length k) → length_test (length l) need ≡ length_test (length k) need
unfolding length_test
both_fit need l k h = go (dec_le need (length l)) (dec_le need (length k))
  where
    go : Dec (need ≤ length l) → Dec (need ≤ length k)
        → ◌≡◌ {A = Test} (record { fault = ltb (length l) need; number = 12; place = 0 }) (record { fault = ltb (length k) need; number = 12; place = 0 })
    go (yes p) d = rw (le-ltb (length l) need p, le-ltb (length k) need (h.0 p))
    go (no p) (yes q) = absurd (p (h.1 q))
    go (no p) (no q) = rw (lt-ltb (length l) need (omega arith), lt-ltb (length k) need (omega arith))

-- two tables that are filled with the same entries
filled_same :
    (n k k' : ℕ) (entry entry' : ℕ → ℕ) (lent after lent' after' : List ℕ) → after ≡ filled_by k n entry lent → after' ≡ filled_by k' n entry' lent'
    → k ≡ 0 → k' ≡ 0 → ((a : ℕ) → a < 2 ^ n → entry a ≡ entry' a) → SameTable n lent after lent' after'
filled_same n zero zero entry entry' lent after lent' after' e e' z z' same = record {
  entries =
      ap (take (2 ^ n)) e ∙ take_at (map entry (up_to (2 ^ n))) (drop (2 ^ n) lent) (2 ^ n) (length-map-up_to entry (2 ^ n))
      ∙ same_entries entry entry' (2 ^ n) same
      ∙ sym (ap (take (2 ^ n)) e' ∙ take_at (map entry' (up_to (2 ^ n))) (drop (2 ^ n) lent') (2 ^ n) (length-map-up_to entry' (2 ^ n)));
  beyond = ap (drop (2 ^ n)) e ∙ drop_at (map entry (up_to (2 ^ n))) (drop (2 ^ n) lent) (2 ^ n) (length-map-up_to entry (2 ^ n));
  beyond' = ap (drop (2 ^ n)) e' ∙ drop_at (map entry' (up_to (2 ^ n))) (drop (2 ^ n) lent') (2 ^ n) (length-map-up_to entry' (2 ^ n));
}
filled_same n zero (suc k') entry entry' lent after lent' after' e e' z z' same = absurd (omega arith)
filled_same n (suc k) k' entry entry' lent after lent' after' e e' z z' same = absurd (omega arith)

-- ---- two calls that agree on what is read

-- they agree on n, count, the gene entries that are needed, what is allowed, and whether each table is long enough
module _ (rooting : Rooting) (n count : ℕ) (genes genes' allowed allowed' scores scores' splits splits' : List ℕ)
    (same-genes : take (32 * count) genes ≡ take (32 * count) genes') (same_allowed : SameAllowed n allowed allowed')
    (scores_fit : (2 ^ n ≤ length scores) ↔ (2 ^ n ≤ length scores')) (splits_fit : (2 ^ n ≤ length splits) ↔ (2 ^ n ≤ length splits')) where
  same_records : records_in count genes ≡ records_in count genes'
  same_records = sym (records-needed count genes) ∙ ap (records_in count) same-genes ∙ records-needed count genes'

  needed-fit : (need : ℕ) (l k : List ℕ) → take need l ≡ take need k → length_test (length l) need ≡ length_test (length k) need
  unfolding length_test
  needed-fit need l k e =
      ap (λ b. record { fault = b; number = 12; place = 0 }) (sym (short-needed need l) ∙ ap (λ m. ltb (length m) need) e ∙ short-needed need k)

  same_strange : first_strange n allowed ≡ first_strange n allowed'
  unfolding first_strange
  same_strange = least_same (λ a. not (leb (get_or allowed a 0) 1)) (λ a. not (leb (get_or allowed' a 0) 1)) 0 (2 ^ n) (λ a l m. ap not (judged a m))
    where
      judged : (a : ℕ) → a < 0 + 2 ^ n → leb (get_or allowed a 0) 1 ≡ leb (get_or allowed' a 0) 1
      judged zero l = leb_same (get_or allowed 0 0) (get_or allowed' 0 0) 1 same_allowed.byte_0
      judged (suc a) l = ap (λ b. leb b 1) (same_allowed.clusters (suc a) (omega arith) (omega arith))

  same_tests : search_tests rooting n genes count allowed scores splits ≡ search_tests rooting n genes' count allowed' scores' splits'
  unfolding search_tests allowed_test
  same_tests =
      rw (
        needed-fit (32 * count) genes genes' same-genes,
        both_fit (2 ^ n) allowed allowed' (λ p. same_allowed.other_long, λ p. same_allowed.long),
        both_fit (2 ^ n) scores scores' scores_fit,
        both_fit (2 ^ n) splits splits' splits_fit,
        same_records,
        same_strange,
      )

  same_verdict : verdict (search_tests rooting n genes count allowed scores splits) ≡ verdict (search_tests rooting n genes' count allowed' scores' splits')
  same_verdict = ap verdict same_tests

  -- what is asked of the allowed set for a cluster
  same_within : (a : ℕ) → a < 2 ^ n → (x : ℕ) → 1 ≤ x → Within x a → allowed_in n allowed x ≡ allowed_in n allowed' x
  same_within a l x s m = same_allowed_in same_allowed x s (let k = within-le m in omega arith)

  same_best : (a : ℕ) → a < 2 ^ n → best_for rooting n (records_in count genes) allowed a ≡ best_for rooting n (records_in count genes') allowed' a
  unfolding best_for
  same_best a l =
      best_local (weight rooting (records_in count genes)) (allowed_in n allowed) (allowed_in n allowed') a (same_within a l)
      ∙ ap (λ g. best (weight rooting g) (allowed_in n allowed') a) same_records

  -- "byte 0 has no meaning", "Entries beyond the need are not read": their replies are equal, and where the tables are filled so are the entries
  pub same_outcome :
      {r q : Found} {s p s' p' : List ℕ} → Finds rooting n genes count allowed scores splits r s p → Finds rooting n genes' count allowed' scores' splits' q s' p'
      → (r ≡ q) × ((r.number ≡ 0) ⊎ (r.number ≡ 14) → SameTable n scores s scores' s' × SameTable n splits p splits' p')
  same_outcome {s = s} {p = p} {s' = s'} {p' = p'} f f' = (
    f.reply ∙ rw (same_verdict, same_best (whole n) (whole_below n), same_records) (sym f'.reply),
    λ d.
        let z = accepts rooting n genes count allowed scores splits (accepted_of f d) in
        let z' = sym (ap (λ v. v.number) same_verdict) ∙ z in (
          filled_same n _ _ _ _ scores s scores' s' f.score_table f'.score_table z z'
              (λ a l. ap₂ (λ g o. score_entry (weight rooting g) o) same_records (same_best a l)),
          filled_same n _ _ _ _ splits p splits' p' f.split_table f'.split_table z z' (λ a l. ap split_entry (same_best a l)),
        ),
  )

  -- ---- with a third table

  module _ (ties ties' : List ℕ) (ties-fit : (2 ^ n ≤ length ties) ↔ (2 ^ n ≤ length ties')) where
    same_ties_verdict :
        verdict (ties_tests rooting n genes count allowed scores splits ties) ≡ verdict (ties_tests rooting n genes' count allowed' scores' splits' ties')
    same_ties_verdict =
        ap verdict
        (ties-tests rooting n genes count allowed scores splits ties
        ∙ ap₂ third_table (both_fit (2 ^ n) ties ties' ties-fit) same_tests
        ∙ sym (ties-tests rooting n genes' count allowed' scores' splits' ties'))

    same_ties : (a : ℕ) → a < 2 ^ n → ties_for rooting n (records_in count genes) allowed a ≡ ties_for rooting n (records_in count genes') allowed' a
    unfolding ties_for
    same_ties a l =
        ties_local (weight rooting (records_in count genes)) (allowed_in n allowed) (allowed_in n allowed') a (same_within a l)
        ∙ ap (λ g. tie_entry (weight rooting g) (allowed_in n allowed') a) same_records

    -- the same of the search with ties (#111), for all three tables
    pub same_outcome_with_ties :
        {r q : Tied} {s p t s' p' t' : List ℕ} → FindsTies rooting n genes count allowed scores splits ties r s p t
        → FindsTies rooting n genes' count allowed' scores' splits' ties' q s' p' t'
        → (r ≡ q) × ((r.number ≡ 0) ⊎ (r.number ≡ 14) → SameTable n scores s scores' s' × SameTable n splits p splits' p' × SameTable n ties t ties' t')
    same_outcome_with_ties {t = t} {t' = t'} f f' = (
      f.reply ∙ rw (same_ties_verdict, same_best (whole n) (whole_below n), same_ties (whole n) (whole_below n), same_records) (sym f'.reply),
      λ d.
          let z = tests-passed rooting n genes count allowed scores splits ties f d in
          let z' = sym (ap (λ v. v.number) same_ties_verdict) ∙ z in
          let search = ties_find rooting n genes count allowed scores splits ties f (tests-fit rooting n genes count allowed scores splits ties z) in
          let search' = ties_find rooting n genes' count allowed' scores' splits' ties' f' (tests-fit rooting n genes' count allowed' scores' splits' ties' z') in
          let both = (same_outcome search search').1 d in
          (both.0, both.1, filled_same n _ _ _ _ ties t ties' t' f.tie_table f'.tie_table z z' same_ties),
    )

-- two tables lent alike, filled or not alike
filled-alike :
    (n k k' : ℕ) (entry entry' : ℕ → ℕ) (lent after after' : List ℕ) → after ≡ filled_by k n entry lent → after' ≡ filled_by k' n entry' lent → k ≡ k'
    → ((a : ℕ) → a < 2 ^ n → entry a ≡ entry' a) → after ≡ after'
filled-alike n zero zero entry entry' lent after after' e e' z same =
    e ∙ ap (λ l. l ++ drop (2 ^ n) lent) (same_entries entry entry' (2 ^ n) same) ∙ sym e'
filled-alike n zero (suc k') entry entry' lent after after' e e' z same = absurd (omega arith)
filled-alike n (suc k) zero entry entry' lent after after' e e' z same = absurd (omega arith)
filled-alike n (suc k) (suc k') entry entry' lent after after' e e' z same = e ∙ sym e'

-- two allowed sets of zeros and ones that agree on the clusters: the same call otherwise has the same outcome, whatever its tables
pub only-clusters_matter :
    (rooting : Rooting) (n : ℕ) (genes : List ℕ) (count : ℕ) (allowed other scores splits : List ℕ) → 2 ^ n ≤ length allowed → 2 ^ n ≤ length other
    → ((a : ℕ) → a < 2 ^ n → get_or allowed a 0 ≤ 1) → ((a : ℕ) → a < 2 ^ n → get_or other a 0 ≤ 1)
    → ((a : ℕ) → 1 ≤ a → a < 2 ^ n → get_or allowed a 0 ≡ get_or other a 0)
    → {r q : Found} {s p s' p' : List ℕ} → Finds rooting n genes count allowed scores splits r s p → Finds rooting n genes count other scores splits q s' p'
    → (r ≡ q) × (s ≡ s') × (p ≡ p')
only-clusters_matter rooting n genes count allowed other scores splits long long' bytes bytes' agree {s = s} {p = p} {s' = s'} {p' = p'} f f' =
    let same = zeros_and_ones_same n allowed other long long' bytes bytes' agree in
    let verdicts = ap (λ v. v.number) (same_verdict rooting n count genes genes allowed other scores scores splits splits refl same (λ h. h, λ h. h) (λ h. h, λ h. h)) in
    let bests = same_best rooting n count genes genes allowed other scores scores splits splits refl same (λ h. h, λ h. h) (λ h. h, λ h. h) in (
      (same_outcome rooting n count genes genes allowed other scores scores splits splits refl same (λ h. h, λ h. h) (λ h. h, λ h. h) f f').0,
      filled-alike n _ _ _ _ scores s s' f.score_table f'.score_table verdicts (λ a l. ap (score_entry (weight rooting (records_in count genes))) (bests a l)),
      filled-alike n _ _ _ _ splits p p' f.split_table f'.split_table verdicts (λ a l. ap split_entry (bests a l)),
    )
