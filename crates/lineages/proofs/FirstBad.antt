-- The first gene record that fails a test: found from the left, and what it means that there is none. Those tests are 15 and 19.
use Prim.Native.Nat.{ℕ, zero, suc, ◌+◌, ◌*◌, ◌^◌, ◌≤◌, ◌<◌}
use mathlib.Core.Path.{◌≡◌, refl, sym, ap, ◌∙◌}
use mathlib.Core.Bool.{Bool, true, false, ◌&&◌, true≢false}
use mathlib.Core.List.{List, [], ◌∷◌, Memᴰ}
use native.Mathlib.Omega.{arith}
use lib.ListN.{length, get_or, take, drop}
use lib.Dec.{ltb}
use Rattle.std.specs.Prelude.{Some, None, not, cond, position}
use Rattle.std.specs.List.{position_or_len}
use Rattle.std.proofs.lemmas.Option.{same_Some, none-some}
use borrow.Author.Tests.{ltb-true, ltb-false, lt-ltb, le-ltb}
use Rattle.labels.specs.Bytes.{one_more}
use Rattle.trees.specs.Records.{records_in, AllValid, AllValidFor}
use Rattle.trees.specs.Lists.{pieces}
use Rattle.trees.specs.Valid.{valid_gene, valid_gene_for}
use Rattle.trees.specs.Unrooted.{may_unroot}
use Rattle.trees.proofs.GeneRecords.{gene_decides, gene-cluster-below}
use Rattle.trees.proofs.Places.{at_among, among_at}
use Rattle.roster.specs.Verdict.{Test, Verdict, verdict_by, verdict}
use Rattle.lineages.specs.Checks.{first_failing, first_bad, first_unresolved, is_unrooted, records_test, rooting_test}
use Rattle.lineages.specs.InOrder.{Shaped, GenesInOrder}
use Rattle.lineages.specs.Work.{genes_tests, said}
use Rattle.weights.specs.Work.{AllCountable, AllMarkable}
use Rattle.weights.specs.declared.Rooting.{Rooting}
use Rattle.weights.specs.declared.Rooting.TheVariants.{Rooted, Unrooted}
use Rattle.weights.proofs.Sums.{valid-countable}
use Rattle.trees.proofs.EqualPieces.{pieces_from, pieces_from_first, pieces_from_next, pieces_from_last}

module _ (test : List ℕ → Bool) where
  failing_none : first_failing test [] ≡ 0
  unfolding first_failing
  failing_none = refl

  failing_here : (g : List ℕ) (l : List (List ℕ)) → test g ≡ false → first_failing test (g ∷ l) ≡ 0
  unfolding first_failing
  failing_here g l e = rw e

  failing_later : (g : List ℕ) (l : List (List ℕ)) → test g ≡ true → first_failing test (g ∷ l) ≡ suc (first_failing test l)
  unfolding first_failing
  failing_later g l e = rw e

-- ---- found from the left

-- the records before the i-th pass, of those that are so long
pub record PassedTo (size : ℕ) (test : List ℕ → Bool) (genes : List ℕ) (count i : ℕ) : Type 0 where
  pub place : i ≤ count
  pub left : i + first_failing test (pieces_from size i count genes) ≡ first_failing test (pieces size count genes)

pub passed_start : (size : ℕ) (test : List ℕ → Bool) (genes : List ℕ) (count : ℕ) → PassedTo size test genes count 0
passed_start size test genes count = record { place = omega arith; left = rw pieces_from_first (omega arith) }

module _ {size : ℕ} {test : List ℕ → Bool} {genes : List ℕ} {count i : ℕ} (now : PassedTo size test genes count i) where
  pub passed_next : i < count → test (take size (drop (size * i) genes)) ≡ true → PassedTo size test genes count (i + 1)
  passed_next l e =
      let next = rw (← pieces_from_next size i count genes l) at (failing_later test (take size (drop (size * i) genes)) (pieces_from size (i + 1) count genes) e) in
      record { place = omega arith; left = omega (arith, now.left) }

  pub passed-found : i < count → test (take size (drop (size * i) genes)) ≡ false → i ≡ first_failing test (pieces size count genes)
  passed-found l e =
      let here = rw (← pieces_from_next size i count genes l) at (failing_here test (take size (drop (size * i) genes)) (pieces_from size (i + 1) count genes) e) in
      omega (arith, now.left)

  pub passed_all : count ≤ i → i ≡ first_failing test (pieces size count genes)
  passed_all l =
      let all : i ≡ count = omega (arith, now.place) in
      let none : first_failing test (pieces_from size i count genes) ≡ 0 = rw (all, pieces_from_last) (failing_none test) in
      omega (arith, now.left)

-- ---- found by `position`

module _ (test : List ℕ → Bool) where
  pub failing_position : (genes : List (List ℕ)) → position_or_len (λ g. not (test g)) genes ≡ first_failing test genes
  unfolding first_failing
  failing_position [] = refl
  failing_position (g ∷ l) = go (test g) (failing_position l)
    where
      go :
          (b : Bool) → position_or_len (λ g. not (test g)) l ≡ first_failing test l
          → cond (not (not b)) (1 + position_or_len (λ g. not (test g)) l) 0 ≡ one_more b (first_failing test l)
      go true e = omega arith
      go false e = refl

  -- a record that was found is the first that fails
  pub found_first : (genes : List (List ℕ)) {i : ℕ} → Some i ≡ position (λ g. not (test g)) genes → (i ≡ first_failing test genes) × (i < length genes)
  found_first genes {i} e = go (ltb (first_failing test genes) (length genes)) refl (rw (failing_position genes) at e)
    where
      go :
          (b : Bool) → ltb (first_failing test genes) (length genes) ≡ b → Some i ≡ cond b (Some (first_failing test genes)) None
          → (i ≡ first_failing test genes) × (i < length genes)
      go true in_bounds e = let same : i ≡ first_failing test genes = same_Some _ _ e in (same, omega (arith, ltb-true (first_failing test genes) (length genes) in_bounds))
      go false out e = absurd (none-some _ (sym e))

  -- where none was found, none fails
  pub found_none : (genes : List (List ℕ)) → None ≡ position (λ g. not (test g)) genes → length genes ≤ first_failing test genes
  found_none genes e = go (ltb (first_failing test genes) (length genes)) refl (rw (failing_position genes) at e)
    where
      go :
          (b : Bool) → ltb (first_failing test genes) (length genes) ≡ b → None ≡ cond b (Some (first_failing test genes)) None
          → length genes ≤ first_failing test genes
      go true in_bounds e = absurd (none-some _ e)
      go false out e = ltb-false (first_failing test genes) (length genes) out

-- ---- what the index says

module _ (test : List ℕ → Bool) where
  pub failing_le : (genes : List (List ℕ)) → first_failing test genes ≤ length genes
  unfolding first_failing
  failing_le [] = omega arith
  failing_le (g ∷ l) = go (test g) (failing_le l)
    where
      go : (b : Bool) → first_failing test l ≤ length l → one_more b (first_failing test l) ≤ suc (length l)
      go true h = omega arith
      go false h = omega arith

  -- the record at it fails, where there is one, and those before it pass
  pub failing_means :
      (genes : List (List ℕ))
      → (first_failing test genes < length genes → test (get_or genes (first_failing test genes) []) ≡ false)
      × ((j : ℕ) → j < first_failing test genes → test (get_or genes j []) ≡ true)
  unfolding first_failing
  failing_means [] = (λ h. absurd (omega arith), λ j h. absurd (omega arith))
  failing_means (g ∷ l) = go (test g) refl (failing_means l)
    where
      go :
          (b : Bool) → test g ≡ b
          → (first_failing test l < length l → test (get_or l (first_failing test l) []) ≡ false) × ((j : ℕ) → j < first_failing test l → test (get_or l j []) ≡ true)
          → (one_more b (first_failing test l) < suc (length l) → test (get_or (g ∷ l) (one_more b (first_failing test l)) []) ≡ false)
          × ((j : ℕ) → j < one_more b (first_failing test l) → test (get_or (g ∷ l) j []) ≡ true)
      go true e later = (λ h. later.0 (omega arith), before)
        where
          before : (j : ℕ) → j < suc (first_failing test l) → test (get_or (g ∷ l) j []) ≡ true
          before zero h = e
          before (suc j) h = later.1 j (omega arith)
      go false e later = (λ h. e, λ j h. absurd (omega arith))

  -- no other index is such a one
  pub failing_is :
      (genes : List (List ℕ)) (i : ℕ) → i ≤ length genes → (i < length genes → test (get_or genes i []) ≡ false)
      → ((j : ℕ) → j < i → test (get_or genes j []) ≡ true) → first_failing test genes ≡ i
  unfolding first_failing
  failing_is [] i h bad good = omega arith
  failing_is (g ∷ l) zero h bad good = rw (bad (omega arith)) refl
  failing_is (g ∷ l) (suc i) h bad good =
      rw (good 0 (omega arith)) (ap suc (failing_is l i (omega arith) (λ m. bad (omega arith)) (λ j m. good (suc j) (omega arith))))

  -- where no record is first, all pass
  pub none_failing : (genes : List (List ℕ)) → length genes ≤ first_failing test genes → (g : List ℕ) → Memᴰ g genes → test g ≡ true
  none_failing genes h g m =
      let p = among_at [] m in
      let b = p.before_end in
      ap test (sym p.there) ∙ (failing_means genes).1 p.place (omega arith)

  -- where all pass, no record is first
  pub all_pass : (genes : List (List ℕ)) → ((g : List ℕ) → Memᴰ g genes → test g ≡ true) → first_failing test genes ≡ length genes
  all_pass genes all =
      failing_is genes (length genes) (omega arith) (λ h. absurd (omega arith)) (λ j h. all (get_or genes j []) (at_among genes [] j h))

-- ---- none

module _ {b : ℕ} (n : ℕ) (genes : List (List ℕ)) (small : n ≤ b) where
  -- where none is at fault for 15, all are valid
  pub none_bad : length genes ≤ first_failing (λ g. valid_gene_for b n g) genes → AllValidFor b n genes
  none_bad h g m = (gene_decides g small).holds (none_failing (λ g. valid_gene_for b n g) genes h g m)

  pub all_valid_none_bad : AllValidFor b n genes → first_failing (λ g. valid_gene_for b n g) genes ≡ length genes
  all_valid_none_bad all = all_pass (λ g. valid_gene_for b n g) genes (λ g m. (gene_decides g small).told (all g m))

-- where none is at fault for 19, all may be counted without a root, where they are
pub none_unresolved :
    (rooting : Rooting) (n : ℕ) (genes : List (List ℕ)) → (is_unrooted rooting && ltb (first_unresolved n genes) (length genes)) ≡ false
    → rooting ≡ Unrooted → (g : List ℕ) → Memᴰ g genes → may_unroot n g ≡ true
none_unresolved Rooted n genes e r g m = absurd (true≢false (sym (ap is_unrooted r)))
none_unresolved Unrooted n genes e r g m =
    none_failing (λ g. may_unroot n g) genes (ltb-false (first_unresolved n genes) (length genes) e) g m

pub all_resolved :
    (rooting : Rooting) (n : ℕ) (genes : List (List ℕ)) → (rooting ≡ Unrooted → (g : List ℕ) → Memᴰ g genes → may_unroot n g ≡ true)
    → (is_unrooted rooting && ltb (first_unresolved n genes) (length genes)) ≡ false
all_resolved Rooted n genes all = refl
all_resolved Unrooted n genes all =
    le-ltb (first_unresolved n genes) (length genes) (let e = all_pass (λ g. may_unroot n g) genes (all refl) in omega arith)

-- ---- both tests

-- what is answered of the gene records, one law for each way
module _ (rooting : Rooting) (n : ℕ) (genes : List (List ℕ)) where
  pub judged_bad :
      {bad : ℕ} → Some bad ≡ position (λ g. not (valid_gene n g)) genes → said 15 bad ≡ verdict (genes_tests rooting n genes)
  unfolding genes_tests records_test verdict
  judged_bad found =
      let first = found_first (λ g. valid_gene n g) genes found in
      rw (lt-ltb (first_bad n genes) (length genes) (omega arith)) (ap (λ (i : ℕ). said 15 i) first.0)

  module _ (valid : None ≡ position (λ g. not (valid_gene n g)) genes) where
    none_invalid : ltb (first_bad n genes) (length genes) ≡ false
    none_invalid = le-ltb (first_bad n genes) (length genes) (found_none (λ g. valid_gene n g) genes valid)

    pub judged_unresolved :
        {unresolved : ℕ} → rooting ≡ Unrooted → Some unresolved ≡ position (λ g. not (may_unroot n g)) genes → said 19 unresolved ≡ verdict (genes_tests rooting n genes)
    unfolding genes_tests records_test rooting_test verdict
    judged_unresolved e found =
        let first = found_first (λ g. may_unroot n g) genes found in
        rw (none_invalid, e, lt-ltb (first_unresolved n genes) (length genes) (omega arith)) (ap (λ (i : ℕ). said 19 i) first.0)

    pub judged-resolved : (rooting ≡ Unrooted → None ≡ position (λ g. not (may_unroot n g)) genes) → said 0 0 ≡ verdict (genes_tests rooting n genes)
    unfolding genes_tests records_test rooting_test verdict
    judged-resolved found = rw (none_invalid, none_strange rooting found)
      where
        none_strange : (r : Rooting) → (r ≡ Unrooted → None ≡ position (λ g. not (may_unroot n g)) genes) → (is_unrooted r && ltb (first_unresolved n genes) (length genes)) ≡ false
        none_strange Rooted e = refl
        none_strange Unrooted e = le-ltb (first_unresolved n genes) (length genes) (found_none (λ g. may_unroot n g) genes (e refl))

-- where two tests refuse nothing, neither finds a fault
two_passed : (t u : Test) → (t.number ≡ 0 → ⊥) → (u.number ≡ 0 → ⊥) → (verdict (t ∷ u ∷ [])).number ≡ 0 → (t.fault ≡ false) × (u.fault ≡ false)
unfolding verdict
two_passed t u p q e = go t.fault u.fault refl refl e
  where
    go :
        (b c : Bool) → t.fault ≡ b → u.fault ≡ c → (verdict_by b t (verdict_by c u (record { number = 0; place = 0 }))).number ≡ 0
        → (t.fault ≡ false) × (u.fault ≡ false)
    go true c h k z = absurd (p z)
    go false true h k z = absurd (q z)
    go false false h k z = (h, k)

-- behind both tests
module _ (rooting : Rooting) (n : ℕ) (genes : List (List ℕ)) (none : said 0 0 ≡ verdict (genes_tests rooting n genes)) where
  pub faultless : ((records_test n genes).fault ≡ false) × ((rooting_test rooting n genes).fault ≡ false)
  unfolding genes_tests records_test rooting_test
  faultless =
      two_passed (records_test n genes) (rooting_test rooting n genes) (λ z. omega arith) (λ z. omega arith)
      (ap (λ (v : Verdict). v.number) (sym none))

  module _ (small : n ≤ 16) where
    checked-valid : AllValid n genes
    unfolding records_test
    checked-valid = none_bad n genes small (ltb-false (first_bad n genes) (length genes) faultless.0)

    -- can be counted
    pub checked-countable : AllCountable genes
    checked-countable = valid-countable small checked-valid

    -- and marked below 2^n
    pub checked_markable : AllMarkable (2 ^ n) genes
    checked_markable g m =
        let v = checked-valid g m in
        record { form = v.valid.form; below = λ x h. (gene-cluster-below v x h).1 }

-- what was checked is in order
pub checked_in_order :
    (rooting : Rooting) (n : ℕ) (genes : List ℕ) (count : ℕ) → said 0 0 ≡ verdict (genes_tests rooting n (records_in count genes)) → Shaped n genes count
    → GenesInOrder rooting n genes count
unfolding rooting_test
checked_in_order rooting n genes count none shaped = record {
  shaped = shaped;
  valid = checked-valid rooting n (records_in count genes) none shaped.few_species;
  enter = none_unresolved rooting n (records_in count genes) (faultless rooting n (records_in count genes) none).1;
}
