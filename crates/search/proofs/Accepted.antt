-- When the tests before the search all pass, and which numbers they can give.
use Prim.Native.Nat.{ℕ, ◌*◌, ◌^◌, ◌≤◌, ◌<◌}
use mathlib.Core.Path.{◌≡◌, refl, sym, ap, ◌∙◌}
use mathlib.Core.Bool.{Bool, true, false, not, ◌&&◌, ◌||◌, true≢false}
use mathlib.Core.List.{List}
use native.Mathlib.Omega.{arith}
use lib.Dec.{leb, eqb}
use lib.ListN.{length, get_or}
use borrow.Author.Tests.{ltb-false, leb-true, le-leb, le-ltb, not-false}
use Rattle.roster.proofs.Least.{least_first, least_none}
use Rattle.trees.specs.Records.{records_in}
use Rattle.roster.specs.Verdict.{verdict, length_test}
use Rattle.lineages.specs.Checks.{species_test, count_test, first_bad, records_test, rooting_test}
use Rattle.lineages.proofs.Verdicts.{NoneGives, verdict-passed, verdict-never}
use Rattle.lineages.proofs.FirstBad.{none_bad, all_valid_none_bad, none_unresolved, all_resolved}
use Rattle.terms.specs.Allowed.{first_strange, allowed_test}
use Rattle.search.specs.Promise.{search_tests}
use Rattle.search.specs.Candidates.{Accepted}
use Rattle.weights.specs.declared.Rooting.{Rooting}

-- ---- the tests one by one

both : (a b : Bool) → not (a && b) ≡ false → (a ≡ true) × (b ≡ true)
both true true e = (refl, refl)
both true false e = absurd (true≢false e)
both false b e = absurd (true≢false e)

pub strange_none : (n : ℕ) (bytes : List ℕ) → 2 ^ n ≤ first_strange n bytes → (a : ℕ) → a < 2 ^ n → get_or bytes a 0 ≤ 1
unfolding first_strange
strange_none n bytes h a l =
    leb-true (get_or bytes a 0) 1 (not-false (leb (get_or bytes a 0) 1) ((least_first (λ a. not (leb (get_or bytes a 0) 1)) (2 ^ n) 0).1 a (omega arith) (omega arith)))

pub none_strange : (n : ℕ) (bytes : List ℕ) → ((a : ℕ) → a < 2 ^ n → get_or bytes a 0 ≤ 1) → 2 ^ n ≤ first_strange n bytes
unfolding first_strange
none_strange n bytes h =
    let e = least_none (λ a. not (leb (get_or bytes a 0) 1)) (2 ^ n) 0 (λ a p q. ap not (le-leb (get_or bytes a 0) 1 (h a (omega arith)))) in
    omega arith

-- the numbers of the tests
abbrev pub is_of_tests : ℕ → Bool
is_of_tests m = eqb m 1 || eqb m 11 || eqb m 12 || eqb m 15 || eqb m 19 || eqb m 13

-- ---- accepted input

module _ (rooting : Rooting) (n : ℕ) (genes : List ℕ) (count : ℕ) (allowed scores splits : List ℕ) where
  pub accepted : (verdict (search_tests rooting n genes count allowed scores splits)).number ≡ 0 → Accepted rooting n genes count allowed scores splits
  unfolding search_tests species_test count_test length_test records_test rooting_test allowed_test
  accepted e =
      let a = verdict-passed _ _ (λ z. omega arith) e in
      let b = verdict-passed _ _ (λ z. omega arith) a.1 in
      let c = verdict-passed _ _ (λ z. omega arith) b.1 in
      let d = verdict-passed _ _ (λ z. omega arith) c.1 in
      let f = verdict-passed _ _ (λ z. omega arith) d.1 in
      let g = verdict-passed _ _ (λ z. omega arith) f.1 in
      let h = verdict-passed _ _ (λ z. omega arith) g.1 in
      let u = verdict-passed _ _ (λ z. omega arith) h.1 in
      let k = verdict-passed _ _ (λ z. omega arith) u.1 in
      let species = both (leb 1 n) (leb n 16) a.0 in
      let trees = both (leb 1 count) (leb count 4096) b.0 in
      let few = leb-true n 16 species.1 in
      record {
        in_order = record {
          shaped = record {
            some_species = leb-true 1 n species.0;
            few_species = few;
            some_genes = leb-true 1 count trees.0;
            few_genes = leb-true count 4096 trees.1;
            fits = ltb-false (length genes) (32 * count) c.0;
          };
          valid = none_bad n (records_in count genes) few (ltb-false (first_bad n (records_in count genes)) (length (records_in count genes)) h.0);
          enter = none_unresolved rooting n (records_in count genes) u.0;
        };
        allowed_fits = ltb-false (length allowed) (2 ^ n) d.0;
        scores_fit = ltb-false (length scores) (2 ^ n) f.0;
        splits_fit = ltb-false (length splits) (2 ^ n) g.0;
        allowed_bytes = strange_none n allowed (ltb-false (first_strange n allowed) (2 ^ n) k.0);
      }

  pub accepts : Accepted rooting n genes count allowed scores splits → (verdict (search_tests rooting n genes count allowed scores splits)).number ≡ 0
  unfolding search_tests species_test count_test length_test records_test rooting_test allowed_test verdict
  accepts a =
      let s = a.in_order.shaped in
      rw (
        le-leb 1 n s.some_species,
        le-leb n 16 s.few_species,
        le-leb 1 count s.some_genes,
        le-leb count 4096 s.few_genes,
        le-ltb (length genes) (32 * count) s.fits,
        le-ltb (length allowed) (2 ^ n) a.allowed_fits,
        le-ltb (length scores) (2 ^ n) a.scores_fit,
        le-ltb (length splits) (2 ^ n) a.splits_fit,
        le-ltb (first_bad n (records_in count genes)) (length (records_in count genes)) (let e = all_valid_none_bad n (records_in count genes) s.few_species a.in_order.valid in omega arith),
        all_resolved rooting n (records_in count genes) a.in_order.enter,
        le-ltb (first_strange n allowed) (2 ^ n) (none_strange n allowed a.allowed_bytes),
      )

  -- another number is given by none of these tests
  pub none_gives : (m : ℕ) → is_of_tests m ≡ false → NoneGives m (search_tests rooting n genes count allowed scores splits)
  unfolding search_tests species_test count_test length_test records_test rooting_test allowed_test NoneGives
  none_gives m off =
      let twelve = other 12 refl in
      (other 1 refl, (other 11 refl, (twelve, (twelve, (twelve, (twelve, (other 15 refl, (other 19 refl, (other 13 refl, tt)))))))))
    where
      other : (k : ℕ) → is_of_tests k ≡ true → k ≡ m → ⊥
      other k is e = true≢false (sym is ∙ ap is_of_tests e ∙ off)

  -- 14 comes from the search alone
  pub no_fourteen : (verdict (search_tests rooting n genes count allowed scores splits)).number ≡ 14 → ⊥
  no_fourteen = verdict-never 14 (search_tests rooting n genes count allowed scores splits) (λ z. omega arith) (none_gives 14 refl)
