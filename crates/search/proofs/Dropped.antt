-- Gene trees that lost clusters (#113): over one allowed set whether there is a tree does not change, and the least score never rises.
use Prim.Native.Nat.{ℕ, zero, suc, ◌*◌, ◌^◌, ◌≤◌, ◌<◌}
use mathlib.Core.Path.{◌≡◌, refl, sym, ap, ◌∙◌}
use mathlib.Core.Logic.{◌↔◌}
use mathlib.Core.Bool.{Bool, true, false, not, ◌&&◌}
use mathlib.Core.List.Memᴰ.{head as here}
use mathlib.Core.List.Memᴰ.{tail as there}
use mathlib.Core.List.{List, ◌∷◌}
use native.Mathlib.Decide.{dec_le}
use native.Mathlib.Omega.{arith}
use lib.Dec.{leb, ltb}
use lib.ListN.{length, take, drop, replicate, length-take, length-drop}
use borrow.Author.Tests.{lt-leb}
use Rattle.trees.specs.Records.{records_in, AllValid}
use Rattle.trees.specs.Lists.{pieces}
use Rattle.trees.specs.Thinned.{AllThinned}
use Rattle.trees.proofs.Lent.{length-records_in}
use Rattle.roster.specs.Verdict.{Test, Verdict, verdict}
use Rattle.lineages.specs.Checks.{species_test, records_test, rooting_test}
use Rattle.weights.proofs.Dropped.{score-never-rises}
use Rattle.terms.specs.declared.Found.{Found}
use Rattle.search.specs.Promise.{search_tests, Finds}
use Rattle.search.specs.Candidates.{Accepted}
use Rattle.lineages.proofs.FirstBad.{all_valid_none_bad}
use Rattle.search.proofs.Accepted.{accepted}
use Rattle.search.proofs.Demand.{Replied, replied, no_score_falls}
use Rattle.search.proofs.AnyWeights.RepliedBy.{answered, nothing}
use Rattle.search.proofs.Unread.{both_fit}
use Rattle.weights.specs.declared.Rooting.TheVariants.{Rooted}

module _ {n : ℕ} {genes : List ℕ} {count : ℕ} {allowed scores splits : List ℕ} {r : Found} {s p : List ℕ} (f : Finds Rooted n genes count allowed scores splits r s p) where
  -- an accepted call has place 0
  accepted-place : Accepted Rooted n genes count allowed scores splits → r.place ≡ 0
  accepted-place a = go (replied f a)
    where
      go : Replied Rooted n (records_in count genes) allowed r → r.place ≡ 0
      go (answered number place answer) = place
      go (nothing number place score numbers none) = place

  -- a refused one has the number and the place of the test that refuses, and score 0
  refused :
      (k : ℕ) → (verdict (search_tests Rooted n genes count allowed scores splits)).number ≡ suc k
      → r ≡ record { number = suc k; place = (verdict (search_tests Rooted n genes count allowed scores splits)).place; score = 0; numbers = replicate 32 0 }
  refused k e = rw e at f.reply

-- ---- two calls, over one allowed set, gene trees counted with their roots

module _ {n : ℕ} {genes genes' : List ℕ} {count : ℕ} {allowed scores splits scores' splits' : List ℕ} {r q : Found} {s p s' p' : List ℕ}
    (thinned : AllThinned (records_in count genes) (records_in count genes'))
    (f : Finds Rooted n genes count allowed scores splits r s p) (f' : Finds Rooted n genes' count allowed scores' splits' q s' p') where
  -- two calls that are accepted: whether there is a tree does not change, and the least score does not rise
  pub dropped-clusters : Accepted Rooted n genes count allowed scores splits → Accepted Rooted n genes' count allowed scores' splits'
      → (q.number ≡ r.number) × (q.score ≤ r.score)
  dropped-clusters a a' = no_score_falls (score-never-rises a.in_order.shaped.few_species a.in_order.valid a'.in_order.valid thinned) f' f a' a

  -- two calls of which the tests before the search say the same
  pub dropped-judged_the_same :
      verdict (search_tests Rooted n genes count allowed scores splits) ≡ verdict (search_tests Rooted n genes' count allowed scores' splits')
      → (q.number ≡ r.number) × (q.place ≡ r.place) × (q.score ≤ r.score)
  dropped-judged_the_same same = go (verdict (search_tests Rooted n genes count allowed scores splits)).number refl
    where
      number_same : (verdict (search_tests Rooted n genes count allowed scores splits)).number ≡ (verdict (search_tests Rooted n genes' count allowed scores' splits')).number
      number_same = ap (λ (v : Verdict). v.number) same

      go : (k : ℕ) → (verdict (search_tests Rooted n genes count allowed scores splits)).number ≡ k → (q.number ≡ r.number) × (q.place ≡ r.place) × (q.score ≤ r.score)
      go zero e =
          let a = accepted Rooted n genes count allowed scores splits e in
          let a' = accepted Rooted n genes' count allowed scores' splits' (sym number_same ∙ e) in
          let both = dropped-clusters a a' in
          (both.0, accepted-place f' a' ∙ sym (accepted-place f a), both.1)
      go (suc k) e =
          let x = refused f k e in
          let y = refused f' k (sym number_same ∙ e) in (
            ap (λ (z : Found). z.number) y ∙ sym (ap (λ (z : Found). z.number) x),
            ap (λ (z : Found). z.place) y ∙ sym (ap (λ (v : Verdict). v.place) same) ∙ sym (ap (λ (z : Found). z.place) x),
            omega (arith, ap (λ (z : Found). z.score) x, ap (λ (z : Found). z.score) y),
          )

-- ---- whatever is judged before the search

-- valid records are there whole
pub valid-fit : {n : ℕ} (count : ℕ) (genes : List ℕ) → AllValid n (records_in count genes) → 32 * count ≤ length genes
unfolding pieces
valid-fit zero genes v = omega arith
valid-fit (suc count) genes v =
    let first = (v (take 32 genes) (here refl)).valid.form.sized in
    omega (arith, length-take 32 genes, length-drop 32 genes, valid-fit count (drop 32 genes) (λ g m. v g (there m)))

-- a first test that finds a fault is all that counts
verdict-faulty : (t : Test) (l k : List Test) → t.fault ≡ true → verdict (t ∷ l) ≡ verdict (t ∷ k)
unfolding verdict
verdict-faulty t l k e = rw e refl

many_species : (n : ℕ) → 16 < n → (species_test n).fault ≡ true
unfolding species_test
many_species n h = rw (lt-leb n 16 h) (go (leb 1 n))
  where
    go : (b : Bool) → not (b && false) ≡ true
    go true = refl
    go false = refl

-- what the test of the records is where all are valid does not depend on them
valid-test : {n : ℕ} (count : ℕ) (genes : List ℕ) → n ≤ 16 → AllValid n (records_in count genes)
    → records_test n (records_in count genes) ≡ record { fault = ltb count count; number = 15; place = count }
unfolding records_test
valid-test {n} count genes few v = rw (all_valid_none_bad n (records_in count genes) few v, length-records_in count genes) refl

-- two calls, of one n, count and allowed set, that the tests before the search judge alike: all gene records are valid, and each table is long enough in both or in neither
pub record JudgedAlike (n count : ℕ) (genes genes' scores scores' splits splits' : List ℕ) : Type 0 where
  pub valid : AllValid n (records_in count genes)
  pub valid' : AllValid n (records_in count genes')
  pub scores_fit : (2 ^ n ≤ length scores) ↔ (2 ^ n ≤ length scores')
  pub splits_fit : (2 ^ n ≤ length splits) ↔ (2 ^ n ≤ length splits')

module _ (n count : ℕ) (genes genes' allowed scores scores' splits splits' : List ℕ) (alike : JudgedAlike n count genes genes' scores scores' splits splits') where
  judged_few : n ≤ 16 → verdict (search_tests Rooted n genes count allowed scores splits) ≡ verdict (search_tests Rooted n genes' count allowed scores' splits')
  unfolding search_tests verdict rooting_test
  judged_few few =
      rw (
        both_fit (32 * count) genes genes' (λ h. valid-fit count genes' alike.valid', λ h. valid-fit count genes alike.valid),
        both_fit (2 ^ n) scores scores' alike.scores_fit,
        both_fit (2 ^ n) splits splits' alike.splits_fit,
        valid-test count genes few alike.valid,
        valid-test count genes' few alike.valid',
      )

  judged-alike : verdict (search_tests Rooted n genes count allowed scores splits) ≡ verdict (search_tests Rooted n genes' count allowed scores' splits')
  unfolding search_tests
  judged-alike = go (dec_le n 16)
    where
      go : Dec (n ≤ 16) → verdict (search_tests Rooted n genes count allowed scores splits) ≡ verdict (search_tests Rooted n genes' count allowed scores' splits')
      go (yes few) = judged_few few
      go (no many) = verdict-faulty (species_test n) _ _ (many_species n (omega arith))

-- two calls with valid gene records, alike in all else that is judged: the same number and place in all cases, and no higher score
pub dropped_in_all_cases :
    {n : ℕ} {genes genes' : List ℕ} {count : ℕ} {allowed scores splits scores' splits' : List ℕ} {r q : Found} {s p s' p' : List ℕ}
    → AllThinned (records_in count genes) (records_in count genes') → JudgedAlike n count genes genes' scores scores' splits splits'
    → Finds Rooted n genes count allowed scores splits r s p → Finds Rooted n genes' count allowed scores' splits' q s' p'
    → (q.number ≡ r.number) × (q.place ≡ r.place) × (q.score ≤ r.score)
dropped_in_all_cases {n} {genes} {genes'} {count} {allowed} {scores} {splits} {scores'} {splits'} thinned alike f f' =
    dropped-judged_the_same thinned f f' (judged-alike n count genes genes' allowed scores scores' splits splits' alike)
