-- Reading with a threshold (#113): with a higher one no cluster comes back, no species tree's score rises, and so neither does the least score.
use Prim.Native.Nat.{ℕ, zero, suc, ◌*◌, ◌^◌, ◌≤◌}
use mathlib.Core.Path.{◌≡◌, refl, sym, ap, ◌∙◌}
use mathlib.Core.Logic.{◌⊎◌, inl, inr, ◌↔◌}
use mathlib.Core.List.Memᴰ
use mathlib.Core.List.{List, Memᴰ}
use native.Mathlib.Decide.{dec_le}
use native.Mathlib.Omega.{arith}
use lib.ListN.{length}
use borrow.Author.Tests.{le-leb, lt-leb}
use Rattle.trees.specs.Lists.{Among}
use Rattle.trees.specs.Records.{listed, records_in, AllValid, GeneValid}
use Rattle.trees.specs.Thinned.{Thinned, AllThinned}
use Rattle.trees.specs.Thinned.AllThinned.{no_records, beside}
use Rattle.trees.proofs.Lent.{length-records_in}
use Rattle.roster.specs.Roster.{names}
use Rattle.roster.specs.Verdict.{Verdict, verdict, reply_of}
use Rattle.roster.specs.declared.Reply.{Reply}
use Rattle.tokens.specs.Supports.{Threshold}
use Rattle.std.proofs.Common.{None, Some}
use Rattle.reader.specs.Promise.{Reads}
use Rattle.reader.specs.declared.Kind.{Kind}
use Rattle.reader.specs.declared.Kind.TheVariants.{Gene}
use Rattle.reader.specs.declared.Reading.{Reading}
use Rattle.reader.proofs.Replies.{read-gene-valid}
use Rattle.reader.proofs.ByThreshold.{higher_drops_more, given_drops}
use Rattle.weights.specs.Count.{score}
use Rattle.weights.proofs.Dropped.{score-never-rises}
use Rattle.weights.specs.declared.Rooting.TheVariants.{Rooted}
use Rattle.lineages.specs.Checks.{species_test, records_test, rooting_test, score_tests}
use Rattle.lineages.specs.Promise.{Scores}
use Rattle.lineages.proofs.FirstBad.{all_valid_none_bad}
use Rattle.terms.specs.declared.Found.{Found}
use Rattle.search.specs.Promise.{Finds}
use Rattle.search.proofs.Unread.{both_fit}
use Rattle.search.proofs.Dropped.{valid-fit, dropped_in_all_cases}
use Rattle.demands.specs.Thresholds.{Raised, TreeAt, AllRead, ReadTwice}
use Rattle.demands.specs.Thresholds.Raised.{from_none, no_lower}
use Rattle.demands.specs.Thresholds.AllRead.{none_left, one_read}
use Rattle.demands.proofs.OneOutcome.{read-once}
use Rattle.demands.proofs.Scorable.{scored_exactly}

-- ---- one text

-- one text read with a threshold and with a higher one: the second record has the same species, and fewer clusters or the same
thinned_by_higher :
    {threshold threshold' : Threshold} → Raised threshold threshold' → (kind : Kind) (line text : List ℕ) (start : ℕ) (r r' : Reading)
    → Reads kind threshold line text start r → Reads kind threshold' line text start r' → r.number ≡ 0 → r'.number ≡ 0 → Thinned r.numbers r'.numbers
thinned_by_higher (no_lower {m} {n} l) kind line text start r r' p p' z z' = (higher_drops_more kind line text start r r' m n l p p').numbers_thinned z
thinned_by_higher (from_none {threshold = Some amount}) kind line text start r r' p p' z z' =
    (given_drops kind line text start r r' amount p p' (λ e. omega arith)).numbers_thinned z
thinned_by_higher (from_none {threshold = None}) kind line text start r r' p p' z z' =
    let same = ap (λ (r : Reading). r.numbers) (read-once kind None line text start r r' p p') in
    record { same_species = rw same refl; fewer = λ x m. rw same m }

-- "a higher threshold never leaves a cluster that a lower one dropped" (#113): each cluster that is read with the higher one is read with the lower one
pub never-leaves_what_was_dropped :
    (threshold threshold' : Threshold) → Raised threshold threshold' → (kind : Kind) (line text : List ℕ) (start : ℕ) (r r' : Reading)
    → Reads kind threshold line text start r → Reads kind threshold' line text start r' → r.number ≡ 0 → r'.number ≡ 0
    → (x : ℕ) → Among x (listed r'.numbers) → Among x (listed r.numbers)
never-leaves_what_was_dropped threshold threshold' higher kind line text start r r' p p' z z' =
    (thinned_by_higher higher kind line text start r r' p p' z z').fewer

-- ---- the gene trees of a call

module _ {line : List ℕ} where
  -- what was read are valid gene records
  all_read_valid :
      {threshold : Threshold} {texts : List TreeAt} {genes : List (List ℕ)} → AllRead threshold line texts genes → AllValid (length (names line)) genes
  all_read_valid none_left g m = absurd (Memᴰ.not-nil m)
  all_read_valid {threshold} (one_read {at = at} {genes = genes} r p z later) g m = go (Memᴰ.cases_cons m) (λ k. all_read_valid later g k)
    where
      go : (g ≡ r.numbers) ⊎ Memᴰ g genes → (Memᴰ g genes → GeneValid (length (names line)) g) → GeneValid (length (names line)) g
      go (inl e) others = rw e (read-gene-valid threshold line at.text at.start r p z)
      go (inr k) others = others k

  -- read with a higher threshold, each is what is left of the one at its place
  all_thinned :
      {threshold threshold' : Threshold} {texts : List TreeAt} {genes genes' : List (List ℕ)} → Raised threshold threshold' → AllRead threshold line texts genes
      → AllRead threshold' line texts genes' → AllThinned genes genes'
  all_thinned higher none_left none_left = no_records
  all_thinned higher (one_read {at = at} r p z later) (one_read r' p' z' later') =
      beside (thinned_by_higher higher Gene line at.text at.start r r' p p' z z') (all_thinned higher later later')

module _ {threshold threshold' : Threshold} {line : List ℕ} {count : ℕ} {genes genes' : List ℕ}
    (twice : ReadTwice threshold threshold' line count genes genes') where
  -- the gene records of the second call are what is left of those of the first
  pub records_thinned : AllThinned (records_in count genes) (records_in count genes')
  records_thinned = all_thinned twice.raised twice.first twice.second

  first_valid : AllValid (length (names line)) (records_in count genes)
  first_valid = all_read_valid twice.first

  second-valid : AllValid (length (names line)) (records_in count genes')
  second-valid = all_read_valid twice.second

  module _ (species : List ℕ) where
    -- the checks of both calls say the same
    scored-alike : verdict (score_tests Rooted (length (names line)) genes count species) ≡ verdict (score_tests Rooted (length (names line)) genes' count species)
    unfolding score_tests species_test records_test rooting_test verdict
    scored-alike = go (dec_le (length (names line)) 16)
      where
        go : Dec (length (names line) ≤ 16)
            → verdict (score_tests Rooted (length (names line)) genes count species) ≡ verdict (score_tests Rooted (length (names line)) genes' count species)
        go (yes few) =
            rw (
              both_fit (32 * count) genes genes' (λ h. valid-fit count genes' second-valid, λ h. valid-fit count genes first_valid),
              all_valid_none_bad (length (names line)) (records_in count genes) few first_valid,
              all_valid_none_bad (length (names line)) (records_in count genes') few second-valid,
              length-records_in count genes,
              length-records_in count genes',
            )
        go (no many) = rw (le-leb 1 (length (names line)) (omega arith), lt-leb (length (names line)) 16 (omega arith))

    -- "with #101's count no species tree's score rises with the threshold" (#113): of two calls that score one species tree, the second by the gene trees as read
    -- with a higher threshold, both are refused alike or neither is, and the second score is not more
    pub no_score_rises :
        (r r' : Reply) → Scores Rooted (length (names line)) genes count species r → Scores Rooted (length (names line)) genes' count species r'
        → (r'.number ≡ r.number) × (r'.place ≡ r.place) × (r'.value ≤ r.value)
    unfolding Scores
    no_score_rises r r' p p' =
        let said : Verdict = verdict (score_tests Rooted (length (names line)) genes count species) in
        go said.number said.place p (p' ∙ ap (λ (v : Verdict). reply_of v (score Rooted (records_in count genes') species)) (sym scored-alike))
      where
        go :
            (k q : ℕ) → r ≡ reply_of (record { number = k; place = q }) (score Rooted (records_in count genes) species)
            → r' ≡ reply_of (record { number = k; place = q }) (score Rooted (records_in count genes') species)
            → (r'.number ≡ r.number) × (r'.place ≡ r.place) × (r'.value ≤ r.value)
        go zero q e e' =
            let h = (scored_exactly Rooted (length (names line)) genes count species r p).0 (ap (λ (r : Reply). r.number) e) in
            let less = score-never-rises h.in_order.shaped.few_species first_valid second-valid records_thinned species in
            rw (e, e') (refl, refl, less)
        go (suc k) q e e' = rw (e, e') (refl, refl, omega arith)

  -- so over one allowed set: whether there is a binary tree does not change, and the least score never rises with the threshold;
  -- both searches are refused alike or neither is, where their tables are lent long enough in both or in neither
  pub no_least_score_rises :
      {allowed scores splits scores' splits' : List ℕ} {r r' : Found} {s p s' p' : List ℕ}
      → (2 ^ length (names line) ≤ length scores) ↔ (2 ^ length (names line) ≤ length scores')
      → (2 ^ length (names line) ≤ length splits) ↔ (2 ^ length (names line) ≤ length splits')
      → Finds Rooted (length (names line)) genes count allowed scores splits r s p
      → Finds Rooted (length (names line)) genes' count allowed scores' splits' r' s' p'
      → (r'.number ≡ r.number) × (r'.place ≡ r.place) × (r'.score ≤ r.score)
  no_least_score_rises scores-alike splits-alike f f' =
      dropped_in_all_cases records_thinned (record { valid = first_valid; valid' = second-valid; scores_fit = scores-alike; splits_fit = splits-alike }) f f'
