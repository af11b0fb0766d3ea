-- The slow engine beside the search (#108): "every valid input gives the search's number, score and tree", and so the third demand for this call.
use Prim.Native.Nat.{ℕ, ◌-◌, ◌*◌, ◌^◌, ◌≤◌, ◌<◌}
use mathlib.Core.Path.{◌≡◌, refl, sym, ap, ◌∙◌, subst}
use mathlib.Core.Logic.{◌⊎◌, inl, inr, ◌↔◌}
use mathlib.Core.Bool.{true}
use mathlib.Core.List.{List, [], ◌∷◌}
use native.Mathlib.Decide.{ℕ_discrete, dec_lt, dec_le}
use native.Mathlib.Omega.{arith}
use lib.ListN.{length, get_or, take, replicate, length-replicate}
use borrow.Author.Tests.{le-ltb}
use Rattle.clusters.specs.Sets.{whole}
use Rattle.trees.specs.Lists.{Among, Sublist}
use Rattle.trees.specs.Records.{listed, SpeciesValid, BinaryOn, records_in}
use Rattle.roster.specs.Verdict.{Test, Verdict, verdict, length_test}
use Rattle.roster.specs.declared.Reply.{Reply}
use Rattle.weights.specs.Count.{score}
use Rattle.weights.specs.declared.Rooting.{Rooting}
use Rattle.lineages.specs.Checks.{records_test, rooting_test}
use Rattle.lineages.specs.InOrder.{Shaped}
use Rattle.lineages.specs.Promise.{Scores}
use Rattle.lineages.specs.Work.{shape_tests, said}
use Rattle.lineages.proofs.Calls.{genes_then}
use Rattle.lineages.proofs.Verdicts.{NoneGives, wrong_species, shape_at_0, shaped_at}
use Rattle.terms.specs.Allowed.{allowed_in, allowed_test}
use Rattle.terms.specs.Answers.{without, found_or}
use Rattle.terms.specs.declared.Found.{Found}
use Rattle.splits.specs.Best.{best_for, found_by}
use Rattle.plain.specs.Numbering.{Visits, CountTable}
use Rattle.plain.specs.Promise.{plain_test, plain_tests, FindsPlainly}
use Rattle.plain.specs.Work.{ShapeJudged}
use Rattle.plain.proofs.Visited.{roster-visited}
use Rattle.plain.proofs.Judging.{many_species as over-sixteen, over_seven, no_shape, short, plain-shape, long-told}
use Rattle.search.specs.Promise.{search_tests, Finds}
use Rattle.search.specs.Work.{LongEnough}
use Rattle.search.specs.Candidates.{Accepted, Candidate, EarlierRecord, SameAllowed}
use Rattle.search.proofs.Accepted.{none_gives}
use Rattle.search.proofs.Finding.{finds-shape, finds-short}
use Rattle.search.proofs.Unread.{same_outcome}
use Rattle.demands.specs.Sceptic.{PlainAccepted, Otherwise}
use Rattle.demands.specs.Sceptic.Otherwise.{eight_to_sixteen, table_too_short}
use Rattle.demands.proofs.OneOutcome.{find_once, plain-once}
use Rattle.demands.proofs.Refusals.{refused-ways, refused-never}
use Rattle.demands.proofs.FirstDemand.{replies_find}
use Rattle.demands.proofs.ThirdDemand.{returned-tree_is_allowed, returned-score_is_the_count, no_tree_scores_less, returned-tree_is_the_first}
use Rattle.demands.proofs.ThirdDemand.{told_none_exactly_when_none_exists, tree-returned_exactly_when_one_exists, allowing_more_clusters, adding_gene_trees}

-- "the trees visited are all binary trees on the roster, each once, as many as the table says" (#108)
pub trees-visited : {l : List ℕ} → CountTable l → (n : ℕ) → 1 ≤ n → n ≤ 7 → Visits (whole n) (get_or l (n - 1) 0)
trees-visited t n some few = roster-visited t n some (omega arith)

-- ---- what the engine says of a fault in shape

module _ (rooting : Rooting) (n : ℕ) (genes : List ℕ) (count : ℕ) (allowed : List ℕ) (q : Found) (plain : FindsPlainly rooting n genes count allowed q) where
  says : {number : ℕ} → ShapeJudged n genes count allowed (said number 0) → (number ≡ 0 → ⊥) → q ≡ without number 0
  says {number} judged f =
      plain-once rooting n genes count allowed q (without number 0) plain (plain-shape rooting n genes count allowed judged f refl)

  -- "17 at 0 for n over 7, in this call of the library too, straight after 1" (#108)
  pub seventeen : 7 < n → n ≤ 16 → q ≡ without 17 0
  seventeen l few = says (over_seven n genes count allowed few l) (λ z. omega arith)

  -- 12 is not among what is judged behind the lengths
  no_twelve : n ≤ 7 → Shaped n genes count → 2 ^ n ≤ length allowed → q.number ≡ 12 → ⊥
  unfolding records_test rooting_test allowed_test NoneGives
  no_twelve few shaped long is =
      let l : List Test = genes_then rooting n genes count (allowed_test n allowed ∷ []) in
      let tree = best_for rooting n (records_in count genes) allowed (whole n) in
      let told = ap (λ (v : Verdict). found_or v.number v.place (found_by rooting tree (records_in count genes)))
      (long-told rooting n genes count allowed (record { shaped = shaped; few = few; long = long })) in
      refused-never l 12 (λ z. omega arith) (λ z. omega arith) (λ z. omega arith, (λ z. omega arith, (λ z. omega arith, tt)))
      (refused-ways (verdict l) rooting tree (records_in count genes) q (plain.reply ∙ told) (λ z. omega arith)) is

-- ---- "every valid input gives the search's number, score and tree" (#108)

module _ (rooting : Rooting) (n : ℕ) (genes : List ℕ) (count : ℕ) (allowed scores splits : List ℕ) (r q : Found) (s p : List ℕ)
    (found : Finds rooting n genes count allowed scores splits r s p) (plain : FindsPlainly rooting n genes count allowed q) where
  same_verdict :
      n ≤ 7 → 2 ^ n ≤ length scores → 2 ^ n ≤ length splits
      → verdict (plain_tests rooting n genes count allowed) ≡ verdict (search_tests rooting n genes count allowed scores splits)
  unfolding plain_tests plain_test search_tests length_test verdict
  same_verdict few l m = rw (le-ltb 7 n few, le-ltb (length scores) (2 ^ n) l, le-ltb (length splits) (2 ^ n) m)

  -- for at most seven species and tables that are long enough the replies are equal, on faulty input too
  pub same_reply : n ≤ 7 → 2 ^ n ≤ length scores → 2 ^ n ≤ length splits → q ≡ r
  same_reply few l m =
      let tree = found_by rooting (best_for rooting n (records_in count genes) allowed (whole n)) (records_in count genes) in
      plain.reply ∙ ap (λ (v : Verdict). found_or v.number v.place tree) (same_verdict few l m) ∙ sym found.reply

  -- and so for input that the search accepts
  pub every-valid_input :
      Accepted rooting n genes count allowed scores splits → n ≤ 7 → (q.number ≡ r.number) × (q.score ≡ r.score) × (q.numbers ≡ r.numbers)
  every-valid_input a few =
      let e = same_reply few a.scores_fit a.splits_fit in
      (ap (λ (f : Found). f.number) e, ap (λ (f : Found). f.score) e, ap (λ (f : Found). f.numbers) e)

  -- ---- exactly when they differ

  search_says : {number : ℕ} → Finds rooting n genes count allowed scores splits (without number 0) scores splits → r ≡ without number 0
  search_says {number} f = (find_once rooting n genes count allowed scores splits r (without number 0) s scores p splits found f).0

  -- the search never says 17
  no_seventeen : r.number ≡ 17 → ⊥
  no_seventeen is =
      let l = search_tests rooting n genes count allowed scores splits in
      let tree = best_for rooting n (records_in count genes) allowed (whole n) in
      refused-never l 17 (λ z. omega arith) (λ z. omega arith) (none_gives rooting n genes count allowed scores splits 17 refl)
      (refused-ways (verdict l) rooting tree (records_in count genes) r found.reply (λ z. omega arith)) is

  -- 12 for a table of the search, where nothing that both judge before it is at fault: of the two only the search says it
  pub twelve_for_a_table :
      n ≤ 7 → Shaped n genes count → 2 ^ n ≤ length allowed → (length scores < 2 ^ n) ⊎ (length splits < 2 ^ n) → (r ≡ without 12 0) × (q.number ≡ 12 → ⊥)
  twelve_for_a_table few shaped long off =
      let only = no_twelve rooting n genes count allowed q plain few shaped long in
      (search_says (finds-short rooting n genes count allowed scores splits shaped (too_short off) refl refl refl), only)
    where
      too_short : (length scores < 2 ^ n) ⊎ (length splits < 2 ^ n) → LongEnough (2 ^ n) allowed scores splits → ⊥
      too_short (inl l) long = let h = long.scores_long in omega arith
      too_short (inr l) long = let h = long.splits_long in omega arith

  differ : Otherwise n genes count allowed scores splits → q ≡ r → ⊥
  differ (eight_to_sixteen l few) e =
      no_seventeen (sym (ap (λ (f : Found). f.number) e) ∙ ap (λ (f : Found). f.number) (seventeen rooting n genes count allowed q plain (omega arith) few))
  differ (table_too_short few shaped long off) e =
      let both = twelve_for_a_table few shaped long off in
      both.1 (ap (λ (f : Found). f.number) (e ∙ both.0))

  -- both say the same of n, count and the gene entries
  shape-alike : n ≤ 7 → ((verdict (shape_tests n genes count)).number ≡ 0 → ⊥) → q ≡ r
  shape-alike few f =
      let e = shape_at_0 n genes count in
      says rooting n genes count allowed q plain (no_shape n genes count allowed few e f) f
      ∙ sym (search_says (finds-shape rooting n genes count allowed scores splits e f refl refl refl))

  -- of n over 16
  many_alike : 16 < n → q ≡ r
  many_alike l =
      says rooting n genes count allowed q plain (over-sixteen n genes count allowed l) (λ z. omega arith)
      ∙ sym (search_says (finds-shape rooting n genes count allowed scores splits (wrong_species n genes count (inr (omega arith, l))) (λ z. omega arith) refl refl refl))

  -- and of the allowed set
  short-alike : n ≤ 7 → Shaped n genes count → length allowed < 2 ^ n → q ≡ r
  short-alike few shaped l =
      says rooting n genes count allowed q plain (short n genes count allowed few shaped l) (λ z. omega arith)
      ∙ sym (search_says (finds-short rooting n genes count allowed scores splits shaped (λ long. let h = long.allowed_long in omega arith) refl refl refl))

  -- the replies are equal exactly where neither 17 nor 12 for a table stands between them
  pub same_exactly : (q ≡ r) ↔ (Otherwise n genes count allowed scores splits → ⊥)
  same_exactly = (λ e o. differ o e, λ never. many (dec_lt 16 n) (dec_lt 7 n) never)
    where
      tables :
          n ≤ 7 → Shaped n genes count → 2 ^ n ≤ length allowed → Dec (2 ^ n ≤ length scores) → Dec (2 ^ n ≤ length splits)
          → (Otherwise n genes count allowed scores splits → ⊥) → q ≡ r
      tables few shaped long (yes l) (yes m) never = same_reply few l m
      tables few shaped long (no f) d never = absurd (never (table_too_short few shaped long (inl (omega (arith, f)))))
      tables few shaped long (yes l) (no f) never = absurd (never (table_too_short few shaped long (inr (omega (arith, f)))))

      entries : n ≤ 7 → Shaped n genes count → Dec (2 ^ n ≤ length allowed) → (Otherwise n genes count allowed scores splits → ⊥) → q ≡ r
      entries few shaped (yes long) never = tables few shaped long (dec_le (2 ^ n) (length scores)) (dec_le (2 ^ n) (length splits)) never
      entries few shaped (no f) never = short-alike few shaped (omega (arith, f))

      shape : n ≤ 7 → Dec ((verdict (shape_tests n genes count)).number ≡ 0) → (Otherwise n genes count allowed scores splits → ⊥) → q ≡ r
      shape few (yes z) never = entries few (shaped_at n genes count (shape_at_0 n genes count) z) (dec_le (2 ^ n) (length allowed)) never
      shape few (no f) never = shape-alike few f

      many : Dec (16 < n) → Dec (7 < n) → (Otherwise n genes count allowed scores splits → ⊥) → q ≡ r
      many (yes l) d never = many_alike l
      many (no f) (yes l) never = absurd (never (eight_to_sixteen (omega arith) (omega (arith, f))))
      many (no f) (no g) never = let few : n ≤ 7 = omega (arith, g) in shape few (ℕ_discrete (verdict (shape_tests n genes count)).number 0) never

-- ---- the third demand for this call: what is said of the search holds of it, since some search gives its reply

module _ (rooting : Rooting) (n : ℕ) (genes : List ℕ) (count : ℕ) (allowed : List ℕ) (q : Found) (plain : FindsPlainly rooting n genes count allowed q) where
  -- tables that are long enough
  lent : List ℕ
  lent = replicate (2 ^ n) 0

  long : 2 ^ n ≤ length lent
  unfolding lent
  long = omega (arith, length-replicate {0} {A = ℕ} (2 ^ n) 0)

  -- a tree, or that there is none, is said for at most seven species only
  few_species : (q.number ≡ 0) ⊎ (q.number ≡ 14) → n ≤ 7
  few_species d = go (dec_lt 16 n) (dec_lt 7 n) d
    where
      not_said : {k : ℕ} → (k ≡ 0 → ⊥) → (k ≡ 14 → ⊥) → q ≡ without k 0 → (q.number ≡ 0) ⊎ (q.number ≡ 14) → ⊥
      not_said f g e (inl z) = f (sym (ap (λ (r : Found). r.number) e) ∙ z)
      not_said f g e (inr z) = g (sym (ap (λ (r : Found). r.number) e) ∙ z)

      go : Dec (16 < n) → Dec (7 < n) → (q.number ≡ 0) ⊎ (q.number ≡ 14) → n ≤ 7
      go (yes l) e d =
          let one = says rooting n genes count allowed q plain (over-sixteen n genes count allowed l) (λ z. omega arith) in
          absurd (not_said (λ z. omega arith) (λ z. omega arith) one d)
      go (no f) (yes l) d = absurd (not_said (λ z. omega arith) (λ z. omega arith) (seventeen rooting n genes count allowed q plain l (omega (arith, f))) d)
      go (no f) (no g) d = omega (arith, g)

  module _ (few : n ≤ 7) where
    some_search : Found × List ℕ × List ℕ
    some_search = (replies_find rooting n genes count allowed lent lent).outcome

    as_searched_lem : Finds rooting n genes count allowed lent lent q some_search.1 some_search.2
    unfolding some_search
    as_searched_lem =
        let meets = (replies_find rooting n genes count allowed lent lent).meets in
        subst (λ (f : Found). Finds rooting n genes count allowed lent lent f some_search.1 some_search.2)
        (sym (same_reply rooting n genes count allowed lent lent some_search.0 q some_search.1 some_search.2 meets plain few long long)) meets

  -- what it accepts is what a search with long tables accepts
  accepted : n ≤ 7 → Accepted rooting n genes count allowed lent lent ↔ PlainAccepted rooting n genes count allowed
  accepted few = (
    λ a. record { few = few; in_order = a.in_order; allowed_fits = a.allowed_fits; allowed_bytes = a.allowed_bytes },
    λ a. record {
      in_order = a.in_order;
      allowed_fits = a.allowed_fits;
      scores_fit = long;
      splits_fit = long;
      allowed_bytes = a.allowed_bytes;
    },
  )

  pub plain-tree_is_allowed :
      q.number ≡ 0
      → SpeciesValid n q.numbers × BinaryOn (whole n) q.numbers × ((a : ℕ) → Among a (listed q.numbers) → allowed_in n allowed a ≡ true)
  plain-tree_is_allowed z = returned-tree_is_allowed rooting n genes count allowed lent lent q _ _ (as_searched_lem (few_species (inl z))) z

  pub plain-score_is_the_count : q.number ≡ 0 → (t : Reply) → Scores rooting n genes count q.numbers t → (t.number ≡ 0) × (t.value ≡ q.score)
  plain-score_is_the_count z = returned-score_is_the_count rooting n genes count allowed lent lent q _ _ (as_searched_lem (few_species (inl z))) z

  -- "no binary tree over them scores less"
  pub plain_no_tree_scores_less :
      q.number ≡ 0 → (c : List ℕ) → Candidate n allowed c → (t : Reply) → Scores rooting n genes count c t → (t.number ≡ 0) × (q.score ≤ t.value)
  plain_no_tree_scores_less z = no_tree_scores_less rooting n genes count allowed lent lent q _ _ (as_searched_lem (few_species (inl z))) z

  pub plain-tree_is_the_first :
      q.number ≡ 0 → (c : List ℕ) → Candidate n allowed c → score rooting (records_in count genes) c ≡ q.score
      → (q.numbers ≡ c) ⊎ EarlierRecord n q.numbers c
  plain-tree_is_the_first z = returned-tree_is_the_first rooting n genes count allowed lent lent q _ _ (as_searched_lem (few_species (inl z))) z

  -- "she is told there is none exactly when none exists"
  pub plain-told_none_exactly_when_none_exists :
      (q.number ≡ 14) ↔ (PlainAccepted rooting n genes count allowed × ((c : List ℕ) → Candidate n allowed c → ⊥))
  plain-told_none_exactly_when_none_exists = (
    λ z. let few = few_species (inr z) in
        let h = (told_none_exactly_when_none_exists rooting n genes count allowed lent lent q _ _ (as_searched_lem few)).0 z in
        ((accepted few).0 h.0, h.1),
    λ h. let few = h.0.few in
        (told_none_exactly_when_none_exists rooting n genes count allowed lent lent q _ _ (as_searched_lem few)).1 ((accepted few).1 h.0, h.1),
  )

  -- and a tree is returned exactly when one exists
  pub plain-tree-returned_exactly_when_one_exists :
      (q.number ≡ 0) ↔ (PlainAccepted rooting n genes count allowed × ((c : List ℕ) × Candidate n allowed c))
  plain-tree-returned_exactly_when_one_exists = (
    λ z. let few = few_species (inl z) in
        let h = (tree-returned_exactly_when_one_exists rooting n genes count allowed lent lent q _ _ (as_searched_lem few)).0 z in
        ((accepted few).0 h.0, h.1),
    λ h. let few = h.0.few in
        (tree-returned_exactly_when_one_exists rooting n genes count allowed lent lent q _ _ (as_searched_lem few)).1 ((accepted few).1 h.0, h.1),
  )

-- ---- the third demand: of two calls

-- "With the gene trees kept, allowing more clusters never loses an answer or raises its score."
pub plain_allowing_more_clusters :
    (rooting : Rooting) (n : ℕ) (genes : List ℕ) (count : ℕ) (allowed wider : List ℕ) (q r : Found)
    → FindsPlainly rooting n genes count allowed q → FindsPlainly rooting n genes count wider r
    → ((a : ℕ) → 1 ≤ a → a < 2 ^ n → allowed_in n allowed a ≡ true → allowed_in n wider a ≡ true) → PlainAccepted rooting n genes count wider
    → q.number ≡ 0 → (r.number ≡ 0) × (r.score ≤ q.score)
plain_allowing_more_clusters rooting n genes count allowed wider q r f g more a =
    allowing_more_clusters rooting n genes count allowed wider _ _ _ _ q r _ _ _ _ (as_searched_lem rooting n genes count allowed q f a.few)
    (as_searched_lem rooting n genes count wider r g a.few) more ((accepted rooting n genes count wider r g a.few).1 a)

-- "With the allowed set kept and all inside the limits, adding gene trees never lowers the score, nor changes whether there is a tree."
pub plain_adding_gene_trees :
    (rooting : Rooting) (n : ℕ) (genes more : List ℕ) (count count' : ℕ) (allowed : List ℕ) (q r : Found)
    → Sublist (records_in count genes) (records_in count' more) → FindsPlainly rooting n genes count allowed q → FindsPlainly rooting n more count' allowed r
    → PlainAccepted rooting n genes count allowed → PlainAccepted rooting n more count' allowed
    → (q.number ≡ r.number) × (q.score ≤ r.score)
plain_adding_gene_trees rooting n genes more count count' allowed q r sub f g a b =
    adding_gene_trees rooting n genes more count count' allowed _ _ _ _ q r _ _ _ _ sub (as_searched_lem rooting n genes count allowed q f a.few)
    (as_searched_lem rooting n more count' allowed r g b.few) ((accepted rooting n genes count allowed q f a.few).1 a)
    ((accepted rooting n more count' allowed r g b.few).1 b)

-- ---- "Entries beyond the need are not read", and "byte 0 has no meaning": calls that agree on the rest have one reply

module _ (rooting : Rooting) (n count : ℕ) (genes genes' allowed allowed' : List ℕ) (q r : Found)
    (same-genes : take (32 * count) genes ≡ take (32 * count) genes') (same_allowed : SameAllowed n allowed allowed')
    (f : FindsPlainly rooting n genes count allowed q) (g : FindsPlainly rooting n genes' count allowed' r) where
  pub plain-beyond_the_need : q ≡ r
  plain-beyond_the_need = go (dec_lt 16 n) (dec_lt 7 n)
    where
      fit : (2 ^ n ≤ length (lent rooting n genes count allowed q f)) ↔ (2 ^ n ≤ length (lent rooting n genes' count allowed' r g))
      fit = (λ h. long rooting n genes' count allowed' r g, λ h. long rooting n genes count allowed q f)

      go : Dec (16 < n) → Dec (7 < n) → q ≡ r
      go (yes l) e =
          says rooting n genes count allowed q f (over-sixteen n genes count allowed l) (λ z. omega arith)
          ∙ sym (says rooting n genes' count allowed' r g (over-sixteen n genes' count allowed' l) (λ z. omega arith))
      go (no h) (yes l) =
          seventeen rooting n genes count allowed q f l (omega (arith, h)) ∙ sym (seventeen rooting n genes' count allowed' r g l (omega (arith, h)))
      go (no h) (no k) =
          (same_outcome rooting n count genes genes' allowed allowed' _ _ _ _ same-genes same_allowed fit fit
          (as_searched_lem rooting n genes count allowed q f (omega (arith, k))) (as_searched_lem rooting n genes' count allowed' r g (omega (arith, k)))).0
