-- Lots of gene trees (#102), worked on three species: two lots whose whole reaches the sum, two whose whole does not, and two without a tree.
use Prim.Native.Nat.{ℕ, ◌*◌, ◌≤◌}
use mathlib.Core.Path.{◌≡◌, refl, ap, ◌∙◌}
use mathlib.Core.List.{List, [], ◌∷◌, ◌++◌}
use native.Mathlib.Omega.{arith}
use lib.Count.{ones, ones_in, count_trailing_zeros}
use lib.ListN.{length, take, replicate, length-append}
use lib.Seq.{take_at, drop_at, take_all}
use Rattle.clusters.specs.Sets.{whole, single, union, has, within, apart, size, lowest}
use Rattle.trees.specs.Drawn.{properly, maximal, placed, by_lowest, children}
use Rattle.trees.specs.Lists.{keep, some, insert, sorted, pieces, total, up_to}
use Rattle.trees.specs.Records.{record_of, record_for, records_in}
use Rattle.trees.specs.Valid.{every, among, rising, singles_from, nested, valid_for, valid_gene_for, binary}
use Rattle.roster.specs.Roster.{least}
use Rattle.roster.specs.Verdict.{verdict, length_test}
use Rattle.weights.specs.Count.{k_of, extra, weight, score}
use Rattle.weights.specs.declared.Rooting.TheVariants.{Rooted}
use Rattle.lineages.specs.Checks.{species_test, count_test, first_failing, records_test, rooting_test}
use Rattle.splits.specs.BinaryTrees.{clusters_in, is_low, lows, each, forks, trees_to, trees_on}
use Rattle.splits.specs.Least.{those, all, score_of, trees_over, least_trees, best}
use Rattle.terms.specs.Allowed.{allowed_in}
use Rattle.splits.specs.Best.{best_for, found_by}
use Rattle.terms.specs.declared.Found.{Found}
use Rattle.terms.specs.Allowed.{first_strange, allowed_test}
use Rattle.search.specs.Promise.{search_tests, Finds}
use Rattle.terms.specs.Answers.{found_or}
use Rattle.demands.specs.Lots.{Searched, Lent, LotsOf, LeastIn}
use Rattle.trees.specs.Lists.InAnyOrder.{nothing, put}
use Rattle.demands.proofs.Lots.{of_both, equal_exactly_when_least_for_both}
use Rattle.demands.proofs.SmallInputs.{ab_c, ac_b, every-cluster, no_cluster, only_bc, lent}

-- ---- what is replied

-- what the promise says of a search over three species
reply_to : List ℕ → ℕ → List ℕ → Found
reply_to genes count allowed =
    let tests = verdict (search_tests Rooted 3 genes count allowed lent lent) in
    found_or tests.number tests.place (found_by Rooted (best_for Rooted 3 (records_in count genes) allowed (whole 3)) (records_in count genes))

-- a tree with its score, and that there is none
abbrev tree : ℕ → List ℕ → Found
tree s numbers = record { number = 0; place = 0; score = s; numbers = numbers }

abbrev without_tree : Found
without_tree = record { number = 14; place = 0; score = 0; numbers = replicate 32 0 }

-- by computing: each tree alone, the first twice, both; both without allowed clusters, and with b and c together alone
replies :
    (reply_to ab_c 1 every-cluster ≡ tree 0 ab_c) × (reply_to ac_b 1 every-cluster ≡ tree 0 ac_b)
    × (reply_to (ab_c ++ ab_c) 2 every-cluster ≡ tree 0 ab_c)
    × (reply_to (ac_b ++ ab_c) 2 every-cluster ≡ tree 1 ab_c)
    × (reply_to ab_c 1 no_cluster ≡ without_tree)
    × (reply_to ac_b 1 no_cluster ≡ without_tree)
    × (reply_to (ac_b ++ ab_c) 2 no_cluster ≡ without_tree)
    × (reply_to ab_c 1 only_bc ≡ tree 1 (record_of (1 ∷ 2 ∷ 4 ∷ 6 ∷ 7 ∷ [])))
    × (reply_to ac_b 1 only_bc ≡ tree 1 (record_of (1 ∷ 2 ∷ 4 ∷ 6 ∷ 7 ∷ [])))
    × (reply_to (ac_b ++ ab_c) 2 only_bc ≡ tree 2 (record_of (1 ∷ 2 ∷ 4 ∷ 6 ∷ 7 ∷ [])))
unfolding ab_c ac_b every-cluster no_cluster only_bc lent reply_to rooting_test first_failing ones ones_in count_trailing_zeros whole single union has within
    apart size lowest keep some insert sorted
    record_for properly maximal placed by_lowest children every among rising singles_from nested valid_for valid_gene_for binary verdict length_test k_of extra total weight score
    pieces species_test count_test records_test up_to least clusters_in is_low lows each forks trees_to trees_on those all score_of trees_over least_trees
    best allowed_in first_strange allowed_test search_tests best_for
replies = (refl, refl, refl, refl, refl, refl, refl, refl, refl, refl)

-- ---- three searches

-- a search over three species that was made with these
pub call : {genes : List ℕ} {count : ℕ} {allowed : List ℕ} {r : Found} {s p : List ℕ} → Finds Rooted 3 genes count allowed lent lent r s p → Searched Rooted 3
call {genes} {count} {allowed} {r} {s} {p} f = record {
  genes = genes;
  count = count;
  allowed = allowed;
  scores = lent;
  splits = lent;
  reply = r;
  scores_after = s;
  splits_after = p;
  finds = f;
}

-- its reply is what the promise says: of a tree, its number and score
replied_so :
    {genes : List ℕ} {count : ℕ} {allowed : List ℕ} {r : Found} {s p : List ℕ} → Finds Rooted 3 genes count allowed lent lent r s p → r
    ≡ reply_to genes count allowed
unfolding reply_to
replied_so f = f.reply

scored :
    {genes : List ℕ} {count : ℕ} {allowed : List ℕ} {r : Found} {s p : List ℕ} {m : ℕ} {c : List ℕ} → Finds Rooted 3 genes count allowed lent lent r s p
    → reply_to genes count allowed ≡ tree m c → (r.number ≡ 0) × (r.score ≡ m)
scored f e = let told = replied_so f ∙ e in (ap (λ (r : Found). r.number) told, ap (λ (r : Found). r.score) told)

lent-enough :
    {genes : List ℕ} {count : ℕ} {allowed : List ℕ} {r : Found} {s p : List ℕ} (f : Finds Rooted 3 genes count allowed lent lent r s p)
    → length genes ≡ 32 * count → length allowed ≡ 8 → Lent (call f)
unfolding call lent
lent-enough f e b = record { genes_long = omega arith; allowed_long = omega arith; scores_long = omega arith; splits_long = omega arith }

-- a gene record alone, and two of them
alone : (g : List ℕ) → length g ≡ 32 → records_in 1 g ≡ g ∷ []
unfolding pieces
alone g e = rw (take_all 32 g (omega arith)) refl

in_one : (g h : List ℕ) → length g ≡ 32 → length h ≡ 32 → records_in 2 (g ++ h) ≡ g ∷ h ∷ []
unfolding pieces
in_one g h e k = rw (take_at g h 32 e, drop_at g h 32 e, take_all 32 h (omega arith)) refl

-- two lots of one gene tree each; the whole has the second one first
parted :
    (g h allowed : List ℕ) {r q w : Found} {s p s' p' s'' p'' : List ℕ} (first : Finds Rooted 3 g 1 allowed lent lent r s p)
    (second : Finds Rooted 3 h 1 allowed lent lent q s' p') (both : Finds Rooted 3 (h ++ g) 2 allowed lent lent w s'' p'')
    → length g ≡ 32 → length h ≡ 32 → length allowed ≡ 8 → LotsOf (call first ∷ call second ∷ []) (call both)
unfolding call each total
parted g h allowed first second both e k b = record {
  gathered = rw (alone g e, alone h k, in_one h g k e) (put (h ∷ []) [] (put [] [] nothing));
  one_allowed_set = of_both (call first) (call second) (λ (s : Searched Rooted 3). take 8 s.allowed ≡ take 8 allowed) refl refl;
  some_lot = omega arith;
  non_empty = of_both (call first) (call second) (λ (s : Searched Rooted 3). 1 ≤ s.count) (omega arith) (omega arith);
  inside_the_limit = omega arith;
  whole_lent = lent-enough both (omega (arith, length-append h g)) b;
  lots_lent = of_both (call first) (call second) (λ (s : Searched Rooted 3). Lent s) (lent-enough first e b) (lent-enough second k b);
}

sizes : (length ab_c ≡ 32) × (length ac_b ≡ 32) × (length every-cluster ≡ 8) × (length only_bc ≡ 8)
unfolding ab_c ac_b every-cluster only_bc record_for sorted insert
sizes = (refl, refl, refl, refl)

-- ---- the examples

-- `((a,b),c);` in both lots: the least scores are 0 and 0, the whole's is their sum, and some tree is least for both
pub lots_that_agree :
    {r q w : Found} {s p s' p' s'' p'' : List ℕ} (first : Finds Rooted 3 ab_c 1 every-cluster lent lent r s p)
    (second : Finds Rooted 3 ab_c 1 every-cluster lent lent q s' p') (both : Finds Rooted 3 (ab_c ++ ab_c) 2 every-cluster lent lent w s'' p'')
    → (r.score ≡ 0) × (q.score ≡ 0) × (w.score ≡ 0) × ((c : List ℕ) × LeastIn (call first) c × LeastIn (call second) c)
unfolding call
lots_that_agree first second both =
    let one = scored first replies.0 in
    let two = scored second replies.0 in
    let all = scored both replies.2 in
    let lots = parted ab_c ab_c every-cluster first second both sizes.0 sizes.0 sizes.2 in
    (one.1, two.1, all.1, (equal_exactly_when_least_for_both (call first) (call second) lots all.0).0 (omega arith))

-- `((a,b),c);` in one lot and `((a,c),b);` in the other, with b and c together allowed alone: the least scores are 1 and 1, the whole's is 2, their sum
pub lots_that_add_up :
    {r q w : Found} {s p s' p' s'' p'' : List ℕ} (first : Finds Rooted 3 ab_c 1 only_bc lent lent r s p)
    (second : Finds Rooted 3 ac_b 1 only_bc lent lent q s' p') (both : Finds Rooted 3 (ac_b ++ ab_c) 2 only_bc lent lent w s'' p'')
    → (r.score ≡ 1) × (q.score ≡ 1) × (w.score ≡ 2) × ((c : List ℕ) × LeastIn (call first) c × LeastIn (call second) c)
unfolding call
lots_that_add_up first second both =
    let one = scored first replies.7 in
    let two = scored second replies.8 in
    let all = scored both replies.9 in
    let lots = parted ab_c ac_b only_bc first second both sizes.0 sizes.1 sizes.3 in
    (one.1, two.1, all.1, (equal_exactly_when_least_for_both (call first) (call second) lots all.0).0 (omega arith))

-- `((a,b),c);` in one lot and `((a,c),b);` in the other: the least scores are 0 and 0, the whole's is 1, and no tree is least for both
pub lots_that_differ :
    {r q w : Found} {s p s' p' s'' p'' : List ℕ} (first : Finds Rooted 3 ab_c 1 every-cluster lent lent r s p)
    (second : Finds Rooted 3 ac_b 1 every-cluster lent lent q s' p') (both : Finds Rooted 3 (ac_b ++ ab_c) 2 every-cluster lent lent w s'' p'')
    → (r.score ≡ 0) × (q.score ≡ 0) × (w.score ≡ 1) × ((c : List ℕ) → LeastIn (call first) c → LeastIn (call second) c → ⊥)
unfolding call
lots_that_differ first second both =
    let one = scored first replies.0 in
    let two = scored second replies.1 in
    let all = scored both replies.3 in
    let lots = parted ab_c ac_b every-cluster first second both sizes.0 sizes.1 sizes.2 in (
      one.1,
      two.1,
      all.1,
      λ c l k. let e = (equal_exactly_when_least_for_both (call first) (call second) lots all.0).1 (c, l, k) in omega arith,
    )

-- without allowed clusters there is no tree on three species, and all three searches say so
pub lots_without_a_tree :
    {r q w : Found} {s p s' p' s'' p'' : List ℕ} → Finds Rooted 3 ab_c 1 no_cluster lent lent r s p
    → Finds Rooted 3 ac_b 1 no_cluster lent lent q s' p' → Finds Rooted 3 (ac_b ++ ab_c) 2 no_cluster lent lent w s'' p''
    → (r.number ≡ 14) × (q.number ≡ 14) × (w.number ≡ 14)
lots_without_a_tree first second both = (
  ap (λ (f : Found). f.number) (replied_so first ∙ replies.4),
  ap (λ (f : Found). f.number) (replied_so second ∙ replies.5),
  ap (λ (f : Found). f.number) (replied_so both ∙ replies.6),
)
