-- The best tree so far: once one more tree was added or passed over, once all were visited, and the answer that says it.
use Prim.Native.Nat.{ℕ, ◌+◌, ◌^◌, ◌≤◌, ◌<◌}
use mathlib.Core.Path.{◌≡◌, refl, sym, ap, ap₂, ◌∙◌, subst}
use mathlib.Core.Bool.{Bool, true, false}
use mathlib.Core.Option.{Option, some, none}
use mathlib.Core.List.{List, [], ◌∷◌, ◌++◌}
use native.Mathlib.Numerals.{add-one}
use native.Mathlib.Omega.{arith}
use lib.ListN.{length, take, get_or}
use lib.Seq.{take-suc, take_all}
use Rattle.clusters.specs.Sets.{whole, size}
use Rattle.clusters.proofs.Sets.{whole_some, below_of_within}
use Rattle.clusters.proofs.Sizes.{size_some}
use Rattle.trees.specs.Lists.{Among}
use Rattle.trees.specs.Valid.{every}
use Rattle.trees.specs.Records.{listed, record_of, records_in, SpeciesValid}
use Rattle.trees.proofs.Booleans.{never_both, unless}
use Rattle.trees.proofs.Bounds.{whole_below_sixteen}
use Rattle.trees.proofs.Places.{at_among, among_at}
use Rattle.trees.proofs.Recorded.{among_record, record_among}
use Rattle.trees.proofs.ValidTest.{Tells, tells_every}
use Rattle.weights.specs.Count.{weight, score}
use Rattle.weights.specs.declared.Rooting.{Rooting}
use Rattle.weights.proofs.Joining.{tells_same}
use Rattle.terms.specs.Allowed.{allowed_in}
use Rattle.std.specs.Prelude.{Option as Maybe, Some, None, Ok, IfSome}
use Rattle.terms.specs.Answers.{without, found_to}
use Rattle.splits.specs.BinaryTrees.{Binary, clusters_in, trees_on}
use Rattle.splits.specs.BinaryTrees.Binary.{tip}
use Rattle.splits.specs.Least.{those, score_of, trees_over, least_trees, first, best}
use Rattle.splits.specs.Best.{best_for, found_by}
use Rattle.splits.proofs.FirstLeast.{pick, pick_none, pick_first, pick_second, pick_all, pick_all_append, gate_by, pick_all-those, first-least}
use Rattle.splits.proofs.OverAllowed.{over}
use Rattle.splits.proofs.RecordsOfTrees.{score_of_record, listed-valid}
use Rattle.splits.proofs.TreeCounts.{trees-counted, tree_count_few, tree_count-mono}
use Rattle.plain.specs.Numbering.{tree_of}
use Rattle.plain.specs.Work.{Numbered, Kept, Keeps, KeepsLeast, Adds, BestOfFirst}
use Rattle.plain.specs.declared.Best.{Best}

-- ---- the first least of some trees and one behind them

-- the choice among some trees and one behind them
choice_behind : (s : Binary → ℕ) (f : Binary → Option Binary) (ts : List Binary) (t : Binary) → pick_all s f (ts ++ (t ∷ [])) ≡ pick s (pick_all s f ts) (f t)
unfolding pick_all
choice_behind s f ts t = pick_all_append s f ts (t ∷ []) ∙ ap (pick s (pick_all s f ts)) (pick_none s (f t))

module _ (w : ℕ → ℕ) where
  first_behind : (ts : List Binary) (t : Binary) → first (least_trees w (ts ++ (t ∷ []))) ≡ pick (score_of w) (first (least_trees w ts)) (some t)
  first_behind ts t = rw (first-least w (ts ++ (t ∷ [])), first-least w ts) (choice_behind (score_of w) (λ u. some u) ts t)

  -- of those that pass a test
  first_tested :
      (test : Binary → Bool) (ts : List Binary) (t : Binary)
      → first (least_trees w (those test (ts ++ (t ∷ [])))) ≡ pick (score_of w) (first (least_trees w (those test ts))) (gate_by (test t) t)
  first_tested test ts t = rw (gated (ts ++ (t ∷ [])), gated ts) (choice_behind (score_of w) (λ u. gate_by (test u) u) ts t)
    where
      gated : (l : List Binary) → first (least_trees w (those test l)) ≡ pick_all (score_of w) (λ u. gate_by (test u) u) l
      gated l = first-least w (those test l) ∙ pick_all-those (score_of w) test l

-- ---- one tree added

module _ (score number : ℕ) where
  -- the best so far stays where it scores no more
  pub stays : (b : Best) → b.score ≤ score → Adds (Some b) score number (Some b)
  unfolding Adds KeepsLeast
  stays b no_more w a ts among scored kept = rw (first_behind w ts (tree_of a number)) (go (first (least_trees w ts)) kept)
    where
      go : (o : Option Binary) → Keeps w a o (Some b) → Keeps w a (pick (score_of w) o (some (tree_of a number))) (Some b)
      go none k = absurd k
      go (some u) k = rw (pick_first (score_of w) u (tree_of a number) (omega (arith, k.score))) k

  -- else the tree is the best: there was none before, or it scores less
  pub taken : (b : Maybe Best) → IfSome b (λ held. score < held.score) → Adds b score number (Some (record { score = score; number = number }))
  unfolding Adds KeepsLeast pick
  taken b less w a ts among scored kept = rw (first_behind w ts (tree_of a number)) (go (first (least_trees w ts)) b less kept)
    where
      this : Kept w a (tree_of a number) (record { score = score; number = number })
      this = record { score = scored; among = among; tree = refl }

      go : (o : Option Binary) (b : Maybe Best) → IfSome b (λ held. score < held.score) → Keeps w a o b
          → Keeps w a (pick (score_of w) o (some (tree_of a number))) (Some (record { score = score; number = number }))
      go none b l k = this
      go (some u) None l k = absurd k
      go (some u) (Some held) l k = rw (pick_second (score_of w) u (tree_of a number) (omega (arith, k.score))) this

-- ---- one tree visited

-- a list of allowed clusters
pub tells_allowed : (ok : ℕ → Bool) (l : List ℕ) → Tells (every ok l) ((x : ℕ) → Among x l → ok x ≡ true)
tells_allowed ok l = tells_every ok l (λ x. record { holds = λ e. e; told = λ e. e })

-- the clusters that a valid record lists, one after the other
module _ (n : ℕ) {tree l : List ℕ} (valid : SpeciesValid n tree) (e : l ≡ listed tree) where
  pub cluster_below : (k : ℕ) → k < length l → get_or l k 0 < 2 ^ n
  cluster_below k h = below_of_within n (valid.inside (get_or l k 0) (subst (λ m. Among (get_or l k 0) m) e (at_among l 0 k h))).1

  pub all_allowed : (ok : ℕ → Bool) → ((k : ℕ) → k < length l → ok (get_or l k 0) ≡ true) → true ≡ every ok (listed tree)
  all_allowed ok all = sym ((tells_allowed ok (listed tree)).told (λ x m. let at = among_at 0 (subst (λ k. Among x k) (sym e) m) in subst (λ y. ok y ≡ true) at.there (all at.place at.before_end)))

  pub one_refused : (ok : ℕ → Bool) (k : ℕ) → k < length l → ok (get_or l k 0) ≡ false → false ≡ every ok (listed tree)
  one_refused ok k h refuse =
      sym (unless (every ok (listed tree)) (λ all. never_both (ok (get_or l k 0))
      ((tells_allowed ok (listed tree)).holds all (get_or l k 0) (subst (λ m. Among (get_or l k 0) m) e (at_among l 0 k h))) refuse))

-- the record of a tree has its clusters, and its score
module _ (t : Binary) {numbers : List ℕ} (recorded : numbers ≡ record_of (clusters_in t)) where
  pub over_told : (ok : ℕ → Bool) → every ok (listed numbers) ≡ over ok t
  over_told ok =
      rw recorded
      (tells_same (tells_allowed ok (listed (record_of (clusters_in t)))) (tells_allowed ok (clusters_in t))
      (λ all x m. all x (record_among 16 (clusters_in t) m))
      (λ all x m. all x (among_record 16 (clusters_in t) m)))

  pub score-told : (rooting : Rooting) (genes : List (List ℕ)) → score rooting genes numbers ≡ score_of (weight rooting genes) t
  score-told rooting genes = ap (score rooting genes) recorded ∙ score_of_record rooting genes t

-- a tree on n species by its number
pub numbered : (n k : ℕ) → 1 ≤ n → n ≤ 16 → k < length (trees_on (whole n)) → Numbered (whole n) k
numbered n k one few among = record { some = whole_some n one; few = whole_below_sixteen n few; among = among }

-- its record is valid
pub visited-valid :
    (n k : ℕ) {numbers : List ℕ} → n ≤ 16 → k < length (trees_on (whole n)) → numbers ≡ record_of (clusters_in (tree_of (whole n) k)) → SpeciesValid n numbers
unfolding tree_of
visited-valid n k few among recorded = rw recorded (listed-valid few (tree_of (whole n) k) (at_among (trees_on (whole n)) (tip (whole n)) k among))

-- one tree more
next_tree : (a k : ℕ) → k < length (trees_on a) → take (k + 1) (trees_on a) ≡ take k (trees_on a) ++ (tree_of a k ∷ [])
unfolding tree_of
next_tree a k l = ap (λ (j : ℕ). take j (trees_on a)) (add-one k) ∙ take-suc (trees_on a) k (tip a) l

module _ (rooting : Rooting) (n : ℕ) (genes : List ℕ) (count : ℕ) (allowed : List ℕ) where
  abbrev weighed : ℕ → ℕ
  weighed = weight rooting (records_in count genes)

  abbrev tested : Binary → Bool
  tested = over (allowed_in n allowed)

  -- of no trees, none is the best
  pub none_visited : BestOfFirst rooting n genes count allowed 0 None
  unfolding BestOfFirst those least_trees
  none_visited = tt

  module _ (k : ℕ) (b : Maybe Best) (among : k < length (trees_on (whole n))) (kept : BestOfFirst rooting n genes count allowed k b) where
    -- a tree over allowed clusters is added
    pub added : {score : ℕ} (r : Maybe Best) → over (allowed_in n allowed) (tree_of (whole n) k) ≡ true → score ≡ score_of weighed (tree_of (whole n) k)
        → Adds b score k r → BestOfFirst rooting n genes count allowed (k + 1) r
    unfolding BestOfFirst Adds
    added r e scored adds =
        let trees : List Binary = those tested (take k (trees_on (whole n))) in
        rw (next_tree (whole n) k among, first_tested weighed tested (take k (trees_on (whole n))) (tree_of (whole n) k), e)
        (rw (first_behind weighed trees (tree_of (whole n) k)) at (adds weighed (whole n) trees among scored kept))

    -- another is passed over
    pub passed_over : over (allowed_in n allowed) (tree_of (whole n) k) ≡ false → BestOfFirst rooting n genes count allowed (k + 1) b
    unfolding BestOfFirst
    passed_over e =
        rw (
          next_tree (whole n) k among,
          first_tested weighed tested (take k (trees_on (whole n))) (tree_of (whole n) k),
          e,
          pick_none (score_of weighed) (first (least_trees weighed (those tested (take k (trees_on (whole n)))))),
        )
        kept

  -- once all were visited, the best so far is the best of all
  pub best_of_all : (k : ℕ) (b : Maybe Best) → length (trees_on (whole n)) ≤ k → BestOfFirst rooting n genes count allowed k b
      → Keeps weighed (whole n) (best_for rooting n (records_in count genes) allowed (whole n)) b
  unfolding BestOfFirst best_for best trees_over
  best_of_all k b all kept = rw (take_all k (trees_on (whole n)) all) at kept

-- there is a tree on some species
pub some_tree : (n : ℕ) → 1 ≤ n → n ≤ 16 → 1 ≤ length (trees_on (whole n))
some_tree n one few =
    omega (
      arith,
      trees-counted (whole n) (let small = whole_below_sixteen n few in omega arith),
      tree_count-mono 1 (size (whole n)) (size_some (whole_some n one)),
      tree_count_few.0,
    )

-- ---- the answer

-- the tree that was found has a number
pub kept-numbered :
    (w : ℕ → ℕ) (n : ℕ) (t : Option Binary) (b : Maybe Best) → Keeps w (whole n) t b → 1 ≤ n → n ≤ 16 → IfSome b (λ held. Numbered (whole n) held.number)
unfolding Keeps
kept-numbered w n t None kept one few = tt
kept-numbered w n none (Some b) kept one few = absurd kept
kept-numbered w n (some t) (Some b) kept one few = numbered n b.number one few kept.among

module _ (rooting : Rooting) (n : ℕ) (genes : List (List ℕ)) where
  -- the answer of a tree that was found
  pub found-told :
      (t : Option Binary) (b : Best) {numbers : List ℕ} → Keeps (weight rooting genes) (whole n) t (Some b)
      → numbers ≡ record_of (clusters_in (tree_of (whole n) b.number))
      → found_to (Ok (record { score = b.score; numbers = numbers })) ≡ found_by rooting t genes
  unfolding Keeps
  found-told none b kept e = absurd kept
  found-told (some t) b kept e =
      ap₂ (λ (score : ℕ) (numbers : List ℕ). record { number = 0; place = 0; score = score; numbers = numbers })
      kept.score (e ∙ ap (λ (u : Binary). record_of (clusters_in u)) kept.tree)

  -- and of none
  pub none_told : (t : Option Binary) → Keeps (weight rooting genes) (whole n) t None → without 14 0 ≡ found_by rooting t genes
  unfolding Keeps
  none_told none kept = refl
  none_told (some t) kept = absurd kept
