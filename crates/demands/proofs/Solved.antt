-- What is known of an input whose gene trees the program searches: one for which it finds a tree, or says 14.
use Prim.Native.Nat.{ℕ, ◌≤◌}
use mathlib.Core.Path.{◌≡◌, refl, sym}
use mathlib.Core.Bool.{Bool, true, false}
use mathlib.Core.Option.{Option, some, none}
use mathlib.Core.List.{List, [], ◌∷◌}
use native.Mathlib.Omega.{arith}
use lib.ListN.{length, drop}
use lib.Dec.{leb}
use borrow.Author.Tests.{leb-true}
use Rattle.clusters.specs.Sets.{whole}
use Rattle.trees.specs.Records.{record_of}
use Rattle.roster.specs.Roster.{names, faulty}
use Rattle.roster.specs.Judged.{species_most}
use Rattle.weights.specs.declared.Rooting.{Rooting}
use Rattle.weights.specs.Count.{weight}
use Rattle.lineages.specs.Checks.{rooting_test}
use Rattle.splits.specs.BinaryTrees.{Binary, clusters_in}
use Rattle.splits.specs.Least.{score_of}
use Rattle.splits.specs.Best.{best_for, found_by}
use Rattle.search.specs.TiesPromise.{ties_for, with_ties}
use Rattle.reader.specs.Promise.{text_most}
use Rattle.gather.specs.GeneTrees.{Gathered, gather}
use Rattle.gather.specs.GeneTrees.Gathered.{gathered, stopped}
use Rattle.report.specs.Input.{first_line, behind_line, ends_in_feed, trees_place, mode_word}
use Rattle.report.specs.Program.{Mode}
use Rattle.std.proofs.Common.{Option as Optional, Some, None}
use Rattle.report.specs.Program.{mode_of, on_mode, on_feeds, on_species, on_roster, on_text, program}
use Rattle.outcomes.specs.Outcome.{Outcome, program_most, outcome_of, searched, allowed_by, tree_place, on_rooting, with_genes, on_trees}
use Rattle.outcomes.specs.Outcome.Outcome.{refused, solved}
use Rattle.demands.proofs.TreesFaults.{stopped-early}
use Rattle.demands.proofs.TwoLines.{ModeTold, mode-told}

pub refused-solved : {number place n m s t : ℕ} {r : List ℕ} → refused number place ≡ solved n m s t r → ⊥
refused-solved e = let z : ◌≡◌ {A = ℕ} 0 1 = cc in omega arith

-- ---- the search

-- the best tree on n species for these gene trees, and what is said of it
pub record Best (rooting : Rooting) (n : ℕ) (genes : List (List ℕ)) (allowed : List ℕ) (n' m s t : ℕ) (r : List ℕ) : Type 0 where
  pub tree : Binary
  pub is_best : best_for rooting n genes allowed (whole n) ≡ some tree
  pub species : n ≡ n'
  pub count : length genes ≡ m
  pub scored : score_of (weight rooting genes) tree ≡ s
  pub tied : ties_for rooting n genes allowed (whole n) ≡ t
  pub recorded : record_of (clusters_in tree) ≡ r

pub searched-best :
    (rooting : Rooting) (n : ℕ) (genes : List (List ℕ)) (allowed : List ℕ) {n' m s t : ℕ} {r : List ℕ}
    → searched rooting n genes allowed ≡ solved n' m s t r → Best rooting n genes allowed n' m s t r
unfolding searched
searched-best rooting n genes allowed {n'} {m} {s} {t} {r} e = go (best_for rooting n genes allowed (whole n)) refl e
  where
    go :
        (o : Option Binary) → best_for rooting n genes allowed (whole n) ≡ o
        → outcome_of (found_by rooting o genes).number n (length genes) (with_ties (found_by rooting o genes) (ties_for rooting n genes allowed (whole n)))
        ≡ solved n' m s t r → Best rooting n genes allowed n' m s t r
    go none b e = absurd (refused-solved e)
    go (some u) b e = record { tree = u; is_best = b; species = cc; count = cc; scored = cc; tied = cc; recorded = cc }

pub searched_none :
    (rooting : Rooting) (n : ℕ) (genes : List (List ℕ)) (allowed : List ℕ) {number place : ℕ} → searched rooting n genes allowed ≡ refused number place
    → best_for rooting n genes allowed (whole n) ≡ none
unfolding searched
searched_none rooting n genes allowed {number} {place} e = go (best_for rooting n genes allowed (whole n)) refl e
  where
    go :
        (o : Option Binary) → best_for rooting n genes allowed (whole n) ≡ o
        → outcome_of (found_by rooting o genes).number n (length genes) (with_ties (found_by rooting o genes) (ties_for rooting n genes allowed (whole n)))
        ≡ refused number place → best_for rooting n genes allowed (whole n) ≡ none
    go none b e = b
    go (some t) b e = absurd (refused-solved (sym e))

-- ---- the input

-- how many species the roster line names
abbrev pub species_in : List ℕ → ℕ
species_in input = length (names (first_line input))

-- an outcome that only the search gives: a tree, or 14
pub data Late : Outcome → Type 0 where
  a_tree : {n m s t : ℕ} {r : List ℕ} → Late (solved n m s t r)
  without_tree : {place : ℕ} → Late (refused 14 place)

early : {o : Outcome} {number place : ℕ} → Late o → (number ≡ 14 → ⊥) → refused number place ≡ o → ⊥
early a_tree f e = refused-solved e
early without_tree f e = f cc

-- each test before the search passed, and the search gave o
pub record Reached (input : List ℕ) (o : Outcome) : Type 0 where
  pub short : length input ≤ text_most
  pub good : faulty species_most (first_line input) ≡ false
  pub few : species_in input ≤ program_most
  pub first_feed : ends_in_feed input ≡ true
  pub second_feed : ends_in_feed (behind_line input) ≡ true
  pub all : Bool
  pub rooting : Rooting
  pub mode : first_line (behind_line input) ≡ mode_word all rooting
  pub genes : List (List ℕ)
  pub gathers : gather (first_line input) (drop (trees_place input) input) ≡ gathered genes
  pub some_genes : 1 ≤ length genes
  pub resolved : (rooting_test rooting (species_in input) genes).fault ≡ false
  pub result : searched rooting (species_in input) genes (allowed_by all rooting (species_in input) genes) ≡ o

module _ (input : List ℕ) {o : Outcome} (late : Late o) (short : length input ≤ text_most) (good : faulty species_most (first_line input) ≡ false)
    (few : species_in input ≤ program_most) (first : ends_in_feed input ≡ true) (second : ends_in_feed (behind_line input) ≡ true) where
  from_genes :
      (all : Bool) (rooting : Rooting) (genes : List (List ℕ)) (at : ℕ → ℕ) → first_line (behind_line input) ≡ mode_word all rooting
      → gather (first_line input) (drop (trees_place input) input) ≡ gathered genes → with_genes genes at all rooting (species_in input) ≡ o → Reached input o
  from_genes all rooting [] at mode g e = absurd (early late (λ k. omega arith) e)
  from_genes all rooting (x ∷ genes) at mode g e = go (rooting_test rooting (species_in input) (x ∷ genes)).fault refl e
    where
      go :
          (b : Bool) → (rooting_test rooting (species_in input) (x ∷ genes)).fault ≡ b
          → on_rooting b (at (rooting_test rooting (species_in input) (x ∷ genes)).place)
          (searched rooting (species_in input) (x ∷ genes) (allowed_by all rooting (species_in input) (x ∷ genes)))
          ≡ o → Reached input o
      go true is e = absurd (early late (λ k. omega arith) e)
      go false is e = record {
        short = short;
        good = good;
        few = few;
        first_feed = first;
        second_feed = second;
        all = all;
        rooting = rooting;
        mode = mode;
        genes = x ∷ genes;
        gathers = g;
        some_genes = omega arith;
        resolved = is;
        result = e;
      }

  from_trees :
      (all : Bool) (rooting : Rooting) (g : Gathered) → first_line (behind_line input) ≡ mode_word all rooting
      → gather (first_line input) (drop (trees_place input) input) ≡ g
      → on_trees g (first_line input) (drop (trees_place input) input) (trees_place input) all rooting (species_in input) ≡ o → Reached input o
  from_trees all rooting (stopped number place) mode g e = absurd (early late (stopped-early (first_line input) (drop (trees_place input) input) g) e)
  from_trees all rooting (gathered genes) mode g e =
      from_genes all rooting genes (tree_place (first_line input) (drop (trees_place input) input) (trees_place input)) mode g e

  from_mode : (mode : Optional Mode) → ModeTold (first_line (behind_line input)) mode → on_mode mode input ≡ o → Reached input o
  from_mode None told e = absurd (early late (λ k. omega arith) e)
  from_mode (Some (all, rooting)) told e = from_trees all rooting (gather (first_line input) (drop (trees_place input) input)) told refl e

pub program-reached : (input : List ℕ) {o : Outcome} → Late o → program input ≡ o → Reached input o
unfolding program
program-reached input {o} late = text (leb (length input) text_most) refl
  where
    feeds :
        (a b : Bool) → ends_in_feed input ≡ a → ends_in_feed (behind_line input) ≡ b → length input ≤ text_most → faulty species_most (first_line input) ≡ false
        → species_in input ≤ program_most → on_feeds a b input ≡ o → Reached input o
    feeds false b p q short good few e = absurd (early late (λ k. omega arith) e)
    feeds true false p q short good few e = absurd (early late (λ k. omega arith) e)
    feeds true true p q short good few e =
        from_mode input late short good few p q (mode_of (first_line (behind_line input))) (mode-told (first_line (behind_line input))) e

    few_species :
        (b : Bool) → leb (species_in input) program_most ≡ b → length input ≤ text_most → faulty species_most (first_line input) ≡ false
        → on_species b input ≡ o → Reached input o
    few_species true is short good e =
        feeds (ends_in_feed input) (ends_in_feed (behind_line input)) refl refl short good (leb-true (species_in input) program_most is) e
    few_species false is short good e = absurd (early late (λ k. omega arith) e)

    roster : (b : Bool) → faulty species_most (first_line input) ≡ b → length input ≤ text_most → on_roster b input ≡ o → Reached input o
    roster true is short e = absurd (early late (λ k. omega arith) e)
    roster false is short e = few_species (leb (species_in input) program_most) refl short is e

    text : (b : Bool) → leb (length input) text_most ≡ b → on_text b input ≡ o → Reached input o
    text true is e = roster (faulty species_most (first_line input)) refl (leb-true (length input) text_most is) e
    text false is e = absurd (early late (λ k. omega arith) e)
