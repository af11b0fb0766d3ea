-- Which inputs the program solves: exactly those that hold what they should, and whose mode allows some binary tree.
use Prim.Native.Nat.{ℕ, ◌≤◌}
use mathlib.Core.Path.{◌≡◌, refl, sym, ap, ap₂, ◌∙◌, subst}
use mathlib.Core.Logic.{◌↔◌}
use mathlib.Core.Bool.{Bool, true, false}
use mathlib.Core.Option.{Option, some, none}
use mathlib.Core.List.{List, [], ◌∷◌, ◌++◌, map}
use native.Mathlib.Omega.{arith}
use lib.ListN.{length, get_or, drop, length-map}
use borrow.Author.Tests.{le-leb}
use Rattle.clusters.specs.Sets.{whole}
use Rattle.trees.specs.Tree.{Tree, clusters}
use Rattle.trees.specs.Records.{record_of}
use Rattle.roster.specs.Roster.{names, faulty}
use Rattle.roster.specs.Judged.{species_most}
use Rattle.weights.specs.declared.Rooting.{Rooting}
use Rattle.weights.specs.Count.{weight}
use Rattle.lineages.specs.Checks.{rooting_test}
use Rattle.lineages.proofs.FirstBad.{all_resolved}
use Rattle.splits.specs.BinaryTrees.{Binary, clusters_in}
use Rattle.splits.specs.Least.{score_of}
use Rattle.splits.specs.Best.{best_for}
use Rattle.search.specs.TiesPromise.{ties_for}
use Rattle.search.proofs.Demand.{found-answers, none_competes}
use Rattle.reader.specs.Promise.{text_most}
use Rattle.gather.specs.GeneTrees.{Gathered, gather}
use Rattle.gather.specs.GeneTrees.Gathered.{gathered}
use Rattle.report.specs.Input.{first_line, behind_line, ends_in_feed, trees_place, mode_word}
use Rattle.std.proofs.Common.{Some}
use Rattle.report.specs.Program.{on_mode, program}
use Rattle.outcomes.specs.Outcome.{Outcome, program_most, searched, allowed_by, tree_place, with_genes, on_trees, printed}
use Rattle.outcomes.specs.Outcome.Outcome.{refused, solved}
use Rattle.report.specs.Promise.{output}
use Rattle.demands.specs.GeneTrees.{RecordsOf}
use Rattle.demands.specs.Input.{Holds}
use Rattle.demands.specs.Signed.{Eligible, Solvable, Unsolvable}
use Rattle.demands.proofs.GeneTrees.{trees-enter}
use Rattle.demands.proofs.Gathering.{standing_records, gathers_standing}
use Rattle.demands.proofs.TwoLines.{good-line, mode-line, mode_of_word, line_first, line-behind, line_feed_there, trees-behind}
use Rattle.demands.proofs.Solved.{searched_none, species_in, program-reached}
use Rattle.demands.proofs.Solved.Late.{without_tree}
use Rattle.demands.proofs.Signed.{eligible-competes, competitor-eligible, gathered-trees, input_holds, signed, printed-solved}

-- ---- the input taken apart

module _ {input line : List ℕ} {all : Bool} {rooting : Rooting} {trees : List Tree} (h : Holds input line all rooting trees) where
  abbrev rest : List ℕ
  rest = mode_word all rooting ++ (10 ∷ h.text)

  -- its first line is the roster's
  pub first : first_line input ≡ line
  first = ap first_line h.parts ∙ line_first line rest (good-line line h.roster_good)

  behind : behind_line input ≡ rest
  behind = ap behind_line h.parts ∙ line-behind line rest (good-line line h.roster_good)

  second : first_line (behind_line input) ≡ mode_word all rooting
  second = ap first_line behind ∙ line_first (mode_word all rooting) h.text (mode-line all rooting)

  first_feed : ends_in_feed input ≡ true
  first_feed = ap ends_in_feed h.parts ∙ line_feed_there line rest (good-line line h.roster_good)

  second_feed : ends_in_feed (behind_line input) ≡ true
  second_feed = ap ends_in_feed behind ∙ line_feed_there (mode_word all rooting) h.text (mode-line all rooting)

  text_there : drop (trees_place input) input ≡ h.text
  text_there = trees-behind input ∙ ap behind_line behind ∙ line-behind (mode_word all rooting) h.text (mode-line all rooting)

  -- the records of the gene trees
  abbrev genes : List (List ℕ)
  genes = map (λ (t : Tree). record_of (clusters t)) trees

  records : RecordsOf (length (names line)) genes trees
  records = standing_records h.stand

  gathers : gather (first_line input) (drop (trees_place input) input) ≡ gathered genes
  gathers = rw (first, text_there) (gathers_standing line h.text h.stand h.few_trees)

  -- each test passes, up to the mode word
  few : length (names (first_line input)) ≤ program_most
  few = subst (λ (l : List ℕ). length (names l) ≤ program_most) (sym first) h.few_species

  good : faulty species_most (first_line input) ≡ false
  good = ap (faulty species_most) first ∙ h.roster_good

  to_mode : program input ≡ on_mode (Some (all, rooting)) input
  unfolding program
  to_mode =
      rw (
        le-leb (length input) text_most h.short,
        good,
        le-leb (length (names (first_line input))) program_most few,
        first_feed,
        second_feed,
        second,
        mode_of_word all rooting,
      ) refl

  few_enough : length (names line) ≤ 16
  few_enough = let k = h.few_species in omega arith

  -- the gene trees may be counted by the rooting
  resolved : (rooting_test rooting (length (names line)) genes).fault ≡ false
  unfolding rooting_test
  resolved = all_resolved rooting (length (names line)) genes (λ u. (trees-enter few_enough records).1 (h.enter u))

  -- and they are searched
  pub searches : program input ≡ searched rooting (length (names line)) genes (allowed_by all rooting (length (names line)) genes)
  searches =
      to_mode
      ∙ ap₂ (λ (g : Gathered) (n : ℕ). on_trees g (first_line input) (drop (trees_place input) input) (trees_place input) all rooting n) gathers
      (ap (λ (l : List ℕ). length (names l)) first)
      ∙ go trees h.some_trees (tree_place (first_line input) (drop (trees_place input) input) (trees_place input)) resolved
    where
      go :
          (trees : List Tree) → 1 ≤ length trees → (at : ℕ → ℕ) → let n = length (names line) in
          let genes = map (λ (t : Tree). record_of (clusters t)) trees in
          (rooting_test rooting n genes).fault ≡ false → with_genes genes at all rooting n ≡ searched rooting n genes (allowed_by all rooting n genes)
      go [] k at e = absurd (omega arith)
      go (t ∷ trees) k at e = rw e refl

  -- ---- what comes of it

  abbrev allowed : List ℕ
  allowed = allowed_by all rooting (length (names line)) genes

  abbrev found-tree : Option Binary
  found-tree = best_for rooting (length (names line)) genes allowed (whole (length (names line)))

  abbrev found-ties : ℕ
  found-ties = ties_for rooting (length (names line)) genes allowed (whole (length (names line)))

  found : (t : Binary) → found-tree ≡ some t
      → program input ≡ solved (length (names line)) (length trees) (score_of (weight rooting genes) t) found-ties (record_of (clusters_in t))
  unfolding searched
  found t b = searches ∙ rw (b, length-map trees (λ (t : Tree). record_of (clusters t))) refl

  missed : found-tree ≡ none → program input ≡ refused 14 0
  unfolding searched
  missed b = searches ∙ rw b refl

  missed-eligible : found-tree ≡ none → (c : List ℕ) → Eligible (length (names line)) all rooting trees c → ⊥
  missed-eligible b c e = none_competes rooting (length (names line)) genes allowed few_enough b c (eligible-competes all rooting records c e)

  found-eligible : (t : Binary) → found-tree ≡ some t → Eligible (length (names line)) all rooting trees (record_of (clusters_in t))
  found-eligible t b =
      competitor-eligible all rooting records (record_of (clusters_in t)) (found-answers rooting (length (names line)) genes allowed few_enough t b).competes

  solves :
      (c : List ℕ) → Eligible (length (names line)) all rooting trees c
      → (s : ℕ) × (r : List ℕ) × (program input ≡ solved (length (names line)) (length trees) s found-ties r)
  solves c e = go found-tree refl
    where
      go : (o : Option Binary) → found-tree ≡ o → (s : ℕ) × (r : List ℕ) × (program input ≡ solved (length (names line)) (length trees) s found-ties r)
      go (some t) b = (score_of (weight rooting genes) t, record_of (clusters_in t), found t b)
      go none b = absurd (missed-eligible b c e)

  says_none : ((c : List ℕ) → Eligible (length (names line)) all rooting trees c → ⊥) → program input ≡ refused 14 0
  says_none f = go found-tree refl
    where
      go : (o : Option Binary) → found-tree ≡ o → program input ≡ refused 14 0
      go (some t) b = absurd (f (record_of (clusters_in t)) (found-eligible t b))
      go none b = missed b

-- ---- the theorems

-- "prints species and gene trees read, the score, and the tree": exactly where there is one
pub solved_exactly : (input : List ℕ) → ((n : ℕ) × (m : ℕ) × (s : ℕ) × (t : ℕ) × (r : List ℕ) × (program input ≡ solved n m s t r)) ↔ Solvable input
solved_exactly input = (
  λ p. let q = signed input p.0 p.1 p.2 p.3 p.4 p.5 in record {
    line = q.line;
    all = q.all;
    rooting = q.rooting;
    trees = q.trees;
    holds = q.holds;
    tree = p.4;
    eligible = subst (λ (n : ℕ). Eligible n q.all q.rooting q.trees p.4) q.species q.reaches.eligible;
  },
  λ q. let z = solves q.holds q.tree q.eligible in
      (length (names q.line), length q.trees, z.0, found-ties q.holds, z.1, z.2),
)

-- "she is told there is none exactly when none exists"
pub none_exactly : (input : List ℕ) → (program input ≡ refused 14 0) ↔ Unsolvable input
none_exactly input = (
  λ p. let v = program-reached input without_tree p in record {
    line = first_line input;
    all = v.all;
    rooting = v.rooting;
    trees = (gathered-trees input v).trees;
    holds = input_holds input v;
    none = λ c e.
        none_competes v.rooting (species_in input) v.genes (allowed_by v.all v.rooting (species_in input) v.genes) (let k = v.few in omega arith)
        (searched_none v.rooting (species_in input) v.genes (allowed_by v.all v.rooting (species_in input) v.genes) v.result) c
        (eligible-competes v.all v.rooting (gathered-trees input v).records c e);
  },
  λ q. says_none q.holds q.none,
)

-- the four lines are printed exactly where there is such a tree
pub printed_exactly : (input : List ℕ) → (get_or (output input) 0 0 ≡ 116) ↔ Solvable input
unfolding output
printed_exactly input = (
  λ t. let q = printed-solved input t in (solved_exactly input).0 q,
  λ q. let z = (solved_exactly input).1 q in ap (λ (o : Outcome). get_or (printed (names (first_line input)) o) 0 0) z.5,
)
