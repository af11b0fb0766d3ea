-- What the program finds, from the gene trees on, and how it is printed (01, "The program").
use Rattle.std.specs.Prelude.{ℕ, zero, suc, ◌+◌, ◌^◌, Bool, true, false, List, [], ◌∷◌, ◌++◌, length, replicate}
use Rattle.clusters.specs.Sets.{whole}
use Rattle.weights.specs.declared.Rooting.{Rooting}
use Rattle.lineages.specs.Checks.{rooting_test}
use Rattle.lineages.specs.Promise.{marks}
use Rattle.splits.specs.Best.{best_for, found_by}
use Rattle.search.specs.TiesPromise.{ties_for, with_ties}
use Rattle.search.specs.declared.tied.Tied.{Tied}
use Rattle.gather.specs.GeneTrees.{Gathered, begins_at}
use Rattle.gather.specs.GeneTrees.Gathered.{gathered, stopped}
use Rattle.printing.specs.Words.{taxa_text, genes_text, score_text, ties_text, newline, decimal}
use Rattle.printing.specs.Texts.{refusal_text}
use Rattle.texts.specs.Writing.{written}

-- a refusal with its number and place, or species, gene trees, score, ties and the record of the tree
pub data Outcome : Type 0 where
  refused : ℕ → ℕ → Outcome
  solved : ℕ → ℕ → ℕ → ℕ → List ℕ → Outcome

-- "program: 12"
abbrev pub program_most : ℕ
program_most = 12

-- what the search found: a tree, or 14
abbrev pub outcome_of : ℕ → ℕ → ℕ → Tied → Outcome
outcome_of zero n m found = solved n m found.score found.ties found.numbers
outcome_of (suc number) n m found = refused (suc number) found.place

-- what the search with its ties (#111) finds of these gene trees over this allowed set
abbrev pub found_with_ties : Rooting → ℕ → List (List ℕ) → List ℕ → Tied
found_with_ties rooting n genes allowed =
    with_ties (found_by rooting (best_for rooting n genes allowed (whole n)) genes) (ties_for rooting n genes allowed (whole n))

-- what the program finds of them
unfoldable pub searched : Rooting → ℕ → List (List ℕ) → List ℕ → Outcome
searched rooting n genes allowed = outcome_of (found_with_ties rooting n genes allowed).number n (length genes) (found_with_ties rooting n genes allowed)

-- the allowed clusters of a mode: `all` clusters, or those that the gene trees show
abbrev pub allowed_by : Bool → Rooting → ℕ → List (List ℕ) → List ℕ
allowed_by true rooting n genes = replicate (2 ^ n) 1
allowed_by false rooting n genes = marks rooting n genes

-- "Places are offsets in the input, the roster's included": the trees begin at shift, and the one of an index at "its first byte" (#106)
abbrev pub tree_place : List ℕ → List ℕ → ℕ → ℕ → ℕ
tree_place line trees shift i = shift + begins_at i line trees 0

-- "19 for an unresolved or incomplete tree, .. in the program its first byte" (#106)
abbrev pub on_rooting : Bool → ℕ → Outcome → Outcome
on_rooting true place outcome = refused 19 place
on_rooting false place outcome = outcome

-- "11 | gene trees 0": there is none; then 19, "after 11" (#106), where `at` says of an index where its tree begins
abbrev pub with_genes : List (List ℕ) → (ℕ → ℕ) → Bool → Rooting → ℕ → Outcome
with_genes [] at all rooting n = refused 11 0
with_genes (g ∷ l) at all rooting n =
    on_rooting (rooting_test rooting n (g ∷ l)).fault (at (rooting_test rooting n (g ∷ l)).place) (searched rooting n (g ∷ l) (allowed_by all rooting n (g ∷ l)))

-- what comes of the text `trees` of gene trees, which begins at shift
abbrev pub on_trees : Gathered → List ℕ → List ℕ → ℕ → Bool → Rooting → ℕ → Outcome
on_trees (stopped number place) line trees shift all rooting n = refused number (shift + place)
on_trees (gathered genes) line trees shift all rooting n = with_genes genes (λ i. tree_place line trees shift i) all rooting n

-- "prints species and gene trees read, the score, and the tree", and "after the score" how many trees have it, "as `ties` and the number" (#111);
-- "A refusal prints one line .. : the number and the place"
abbrev pub printed : List (List ℕ) → Outcome → List ℕ
printed ns (refused number place) = refusal_text number place
printed ns (solved n m score ties r) =
    taxa_text ++ decimal n ++ genes_text ++ decimal m ++ newline ++ score_text ++ decimal score ++ newline ++ ties_text ++ decimal ties ++ newline
    ++ written ns r
    ++ newline
