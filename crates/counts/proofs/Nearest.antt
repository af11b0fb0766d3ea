-- What goes with a yes (#114): the distance of the tree's score above the least one, and both tables as the search over all clusters fills them.
-- A refusal keeps them.
use Prim.Native.Nat.{ℕ, ◌+◌, ◌-◌, ◌≤◌}
use native.Mathlib.Omega.{arith}
use mathlib.Core.Path.{◌≡◌, refl, sym, ap, ◌∙◌}
use mathlib.Core.Logic.{◌↔◌}
use mathlib.Core.List.{List, []}
use lib.ListN.{length}
use Rattle.trees.specs.Tree.{clusters}
use Rattle.trees.specs.Records.{record_of, records_in}
use Rattle.roster.specs.Roster.{names}
use Rattle.roster.specs.Judged.{species_most}
use Rattle.roster.specs.declared.Reply.{Reply}
use Rattle.roster.proofs.Names.{names-count}
use Rattle.weights.specs.Count.{score}
use Rattle.weights.specs.declared.Rooting.TheVariants.{Rooted}
use Rattle.lineages.proofs.Calls.{refused-reply}
use Rattle.terms.specs.declared.Found.{Found}
use Rattle.search.specs.Candidates.{BinarySpecies}
use Rattle.search.specs.Promise.{Finds}
use Rattle.search.proofs.Demand.{finds-once}
use Rattle.search.proofs.EveryCluster.{every-finds}
use Rattle.search.proofs.Finding.{refused-kept}
use Rattle.terms.specs.Allowed.{every_cluster}
use Rattle.counts.specs.Promise.{least_score, distance, Checks}
use Rattle.counts.specs.Passes.{DrawsBinary}
use Rattle.counts.proofs.Checking.{said_of}
use Rattle.counts.proofs.DrawnBinary.{read_as, drawn-species}
use Rattle.counts.proofs.LeastScore.{solved_least, distances, least_solves, least_under, least_there}
use Rattle.counts.proofs.Yes.{number-said, says_yes}

-- the score of the tree that a text draws
abbrev pub drawn_score : {line text : List ℕ} {start : ℕ} → List ℕ → ℕ → DrawsBinary line text start → ℕ
drawn_score genes count d = score Rooted (records_in count genes) (record_of (clusters d.tree))

module _ (line text : List ℕ) (start : ℕ) (genes : List ℕ) (count : ℕ) (scores splits : List ℕ) {r : Reply} {s p : List ℕ}
    (c : Checks line text start genes count scores splits r s p) where
  abbrev species : ℕ
  species = length (names line)

  -- ---- yes

  module _ (yes : r.number ≡ 0) where
    said-nothing : (said_of line text start genes count scores splits).number ≡ 0
    said-nothing = sym (number-said line text start genes count scores splits c) ∙ yes

    value_is : (d : DrawsBinary line text start) → r.value ≡ drawn_score genes count d - least_score species (records_in count genes)
    unfolding distance
    value_is d = ap (λ (r : Reply). r.value) c.reply ∙ rw (said-nothing, read_as line text start d)

    module _ (d : DrawsBinary line text start) where
      few : (1 ≤ species) × (species ≤ 16)
      few = names-count species_most line d.good

      -- "With a yes goes the distance of its score above the least one over all clusters" (#114)
      pub yes_distance : r.value + least_score species (records_in count genes) ≡ drawn_score genes count d
      yes_distance =
          let under = least_under species (records_in count genes) few.0 few.1 (record_of (clusters d.tree)) (drawn-species line text start d) in
          omega (arith, value_is d)

      -- so it is 0 exactly when no tree scores less
      pub yes_nearest :
          (r.value ≡ 0) ↔ ((other : List ℕ) → BinarySpecies species other → drawn_score genes count d ≤ score Rooted (records_in count genes) other)
      yes_nearest = (
        λ z other tree.
            let under = least_under species (records_in count genes) few.0 few.1 other tree in
            omega (arith, yes_distance),
        λ none-less.
            let least = least_there species (records_in count genes) few.0 few.1 in
            let nearest = none-less least.0 least.1 in
            omega (arith, yes_distance, least.2),
      )

    -- both tables, and the least score, are those of the search with every cluster marked
    pub yes_tables :
        {q : Found} {s' p' : List ℕ} → Finds Rooted species genes count (every_cluster species) scores splits q s' p'
        → (s ≡ s') × (p ≡ p') × (q.score ≡ least_score species (records_in count genes))
    yes_tables {q} {s'} {p'} finds =
        let order = ((says_yes line text start genes count scores splits c).0 yes).1 in
        let one = order.genes_in_order.shaped.some_species in
        let most = order.genes_in_order.shaped.few_species in
        let solved = least_solves species (records_in count genes) scores splits in
        let same = finds-once (every-finds order.genes_in_order order.scores_fit order.splits_fit solved) finds in
        let far = distances {numbers = []} _ one most solved refl in (
          c.score_table ∙ rw said-nothing (sym far.score_table ∙ same.1),
          c.split_table ∙ rw said-nothing (sym far.split_table ∙ same.2),
          sym (ap (λ (f : Found). f.score) same.0) ∙ solved_least (records_in count genes) one most solved,
        )

  -- ---- a refusal

  pub refusal-keeps : (r.number ≡ 0 → ⊥) → (r.value ≡ 0) × (s ≡ scores) × (p ≡ splits)
  refusal-keeps f =
      let said = said_of line text start genes count scores splits in
      let some : said.number ≡ 0 → ⊥ = λ z. f (number-said line text start genes count scores splits c ∙ z) in (
        ap (λ (r : Reply). r.value) (c.reply ∙ sym (refused-reply _ said.number refl some)),
        c.score_table ∙ sym (refused-kept said.number species some _ scores),
        c.split_table ∙ sym (refused-kept said.number species some _ splits),
      )
