-- The program as a function from its input to what it finds (01, "The program").
use Rattle.std.specs.Prelude.{ℕ, Bool, true, false, List, length, drop, leb, Option, Some, None}
use Rattle.roster.specs.Roster.{names, faulty, first_fault, same}
use Rattle.roster.specs.Judged.{species_most}
use Rattle.reader.specs.Promise.{text_most}
use Rattle.weights.specs.declared.Rooting.{Rooting}
use Rattle.weights.specs.declared.Rooting.TheVariants.{Rooted, Unrooted}
use Rattle.gather.specs.GeneTrees.{gather}
use Rattle.outcomes.specs.Outcome.{Outcome, program_most, on_trees}
use Rattle.outcomes.specs.Outcome.Outcome.{refused}
use Rattle.report.specs.Input.{first_line, behind_line, ends_in_feed, mode_place, trees_place, mode_word}

-- what "a line that is exactly `all` or `genes`" asks for, and one that ends in `unrooted` (#106): whether every cluster is allowed, and how the gene trees are counted
abbrev pub Mode : Type 0
Mode = Bool × Rooting

-- the mode of a line, by the words that it may be: "a line that is exactly `all` or `genes`"; "The mode line may read `all unrooted` or `genes unrooted`" (#106)
abbrev pub mode_by : Bool → Bool → Bool → Bool → Option Mode
mode_by true genes all_unrooted genes_unrooted = Some (true, Rooted)
mode_by false true all_unrooted genes_unrooted = Some (false, Rooted)
mode_by false false true genes_unrooted = Some (true, Unrooted)
mode_by false false false true = Some (false, Unrooted)
mode_by false false false false = None

-- the mode that a line asks for
unfoldable pub mode_of : List ℕ → Option Mode
mode_of line =
    mode_by (same line (mode_word true Rooted)) (same line (mode_word false Rooted)) (same line (mode_word true Unrooted)) (same line (mode_word false Unrooted))

-- "Another mode word gives 3 at its first byte"
abbrev pub on_mode : Option Mode → List ℕ → Outcome
on_mode None input = refused 3 (mode_place input)
on_mode (Some (all, rooting)) input =
    on_trees (gather (first_line input) (drop (trees_place input) input)) (first_line input) (drop (trees_place input) input) (trees_place input) all rooting
    (length (names (first_line input)))

-- "if one is missing the number is 10 at the input's length"
abbrev pub on_feeds : Bool → Bool → List ℕ → Outcome
on_feeds false second input = refused 10 (length input)
on_feeds true false input = refused 10 (length input)
on_feeds true true input = on_mode (mode_of (first_line (behind_line input))) input

-- "17 | program only: over 12 species .. | 0"
abbrev pub on_species : Bool → List ℕ → Outcome
on_species false input = refused 17 0
on_species true input = on_feeds (ends_in_feed input) (ends_in_feed (behind_line input)) input

-- "1 | roster faulty"
abbrev pub on_roster : Bool → List ℕ → Outcome
on_roster true input = refused 1 (first_fault species_most (first_line input))
on_roster false input = on_species (leb (length (names (first_line input))) program_most) input

-- "2 | text over 65,536 bytes | 65,536"
abbrev pub on_text : Bool → List ℕ → Outcome
on_text false input = refused 2 text_most
on_text true input = on_roster (faulty species_most (first_line input)) input

-- "Checks: 2, 1, 17, mode, trees, 11, 14", with 19 "after 11" (#106)
unfoldable pub program : List ℕ → Outcome
program input = on_text (leb (length input) text_most) input
