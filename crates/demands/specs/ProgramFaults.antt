-- The faults of the program's input, by number and place (01, "The program"): what each is, and which comes first.
use Rattle.std.specs.Prelude.{ℕ, ◌+◌, ◌<◌, ◌≡◌, Bool, false, length, get_or, drop}
use mathlib.Core.List.{List, [], ◌∷◌, ◌++◌, Memᴰ}
use Rattle.labels.specs.Bytes.{is_blank}
use Rattle.trees.specs.Tree.{Tree}
use Rattle.roster.specs.Roster.{names}
use Rattle.std.specs.Prelude.{None}
use Rattle.nodes.specs.Grammar.{Blanks}
use Rattle.reader.specs.Promise.{text_most, Reads}
use Rattle.reader.specs.declared.Kind.TheVariants.{Gene}
use Rattle.reader.specs.declared.Reading.{Reading}
use Rattle.reader.specs.Accepted.{Draws}
use Rattle.gather.specs.GeneTrees.{genes_most}
use Rattle.weights.specs.declared.Rooting.{Rooting}
use Rattle.weights.specs.declared.Rooting.TheVariants.{Unrooted}
use Rattle.outcomes.specs.Outcome.{program_most}
use Rattle.report.specs.Input.{first_line, behind_line, mode_place, trees_place, mode_word}
use Rattle.demands.specs.CallFaults.{RosterFault, ◌before◌}
use Rattle.demands.specs.GeneTrees.{Enters}
use Rattle.demands.specs.Input.{TreesTo}
use Rattle.demands.specs.Signed.{Unsolvable}

-- "2 | text over 65,536 bytes | 65,536"
pub data TextLengthFault (input : List ℕ) : ℕ → ℕ → Type 0 where
  too_long : text_most < length input → TextLengthFault input 2 text_most

-- "17 | program only: over 12 species .. | 0"
pub data ManySpeciesFault (line : List ℕ) : ℕ → ℕ → Type 0 where
  over_12 : program_most < length (names line) → ManySpeciesFault line 17 0

-- "Each of the first two lines ends in a line feed; if one is missing the number is 10 at the input's length":
-- the input is not two lines, a line feed behind each, and a text
pub data LineFeedFault (input : List ℕ) : ℕ → ℕ → Type 0 where
  feed_missing : ((line mode text : List ℕ) → input ≡ line ++ (10 ∷ (mode ++ (10 ∷ text))) → ⊥) → LineFeedFault input 10 (length input)

-- "Another mode word gives 3 at its first byte": it is none of the four (#106)
pub data ModeFault (input : List ℕ) : ℕ → ℕ → Type 0 where
  another_word : ((all : Bool) (rooting : Rooting) → first_line (behind_line input) ≡ mode_word all rooting → ⊥) → ModeFault input 3 (mode_place input)

-- "until only blanks remain": behind these trees more stands there, and begins at b, "its first byte that is no blank"
pub record MoreBehind (line text : List ℕ) (trees : List Tree) (b : ℕ) : Type 0 where
  pub at : ℕ
  pub trees_reach : TreesTo line text trees at
  pub gap : Blanks (drop at text) (drop b text)
  pub inside : b < length text
  pub no_blank : is_blank (get_or text b 0) ≡ false

-- the text behind the two lines begins at shift: "Places are offsets in the input"
pub data TreesFault (line text : List ℕ) (shift : ℕ) : ℕ → ℕ → Type 0 where
  -- behind fewer than 512 trees stands what the reader refuses as a gene tree
  refused_tree :
      {trees : List Tree} {b : ℕ} (r : Reading) → MoreBehind line text trees b → length trees < genes_most
      → Reads Gene None line text b r → (r.number ≡ 0 → ⊥)
      → TreesFault line text shift r.number (shift + r.place)
  -- "a 513th tree is 17 at its first byte that is no blank, before it is read"
  tree_513 : {trees : List Tree} {b : ℕ} → MoreBehind line text trees b → length trees ≡ genes_most → TreesFault line text shift 17 (shift + b)

-- "11 | gene trees 0 .. | 0"
pub data NoGeneTreeFault (text : List ℕ) : ℕ → ℕ → Type 0 where
  only_blanks : Blanks text [] → NoGeneTreeFault text 11 0

-- "19 for an unresolved or incomplete tree, .. in the program its first byte" (#106): behind trees that may be counted without a root begins at b one that may not
pub data UnresolvedFault (line mode text : List ℕ) (shift : ℕ) : ℕ → ℕ → Type 0 where
  unresolved_or_incomplete :
      (all : Bool) {trees : List Tree} {t : Tree} {b : ℕ} {rest : List ℕ} → mode ≡ mode_word all Unrooted → MoreBehind line text trees b
      → ((u : Tree) → Memᴰ u trees → Enters (length (names line)) u) → Draws Gene None line text b t rest → (Enters (length (names line)) t → ⊥)
      → UnresolvedFault line mode text shift 19 (shift + b)

-- "14 | no binary tree over the allowed clusters | 0"
pub data UnsolvableFault (input : List ℕ) : ℕ → ℕ → Type 0 where
  without_tree : Unsolvable input → UnsolvableFault input 14 0

-- "Checks: 2, 1, 17, mode, trees, 11, 14", with 19 "after 11" (#106), and 10 "after 1 and 17 have been tried and before the mode word is judged"
abbrev pub ProgramFault : List ℕ → ℕ → ℕ → Type 0
ProgramFault input =
    TextLengthFault input before RosterFault (first_line input) before ManySpeciesFault (first_line input) before LineFeedFault input before ModeFault input
    before TreesFault (first_line input) (drop (trees_place input) input) (trees_place input)
    before NoGeneTreeFault (drop (trees_place input) input)
    before UnresolvedFault (first_line input) (first_line (behind_line input)) (drop (trees_place input) input) (trees_place input)
    before UnsolvableFault input
