-- 01's table "Examples on both sides", and rows of later requests: what a row says, and when it holds.
use Rattle.std.specs.Prelude.{ℕ, zero, suc, ◌^◌, Bool, true, false, ◌&&◌, List, [], ◌∷◌, map, length, replicate, eqb}
use Rattle.clusters.specs.Sets.{whole}
use Rattle.trees.specs.Valid.{among}
use Rattle.roster.specs.Roster.{names, same}
use Rattle.trees.specs.Lists.{up_to}
use Rattle.tokens.specs.Values.{thousandths}
use Rattle.tokens.specs.Values.{Value}
use Rattle.std.specs.Prelude.{None, Some}
use Rattle.reader.specs.Promise.{answer_to, reading_of}
use Rattle.reader.specs.declared.Kind.{Kind}
use Rattle.reader.specs.declared.Kind.TheVariants.{Species, Gene}
use Rattle.reader.specs.declared.Reading.{Reading}
use Rattle.texts.specs.Writing.{written}
use Rattle.weights.specs.declared.Rooting.{Rooting}
use Rattle.weights.specs.Count.{k_by, score}
use Rattle.lineages.specs.Promise.{marks}
use Rattle.weights.specs.Marks.{flag}
use Rattle.splits.specs.Best.{best_for, found_by}
use Rattle.search.specs.TiesPromise.{ties_for}
use Rattle.report.specs.Promise.{output}
use Rattle.terms.specs.declared.Found.{Found}

-- the allowed clusters of a row: all, those that the gene trees show, or these only
pub data Allowed : Type 0 where
  every : Allowed
  own : Allowed
  only : List ℕ → Allowed

-- a row: a text's record, all 32 numbers of it; k of a cluster in a tree; a gene tree scored on a species tree; gene trees searched. The first part is the roster, behind how the gene trees are counted (#106).
-- A gene tree read on a roster with a threshold: number, place and record; what a number's bytes are worth (#113). How many trees a search finds as good; an input of the program and its output (#111)
pub data Row : Type 0 where
  recorded : List ℕ → List ℕ → List ℕ → Row
  counted : Rooting → List ℕ → List ℕ → ℕ → ℕ → Row
  scored : Rooting → List ℕ → List ℕ → List ℕ → ℕ → Row
  searched : Rooting → List ℕ → List (List ℕ) → Allowed → ℕ → ℕ → List ℕ → Row
  read_below : List ℕ → List ℕ → ℕ → ℕ → ℕ → List ℕ → Row
  valued : List ℕ → Value → Row
  tied : Rooting → List ℕ → List (List ℕ) → Allowed → ℕ → Row
  printed : List ℕ → List ℕ → Row

-- the record that a text of the kind reads to
unfoldable pub record_in : Kind → List ℕ → List ℕ → List ℕ
record_in kind line text = (reading_of None 0 (answer_to kind None line text 0)).numbers

-- the allowed set as bytes
abbrev pub bytes_of : Rooting → Allowed → ℕ → List (List ℕ) → List ℕ
bytes_of rooting every n genes = replicate (2 ^ n) 1
bytes_of rooting own n genes = marks rooting n genes
bytes_of rooting (only cs) n genes = map (λ a. flag (among a cs)) (up_to (2 ^ n))

-- what a search finds: its number, its score and its tree's text, which is empty on a refusal
abbrev pub text_by : ℕ → List ℕ → List ℕ → List ℕ
text_by zero line numbers = written (names line) numbers
text_by (suc number) line numbers = []

-- what a search on the gene records finds
unfoldable pub found_in : Rooting → List ℕ → List (List ℕ) → Allowed → Found
found_in rooting line genes allowed =
    found_by rooting (best_for rooting (length (names line)) genes (bytes_of rooting allowed (length (names line)) genes) (whole (length (names line)))) genes

-- how many trees it finds as good (#111)
unfoldable pub ties_in : Rooting → List ℕ → List (List ℕ) → Allowed → ℕ
ties_in rooting line genes allowed =
    ties_for rooting (length (names line)) genes (bytes_of rooting allowed (length (names line)) genes) (whole (length (names line)))

-- two values are the same
abbrev pub same_value : Value → Value → Bool
same_value None None = true
same_value None (Some n) = false
same_value (Some m) None = false
same_value (Some m) (Some n) = eqb m n

-- what a text reads to as a gene tree with a threshold
unfoldable pub reading_below : ℕ → List ℕ → List ℕ → Reading
reading_below amount line text = reading_of (Some amount) 0 (answer_to Gene (Some amount) line text 0)

-- the row says what the definitions give
unfoldable pub holds : Row → Bool
unfolding record_in found_in ties_in reading_below
holds (recorded line text numbers) = same (record_in Species line text) numbers
holds (counted rooting line text a k) = eqb (k_by rooting (record_in Gene line text) a) k
holds (scored rooting line gene species s) = eqb (score rooting (record_in Gene line gene ∷ []) (record_in Species line species)) s
holds (searched rooting line genes allowed number s text) =
    eqb (found_in rooting line (map (record_in Gene line) genes) allowed).number number && eqb (found_in rooting line (map (record_in Gene line) genes) allowed).place 0
    && eqb (found_in rooting line (map (record_in Gene line) genes) allowed).score s
    && same (found_in rooting line (map (record_in Gene line) genes) allowed).numbers (record_in Species line text)
    && same
    (text_by (found_in rooting line (map (record_in Gene line) genes) allowed).number line (found_in rooting line (map (record_in Gene line) genes) allowed).numbers)
    text
holds (read_below line text amount number place numbers) =
    eqb (reading_below amount line text).number number && eqb (reading_below amount line text).place place
    && same (reading_below amount line text).numbers numbers
holds (valued bytes value) = same_value (thousandths bytes) value
holds (tied rooting line genes allowed ties) = eqb (ties_in rooting line (map (record_in Gene line) genes) allowed) ties
holds (printed input text) = same (output input) text

-- every row of a table holds
unfoldable pub all_hold : List Row → Bool
unfolding holds
all_hold [] = true
all_hold (r ∷ l) = holds r && all_hold l
