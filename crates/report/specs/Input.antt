-- The program's input taken apart: the roster line, the mode line and its words, and where the trees begin (01, "The program", with #106).
use Rattle.std.specs.Prelude.{ℕ, ◌+◌, Bool, true, false, not, List, [], ◌∷◌, ◌++◌, length, take, drop, eqb, leb}
use Rattle.labels.specs.Bytes.{run}
use Rattle.weights.specs.declared.Rooting.{Rooting}
use Rattle.weights.specs.declared.Rooting.TheVariants.{Rooted, Unrooted}

-- how long the line at the front is, without its line feed
unfoldable pub line_length : List ℕ → ℕ
line_length s = run (λ b. not (eqb b 10)) s

-- the line at the front
unfoldable pub first_line : List ℕ → List ℕ
first_line s = take (line_length s) s

-- what is behind the line at the front and its line feed
unfoldable pub behind_line : List ℕ → List ℕ
behind_line s = drop (line_length s + 1) s

-- "Each of the first two lines ends in a line feed": one is there
unfoldable pub ends_in_feed : List ℕ → Bool
ends_in_feed s = leb (line_length s + 1) (length s)

-- where the mode line begins
unfoldable pub mode_place : List ℕ → ℕ
mode_place input = line_length input + 1

-- where the trees begin
unfoldable pub trees_place : List ℕ → ℕ
trees_place input = mode_place input + (line_length (behind_line input) + 1)

-- `all`
abbrev pub all_word : List ℕ
all_word = 97 ∷ 108 ∷ 108 ∷ []

-- `genes`
abbrev pub genes_word : List ℕ
genes_word = 103 ∷ 101 ∷ 110 ∷ 101 ∷ 115 ∷ []

-- ` unrooted`, as it stands behind either of them in "`all unrooted` or `genes unrooted`" (#106)
abbrev pub unrooted_behind : List ℕ
unrooted_behind = 32 ∷ 117 ∷ 110 ∷ 114 ∷ 111 ∷ 111 ∷ 116 ∷ 101 ∷ 100 ∷ []

-- `all`, else `genes`
abbrev pub allowed_word : Bool → List ℕ
allowed_word true = all_word
allowed_word false = genes_word

-- the word of a mode: whether all clusters are allowed, and how the gene trees are counted
abbrev pub mode_word : Bool → Rooting → List ℕ
mode_word all Rooted = allowed_word all
mode_word all Unrooted = allowed_word all ++ unrooted_behind
