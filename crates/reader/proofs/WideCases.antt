-- Small texts on individuals, computed: a tree, thirty-two names and one more, thirty-one open parentheses and one more (#110).
use Prim.Native.Nat.{ℕ, zero, suc}
use mathlib.Core.Path.{◌≡◌, refl}
use mathlib.Core.List.{List, [], ◌∷◌, ◌++◌, tail}
use lib.ListN.{take, replicate}
use lib.Count.{ones, ones_in}
use Rattle.clusters.specs.Sets.{whole, single, union, has, within, apart, size, lowest}
use Rattle.labels.specs.Bytes.{run, next_is, next_label}
use Rattle.labels.specs.Labels.{bare_letters, letters, letters_from, doubled, raw_to, told}
use Rattle.trees.specs.Lists.{up_to, keep, some, insert, sorted}
use Rattle.trees.specs.Tree.{cluster, clusters}
use Rattle.trees.specs.Records.{record_for}
use Rattle.roster.specs.Roster.{same, position, in_quotes, begins, beginnings, name_at, names, stray_at, long_at, many_at, again_at, open_at, fault_at, least, first_fault, faulty}
use Rattle.tokens.specs.Tokens.{blanks, skip, number, number_behind, numbers, name, inner_name}
use Rattle.tokens.specs.Supports.{supported}
use Rattle.nodes.specs.Reading.{leaf_by, closing_by, read_tree_to_by, read_tree_by, read_node_by}
use Rattle.reader.specs.Promise.{answer_within}
use Rattle.reader.specs.WidePromise.{stand_answer, wide_reading_of, ReadsWide}
use Rattle.reader.specs.declared.wide.WideReading.{WideReading}

-- n names of one letter each, from the byte b on, a space before each
unfoldable pub spaced : ℕ → ℕ → List ℕ
spaced b zero = []
spaced b (suc n) = 32 ∷ b ∷ spaced (suc b) n

-- thirty-three names: `a` to `z`, and `A` to `G`
abbrev pub many_names : List ℕ
many_names = tail (spaced 97 26 ++ spaced 65 7)

-- `((a,b),F);`, where F is the thirty-second
abbrev pub three_leaves : List ℕ
three_leaves = 40 ∷ 40 ∷ 97 ∷ 44 ∷ 98 ∷ 41 ∷ 44 ∷ 70 ∷ 41 ∷ 59 ∷ []

-- what is promised of a text from its first byte on
unfoldable pub reply_to : List ℕ → List ℕ → WideReading
reply_to individuals text = wide_reading_of 0 (stand_answer individuals text 0)

-- a refusal
abbrev pub refusal : ℕ → ℕ → WideReading
refusal number place = record { number = number; place = place; next = 0; numbers = replicate 64 0 }

-- the thirty-second name is the highest bit of a record; the thirty-third is one too many, at its first byte; 31 parentheses may be open, and 8 is at the thirty-second
pub replies :
    (reply_to (take 63 many_names) three_leaves
    ≡ record { number = 0; place = 0; next = 10; numbers = 5 ∷ 1 ∷ 2 ∷ 3 ∷ 2147483648 ∷ 2147483651 ∷ replicate 58 0 })
    × (reply_to many_names three_leaves ≡ refusal 1 64)
    × (reply_to (take 63 many_names) (replicate 31 40) ≡ refusal 10 31)
    × (reply_to (take 63 many_names) (replicate 32 40) ≡ refusal 8 31)
unfolding reply_to spaced ones ones_in whole single union has within apart size lowest answer_within leaf_by closing_by read_tree_to_by read_tree_by read_node_by next_is next_label
    blanks skip number number_behind numbers supported name inner_name run bare_letters letters letters_from doubled raw_to told up_to same position in_quotes begins
    beginnings name_at names stray_at long_at many_at again_at open_at fault_at least first_fault faulty keep some insert sorted record_for cluster clusters
replies = (refl, refl, refl, refl)

-- and so `read_stand` answers
pub replied : (individuals text : List ℕ) (q : WideReading) → ReadsWide individuals text 0 q → q ≡ reply_to individuals text
unfolding ReadsWide reply_to
replied individuals text q reads = reads
