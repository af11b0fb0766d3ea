-- The ends of one text, computed: `('A':007,b:1.5)x:3:9;` (#114).
use Prim.Native.Nat.{ℕ}
use mathlib.Core.Path.{◌≡◌, refl}
use mathlib.Core.List.{List, [], ◌∷◌, map}
use Rattle.std.proofs.Common.{Some, None}
use Rattle.labels.specs.Bytes.{run, next_is, next_label}
use Rattle.labels.specs.Labels.{bare_letters, letters_from, doubled, letters, raw_to, told}
use Rattle.trees.specs.Tree.{Behind}
use Rattle.tokens.specs.Tokens.{blanks, skip, number, number_behind, numbers, name, inner_name}
use Rattle.tokens.specs.Supports.{supported}
use Rattle.tokens.specs.Values.{written, written_behind}
use Rattle.branches.specs.Ends.{lead, next_end, ends_from, is_count, count_in}

abbrev example : List ℕ
example = 40 ∷ 39 ∷ 65 ∷ 39 ∷ 58 ∷ 48 ∷ 48 ∷ 55 ∷ 44 ∷ 98 ∷ 58 ∷ 49 ∷ 46 ∷ 53 ∷ 41 ∷ 120 ∷ 58 ∷ 51 ∷ 58 ∷ 57 ∷ 59 ∷ []

-- the numbers behind its three nodes
abbrev seven : Behind
seven = record { name = []; distance = 48 ∷ 48 ∷ 55 ∷ []; support = [] }

abbrev half : Behind
half = record { name = []; distance = 49 ∷ 46 ∷ 53 ∷ []; support = [] }

abbrev two : Behind
two = record { name = 120 ∷ []; distance = 51 ∷ []; support = 57 ∷ [] }

-- "place the byte just after its closing parenthesis or, for a leaf, its name" (#114): behind a closing quote, and before an inner node's name
pub example_ends :
    ends_from 3 example 0
    ≡ record { place = 4; behind = seven } ∷ record { place = 10; behind = half } ∷ record { place = 15; behind = two } ∷ []
unfolding ends_from next_end lead run next_is next_label bare_letters letters_from letters told doubled raw_to blanks skip number number_behind numbers name inner_name supported
example_ends = refl

-- "zeros in front change nothing"; a count is not "fractional", and not followed by "a second number" (#114)
pub example-counts : map count_in (seven ∷ half ∷ two ∷ []) ≡ Some 7 ∷ None ∷ None ∷ []
unfolding count_in is_count run written written_behind
example-counts = refl
