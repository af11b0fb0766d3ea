-- Small mappings judged, from the definitions alone: where each is at fault, and the sets of a good one.
use Prim.Native.Nat.{ℕ}
use mathlib.Core.Path.{◌≡◌, refl}
use mathlib.Core.Bool.{false}
use mathlib.Core.List.{List, [], ◌∷◌}
use Rattle.clusters.specs.Sets.{single, union}
use Rattle.labels.specs.Bytes.{run, next_is}
use Rattle.labels.specs.Labels.{bare_letters, letters_from, doubled, letters, raw_to, told}
use Rattle.trees.specs.Lists.{keep, some, up_to}
use Rattle.trees.specs.Valid.{among}
use Rattle.roster.specs.Roster.{same, position, in_quotes, name_at, least}
use Rattle.mapping.specs.Mapping.{feed_at, parts_at, species_at, member_at, line_at, members, named, named_in, no_label_at, no_colon_at, no_comma_at, stray_at, own_at, other_at}
use Rattle.mapping.specs.Mapping.{unknown_at, again_at, beyond_at, open_at, left_out_at, fault_at, first_fault, faulty}
use Rattle.mapping.specs.Groups.{union_of, set_of, groups}

-- one species, `s`; two, `s` and `t`
abbrev one : List (List ℕ)
one = (115 ∷ []) ∷ []

abbrev two : List (List ℕ)
two = (115 ∷ []) ∷ (116 ∷ []) ∷ []

-- one individual, `a`; three, `a`, `b` and `c`
abbrev lone : List (List ℕ)
lone = (97 ∷ []) ∷ []

abbrev three : List (List ℕ)
three = (97 ∷ []) ∷ (98 ∷ []) ∷ (99 ∷ []) ∷ []

-- the first fault
pub places :
    -- `x:a\n`: another species
    (first_fault one lone (120 ∷ 58 ∷ 97 ∷ 10 ∷ []) ≡ 0)
    -- `t:a\ns:b,c\n`: the lines in another order
    × (first_fault two three (116 ∷ 58 ∷ 97 ∷ 10 ∷ 115 ∷ 58 ∷ 98 ∷ 44 ∷ 99 ∷ 10 ∷ []) ≡ 0)
    -- ``: nothing at all
    × (first_fault one lone [] ≡ 0)
    -- `s :a\n`: a blank behind the species
    × (first_fault one lone (115 ∷ 32 ∷ 58 ∷ 97 ∷ 10 ∷ []) ≡ 1)
    -- `s:\n`: a species without an individual
    × (first_fault one lone (115 ∷ 58 ∷ 10 ∷ []) ≡ 2)
    -- `s:x`: no individual of that name, which the end of the text ends
    × (first_fault one lone (115 ∷ 58 ∷ 120 ∷ []) ≡ 2)
    -- `s:abcdefghijklmnop\n`: sixteen bytes
    × (first_fault one lone (115 ∷ 58 ∷ 97 ∷ 98 ∷ 99 ∷ 100 ∷ 101 ∷ 102 ∷ 103 ∷ 104 ∷ 105 ∷ 106 ∷ 107 ∷ 108 ∷ 109 ∷ 110 ∷ 111 ∷ 112 ∷ 10 ∷ []) ≡ 2)
    -- `s:''\n`: an empty quoted label: its closing quote
    × (first_fault one lone (115 ∷ 58 ∷ 39 ∷ 39 ∷ 10 ∷ []) ≡ 3)
    -- `s:a`: no line feed
    × (first_fault one lone (115 ∷ 58 ∷ 97 ∷ []) ≡ 3)
    -- `s:a,a\n`: an individual twice
    × (first_fault one lone (115 ∷ 58 ∷ 97 ∷ 44 ∷ 97 ∷ 10 ∷ []) ≡ 4)
    -- `s:'a`: a quote never closed
    × (first_fault one lone (115 ∷ 58 ∷ 39 ∷ 97 ∷ []) ≡ 4)
    -- `s:a,c\n`: one left out
    × (first_fault one three (115 ∷ 58 ∷ 97 ∷ 44 ∷ 99 ∷ 10 ∷ []) ≡ 6)
    -- `s:a\nq`: a byte behind the last line
    × (first_fault one lone (115 ∷ 58 ∷ 97 ∷ 10 ∷ 113 ∷ []) ≡ 4)
    -- `s:a,b\nt:c,b\n`: an individual of two species
    × (first_fault two three (115 ∷ 58 ∷ 97 ∷ 44 ∷ 98 ∷ 10 ∷ 116 ∷ 58 ∷ 99 ∷ 44 ∷ 98 ∷ 10 ∷ []) ≡ 10)
unfolding first_fault least fault_at stray_at no_label_at no_colon_at no_comma_at own_at other_at unknown_at again_at beyond_at open_at left_out_at feed_at parts_at
    species_at member_at line_at members named keep some up_to among name_at told letters letters_from bare_letters raw_to doubled run next_is same position
    in_quotes
places = (refl, refl, refl, refl, refl, refl, refl, refl, refl, refl, refl, refl, refl, refl)

-- a good one: `'s':c,a\nt:'b'\n`, with labels of either form
pub sets :
    (faulty two three (39 ∷ 115 ∷ 39 ∷ 58 ∷ 99 ∷ 44 ∷ 97 ∷ 10 ∷ 116 ∷ 58 ∷ 39 ∷ 98 ∷ 39 ∷ 10 ∷ []) ≡ false)
    × (groups two three (39 ∷ 115 ∷ 39 ∷ 58 ∷ 99 ∷ 44 ∷ 97 ∷ 10 ∷ 116 ∷ 58 ∷ 39 ∷ 98 ∷ 39 ∷ 10 ∷ []) ≡ 5 ∷ 2 ∷ [])
unfolding faulty groups set_of union_of named_in single union first_fault least fault_at stray_at no_label_at no_colon_at no_comma_at own_at other_at unknown_at
    again_at beyond_at open_at left_out_at feed_at parts_at species_at member_at line_at members named keep some up_to among name_at told letters letters_from
    bare_letters raw_to doubled run next_is same position in_quotes
sets = (refl, refl)
