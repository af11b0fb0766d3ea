-- The mapping text: its labels and lines, which individual a label names, and its faults by their places (02, #110).
use Rattle.std.specs.Prelude.{ℕ, zero, suc, ◌+◌, Bool, true, false, not, ◌&&◌, ◌||◌, List, map, length, drop, eqb, leb, ltb}
use Rattle.trees.specs.Lists.{keep, some, up_to}
use Rattle.trees.specs.Valid.{among}
use Rattle.faults.specs.declared.Fault.{Fault}
use Rattle.faults.specs.declared.Fault.TheVariants.{LongWord}
use Rattle.labels.specs.Bytes.{is_label}
use Rattle.labels.specs.Labels.{Told, told}
use Rattle.labels.specs.Labels.Told.{ended, faulty as at_fault}
use Rattle.roster.specs.Roster.{position, byte_at, quoted_at, name_at, ends_by, least}

-- a line feed stands at p, outside quotes
unfoldable pub feed_at : List ℕ → ℕ → Bool
feed_at text p = eqb (byte_at text p) 10 && not (quoted_at text p)

-- a colon or a comma does
unfoldable pub parts_at : List ℕ → ℕ → Bool
parts_at text p = (eqb (byte_at text p) 58 || eqb (byte_at text p) 44) && not (quoted_at text p)

-- p begins a line: the text's first byte, or one behind a line feed
abbrev pub line_begins : List ℕ → ℕ → Bool
line_begins text zero = true
line_begins text (suc p) = feed_at text p

-- p is where the label of an individual has to begin: behind a colon or a comma
abbrev pub item_begins : List ℕ → ℕ → Bool
item_begins text zero = false
item_begins text (suc p) = parts_at text p

-- p is where some label has to begin
abbrev pub fresh_at : List ℕ → ℕ → Bool
fresh_at text p = line_begins text p || item_begins text p

-- the label of a species begins at p
unfoldable pub species_at : List ℕ → ℕ → Bool
species_at text p = line_begins text p && is_label (byte_at text p)

-- the label of an individual does
unfoldable pub member_at : List ℕ → ℕ → Bool
member_at text p = item_begins text p && is_label (byte_at text p)

-- some label begins at p
abbrev pub begins : List ℕ → ℕ → Bool
begins text p = species_at text p || member_at text p

-- one more where the test holds
abbrev pub counted_if : Bool → ℕ → ℕ
counted_if true n = suc n
counted_if false n = n

-- "one line per species in roster order" (#110): the line in which p stands, by the line feeds before it
unfoldable pub line_at : List ℕ → ℕ → ℕ
line_at text zero = 0
line_at text (suc p) = counted_if (feed_at text p) (line_at text p)

-- where the labels of individuals that begin before p begin
unfoldable pub members : List ℕ → ℕ → List ℕ
members text p = keep (member_at text) (up_to p)

-- the individual whose name the label at p has, by its number in the second roster; how many there are, where none has that name
abbrev pub who_at : List (List ℕ) → List ℕ → ℕ → ℕ
who_at individuals text p = position (name_at text p) individuals

-- the individuals that are named before p
unfoldable pub named : List (List ℕ) → List ℕ → ℕ → List ℕ
named individuals text p = map (who_at individuals text) (members text p)

-- those of them that are named in one line
unfoldable pub named_in : List (List ℕ) → List ℕ → ℕ → ℕ → List ℕ
named_in individuals text line p = map (who_at individuals text) (keep (λ q. eqb (line_at text q) line) (members text p))

-- the label that begins at q, of which this is told, ends just before p
abbrev pub ends_at : Told → ℕ → ℕ → Bool
ends_at (ended n) q p = eqb p (q + n)
ends_at (at_fault number d) q p = false

-- a label of one kind ends just before p
abbrev pub behind : (ℕ → Bool) → List ℕ → ℕ → Bool
behind kind text p = some (λ q. kind q && ends_at (told (drop q text)) q p) (up_to p)

-- no label where one has to begin
unfoldable pub no_label_at : List ℕ → ℕ → Bool
no_label_at text p = fresh_at text p && not (is_label (byte_at text p))

-- "the species name, a colon" (#110): another byte behind the label of a species
unfoldable pub no_colon_at : List ℕ → ℕ → Bool
no_colon_at text p = behind (species_at text) text p && not (eqb (byte_at text p) 58)

-- "its individuals parted by commas, a line feed" (#110): another byte behind the label of an individual
unfoldable pub no_comma_at : List ℕ → ℕ → Bool
no_comma_at text p = behind (member_at text) text p && not (eqb (byte_at text p) 44 || eqb (byte_at text p) 10)

-- a byte that may not stand where it stands
unfoldable pub stray_at : List ℕ → ℕ → Bool
stray_at text p = ltb p (length text) && (no_label_at text p || no_colon_at text p || no_comma_at text p)

-- the fault of a label of over fifteen bytes: "4 | sixteenth byte of a name"
abbrev pub is_long : Fault → Bool
is_long LongWord = true
is_long _ = false

-- a label of over fifteen bytes is a wrong name, "at the first byte at fault (a wrong name's first)" (#110); any other fault of a label has the place of its byte
abbrev pub place_by : Bool → ℕ → ℕ → ℕ
place_by true q d = q
place_by false q d = q + d

-- the label that begins at q, of which this is told, has its own fault at p
abbrev pub own_by : Told → ℕ → ℕ → Bool
own_by (ended n) q p = false
own_by (at_fault fault d) q p = eqb p (place_by (is_long fault) q d)

-- a label has a fault of its own (#103) at p: it is too long, a byte within quotes is not printable, a quote closes nothing, or the text ends before one closes
unfoldable pub own_at : List ℕ → ℕ → Bool
own_at text p = some (λ q. begins text q && own_by (told (drop q text)) q p) (up_to (suc p))

-- a label of one kind begins at p whose name is compared: one with a fault of its own is not
abbrev pub compared_at : (ℕ → Bool) → List ℕ → ℕ → Bool
compared_at kind text p = kind p && ends_by (told (drop p text))

-- "a wrong name's first" (#110): not the species of the line
unfoldable pub other_at : List (List ℕ) → List ℕ → ℕ → Bool
other_at species text p = compared_at (species_at text) text p && not (eqb (position (name_at text p) species) (line_at text p))

-- "a wrong name's first" (#110): no individual
unfoldable pub unknown_at : List (List ℕ) → List ℕ → ℕ → Bool
unknown_at individuals text p = compared_at (member_at text) text p && leb (length individuals) (who_at individuals text p)

-- "Each individual has exactly one species" (#110): one that stands before
unfoldable pub again_at : List (List ℕ) → List ℕ → ℕ → Bool
again_at individuals text p = compared_at (member_at text) text p && among (who_at individuals text p) (named individuals text p)

-- "one line per species" (#110): a byte behind the last line
unfoldable pub beyond_at : List (List ℕ) → List ℕ → ℕ → Bool
beyond_at species text p = ltb p (length text) && leb (length species) (line_at text p)

-- "or its length where it ends early" (#110): before the last line's feed
unfoldable pub open_at : List (List ℕ) → List ℕ → ℕ → Bool
open_at species text p = eqb p (length text) && ltb (line_at text p) (length species)

-- "or leaves an individual out" (#110)
unfoldable pub left_out_at : List (List ℕ) → List ℕ → ℕ → Bool
left_out_at individuals text p = eqb p (length text) && some (λ j. not (among j (named individuals text p))) (up_to (length individuals))

-- one of these stands at p
unfoldable pub fault_at : List (List ℕ) → List (List ℕ) → List ℕ → ℕ → Bool
fault_at species individuals text p =
    stray_at text p || own_at text p || other_at species text p || unknown_at individuals text p || again_at individuals text p || beyond_at species text p
    || open_at species text p
    || left_out_at individuals text p

-- "at the first byte at fault" (#110): the least place of a fault; one past the text's length where the mapping is good
unfoldable pub first_fault : List (List ℕ) → List (List ℕ) → List ℕ → ℕ
first_fault species individuals text = least (fault_at species individuals text) 0 (suc (length text))

-- the mapping has a fault
unfoldable pub faulty : List (List ℕ) → List (List ℕ) → List ℕ → Bool
faulty species individuals text = leb (first_fault species individuals text) (length text)
