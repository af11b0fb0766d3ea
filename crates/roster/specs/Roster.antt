-- The roster line: its names and its faults (01, "Species, clusters, records" and "Numbers returned").
use Rattle.std.specs.Prelude.{ℕ, zero, suc, ◌+◌, Bool, true, false, not, ◌&&◌, ◌||◌, List, [], ◌∷◌, map, length, get_or, take, drop, eqb, leb, ltb}
use Rattle.trees.specs.Lists.{keep, some, up_to}
use Rattle.labels.specs.Bytes.{is_bare, is_printable, is_label, one_more}
use Rattle.labels.specs.Labels.{label_bytes, letters, raw_to, Told, told}
use Rattle.labels.specs.Labels.Told.{ended, faulty as at_fault}

-- two names are the same, byte for byte
unfoldable pub same : List ℕ → List ℕ → Bool
same [] [] = true
same [] (y ∷ l) = false
same (x ∷ k) [] = false
same (x ∷ k) (y ∷ l) = eqb x y && same k l

-- where a name stands in the list of names: its species; the list's length where it is unknown
unfoldable pub position : List ℕ → List (List ℕ) → ℕ
unfolding same
position w [] = zero
position w (v ∷ l) = one_more (not (same w v)) (position w l)

-- the byte at p; 0 where there is none
abbrev pub byte_at : List ℕ → ℕ → ℕ
byte_at line p = get_or line p 0

-- the byte before p; 0 where there is none
abbrev pub byte_before : List ℕ → ℕ → ℕ
byte_before line zero = 0
byte_before line (suc p) = get_or line p 0

-- turned round where the test holds
abbrev pub turned_if : Bool → Bool → Bool
turned_if true t = not t
turned_if false t = t

-- an odd number of quotes stands in u: what follows it stands within quotes
unfoldable pub in_quotes : List ℕ → Bool
in_quotes [] = false
in_quotes (b ∷ u) = turned_if (eqb b 39) (in_quotes u)

-- the byte at p stands within quotes
abbrev pub quoted_at : List ℕ → ℕ → Bool
quoted_at line p = in_quotes (take p line)

-- p is where a label may begin: the line's first byte, or one behind a space
abbrev pub fresh_at : List ℕ → ℕ → Bool
fresh_at line zero = true
fresh_at line (suc p) = eqb (get_or line p 0) 32

-- a label begins at p: "parted by one blank outside quotes" (#103)
unfoldable pub begins : List ℕ → ℕ → Bool
unfolding in_quotes
begins line p = is_label (byte_at line p) && fresh_at line p && not (quoted_at line p)

-- where the labels that begin before p begin
unfoldable pub beginnings : List ℕ → ℕ → List ℕ
beginnings line p = keep (begins line) (up_to p)

-- the name whose label begins at p, decoded
unfoldable pub name_at : List ℕ → ℕ → List ℕ
name_at line p = letters (drop p line)

-- the names of the line, from the left: "The first name is species 0"
unfoldable pub names : List ℕ → List (List ℕ)
names line = map (name_at line) (beginnings line (length line))

-- the closing quote of an empty quoted label, whose first quote stands just before it: "an empty quoted label is .. 1 there in a roster" (#103)
abbrev pub closes_nothing : List ℕ → ℕ → Bool
closes_nothing line zero = false
closes_nothing line (suc p) = eqb (byte_at line (suc p)) 39 && begins line p && eqb (byte_at line p) 39 && not (eqb (byte_at line (suc (suc p))) 39)

-- outside quotes, what may stand at p: a byte of a bare label, at its beginning or behind another; a quote, at a label's beginning or as the second of two; a space behind a label
abbrev pub may_stand_outside : List ℕ → ℕ → Bool
may_stand_outside line p =
    (is_bare (byte_at line p) && (fresh_at line p || is_bare (byte_before line p)))
    || (eqb (byte_at line p) 39 && (fresh_at line p || eqb (byte_before line p) 39))
    || (eqb (byte_at line p) 32 && (is_bare (byte_before line p) || eqb (byte_before line p) 39))

-- what may stand at p: within quotes any printable byte, but no quote that closes nothing
abbrev pub may_stand_by : Bool → List ℕ → ℕ → Bool
may_stand_by true line p = is_printable (byte_at line p) && not (closes_nothing line p)
may_stand_by false line p = may_stand_outside line p

-- "the first [byte] not allowed"
unfoldable pub stray_at : List ℕ → ℕ → Bool
unfolding begins
stray_at line p = ltb p (length line) && not (may_stand_by (quoted_at line p) line p)

-- p is the sixteenth letter of the name whose label begins at q: "4 counts decoded bytes, its place the first raw byte of the sixteenth" (#103)
abbrev pub sixteenth_of : List ℕ → ℕ → ℕ → Bool
sixteenth_of line p q = begins line q && ltb label_bytes (length (name_at line q)) && eqb p (q + raw_to label_bytes (drop q line))

-- "a sixteenth of a name"
unfoldable pub long_at : List ℕ → ℕ → Bool
unfolding begins name_at
long_at line p = some (sixteenth_of line p) (up_to p)

-- "the first of a seventeenth .. name": as many as the most have begun before it
unfoldable pub many_at : ℕ → List ℕ → ℕ → Bool
many_at most line p = begins line p && eqb (length (beginnings line p)) most

-- the label has no fault of its own: it ends
abbrev pub ends_by : Told → Bool
ends_by (ended n) = true
ends_by (at_fault fault d) = false

-- "the first of a .. repeated name"; a name whose label is at fault, such as "a quote never closed", is "not compared" (#103)
unfoldable pub again_at : List ℕ → ℕ → Bool
again_at line p =
    begins line p && ends_by (told (drop p line)) && ltb (position (name_at line p) (map (name_at line) (beginnings line p))) (length (beginnings line p))

-- "or the line's length where the line is empty or ends in a space"; "a quote never closed is .. 1 at the line's length in a roster" (#103)
unfoldable pub open_at : List ℕ → ℕ → Bool
unfolding in_quotes
open_at line p = eqb p (length line) && (eqb p 0 || eqb (byte_before line p) 32 || in_quotes line)

-- one of these stands at p
unfoldable pub fault_at : ℕ → List ℕ → ℕ → Bool
fault_at most line p = stray_at line p || long_at line p || many_at most line p || again_at line p || open_at line p

-- this one, or the first of the later ones
abbrev pub first_or : Bool → ℕ → ℕ → ℕ
first_or true p q = p
first_or false p q = q

-- the least number from p on that passes the test, of the next n; p + n where none does
unfoldable pub least : (ℕ → Bool) → ℕ → ℕ → ℕ
least test p zero = p
least test p (suc n) = first_or (test p) p (least test (suc p) n)

-- "of several such places the smallest is given"; one past the line's length where the roster is good
unfoldable pub first_fault : ℕ → List ℕ → ℕ
first_fault most line = least (fault_at most line) 0 (suc (length line))

-- the roster has a fault
unfoldable pub faulty : ℕ → List ℕ → Bool
faulty most line = leb (first_fault most line) (length line)
