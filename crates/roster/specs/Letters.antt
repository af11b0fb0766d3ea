-- Rosters of letters and digits: their names and faults as 01 says them. A line without quotes and underscores is judged so still (proofs/OfLetters).
use Rattle.std.specs.Prelude.{ℕ, suc, ◌-◌, Bool, not, ◌&&◌, ◌||◌, List, map, length, drop, eqb, leb, ltb}
use Rattle.trees.specs.Lists.{keep, up_to}
use Rattle.labels.specs.Bytes.{is_name, run}
use Rattle.labels.specs.Labels.{label_bytes}
use Rattle.roster.specs.Roster.{byte_at, byte_before, position, least}
use Rattle.labels.specs.Base.{word}

-- a name, "a whole run of letters and digits", begins at p
unfoldable pub base_begins : List ℕ → ℕ → Bool
base_begins line p = is_name (byte_at line p) && not (is_name (byte_before line p))

-- where the names that begin before p begin
unfoldable pub base_beginnings : List ℕ → ℕ → List ℕ
base_beginnings line p = keep (base_begins line) (up_to p)

-- the name that begins at p
unfoldable pub base_name_at : List ℕ → ℕ → List ℕ
base_name_at line p = word (drop p line)

-- the names of the line, from the left: "The first name is species 0"
unfoldable pub base_names : List ℕ → List (List ℕ)
base_names line = map (base_name_at line) (base_beginnings line (length line))

-- "the first [byte] not allowed": neither of a name nor a space behind one
unfoldable pub base_stray_at : List ℕ → ℕ → Bool
base_stray_at line p = ltb p (length line) && not (is_name (byte_at line p) || (eqb (byte_at line p) 32 && is_name (byte_before line p)))

-- "a sixteenth of a name"
unfoldable pub base_long_at : List ℕ → ℕ → Bool
base_long_at line p = leb label_bytes p && base_begins line (p - label_bytes) && ltb label_bytes (run is_name (drop (p - label_bytes) line))

-- "the first of a seventeenth .. name": as many as the most have begun before it
unfoldable pub base_many_at : ℕ → List ℕ → ℕ → Bool
base_many_at most line p = base_begins line p && eqb (length (base_beginnings line p)) most

-- "the first of a .. repeated name"
unfoldable pub base_again_at : List ℕ → ℕ → Bool
base_again_at line p = base_begins line p && ltb (position (base_name_at line p) (map (base_name_at line) (base_beginnings line p))) (length (base_beginnings line p))

-- "or the line's length where the line is empty or ends in a space"
unfoldable pub base_open_at : List ℕ → ℕ → Bool
base_open_at line p = eqb p (length line) && (eqb p 0 || eqb (byte_before line p) 32)

-- one of these stands at p
unfoldable pub base_fault_at : ℕ → List ℕ → ℕ → Bool
base_fault_at most line p = base_stray_at line p || base_long_at line p || base_many_at most line p || base_again_at line p || base_open_at line p

-- "of several such places the smallest is given"; one past the line's length where the roster is good
unfoldable pub base_first_fault : ℕ → List ℕ → ℕ
base_first_fault most line = least (base_fault_at most line) 0 (suc (length line))

-- the roster has a fault
unfoldable pub base_faulty : ℕ → List ℕ → Bool
base_faulty most line = leb (base_first_fault most line) (length line)
