-- Blanks, names and numbers at the front of a text, and what stands behind a node (01, "Tree text").
use Rattle.std.specs.Prelude.{ℕ, zero, suc, ◌+◌, Bool, true, false, take, drop, leb}
use mathlib.Core.List.{List, [], tail}
use Rattle.faults.specs.Faults.{number as number_of}
use Rattle.labels.specs.Bytes.{is_digit, is_blank, run, next_is, next_label}
use Rattle.labels.specs.Labels.{letters, Told, told}
use Rattle.labels.specs.Labels.Told.{ended, faulty}
use Rattle.trees.specs.Tree.{Behind}
use Rattle.tokens.specs.Answers.{Answer, and_then, unexpected}
use Rattle.tokens.specs.Answers.Answer.{parsed, refused}

-- "number after a colon | 1 to 12 bytes"
abbrev pub number_bytes : ℕ
number_bytes = 12

-- "Space, tab, line feed and carriage return may stand between tokens": how many stand at the front, and the text behind them
unfoldable pub blanks : List ℕ → ℕ
blanks s = run is_blank s

-- the text behind the blanks
unfoldable pub skip : List ℕ → List ℕ
skip s = drop (run is_blank s) s

-- a number of c bytes, or "4 | .. thirteenth of a number"
abbrev pub limited : {A : Type 0} → Bool → ℕ → Answer A → Answer A
limited true p answer = answer
limited false p answer = refused 4 (p + number_bytes)

-- the c bytes at the front are a number
abbrev pub numeral : ℕ → List ℕ → ℕ → Answer (List ℕ)
numeral c s p = limited (leb c number_bytes) p (parsed (take c s) (drop c s) (p + c))

-- d digits and a point, then e digits
abbrev pub pointed : ℕ → ℕ → List ℕ → ℕ → Answer (List ℕ)
pointed d zero s p = limited (leb (d + 1) number_bytes) p (unexpected (drop (d + 1) s) (p + (d + 1)))
pointed d (suc e) s p = numeral (d + 1 + suc e) s p

-- d digits: a whole number, or a point follows
abbrev pub fraction : Bool → ℕ → List ℕ → ℕ → Answer (List ℕ)
fraction false d s p = numeral d s p
fraction true d s p = pointed d (run is_digit (drop (d + 1) s)) s p

-- a number begins with a digit
abbrev pub digits : ℕ → List ℕ → ℕ → Answer (List ℕ)
digits zero s p = unexpected s p
digits (suc d) s p = fraction (next_is 46 (drop (suc d) s)) (suc d) s p

-- "A number is digits, or digits, a point and digits"
unfoldable pub number : List ℕ → ℕ → Answer (List ℕ)
number s p = digits (run is_digit s) s p

-- the number behind a colon, blanks between them
unfoldable pub number_behind : List ℕ → ℕ → Answer (List ℕ)
number_behind s p = number (skip s) (p + blanks s)

-- behind d: a second colon and b, or nothing
abbrev pub second_number : Bool → List ℕ → List ℕ → List ℕ → ℕ → Answer Behind
second_number false w d s p = parsed (record { name = w; distance = d; support = [] }) s p
second_number true w d s p =
    and_then (number_behind (tail (skip s)) (p + blanks s + 1)) (λ b s p. parsed (record { name = w; distance = d; support = b }) s p)

-- behind a colon: a second colon and b, or d
abbrev pub first_number : Bool → List ℕ → List ℕ → ℕ → Answer Behind
first_number true w s p =
    and_then (number_behind (tail (skip s)) (p + blanks s + 1)) (λ b s p. parsed (record { name = w; distance = []; support = b }) s p)
first_number false w s p =
    and_then (number_behind s p) (λ d s p. second_number (next_is 58 (skip s)) w d s p)

-- a colon follows, or nothing
abbrev pub numbers_by : Bool → List ℕ → List ℕ → ℕ → Answer Behind
numbers_by false w s p = parsed (record { name = w; distance = []; support = [] }) s p
numbers_by true w s p = first_number (next_is 58 (skip (tail (skip s)))) w (tail (skip s)) (p + blanks s + 1)

-- "after either may follow `:d`, `:d:b` or `::b`"; w is the name that stood before
unfoldable pub numbers : List ℕ → List ℕ → ℕ → Answer Behind
numbers w s p = numbers_by (next_is 58 (skip s)) w s p

-- a label as an answer: its name with the text behind it, or its fault
abbrev pub name_by : Told → List ℕ → ℕ → Answer (List ℕ)
name_by (ended n) s p = parsed (letters s) (drop n s) (p + n)
name_by (faulty fault d) s p = refused (number_of fault) (p + d)

-- the name at the front, decoded: "Names are 1 to 15 printable bytes decoded" (#103)
unfoldable pub name : List ℕ → ℕ → Answer (List ℕ)
name s p = name_by (told s) s p

-- a name follows, or none
abbrev pub inner_name_by : Bool → List ℕ → ℕ → Answer (List ℕ)
inner_name_by false s p = parsed [] s p
inner_name_by true s p = name (skip s) (p + blanks s)

-- "then an optional name": "An inner node's name is dropped too, but its length is judged"
unfoldable pub inner_name : List ℕ → ℕ → Answer (List ℕ)
inner_name s p = inner_name_by (next_label (skip s)) s p
