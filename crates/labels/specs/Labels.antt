-- A label as it is scanned: its decoded bytes, how many raw bytes it takes, or its fault and the place of that (#103).
use Rattle.std.specs.Prelude.{ℕ, zero, suc, ◌+◌, ◌-◌, Bool, true, false, length, take, drop, replicate, eqb, leb, Result, Ok, Err}
use mathlib.Core.List.{List, [], ◌∷◌, ◌++◌, map, tail}
use Rattle.labels.specs.Bytes.{is_bare, is_plain, run, next_is}
use Rattle.labels.specs.Spelling.{unwritten}
use Rattle.labels.specs.declared.Scanned.{Scanned}
use Rattle.faults.specs.declared.Fault.{Fault}
use Rattle.faults.specs.declared.Fault.TheVariants.{StrayByte, LongWord, TextEnds}
use Rattle.faults.specs.declared.Refusal.{Refusal}

-- "name | 1 to 15 bytes"; "Names are 1 to 15 printable bytes decoded" (#103)
abbrev pub label_bytes : ℕ
label_bytes = 15

-- the bytes that a bare label at the front stands for
unfoldable pub bare_letters : List ℕ → List ℕ
bare_letters s = map unwritten (take (run is_bare s) s)

-- by the byte at hand: it stands for itself, it is a quote whose second half has to follow, or it ends the letters
abbrev pub plain_by : Bool → Bool → ℕ → List ℕ → List ℕ → List ℕ
plain_by true quote b more halved = b ∷ more
plain_by false true b more halved = halved
plain_by false false b more halved = []

-- the second half of a quote stands here, or the first one closed the label
abbrev pub half_by : Bool → List ℕ → List ℕ
half_by true more = 39 ∷ more
half_by false more = []

-- the bytes that stand for a name behind a first quote, as far as they go; where `half` is true, a quote stood just before, and may be the first of two
unfoldable pub letters_from : Bool → List ℕ → List ℕ
letters_from half [] = []
letters_from false (b ∷ s) = plain_by (is_plain b) (eqb b 39) b (letters_from false s) (letters_from true s)
letters_from true (b ∷ s) = half_by (eqb b 39) (letters_from false s)

-- "a quote written twice" (#103): a name as it stands between quotes
abbrev pub twice_by : Bool → ℕ → List ℕ → List ℕ
twice_by true b more = b ∷ b ∷ more
twice_by false b more = b ∷ more

-- each quote of the name twice
unfoldable pub doubled : List ℕ → List ℕ
doubled [] = []
doubled (b ∷ w) = twice_by (eqb b 39) b (doubled w)

-- the bytes that the label at the front stands for, quoted or bare, as far as it goes
abbrev pub letters_by : Bool → List ℕ → List ℕ
letters_by true s = letters_from false (tail s)
letters_by false s = bare_letters s

-- the decoded bytes of the label at the front
unfoldable pub letters : List ℕ → List ℕ
letters s = letters_by (next_is 39 s) s

-- how many raw bytes stand before the letter behind the first k
abbrev pub raw_by : Bool → ℕ → List ℕ → ℕ
raw_by true k s = suc (length (doubled (take k (letters s))))
raw_by false k s = k

-- "its place the first raw byte of the sixteenth" (#103)
unfoldable pub raw_to : ℕ → List ℕ → ℕ
raw_to k s = raw_by (next_is 39 s) k s

-- what a label says: how many raw bytes it takes, or its fault and how many bytes stand before the byte at fault
pub data Told : Type 0 where
  ended : ℕ → Told
  faulty : Fault → ℕ → Told

-- the byte behind n letters is a quote, or it is one that may not stand in a quoted label; "an empty quoted label is 3 at its closing quote" (#103)
abbrev pub closed_by : Bool → ℕ → ℕ → Told
closed_by false n p = faulty StrayByte p
closed_by true zero p = faulty StrayByte p
closed_by true (suc n) p = ended (suc p)

-- what stands behind the n letters of a quoted label, at p: "a quote never closed is 10" (#103)
abbrev pub closing : ℕ → List ℕ → ℕ → Told
closing n [] p = faulty TextEnds p
closing n (b ∷ s) p = closed_by (eqb b 39) n p

-- "4 counts decoded bytes" (#103): within the limit, or at fault at p
abbrev pub limited : Bool → ℕ → Told → Told
limited true p told = told
limited false p told = faulty LongWord p

-- the end of a label: a quoted one has to be closed
abbrev pub end_by : Bool → List ℕ → Told
end_by true s = closing (length (letters s)) (drop (raw_to (length (letters s)) s) s) (raw_to (length (letters s)) s)
end_by false s = ended (run is_bare s)

-- the label at the front of s: from the left, first its limit, then its end
unfoldable pub told : List ℕ → Told
told s = limited (leb (length (letters s)) label_bytes) (raw_to label_bytes s) (end_by (next_is 39 s) s)

-- a name in sixteen bytes, zeros behind it
unfoldable pub padded : List ℕ → List ℕ
padded w = w ++ replicate (16 - length w) 0

-- what was told, at its place: where the label ends and its name, or its fault
abbrev pub scanned_by : Told → List ℕ → ℕ → Result Scanned Refusal
scanned_by (ended n) s at = Ok (record { next = at + n; name = padded (letters s) })
scanned_by (faulty fault d) s at = Err (record { fault = fault; place = at + d })

-- what stands from a place on, as a label
unfoldable pub scanned_at : List ℕ → ℕ → Result Scanned Refusal
scanned_at text at = scanned_by (told (drop at text)) (drop at text) at
