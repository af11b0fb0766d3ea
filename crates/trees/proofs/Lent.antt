-- The gene records as they are lent, one after the other, 32 numbers each: what `EqualPieces` says of pieces; wide records are the same with 64.
use Prim.Native.Nat.{ℕ, ◌+◌, ◌-◌, ◌*◌, ◌≤◌, ◌<◌}
use mathlib.Core.Path.{◌≡◌, sym, ◌∙◌}
use mathlib.Core.List.{List, [], ◌∷◌, Memᴰ}
use native.Mathlib.Decide.{dec_le}
use native.Mathlib.Omega.{arith}
use lib.ListN.{length, take, drop, length-take}
use lib.Dec.{ltb}
use borrow.Author.Tests.{lt-ltb, le-ltb}
use Rattle.trees.specs.Records.{records_in}
use Rattle.trees.proofs.EqualPieces.{pieces-length, piece_among, pieces_from, pieces_from_first, pieces_from_next, pieces_from_last, part_from, part_up_to, part-size, pieces-needed}

pub length-records_in : (count : ℕ) (genes : List ℕ) → length (records_in count genes) ≡ count
length-records_in = pieces-length 32

-- the i-th of them is one of them
pub record_among : (i count : ℕ) (genes : List ℕ) → i < count → Memᴰ (take 32 (drop (32 * i) genes)) (records_in count genes)
record_among = piece_among 32

-- ---- the records from the i-th on

abbrev pub records_from : ℕ → ℕ → List ℕ → List (List ℕ)
records_from i count genes = pieces_from 32 i count genes

pub records_from_first : (count : ℕ) (genes : List ℕ) → records_from 0 count genes ≡ records_in count genes
records_from_first = pieces_from_first 32

-- the i-th record, and those behind it
pub records_next : (i count : ℕ) (genes : List ℕ) → i < count → records_from i count genes ≡ take 32 (drop (32 * i) genes) ∷ records_from (i + 1) count genes
records_next = pieces_from_next 32

pub records_from_last : (count : ℕ) (genes : List ℕ) → records_from count count genes ≡ []
records_from_last = pieces_from_last 32

-- the part of the entries that a call is lent
pub part_record : (i : ℕ) (genes : List ℕ) → take (32 * i + 32 - 32 * i) (drop (32 * i) genes) ≡ take 32 (drop (32 * i) genes)
part_record = part_from 32

-- the same part by its end
pub part-before : (i : ℕ) (genes : List ℕ) → 1 ≤ i → take (32 * i - (32 * i - 32)) (drop (32 * i - 32) genes) ≡ take 32 (drop (32 * (i - 1)) genes)
part-before = part_up_to 32

pub part_length : (i count : ℕ) (genes : List ℕ) → i < count → 32 * count ≤ length genes → length (take (32 * i + 32 - 32 * i) (drop (32 * i) genes)) ≡ 32
part_length = part-size 32

-- ---- entries beyond the need

-- the records are those of the entries that are needed
pub records-needed : (count : ℕ) (genes : List ℕ) → records_in count (take (32 * count) genes) ≡ records_in count genes
records-needed = pieces-needed 32

-- whether the entries suffice is seen from the entries that are needed
pub short-needed : (need : ℕ) (l : List ℕ) → ltb (length (take need l)) need ≡ ltb (length l) need
short-needed need l = go (dec_le need (length l))
  where
    go : Dec (need ≤ length l) → ltb (length (take need l)) need ≡ ltb (length l) need
    go (yes h) = le-ltb (length (take need l)) need (omega (arith, length-take need l)) ∙ sym (le-ltb (length l) need h)
    go (no h) =
        lt-ltb (length (take need l)) need (omega (arith, length-take need l)) ∙ sym (lt-ltb (length l) need (omega arith))
