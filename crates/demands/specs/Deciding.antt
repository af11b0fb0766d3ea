-- Which bytes of a text decide how it is read from an offset on.
use Rattle.std.specs.Prelude.{ℕ, ◌-◌, ◌≤◌, ◌≡◌, List, length, take, drop}
use Rattle.roster.specs.Roster.{byte_before}
use Rattle.nodes.specs.Deciding.{border, AlikeWhereAsked}
use Rattle.reader.specs.declared.Reading.{Reading}

-- from start on the texts have the same first n bytes
abbrev pub SameBytes : List ℕ → List ℕ → ℕ → ℕ → Type 0
SameBytes text text' start n = take n (drop start text') ≡ take n (drop start text)

-- from start on text' goes on behind the first n bytes as text does, as far as a refusal of text by this number at the byte d asks:
-- with a label for 5, 6 and 3 at a quote (#103), with a number for 18 (#113)
abbrev pub GoesOnAlikeFrom : List ℕ → List ℕ → ℕ → ℕ → ℕ → ℕ → Type 0
GoesOnAlikeFrom text text' start number d n =
    AlikeWhereAsked number (drop d (drop start text)) (byte_before (drop start text) n) (drop n (drop start text')) (drop n (drop start text))

-- from start on text' has the bytes that decide a refusal of text by this number at the byte d, and goes on alike behind them as far as the refusal asks
pub record SameBefore (text text' : List ℕ) (start number d : ℕ) : Type 0 where
  pub bytes : SameBytes text text' start (border number (drop start text) d)
  pub alike : GoesOnAlikeFrom text text' start number d (border number (drop start text) d)

-- text' agrees with text on the bytes that decide the reading r of text from start on; a faulty roster (1) is decided by the line alone
pub record Agree (text text' : List ℕ) (start : ℕ) (r : Reading) : Type 0 where
  -- "the offset just after `;`; bytes behind that are not looked at"
  pub tree : r.number ≡ 0 → SameBytes text text' start (r.next - start)
  -- "stops at the first fault met": 3 to 9 are decided by the bytes up to and with the one at fault, a sixteenth byte that is a quote by both its raw ones,
  -- 5 and 6 by those of the whole label, and 18 by those of the whole number, "met when its run ends" (#113);
  -- and by the byte behind these no further than whether it goes on with a label for 5, 6 and 3 at a quote (#103), with a number for 18
  pub fault : 3 ≤ r.number → (r.number ≡ 10 → ⊥) → SameBefore text text' start r.number (r.place - start)
  -- "text ends first | text length": all bytes, and where they end
  pub end : r.number ≡ 10 → (drop start text' ≡ drop start text) × (length text' ≡ length text)
