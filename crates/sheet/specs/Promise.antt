-- What `sheet` promises (#107).
use Rattle.std.specs.Prelude.{ℕ, zero, suc, ◌+◌, ◌*◌, ◌≡◌, Bool, true, false, List, [], ◌∷◌, map, length, take, drop, leb}
use Rattle.trees.specs.Records.{records_in}
use Rattle.roster.specs.Verdict.{Test, verdict, length_test, reply_of}
use Rattle.roster.specs.declared.Reply.{Reply}
use Rattle.weights.specs.Count.{score}
use Rattle.weights.specs.declared.Rooting.{Rooting}
use Rattle.lineages.specs.Checks.{species_test, count_test, records_test, rooting_test, score_tests}
use Rattle.sheet.specs.declared.Entry.{Entry}

-- "First 1, 11, 12 and 15 refuse the whole call" (#107), with 19 straight after 15 (#106)
unfoldable pub sheet_tests : Rooting → ℕ → List ℕ → ℕ → List Test
sheet_tests rooting n genes count =
    species_test n ∷ count_test count ∷ length_test (length genes) (32 * count) ∷ records_test n (records_in count genes) ∷ rooting_test rooting n (records_in count genes)
    ∷ []

-- "A position counts whole records of 32 numbers from 0" (#107)
abbrev pub record_at : List ℕ → ℕ → List ℕ
record_at records position = take 32 (drop (32 * position) records)

-- what the single scoring call answers for a species record
abbrev pub scored : Rooting → ℕ → List ℕ → ℕ → List ℕ → Reply
scored rooting n genes count species = reply_of (verdict (score_tests rooting n genes count species)) (score rooting (records_in count genes) species)

-- "Each gets what the single scoring call would give"; "an entry whose record doesn't lie wholly within the lent records gets 12 and score 0" (#107)
abbrev pub entry_by : Bool → ℕ → Reply → Entry
entry_by true position single = record { position = position; number = single.number; score = single.value }
entry_by false position single = record { position = position; number = 12; score = 0 }

-- an entry as the call leaves it: its position stays, whatever stood in its number and score
unfoldable pub entry_for : Rooting → ℕ → List ℕ → ℕ → List ℕ → Entry → Entry
entry_for rooting n genes count records e =
    entry_by (leb (32 * e.position + 32) (length records)) e.position (scored rooting n genes count (record_at records e.position))

-- every entry is filled, or, where the whole call is refused, "no entry altered" (#107)
abbrev pub entries_by : ℕ → (Entry → Entry) → List Entry → List Entry
entries_by zero fill entries = map fill entries
entries_by (suc number) fill entries = entries

-- the promise of `sheet`: its reply, and what stands in the lent entries then
pub record Sheets (rooting : Rooting) (n : ℕ) (genes : List ℕ) (count : ℕ) (records : List ℕ) (entries : List Entry) (r : Reply) (entries_after : List Entry) : Type 0 where
  pub reply : r ≡ reply_of (verdict (sheet_tests rooting n genes count)) 0
  pub filled : entries_after ≡ entries_by (verdict (sheet_tests rooting n genes count)).number (λ e. entry_for rooting n genes count records e) entries
