-- Why a text is turned away (01, "Numbers returned"): "Order for text: 1, 2, then as met".
use Rattle.std.specs.Prelude.{ℕ, ◌≤◌, ◌<◌, ◌≡◌, false, List, length, drop}
use Rattle.roster.specs.Roster.{names, faulty}
use Rattle.tokens.specs.Supports.{is_given}
use Rattle.tokens.specs.Supports.{Threshold}
use Rattle.std.specs.Prelude.{None}
use Rattle.reader.specs.Promise.{narrow, text_most, needed}
use Rattle.reader.specs.declared.Limits.{Limits}
use Rattle.reader.specs.WidePromise.{wide}
use Rattle.reader.specs.declared.Kind.{Kind}
use Rattle.reader.specs.declared.Kind.TheVariants.{Gene}
use Rattle.meanings.specs.Meaning.{Refusal}
use Rattle.demands.specs.CallFaults.{RosterFaultOf}

-- the fault of a text that is read from start on as a tree of the kind, with the threshold or without one, by the number and the place that are given for it
pub data TextFaultWithin (limits : Limits) (kind : Kind) (threshold : Threshold) (line text : List ℕ) (start : ℕ) : ℕ → ℕ → Type 0 where
  -- "1 | roster faulty | first byte at fault"
  of_roster : {number place : ℕ} → RosterFaultOf limits.most line number place → TextFaultWithin limits kind threshold line text start number place
  -- "2 | text over 65,536 bytes | 65,536"
  too_long : faulty limits.most line ≡ false → text_most < length text → TextFaultWithin limits kind threshold line text start 2 text_most
  -- "A start beyond the text gives 10": "text length"
  beyond :
      faulty limits.most line ≡ false → length text ≤ text_most → length text < start
      → TextFaultWithin limits kind threshold line text start 10 (length text)
  -- 3 to 10 "as met", with what each says of the text; 9 is for a species that the kind needs (#104), and 18 is said "only where a threshold is given" (#113)
  as_met :
      {number place : ℕ}
      → faulty limits.most line ≡ false → length text ≤ text_most → start ≤ length text
      → Refusal (is_given threshold) (names line) limits.room (needed kind (length (names line))) (drop start text) start number place
      → TextFaultWithin limits kind threshold line text start number place

-- by 01's limits
abbrev pub TextFault : Kind → Threshold → List ℕ → List ℕ → ℕ → ℕ → ℕ → Type 0
TextFault kind threshold line text start = TextFaultWithin narrow kind threshold line text start

-- of a gene tree on individuals: "the second roster gives 1 for a fault or a thirty-third name"; "8 is for the thirty-second parenthesis" (#110)
abbrev pub StandTextFault : List ℕ → List ℕ → ℕ → ℕ → ℕ → Type 0
StandTextFault individuals text start = TextFaultWithin wide Gene None individuals text start
