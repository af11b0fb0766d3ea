-- Why a tree that came with branch counts is turned away (#114): what is at fault, and which comes first.
use Rattle.std.specs.Prelude.{ℕ, ◌*◌, ◌^◌, List, length}
use Rattle.trees.specs.Tree.{Tree, Binary}
use Rattle.trees.specs.Records.{records_in}
use Rattle.roster.specs.Roster.{names}
use Rattle.std.specs.Prelude.{None}
use Rattle.reader.specs.Accepted.{Draws}
use Rattle.reader.specs.declared.Kind.TheVariants.{Species}
use Rattle.counts.specs.Passes.{FirstFault}
use Rattle.demands.specs.CallFaults.{◌before◌, CountFault, LengthFault, RecordsFault}
use Rattle.demands.specs.TextFaults.{TextFault}

-- "16 (the tree drawn is not binary)"
pub data UnresolvedFault (line text : List ℕ) (start : ℕ) : ℕ → ℕ → Type 0 where
  not_binary : {t : Tree} {rest : List ℕ} → Draws Species None line text start t rest → (Binary t → ⊥) → UnresolvedFault line text start 16 0

-- "23 for a missing, fractional or wrong count or a second number, of the first such node to end" (#114)
pub data CountsFault (line text : List ℕ) (start : ℕ) (genes : List ℕ) (count : ℕ) : ℕ → ℕ → Type 0 where
  first_node_at_fault : {place : ℕ} → FirstFault line text start genes count place → CountsFault line text start genes count 23 place

-- what is judged of a tree that is read: 11, 12 for the gene entries and then for either table of 2^n entries, 16, 15 and 23
abbrev pub BehindReading : List ℕ → List ℕ → ℕ → List ℕ → ℕ → List ℕ → List ℕ → ℕ → ℕ → Type 0
BehindReading line text start genes count scores splits =
    CountFault count before LengthFault genes (32 * count) before LengthFault scores (2 ^ length (names line)) before LengthFault splits (2 ^ length (names line))
    before UnresolvedFault line text start
    before RecordsFault (length (names line)) (records_in count genes)
    before CountsFault line text start genes count

-- "after the reader's own, 11, 12, 16 and 15" (#114)
abbrev pub CheckFault : List ℕ → List ℕ → ℕ → List ℕ → ℕ → List ℕ → List ℕ → ℕ → ℕ → Type 0
CheckFault line text start genes count scores splits =
    TextFault Species None line text start before BehindReading line text start genes count scores splits
