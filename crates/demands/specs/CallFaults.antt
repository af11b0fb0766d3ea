-- The faults that a call turns away, by number and place (01, "Numbers returned"): what each is, and which comes first.
use Rattle.std.specs.Prelude.{ℕ, ◌*◌, ◌^◌, ◌≤◌, ◌<◌, ◌≡◌, ◌⊎◌, true, false, List, [], length, get_or}
use Rattle.clusters.specs.Sets.{whole}
use Rattle.trees.specs.Records.{SpeciesValid, GeneValid, BinaryOn, records_in}
use Rattle.roster.specs.Roster.{names, fault_at}
use Rattle.roster.specs.Judged.{species_most}
use Rattle.texts.specs.Writing.{written}
use Rattle.weights.specs.declared.Rooting.{Rooting}
use Rattle.weights.specs.declared.Rooting.TheVariants.{Unrooted}
use Rattle.search.specs.Candidates.{Candidate}
use Rattle.counts.specs.Promise.{counts_text}
use Rattle.demands.specs.GeneTrees.{MayEnter}

-- an order of faults: one of the first kind; or, where none of these stands, one of the second
infixr 3 ◌before◌
pub data ◌before◌ (A B : ℕ → ℕ → Type 0) : ℕ → ℕ → Type 0 where
  first : {number place : ℕ} → A number place → (A before B) number place
  later : {number place : ℕ} → ((k p : ℕ) → A k p → ⊥) → B number place → (A before B) number place

-- ---- the faults

-- "1 | roster faulty .. | first byte at fault": "of several such places the smallest is given"; so many names may be on it
pub data RosterFaultOf (most : ℕ) (line : List ℕ) : ℕ → ℕ → Type 0 where
  faulty_roster :
      {place : ℕ} → place ≤ length line → fault_at most line place ≡ true
      → ((p : ℕ) → p < place → fault_at most line p ≡ false) → RosterFaultOf most line 1 place

-- by 01's limit
abbrev pub RosterFault : List ℕ → ℕ → ℕ → Type 0
RosterFault line = RosterFaultOf species_most line

-- "1 | .. n not 1 to 16 | .. 0 for n"
pub data SpeciesFault (n : ℕ) : ℕ → ℕ → Type 0 where
  not_1_to_16 : (n ≡ 0) ⊎ (16 < n) → SpeciesFault n 1 0

-- "17 at 0 for n over 7" (#108)
pub data OverSevenFault (n : ℕ) : ℕ → ℕ → Type 0 where
  over_seven : 7 < n → OverSevenFault n 17 0

-- "11 | gene trees 0 or over 4,096 | 0"
pub data CountFault (count : ℕ) : ℕ → ℕ → Type 0 where
  none_or_many : (count ≡ 0) ⊎ (4096 < count) → CountFault count 11 0

-- "12 | a lent slice too short | 0": it has fewer entries than are needed
pub data LengthFault (lent : List ℕ) (need : ℕ) : ℕ → ℕ → Type 0 where
  too_short : length lent < need → LengthFault lent need 12 0

-- "16 | species record not valid or not binary | 0"
pub data SpeciesRecordFault (n : ℕ) (species : List ℕ) : ℕ → ℕ → Type 0 where
  not_valid_or_binary : (SpeciesValid n species × BinaryOn (whole n) species → ⊥) → SpeciesRecordFault n species 16 0

-- "15 | a record not valid | index of the first"
pub data RecordsFault (n : ℕ) (genes : List (List ℕ)) : ℕ → ℕ → Type 0 where
  first_not_valid :
      {i : ℕ} → i < length genes → (GeneValid n (get_or genes i []) → ⊥) → ((j : ℕ) → j < i → GeneValid n (get_or genes j []))
      → RecordsFault n genes 15 i

-- "19 for an unresolved or incomplete tree, place the first one's index" (#106), where gene trees are counted without a root
pub data RootingFault (rooting : Rooting) (n : ℕ) (genes : List (List ℕ)) : ℕ → ℕ → Type 0 where
  first_unresolved_or_incomplete :
      {i : ℕ} → rooting ≡ Unrooted → i < length genes → (MayEnter n (get_or genes i []) → ⊥) → ((j : ℕ) → j < i → MayEnter n (get_or genes j []))
      → RootingFault rooting n genes 19 i

-- 15 for the writer, which has one record: its index is 0. "the writer takes both" kinds (#104)
pub data RecordFault (line tree : List ℕ) : ℕ → ℕ → Type 0 where
  not_valid : (GeneValid (length (names line)) tree → ⊥) → RecordFault line tree 15 0

-- "13 | number is no cluster .. | that number": "A cluster is a number from 1 to 2^n - 1"
pub data ClusterFault (n a : ℕ) : ℕ → ℕ → Type 0 where
  no_cluster : (a ≡ 0) ⊎ (2 ^ n ≤ a) → ClusterFault n a 13 a

-- "13 | .. allowed byte not 0 or 1 | .. first such index": "2^n bytes, one for each cluster number"
pub data AllowedFault (n : ℕ) (allowed : List ℕ) : ℕ → ℕ → Type 0 where
  first_not_0_or_1 :
      {a : ℕ} → a < 2 ^ n → 1 < get_or allowed a 0 → ((b : ℕ) → b < a → get_or allowed b 0 ≤ 1) → AllowedFault n allowed 13 a

-- "14 | no binary tree over the allowed clusters | 0"
pub data NoTreeFault (n : ℕ) (allowed : List ℕ) : ℕ → ℕ → Type 0 where
  without_tree : ((c : List ℕ) → Candidate n allowed c → ⊥) → NoTreeFault n allowed 14 0

-- ---- the calls

-- "The writer: 1, 15, 12": "fewer bytes than its text"
abbrev pub WriteFault : List ℕ → List ℕ → List ℕ → ℕ → ℕ → Type 0
WriteFault line tree out = RosterFault line before RecordFault line tree before LengthFault out (length (written (names line) tree))

-- "All others: 1, 11, 12, 16, 15, 13, 14, each where it applies", with 19 "straight after 15" (#106): "32 entries for each record counted"
abbrev pub WeightFault : Rooting → ℕ → List ℕ → ℕ → ℕ → ℕ → ℕ → Type 0
WeightFault rooting n genes count a =
    SpeciesFault n before CountFault count before LengthFault genes (32 * count) before RecordsFault n (records_in count genes)
    before RootingFault rooting n (records_in count genes)
    before ClusterFault n a

-- the same of the score of a species tree
abbrev pub ScoreFault : Rooting → ℕ → List ℕ → ℕ → List ℕ → ℕ → ℕ → Type 0
ScoreFault rooting n genes count species =
    SpeciesFault n before CountFault count before LengthFault genes (32 * count) before SpeciesRecordFault n species
    before RecordsFault n (records_in count genes)
    before RootingFault rooting n (records_in count genes)

-- the same of the call that marks the gene trees' clusters: it "writes 2^n bytes"
abbrev pub MarkFault : Rooting → ℕ → List ℕ → ℕ → List ℕ → ℕ → ℕ → Type 0
MarkFault rooting n genes count out =
    SpeciesFault n before CountFault count before LengthFault genes (32 * count) before LengthFault out (2 ^ n)
    before RecordsFault n (records_in count genes)
    before RootingFault rooting n (records_in count genes)

-- what is judged of a search behind the lengths: 15, 19, 13 and 14
abbrev pub BehindLengths : Rooting → ℕ → List ℕ → ℕ → List ℕ → ℕ → ℕ → Type 0
BehindLengths rooting n genes count allowed =
    RecordsFault n (records_in count genes) before RootingFault rooting n (records_in count genes) before AllowedFault n allowed before NoTreeFault n allowed

-- what is judged of it behind its gene entries: "fewer than 2^n for an allowed set or a table", then those
abbrev pub SearchRest : Rooting → ℕ → List ℕ → ℕ → List ℕ → List ℕ → List ℕ → ℕ → ℕ → Type 0
SearchRest rooting n genes count allowed scores splits =
    LengthFault allowed (2 ^ n) before LengthFault scores (2 ^ n) before LengthFault splits (2 ^ n) before BehindLengths rooting n genes count allowed

-- the same of the search
abbrev pub SearchFault : Rooting → ℕ → List ℕ → ℕ → List ℕ → List ℕ → List ℕ → ℕ → ℕ → Type 0
SearchFault rooting n genes count allowed scores splits =
    SpeciesFault n before CountFault count before LengthFault genes (32 * count) before SearchRest rooting n genes count allowed scores splits

-- the same of the search with ties (#111): "fewer than 2^n for .. a table", the third
abbrev pub TiesFault : Rooting → ℕ → List ℕ → ℕ → List ℕ → List ℕ → List ℕ → List ℕ → ℕ → ℕ → Type 0
TiesFault rooting n genes count allowed scores splits ties =
    SpeciesFault n before CountFault count before LengthFault genes (32 * count) before LengthFault ties (2 ^ n)
    before SearchRest rooting n genes count allowed scores splits

-- the same of the engine that goes through all trees (#108): 17 "straight after 1", and no table
abbrev pub PlainFault : Rooting → ℕ → List ℕ → ℕ → List ℕ → ℕ → ℕ → Type 0
PlainFault rooting n genes count allowed =
    SpeciesFault n before OverSevenFault n before CountFault count before LengthFault genes (32 * count) before LengthFault allowed (2 ^ n)
    before BehindLengths rooting n genes count allowed

-- the same of a sheet of candidate trees: "First 1, 11, 12 and 15 refuse the whole call" (#107), and 19
abbrev pub SheetFault : Rooting → ℕ → List ℕ → ℕ → ℕ → ℕ → Type 0
SheetFault rooting n genes count =
    SpeciesFault n before CountFault count before LengthFault genes (32 * count)
    before RecordsFault n (records_in count genes) before RootingFault rooting n (records_in count genes)

-- the same of the writer with branch counts (#114): "1, 11, 12 (genes), 16, 15", and "12 for its text comes last"
abbrev pub WriteCountsFault : List ℕ → List ℕ → ℕ → List ℕ → List ℕ → ℕ → ℕ → Type 0
WriteCountsFault line genes count species out =
    RosterFault line before CountFault count before LengthFault genes (32 * count) before SpeciesRecordFault (length (names line)) species
    before RecordsFault (length (names line)) (records_in count genes)
    before LengthFault out (length (counts_text (names line) genes count species))
