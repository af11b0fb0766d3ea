-- What the functions that read a mapping ask of one another: where each begins, and what it comes to.
use Rattle.std.specs.Prelude.{ℕ, suc, ◌+◌, ◌-◌, ◌≤◌, ◌<◌, ◌≡◌, true, false, cond, List, ◌++◌, length, drop, replicate, Result, Ok, Err}
use Rattle.faults.specs.declared.Fault.TheVariants.{FaultyMapping}
use Rattle.faults.specs.declared.Refusal.{Refusal}
use Rattle.labels.specs.declared.Scanned.{Scanned}
use Rattle.clusters.specs.Sets.{single, union}
use Rattle.trees.specs.Valid.{among}
use Rattle.labels.specs.Bytes.{is_label}
use Rattle.labels.specs.Labels.{told, padded}
use Rattle.labels.specs.Labels.Told.{ended}
use Rattle.roster.specs.Roster.{byte_at, names, name_at, faulty as roster_faulty}
use Rattle.roster.specs.Table.{table}
use Rattle.mapping.specs.Mapping.{is_long, line_begins, item_begins, fresh_at, begins, line_at, who_at, named, named_in, fault_at, faulty}
use Rattle.mapping.specs.Groups.{set_of, groups}
use Rattle.mapping.specs.declared.lines.Individuals.{Individuals}

-- no fault stands before p
abbrev pub Clean : List (List ℕ) → List (List ℕ) → List ℕ → ℕ → Type 0
Clean species individuals text p = (q : ℕ) → q < p → fault_at species individuals text q ≡ false

-- the first fault stands at p
pub record FirstAt (species individuals : List (List ℕ)) (text : List ℕ) (p : ℕ) : Type 0 where
  pub within : p ≤ length text
  pub here : fault_at species individuals text p ≡ true
  pub clean : Clean species individuals text p

-- the table of the names of a good roster
pub record OfRoster (most : ℕ) (line : List ℕ) (count : ℕ) (held : List ℕ) : Type 0 where
  pub good : roster_faulty most line ≡ false
  pub counted : count ≡ length (names line)
  pub tabled : held ≡ table (names line)

-- "20, straight after 1, for a faulty mapping, at the first byte at fault" (#110)
pub record Refused (species individuals : List (List ℕ)) (text : List ℕ) (e : Refusal) : Type 0 where
  pub faulty : e.fault ≡ FaultyMapping
  pub first : FirstAt species individuals text e.place

-- what was read is so, or the first fault stands at the place of the refusal
abbrev pub Reads : {A : Type 0} → List (List ℕ) → List (List ℕ) → List ℕ → (A → Type 0) → Result A Refusal → Type 0
Reads species individuals text So (Ok v) = So v
Reads species individuals text So (Err e) = Refused species individuals text e

-- a part that was read ends behind its beginning, up to the text's end at most
abbrev pub Onward : {A : Type 0} → (A → ℕ) → List ℕ → ℕ → Result A Refusal → Type 0
Onward next text at (Ok v) = (at < next v) × (next v ≤ length text)
Onward next text at (Err e) = Unit {0}

-- the label that begins at q ends before p
pub record EndsBefore (text : List ℕ) (q p : ℕ) : Type 0 where
  pub n : ℕ
  pub says : told (drop q text) ≡ ended n
  pub before : q + n < p

-- a label has to begin at `at`, in this line; nothing is at fault before it, and the labels that begin before it end before it
pub record Begun (species individuals : List (List ℕ)) (text : List ℕ) (line at : ℕ) : Type 0 where
  pub within : at ≤ length text
  pub fresh : fresh_at text at ≡ true
  pub clean : Clean species individuals text at
  pub past : (q : ℕ) → q < at → begins text q ≡ true → EndsBefore text q at
  pub counted : line_at text at ≡ line

-- the label that begins at `at` ends before `next`, and this is its name
pub record LabelEnds (text : List ℕ) (at next : ℕ) (name : List ℕ) : Type 0 where
  pub label : is_label (byte_at text at) ≡ true
  pub n : ℕ
  pub says : told (drop at text) ≡ ended n
  pub place : next ≡ at + n
  pub called : name ≡ padded (name_at text at)

-- the refusal of the mapping for a label's own: "at the first byte at fault (a wrong name's first)" (#110)
abbrev pub refusal_of : ℕ → Refusal → Refusal
refusal_of at e = record { fault = FaultyMapping; place = cond (is_long e.fault) at e.place }

-- the promise of `label_at`
unfoldable pub LabelRead : List ℕ → ℕ → Result Scanned Refusal → Type 0
LabelRead text at r =
    Onward (λ s. s.next) text at r × ((species individuals : List (List ℕ)) (line : ℕ)
    → Begun species individuals text line at
    → line < length species
    → Reads species individuals text (λ s. LabelEnds text at s.next s.name) r)

-- a line of a species begins at `at`, and these individuals are taken before it
pub record Heading (species individuals : List (List ℕ)) (text : List ℕ) (line at taken : ℕ) : Type 0 where
  pub begun : Begun species individuals text line at
  pub starts : line_begins text at ≡ true
  pub all : taken ≡ set_of (named individuals text at)

-- the label of an individual has to begin at `at`; those of this line before it are the group, and with those that were taken before the line they are all before it
pub record Listing (species individuals : List (List ℕ)) (text : List ℕ) (line at taken group : ℕ) : Type 0 where
  pub begun : Begun species individuals text line at
  pub few : line < length species
  pub starts : item_begins text at ≡ true
  pub grouped : group ≡ set_of (named_in individuals text line at)
  pub all : union taken group ≡ set_of (named individuals text at)

-- the promise of `head_at`
unfoldable pub HeadRead : List ℕ → ℕ → ℕ → List ℕ → ℕ → Result ℕ Refusal → Type 0
HeadRead held n i text at r =
    Onward (λ next. next) text at r × ((line : List ℕ) (individuals : List (List ℕ)) (taken : ℕ)
    → OfRoster 16 line n held
    → i < n
    → Heading (names line) individuals text i at taken
    → Reads (names line) individuals text (λ next. Listing (names line) individuals text i next taken 0) r)

-- the label at `at` names an individual that does not stand before, and a byte stands behind it
pub record Met (individuals : List (List ℕ)) (text : List ℕ) (at next one : ℕ) : Type 0 where
  pub label : is_label (byte_at text at) ≡ true
  pub n : ℕ
  pub says : told (drop at text) ≡ ended n
  pub place : next ≡ at + n
  pub here : next < length text
  pub known : who_at individuals text at < length individuals
  pub new : among (who_at individuals text at) (named individuals text at) ≡ false
  pub alone : one ≡ single (who_at individuals text at)

-- a byte stands behind the individuals that were read
abbrev pub Followed : List ℕ → ℕ → Result Individuals Refusal → Type 0
Followed text at (Ok s) = (at < s.next) × (s.next < length text)
Followed text at (Err e) = Unit {0}

-- the promise of `member_at`
unfoldable pub MemberRead : List ℕ → ℕ → List ℕ → ℕ → ℕ → Result Individuals Refusal → Type 0
MemberRead held m text at taken r =
    Followed text at r × ((species : List (List ℕ)) (line : List ℕ) (i before group : ℕ)
    → OfRoster 32 line m held
    → Listing species (names line) text i at before group
    → taken ≡ union before group
    → Reads species (names line) text (λ s. Met (names line) text at s.next s.set) r)

-- a line ends before `at`: its individuals are the group, and with those that were taken before they are all
pub record Listed (species individuals : List (List ℕ)) (text : List ℕ) (line at taken group : ℕ) : Type 0 where
  pub heading : Heading species individuals text (suc line) at (union taken group)
  pub grouped : group ≡ set_of (named_in individuals text line at)

-- the promise of `group_at`
unfoldable pub GroupRead : List ℕ → ℕ → List ℕ → ℕ → ℕ → Result Individuals Refusal → Type 0
GroupRead held m text start taken r =
    Onward (λ s. s.next) text start r × ((species : List (List ℕ)) (line : List ℕ) (i : ℕ)
    → OfRoster 32 line m held
    → Listing species (names line) text i start taken 0
    → Reads species (names line) text (λ s. Listed species (names line) text i s.next taken s.set) r)

-- the mapping is good, and these are its sets of individuals, zeros behind them
pub record Good (species individuals : List (List ℕ)) (text found : List ℕ) : Type 0 where
  pub clean : faulty species individuals text ≡ false
  pub are : found ≡ groups species individuals text ++ replicate (16 - length species) 0

-- the promise of `read_groups`
unfoldable pub GroupsRead : List ℕ → ℕ → List ℕ → ℕ → List ℕ → Result (List ℕ) Refusal → Type 0
GroupsRead held n tokens m text r =
    (line individuals : List ℕ)
    → OfRoster 16 line n held
    → OfRoster 32 individuals m tokens
    → Reads (names line) (names individuals) text (λ found. Good (names line) (names individuals) text found) r
