-- What the functions that write a node ask of one another: the names in a table, and a cluster of a record that draws a tree.
use Rattle.std.specs.Prelude.{ℕ, zero, suc, ◌+◌, ◌*◌, ◌≤◌, ◌<◌, ◌≡◌, Bool, true, false, ◌==◌, List, [], ◌∷◌, length, get_or, take, drop, Option, None, Some}
use Rattle.std.specs.List.{position_or_len}
use denote.Ref.{Bor}
use Rattle.clusters.specs.Sets.{Has, single, within}
use Rattle.labels.specs.Bytes.{run}
use Rattle.trees.specs.Lists.{Among}
use Rattle.trees.specs.Records.{count, listed, ValidOn}
use Rattle.trees.specs.Drawn.{children, drawn}
use Rattle.roster.specs.Table.{non_zero}
use Rattle.printing.specs.Words.{decimal}
use Rattle.texts.specs.Writing.{label, node_with}

-- the name that stands in the i-th sixteen of a table: its bytes up to the first 0
unfoldable pub name_in : List ℕ → ℕ → List ℕ
name_in table i = take (run non_zero (take 16 (drop (16 * i) table))) (drop (16 * i) table)

-- the first n names of a table
unfoldable pub names_in : ℕ → List ℕ → List (List ℕ)
unfolding name_in
names_in zero table = []
names_in (suc n) table = name_in table 0 ∷ names_in n (drop 16 table)

-- n bytes where the test holds, else none
abbrev pub bytes_if : Bool → ℕ → ℕ
bytes_if true n = n
bytes_if false n = 0

-- the bytes of the labels of those of the first n species that are in s
unfoldable pub labels_in : List (List ℕ) → ℕ → ℕ → ℕ
labels_in names s zero = 0
labels_in names s (suc i) = labels_in names s i + bytes_if (within (single i) s) (length (label (get_or names i [])))

-- a is one of the clusters of a valid record of at most sixteen species
pub record Listed (r : List ℕ) (a : ℕ) : Type 0 where
  pub all : ℕ
  pub sixteen : all < 65536
  pub valid : ValidOn all r
  pub among : Among a (listed r)

-- x is the child of a that holds the species i
pub record ChildWith (r : List ℕ) (a i x : ℕ) : Type 0 where
  pub child : Among x (children (listed r) a)
  pub holds : Has x i

-- ---- the counts of a record's clusters: none, or one for each, at the index at which the cluster stands

-- where there are any, there is one for each of m clusters
abbrev pub Enough : Option (List ℕ) → ℕ → Type 0
Enough None m = Unit {0}
Enough (Some counts) m = m < length counts

-- the counts that are lent
abbrev pub lent : Option (Bor (List ℕ)) → Option (List ℕ)
lent None = None
lent (Some counts) = Some counts.now

-- the note of the cluster at index i: nothing where there are no counts, else a colon and its count
abbrev pub note_at : Option (List ℕ) → ℕ → List ℕ
note_at None i = []
note_at (Some counts) i = 58 ∷ decimal (get_or counts i 0)

-- notes that the counts give, entry for entry
pub record Notes (counts : Option (List ℕ)) (r : List ℕ) (notes : ℕ → List ℕ) : Type 0 where
  pub each : (i : ℕ) → 1 ≤ i → i ≤ count r → notes (get_or r i 0) ≡ note_at counts i

-- such notes: that of a cluster by where it stands
unfoldable pub note_in : Option (List ℕ) → List ℕ → ℕ → List ℕ
note_in counts r a = note_at counts (suc (position_or_len (λ c. c == a) (listed r)))

-- the bytes of the notes of the first m clusters of a record
unfoldable pub notes_to : Option (List ℕ) → ℕ → ℕ
notes_to counts zero = 0
notes_to counts (suc i) = notes_to counts i + length (note_at counts (suc i))

-- the text of the node of a cluster, with the notes that the counts give, over a table of 32 names
unfoldable pub cluster_text : Option (List ℕ) → List ℕ → List ℕ → ℕ → List ℕ
cluster_text counts table r a = node_with (note_in counts r) (names_in 32 table) (drawn (listed r) a)
