-- What `read` promises (01, "Numbers returned").
use Rattle.std.specs.Prelude.{ℕ, ◌≡◌, Bool, true, false, List, length, take, drop, replicate, leb, None, Some, Result, Ok, Err}
use Rattle.faults.specs.Faults.{number as fault_number}
use Rattle.faults.specs.declared.Refusal.{Refusal}
use Rattle.clusters.specs.Sets.{whole}
use Rattle.trees.specs.Tree.{Tree, clusters}
use Rattle.trees.specs.Thinned.{clusters_left}
use Rattle.trees.specs.Records.{record_of}
use Rattle.roster.specs.Roster.{names, faulty, first_fault}
use Rattle.roster.specs.Judged.{species_most}
use Rattle.tokens.specs.Answers.{Answer}
use Rattle.tokens.specs.Answers.Answer.{parsed, refused}
use Rattle.tokens.specs.Supports.{is_given, weak, Threshold}
use Rattle.nodes.specs.Reading.{open_most, read_tree}
use Rattle.reader.specs.declared.Kind.{Kind}
use Rattle.reader.specs.declared.Kind.TheVariants.{Species, Gene}
use Rattle.reader.specs.declared.Drawn.{Drawn}
use Rattle.reader.specs.declared.Reading.{Reading}
-- how many names the roster has at most, and how many parentheses may be open at once
pub use Rattle.reader.specs.declared.Limits.{Limits}

-- 01's: "species n | 1 to 16", "open parentheses at once | 15"
abbrev pub narrow : Limits
narrow = record { most = species_most; room = open_most }

-- "text | 65,536 bytes"
abbrev pub text_most : ℕ
text_most = 65536

-- which of n species must be there: "9 is shown never to occur for gene trees; it stays for species text, so the reading call is told the kind" (#104)
abbrev pub needed : Kind → ℕ → ℕ
needed Species n = whole n
needed Gene n = 0

-- the clusters that a tree is read to: "An inner node, not the root, with support strictly below the threshold loses its cluster"; "without a threshold nothing changes" (#113)
abbrev pub clusters_read : Threshold → Tree → List ℕ
clusters_read None t = clusters t
clusters_read (Some amount) t = clusters_left (λ b. weak (Some amount) b) t

-- "A refused call returns .. an all-zero record .. and, from the reader, the offset it was given"; start is that offset.
-- A tree is answered by its record and the offset just after `;`
abbrev pub reading_of : Threshold → ℕ → Answer Tree → Reading
reading_of level start (parsed t rest next) = record { number = 0; place = 0; next = next; numbers = record_of (clusters_read level t) }
reading_of level start (refused number place) = record { number = number; place = place; next = start; numbers = replicate 32 0 }

-- the same by what the layers within have it: the tree that was read, or its refusal
abbrev pub reading_by : ℕ → Result Drawn Refusal → Reading
reading_by start (Ok d) = record { number = 0; place = 0; next = d.next; numbers = d.numbers }
reading_by start (Err e) = record { number = fault_number e.fault; place = e.place; next = start; numbers = replicate 32 0 }

-- "A start beyond the text gives 10"
abbrev pub from_start : Limits → Kind → Threshold → Bool → List (List ℕ) → List ℕ → ℕ → Answer Tree
from_start limits kind level true ns text start = read_tree (is_given level) ns limits.room (needed kind (length ns)) (drop start text) start
from_start limits kind level false ns text start = refused 10 (length text)

-- "2 | text over 65,536 bytes | 65,536"
abbrev pub in_limit : Limits → Kind → Threshold → Bool → List (List ℕ) → List ℕ → ℕ → Answer Tree
in_limit limits kind level true ns text start = from_start limits kind level (leb start (length text)) ns text start
in_limit limits kind level false ns text start = refused 2 text_most

-- "1 | roster faulty | first byte at fault"
abbrev pub on_roster : Limits → Kind → Threshold → Bool → List ℕ → List ℕ → ℕ → Answer Tree
on_roster limits kind level true line text start = refused 1 (first_fault limits.most line)
on_roster limits kind level false line text start = in_limit limits kind level (leb (length text) text_most) (names line) text start

-- "Order for text: 1, 2, then as met"
unfoldable pub answer_within : Limits → Kind → Threshold → List ℕ → List ℕ → ℕ → Answer Tree
answer_within limits kind threshold line text start = on_roster limits kind threshold (faulty limits.most line) line text start

-- by 01's limits
abbrev pub answer_to : Kind → Threshold → List ℕ → List ℕ → ℕ → Answer Tree
answer_to kind threshold line text start = answer_within narrow kind threshold line text start

-- the promise of `read`
unfoldable pub Reads : Kind → Threshold → List ℕ → List ℕ → ℕ → Reading → Type 0
Reads kind threshold line text start r = r ≡ reading_of threshold start (answer_to kind threshold line text start)

-- what `read_into` leaves in the table that it is lent, where a tree is answered: at its front the clusters that the tree is read to, in the order in which its nodes end
unfoldable pub Stores : Threshold → Answer Tree → List ℕ → Type 0
Stores threshold answer found =
    (t : Tree) (rest : List ℕ) (next : ℕ) → answer ≡ parsed t rest next → take (length (clusters_read threshold t)) found ≡ clusters_read threshold t
