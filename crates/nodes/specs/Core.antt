-- What the pieces of the reader say: for each case of their answers the number and the place, or what was read and where reading goes on.
use Rattle.std.specs.Prelude.{ℕ, ◌+◌, ◌-◌, ◌*◌, ◌^◌, ◌≤◌, ◌<◌, ◌≡◌, Bool, true, false, List, [], ◌∷◌, ◌++◌, length, drop, set, Result, Ok, Err}
use Rattle.std.proofs.lemmas.List.Edits.{sets}
use Rattle.clusters.specs.Sets.{single, union, size}
use Rattle.labels.specs.Bytes.{next_is}
use Rattle.labels.specs.Labels.{label_bytes, letters, padded}
use Rattle.trees.specs.Tree.{Tree, Forest, cluster, cluster_of}
use Rattle.trees.specs.Tree.Tree.{leaf, node}
use Rattle.trees.specs.Thinned.{unless_lost, left_below, left_below_of}
use Rattle.roster.specs.Roster.{position}
use Rattle.roster.specs.Table.{slots}
use Rattle.tokens.specs.Answers.{Answer, and_then}
use Rattle.tokens.specs.Answers.Answer.{parsed}
use Rattle.tokens.specs.Says.{refusal, stray_at}
use Rattle.tokens.specs.Supports.{is_given, below, weak, Threshold}
use Rattle.faults.specs.declared.Fault.TheVariants.{SingleChild}
use Rattle.faults.specs.declared.Refusal.{Refusal}
use Rattle.tokens.specs.declared.answer.Figures.{Figures}
use Rattle.nodes.specs.Reading.{leaf_at, read_node, read_forest}
use Rattle.nodes.specs.declared.answer.Cursor.{Cursor}
use Rattle.nodes.specs.declared.Reader.{Reader}
use Rattle.nodes.specs.declared.answer.Node.{Node}

-- "7 | `)` closes a single child", or nothing that may stand here does
abbrev pub no_comma_by : Bool → List ℕ → ℕ → Refusal
no_comma_by true s p = record { fault = SingleChild; place = p }
no_comma_by false s p = stray_at s p

-- no comma behind a first child: 7 at a closing parenthesis, else 3 or 10
unfoldable pub no_comma_at : List ℕ → ℕ → Refusal
no_comma_at s p = no_comma_by (next_is 41 s) s p

-- what is kept of a node, or of a list of nodes: the set of its leaves, the species met by then, and how many clusters were stored by then
pub record Met : Type 0 where
  pub mask : ℕ
  pub seen : ℕ
  pub stored : ℕ

-- what is left of the clusters of a node (#113): within it by the threshold; its own threshold is another only for the root, "not the root", and then none
unfoldable pub left_in : Threshold → Threshold → Tree → List ℕ
left_in own within (leaf i b) = single i ∷ []
left_in own within (node t f b) =
    left_below (λ b. weak within b) t ++ left_below_of (λ b. weak within b) f ++ unless_lost (weak own b) (union (cluster t) (cluster_of f))

-- the same of the nodes of a list
unfoldable pub left_in_of : Threshold → Forest → List ℕ
left_in_of threshold f = left_below_of (λ b. weak threshold b) f

-- a node that was read, as the code has it: its leaves, and what was seen and stored before
abbrev pub tree_met : Threshold → Threshold → ℕ → ℕ → Tree → Met
tree_met own threshold seen stored t = record { mask = cluster t; seen = union seen (cluster t); stored = stored + length (left_in own threshold t) }

-- the same of the nodes of a list
abbrev pub forest_met : Threshold → ℕ → ℕ → Forest → Met
forest_met threshold seen stored f = record { mask = cluster_of f; seen = union seen (cluster_of f); stored = stored + length (left_in_of threshold f) }

-- a node was read, or a fault was met
abbrev pub node_says : List ℕ → Result Node Refusal → Answer Met
node_says text (Ok n) =
    parsed (record { mask = n.mask; seen = n.next.seen; stored = n.next.stored }) (drop n.next.at text) n.next.at
node_says text (Err e) = refusal e

-- how many clusters are stored behind a node that ends, by whether its own is lost
abbrev pub stored_by : Bool → ℕ → ℕ
stored_by true stored = stored
stored_by false stored = stored + 1

-- a node ends behind its numbers, and its cluster comes into the list of the clusters stored, unless it is lost
abbrev pub ended_as : Threshold → ℕ → ℕ → ℕ → Figures → Node
ended_as own mask seen stored e = record {
  mask = mask;
  next = record { at = e.next; seen = seen; stored = stored_by (below own e.support.value) stored };
}

-- the table, by whether the node's own cluster is lost
abbrev pub kept_by : Bool → ℕ → ℕ → List ℕ → List ℕ
kept_by true mask stored found = found
kept_by false mask stored found = set found stored mask

-- the table with the node's own cluster stored, where it is not lost
abbrev pub kept_as : Threshold → ℕ → ℕ → List ℕ → Figures → List ℕ
kept_as own mask stored found e = kept_by (below own e.support.value) mask stored found

-- the table has these names, as many as are counted: a name is found where it stands among them
pub record Holds (names : List (List ℕ)) (count : ℕ) (table : List ℕ) : Type 0 where
  pub counted : length names ≡ count
  pub finds : (s : List ℕ) → length (letters s) ≤ label_bytes → position (padded (letters s)) (slots count table) ≡ position (letters s) names

-- what the reader of a node is handed: a table of names, and room for two clusters for each
pub record Given (count : ℕ) (table found : List ℕ) (seen stored : ℕ) : Type 0 where
  pub holds : (names : List (List ℕ)) × Holds names count table
  pub wide : 2 * count ≤ length found
  pub below : seen < 2 ^ count
  pub spare : stored ≤ 2 * size seen

-- a reader is handed a cursor and the table for the clusters
abbrev pub Handed : Reader → Cursor → List ℕ → Type 0
Handed reader c found = Given reader.count reader.table.now found c.seen c.stored

-- the reader of a node says what the definition answers, and what is left of the tree's clusters stands in order from `stored` on
pub record NodeReads
    (own threshold : Threshold) (text : List ℕ) (seen stored : ℕ) (before after : List ℕ) (answer : Answer Tree) (r : Result Node Refusal)
    : Type 0 where
  pub says : node_says text r ≡ and_then answer (λ t rest q. parsed (tree_met own threshold seen stored t) rest q)
  pub stores : (t : Tree) (rest : List ℕ) (q : ℕ) → answer ≡ parsed t rest q → after ≡ sets before stored (left_in own threshold t)

-- the same for a list
pub record ListReads (threshold : Threshold) (text : List ℕ) (seen stored : ℕ) (before after : List ℕ) (answer : Answer Forest) (r : Result Node Refusal) : Type 0 where
  pub says : node_says text r ≡ and_then answer (λ f rest q. parsed (forest_met threshold seen stored f) rest q)
  pub stores : (f : Forest) (rest : List ℕ) (q : ℕ) → answer ≡ parsed f rest q → after ≡ sets before stored (left_in_of threshold f)

-- the promise of `leaf`: for all names that the table holds, and whatever its own threshold is, for a leaf never loses its cluster
unfoldable pub ReadsLeaf : Reader → Cursor → List ℕ → List ℕ → Result Node Refusal → Type 0
ReadsLeaf reader c before after r =
    (own : Threshold) (names : List (List ℕ))
    → Holds names reader.count reader.table.now
    → NodeReads own reader.threshold reader.text.now c.seen c.stored before after
    (leaf_at (is_given reader.threshold) names c.seen (drop c.at reader.text.now) c.at) r

-- the promise of `node`: for all names that the table holds, and at every depth of calls above the measure
unfoldable pub ReadsNode : Threshold → Reader → Cursor → ℕ → List ℕ → List ℕ → Result Node Refusal → Type 0
ReadsNode own reader c room before after r =
    (names : List (List ℕ))
    → Holds names reader.count reader.table.now
    → (k : ℕ)
    → 2 * (length reader.text.now - c.at) < k
    → NodeReads own reader.threshold reader.text.now c.seen c.stored before after
    (read_node (is_given reader.threshold) k names room c.seen (drop c.at reader.text.now) c.at) r

-- the promise of `list`: the same, and its measure is one more
unfoldable pub ReadsList : Reader → Cursor → ℕ → List ℕ → List ℕ → Result Node Refusal → Type 0
ReadsList reader c room before after r =
    (names : List (List ℕ))
    → Holds names reader.count reader.table.now
    → (k : ℕ)
    → 2 * (length reader.text.now - c.at) + 1 < k
    → ListReads reader.threshold reader.text.now c.seen c.stored before after
    (read_forest (is_given reader.threshold) k names room c.seen (drop c.at reader.text.now) c.at) r
