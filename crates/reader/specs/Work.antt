-- What the parts of the calls say of a whole tree: a node and `;`, with the species that are needed, and what is answered to a line and a text.
use Rattle.std.specs.Prelude.{ℕ, ◌-◌, ◌*◌, ◌<◌, List, length, drop, Result, None}
use Rattle.tokens.specs.Supports.{is_given, Threshold}
use Rattle.nodes.specs.Reading.{read_tree_to}
use Rattle.nodes.specs.Core.{Holds, NodeReads}
use Rattle.faults.specs.declared.Refusal.{Refusal}
use Rattle.nodes.specs.declared.Reader.{Reader}
use Rattle.nodes.specs.declared.answer.Node.{Node}
use Rattle.reader.specs.Promise.{Limits, answer_within}
use Rattle.reader.specs.declared.Kind.{Kind}

-- the promise of `tree`: the root, whose own threshold is none, keeps its cluster (#113)
unfoldable pub ReadsTree : Reader → ℕ → ℕ → ℕ → List ℕ → List ℕ → Result Node Refusal → Type 0
ReadsTree reader needed start room before after r =
    (names : List (List ℕ))
    → Holds names reader.count reader.table.now
    → (k : ℕ)
    → 2 * (length reader.text.now - start) < k
    → NodeReads None reader.threshold reader.text.now 0 0 before after
    (read_tree_to (is_given reader.threshold) k names room needed (drop start reader.text.now) start) r

-- the promise of `answered`: what is answered to the line and the text within the limits, and where it is a tree, what is left of its clusters stands at the front of the table
unfoldable pub ReadsAnswer : Limits → Kind → Threshold → List ℕ → List ℕ → ℕ → List ℕ → List ℕ → Result Node Refusal → Type 0
ReadsAnswer limits kind threshold line text start before after r =
    NodeReads None threshold text 0 0 before after (answer_within limits kind threshold line text start) r
