-- Trees that come with branch counts (#114): what goes with a yes, by what the single calls reply, and what the writer with counts accepts.
use Rattle.std.specs.Prelude.{ℕ, ◌+◌, ◌*◌, ◌^◌, ◌≤◌, ◌<◌, ◌≡◌, ◌↔◌, false, length, get_or, take}
use Rattle.std.specs.Prelude.{Option, Some}
use mathlib.Core.List.{List, map, Memᴰ}
use Rattle.trees.specs.Tree.{Tree, cluster, clusters}
use Rattle.trees.specs.Thinned.{all_nodes}
use Rattle.trees.specs.Records.{record_of, records_in}
use Rattle.roster.specs.Roster.{names, faulty}
use Rattle.roster.specs.Judged.{species_most}
use Rattle.roster.specs.declared.Reply.{Reply}
use Rattle.std.specs.Prelude.{None, Some}
use Rattle.nodes.specs.Worth.{behind_of, distance_value}
use Rattle.reader.specs.Accepted.{Draws}
use Rattle.reader.specs.declared.Kind.TheVariants.{Species}
use Rattle.reader.specs.declared.Reading.{Reading}
use Rattle.branches.specs.Ends.{count_in}
use Rattle.weights.specs.Count.{score}
use Rattle.weights.specs.declared.Rooting.TheVariants.{Rooted}
use Rattle.lineages.specs.Promise.{Weighs, Scores}
use Rattle.search.specs.Candidates.{BinarySpecies}
use Rattle.counts.specs.Promise.{weight_in, counts_text}
use Rattle.demands.specs.Lots.{Searched, Lent}
use Rattle.demands.specs.Scorable.{Scorable}

-- a search "over all clusters" (#114) for these gene trees, which "are rooted": every cluster is marked, and the call is lent enough
pub record OverAllClusters (genes : List ℕ) (count : ℕ) {n : ℕ} (q : Searched Rooted n) : Type 0 where
  pub as_many : q.count ≡ count
  pub gene_entries : take (32 * count) q.genes ≡ take (32 * count) genes
  pub every : (a : ℕ) → 1 ≤ a → a < 2 ^ n → get_or q.allowed a 0 ≡ 1
  pub byte_0 : get_or q.allowed 0 0 ≤ 1
  pub lent : Lent q

-- the counts behind the nodes of a drawn tree, in the order in which they end
abbrev pub counts_of : Tree → List (Option ℕ)
counts_of t = map (λ (u : Tree). count_in (behind_of u)) (all_nodes t)

-- "each number is the weight of that node's cluster" (#114), by the call that weighs
pub record CountsWeighed (n : ℕ) (genes : List ℕ) (count : ℕ) (t : Tree) : Type 0 where
  pub each : (u : Tree) → Memᴰ u (all_nodes t) → (w : Reply) → Weighs Rooted n genes count (cluster u) w → (w.number ≡ 0) × (count_in (behind_of u) ≡ Some w.value)

-- what the reader makes of a text that passes, its counts read as distances (#114): the record of the tree that is drawn, whose nodes have the weights of their clusters
-- as distances, in thousandths
pub record CountsAsDistances (line text : List ℕ) (start : ℕ) (genes : List ℕ) (count : ℕ) (q : Reading) : Type 0 where
  pub is_read : q.number ≡ 0
  pub tree : Tree
  pub rest : List ℕ
  pub draws : Draws Species None line text start tree rest
  pub numbers : q.numbers ≡ record_of (clusters tree)
  pub distances :
      (u : Tree) → Memᴰ u (all_nodes tree) → distance_value u ≡ Some (1000 * weight_in genes count (cluster u))

-- "With a yes goes the distance of its score above the least one over all clusters" (#114), by the calls that score and search
pub record GoesWithYes (n : ℕ) (genes : List ℕ) (count : ℕ) (tree : List ℕ) (distance : ℕ) : Type 0 where
  pub above :
      (q : Searched Rooted n) → OverAllClusters genes count q → (t : Reply) → Scores Rooted n genes count tree t
      → (q.reply.number ≡ 0) × (t.number ≡ 0) × (distance + q.reply.score ≡ t.value)
  -- it is 0 exactly when no tree scores less
  pub nearest : (distance ≡ 0) ↔ ((c : List ℕ) → BinarySpecies n c → score Rooted (records_in count genes) tree ≤ score Rooted (records_in count genes) c)

-- what the writer with counts accepts: a good roster, what the scoring call accepts, and as many bytes as its text has
pub record CountsWritable (line genes : List ℕ) (count : ℕ) (species out : List ℕ) : Type 0 where
  pub roster_good : faulty species_most line ≡ false
  pub scorable : Scorable Rooted (length (names line)) genes count species
  pub out_fits : length (counts_text (names line) genes count species) ≤ length out
