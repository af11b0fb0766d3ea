-- A text that `check` passes is read by the reader to the record whose score is told, its counts as distances (#114).
use Prim.Native.Nat.{ℕ, ◌-◌, ◌*◌}
use mathlib.Core.Path.{◌≡◌, sym, ap, ◌∙◌, subst}
use mathlib.Core.List.{List, Memᴰ}
use lib.ListN.{length}
use Rattle.trees.specs.Tree.{Tree, cluster, clusters}
use Rattle.trees.specs.Thinned.{all_nodes}
use Rattle.trees.specs.Records.{record_of}
use Rattle.roster.specs.declared.Reply.{Reply}
use Rattle.std.proofs.Common.{None, Some}
use Rattle.nodes.specs.Worth.{behind_of, distance_value}
use Rattle.reader.specs.Promise.{Reads}
use Rattle.reader.specs.declared.Kind.TheVariants.{Species}
use Rattle.reader.specs.declared.Reading.{Reading}
use Rattle.branches.proofs.Counts.{counted-value}
use Rattle.counts.specs.Promise.{weight_in, Checks}
use Rattle.counts.specs.Passes.{DrawsBinary}
use Rattle.counts.proofs.DrawnBinary.{read_as}
use Rattle.counts.proofs.Yes.{says_yes}

module _ (line text : List ℕ) (start : ℕ) where
  -- a text draws one tree
  draws_one : (d d' : DrawsBinary line text start) → d.tree ≡ d'.tree
  draws_one d d' = let same = sym (read_as line text start d) ∙ read_as line text start d' in cc

  -- what the reader answers of it
  pub drawn-reads :
      (d : DrawsBinary line text start) {q : Reading} → Reads Species None line text start q
      → q ≡ record { number = 0; place = 0; next = length text - length d.rest; numbers = record_of (clusters d.tree) }
  unfolding Reads
  drawn-reads d reads = reads ∙ rw (read_as line text start d)

  module _ (genes : List ℕ) (count : ℕ) (scores splits : List ℕ) {r : Reply} {s p : List ℕ} (c : Checks line text start genes count scores splits r s p)
      (yes : r.number ≡ 0) where
    -- the tree that it draws, whose score goes into the distance
    pub passed-draws : DrawsBinary line text start
    passed-draws = ((says_yes line text start genes count scores splits c).0 yes).0.draws

    -- a text that passes is read to the record of that tree
    pub passed_reads :
        (q : Reading) → Reads Species None line text start q
        → (q.number ≡ 0) × (q.numbers ≡ record_of (clusters passed-draws.tree))
    passed_reads q reads = let is = drawn-reads passed-draws reads in (ap (λ (q : Reading). q.number) is, ap (λ (q : Reading). q.numbers) is)

    -- and the distance that is read behind each node is the node's count, in thousandths
    pub passed-distances :
        (d : DrawsBinary line text start) (u : Tree) → Memᴰ u (all_nodes d.tree) → distance_value u ≡ Some (1000 * weight_in genes count (cluster u))
    unfolding distance_value
    passed-distances d u m =
        let passes = ((says_yes line text start genes count scores splits c).0 yes).0 in
        let own = subst (λ (t : Tree). Memᴰ u (all_nodes t)) (draws_one d passes.draws) m in
        counted-value (behind_of u) _ (passes.counts u own)
