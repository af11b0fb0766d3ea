-- The counts of a counted tree are right: decimal digits read back, and each node bears the count of its own cluster.
use Prim.Native.Nat.{ℕ, ◌+◌, ◌-◌, ◌*◌, ◌^◌, ◌<◌}
use mathlib.Core.Path.{◌≡◌, refl, sym, ap, ap₂, ◌∙◌}
use mathlib.Core.Bool.{true}
use mathlib.Core.List.Memᴰ.{head as here}
use mathlib.Core.List.Memᴰ.{tail as there}
use mathlib.Core.List.{List, [], ◌∷◌, ◌++◌, map, map-append, append-nil}
use Rattle.std.proofs.Common.{Some, None}
use lib.ListN.{length, length-map}
use borrow.Author.Tests.{eq-eqb, lt-ltb}
use Rattle.labels.specs.Bytes.{is_digit, run}
use Rattle.labels.proofs.RunRules.{run_some, run-exact}
use Rattle.trees.specs.Lists.{Among}
use Rattle.trees.specs.Tree.{Tree, Forest, Behind, cluster, cluster_of, clusters, clusters_of}
use Rattle.trees.specs.Tree.Tree.{leaf, node}
use Rattle.trees.specs.Tree.Forest.{last, more}
use Rattle.trees.specs.Thinned.{all_nodes, all_nodes_of}
use Rattle.tokens.specs.Values.{written, written_behind}
use Rattle.nodes.specs.Worth.{behind_of}
use Rattle.branches.specs.Ends.{End, is_count, count_in}
use Rattle.printing.specs.Words.{decimal}
use Rattle.printing.specs.Value.{value_of, value_behind}
use Rattle.printing.proofs.Digits.{decimal-value}
use Rattle.texts.specs.Writing.{bearing, bearing_all, count_behind}
use Rattle.writer.proofs.Derives.{decimal-run}
use Rattle.counts.specs.Promise.{first_wrong}

-- ---- decimal digits read back

-- what digits write is what they say
written-says : (v : ℕ) (l : List ℕ) → written_behind v l ≡ value_behind v l
unfolding written_behind value_behind
written-says v [] = refl
written-says v (d ∷ l) = written-says (10 * v + (d - 48)) l

written-decimal : (x : ℕ) → x < 10 ^ 20 → written (decimal x) ≡ x
unfolding written value_of
written-decimal x small = written-says 0 (decimal x) ∙ decimal-value x small

-- they are a count
decimal-count : (x : ℕ) → x < 10 ^ 20 → is_count (decimal x) ≡ true
unfolding is_count run
decimal-count x small =
    let digits = decimal-run x [] small in
    let all : run is_digit (decimal x) ≡ length (decimal x) = rw append-nil at (run-exact digits refl) in
    rw (lt-ltb 0 (length (decimal x)) (run_some digits), eq-eqb (run is_digit (decimal x)) (length (decimal x)) all)

pub count-read : (counts : ℕ → ℕ) (a : ℕ) → counts a < 10 ^ 20 → count_in (count_behind counts a) ≡ Some (counts a)
unfolding count_in
count-read counts a small = rw (decimal-count (counts a) small) (ap Some (written-decimal (counts a) small))

-- ---- node by node

module _ (behind : ℕ → Behind) where
  joined :
      (l l' : List Tree) (k k' : List ℕ) → map behind_of l ≡ map behind k → map behind_of l' ≡ map behind k'
      → map behind_of (l ++ l') ≡ map behind (k ++ k')
  joined l l' k k' e e' = map-append behind_of l l' ∙ ap₂ ◌++◌ e e' ∙ sym (map-append behind k k')

  -- what is written behind the nodes, in the order in which they end, is that of their clusters
  mutual
    unfolding bearing bearing_all all_nodes all_nodes_of clusters clusters_of cluster cluster_of

    pub bearing-behinds : (t : Tree) → map behind_of (all_nodes (bearing behind t)) ≡ map behind (clusters t)
    bearing-behinds (leaf i b) = refl
    bearing-behinds (node t f b) =
        let inside = joined (all_nodes (bearing behind t)) (all_nodes_of (bearing_all behind f)) (clusters t) (clusters_of f) (bearing-behinds t) (bearing-behinds_of f) in
        joined (all_nodes (bearing behind t) ++ all_nodes_of (bearing_all behind f)) (bearing behind (node t f b) ∷ []) (clusters t ++ clusters_of f)
        (cluster (node t f b) ∷ []) inside refl

    bearing-behinds_of : (f : Forest) → map behind_of (all_nodes_of (bearing_all behind f)) ≡ map behind (clusters_of f)
    bearing-behinds_of (last t) = bearing-behinds t
    bearing-behinds_of (more t f) =
        joined (all_nodes (bearing behind t)) (all_nodes_of (bearing_all behind f)) (clusters t) (clusters_of f) (bearing-behinds t) (bearing-behinds_of f)

  -- one node for each cluster
  pub bearing_many : (t : Tree) → length (all_nodes (bearing behind t)) ≡ length (clusters t)
  bearing_many t =
      sym (length-map (all_nodes (bearing behind t)) behind_of) ∙ ap length (bearing-behinds t) ∙ length-map (clusters t) behind

-- so no count is wrong
pub none_wrong :
    (counts : ℕ → ℕ) (l : List ℕ) (ends : List End) → ((a : ℕ) → Among a l → counts a < 10 ^ 20)
    → map (λ e. e.behind) ends ≡ map (count_behind counts) l → first_wrong counts l ends ≡ None
unfolding first_wrong
none_wrong counts [] ends small same = refl
none_wrong counts (a ∷ l) [] small same = refl
none_wrong counts (a ∷ l) (e ∷ ends) small same =
    let first : e.behind ≡ count_behind counts a = cc in
    let others : map (λ (e : End). e.behind) ends ≡ map (count_behind counts) l = cc in
    rw (first, count-read counts a (small a (here refl)), eq-eqb (counts a) (counts a) refl)
    (none_wrong counts l ends (λ b m. small b (there m)) others)
