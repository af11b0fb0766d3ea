-- The second demand: tree text and its clusters, both ways, and the score as the sum that the paper has.
use Prim.Native.Nat.{ℕ, suc, ◌+◌, ◌-◌, ◌≤◌}
use mathlib.Core.Path.{◌≡◌, refl, sym, ap, ◌∙◌, subst}
use mathlib.Core.Logic.{◌⊎◌, inl, inr, ◌↔◌}
use mathlib.Core.Bool.{false, not, ◌&&◌, ◌||◌}
use mathlib.Core.List.{List, [], ◌∷◌, ◌++◌, map, append_assoc}
use native.Mathlib.Decide.{ℕ_discrete}
use native.Mathlib.Omega.{arith}
use lib.ListN.{length, get_or, take, drop, length-append}
use lib.Seq.{get_or-append_seam}
use lib.Dec.{eqb}
use Rattle.clusters.specs.Sets.{Within, whole, within}
use Rattle.trees.specs.Lists.{Among, NoneTwice, keep, some, total, up_to}
use Rattle.trees.specs.Tree.{Tree, leaves, clusters}
use Rattle.trees.specs.Drawn.{maximal, children, drawn}
use Rattle.trees.specs.Valid.{every, among}
use Rattle.trees.specs.Records.{listed, record_of, largest, GeneValid, BinaryOn, records_in}
use Rattle.trees.proofs.Nodes.{clusters-once}
use Rattle.trees.proofs.Listing.{sublist_once}
use Rattle.trees.proofs.Thinned.{left_of_all}
use Rattle.trees.proofs.Recorded.{among_record, record_among, record_same}
use Rattle.trees.proofs.GeneRecords.{gene-small, gene_decides}
use Rattle.roster.specs.Roster.{names, faulty}
use Rattle.roster.specs.Judged.{species_most}
use Rattle.roster.specs.declared.Reply.{Reply}
use Rattle.tokens.specs.Supports.{Threshold}
use Rattle.std.proofs.Common.{None, Some}
use Rattle.tokens.specs.Supports.{weak}
use Rattle.tokens.specs.Answers.{Answer}
use Rattle.tokens.specs.Answers.Answer.{parsed, refused}
use Rattle.reader.specs.Promise.{clusters_read, reading_of, answer_to, Reads}
use Rattle.reader.specs.declared.Kind.{Kind}
use Rattle.reader.specs.declared.Kind.TheVariants.{Species, Gene}
use Rattle.reader.specs.declared.Reading.{Reading}
use Rattle.reader.specs.Accepted.{MayHave, Draws}
use Rattle.reader.proofs.Accepts.{accepted-derives, derives-accepted, draws_one}
use Rattle.reader.proofs.Replies.{draws-gene, reads-zero}
use Rattle.texts.specs.Writing.{node_text, written}
use Rattle.writer.specs.Promise.{Writes}
use Rattle.writer.proofs.RosterNames.{good-names}
use Rattle.texts.proofs.Lengths.{text_most_lem}
use Rattle.writer.proofs.Outcomes.{writes_once, writes_done, writes_zero}
use Rattle.writer.proofs.RoundTrip.{write_read, write_read_gene, write_read_lacking}
use Rattle.weights.specs.declared.Rooting.{Rooting}
use Rattle.weights.specs.declared.Rooting.TheVariants.{Rooted, Unrooted}
use Rattle.weights.specs.Count.{unrooted_clusters, k_drawn, k_of, one_or, k_by, extra, weight, score}
use Rattle.weights.specs.Lineages.{lineages}
use Rattle.weights.proofs.Compared.{k_never_more, k_binary}
use Rattle.weights.proofs.Lost.{none_within_adds_nothing as lost-adds-nothing, some_within_adds_k_less_one}
use Rattle.lineages.specs.Promise.{Weighs, Scores}
use Rattle.demands.specs.ReadAs.{SameClusters, ReadAs}
use Rattle.demands.specs.Scorable.{Scorable}
use Rattle.demands.specs.GeneTrees.{RecordsOf, score_over}
use Rattle.demands.proofs.GeneTrees.{gene_trees, score-drawn, score_down}
use Rattle.demands.proofs.InOrder.{weighed-value}
use Rattle.demands.proofs.Scorable.{scored_exactly, scored-value}
use Rattle.demands.proofs.TextFaults.{fault_of_refusal, fault-numbers}

-- ---- "Newick text is read to the set of clusters it draws"

-- the record of a tree's clusters has them
record_clusters : (cs : List ℕ) → SameClusters (listed (record_of cs)) cs
record_clusters cs x = (λ m. among_record 16 cs m, λ m. record_among 16 cs m)

-- "read to the set of clusters it draws": what was read is what the grammar draws; with a threshold, what that leaves of it (#113)
pub read_to_its_clusters :
    (kind : Kind) (threshold : Threshold) (line text : List ℕ) (start : ℕ) (r : Reading) → Reads kind threshold line text start r
    → r.number ≡ 0 → ReadAs kind threshold line text start r
unfolding Reads
read_to_its_clusters kind threshold line text start r p z = go (answer_to kind threshold line text start) refl
  where
    go : (a : Answer Tree) → answer_to kind threshold line text start ≡ a → ReadAs kind threshold line text start r
    go (parsed t rest q) e =
        let a = accepted-derives kind threshold line text start e in
        rw (p, e) (record { tree = t; rest = rest; draws = a.draws; behind = a.place; drawn = record_clusters (clusters_read threshold t) })
    go (refused k q) e =
        let i = ap (λ (r : Reading). r.number) (p ∙ ap (reading_of threshold start) e) in
        absurd (omega (arith, (fault-numbers (fault_of_refusal kind threshold line text start k q e)).0))

-- "Newick text is read": what the grammar draws, inside the limits, is not refused
pub drawn_is_read :
    (kind : Kind) (threshold : Threshold) (line text : List ℕ) (start : ℕ) (t : Tree) (rest : List ℕ) (r : Reading)
    → Draws kind threshold line text start t rest → Reads kind threshold line text start r
    → (r.number ≡ 0) × SameClusters (listed r.numbers) (clusters_read threshold t)
unfolding Reads
drawn_is_read kind threshold line text start t rest r d p =
    rw (p, derives-accepted kind threshold line text start d) (refl, record_clusters (clusters_read threshold t))

-- a text draws one tree at most, whatever the kind and the threshold, so "the set of clusters it draws" is one set
pub draws_one_set :
    (kind kind' : Kind) (threshold threshold' : Threshold) (line text : List ℕ) (start : ℕ) (t t' : Tree) (rest rest' : List ℕ)
    → Draws kind threshold line text start t rest → Draws kind' threshold' line text start t' rest' → SameClusters (clusters t) (clusters t')
draws_one_set kind kind' threshold threshold' line text start t t' rest rest' d d' x =
    let e = (draws_one kind kind' threshold threshold' line text start d d').value in (
      λ m. subst (λ (u : Tree). Among x (clusters u)) e m,
      λ m. subst (λ (u : Tree). Among x (clusters u)) (sym e) m,
    )

-- ---- "and written back in one form; reading that form gives the same clusters"

-- "written back", "Its bound becomes 558 bytes" (#103): a valid record, with every species or not (#104), is written wherever 558 bytes are lent
pub valid_is_written :
    (line tree out : List ℕ) (r : Reply) (after : List ℕ) → faulty species_most line ≡ false → GeneValid (length (names line)) tree → 558 ≤ length out
    → Writes line tree out r after → r.number ≡ 0
valid_is_written line tree out r after good v room w =
    let g = good-names line good in
    let l = text_most_lem (names line) g.few v g.each in
    let d = writes_done line tree out good ((gene_decides tree g.few).told v) (omega arith) refl refl in
    ap (λ (r : Reply). r.number) (writes_once w d).0

-- and so is every text that was read
pub read_is_written :
    (kind : Kind) (threshold : Threshold) (line text : List ℕ) (start : ℕ) (q : Reading) (out : List ℕ) (r : Reply) (after : List ℕ)
    → Reads kind threshold line text start q → q.number ≡ 0 → 558 ≤ length out → Writes line q.numbers out r after → r.number ≡ 0
read_is_written kind threshold line text start q out r after p z room w =
    let v = reads-zero kind threshold line text start p z in valid_is_written line q.numbers out r after v.good v.gene room w

-- a text that was written has a last byte, its `;`
written_ends : (ns : List (List ℕ)) (r rest : List ℕ) → (1 ≤ length (written ns r)) × (get_or (written ns r ++ rest) (length (written ns r) - 1) 0 ≡ 59)
unfolding written node_text
written_ends ns r rest =
    let front = node_text ns (drawn (listed r) (largest r)) in
    let long = length-append front (59 ∷ []) in
    let at : length (front ++ 59 ∷ []) - 1 ≡ length front = omega arith in (
      omega arith,
      ap (λ (i : ℕ). get_or (front ++ 59 ∷ [] ++ rest) i 0) at ∙ ap (λ (l : List ℕ). get_or l (length front) 0) (append_assoc front (59 ∷ []) rest)
          ∙ get_or-append_seam front 59 rest 0,
    )

module _ (line tree out : List ℕ) (r : Reply) (after : List ℕ) (q : Reading) (w : Writes line tree out r after) (z : r.number ≡ 0) where
  -- "reading that form gives the same clusters": what was written reads back to the record, to the end of the text, as either kind that has its species
  pub written-reads_back :
      (kind : Kind) → MayHave kind (length (names line)) (largest tree) → Reads kind None line (take r.value after) 0 q
      → (q.number ≡ 0) × (q.next ≡ r.value) × (q.numbers ≡ tree)
  written-reads_back kind species p = rw (write_read kind w z species p) (refl, refl, refl)

  -- as a gene tree: always (#104)
  pub written-reads_back_as_gene_tree : Reads Gene None line (take r.value after) 0 q → (q.number ≡ 0) × (q.next ≡ r.value) × (q.numbers ≡ tree)
  written-reads_back_as_gene_tree p = rw (write_read_gene w z p) (refl, refl, refl)

  -- as species text: where every species is there, and else "9 | `;` with a species missing | the `;`", the text's last byte (#104)
  pub written-reads_back_as_species_text :
      Reads Species None line (take r.value after) 0 q
      → ((largest tree ≡ whole (length (names line))) × (q.number ≡ 0) × (q.next ≡ r.value) × (q.numbers ≡ tree))
      ⊎ ((largest tree ≡ whole (length (names line)) → ⊥) × (q.number ≡ 9) × (q.place + 1 ≡ r.value) × (get_or after q.place 0 ≡ 59))
  written-reads_back_as_species_text p = go (ℕ_discrete (largest tree) (whole (length (names line))))
    where
      go : Dec (largest tree ≡ whole (length (names line)))
          → ((largest tree ≡ whole (length (names line))) × (q.number ≡ 0) × (q.next ≡ r.value) × (q.numbers ≡ tree))
          ⊎ ((largest tree ≡ whole (length (names line)) → ⊥) × (q.number ≡ 9) × (q.place + 1 ≡ r.value) × (get_or after q.place 0 ≡ 59))
      go (yes e) = let b = written-reads_back Species e p in inl (e, b.0, b.1, b.2)
      go (no lacks) =
          let b = write_read_lacking w z lacks p in
          let o = writes_zero w z in
          let text = written (names line) tree in
          let ends = written_ends (names line) tree (drop (length text) out) in
          let place : q.place ≡ length text - 1 = ap (λ (q : Reading). q.place) b ∙ ap (λ (k : ℕ). k - 1) o.value in
          inr (
            lacks,
            ap (λ (q : Reading). q.number) b,
            omega (arith, place, o.value, ends.0),
            ap (λ (l : List ℕ). get_or l q.place 0) o.bytes ∙ ap (λ (i : ℕ). get_or (text ++ drop (length text) out) i 0) place ∙ ends.1,
          )

-- "reading that form gives the same clusters": a text that was read, with a threshold or without, written and read again as the same kind
pub read-written-read :
    (kind : Kind) (threshold : Threshold) (line text : List ℕ) (start : ℕ) (q : Reading) (out : List ℕ) (r : Reply) (after : List ℕ) (q' : Reading)
    → Reads kind threshold line text start q → q.number ≡ 0 → Writes line q.numbers out r after → r.number ≡ 0
    → Reads kind None line (take r.value after) 0 q'
    → (q'.number ≡ 0) × SameClusters (listed q'.numbers) (listed q.numbers)
read-written-read kind threshold line text start q out r after q' p z w y p' =
    let b = written-reads_back line q.numbers out r after q' w y kind (reads-zero kind threshold line text start p z).species p' in
    (b.0, λ x. rw b.2 (λ m. m, λ m. m))

-- no cluster is read twice
clusters-read-once : (threshold : Threshold) (t : Tree) → NoneTwice (leaves t) → NoneTwice (clusters_read threshold t)
clusters-read-once None t once = clusters-once t once
clusters-read-once (Some amount) t once = sublist_once (left_of_all (λ b. weak (Some amount) b) t) (clusters-once t once)

-- the clusters that were read say which record it is
same_record :
    (kind kind' : Kind) (threshold threshold' : Threshold) (line text text' : List ℕ) (start start' : ℕ) (t t' : Tree) (rest rest' : List ℕ)
    → Draws kind threshold line text start t rest → Draws kind' threshold' line text' start' t' rest'
    → SameClusters (clusters_read threshold t) (clusters_read threshold' t') → record_of (clusters_read threshold t) ≡ record_of (clusters_read threshold' t')
same_record kind kind' threshold threshold' line text text' start start' t t' rest rest' d d' same =
    record_same (clusters_read threshold t) (draws-gene d').0.valid (clusters-read-once threshold t d.once)
    (λ x m. record_among 16 (clusters_read threshold' t') ((same x).0 m)) (λ x m. (same x).1 (among_record 16 (clusters_read threshold' t') m))

-- "written back in one form": two texts of either kind that are read to the same clusters are written alike, byte for byte, into the same lent bytes
pub one_form :
    (kind kind' : Kind) (threshold threshold' : Threshold) (line text text' : List ℕ) (start start' : ℕ) (t t' : Tree) (rest rest' : List ℕ)
    (q q' : Reading) (out : List ℕ)
    (r r' : Reply) (after after' : List ℕ)
    → Draws kind threshold line text start t rest → Draws kind' threshold' line text' start' t' rest'
    → SameClusters (clusters_read threshold t) (clusters_read threshold' t') → Reads kind threshold line text start q → Reads kind' threshold' line text' start' q'
    → Writes line q.numbers out r after → Writes line q'.numbers out r' after'
    → (r ≡ r') × (after ≡ after')
unfolding Reads
one_form kind kind' threshold threshold' line text text' start start' t t' rest rest' q q' out r r' after after' d d' same p p' w w' =
    let a : q.numbers ≡ record_of (clusters_read threshold t) = rw (p, derives-accepted kind threshold line text start d) refl in
    let a' : q'.numbers ≡ record_of (clusters_read threshold' t') = rw (p', derives-accepted kind' threshold' line text' start' d') refl in
    let e : q.numbers ≡ q'.numbers = a ∙ same_record kind kind' threshold threshold' line text text' start start' t t' rest rest' d d' same ∙ sym a' in
    writes_once w (subst (λ (tree : List ℕ). Writes line tree out r' after') (sym e) w')

-- ---- "The score of a species tree equals the sum, over its clusters and all gene trees, of the number of maximal gene clusters within that cluster, less one"

-- "the number of maximal gene clusters within that cluster": k is their number where the gene tree is binary ("Binary counts stay", #101)
pub maximal-within :
    (n : ℕ) (g : List ℕ) (a : ℕ) → n ≤ 16 → GeneValid n g → BinaryOn (largest g) g
    → k_of (listed g) a ≡ length (maximal (keep (λ (x : ℕ). within x a) (listed g)))
unfolding k_drawn
maximal-within n g a few v two = k_binary v.valid (gene-small few v) a two

-- in any gene tree it is never more
pub never_more_than_maximal :
    (n : ℕ) (g : List ℕ) (a : ℕ) → n ≤ 16 → GeneValid n g → k_of (listed g) a ≤ length (maximal (keep (λ (x : ℕ). within x a) (listed g)))
unfolding k_drawn
never_more_than_maximal n g a few v = k_never_more v.valid (gene-small few v) a

-- "count the gene tree's nodes with at least one child whose cluster is maximal within A, or one where A holds all its species" (#101)
pub nodes_with_a_maximal_child :
    (g : List ℕ) (a : ℕ)
    → k_of (listed g) a
    ≡ one_or (every (λ (x : ℕ). within x a) (listed g))
    (length (keep (λ (p : ℕ). some (λ (x : ℕ). among x (maximal (keep (λ (y : ℕ). within y a) (listed g)))) (children (listed g) p)) (listed g)))
unfolding k_of
nodes_with_a_maximal_child g a = refl

-- "A gene tree with no cluster within A adds nothing to A's weight" (#104): there k - 1 is 0
pub none_within_adds_nothing :
    (n : ℕ) (g : List ℕ) (a : ℕ) → n ≤ 16 → GeneValid n g → ((x : ℕ) → Among x (listed g) → Within x a → ⊥) → k_of (listed g) a - 1 ≡ 0
unfolding extra
none_within_adds_nothing n g a few v none = lost-adds-nothing few v a none

-- "Otherwise #101's count less one" (#104): there k is 1 or more, and nothing is cut off at 0
pub some_within_counts :
    (n : ℕ) (g : List ℕ) (a x : ℕ) → n ≤ 16 → GeneValid n g → Among x (listed g) → Within x a → k_of (listed g) a ≡ (k_of (listed g) a - 1) + 1
unfolding extra
some_within_counts n g a x few v m w = some_within_adds_k_less_one few v a x m w

-- without a root k "counts the maximal ones as before; for the whole set, one" (#106): of the record's clusters and "the complement of each but the whole"
pub maximal-without_a_root :
    (g : List ℕ) (a : ℕ)
    → k_by Unrooted g a ≡ one_or (eqb a (largest g)) (length (maximal (keep (λ (x : ℕ). within x a) (keep (λ (x : ℕ).
    among x (listed g) || some (λ (y : ℕ). not (eqb y (largest g)) && eqb x (largest g - y)) (listed g)) (up_to (suc (largest g)))))))
unfolding k_drawn unrooted_clusters
maximal-without_a_root g a = refl

-- the scoring call gives the sum, over the species tree's clusters A and the gene records g, of k - 1
pub score_is_the_sum :
    (rooting : Rooting) (n : ℕ) (genes : List ℕ) (count : ℕ) (species : List ℕ) (r : Reply) → Scores rooting n genes count species r → r.number ≡ 0
    → r.value ≡ total (map (λ (a : ℕ). total (map (λ (g : List ℕ). k_by rooting g a - 1) (records_in count genes))) (listed species))
unfolding score weight extra
score_is_the_sum rooting n genes count species r p z = scored-value rooting n genes count species r p z

-- "The weight of A is the sum over all gene trees of k - 1"
pub weight_is_the_sum :
    (rooting : Rooting) (n : ℕ) (genes : List ℕ) (count a : ℕ) (r : Reply) → Weighs rooting n genes count a r → r.number ≡ 0
    → r.value ≡ total (map (λ (g : List ℕ). k_by rooting g a - 1) (records_in count genes))
unfolding weight extra
weight_is_the_sum rooting n genes count a r p z = weighed-value rooting n genes count a r p z

-- every valid binary species tree is scored against every list of valid gene trees inside the limits, which may enter by the rooting
pub score-given_exactly :
    (rooting : Rooting) (n : ℕ) (genes : List ℕ) (count : ℕ) (species : List ℕ) (r : Reply) → Scores rooting n genes count species r
    → (r.number ≡ 0) ↔ Scorable rooting n genes count species
score-given_exactly = scored_exactly

-- the same sum over the gene trees as drawn
pub score_over_gene_trees :
    (rooting : Rooting) (n : ℕ) (genes : List ℕ) (count : ℕ) (species : List ℕ) (r : Reply) → Scores rooting n genes count species r → r.number ≡ 0
    → (trees : List Tree) × RecordsOf n (records_in count genes) trees × (r.value ≡ score_over rooting trees species)
score_over_gene_trees rooting n genes count species r p z =
    let h = (scored_exactly rooting n genes count species r p).0 z in
    let d = gene_trees n (records_in count genes) h.in_order.shaped.few_species h.in_order.valid in
    (d.0, d.1, scored-value rooting n genes count species r p z ∙ score-drawn d.1 rooting species)

-- "as in the paper of Yu, Warnow and Nakhleh": with their roots, also with the lineages counted down each tree
pub score-counted_down :
    (n : ℕ) (genes : List ℕ) (count : ℕ) (species : List ℕ) (r : Reply) → Scores Rooted n genes count species r → r.number ≡ 0
    → (trees : List Tree) × RecordsOf n (records_in count genes) trees
    × (r.value ≡ score_over Rooted trees species)
    × (r.value ≡ total (map (λ (a : ℕ). total (map (λ (t : Tree). lineages a t - 1) trees)) (listed species)))
score-counted_down n genes count species r p z =
    let s = score_over_gene_trees Rooted n genes count species r p z in (s.0, s.1, s.2, s.2 ∙ score_down s.1 species)
