-- What is answered: a refusal, or a tree of the kind, whose record is a valid gene record; and what a reply of `read` with number 0 says.
use Prim.Native.Nat.{ℕ, ◌^◌, ◌≤◌, ◌<◌}
use mathlib.Core.Path.{◌≡◌, refl, sym, ap, ◌∙◌, subst}
use mathlib.Core.Bool.{Bool, true, false}
use mathlib.Core.List.{List}
use native.Mathlib.Omega.{arith}
use lib.ListN.{length, take, drop}
use lib.Dec.{leb}
use lib.Pow.{pow_mono}
use Rattle.std.proofs.Common.{None, Some}
use Rattle.clusters.proofs.Sets.{whole_below}
use Rattle.trees.specs.Tree.{Tree, Behind, On, cluster, clusters}
use Rattle.trees.specs.Records.{count, record_of, record_for, largest, ValidFor, SpeciesValid, GeneValidFor, GeneValid}
use Rattle.trees.proofs.Nodes.{cluster_some}
use Rattle.trees.proofs.Recorded.{valid_of_drawn}
use Rattle.trees.proofs.Thinned.{drawn_left_valid, drawn_thinned}
use Rattle.trees.proofs.GeneRecords.{largest_of_valid, gene_of_valid, species_of_gene}
use Rattle.roster.specs.Roster.{names, first_fault, faulty}
use Rattle.roster.specs.Judged.{species_most}
use Rattle.roster.proofs.Names.{names-count}
use Rattle.tokens.specs.Answers.{Answer}
use Rattle.tokens.specs.Answers.Answer.{parsed, refused}
use Rattle.nodes.specs.Reading.{read_tree}
use Rattle.nodes.proofs.RefusedBy.{tree-numbered}
use Rattle.tokens.specs.Supports.{is_given, weak, Threshold}
use Rattle.reader.specs.Promise.{Limits, narrow, text_most, needed, clusters_read, from_start, in_limit, on_roster, answer_within, answer_to, Reads, Stores}
use Rattle.reader.specs.Accepted.{MayHave, DrawsWithin}
use Rattle.reader.specs.declared.Kind.{Kind}
use Rattle.reader.specs.declared.Kind.TheVariants.{Species, Gene}
use Rattle.reader.specs.declared.Reading.{Reading}
use Rattle.reader.proofs.Accepts.{accepted-derives}

-- a refusal is 1, 2 or 10, or one of the reading
pub refusal_is :
    (P : ℕ → Type 0) → P 1 → P 2 → P 10 → (limits : Limits) (kind : Kind) (threshold : Threshold) (line text : List ℕ) (start : ℕ) {n p : ℕ}
    → (read_tree (is_given threshold) (names line) limits.room (needed kind (length (names line))) (drop start text) start ≡ refused n p → P n)
    → answer_within limits kind threshold line text start ≡ refused n p → P n
unfolding answer_within
refusal_is P one two ten limits kind threshold line text start {n} {p} read = judged (faulty limits.most line)
  where
    told : {m q : ℕ} → P m → ◌≡◌ {A = Answer Tree} (refused m q) (refused n p) → P n
    told {m} h e = let same : m ≡ n = cc in subst P same h

    started : (b : Bool) → from_start limits kind threshold b (names line) text start ≡ refused n p → P n
    started true e = read e
    started false e = told ten e

    limited : (b : Bool) → in_limit limits kind threshold b (names line) text start ≡ refused n p → P n
    limited true e = started (leb start (length text)) e
    limited false e = told two e

    judged : (b : Bool) → on_roster limits kind threshold b line text start ≡ refused n p → P n
    judged true e = told one e
    judged false e = limited (leb (length text) text_most) e

-- two readings of one text: what relates every refusal to itself, and what is read from the offset on, relates their answers
pub answers_related :
    (Related : Answer Tree → Answer Tree → Type 0) → ((n q : ℕ) → Related (refused n q) (refused n q))
    → (limits : Limits) (kind kind' : Kind) (threshold threshold' : Threshold) (line text : List ℕ) (start : ℕ)
    → Related (read_tree (is_given threshold) (names line) limits.room (needed kind (length (names line))) (drop start text) start)
    (read_tree (is_given threshold') (names line) limits.room (needed kind' (length (names line))) (drop start text) start)
    → Related (answer_within limits kind threshold line text start) (answer_within limits kind' threshold' line text start)
unfolding answer_within
answers_related Related alike limits kind kind' threshold threshold' line text start read = judged (faulty limits.most line)
  where
    started : (b : Bool) → Related (from_start limits kind threshold b (names line) text start) (from_start limits kind' threshold' b (names line) text start)
    started true = read
    started false = alike 10 (length text)

    limited : (b : Bool) → Related (in_limit limits kind threshold b (names line) text start) (in_limit limits kind' threshold' b (names line) text start)
    limited true = started (leb start (length text))
    limited false = alike 2 text_most

    judged : (b : Bool) → Related (on_roster limits kind threshold b line text start) (on_roster limits kind' threshold' b line text start)
    judged true = alike 1 (first_fault limits.most line)
    judged false = limited (leb (length text) text_most)

-- no refusal has number 0
pub refusal_some :
    (limits : Limits) (kind : Kind) (threshold : Threshold) (line text : List ℕ) (start : ℕ) {n p : ℕ} → answer_within limits kind threshold line text start ≡ refused n p → 1 ≤ n
refusal_some limits kind threshold line text start =
    refusal_is (λ n. 1 ≤ n) (omega arith) (omega arith) (omega arith) limits kind threshold line text start
    (λ e. let k = tree-numbered (is_given threshold) (names line) limits.room (needed kind (length (names line))) (drop start text) start e in omega arith)

-- ---- the species of a tree of either kind are some of the roster's

pub may_have_below : (kind : Kind) (n s : ℕ) → MayHave kind n s → s < 2 ^ n
may_have_below Species n s e = let b = whole_below n in omega arith
may_have_below Gene n s m = m.1

module _
    {limits : Limits} {kind : Kind} {threshold : Threshold} {line text : List ℕ} {start : ℕ} {t : Tree} {rest : List ℕ}
    (d : DrawsWithin limits kind threshold line text start t rest)
  where
    -- the tree that a text draws is on its species
    pub drawn_on : On (cluster t) t
    drawn_on = record { once = d.once; all = refl }

    -- the roster has at most as many as the limits have
    pub drawn_few : length (names line) ≤ limits.most
    drawn_few = (names-count limits.most line d.good).1

    -- and the tree's are some of these
    pub drawn-below : cluster t < 2 ^ length (names line)
    drawn-below = may_have_below kind (length (names line)) (cluster t) d.species

    -- the record of a drawn tree is a valid gene record, and its largest cluster is the tree's whole set
    pub draws-gene :
        GeneValidFor limits.most (length (names line)) (record_for limits.most (clusters_read threshold t))
        × (largest (record_for limits.most (clusters_read threshold t)) ≡ cluster t)
    draws-gene = by threshold
      where
        valid : ValidFor limits.most (cluster t) (record_for limits.most (clusters t))
        valid = valid_of_drawn drawn_on (omega (arith, drawn-below, pow_mono {i = length (names line)} {j = limits.most} drawn_few))

        by : (threshold : Threshold)
            → GeneValidFor limits.most (length (names line)) (record_for limits.most (clusters_read threshold t))
            × (largest (record_for limits.most (clusters_read threshold t)) ≡ cluster t)
        by None = (gene_of_valid valid (cluster_some t, drawn-below), largest_of_valid valid)
        by (Some amount) =
            let test : Behind → Bool = λ b. weak (Some amount) b in
            (drawn_left_valid drawn_few drawn_on drawn-below test, (drawn_thinned drawn_few drawn_on drawn-below test).same_species ∙ largest_of_valid valid)

-- ---- number 0

-- a tree of the kind was read: the roster is good, the text draws the tree, and the record is a valid gene record with the species of such a tree
pub record WasRead (kind : Kind) (threshold : Threshold) (line text : List ℕ) (start : ℕ) (q : Reading) : Type 0 where
  pub tree : Tree
  pub rest : List ℕ
  pub answered : answer_to kind threshold line text start ≡ parsed tree rest q.next
  pub recorded : q.numbers ≡ record_of (clusters_read threshold tree)
  pub good : faulty species_most line ≡ false
  pub gene : GeneValid (length (names line)) q.numbers
  pub whole_set : largest q.numbers ≡ cluster tree
  pub species : MayHave kind (length (names line)) (largest q.numbers)

pub reads-zero :
    (kind : Kind) (threshold : Threshold) (line text : List ℕ) (start : ℕ) {q : Reading} → Reads kind threshold line text start q → q.number ≡ 0
    → WasRead kind threshold line text start q
unfolding Reads
reads-zero kind threshold line text start {q} h z = by (answer_to kind threshold line text start) refl
  where
    by : (a : Answer Tree) → answer_to kind threshold line text start ≡ a → WasRead kind threshold line text start q
    by (parsed t rest n) e =
        let d = (accepted-derives kind threshold line text start e).draws in
        let g = draws-gene d in
        let r : q.numbers ≡ record_of (clusters_read threshold t) = rw (h, e) in
        record {
          tree = t;
          rest = rest;
          answered = e ∙ ap (λ (k : ℕ). parsed t rest k) (rw (h, e));
          recorded = r;
          good = d.good;
          gene = subst (λ (k : List ℕ). GeneValid (length (names line)) k) (sym r) g.0;
          whole_set = ap largest r ∙ g.1;
          species = subst (λ (s : ℕ). MayHave kind (length (names line)) s) (sym (ap largest r ∙ g.1)) d.species;
        }
    by (refused n p) e =
        let k = refusal_some narrow kind threshold line text start e in
        let l : q.number ≡ n = rw (h, e) in
        absurd (omega arith)

-- as many clusters as its first number says stand at the front of the table of `read_into`, in the order in which the nodes end
pub stored-clusters :
    (kind : Kind) (threshold : Threshold) (line text : List ℕ) (start : ℕ) {q : Reading} (w : WasRead kind threshold line text start q) (found : List ℕ)
    → Stores threshold (answer_to kind threshold line text start) found → take (count q.numbers) found ≡ clusters_read threshold w.tree
unfolding Stores record_for
stored-clusters kind threshold line text start {q} w found stores =
    let many : count q.numbers ≡ length (clusters_read threshold w.tree) = ap count w.recorded in
    ap (λ (n : ℕ). take n found) many ∙ stores w.tree w.rest q.next w.answered

-- what is read as a gene tree is a valid gene record
pub read-gene-valid : (threshold : Threshold) (line text : List ℕ) (start : ℕ) (q : Reading) → Reads Gene threshold line text start q → q.number ≡ 0 → GeneValid (length (names line)) q.numbers
read-gene-valid threshold line text start q h z = (reads-zero Gene threshold line text start h z).gene

-- what is read as species text is a valid record with every species
pub read-species-valid :
    (threshold : Threshold) (line text : List ℕ) (start : ℕ) (q : Reading) → Reads Species threshold line text start q → q.number ≡ 0 → SpeciesValid (length (names line)) q.numbers
read-species-valid threshold line text start q h z = let w = reads-zero Species threshold line text start h z in species_of_gene w.gene w.species
