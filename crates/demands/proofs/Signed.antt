-- What the clerk signs: "I must be able to say that the tree in it is the right one".
use Prim.Native.Nat.{ℕ, ◌≤◌}
use mathlib.Core.Path.{◌≡◌, refl, sym, ap, ◌∙◌, subst}
use mathlib.Core.Logic.{◌↔◌}
use mathlib.Core.Bool.{Bool, false}
use mathlib.Core.List.{List, ◌∷◌, ◌++◌, append_assoc}
use native.Mathlib.Omega.{arith}
use lib.ListN.{length, get_or, take, drop, length-map}
use Rattle.clusters.specs.Sets.{whole}
use Rattle.clusters.proofs.Sets.{below_of_within}
use Rattle.trees.specs.Tree.{Tree, clusters}
use Rattle.trees.specs.Records.{record_of, largest, SpeciesValid, GeneValid}
use Rattle.trees.proofs.GeneRecords.{gene_of_species, largest_of_valid}
use Rattle.roster.specs.Roster.{names, faulty}
use Rattle.roster.specs.Judged.{species_most}
use Rattle.roster.proofs.Names.{names-count}
use Rattle.std.proofs.Common.{None}
use Rattle.reader.specs.Promise.{Reads}
use Rattle.reader.specs.Accepted.{MayHave}
use Rattle.reader.specs.declared.Kind.{Kind}
use Rattle.reader.specs.declared.Kind.TheVariants.{Species, Gene}
use Rattle.reader.specs.declared.Reading.{Reading}
use Rattle.texts.specs.Writing.{written}
use Rattle.writer.proofs.RoundTrip.{reads_back}
use Rattle.weights.specs.declared.Rooting.{Rooting}
use Rattle.weights.specs.Count.{weight, score}
use Rattle.lineages.specs.Checks.{rooting_test}
use Rattle.lineages.proofs.FirstBad.{none_unresolved}
use Rattle.splits.specs.BinaryTrees.{clusters_in}
use Rattle.splits.specs.Least.{score_of}
use Rattle.search.specs.Candidates.{Candidate}
use Rattle.search.specs.LeastAmong.{LeastNumber, LeastFor}
use Rattle.search.specs.TiesPromise.{ties_for}
use Rattle.search.proofs.Demand.{found-answers}
use Rattle.search.proofs.HowMany.{number_same, number_one}
use Rattle.search.proofs.Lots.{least_exactly, answer_is_least}
use Rattle.search.proofs.Ties.{tied-number}
use Rattle.printing.specs.Words.{taxa_text, genes_text, score_text, ties_text, newline, decimal}
use Rattle.report.specs.Input.{first_line, behind_line, trees_place}
use Rattle.report.specs.Program.{program}
use Rattle.outcomes.specs.Outcome.{Outcome, allowed_by, printed}
use Rattle.outcomes.specs.Outcome.Outcome.{refused, solved}
use Rattle.report.specs.Promise.{output, Reports}
use Rattle.report.proofs.Outcomes.{reported_text}
use Rattle.demands.specs.GeneTrees.{RecordsOf}
use Rattle.demands.specs.Input.{Holds}
use Rattle.demands.specs.Signed.{Eligible, Reaches, Signed}
use Rattle.demands.proofs.GeneTrees.{trees-enter, score-drawn}
use Rattle.demands.proofs.Gathering.{GatheredFrom, gathered_from}
use Rattle.demands.proofs.TwoLines.{feed_splits, trees-behind}
use Rattle.demands.proofs.Allowing.{byte_allows, allows_byte}
use Rattle.demands.proofs.Solved.{Best, searched-best, species_in, Reached, program-reached}
use Rattle.demands.proofs.Solved.Late.{a_tree}

-- ---- the trees that compete

module _ {n : ℕ} {genes : List (List ℕ)} {trees : List Tree} (all : Bool) (rooting : Rooting) (r : RecordsOf n genes trees) (c : List ℕ) where
  -- what is eligible competes in the search, and the other way round
  pub eligible-competes : Eligible n all rooting trees c → Candidate n (allowed_by all rooting n genes) c
  eligible-competes e = record {
    valid = e.valid;
    binary = e.binary;
    over = λ a m. allows_byte rooting r a (below_of_within n (e.valid.inside a m).1) all (e.allowed a m);
  }

  pub competitor-eligible : Candidate n (allowed_by all rooting n genes) c → Eligible n all rooting trees c
  competitor-eligible k = record {
    valid = k.valid;
    binary = k.binary;
    allowed = λ a m. byte_allows rooting r a (below_of_within n (k.valid.inside a m).1) all (k.over a m);
  }

-- ---- those that reach the least score

module _ {n : ℕ} {genes : List (List ℕ)} {trees : List Tree} (all : Bool) (rooting : Rooting) (r : RecordsOf n genes trees) {s : ℕ}
    (least : LeastNumber (Candidate n (allowed_by all rooting n genes)) (score rooting genes) s) (c : List ℕ) where
  -- where s is the least score of those that compete, a least one reaches it, and one that reaches it is least
  least_reaches : LeastFor rooting n (allowed_by all rooting n genes) genes c → Reaches n all rooting trees s c
  least_reaches h =
      let k = (least_exactly least c).0 h in
      record { eligible = competitor-eligible all rooting r c k.0; counted = sym (score-drawn r rooting c) ∙ k.1 }

  reaches_least : Reaches n all rooting trees s c → LeastFor rooting n (allowed_by all rooting n genes) genes c
  reaches_least h = (least_exactly least c).1 (eligible-competes all rooting r c h.eligible, score-drawn r rooting c ∙ h.counted)

-- ---- the tree's text

-- the text of a species record is read back as species text, and as a gene tree too
species-reads_back :
    (line : List ℕ) {r : List ℕ} → faulty species_most line ≡ false → SpeciesValid (length (names line)) r → (kind : Kind) {q : Reading}
    → Reads kind None line (written (names line) r) 0 q → q ≡ record { number = 0; place = 0; next = length (written (names line) r); numbers = r }
species-reads_back line {r} good v kind h = reads_back line good gene kind (species kind) h
  where
    gene : GeneValid (length (names line)) r
    gene = gene_of_species (names-count species_most line good).0 v

    species : (kind : Kind) → MayHave kind (length (names line)) (largest r)
    species Species = largest_of_valid v
    species Gene = gene.of_roster

-- ---- the four lines

regroup :
    (a b c d e f g h i j k l m : List ℕ)
    → a ++ b ++ c ++ d ++ e ++ f ++ g ++ h ++ i ++ j ++ k ++ l ++ m ≡ (a ++ b ++ c ++ d ++ e) ++ (f ++ g ++ h) ++ (i ++ j ++ k) ++ (l ++ m)
regroup a b c d e f g h i j k l m = simp append_assoc

four-lines :
    (input : List ℕ) (n m s t : ℕ) (r : List ℕ) → program input ≡ solved n m s t r
    → output input ≡ (taxa_text ++ decimal n ++ genes_text ++ decimal m ++ newline) ++ (score_text ++ decimal s ++ newline) ++ (ties_text ++ decimal t ++ newline)
    ++ (written (names (first_line input)) r ++ newline)
unfolding output
four-lines input n m s t r e =
    ap (printed (names (first_line input))) e
    ∙ regroup taxa_text (decimal n) genes_text (decimal m) newline score_text (decimal s) newline ties_text (decimal t) newline (written (names (first_line input)) r)
    newline

-- ---- the theorem

module _ (input : List ℕ) {o : Outcome} (v : Reached input o) where
  pub gathered-trees : GatheredFrom (first_line input) (drop (trees_place input) input) v.genes
  gathered-trees = gathered_from (first_line input) (drop (trees_place input) input) v.genes v.gathers

  as_many : length v.genes ≡ length gathered-trees.trees
  as_many = ap length gathered-trees.records.records ∙ length-map gathered-trees.trees (λ (t : Tree). record_of (clusters t))

  few : species_in input ≤ 16
  few = let k = v.few in omega arith

  pub input_holds : Holds input (first_line input) v.all v.rooting gathered-trees.trees
  unfolding rooting_test
  input_holds = record {
    text = drop (trees_place input) input;
    parts =
        feed_splits input v.first_feed
        ∙ ap (λ (l : List ℕ). first_line input ++ (10 ∷ l)) (feed_splits (behind_line input) v.second_feed ∙ rw (v.mode, ← trees-behind input));
    short = v.short;
    roster_good = v.good;
    few_species = v.few;
    stand = gathered-trees.stand;
    some_trees = let h = v.some_genes in omega (arith, as_many);
    few_trees = let h = gathered-trees.few in omega (arith, as_many);
    enter = λ u. (trees-enter few gathered-trees.records).0 (none_unresolved v.rooting (species_in input) v.genes v.resolved u);
  }

-- for an input that the program solves
pub signed : (input : List ℕ) (n m s t : ℕ) (r : List ℕ) → program input ≡ solved n m s t r → Signed input n m s t r
signed input n m s t r e =
    let v = program-reached input a_tree e in go v
    (searched-best v.rooting (species_in input) v.genes (allowed_by v.all v.rooting (species_in input) v.genes) v.result)
  where
    go :
        (v : Reached input (solved n m s t r))
        → Best v.rooting (species_in input) v.genes (allowed_by v.all v.rooting (species_in input) v.genes) n m s t r → Signed input n m s t r
    go v b =
        let g = gathered-trees input v in
        let allowed = allowed_by v.all v.rooting (species_in input) v.genes in
        let tree = record_of (clusters_in b.tree) in
        let best = score_of (weight v.rooting v.genes) b.tree in
        let ties = ties_for v.rooting (species_in input) v.genes allowed (whole (species_in input)) in
        let a = found-answers v.rooting (species_in input) v.genes allowed (few input v) b.tree b.is_best in
        let least = answer_is_least a in
        let told : program input ≡ solved (species_in input) (length v.genes) best ties tree = cc (e, b.species, b.count, b.scored, b.tied, b.recorded) in
        rw (← b.species, ← b.count, ← b.scored, ← b.tied, ← b.recorded) (record {
          line = first_line input;
          all = v.all;
          rooting = v.rooting;
          trees = g.trees;
          holds = input_holds input v;
          species = refl;
          count = as_many input v;
          reaches = record {
            eligible = competitor-eligible v.all v.rooting g.records tree a.competes;
            counted = sym (score-drawn g.records v.rooting tree) ∙ a.counted;
          };
          least =
              λ c h. subst (λ (x : ℕ). best ≤ x) (score-drawn g.records v.rooting c)
              (a.least c (eligible-competes v.all v.rooting g.records c h));
          ties = number_same (tied-number v.rooting (species_in input) v.genes allowed (few input v))
              (least_reaches v.all v.rooting g.records least) (reaches_least v.all v.rooting g.records least);
          reads_back = λ kind q. species-reads_back (first_line input) v.good a.competes.valid kind;
          lines = four-lines input (species_in input) (length v.genes) best ties tree told;
        })

-- and t is 1 exactly where the tree is the only one of its score
pub signed-alone :
    {input : List ℕ} {n m s t : ℕ} {r : List ℕ} (q : Signed input n m s t r)
    → (t ≡ 1) ↔ ((c : List ℕ) → Reaches n q.all q.rooting q.trees s c → c ≡ r)
signed-alone q = number_one q.ties q.reaches

-- ---- what is printed

-- an output that begins with a `t` is that of a tree
pub printed-solved :
    (input : List ℕ) → get_or (output input) 0 0 ≡ 116 → (n : ℕ) × (m : ℕ) × (s : ℕ) × (t : ℕ) × (r : List ℕ) × (program input ≡ solved n m s t r)
unfolding output
printed-solved input begins = go (program input) refl
  where
    go : (o : Outcome) → program input ≡ o → (n : ℕ) × (m : ℕ) × (s : ℕ) × (t : ℕ) × (r : List ℕ) × (program input ≡ solved n m s t r)
    go (refused number place) e = absurd (omega (arith, ap (λ (o : Outcome). get_or (printed (names (first_line input)) o) 0 0) e, begins))
    go (solved n m s t r) e = (n, m, s, t, r, e)

-- "prints species and gene trees read, the score, and the tree", and the ties (#111): and so it is signed
pub printed_is_signed :
    (input : List ℕ) → get_or (output input) 0 0 ≡ 116 → (n : ℕ) × (m : ℕ) × (s : ℕ) × (t : ℕ) × (r : List ℕ) × Signed input n m s t r
printed_is_signed input begins =
    let p = printed-solved input begins in
    (p.0, p.1, p.2, p.3, p.4, signed input p.0 p.1 p.2 p.3 p.4 p.5)

-- the first bytes of the reply's text, as many as it says, are the output
pub report_is_the_output : (input : List ℕ) (reply : _) → Reports input reply → take reply.len reply.text ≡ output input
report_is_the_output = reported_text
