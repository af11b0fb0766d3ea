-- The two kinds of reading compared (#104): 9 never occurs for gene trees; a text is read as species text exactly when it is read as a gene tree with every species;
-- where the gene tree lacks one, species text is 9 at its `;`; every other refusal is the same for both.
use Prim.Native.Nat.{ℕ, ◌-◌}
use mathlib.Core.Path.{◌≡◌, refl, sym, ap, ◌∙◌}
use mathlib.Core.Logic.{◌↔◌}
use mathlib.Core.Bool.{Bool, true, false}
use mathlib.Core.List.{List}
use native.Mathlib.Decide.{ℕ_discrete}
use native.Mathlib.Omega.{arith}
use lib.ListN.{length, drop, replicate}
use Rattle.clusters.specs.Sets.{Within, within, whole}
use Rattle.clusters.proofs.Sets.{within-refl, within_antisym, within_whole, within-true, true-within, false-within}
use Rattle.trees.specs.Tree.{Tree, cluster}
use Rattle.trees.specs.Records.{largest}
use Rattle.roster.specs.Roster.{names}
use Rattle.tokens.specs.Answers.{Answer}
use Rattle.tokens.specs.Answers.Answer.{parsed, refused}
use Rattle.nodes.specs.Reading.{open_most}
use Rattle.nodes.proofs.Answers.{refused-parsed}
use Rattle.nodes.proofs.Needed.{unless_lacking, then_needed, read-then-needed}
use Rattle.nodes.proofs.RefusedBy.{none_needed_never_nine}
use Rattle.tokens.specs.Supports.{is_given, Threshold}
use Rattle.reader.specs.Promise.{Limits, narrow, reading_of, answer_within, answer_to, Reads}
use Rattle.reader.specs.declared.Kind.TheVariants.{Species, Gene}
use Rattle.reader.specs.declared.Reading.{Reading}
use Rattle.reader.proofs.Accepts.{accepted-derives}
use Rattle.reader.proofs.Replies.{refusal_is, answers_related, reads-zero}

-- ---- 9

-- "9 is shown never to occur for gene trees" (#104): of the reading
pub gene-never-nine : (limits : Limits) (threshold : Threshold) (line text : List ℕ) (start : ℕ) {q : ℕ} → answer_within limits Gene threshold line text start ≡ refused 9 q → ⊥
gene-never-nine limits threshold line text start {q} e =
    refusal_is (λ n. n ≡ 9 → ⊥) (λ z. omega arith) (λ z. omega arith) (λ z. omega arith) limits Gene threshold line text start
    (λ e nine. none_needed_never_nine (is_given threshold) (names line) limits.room (drop start text) start e) e refl

-- and of the call
pub read-gene-never-nine : (threshold : Threshold) (line text : List ℕ) (start : ℕ) (r : Reading) → Reads Gene threshold line text start r → r.number ≡ 9 → ⊥
unfolding Reads
read-gene-never-nine threshold line text start r h nine = by (answer_to Gene threshold line text start) refl
  where
    by : (a : Answer Tree) → answer_to Gene threshold line text start ≡ a → ⊥
    by (parsed t rest q) e = let k : r.number ≡ 0 = rw (h, e) in omega arith
    by (refused n q) e =
        let k : r.number ≡ n = rw (h, e) in
        let same : n ≡ 9 = sym k ∙ nine in
        gene-never-nine narrow threshold line text start (e ∙ ap (λ (m : ℕ). refused m q) same)

-- ---- the readings

-- species text is read as a gene tree is, and then the tree is judged for the roster's species
pub species_by_gene :
    (threshold : Threshold) (line text : List ℕ) (start : ℕ)
    → answer_to Species threshold line text start ≡ then_needed (whole (length (names line))) (answer_to Gene threshold line text start)
species_by_gene threshold line text start =
    answers_related (λ a b. a ≡ then_needed (whole (length (names line))) b) (λ n q. refl) narrow Species Gene threshold threshold line text start
    (read-then-needed (is_given threshold) (names line) open_most (whole (length (names line))) (drop start text) start)

module _ (threshold : Threshold) (line text : List ℕ) (start : ℕ) where
  judged_as_lem : {a : Answer Tree} → answer_to Gene threshold line text start ≡ a → answer_to Species threshold line text start ≡ then_needed (whole (length (names line))) a
  judged_as_lem e = species_by_gene threshold line text start ∙ ap (then_needed (whole (length (names line)))) e

  -- every other refusal is the same for both kinds
  pub gene-refused : {number place : ℕ} → answer_to Gene threshold line text start ≡ refused number place → answer_to Species threshold line text start ≡ refused number place
  gene-refused e = judged_as_lem e

  module _ {t : Tree} {rest : List ℕ} {q : ℕ} (e : answer_to Gene threshold line text start ≡ parsed t rest q) where
    every-species : Within (whole (length (names line))) (cluster t) → cluster t ≡ whole (length (names line))
    every-species all = within_antisym (within_whole (length (names line)) (accepted-derives Gene threshold line text start e).draws.species.1) all

    -- a gene tree with every species is read as species text
    pub gene-complete : cluster t ≡ whole (length (names line)) → answer_to Species threshold line text start ≡ parsed t rest q
    gene-complete all =
        judged_as_lem e
        ∙ ap (λ (b : Bool). unless_lacking b t rest q) (true-within (whole (length (names line))) (cluster t) (rw all (within-refl (whole (length (names line))))))

    -- where the gene tree lacks one, 9 at its `;`, the last byte that was read
    pub gene-lacking : (cluster t ≡ whole (length (names line)) → ⊥) → answer_to Species threshold line text start ≡ refused 9 (q - 1)
    gene-lacking lacks =
        judged_as_lem e
        ∙ ap (λ (b : Bool). unless_lacking b t rest q) (false-within (whole (length (names line))) (cluster t) (λ all. lacks (every-species all)))

  -- the other way round: what is read as species text is read as a gene tree, and has every species
  pub species-complete :
      {t : Tree} {rest : List ℕ} {q : ℕ} → answer_to Species threshold line text start ≡ parsed t rest q
      → (answer_to Gene threshold line text start ≡ parsed t rest q) × (cluster t ≡ whole (length (names line)))
  species-complete {t} {rest} {q} h = by (answer_to Gene threshold line text start) refl
    where
      judged : {u : Tree} {left : List ℕ} {p : ℕ} (b : Bool) → within (whole (length (names line))) (cluster u) ≡ b → answer_to Gene threshold line text start ≡ parsed u left p
          → unless_lacking b u left p ≡ parsed t rest q → (answer_to Gene threshold line text start ≡ parsed t rest q) × (cluster t ≡ whole (length (names line)))
      judged {u} true all e k =
          let same : u ≡ t = cc in
          (e ∙ k, ap cluster (sym same) ∙ every-species e (within-true (whole (length (names line))) (cluster u) all))
      judged false all e k = absurd (refused-parsed k)

      by : (a : Answer Tree) → answer_to Gene threshold line text start ≡ a → (answer_to Gene threshold line text start ≡ parsed t rest q) × (cluster t ≡ whole (length (names line)))
      by (parsed u left p) e = judged (within (whole (length (names line))) (cluster u)) refl e (sym (judged_as_lem e) ∙ h)
      by (refused m p) e = absurd (refused-parsed (sym (judged_as_lem e) ∙ h))

-- ---- the replies

-- what the call replies to species text, by what it replies to the same text as a gene tree
pub record Compared (line : List ℕ) (start : ℕ) (gene species : Reading) : Type 0 where
  pub refused_alike : (gene.number ≡ 0 → ⊥) → species ≡ gene
  pub complete_alike : gene.number ≡ 0 → largest gene.numbers ≡ whole (length (names line)) → species ≡ gene
  pub lacking_nine :
      gene.number ≡ 0 → (largest gene.numbers ≡ whole (length (names line)) → ⊥)
      → species ≡ record { number = 9; place = gene.next - 1; next = start; numbers = replicate 32 0 }

pub kinds_compared :
    (threshold : Threshold) (line text : List ℕ) (start : ℕ) {gene species : Reading} → Reads Gene threshold line text start gene
    → Reads Species threshold line text start species → Compared line start gene species
unfolding Reads
kinds_compared threshold line text start {gene} {species} g s = record { refused_alike = refused_alike; complete_alike = complete_alike; lacking_nine = lacking_nine }
  where
    refused_alike : (gene.number ≡ 0 → ⊥) → species ≡ gene
    refused_alike some = by (answer_to Gene threshold line text start) refl
      where
        by : (a : Answer Tree) → answer_to Gene threshold line text start ≡ a → species ≡ gene
        by (parsed t rest q) e = absurd (some (rw (g, e)))
        by (refused m p) e = s ∙ ap (reading_of threshold start) (gene-refused threshold line text start e ∙ sym e) ∙ sym g

    complete_alike : gene.number ≡ 0 → largest gene.numbers ≡ whole (length (names line)) → species ≡ gene
    complete_alike z all =
        let w = reads-zero Gene threshold line text start g z in
        s ∙ ap (reading_of threshold start) (gene-complete threshold line text start w.answered (sym w.whole_set ∙ all) ∙ sym w.answered) ∙ sym g

    lacking_nine :
        gene.number ≡ 0 → (largest gene.numbers ≡ whole (length (names line)) → ⊥)
        → species ≡ record { number = 9; place = gene.next - 1; next = start; numbers = replicate 32 0 }
    lacking_nine z lacks =
        let w = reads-zero Gene threshold line text start g z in
        s ∙ ap (reading_of threshold start) (gene-lacking threshold line text start w.answered (λ all. lacks (w.whole_set ∙ all)))

-- a text is read as species text exactly when it is read as a gene tree with every species
pub species_exactly :
    (threshold : Threshold) (line text : List ℕ) (start : ℕ) (gene species : Reading) → Reads Gene threshold line text start gene → Reads Species threshold line text start species
    → (species.number ≡ 0) ↔ ((gene.number ≡ 0) × (largest gene.numbers ≡ whole (length (names line))))
unfolding Reads
species_exactly threshold line text start gene species g s = (read, read_back)
  where
    read : species.number ≡ 0 → (gene.number ≡ 0) × (largest gene.numbers ≡ whole (length (names line)))
    read z =
        let w = reads-zero Species threshold line text start s z in
        let k = species-complete threshold line text start w.answered in
        let same : gene ≡ species = g ∙ ap (reading_of threshold start) (k.0 ∙ sym w.answered) ∙ sym s in
        (ap (λ (r : Reading). r.number) same ∙ z, ap (λ (r : Reading). largest r.numbers) same ∙ w.species)

    read_back : (gene.number ≡ 0) × (largest gene.numbers ≡ whole (length (names line))) → species.number ≡ 0
    read_back k = ap (λ (r : Reading). r.number) ((kinds_compared threshold line text start g s).complete_alike k.0 k.1) ∙ k.0

-- "9 .. stays for species text" (#104): exactly where it is read as a gene tree that lacks a species
pub species-nine_exactly :
    (threshold : Threshold) (line text : List ℕ) (start : ℕ) (gene species : Reading) → Reads Gene threshold line text start gene → Reads Species threshold line text start species
    → (species.number ≡ 9) ↔ ((gene.number ≡ 0) × (largest gene.numbers ≡ whole (length (names line)) → ⊥))
species-nine_exactly threshold line text start gene species g s = (nine, λ k. ap (λ (r : Reading). r.number) (c.lacking_nine k.0 k.1))
  where
    c : Compared line start gene species
    c = kinds_compared threshold line text start g s

    nine : species.number ≡ 9 → (gene.number ≡ 0) × (largest gene.numbers ≡ whole (length (names line)) → ⊥)
    nine h = by (ℕ_discrete gene.number 0)
      where
        by : Dec (gene.number ≡ 0) → (gene.number ≡ 0) × (largest gene.numbers ≡ whole (length (names line)) → ⊥)
        by (yes z) = (z, λ all. let e = ap (λ (r : Reading). r.number) (c.complete_alike z all) in omega arith)
        by (no some) = absurd (read-gene-never-nine threshold line text start gene g (sym (ap (λ (r : Reading). r.number) (c.refused_alike some)) ∙ h))
