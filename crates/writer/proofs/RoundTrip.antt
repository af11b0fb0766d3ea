-- Reading what was written gives the record back, also where counts stand behind the nodes.
use Prim.Native.Nat.{ℕ, ◌-◌, ◌^◌, ◌≤◌, ◌<◌}
use mathlib.Core.Path.{◌≡◌, refl, sym, ap, ◌∙◌, subst}
use mathlib.Core.Bool.{false}
use mathlib.Core.List.{List, []}
use native.Mathlib.Omega.{arith}
use Rattle.std.specs.Prelude.{None}
use lib.ListN.{length, take, drop, replicate}
use lib.Seq.{take-append_seam}
use Rattle.clusters.specs.Sets.{whole}
use Rattle.trees.specs.Lists.{Among}
use Rattle.trees.specs.Tree.{Tree, Behind}
use Rattle.trees.specs.Records.{listed, largest, record_of, GeneValid}
use Rattle.trees.specs.Drawn.{bare, drawn}
use Rattle.trees.proofs.Drawing.{drawn_on, drawn_record}
use Rattle.trees.proofs.GeneRecords.{gene-small}
use Rattle.roster.specs.Roster.{names, faulty}
use Rattle.roster.specs.Judged.{species_most}
use Rattle.roster.specs.declared.Reply.{Reply}
use Rattle.tokens.specs.Supports.{Threshold}
use Rattle.tokens.specs.Answers.Answer.{parsed}
use Rattle.reader.specs.Promise.{reading_of, answer_to, Reads}
use Rattle.reader.specs.Accepted.{MayHave, Draws}
use Rattle.reader.specs.declared.Kind.{Kind}
use Rattle.reader.specs.declared.Kind.TheVariants.{Species, Gene}
use Rattle.reader.specs.declared.Reading.{Reading}
use Rattle.reader.proofs.Accepts.{derives-accepted}
use Rattle.reader.proofs.Replies.{reads-zero}
use Rattle.reader.proofs.ByKind.{kinds_compared}
use Rattle.texts.specs.Writing.{note, count_note, written_with, written, bearing, count_behind, counted}
use Rattle.texts.proofs.Lengths.{noted-bound, text_most_lem}
use Rattle.texts.proofs.NoteSums.{decimal-within}
use Rattle.texts.proofs.Bearing.{bearing-leaves, bearing-cluster, bearing-clusters}
use Rattle.writer.specs.Promise.{Writes}
use Rattle.writer.proofs.RosterNames.{GoodNames, good-names}
use Rattle.writer.proofs.Derives.{Says, says_nothing, says-count, derives-written, drawn-bare}
use Rattle.writer.proofs.Outcomes.{writes_zero}

-- ---- a valid gene record written, and read

module _ (line : List ℕ) {r : List ℕ} (good : faulty species_most line ≡ false) (v : GeneValid (length (names line)) r) where
  -- the tree that it draws
  abbrev tree : Tree
  tree = drawn (listed r) (largest r)

  named : GoodNames (names line)
  named = good-names line good

  -- as a tree of a kind that has its species
  module _ (kind : Kind) (species : MayHave kind (length (names line)) (largest r)) where
    -- with notes of at most thirteen bytes that say what stands behind the nodes
    module _ (notes : ℕ → List ℕ) (behind : ℕ → Behind) (short : (a : ℕ) → Among a (listed r) → length (notes a) ≤ 13)
        (says : (a : ℕ) → Among a (listed r) → Says (names line) notes behind a) where
      abbrev text : List ℕ
      text = written_with notes (names line) r

      -- the text draws the tree that the record draws, with that behind its nodes
      text-draws : Draws kind None line text 0 (bearing behind tree) []
      text-draws =
          let l = text_most_lem (names line) named.few v named.each in
          let m = noted-bound (names line) named.few v notes 13 short in
          let c = v.valid.form.counted in
          let o = drawn_on v.valid (gene-small named.few v) in
          record {
            good = good;
            short = omega arith;
            inside = omega arith;
            derives = derives-written (names line) named v notes behind says;
            once = rw (bearing-leaves behind tree) o.once;
            species = subst (λ (s : ℕ). MayHave kind (length (names line)) s) (sym (bearing-cluster behind tree ∙ o.all)) species;
          }

      -- reading it gives that tree
      text-read : answer_to kind None line text 0 ≡ parsed (bearing behind tree) [] (length text)
      text-read = derives-accepted kind None line text 0 text-draws ∙ ap (λ (q : ℕ). parsed (bearing behind tree) [] q) (omega arith)

      -- the reader's whole answer: number 0, the record, and the offset behind the text
      text-reads_back : {q : Reading} → Reads kind None line text 0 q → q ≡ record { number = 0; place = 0; next = length text; numbers = r }
      unfolding Reads
      text-reads_back h =
          h ∙ ap (reading_of None 0) text-read
          ∙ ap (λ (k : List ℕ). record { number = 0; place = 0; next = length text; numbers = k })
          (ap record_of (bearing-clusters behind tree) ∙ drawn_record v.valid (gene-small named.few v))

    -- without notes: for every valid record, reading what the writer wrote gives that record
    pub round_trip : answer_to kind None line (written (names line) r) 0 ≡ parsed tree [] (length (written (names line) r))
    unfolding written
    round_trip =
        text-read note (λ a. bare) (λ a m. omega arith) (λ a m. says_nothing (names line) a)
        ∙ ap (λ (t : Tree). parsed t [] (length (written_with note (names line) r))) (drawn-bare (names line) named v)

    pub reads_back : {q : Reading} → Reads kind None line (written (names line) r) 0 q
        → q ≡ record { number = 0; place = 0; next = length (written (names line) r); numbers = r }
    unfolding written
    reads_back h = text-reads_back note (λ a. bare) (λ a m. omega arith) (λ a m. says_nothing (names line) a) h

    -- with counts of at most twelve digits (#114): reading gives the tree with each count behind its node, and the same record
    module _ (counts : ℕ → ℕ) (small : (a : ℕ) → Among a (listed r) → counts a < 10 ^ 12) where
      count-short : (a : ℕ) → Among a (listed r) → length (count_note counts a) ≤ 13
      count-short a m = let s = small a m in let d = decimal-within 11 (counts a) (omega arith) s in omega arith

      pub counted_round_trip :
          answer_to kind None line (written_with (count_note counts) (names line) r) 0
          ≡ parsed (counted counts tree) [] (length (written_with (count_note counts) (names line) r))
      counted_round_trip = text-read (count_note counts) (count_behind counts) count-short (λ a m. says-count (names line) counts a (small a m))

      pub counted-reads_back : {q : Reading} → Reads kind None line (written_with (count_note counts) (names line) r) 0 q
          → q ≡ record { number = 0; place = 0; next = length (written_with (count_note counts) (names line) r); numbers = r }
      counted-reads_back h = text-reads_back (count_note counts) (count_behind counts) count-short (λ a m. says-count (names line) counts a (small a m)) h

  -- as a gene tree: whatever species it has
  pub reads_back_gene : {q : Reading} → Reads Gene None line (written (names line) r) 0 q
      → q ≡ record { number = 0; place = 0; next = length (written (names line) r); numbers = r }
  reads_back_gene h = reads_back Gene v.of_roster h

  -- as species text, where it lacks a species: 9 at its `;`, the last byte
  pub reads_back_lacking : (largest r ≡ whole (length (names line)) → ⊥) → {q : Reading} → Reads Species None line (written (names line) r) 0 q
      → q ≡ record { number = 9; place = length (written (names line) r) - 1; next = 0; numbers = replicate 32 0 }
  unfolding Reads
  reads_back_lacking lacks h =
      let gene = reading_of None 0 (answer_to Gene None line (written (names line) r) 0) in
      let back = reads_back_gene {q = gene} refl in
      (kinds_compared None line (written (names line) r) 0 {gene = gene} refl h).lacking_nine (ap (λ (q : Reading). q.number) back)
      (λ all. lacks (sym (ap (λ (q : Reading). largest q.numbers) back) ∙ all))
      ∙ ap (λ (q : Reading). record { number = 9; place = q.next - 1; next = 0; numbers = replicate 32 0 }) back

-- ---- over the calls

-- the bytes that were written are the text
text_there : {line r out : List ℕ} {p : Reply} {after : List ℕ} → Writes line r out p after → p.number ≡ 0 → take p.value after ≡ written (names line) r
text_there {line} {r} {out} w z =
    let o = writes_zero w z in
    rw (o.value, o.bytes) (take-append_seam (written (names line) r) (drop (length (written (names line) r)) out))

-- what was written is read back, as a tree of a kind that has its species: the record, and the length that the writer gave
pub write_read :
    (kind : Kind) {line r out : List ℕ} {p : Reply} {after : List ℕ} {q : Reading}
    → Writes line r out p after → p.number ≡ 0 → MayHave kind (length (names line)) (largest r) → Reads kind None line (take p.value after) 0 q
    → q ≡ record { number = 0; place = 0; next = p.value; numbers = r }
write_read kind {line} {r} {out} {p} {after} {q} w z species h =
    let o = writes_zero w z in
    reads_back line o.good o.valid kind species (rw (text_there w z) at h) ∙ rw o.value

-- as a gene tree: always
pub write_read_gene :
    {line r out : List ℕ} {p : Reply} {after : List ℕ} {q : Reading}
    → Writes line r out p after → p.number ≡ 0 → Reads Gene None line (take p.value after) 0 q
    → q ≡ record { number = 0; place = 0; next = p.value; numbers = r }
write_read_gene w z h = let v = (writes_zero w z).valid in write_read Gene w z v.of_roster h

-- as species text, where it lacks a species: 9 at its `;`
pub write_read_lacking :
    {line r out : List ℕ} {p : Reply} {after : List ℕ} {q : Reading}
    → Writes line r out p after → p.number ≡ 0 → (largest r ≡ whole (length (names line)) → ⊥) → Reads Species None line (take p.value after) 0 q
    → q ≡ record { number = 9; place = p.value - 1; next = 0; numbers = replicate 32 0 }
write_read_lacking w z lacks h =
    let o = writes_zero w z in
    reads_back_lacking _ o.good o.valid lacks (rw (text_there w z) at h) ∙ rw o.value

-- a record that was read, by whatever threshold, written and read again as the same kind is the same record
pub read_write_read :
    (kind : Kind) (threshold : Threshold) (line text : List ℕ) (start : ℕ) (q : Reading) {q' : Reading} → Reads kind threshold line text start q → q.number ≡ 0
    → Reads kind None line (written (names line) q.numbers) 0 q'
    → q' ≡ record { number = 0; place = 0; next = length (written (names line) q.numbers); numbers = q.numbers }
read_write_read kind threshold line text start q h z h' =
    let r = reads-zero kind threshold line text start h z in
    reads_back line r.good r.gene kind r.species h'

-- a text in the one form is written as itself
pub one_form :
    (line : List ℕ) {r : List ℕ} (q : Reading) → faulty species_most line ≡ false → GeneValid (length (names line)) r
    → Reads Gene None line (written (names line) r) 0 q → written (names line) q.numbers ≡ written (names line) r
one_form line q good v h = ap (λ (q : Reading). written (names line) q.numbers) (reads_back_gene line good v h)
