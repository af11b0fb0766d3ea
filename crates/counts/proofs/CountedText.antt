-- The text that `write_counts` writes: how long it is, and that it reads back.
use Prim.Native.Nat.{ℕ, ◌≤◌}
use mathlib.Core.Path.{◌≡◌, refl, sym, ap, ◌∙◌}
use mathlib.Core.Bool.{false}
use mathlib.Core.List.{List, []}
use native.Mathlib.Omega.{arith}
use lib.ListN.{length, take}
use Rattle.clusters.specs.Sets.{whole}
use Rattle.trees.specs.Tree.{Tree}
use Rattle.trees.specs.Records.{listed, largest, GeneValid}
use Rattle.trees.specs.Drawn.{drawn}
use Rattle.trees.proofs.GeneRecords.{gene_of_species, largest_of_valid}
use Rattle.roster.specs.Roster.{names, faulty}
use Rattle.roster.specs.Judged.{species_most, done}
use Rattle.roster.specs.declared.Reply.{Reply}
use Rattle.tokens.specs.Answers.Answer.{parsed}
use Rattle.std.proofs.Common.{None}
use Rattle.reader.specs.Promise.{answer_to, Reads}
use Rattle.reader.specs.declared.Kind.TheVariants.{Species}
use Rattle.reader.specs.declared.Reading.{Reading}
use Rattle.texts.specs.Writing.{counted}
use Rattle.texts.proofs.Lengths.{counted_most}
use Rattle.weights.specs.declared.Rooting.TheVariants.{Rooted}
use Rattle.weights.proofs.Sums.{valid-countable}
use Rattle.writer.specs.Promise.{Writes}
use Rattle.writer.proofs.RosterNames.{GoodNames, good-names}
use Rattle.writer.proofs.Outcomes.{puts_done}
use Rattle.writer.proofs.RoundTrip.{counted_round_trip, counted-reads_back, write_read}
use Rattle.counts.specs.Promise.{weight_in, counts_text, WritesCounts}
use Rattle.counts.proofs.Weighing.{weight-small}
use Rattle.counts.proofs.TreesJudging.{TreesInOrder}
use Rattle.counts.proofs.Answered.{writes_counts_once, counts-put, WroteCounts, counts_zero, counts_there}

-- ---- gene trees and a species record that are in order

module _ (line : List ℕ) {genes : List ℕ} {count : ℕ} {species : List ℕ} (good : faulty species_most line ≡ false)
    (o : TreesInOrder (length (names line)) genes count species) where
  abbrev text : List ℕ
  text = counts_text (names line) genes count species

  -- the tree that the record draws
  abbrev tree : Tree
  tree = drawn (listed species) (largest species)

  named : GoodNames (names line)
  named = good-names line good

  pub in_order_gene : GeneValid (length (names line)) species
  in_order_gene = gene_of_species named.some o.tree

  every-species : largest species ≡ whole (length (names line))
  every-species = largest_of_valid o.tree

  -- no count has more than five digits
  pub in_order_small : (a : ℕ) → weight_in genes count a ≤ 61440
  in_order_small a = weight-small Rooted genes count a o.trees.shaped.few_genes (valid-countable named.few o.trees.valid)

  -- "At most 744 bytes"
  pub text-short : length text ≤ 744
  unfolding counts_text
  text-short = counted_most (names line) named.few in_order_gene named.each (weight_in genes count) (λ a m. let s = in_order_small a in omega arith)

  -- so with 744 bytes there is no refusal
  pub room-enough : {out : List ℕ} {p : Reply} {after : List ℕ} → 744 ≤ length out → WritesCounts line genes count species out p after → p ≡ done (length text)
  room-enough {out} long w =
      let roomy = text-short in
      (writes_counts_once w (counts-put line genes count species out good o (puts_done text out (omega arith) refl refl))).0

  -- what is written reads back: the tree that the record draws, with the count of its cluster behind each node
  pub text-read : answer_to Species None line text 0 ≡ parsed (counted (weight_in genes count) tree) [] (length text)
  unfolding counts_text
  text-read =
      counted_round_trip line good in_order_gene Species every-species (weight_in genes count) (λ a m. let s = in_order_small a in omega arith)

  -- which is read to the same record
  pub text-reads_back : {q : Reading} → Reads Species None line text 0 q → q ≡ record { number = 0; place = 0; next = length text; numbers = species }
  unfolding counts_text
  text-reads_back h =
      counted-reads_back line good in_order_gene Species every-species (weight_in genes count) (λ a m. let s = in_order_small a in omega arith) h

-- ---- over the calls

module _ {line genes : List ℕ} {count : ℕ} {species out : List ℕ} {p : Reply} {after : List ℕ} (w : WritesCounts line genes count species out p after)
    (z : p.number ≡ 0) where
  wrote : WroteCounts line genes count species out p after
  wrote = counts_zero w z

  -- "At most 744 bytes"
  pub written_most : p.value ≤ 744
  written_most = let s = text-short line wrote.good wrote.in_order in let v = wrote.stands.value in omega arith

  -- what was written is read back: the record, and the length that was answered
  pub write_counts_read :
      {q : Reading} → Reads Species None line (take p.value after) 0 q → q ≡ record { number = 0; place = 0; next = p.value; numbers = species }
  write_counts_read h = text-reads_back line wrote.good wrote.in_order (rw (counts_there wrote) at h) ∙ rw wrote.stands.value

  -- what the writer writes of the record, without counts, is read to the same record
  pub with_or_without :
      {out' : List ℕ} {p' : Reply} {after' : List ℕ} (q q' : Reading) → Writes line species out' p' after' → p'.number ≡ 0
      → Reads Species None line (take p.value after) 0 q → Reads Species None line (take p'.value after') 0 q'
      → (q.number ≡ q'.number) × (q.numbers ≡ q'.numbers)
  with_or_without q q' w' z' h h' =
      let a = write_counts_read h in
      let b = write_read Species w' z' (every-species line wrote.good wrote.in_order) h' in (
        ap (λ (q : Reading). q.number) a ∙ sym (ap (λ (q : Reading). q.number) b),
        ap (λ (q : Reading). q.numbers) a ∙ sym (ap (λ (q : Reading). q.numbers) b),
      )
