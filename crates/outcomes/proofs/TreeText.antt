-- The tree's text in the output: what the writer leaves in the part that is lent to it.
use Prim.Native.Nat.{ℕ, ◌+◌, ◌-◌, ◌≤◌}
use mathlib.Core.Path.{◌≡◌, refl, ap}
use mathlib.Core.List.{List, ◌++◌, append_assoc, append-nil}
use native.Mathlib.Omega.{arith}
use lib.ListN.{length, take, drop, length-drop, drop_of_length-le}
use lib.Seq.{sets, sets-eq, take_all, drop-drop}
use Rattle.trees.specs.Records.{SpeciesValid, GeneValid}
use Rattle.trees.proofs.GeneRecords.{gene_of_species, gene_decides}
use Rattle.roster.specs.Roster.{names}
use Rattle.roster.specs.declared.Reply.{Reply}
use Rattle.printing.specs.Texts.{report_bytes}
use Rattle.printing.specs.Work.{Put}
use Rattle.printing.proofs.Printing.{Room}
use Rattle.texts.specs.Writing.{written}
use Rattle.writer.specs.Promise.{Writes}
use Rattle.writer.proofs.RosterNames.{good-names}
use Rattle.texts.proofs.Lengths.{text_most_lem}
use Rattle.writer.proofs.Outcomes.{writes_done, writes_once}
use Rattle.outcomes.specs.Work.{Roster}

-- all bytes of a list from a place on
part-behind : (n at : ℕ) (l : List ℕ) → length l ≡ n → take (n - at) (drop at l) ≡ drop at l
part-behind n at l e = take_all (n - at) (drop at l) (omega (arith, length-drop at l))

-- a text that stands at the front of the part stands in the whole behind the first `at`
put-part :
    (n at : ℕ) (l w : List ℕ) {after : List ℕ} → length l ≡ n → at + length w ≤ n → after ≡ w ++ drop (length w) (drop at l)
    → take at l ++ (after ++ drop (n - at) (drop at l)) ≡ sets l at w
put-part n at l w {after} e h stored =
    let none : length (drop at l) ≤ n - at = omega (arith, length-drop at l) in
    rw (drop_of_length-le (drop at l) none, append-nil, stored, drop-drop (length w) at l, sets-eq w l at (omega arith), append_assoc)

module _ {line r : List ℕ} {n : ℕ} (good : Roster line n) (tree : SpeciesValid n r) where
  -- a species record is a gene record with every species
  on_names : GeneValid (length (names line)) r
  on_names = gene_of_species (good-names line good.good).some (rw good.named at tree)

  -- "Its bound becomes 558 bytes" (#103)
  pub tree-length : length (written (names line) r) ≤ 558
  tree-length = let g = good-names line good.good in text_most_lem (names line) g.few on_names g.each

  module _ {l after : List ℕ} {at : ℕ} {reply : Reply} (room : Room 106 at l) (w : Writes line r (take (report_bytes - at) (drop at l)) reply after) where
    outcome : (reply.value ≡ length (written (names line) r)) × (after ≡ written (names line) r ++ drop (length (written (names line) r)) (drop at l))
    outcome =
        let part = part-behind report_bytes at l room.bytes in
        let g = good-names line good.good in
        let test = (gene_decides r g.few).told on_names in
        let fits : length (written (names line) r) ≤ length (drop at l) = omega (arith, tree-length, length-drop at l, room.bytes, room.used) in
        let w' : Writes line r (drop at l) reply after = rw part at w in
        let both = writes_once w' (writes_done line r (drop at l) good.good test fits refl refl) in
        (ap (λ (a : Reply). a.value) both.0, both.1)

    pub tree-value : reply.value ≡ length (written (names line) r)
    tree-value = outcome.0

    pub tree-put : Put l at (written (names line) r) (at + reply.value) (take at l ++ (after ++ drop (report_bytes - at) (drop at l)))
    tree-put = record {
      ended = ap (λ (k : ℕ). at + k) outcome.0;
      stored = put-part report_bytes at l (written (names line) r) room.bytes (omega (arith, tree-length, room.used)) outcome.1;
    }
